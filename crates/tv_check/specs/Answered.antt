-- What `check` answers, by the first complaint about a document.
use Rattle.std.specs.Prelude.{◌≡◌, Option, Some, None, Result, Ok, Err}
use Rattle.tv_flow.specs.Flows.{Document}
use Rattle.tv_naming.specs.Faulty.{CheckComplaint}
use Rattle.tv_naming.specs.FaultViews.{fault_view}
use Rattle.tv_check.specs.RunViews.{run_view}
use Rattle.tv_check.specs.declared.run.CheckedRun.{CheckedRun}
use Rattle.tv_naming.specs.declared.faults.CheckRefused.{CheckRefused}
use Rattle.tv_naming.specs.declared.faults.CheckRefused.TheVariants.{Check, NoMemory}

-- the document where there is no complaint, else the complaint; or want of memory
abbrev pub IsCheckOf : Option CheckComplaint → Document → Result CheckedRun CheckRefused → Type 0
IsCheckOf told d (Ok run) = (told ≡ None) × (run_view run ≡ d)
IsCheckOf told d (Err (Check f)) = told ≡ Some (fault_view f)
IsCheckOf told d (Err NoMemory) = Unit {0}
