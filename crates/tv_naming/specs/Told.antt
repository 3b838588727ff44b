-- What an answer says of a list of complaints: it stops at the first of them, and goes on where there is none.
use Rattle.std.specs.Prelude.{◌≡◌, List, [], Some, Result, Ok, Err}
use Rattle.tv_naming.specs.Faulty.{CheckComplaint, first_of}
use Rattle.tv_naming.specs.FaultViews.{fault_view}
use Rattle.tv_naming.specs.declared.faults.CheckRefused.{CheckRefused}
use Rattle.tv_naming.specs.declared.faults.CheckRefused.TheVariants.{Check, NoMemory}

-- the first of these, or want of memory
abbrev pub StopsAt : List CheckComplaint → CheckRefused → Type 0
StopsAt cs (Check f) = first_of cs ≡ Some (fault_view f)
StopsAt cs NoMemory = Unit {0}

abbrev pub IsToldOf : {A : Type 0} → List CheckComplaint → Result A CheckRefused → Type 0
IsToldOf cs (Ok x) = cs ≡ []
IsToldOf cs (Err e) = StopsAt cs e
