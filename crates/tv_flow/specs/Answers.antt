-- What an answer of reading says of the form.
use Rattle.std.specs.Prelude.{◌≡◌, Result, Ok, Err}
use Rattle.tv_flow.specs.declared.faults.FormFault.{FormFault}
use Rattle.tv_flow.specs.declared.faults.FormFault.TheVariants.{Form, NoMemory}
use Rattle.tv_flow.specs.Complaints.{Complaint}

-- a fault says its complaint; want of memory says nothing
abbrev pub said : FormFault → Complaint → Complaint
said (Form k p) c = record { kind = k; path = p }
said NoMemory c = c

abbrev pub fault_result : {A : Type 0} → FormFault → Result A Complaint → Result A Complaint
fault_result (Form k p) r = Err (record { kind = k; path = p })
fault_result NoMemory r = r

-- a thing that was read is what the form gives, and a fault is its complaint
abbrev pub IsForm : {A B : Type 0} → (A → B) → Result A FormFault → Result B Complaint → Type 0
IsForm view (Ok x) r = r ≡ Ok (view x)
IsForm view (Err f) r = r ≡ fault_result f r
