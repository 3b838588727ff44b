-- Where there is room, and a change can be, it is not refused.
use Rattle.std.proofs.Common.{◌≤◌, ◌<◌, ℕ, List, length, subst, arith}
use Rattle.tv_parts.specs.Partials.{Partial, part_count}
use Rattle.tv_parts.specs.Changes.{CanArrive, CanClose, MayClose}
use Rattle.tv_parts.proofs.Changes.{arrive-there, close-there}
use Rattle.tv_stream.specs.declared.refusals.ArriveRefused.{ArriveRefused}
use Rattle.tv_stream.specs.declared.refusals.ArriveRefused.TheVariants.{NoSuchPlace, Occupied, NoMemory}
use Rattle.tv_stream.specs.declared.refusals.CloseRefused.{CloseRefused}
use Rattle.tv_stream.specs.declared.refusals.CloseRefused.TheVariants.{NoSuchPlace as NoPlaceToClose, AlreadyClosed, WrongLength, NoMemory as NoMemoryToClose}
use Rattle.tv_stream.specs.Trees.{Marked}
use Rattle.tv_stream.specs.Answers.{RefusesArrival, RefusesClose}

never : (a b : ℕ) → a < b → b ≤ a → ⊥
never a b h k = omega arith

pub arrives : {T : Type 0} (spare depth : ℕ) (q : List ℕ) (x : T) (r : Partial (Marked T)) (e : ArriveRefused T) → length q ≤ depth → CanArrive q r → depth < spare → RefusesArrival spare depth q x r e → ⊥
arrives spare depth q x r (NoSuchPlace y) short can room h = h.1 (record { short = short; there = (arrive-there q r can).0 })
arrives spare depth q x r (Occupied y) short can room h = h.2 (arrive-there q r can).1
arrives spare depth q x r (NoMemory y) short can room h = never depth spare room h.3

pub closes : {T : Type 0} (spare depth : ℕ) (q : List ℕ) (n : ℕ) (r : Partial (Marked T)) (e : CloseRefused) → length q < depth → CanClose q n r → depth < spare → RefusesClose spare depth q n r e → ⊥
closes spare depth q n r NoPlaceToClose short can room h = h (record { short = short; there = (close-there q n r can).0; no_item = λ i. subst (MayClose n) i.1 (close-there q n r can).1 })
closes spare depth q n r AlreadyClosed short can room h = subst (MayClose n) h.1.1 (close-there q n r can).1
closes spare depth q n r (WrongLength asked needed) short can room h = never n (part_count h.1.0) (subst (λ m. n < m) h.1.2 h.3) (subst (MayClose n) h.1.1 (close-there q n r can).1)
closes spare depth q n r NoMemoryToClose short can room h = never depth spare room h.2
