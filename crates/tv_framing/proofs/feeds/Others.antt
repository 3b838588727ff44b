-- An event changes nothing of what is counted of other steps.
use Rattle.std.specs.Prelude.{◌≡◌, refl, ℕ, zero, suc, ◌==◌, ◌&&◌, ◌||◌, Bool, false, if◌then◌else◌, ◌∷◌, Some}
use Rattle.std.specs.Option.{option_map_or}
use Rattle.std.proofs.Common.{ap, ap₂, ◌∙◌}
use Rattle.tv_value.specs.Nested.{Place}
use Rattle.tv_value.specs.Orders.{same_name}
use Rattle.tv_value.specs.Values.{Name}
use Rattle.tv_model.specs.instance.Counting.{count_whole, whole_by}
use Rattle.tv_model.specs.instance.Events as events
use Rattle.tv_model.specs.instance.Events.{Event, Events, closed_with, event_step, fault_set, gave, has_fault, has_result, took}

result-same : (e : Event) (es : Events) (s : Name) → same_name s (event_step e) ≡ false → (q : Place) → has_result (e ∷ es) s q ≡ has_result es s q
result-same (gave t r vs) es s o q = ap (λ b. (b && same_name q r) || has_result es s q) o
result-same (events.closed t r n) es s o q = refl
result-same (fault_set t r d) es s o q = refl
result-same (took t r) es s o q = refl

fault-same : (e : Event) (es : Events) (s : Name) → same_name s (event_step e) ≡ false → (q : Place) → has_fault (e ∷ es) s q ≡ has_fault es s q
fault-same (gave t r vs) es s o q = refl
fault-same (events.closed t r n) es s o q = refl
fault-same (fault_set t r d) es s o q = ap (λ b. (b && same_name q r) || has_fault es s q) o
fault-same (took t r) es s o q = refl

closed-same : (e : Event) (es : Events) (s : Name) → same_name s (event_step e) ≡ false → (q : Place) → closed_with (e ∷ es) s q ≡ closed_with es s q
closed-same (gave t r vs) es s o q = refl
closed-same (events.closed t r n) es s o q = ap (λ b. if b && same_name q r then Some n else closed_with es s q) o
closed-same (fault_set t r d) es s o q = refl
closed-same (took t r) es s o q = refl

pub whole-same : (e : Event) (es : Events) (s : Name) → same_name s (event_step e) ≡ false → (d : ℕ) (q : Place) → whole_by (e ∷ es) s d q ≡ whole_by es s d q
whole-same e es s o zero q = result-same e es s o q
whole-same e es s o (suc d) q =
    ap₂ (λ a c. a || option_map_or (λ n. count_whole (whole_by (e ∷ es) s d) q 0 n == n) c false) (fault-same e es s o q) (closed-same e es s o q)
    ∙ ap (λ (w : Place → Bool). has_fault es s q || option_map_or (λ n. count_whole w q 0 n == n) (closed_with es s q) false) (λ i r. whole-same e es s o d r i)
