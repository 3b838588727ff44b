-- What is told of values and along ways, as the code and as the theory has it.
use Rattle.std.specs.Prelude.{◌≡◌, refl, ℕ, zero, suc, ◌+◌, ◌-◌, ◌≤◌, Bool, true, false, nat_le, nat_lt, if◌then◌else◌, List, [], ◌∷◌, ◌++◌, length, take}
use Rattle.std.proofs.Common.{arith, ap, sym, ◌∙◌, append_assoc, append-nil}
use Rattle.std.proofs.lemmas.List.{map-append}
use Rattle.tv_value.specs.Nested.{Place, Trees, count, leaf, list, no_trees, tree}
use Rattle.tv_value.specs.Values.{Name, Scalar, Value, fault, holds_fault, text}
use Rattle.tv_value.specs.Orders.{same_name}
use Rattle.tv_flow.specs.Flows.{Feed, Link, constant, input, link, merge, output}
use Rattle.tv_matching.specs.Items.{if_so}
use Rattle.tv_matching.specs.Told.{arrival, close, telling, tellings}
use Rattle.tv_model.specs.instance.Events as events
use Rattle.tv_model.specs.instance.Events.{Event, event_place, event_step, fault_set, is_telling, took}
use Rattle.tv_framing.specs.PortTellings as framing
use Rattle.tv_framing.specs.PortTellings.{link_told, links_told, port_told, way_told}
use Rattle.tv_telling.specs.ValueTellings.{bound_told, value_told, values_told}
use Rattle.tv_telling.specs.WayTellings.{told_on_way, told_there}
use Rattle.tv_framing.specs.ways.Stated.{IsFrom, PortsAreToldByWays, WaysAreToldAlike, happening_of, link_by_ways, links_by_ways, port_by_ways}

-- what is said of faults in it isn't seen
bound-alike : (p : Name) (q : Place) (b : Bool) → telling (arrival p q false) ≡ telling (bound_told p q b)
bound-alike p q true = refl
bound-alike p q false = refl

mutual
  pub values-alike : (p : Name) (k : ℕ) (q : Place) (v : Value) → tellings (framing.value_told p k q v) ≡ tellings (value_told p k q v)
  values-alike p zero q v = ap (λ t. t ∷ []) (bound-alike p q (holds_fault v))
  values-alike p (suc k) q (leaf n (text t)) = refl
  values-alike p (suc k) q (leaf n (fault e)) = refl
  values-alike p (suc k) q (list n ts) = ap (λ l. telling (close p q (count ts)) ∷ l) (items-alike p k q 0 ts)

  items-alike : (p : Name) (k : ℕ) (q : Place) (i : ℕ) (ts : Trees (Unit {0}) Scalar) → tellings (framing.values_told p k q i ts) ≡ tellings (values_told p k q i ts)
  items-alike p k q i no_trees = refl
  items-alike p k q i (tree t ts) =
      map-append telling (framing.value_told p k (q ++ i ∷ []) t) (framing.values_told p k q (suc i) ts)
      ∙ (λ j. values-alike p k (q ++ i ∷ []) t j ++ items-alike p k q (suc i) ts j)
      ∙ sym (map-append telling (value_told p k (q ++ i ∷ []) t) (values_told p k q (suc i) ts))

module _ (newly : Place → Bool) (p : Name) (from faults : ℕ) (e : Event) (w : Value) (tells : is_telling e ≡ true) where
  -- above the end of the walk
  there-alike : (k : ℕ) (q x : Place) → tellings (way_told newly p (suc k) q x [] e w) ≡ tellings (told_there p (suc k) q (happening_of e w))
  there-alike k q x = by e tells
    where
      by : (e : Event) → is_telling e ≡ true → tellings (way_told newly p (suc k) q x [] e w) ≡ tellings (told_there p (suc k) q (happening_of e w))
      by (events.gave s r vs) h = values-alike p (suc k) q w
      by (events.closed s r n) h = refl
      by (fault_set s r d) h = refl
      by (took s r) h = absurd (cc)

  less : (k n : ℕ) → nat_le (suc k) (suc n) ≡ nat_le k n
  less k n = grind arith

  none-less : (k : ℕ) → nat_le (suc k) 0 ≡ false
  none-less k = grind arith

  all-more : (n : ℕ) → nat_le 0 n ≡ true
  all-more n = grind arith

  -- x is the way so far, with n indices, and r leads on; the walk ends K levels below the top
  on-way : (k : ℕ) (q x r : Place) (n m : ℕ) → m ≡ n + k → ((j : ℕ) → j ≤ length r → newly (x ++ take j r) ≡ nat_le from (n + j))
      → tellings (way_told newly p k q x r e w)
      ≡ tellings (if nat_le k (length r) then if_so (nat_le from m) (bound_told p (q ++ take k r) (nat_lt m faults)) else told_there p (k - length r) (q ++ r) (happening_of e w))
  on-way zero q x r n m c h =
      ap (λ b. tellings (if_so b (arrival p q false))) (ap newly (sym (append-nil x)) ∙ h 0 (omega arith) ∙ ap (nat_le from) (sym c))
      ∙ one (nat_le from m)
      ∙ ap (λ l. tellings (if_so (nat_le from m) (bound_told p l (nat_lt m faults)))) (sym (append-nil q))
      ∙ ap (λ b. tellings (if b then if_so (nat_le from m) (bound_told p (q ++ []) (nat_lt m faults)) else told_there p (0 - length r) (q ++ r) (happening_of e w))) (sym (all-more (length r)))
    where
      one : (b : Bool) → tellings (if_so b (arrival p q false)) ≡ tellings (if_so b (bound_told p q (nat_lt m faults)))
      one true = ap (λ t. t ∷ []) (bound-alike p q (nat_lt m faults))
      one false = refl
  on-way (suc k) q x [] n m c h =
      there-alike k q x
      ∙ (λ i. tellings (told_there p (all-left i) (sym (append-nil q) i) (happening_of e w)))
      ∙ ap (λ b. tellings (if b then if_so (nat_le from m) (bound_told p (q ++ take (suc k) []) (nat_lt m faults)) else told_there p (suc k - 0) (q ++ []) (happening_of e w))) (sym (none-less k))
    where
      all-left : suc k ≡ suc k - 0
      all-left = omega arith
  on-way (suc k) q x (i ∷ r) n m c h =
      on-way k (q ++ i ∷ []) (x ++ i ∷ []) r (suc n) m (c ∙ plus-suc n k) (λ j l. ap newly (append_assoc x (i ∷ []) (take j r)) ∙ h (suc j) (omega (arith, l)) ∙ ap (nat_le from) (plus-suc n j))
      ∙ (λ z. tellings (if sym (less k (length r)) z then if_so (nat_le from m) (bound_told p (append_assoc q (i ∷ []) (take k r) z) (nat_lt m faults)) else told_there p (fewer z) (append_assoc q (i ∷ []) r z) (happening_of e w)))
    where
      plus-suc : (a b : ℕ) → a + suc b ≡ suc a + b
      plus-suc a b = omega arith

      fewer : k - length r ≡ suc k - suc (length r)
      fewer = omega arith

pub ways-alike : WaysAreToldAlike
ways-alike newly p k from faults q e w tells h =
    on-way newly p from faults e w tells k q [] (event_place e) 0 k (zero-plus k) (λ j l. h j l ∙ ap (nat_le from) (zero-plus j))
  where
    zero-plus : (n : ℕ) → n ≡ 0 + n
    zero-plus n = omega arith

module _ (newly : Place → Bool) (e : Event) (given_at : Name → Value) (faults : Name → ℕ) (p : Name) (from : ℕ) (tells : is_telling e ≡ true) (h : IsFrom newly (event_place e) from) where
  link-by_ways : (k : ℕ) (q : Place) (l : Link) → tellings (link_told newly e given_at p k q l) ≡ tellings (link_by_ways e given_at faults p from k q l)
  link-by_ways k q (input x) = refl
  link-by_ways k q (output s o) = by (same_name s (event_step e))
    where
      by : (b : Bool) → tellings (if b then way_told newly p k q [] (event_place e) e (given_at o) else []) ≡ tellings (if b then told_on_way p k q from (faults o) (event_place e) (happening_of e (given_at o)) else [])
      by true = ways-alike newly p k from (faults o) q e (given_at o) tells h
      by false = refl

  links-by_ways : (k i : ℕ) (ls : List Link) → tellings (links_told newly e given_at p k i ls) ≡ tellings (links_by_ways e given_at faults p from k i ls)
  links-by_ways k i [] = refl
  links-by_ways k i (l ∷ ls) =
      map-append telling (link_told newly e given_at p k (i ∷ []) l) (links_told newly e given_at p k (suc i) ls)
      ∙ (λ j. link-by_ways k (i ∷ []) l j ++ links-by_ways k (suc i) ls j)
      ∙ sym (map-append telling (link_by_ways e given_at faults p from k (i ∷ []) l) (links_by_ways e given_at faults p from k (suc i) ls))

  whole-alike : (b faulty : Bool) → tellings (if_so b (arrival p [] false)) ≡ tellings (if_so b (bound_told p [] faulty))
  whole-alike true faulty = ap (λ t. t ∷ []) (bound-alike p [] faulty)
  whole-alike false faulty = refl

  pub port-by_ways : (whole_now faulty : Bool) (k : ℕ) (f : Feed) → tellings (port_told newly e given_at p whole_now k f) ≡ tellings (port_by_ways e given_at faults p from whole_now faulty k f)
  port-by_ways b faulty zero f = whole-alike b faulty
  port-by_ways b faulty (suc k) (link l) = link-by_ways (suc k) [] l
  port-by_ways b faulty (suc k) (merge ls) = links-by_ways k 0 ls
  port-by_ways b faulty (suc k) (constant v) = refl

pub ports-by_ways : PortsAreToldByWays
ports-by_ways newly e given_at faults p from tells h b faulty k f = port-by_ways newly e given_at faults p from tells h b faulty k f
