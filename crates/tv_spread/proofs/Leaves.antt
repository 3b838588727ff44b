-- Tellings that are made of leaves name leaves of the strategy that they are told.
use Rattle.std.specs.Prelude.{◌≡◌, ℕ, zero, suc, ◌-◌, ◌<◌, Bool, true, false, if◌then◌else◌, nat_le, nat_lt, List, [], ◌∷◌, ◌++◌, flat_map, get_or, length, map, take, refl}
use Rattle.std.proofs.Common.{arith, sym, subst, ◌∙◌}
use Rattle.tv_lemmas.specs.Members.{Each}
use Rattle.tv_lemmas.proofs.Numbers.{none-below}
use Rattle.tv_value.specs.Nested.{Tree, leaf, list, Trees, no_trees, tree, Place}
use Rattle.tv_value.specs.Strategies.{Strategy, Strategies, cross, port, strategy, no_strategies}
use Rattle.tv_value.specs.Values.{Name, Scalar, fault, holds_fault, text}
use Rattle.tv_strategy.proofs.Sources.{each-append}
use Rattle.tv_strategy.proofs.Each.{each-weaken}
use Rattle.tv_matching.specs.Items.{if_so}
use Rattle.tv_matching.specs.Matchers.{leaf_name}
use Rattle.tv_matching.specs.Told.{Told, told_leaf}
use Rattle.tv_matching.proofs.Lists.{each-map}
use Rattle.tv_matching.proofs.Onces.{each-flat}
use Rattle.tv_match.specs.declared.told.Told as code
use Rattle.tv_match.specs.Seen.{leaf_of, told_view}
use Rattle.tv_match.proofs.Seeing.{each-of-map}
use Rattle.tv_telling.specs.declared.ways.Event.{Event}
use Rattle.tv_telling.specs.declared.ways.Way.{Way}
use Rattle.tv_telling.specs.declared.ways.Whole.{Whole}
use Rattle.tv_telling.specs.ValueTellings.{bound_told, value_told, values_told}
use Rattle.tv_telling.specs.Views.{AreTellings, happening, way_tellings, whole_telling}
use Rattle.tv_telling.specs.WayTellings.{Happening, closed, gave, passed, place_of_item, told_on_way, told_there}
use Rattle.tv_spread.specs.Arounds.{tellings_by}

-- ---- a strategy of so many leaves, each of this name

abbrev one : Name
one = 0 ∷ []

abbrev many : ℕ → Strategies
many zero = no_strategies
many (suc n) = strategy (port one) (many n)

named : (n i : ℕ) → i < n → leaf_name (cross (many n)) i ≡ one
named zero i l = none-below i l
named (suc n) zero l = refl
named (suc n) (suc i) l = named n i (omega arith)

unnamed : (n i : ℕ) → leaf_name (cross (many n)) i ≡ one → i < n
unnamed zero i e = absurd (cc)
unnamed (suc n) zero e = omega arith
unnamed (suc n) (suc i) e = let l = unnamed n i e in omega (arith, l)

-- ---- what is told of one leaf

abbrev IsOf : Name → Told → Type 0
IsOf p t = told_leaf t ≡ p

bound-of : (p : Name) (q : Place) (b : Bool) → IsOf p (bound_told p q b)
bound-of p q true = refl
bound-of p q false = refl

mutual
  value-of : {N : Type 0} (p : Name) (k : ℕ) (q : Place) (w : Tree N Scalar) → Each (IsOf p) (value_told p k q w)
  value-of p zero q w = (bound-of p q (holds_fault w), tt)
  value-of p (suc k) q (leaf n (text t)) = tt
  value-of p (suc k) q (leaf n (fault e)) = (refl, tt)
  value-of p (suc k) q (list n ts) = (refl, values-of p k q 0 ts)

  values-of : {N : Type 0} (p : Name) (k : ℕ) (q : Place) (i : ℕ) (ts : Trees N Scalar) → Each (IsOf p) (values_told p k q i ts)
  values-of p k q i no_trees = tt
  values-of p k q i (tree t ts) = each-append (IsOf p) (value_told p k (q ++ i ∷ []) t) (values_told p k q (suc i) ts) (value-of p k (q ++ i ∷ []) t) (values-of p k q (suc i) ts)

there-of : (p : Name) (k : ℕ) (q : Place) (h : Happening) → Each (IsOf p) (told_there p k q h)
there-of p k q (gave w) = value-of p k q w
there-of p k q (closed n) = (refl, tt)
there-of p k q passed = (refl, tt)

way-of : (p : Name) (k : ℕ) (q : Place) (from faults : ℕ) (r : Place) (h : Happening) → Each (IsOf p) (told_on_way p k q from faults r h)
way-of p k q from faults r h = by (nat_le k (length r))
  where
    if-of : (b : Bool) (t : Told) → IsOf p t → Each (IsOf p) (if_so b t)
    if-of true t e = (e, tt)
    if-of false t e = tt

    by : (b : Bool) → Each (IsOf p) (if b then if_so (nat_le from k) (bound_told p (q ++ take k r) (nat_lt k faults)) else told_there p (k - length r) (q ++ r) h)
    by true = if-of (nat_le from k) (bound_told p (q ++ take k r) (nat_lt k faults)) (bound-of p (q ++ take k r) (nat_lt k faults))
    by false = there-of p (k - length r) (q ++ r) h

-- ---- all of them name leaves

module _ (n : ℕ) (e : Event) (ways : List Way) (whole : List Whole) (of_ways : Each (λ (w : Way). w.leaf < n) ways) (of_whole : Each (λ (w : Whole). w.leaf < n) whole) where
  all-of : Each (IsOf one) (tellings_by e ways whole (cross (many n)))
  all-of =
      each-append (IsOf one) (flat_map (way_tellings (cross (many n)) e) ways) (map (whole_telling (cross (many n))) whole)
      (each-flat (IsOf one) (way_tellings (cross (many n)) e) ways
      (each-weaken (λ (w : Way). w.leaf < n) (λ w. Each (IsOf one) (way_tellings (cross (many n)) e w))
      (λ w l. subst (λ p. Each (IsOf p) (way_tellings (cross (many n)) e w)) (named n w.leaf l)
      (way-of (leaf_name (cross (many n)) w.leaf) w.levels (place_of_item w.item) e.whole_from (get_or e.faults.now w.output 0) e.place.now (happening e.happened w.output))) ways of_ways))
      (each-map (IsOf one) (whole_telling (cross (many n))) whole
      (each-weaken (λ (w : Whole). w.leaf < n) (λ w. IsOf one (whole_telling (cross (many n)) w))
      (λ w l. bound-of (leaf_name (cross (many n)) w.leaf) [] w.faulty ∙ named n w.leaf l) whole of_whole))

  leaf-seen : (s : Strategy) (t : code.Told) → told_leaf (told_view s t) ≡ leaf_name s (leaf_of t)
  leaf-seen s (code.Told.Arrival l q f) = refl
  leaf-seen s (code.Told.Faulty l q) = refl
  leaf-seen s (code.Told.Close l q m) = refl

  pub leaves-named : (ts : List code.Told) → AreTellings ts (tellings_by e ways whole) → Each (λ t. leaf_of t < n) ts
  leaves-named ts are =
      each-weaken (λ t. IsOf one (told_view (cross (many n)) t)) (λ t. leaf_of t < n)
      (λ t h. unnamed n (leaf_of t) (sym (leaf-seen (cross (many n)) t) ∙ h)) ts
      (each-of-map (IsOf one) (told_view (cross (many n))) ts (subst (Each (IsOf one)) (sym (are (cross (many n)))) all-of))
