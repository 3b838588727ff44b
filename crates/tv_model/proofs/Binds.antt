-- A job binds each port of its strategy, to a value of the port's declared depth.
use Rattle.std.specs.Prelude.{◌≡◌, refl, ℕ, zero, suc, ◌+◌, List, [], ◌∷◌, ◌++◌, map, Bool, true, false, ◌||◌, Option, Some, None, option_map, option_and_then, filter_map, if◌then◌else◌}
use Rattle.std.specs.List.{list_any, list_all, cons_option}
use Rattle.std.specs.Cmp.Lexicographic.{bytes_decides}
use Rattle.std.proofs.Common.{arith, sym, ap, subst, ◌∙◌}
use Rattle.std.proofs.lemmas.Bool.{and_parts}
use Rattle.std.proofs.lemmas.List.{map-append}
use Rattle.tv_lemmas.specs.Members.{Each}
use Rattle.tv_value.specs.Nested.{leaf, list, Trees, no_trees, tree, Place, at, item_at}
use Rattle.tv_value.specs.Values.{Name, Scalar, text, fault, HasDepth, AllHaveDepth}
use Rattle.tv_value.specs.Orders.{same_name, named}
use Rattle.tv_value.specs.Strategies.{Strategy}
use Rattle.tv_flow.specs.Flows.{StepInput}
use Rattle.tv_strategy.specs.Conditions.{names_in}
use Rattle.tv_strategy.specs.Iterations.{Binding, Iteration, walk, iteration}
use Rattle.tv_strategy.specs.Levels.{HasLevels, IsJob}
use Rattle.tv_strategy.specs.Measures.{DotsAgree, leaf_names}
use Rattle.tv_strategy.specs.Origins.{Origin, Traced}
use Rattle.tv_strategy.specs.Splits.{split}
use Rattle.tv_strategy.proofs.AtPlace.{JobsAt, split-jobs}
use Rattle.tv_strategy.proofs.Ends.{item_at-walk_each}
use Rattle.tv_strategy.proofs.LawLemmas.{split-names_leaves}
use Rattle.tv_strategy.proofs.Sources.{each-append}
pub use Rattle.tv_model.specs.RightDepths.{HaveTheseDepths}
use Rattle.tv_model.proofs.Tests.{true≠false}

abbrev ItemHasDepth : Option Traced → ℕ → Type 0
ItemHasDepth None d = Unit {0}
ItemHasDepth (Some v) d = HasDepth v d

item-depth : (vs : Trees Origin Scalar) (d i : ℕ) → AllHaveDepth vs d → ItemHasDepth (item_at vs i) d
item-depth no_trees d i h = tt
item-depth (tree v vs) d zero h = h.0
item-depth (tree v vs) d (suc i) h = item-depth vs d i h.1

module _ (declared : Name → ℕ) where
  abbrev pub Fits : Binding → Type 0
  Fits b = Each (λ r. HasDepth r.1 (declared r.0)) b

  abbrev pub IsBinding : List Name → Binding → Type 0
  IsBinding ns b = (map (λ r. r.0) b ≡ ns) × Fits b

  -- each job of the iteration binds these ports
  abbrev pub Binds : List Name → Iteration → Type 0
  Binds ns t = (q : Place) (b : Binding) → IsJob (at t q) b → IsBinding ns b

  pub walk-binds : (p : Name) (k : ℕ) (v : Traced) (e : ℕ) → e ≡ k + declared p → HasDepth v e → Binds (p ∷ []) (walk p k v)
  walk-binds p zero v e w h [] b j =
      let same : e ≡ declared p = omega (arith, w) in subst (IsBinding (p ∷ [])) j (refl, (subst (HasDepth v) same h, tt))
  walk-binds p zero v e w h (i ∷ q) b j = absurd j
  walk-binds p (suc k) (leaf o (text t)) e w h [] b j = absurd (omega (arith, w, h))
  walk-binds p (suc k) (leaf o (fault f)) e w h [] b j = absurd j
  walk-binds p (suc k) (leaf o a) e w h (i ∷ q) b j = absurd j
  walk-binds p (suc k) (list o vs) e w h [] b j = absurd j
  walk-binds p (suc k) (list o vs) zero w h (i ∷ q) b j = absurd h
  walk-binds p (suc k) (list o vs) (suc e) w h (i ∷ q) b j =
      inner (item_at vs i) (item-depth vs e i h) (λ v d l. walk-binds p k v e (omega (arith, w)) d q b l)
      (subst (λ o. IsJob (option_and_then (λ t. at t q) o) b) (item_at-walk_each p k vs i) j)
    where
      inner : (o : Option Traced) → ItemHasDepth o e → ((v : Traced) → HasDepth v e → IsJob (at (walk p k v) q) b → IsBinding (p ∷ []) b) → IsJob (option_and_then (λ t. at t q) (option_map (walk p k) o)) b → IsBinding (p ∷ []) b
      inner None d rec l = absurd l
      inner (Some v) d rec l = rec v d l

  module _ (ports : Name → Iteration) (mismatch : Name → ℕ) (walks : (p : Name) → HasLevels (ports p) (mismatch p)) (ok : Name → Bool) (binds : (p : Name) → ok p ≡ true → Binds (p ∷ []) (ports p)) where
    jobs-bind : (rs : List (Name × Place)) (b : Binding) → list_all ok (names_in rs) ≡ true → JobsAt ports rs b → IsBinding (names_in rs) b
    jobs-bind [] b k h = subst (IsBinding []) (sym h) (refl, tt)
    jobs-bind (r ∷ rs) b k h =
        let w = and_parts (ok r.0) (list_all ok (names_in rs)) k in
        let one = binds r.0 w.0 r.1 h.0 h.3 in
        let rest = jobs-bind rs h.1 w.1 h.4 in
        subst (IsBinding (names_in (r ∷ rs))) (sym h.2)
        (map-append (λ x. x.0) h.0 h.1 ∙ ap (λ l. l ++ map (λ x. x.0) h.1) one.0 ∙ ap (λ l. r.0 ∷ l) rest.0, each-append (λ x. HasDepth x.1 (declared x.0)) h.0 h.1 one.1 rest.1)

    pub iteration-binds : (s : Strategy) → DotsAgree mismatch s → list_all ok (leaf_names s) ≡ true → Binds (leaf_names s) (iteration ports s)
    iteration-binds s d h q b j =
        let names = split-names_leaves mismatch s q in
        subst (λ ns. IsBinding ns b) names (jobs-bind (split mismatch s q) b (subst (λ ns. list_all ok ns ≡ true) (sym names) h) (split-jobs ports mismatch walks s d q b j))

  -- ---- the bound values, in the order of the inputs

  named-fits : (p : Name) (b : Binding) → Fits b → list_any (same_name p) (map (λ r. r.0) b) ≡ true → (v : Traced) × (named p b ≡ Some v) × HasDepth v (declared p)
  named-fits p [] f h = absurd (true≠false (sym h))
  named-fits p (r ∷ b) f h = by (same_name p r.0) refl h (λ k. named-fits p b f.1 k)
    where
      by : (t : Bool) → same_name p r.0 ≡ t → (t || list_any (same_name p) (map (λ q. q.0) b)) ≡ true → (list_any (same_name p) (map (λ q. q.0) b) ≡ true → (v : Traced) × (named p b ≡ Some v) × HasDepth v (declared p)) → (v : Traced) × ((if t then Some r.1 else named p b) ≡ Some v) × HasDepth v (declared p)
      by true e k rec = (r.1, refl, subst (λ x. HasDepth r.1 (declared x)) (sym ((bytes_decides p r.0).0 e)) f.0)
      by false e k rec = rec k

  pub bound-have : (ns : List Name) (b : Binding) → IsBinding ns b → (is : List (Name × StepInput)) → Each (λ i. declared i.0 ≡ i.1.depth) is → list_all (λ i. list_any (same_name i.0) ns) is ≡ true → HaveTheseDepths (map (λ i. i.1.depth) is) (filter_map (λ i. named i.0 b) is)
  bound-have ns b w [] d h = tt
  bound-have ns b w (i ∷ is) d h =
      let r = named-fits i.0 b w.1 (subst (λ l. list_any (same_name i.0) l ≡ true) (sym w.0) (and_parts (list_any (same_name i.0) ns) _ h).0) in
      subst (λ o. HaveTheseDepths (i.1.depth ∷ map (λ j. j.1.depth) is) (cons_option o (filter_map (λ j. named j.0 b) is))) (sym r.1)
      (subst (λ n. HasDepth r.0 n) d.0 r.2, bound-have ns b w is d.1 (and_parts (list_any (same_name i.0) ns) _ h).1)
