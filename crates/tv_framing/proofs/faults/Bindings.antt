-- A job's binding holds a fault where the values that it binds do.
use Rattle.std.specs.List.{list_any}
use Rattle.std.specs.Prelude.{◌≡◌, refl, ℕ, suc, Bool, true, false, filter_map, if◌then◌else◌, is_some, List, [], ◌∷◌, map, Some}
use Rattle.std.proofs.Common.{arith, sym, ap, subst, ◌∙◌, inl, inr}
use Rattle.std.proofs.lemmas.Bool.{true≢false}
use Rattle.std.specs.Cmp.Derive.{one_truth}
use Rattle.tv_lemmas.specs.Members.{In}
use Rattle.tv_lemmas.proofs.Members.{any-in, in-map, in-options, of-options, some_in}
use Rattle.tv_lemmas.proofs.Options.{is_some-some}
use Rattle.tv_value.specs.Orders.{named, same_name}
use Rattle.tv_value.specs.Values.{Name, holds_fault}
use Rattle.tv_value.proofs.NameLemmas.{same_name-refl}
use Rattle.tv_flow.specs.Flows.{StepInput}
use Rattle.tv_strategy.specs.Conditions.{EachOnce, times}
use Rattle.tv_strategy.specs.Iterations.{Binding}
use Rattle.tv_strategy.specs.Origins.{Traced}
use Rattle.tv_model.proofs.MemberLemmas.{named-in}
use Rattle.tv_framing.proofs.matches.Leaves.{each-once}

-- ---- names that stand once

in-times : (n : Name) (b : Binding) (r : Name × Traced) → In r b → r.0 ≡ n → times n (map (λ x. x.0) b) ≡ 0 → ⊥
in-times n [] r h w e = absurd h
in-times n (x ∷ b) r h w e = by (same_name n x.0) refl h e (λ k g. in-times n b r k w g)
  where
    none : (a : ℕ) → suc a ≡ 0 → ⊥
    none a g = omega (arith, g)

    by : (c : Bool) → same_name n x.0 ≡ c → In r (x ∷ b) → (if c then suc (times n (map (λ y. y.0) b)) else times n (map (λ y. y.0) b)) ≡ 0 → (In r b → times n (map (λ y. y.0) b) ≡ 0 → ⊥) → ⊥
    by true g i k rec = none (times n (map (λ y. y.0) b)) k
    by false g (inl p) k rec = absurd (true≢false (sym (ap (same_name n) (sym (ap (λ (z : Name × Traced). z.0) p) ∙ w) ∙ same_name-refl n) ∙ g))
    by false g (inr i) k rec = rec i k

named-once : (b : Binding) (r : Name × Traced) → In r b → times r.0 (map (λ x. x.0) b) ≡ 1 → named r.0 b ≡ Some r.1
named-once [] r h e = absurd h
named-once (x ∷ b) r h e = by (same_name r.0 x.0) refl h e (λ i k. named-once b r i k)
  where
    less : (a : ℕ) → suc a ≡ 1 → a ≡ 0
    less a g = omega (arith, g)

    by : (c : Bool) → same_name r.0 x.0 ≡ c → In r (x ∷ b) → (if c then suc (times r.0 (map (λ y. y.0) b)) else times r.0 (map (λ y. y.0) b)) ≡ 1 → (In r b → times r.0 (map (λ y. y.0) b) ≡ 1 → named r.0 b ≡ Some r.1) → (if c then Some x.1 else named r.0 b) ≡ Some r.1
    by true g (inl p) k rec = ap (λ (z : Name × Traced). Some z.1) (sym p)
    by true g (inr i) k rec = absurd (in-times r.0 b r i refl (less (times r.0 (map (λ y. y.0) b)) k))
    by false g (inl p) k rec = absurd (true≢false (sym (ap (λ (z : Name × Traced). same_name r.0 z.0) (sym p) ∙ same_name-refl r.0) ∙ g))
    by false g (inr i) k rec = rec i k

-- all leaves are inputs, each once, and the job binds each leaf
pub binding-holds : (ns : List Name) (is : List (Name × StepInput)) (b : Binding) → map (λ r. r.0) b ≡ ns → EachOnce ns ns → ((n : Name) → In n ns → is_some (named n is) ≡ true) → list_any (λ (r : Name × Traced). holds_fault r.1) b ≡ list_any (λ x. holds_fault x) (filter_map (λ (i : Name × StepInput). named i.0 b) is)
binding-holds ns is b names once inputs =
    one_truth (list_any (λ (r : Name × Traced). holds_fault r.1) b) (list_any (λ x. holds_fault x) (filter_map (λ (i : Name × StepInput). named i.0 b) is)) to from
  where
    to : list_any (λ (r : Name × Traced). holds_fault r.1) b ≡ true → list_any (λ x. holds_fault x) (filter_map (λ (i : Name × StepInput). named i.0 b) is) ≡ true
    to h =
        let r = some_in (λ (r : Name × Traced). holds_fault r.1) b h in
        let member : In r.0.0 ns = subst (In r.0.0) names (in-map (λ (y : Name × Traced). y.0) r.0 b r.1) in
        let input = is_some-some (named r.0.0 is) (inputs r.0.0 member) in
        let found : named r.0.0 b ≡ Some r.0.1 = named-once b r.0 r.1 (ap (times r.0.0) names ∙ each-once ns ns once r.0.0 member) in
        any-in (λ x. holds_fault x) r.0.1 (filter_map (λ (i : Name × StepInput). named i.0 b) is)
        (in-options (λ (i : Name × StepInput). named i.0 b) (r.0.0, input.0) r.0.1 is (named-in r.0.0 is input.0 input.1) found) r.2

    from : list_any (λ x. holds_fault x) (filter_map (λ (i : Name × StepInput). named i.0 b) is) ≡ true → list_any (λ (r : Name × Traced). holds_fault r.1) b ≡ true
    from h =
        let r = some_in (λ x. holds_fault x) (filter_map (λ (i : Name × StepInput). named i.0 b) is) h in
        let i = of-options (λ (i : Name × StepInput). named i.0 b) r.0 is r.1 in
        any-in (λ (y : Name × Traced). holds_fault y.1) (i.0.0, r.0) b (named-in i.0.0 b r.0 i.2) r.2
