-- What is told of a value that stands at a place is told truly.
use Rattle.std.specs.Prelude.{◌≡◌, refl, ℕ, zero, suc, ◌+◌, Bool, true, false, List, [], ◌∷◌, ◌++◌, Some}
use Rattle.std.proofs.Common.{sym, ap, ap₂, subst, ◌∙◌, add-zero}
use Rattle.tv_lemmas.specs.Members.{Each}
use Rattle.tv_lemmas.proofs.Numbers.{plus-suc}
use Rattle.tv_value.specs.Nested.{Place, Tree, Trees, at, item_at, leaf, list, map_tree, map_trees, no_trees, tree}
use Rattle.tv_value.specs.Values.{Name, Scalar, Value, fault, holds_fault, text}
use Rattle.tv_strategy.specs.Origins.{Origin, Traced, plain}
use Rattle.tv_strategy.proofs.Sources.{each-append}
use Rattle.tv_matching.specs.Told.{TellsFaults, Told, close, value_there}
use Rattle.tv_telling.specs.ValueTellings.{bound_told, value_told, values_told}
use Rattle.tv_framing.proofs.Tellings.{map_count, items-stand}
use Rattle.tv_framing.proofs.starts.Plain.{same-faults}

-- ---- origins aren't told

mutual
  pub told-mapped : {N M : Type 0} (p : Name) (k : ℕ) (q : Place) (f : N → M) (v : Tree N Scalar) → value_told p k q (map_tree f (λ a. a) v) ≡ value_told p k q v
  told-mapped p zero q f v = ap (λ b. bound_told p q b ∷ []) (same-faults f v)
  told-mapped p (suc k) q f (leaf n (text t)) = refl
  told-mapped p (suc k) q f (leaf n (fault e)) = refl
  told-mapped p (suc k) q f (list n vs) = ap₂ (λ a b. close p q a ∷ b) (map_count f vs) (all-mapped p k q 0 f vs)

  all-mapped : {N M : Type 0} (p : Name) (k : ℕ) (q : Place) (i : ℕ) (f : N → M) (vs : Trees N Scalar) → values_told p k q i (map_trees f (λ a. a) vs) ≡ values_told p k q i vs
  all-mapped p k q i f no_trees = refl
  all-mapped p k q i f (tree v vs) = ap₂ (λ a b. a ++ b) (told-mapped p k (q ++ i ∷ []) f v) (all-mapped p k q (suc i) f vs)

-- ---- told truly

module _ (values : Name → Traced) (p : Name) where
  abbrev pub AreTrue : List Told → Type 0
  AreTrue ts = Each (TellsFaults values) ts

  pub bound-truly : (q : Place) (b : Bool) → holds_fault (value_there (values p) (at (values p) q)) ≡ b → TellsFaults values (bound_told p q b)
  bound-truly q true h = h
  bound-truly q false h = h

  pub there-truly : (q : Place) (v : Traced) → at (values p) q ≡ Some v → (b : Bool) → holds_fault v ≡ b → TellsFaults values (bound_told p q b)
  there-truly q v a b h = bound-truly q b (ap (λ o. holds_fault (value_there (values p) o)) a ∙ h)

  mutual
    pub value-truly : (k : ℕ) (q : Place) (v : Traced) → at (values p) q ≡ Some v → AreTrue (value_told p k q v)
    value-truly zero q v a = (there-truly q v a (holds_fault v) refl, tt)
    value-truly (suc k) q (leaf o (text t)) a = tt
    value-truly (suc k) q (leaf o (fault e)) a = (tt, tt)
    value-truly (suc k) q (list o ts) a = (tt, values-truly k q 0 ts (items-stand (values p) q o ts a))

    values-truly : (k : ℕ) (q : Place) (i : ℕ) (ts : Trees Origin Scalar) → ((j : ℕ) (u : Traced) → item_at ts j ≡ Some u → at (values p) (q ++ (i + j) ∷ []) ≡ Some u) → AreTrue (values_told p k q i ts)
    values-truly k q i no_trees h = tt
    values-truly k q i (tree t ts) h =
        each-append (TellsFaults values) (value_told p k (q ++ i ∷ []) t) (values_told p k q (suc i) ts)
        (value-truly k (q ++ i ∷ []) t (subst (λ n. at (values p) (q ++ n ∷ []) ≡ Some t) (add-zero i) (h 0 t refl)))
        (values-truly k q (suc i) ts (λ j u g. subst (λ n. at (values p) (q ++ n ∷ []) ≡ Some u) (plus-suc i j) (h (suc j) u g)))

  -- as its value is told
  pub plain-truly : (k : ℕ) (q : Place) (v : Traced) (w : Value) → at (values p) q ≡ Some v → plain v ≡ w → AreTrue (value_told p k q w)
  plain-truly k q v w a e = subst AreTrue (sym (told-mapped p k q (λ o. tt) v) ∙ ap (value_told p k q) e) (value-truly k q v a)
