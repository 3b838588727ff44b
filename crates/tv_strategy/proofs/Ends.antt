-- What a job binds stands at the places that the job's place splits into.
use Rattle.std.specs.Prelude.{◌≡◌, refl, ℕ, zero, suc, List, [], ◌∷◌, ◌++◌, map, Option, Some, None, option_map, option_and_then}
use Rattle.std.proofs.Common.{ap, sym, subst, ◌∙◌}
use Rattle.tv_value.specs.Nested.{leaf, list, Trees, no_trees, tree, Place, at, item_at}
use Rattle.tv_value.specs.Values.{Name, Scalar, text, fault}
use Rattle.tv_value.specs.Strategies.{Strategy}
use Rattle.tv_strategy.specs.Origins.{Origin, Traced}
use Rattle.tv_strategy.specs.Iterations.{Binding, walk, walk_each, walks, stopped}
use Rattle.tv_strategy.specs.Measures.{DotsAgree}
use Rattle.tv_strategy.specs.Splits.{split, IsBoundAt}
use Rattle.tv_strategy.specs.Levels.{IsJob}
use Rattle.tv_strategy.specs.Promises.{ArePlacesOfEnd}
use Rattle.tv_strategy.proofs.AtDepth.{walk-levels}
use Rattle.tv_strategy.proofs.AtPlace.{JobsAt, split-jobs}

-- a port that binds one value, which stands at a place of another
abbrev pub BindsOne : Name → Option Traced → Binding → Type 0
BindsOne p o c = (w : Traced) × (c ≡ (p, w) ∷ []) × (o ≡ Some w)

pub item_at-walk_each : (p : Name) (k : ℕ) (vs : Trees Origin Scalar) (i : ℕ) → item_at (walk_each p k vs) i ≡ option_map (walk p k) (item_at vs i)
item_at-walk_each p k no_trees i = refl
item_at-walk_each p k (tree v vs) zero = refl
item_at-walk_each p k (tree v vs) (suc i) = item_at-walk_each p k vs i

stopped-binds : (p : Name) (o : Origin) (a : Scalar) (s : List Origin) (c : Binding) → IsJob (Some (leaf s (stopped p o a))) c → BindsOne p (Some (leaf o a)) c
stopped-binds p o (text t) s c h = (leaf o (text t), sym h, refl)
stopped-binds p o (fault e) s c h = absurd h

walk-item : (p : Name) (k : ℕ) (q : Place) (c : Binding) → ((v : Traced) → IsJob (at (walk p k v) q) c → BindsOne p (at v q) c) → (o : Option Traced) → IsJob (option_and_then (λ t. at t q) (option_map (walk p k) o)) c → BindsOne p (option_and_then (λ t. at t q) o) c
walk-item p k q c rec None h = absurd h
walk-item p k q c rec (Some v) h = rec v h

pub walk-at : (p : Name) (k : ℕ) (v : Traced) (q : Place) (c : Binding) → IsJob (at (walk p k v) q) c → BindsOne p (at v q) c
walk-at p zero v [] c h = (v, sym h, refl)
walk-at p zero v (i ∷ q) c h = absurd h
walk-at p (suc k) (leaf o a) [] c h = stopped-binds p o a (o ∷ []) c h
walk-at p (suc k) (leaf o a) (i ∷ q) c h = absurd h
walk-at p (suc k) (list o vs) [] c h = absurd h
walk-at p (suc k) (list o vs) (i ∷ q) c h =
    walk-item p k q c (λ v j. walk-at p k v q c j) (item_at vs i) (subst (λ o. IsJob (option_and_then (λ t. at t q) o) c) (item_at-walk_each p k vs i) h)

abbrev Kept : Type 0
Kept = Name × Option Traced

jobs-bound : (mismatch : Name → ℕ) (values : Name → Traced) (rs : List (Name × Place)) (b : Binding) → JobsAt (walks mismatch values) rs b → IsBoundAt values rs b
jobs-bound mismatch values [] b h = ap (map {B = Kept} (λ r. (r.0, Some r.1))) h
jobs-bound mismatch values (r ∷ rs) b h =
    let one = walk-at r.0 (mismatch r.0) (values r.0) r.1 h.0 h.3 in
    let rest = jobs-bound mismatch values rs h.1 h.4 in
    ap (map {B = Kept} (λ r. (r.0, Some r.1))) (h.2 ∙ ap (λ c. c ++ h.1) one.1)
    ∙ ap (λ l. (r.0, Some one.0) ∷ l) rest
    ∙ ap (λ o. (r.0, o) ∷ map {B = Kept} (λ r. (r.0, at (values r.0) r.1)) rs) (sym one.2)

pub split-of_end : (mismatch : Name → ℕ) (s : Strategy) → DotsAgree mismatch s → (q : Place) → ArePlacesOfEnd mismatch s q (split mismatch s q)
split-of_end mismatch s a q declared values h b j =
    jobs-bound mismatch values (split mismatch s q) b
    (split-jobs (walks mismatch values) mismatch (λ p. walk-levels p (values p) (mismatch p) (declared p) _ refl (h p)) s a q b j)
