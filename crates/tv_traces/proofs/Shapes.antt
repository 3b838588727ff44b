-- What the outputs of a step used, by the shape of its iteration.
use Rattle.std.specs.Prelude.{◌≡◌, refl, ℕ, zero, suc, pred, ◌+◌, List, [], ◌∷◌, ◌++◌, map, Option, Some, None, option_and_then, option_map}
use Rattle.std.proofs.Common.{arith, sym, ap, ap₂, subst, ◌∙◌}
use Rattle.std.proofs.lemmas.List.{map-append}
use Rattle.std.proofs.lemmas.Option.{none-some, same_Some}
use Rattle.tv_value.specs.Nested.{Place, at, item_at, leaf, list, map_trees, no_trees, tree}
use Rattle.tv_value.specs.Values.{JobName, Value}
use Rattle.tv_strategy.specs.Iterations.{Iteration, Iterations, job, passed}
use Rattle.tv_strategy.specs.Origins.{Mark, Origin, Traced, from_job, traced}
use Rattle.tv_strategy.specs.Outputs.{output_below, outputs_from}
use Rattle.tv_strategy.proofs.AtPlace.{item_at-map}
use Rattle.tv_model.specs.Lineages.{all_used, mark_or, used}
use Rattle.tv_model.specs.records.Recorded.{mark_of, marks_of}
use Rattle.tv_traces.specs.Shapes.{BothHave, Shape, Shapes, ShowAll, Shows, ShowsAt, job_here, passed_by, reached, shape_used, shapes_used}

-- ---- values of one origin

module _ (o : Origin) (ms : List Mark) (has : (ns : List Mark) → mark_or o.mark ns ≡ ms) where
  -- a value whose nodes all have one mark used that mark, and so did all that stands in it
  pub traced-used : (v : Value) → used (traced o v) ≡ ms
  traced-used (leaf n a) = has []
  traced-used (list n ts) = has (all_used (map_trees (λ _. o) (λ a. a) ts))

  pub traced-at : (v : Value) (r : Place) (w : Traced) → at (traced o v) r ≡ Some w → used w ≡ ms
  traced-at v [] w e = ap used (sym (same_Some (traced o v) w e)) ∙ traced-used v
  traced-at (leaf n a) (i ∷ r) w e = absurd (none-some w e)
  traced-at (list n ts) (i ∷ r) w e = inner (item_at ts i) (λ u k. traced-at u r w k) (ap (option_and_then (λ u. at u r)) (sym (item_at-map (λ _. o) (λ a. a) ts i)) ∙ e)
    where
      inner : (p : Option Value) → ((u : Value) → at (traced o u) r ≡ Some w → used w ≡ ms) → option_and_then (λ u. at u r) (option_map (traced o) p) ≡ Some w → used w ≡ ms
      inner None rec k = absurd (none-some w k)
      inner (Some u) rec k = rec u k

-- ---- outputs

-- what stands at a place used what the shape there tells
abbrev pub UsedThere : (Place → JobName) → Traced → Option (Place × Shape) → Type 0
UsedThere name w None = ⊥
UsedThere name w (Some x) = marks_of w ≡ shape_used name x.0 x.1

module _ (name : Place → JobName) (made : Place → Value) (d : ℕ) where
  abbrev output : Place → ℕ → Iteration → Traced
  output q levels t = output_below name made d q levels t

  mutual
    pub used-shown : (u : Shape) (t : Iteration) (q : Place) (levels : ℕ) → Shows u t → marks_of (output q levels t) ≡ shape_used name q u
    used-shown (leaf g job_here) (leaf s (job b)) q levels h =
        ap (map mark_of) (traced-used (from_job (name q)) (Rattle.tv_strategy.specs.Origins.made (name q) ∷ []) (λ ns. refl) (made q))
    used-shown (leaf g job_here) (leaf s (passed m e)) q levels h = absurd h
    used-shown (leaf g (passed_by ms)) (leaf s (job b)) q levels h = absurd h
    used-shown (leaf g (passed_by ms)) (leaf s (passed m e)) q levels h = sym h
    used-shown (leaf g k) (list s ts) q levels h = absurd h
    used-shown (list g us) (leaf s e) q levels h = absurd h
    used-shown (list g us) (list s ts) q levels h = all_used-shown us ts q (pred levels) 0 h

    all_used-shown : (us : Shapes) (ts : Iterations) (q : Place) (levels i : ℕ) → ShowAll us ts → map mark_of (all_used (outputs_from name made d q levels i ts)) ≡ shapes_used name q i us
    all_used-shown no_trees no_trees q levels i h = refl
    all_used-shown no_trees (tree t ts) q levels i h = absurd h
    all_used-shown (tree u us) no_trees q levels i h = absurd h
    all_used-shown (tree u us) (tree t ts) q levels i h =
        map-append mark_of (used (output (q ++ i ∷ []) levels t)) (all_used (outputs_from name made d q levels (suc i) ts))
        ∙ ap₂ (λ a b. a ++ b) (used-shown u t (q ++ i ∷ []) levels h.0) (all_used-shown us ts q levels (suc i) h.1)

  -- the items of an output
  outputs-item : (ts : Iterations) (q : Place) (levels j i : ℕ) → item_at (outputs_from name made d q levels j ts) i ≡ option_map (λ t. output (q ++ (j + i) ∷ []) levels t) (item_at ts i)
  outputs-item no_trees q levels j i = refl
  outputs-item (tree t ts) q levels j zero = ap (λ k. Some (output (q ++ k ∷ []) levels t)) (same j)
    where
      same : (j : ℕ) → j ≡ j + 0
      same j = omega arith
  outputs-item (tree t ts) q levels j (suc i) = outputs-item ts q levels (suc j) i ∙ ap (λ k. option_map (λ t. output (q ++ k ∷ []) levels t) (item_at ts i)) (later j i)
    where
      later : (j i : ℕ) → suc j + i ≡ j + suc i
      later j i = omega arith

  item-used : (us : Option Shape) (ts : Option Iteration) (q : Place) (levels : ℕ) (r : Place) (w : Traced) → BothHave (λ u t. ShowsAt u t r) us ts → ((u : Shape) (t : Iteration) → ShowsAt u t r → at (output q levels t) r ≡ Some w → UsedThere name w (reached q u r)) → option_and_then (λ v. at v r) (option_map (output q levels) ts) ≡ Some w → UsedThere name w (option_and_then (λ u. reached q u r) us)
  item-used None ts q levels r w h rec e = absurd h
  item-used (Some u) None q levels r w h rec e = absurd h
  item-used (Some u) (Some t) q levels r w h rec e = rec u t h e

  -- where the way to a place ends at what the shape shows, it tells what stands there
  pub used-at : (u : Shape) (t : Iteration) (q : Place) (levels : ℕ) (r : Place) → ShowsAt u t r → (w : Traced) → at (output q levels t) r ≡ Some w → UsedThere name w (reached q u r)
  used-at u t q levels [] h w e = ap marks_of (sym (same_Some (output q levels t) w e)) ∙ used-shown u t q levels h
  used-at (leaf g job_here) (leaf s (job b)) q levels (i ∷ r) h w e =
      ap (map mark_of) (traced-at (from_job (name q)) (Rattle.tv_strategy.specs.Origins.made (name q) ∷ []) (λ ns. refl) (made q) (i ∷ r) w e)
  used-at (leaf g job_here) (leaf s (passed m x)) q levels (i ∷ r) h w e = absurd h
  used-at (leaf g (passed_by ms)) (leaf s (job b)) q levels (i ∷ r) h w e = absurd h
  used-at (leaf g (passed_by ms)) (leaf s (passed m x)) q levels (i ∷ r) h w e = absurd (none-some w e)
  used-at (leaf g k) (list s ts) q levels (i ∷ r) h w e = absurd h
  used-at (list g us) (leaf s x) q levels (i ∷ r) h w e = absurd h
  used-at (list g us) (list s ts) q levels (i ∷ r) h w e =
      item-used (item_at us i) (item_at ts i) (q ++ i ∷ []) (pred levels) r w h (λ u t k f. used-at u t (q ++ i ∷ []) (pred levels) r k w f)
      (subst (λ j. option_and_then (λ v. at v r) (option_map (output (q ++ j ∷ []) (pred levels)) (item_at ts i)) ≡ Some w) (from-none i)
      (ap (option_and_then (λ v. at v r)) (sym (outputs-item ts q (pred levels) 0 i)) ∙ e))
    where
      from-none : (i : ℕ) → 0 + i ≡ i
      from-none i = omega arith
