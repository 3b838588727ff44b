-- The trees of jobs with results are known at the jobs' places, so their region has a node for each.
use Rattle.std.specs.List.{All, range_with_len, sum_by}
use Rattle.std.specs.Option.{option_map_or}
use Rattle.std.specs.Prelude.{◌≡◌, ◌≢◌, refl, ℕ, suc, ◌+◌, ◌<◌, ◌≤◌, List, [], ◌∷◌, flat_map, length, map, Option}
use Rattle.std.proofs.Common.{arith, sym, ap, ap₂, subst, ◌∙◌}
use Rattle.std.proofs.lemmas.List.Concat.{length-flat_map}
use Rattle.std.proofs.lemmas.List.FromFn.{length-map-range_with_len}
use Rattle.std.proofs.lemmas.List.Sums.{sum_by-cons}
use Rattle.tv_value.specs.Nested.{Place}
use Rattle.tv_value.specs.Values.{Name}
use Rattle.tv_flow.specs.Flows.{Flow, Step}
use Rattle.tv_parts.specs.Partials.{known_at, wanting}
use Rattle.tv_check.specs.declared.plans.FlowPlan.{FlowPlan}
use Rattle.tv_outputs.specs.Known.{Nodes, known}
use Rattle.tv_outputs.specs.Stated.{AreDifferent, KnowsAt, node_count}
use Rattle.tv_outputs.proofs.Flattened.{all-flat, all-numbered, flat-different, numbered-different}
use Rattle.tv_outputs.proofs.Places.{places-have_nodes}
use Rattle.tv_frame.specs.FramingViews.{View}
use Rattle.tv_frame.specs.matches.Steps.{IsStepAt}
use Rattle.tv_frame.specs.declared.frame.Frame.{Frame}
use Rattle.tv_frame.specs.Kept.{Keeps, declared_at}
use Rattle.tv_frame.specs.Tables.{first_tree, levels_in, trees_of}
use Rattle.tv_frame.proofs.Keeping.{kept-wired}
use Rattle.tv_frame.proofs.Putting.{one-tree, outputs-few}
use Rattle.tv_frame_laws.specs.nodes.Stated.{HasResult, HaveResults, JobsHaveNodes, OutputsHaveNodes, output_count}
use Rattle.tv_frame_laws.proofs.nodes.Results.{result-known}
use Rattle.tv_frame_laws.proofs.nodes.Trees.{step-of_tree}

-- ---- sums

sum-same : {A : Type 0} (f g : A → ℕ) → ((x : A) → f x ≡ g x) → (xs : List A) → sum_by f xs ≡ sum_by g xs
sum-same f g h [] = refl
sum-same f g h (x ∷ xs) = sum_by-cons f x xs ∙ ap₂ (λ a b. a + b) (h x) (sum-same f g h xs) ∙ sym (sum_by-cons g x xs)

ones-long : {A : Type 0} (xs : List A) → sum_by (λ x. 1) xs ≡ length xs
ones-long [] = refl
ones-long (x ∷ xs) = sum_by-cons (λ y. 1) x xs ∙ one-more (sum_by (λ y. 1) xs) ∙ ap suc (ones-long xs)
  where
    one-more : (n : ℕ) → 1 + n ≡ suc n
    one-more n = omega arith

-- ---- so many trees of the step of each job

module _ (flows : List (Name × Flow)) (plan : FlowPlan) (pool : Nodes) (f : Frame) (v : View) (keeps : Keeps flows plan pool f v)
    (count : ℕ → ℕ) (few : (n : ℕ) (s : Name × Step) → IsStepAt v n s → count n ≤ trees_of s) where
  abbrev spot : ℕ × Place → ℕ → ℕ × Place
  spot j k = (first_tree v.flow.steps j.0 + k, j.1)

  abbrev spots : ℕ × Place → List (ℕ × Place)
  spots j = map (spot j) (range_with_len 0 (count j.0))

  below : (k m n : ℕ) → k < m → m ≤ n → k < n
  below k m n h l = omega arith

  same-added : (a i j : ℕ) → a + i ≡ a + j → i ≡ j
  same-added a i j h = omega arith

  -- the trees of one job are different
  own-spots : (j : ℕ × Place) → HasResult v j → AreDifferent (spots j)
  own-spots j r = numbered-different (spot j) (count j.0) (λ i k e. same-added (first_tree v.flow.steps j.0) i k (ap (λ (x : ℕ × Place). x.0) e))

  -- and different jobs have different ones
  other-spots : (j l : ℕ × Place) → HasResult v j → HasResult v l → j ≢ l → All (λ x. All (λ y. x ≢ y) (spots l)) (spots j)
  other-spots j l a b differ =
      all-numbered (spot j) (count j.0) (λ x. All (λ y. x ≢ y) (spots l))
      (λ i h. all-numbered (spot l) (count l.0) (λ y. spot j i ≢ y)
      (λ k g e. differ
      (ap₂ (λ n q. (n, q))
      (step-of_tree v.flow.steps j.0 l.0 a.step b.step i k a.there b.there (below i (count j.0) (trees_of a.step) h (few j.0 a.step a.there)) (below k (count l.0) (trees_of b.step) g (few l.0 b.step b.there)) (ap (λ (x : ℕ × Place). x.0) e))
      (ap (λ (x : ℕ × Place). x.1) e))))

  -- each is known at the job's place
  spots-known : (j : ℕ × Place) → HasResult v j → All (KnowsAt (known pool f.outputs)) (spots j)
  spots-known j r =
      all-numbered (spot j) (count j.0) (KnowsAt (known pool f.outputs))
      (λ k h. subst (λ t. known_at j.1 t ≢ wanting) (sym (keeps.trees_are j.0 r.step r.there k (below k (count j.0) (trees_of r.step) h (few j.0 r.step r.there))))
      (result-known v keeps.frame (kept-wired flows plan pool f v keeps) j.0 r.step r.there j.1 r.given k (levels_in v.flow r.step.0) (declared_at r.step k)))

  -- THE COUNT
  pub jobs-housed : (jobs : List (ℕ × Place)) → HaveResults v jobs → sum_by (λ j. count j.0) jobs ≤ node_count pool f.region
  jobs-housed jobs h =
      let long = length-flat_map spots jobs ∙ sum-same (λ j. length (spots j)) (λ j. count j.0) (λ j. length-map-range_with_len (spot j) 0 (count j.0)) jobs in
      subst (λ n. n ≤ node_count pool f.region) long
      (places-have_nodes pool f.outputs f.region keeps.stand (flat_map spots jobs)
      (flat-different spots (HasResult v) own-spots other-spots jobs h.each h.different)
      (all-flat spots (HasResult v) (KnowsAt (known pool f.outputs)) jobs h.each spots-known))

-- ---- of these a step has at most its trees

counted-few : (v : View) (n : ℕ) (s : Name × Step) → IsStepAt v n s → output_count v.flow n ≤ trees_of s
counted-few v n s e = subst (λ (o : Option (Name × Step)). option_map_or (λ (t : Name × Step). length t.1.outputs) o 0 ≤ trees_of s) (sym e) (outputs-few (length s.1.outputs))

pub outputs-have_nodes : OutputsHaveNodes
outputs-have_nodes flows plan pool f v keeps jobs h = jobs-housed flows plan pool f v keeps (output_count v.flow) (counted-few v) jobs h

pub jobs-have_nodes : JobsHaveNodes
jobs-have_nodes flows plan pool f v keeps jobs h =
    subst (λ n. n ≤ node_count pool f.region) (ones-long jobs)
    (jobs-housed flows plan pool f v keeps (λ n. 1) (λ n s e. one-tree (length s.1.outputs)) jobs h)
