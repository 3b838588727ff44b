-- What is matched of what was told is what stands in the iteration of the delivered values with all its sources known.
use Rattle.std.specs.Prelude.{◌≡◌, ℕ, Bool, true, List, IsPermutation}
use Rattle.std.proofs.Common.{sym}
use Rattle.std.proofs.lemmas.List.Sorted.{IsPermutation-trans, IsPermutation-sym}
use Rattle.tv_lemmas.specs.Members.{In}
use Rattle.tv_value.specs.Values.{Name}
use Rattle.tv_value.specs.Strategies.{Strategy}
use Rattle.tv_strategy.specs.Origins.{Origin}
use Rattle.tv_strategy.specs.Iterations.{Iteration, iteration}
use Rattle.tv_strategy.specs.Measures.{DotsAgree}
use Rattle.tv_strategy.specs.Levels.{HasLevels}
use Rattle.tv_matching.specs.Items.{Node, nodes_of, all_known, known_items}
use Rattle.tv_matching.specs.Matched.{matched}
use Rattle.tv_matching.proofs.FromScratch.{WalkItem, iteration-known}
use Rattle.tv_matching.proofs.Permutes.{perm-from}
use Rattle.tv_matching.proofs.Gains.{matched-permutes}
use Rattle.tv_matching.proofs.Members.{in-permutes}
use Rattle.tv_matching.proofs.Nodes.{of-known, in-known}

module _ (known : Origin → Bool) (ports : Name → Iteration) (mismatch : Name → ℕ) (walks : (p : Name) → HasLevels (ports p) (mismatch p)) (told : Name → List WalkItem) (agrees : (p : Name) → IsPermutation (told p) (known_items known (ports p))) where
  pub matched-known : (s : Strategy) → DotsAgree mismatch s → IsPermutation (matched told s) (known_items known (iteration ports s))
  matched-known s a =
      IsPermutation-trans _ _ _ (matched-permutes told (λ p. known_items known (ports p)) agrees s)
      (perm-from (matched (λ p. known_items known (ports p)) s) (known_items known (iteration ports s)) (sym (iteration-known known ports mismatch walks s a)))

  -- SOUND
  pub matched-sound : (s : Strategy) → DotsAgree mismatch s → (x : WalkItem) → In x (matched told s) → (n : Node) × In n (nodes_of (iteration ports s)) × (n.item ≡ x) × (all_known known n.sources ≡ true)
  matched-sound s a x h = of-known known (iteration ports s) x (in-permutes x (known_items known (iteration ports s)) (matched told s) (IsPermutation-sym _ _ (matched-known s a)) h)

  -- COMPLETE
  pub matched-complete : (s : Strategy) → DotsAgree mismatch s → (n : Node) → In n (nodes_of (iteration ports s)) → all_known known n.sources ≡ true → In n.item (matched told s)
  matched-complete s a n h k = in-permutes n.item (matched told s) (known_items known (iteration ports s)) (matched-known s a) (in-known known (iteration ports s) n h k)
