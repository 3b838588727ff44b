-- The counters of a flow's steps.
use Rattle.std.specs.List.{list_all}
use Rattle.std.specs.Prelude.{◌≡◌, ℕ, ◌<◌, ◌&&◌, [], length, map, slice_index_or}
use Rattle.std.proofs.Common.{sym, subst, ◌∙◌}
use Rattle.std.proofs.lemmas.List.{length-map}
use Rattle.std.specs.Cmp.Derive.{one_truth}
use Rattle.tv_value.specs.Values.{Name}
use Rattle.tv_flow.specs.Flows.{Flow}
use Rattle.tv_naming.proofs.Forms.{steps-named}
use Rattle.tv_check.specs.Wirings.{after_of, all_after}
use Rattle.tv_telling.specs.declared.endings.endings.Endings.{Endings}
use Rattle.tv_telling.specs.endings.Ends.{has_ended, is_whole}
use Rattle.tv_model.specs.instance.Events.{Events}
use Rattle.tv_framing.proofs.engine.Endings.{all-ended, all-true, all-whole, have-ended, true-all}
use Rattle.tv_framing.specs.engine.EndedSteps.{AllHaveEndedWhereWhole, AreEndingsOf, EndingsAreByCounting}
use Rattle.tv_framing.specs.engine.WiredFlows.{IsWired}

module _ (f : Flow) (wired : IsWired f) (levels : Name → ℕ) (es : Events) (e : Endings) (are : AreEndingsOf f levels es e) where
  many : length (all_after f) ≡ length f.steps
  many = length-map f.steps (λ s. after_of f.steps s.1)

  sound : (k : ℕ) → k < length f.steps → has_ended e k ≡ (is_whole e k && list_all (has_ended e) (slice_index_or (all_after f) k []))
  sound k l = are.sound.ended k (subst (λ n. k < n) (sym many) l)

pub endings-are : EndingsAreByCounting
endings-are f wired levels es e are ns h =
    have-ended f.steps es levels (is_whole e) (has_ended e) (sound f wired levels es e are) are.marked (steps-named f wired.formed).rise wired.ranked ns h

pub all-have_ended : AllHaveEndedWhereWhole
all-have_ended f wired levels es e are =
    let rise = (steps-named f wired.formed).rise in
    let items : length e.whole.items ≡ length f.steps = are.sound.whole_each ∙ many f wired levels es e are in
    one_truth _ _
    (λ h. all-whole f.steps es levels (is_whole e) (has_ended e) (sound f wired levels es e are) are.marked rise wired.ranked (λ k l. all-true e.whole.items h k (subst (λ n. k < n) (sym items) l)))
    (λ h. true-all e.whole.items (λ k l. all-ended f.steps es levels (is_whole e) (has_ended e) (sound f wired levels es e are) are.marked rise wired.ranked h k (subst (λ n. k < n) items l)))
