-- The nodes of what an open instance's steps and feeds deliver are the instance's own, and the history says of them what the frame was told.
use Rattle.std.specs.Prelude.{◌≡◌, ℕ, zero, suc, List, [], ◌∷◌, Some, map, option_and_then}
use Rattle.std.proofs.Common.{sym, subst, ◌∙◌}
use Rattle.std.proofs.lemmas.Option.{none-some, same_Some}
use Rattle.tv_lemmas.specs.Members.{Each}
use Rattle.tv_value.specs.Nested.{Place, Trees, at, item_at, leaf, list, no_trees, note, notes, tree}
use Rattle.tv_value.specs.Values.{JobName, Name, Scalar, Value}
use Rattle.tv_gate.specs.Outcomes.{Giving}
use Rattle.tv_flow.specs.Flows.{Feed, Flow}
use Rattle.tv_strategy.specs.Origins.{Origin, Traced, fixed}
use Rattle.tv_strategy.specs.Sources.{AtAllNodes, AtNodes}
use Rattle.tv_strategy.proofs.Each.{each-weaken}
use Rattle.tv_strategy.proofs.Sources.{notes-have}
use Rattle.tv_model.specs.instance.ByResults.{InstanceStep, step_of}
use Rattle.tv_model.specs.instance.Delivered.{Delivered, feed_delivers, wrapped}
use Rattle.tv_model.specs.instance.Endings.{IsOwn}
use Rattle.tv_model.specs.instance.Events.{known_by}
use Rattle.tv_model.specs.Instances.{given_of}
use Rattle.tv_model.specs.Made.{Meaning}
use Rattle.tv_model.proofs.Earlier.{at_nodes-weaken}
use Rattle.tv_model.proofs.Fed.{StepHas, each-of_map, feed-has}
use Rattle.tv_model.proofs.Instances.{given-free}
use Rattle.tv_model.proofs.Sound.{IsFree}
use Rattle.tv_parts.specs.Partials.{Partial}
use Rattle.tv_history.specs.Entries.{History}
use Rattle.tv_history.specs.Histories.{is_known}
use Rattle.tv_framing.specs.instances.OwnNodes.{NodesHave}
use Rattle.tv_framing.specs.Views.{View}
use Rattle.tv_framing.proofs.instances.Events.{all-same, known-same}
use Rattle.tv_framing.proofs.instances.InDepth.{as_made}
use Rattle.tv_framing.proofs.starts.Steps.{same-feeds}
use Rattle.tv_forest.proofs.views.Ready.{all-own}
use Rattle.tv_forest.proofs.views.Runs.{Runs, steps_here}
use Rattle.tv_frame_laws.specs.values.Exact.{IsAllKnown}

module _ (P : Origin → Type 0) where
  mutual
    at-node : (u : Traced) → AtNodes P u → (q : Place) (w : Traced) → at u q ≡ Some w → P (note w)
    at-node (leaf o a) h [] w e = subst (λ (t : Traced). P (note t)) (same_Some (leaf o a) w e) h
    at-node (list o us) h [] w e = subst (λ (t : Traced). P (note t)) (same_Some (list o us) w e) h.0
    at-node (leaf o a) h (i ∷ q) w e = absurd (none-some w e)
    at-node (list o us) h (i ∷ q) w e = at-item us h.1 i q w e

    at-item : (us : Trees Origin Scalar) → AtAllNodes P us → (i : ℕ) (q : Place) (w : Traced) → option_and_then (λ (t : Traced). at t q) (item_at us i) ≡ Some w → P (note w)
    at-item no_trees h i q w e = absurd (none-some w e)
    at-item (tree u us) h zero q w e = at-node u h.0 q w e
    at-item (tree u us) h (suc i) q w e = at-item us h.1 i q w e

  pub wrapped-at : P fixed → (k : ℕ) (u : Traced) → AtNodes P u → AtNodes P (wrapped k u)
  wrapped-at f zero u h = h
  wrapped-at f (suc k) u h = (f, (wrapped-at f k u h, tt))

module _ (gives : Giving) (flows : List (Name × Flow)) (m : Meaning) (past : History) (I : JobName) (levels : Name → ℕ) (v : View) (r : Runs gives flows m past I levels v) where
  abbrev fs : List InstanceStep
  fs = steps_here gives flows m past I levels v r

  abbrev given : List (Name × Delivered)
  given = given_of v.flow v.inputs

  abbrev pub Own : Origin → Type 0
  Own o = IsOwn I o.known

  its-own : Each (NodesHave Own) fs
  its-own = all-own gives flows m past I levels v r

  given-own : Each (λ (d : Name × Delivered). AtNodes Own d.1.value) given
  given-own =
      each-weaken (λ (d : Name × Delivered). AtNodes IsFree d.1.value) (λ (d : Name × Delivered). AtNodes Own d.1.value)
      (λ d h. at_nodes-weaken IsFree Own (λ o k. subst (IsOwn I) (sym k.0) tt) d.1.value h) given (given-free v.flow v.inputs)

  pub feed-own : (f : Feed) → AtNodes Own (feed_delivers step_of given fs f).value
  feed-own f =
      subst (λ (d : Delivered). AtNodes Own d.value) (same-feeds given fs f)
      (feed-has Own tt given given-own (map as_made fs) (each-of_map (NodesHave Own) (StepHas Own) as_made (λ g h. (h.outputs, h.ending)) fs its-own) f)

  -- all that is known of a value by what the frame was told is all that is known of it after the history
  pub all-known_now : (p : Partial Value) (u : Traced) → AtNodes Own u → IsAllKnown (known_by I v.events) p u → IsAllKnown (λ o. is_known m past o.known) p u
  all-known_now p u own h = record {
    shown = λ q w e. h.shown q w e ∙ sym (known-same I m past v.events r.told (note w).known (at-node Own u own q w e));
    whole_where = h.whole_where ∙ sym (all-same I m past v.events r.told (notes u) (notes-have Own u own));
    value = h.value;
  }
