-- Nothing is told of an instance before a job opens it.
use Rattle.std.specs.Prelude.{◌≡◌, refl, [], ◌∷◌, ◌++◌, Bool, true, false, not, ◌&&◌, filter_map, if◌then◌else◌, is_none, is_some}
use Rattle.std.specs.List.{list_all, list_any}
use Rattle.std.proofs.Common.{ap, subst, sym, ◌∙◌}
use Rattle.std.proofs.lemmas.Bool.{false_from_ne_true, or_parts}
use Rattle.std.specs.Cmp.{first_so, second_so}
use Rattle.tv_lemmas.specs.Members.{In}
use Rattle.tv_lemmas.proofs.Members.{of-flat, of-options}
use Rattle.tv_lemmas.proofs.Cases.{on_either}
use Rattle.tv_value.specs.Nested.{Place, nodes}
use Rattle.tv_value.specs.Orders.{same_job}
use Rattle.tv_value.specs.Values.{JobName, Name}
use Rattle.tv_value.proofs.JobNameLemmas.{same_job_decides}
use Rattle.tv_gate.specs.Outcomes.{Giving}
use Rattle.tv_flow.specs.Flows.{Document}
use Rattle.tv_flow.specs.Formed.{is_formed}
use Rattle.tv_model.specs.instance.Delivered.{StepMeaning}
use Rattle.tv_model.specs.instance.Steps.{spot}
use Rattle.tv_model.specs.Jobs.{Job}
use Rattle.tv_model.specs.Levels.{Level, level_at, levels}
use Rattle.tv_model.specs.Made.{Meaning}
use Rattle.tv_model.specs.Meanings.{meaning}
use Rattle.tv_model.specs.Turns.{is_bounced}
use Rattle.tv_model.proofs.Formed.{level-instance}
use Rattle.tv_model.proofs.Members.{snoc-parts}
use Rattle.tv_model.proofs.Sound.{level-node}
use Rattle.tv_model.proofs.Tests.{true≠false}
use Rattle.tv_model.proofs.Whole.{AnyNumber, IsWhole}
use Rattle.tv_history.specs.Entries.{Entry, History, is_begun_entry, is_ended_entry, is_opened_entry}
use Rattle.tv_history.specs.Histories.{all_known, can_end, can_settle, has_entry, is_legal, is_legal_after, is_open, is_ready, is_running, is_settled, may_go_on, next_ask}
use Rattle.tv_history.proofs.Legal.{Legal, accepts, bounces, closes, ends, hands, last-legal, opens, passes, recalls}
use Rattle.tv_history.proofs.Ready.{all-sound, are-jobs}
use Rattle.tv_history.proofs.Running.{going_on, idle_begun, opened_begins, out-begun}
use Rattle.tv_history.proofs.Tests.{any_weaken}
use Rattle.tv_history.proofs.Documents.{any-whole}
use Rattle.tv_framing.specs.instances.InHistory.{IsOfNoLevel, IsPartOf, SettlesNot}
use Rattle.tv_framing.proofs.instances.History.{entries-are_events, others-stay_settled}
use Rattle.tv_forest.proofs.runs.Starts.{none-told}

abbrev pub was_opened : History → JobName → Bool
was_opened past n = list_any (is_opened_entry n) past

-- what was opened has begun
pub opened-begun : (past : History) (n : JobName) → was_opened past n ≡ true → list_any (is_begun_entry n) past ≡ true
opened-begun past n h = any_weaken (is_opened_entry n) (is_begun_entry n) (opened_begins n) past h

-- and what is open and not the main instance was opened
open-opened :
    (past : History) (n : JobName) (c : Name × Place) (r : JobName) → n ≡ c ∷ r → is_open past n ≡ true
    → was_opened past n ≡ true
open-opened past n c r e h =
    subst (λ x. was_opened past x ≡ true) (sym e)
    (first_so (was_opened past (c ∷ r)) (not (list_any (is_ended_entry (c ∷ r)) past)) (subst (λ x. is_open past x ≡ true) e h))

module _ (gives : Giving) (d : Document) (I : JobName) (c : Name × Place) (r : JobName) (nested : I ≡ c ∷ r) where
  abbrev m : Meaning
  m = meaning gives d

  whole : IsWhole gives AnyNumber m []
  whole = any-whole gives d

  -- ---- an entry more, while it isn't open

  module _ (past : History) (shut : was_opened past I ≡ false) (none : IsPartOf m past I []) where
    never-open : (J : JobName) → J ≡ I → is_open past J ≡ true → ⊥
    never-open J e h = true≠false (sym (open-opened past I c r nested (subst (λ n. is_open past n ≡ true) e h)) ∙ shut)

    never-begun : (s : Name) (q : Place) (n : JobName) → n ≡ spot I s q → list_any (is_begun_entry n) past ≡ true → ⊥
    never-begun s q n e h = true≠false (sym (subst (λ x. list_any (is_begun_entry x) past ≡ true) e h) ∙ none.taken s q)

    in-instance : (j : Job) → In j m.jobs → (s : Name) (q : Place) → j.name ≡ spot I s q → j.instance ≡ I
    in-instance j i s q e = (snoc-parts (s, q) j.instance I (whole.jobs j i).key (s, q) (sym (whole.jobs j i).named ∙ e)).0

    never-ready : (j : Job) → In j m.jobs → (s : Name) (q : Place) → j.name ≡ spot I s q → is_ready m past j ≡ true → ⊥
    never-ready j i s q e h =
        let there = is_open past j.instance in
        let idle = not (is_running past j) in
        let unsettled = not (is_settled past j) in
        never-open j.instance (in-instance j i s q e)
        (first_so there idle (first_so (there && idle) unsettled (first_so (there && idle && unsettled) (all_known m past j.waits) h)))

    never-goes : (j : Job) → In j m.jobs → (s : Name) (q : Place) → j.name ≡ spot I s q → may_go_on m past j ≡ true → ⊥
    never-goes j i s q e h =
        on_either (going_on gives m (all-sound gives AnyNumber m [] whole) (are-jobs gives AnyNumber m [] whole) past j h)
        (λ k. never-begun s q j.name e (idle_begun gives m (all-sound gives AnyNumber m [] whole) (are-jobs gives AnyNumber m [] whole) past j k).0)
        (λ k. never-ready j i s q e k)

    never-settles : (l : Level) → In l (levels m.steps) → (s : Name) (q : Place) → l.name ≡ spot I s q → can_settle m past l ≡ true → ⊥
    never-settles l i s q e h =
        let t = of-flat (λ (t : StepMeaning). filter_map (level_at t) (nodes t.iteration)) l m.steps i in
        let x = of-options (level_at t.0) l (nodes t.0.iteration) t.2 in
        let here = (snoc-parts (s, q) t.0.instance I (t.0.step, x.0.0) (s, q) (sym (level-node I t.0 x.0 l x.2).0 ∙ e)).0 in
        let there = is_open past l.instance in
        let new = not (has_entry past l.name) in
        never-open l.instance (level-instance t.0 x.0 l x.2 ∙ here) (first_so there new (first_so (there && new) (all_known m past l.sources) h))

    -- a test that this name passes
    fails : (s : Name) (q : Place) (n : JobName) → (n ≡ spot I s q → ⊥) → same_job (spot I s q) n ≡ false
    fails s q n f = false_from_ne_true (same_job (spot I s q) n) (λ h. f (sym ((same_job_decides (spot I s q) n).0 h)))

    -- what ends there was opened
    ended-opened : (n : JobName) → can_end m past n ≡ true → (s : Name) (q : Place) → n ≡ spot I s q → was_opened past n ≡ true
    ended-opened n h s q e =
        open-opened past n c (r ++ (s, q) ∷ []) (e ∙ ap (λ l. l ++ (s, q) ∷ []) nested)
        (first_so (is_open past n) (list_all (λ t. if same_job n t.instance then all_known m past t.ending else true) m.steps) h)

    settles-none : {e : Entry} → Legal gives m past e → (s : Name) (q : Place) → SettlesNot e (spot I s q)
    settles-none (hands j a i o n) s q = record { accepted = refl; bounced = refl; ended = refl }
    settles-none (accepts j a i o n) s q = record {
      accepted = fails s q j.name (λ e. never-begun s q j.name e (out-begun past j.name o));
      bounced = refl;
      ended = refl;
    }
    settles-none (bounces j i b) s q = record {
      accepted = refl;
      bounced = fails s q j.name (λ e. never-ready j i s q e (first_so (is_ready m past j) (is_bounced j.ending) b));
      ended = refl;
    }
    settles-none (closes l k i h n) s q = record { accepted = refl; bounced = refl; ended = refl }
    settles-none (passes l i h n) s q = record { accepted = refl; bounced = refl; ended = refl }
    settles-none (opens j i h o) s q = record { accepted = refl; bounced = refl; ended = refl }
    settles-none (ends n h) s q = record { accepted = refl; bounced = refl; ended = fails s q n (λ e. never-begun s q n e (opened-begun past n (ended-opened n h s q e))) }
    settles-none (recalls k) s q = record { accepted = refl; bounced = refl; ended = refl }

    of-none : {e : Entry} → Legal gives m past e → IsOfNoLevel e I
    of-none (hands j a i o n) = record {
      levels = λ s q. refl;
      begins = λ s q. fails s q j.name (λ e. never-goes j i s q e (second_so (is_some (next_ask past j)) (may_go_on m past j) o));
    }
    of-none (accepts j a i o n) = record { levels = λ s q. refl; begins = λ s q. refl }
    of-none (bounces j i b) = record { levels = λ s q. refl; begins = λ s q. refl }
    of-none (closes l k i h n) = record { levels = λ s q. fails s q l.name (λ e. never-settles l i s q e h); begins = λ s q. refl }
    of-none (passes l i h n) = record { levels = λ s q. fails s q l.name (λ e. never-settles l i s q e h); begins = λ s q. refl }
    of-none (opens j i h o) = record {
      levels = λ s q. refl;
      begins = λ s q. fails s q j.name (λ e. never-goes j i s q e (second_so (is_none (next_ask past j) && is_some j.opens) (may_go_on m past j) o));
    }
    of-none (ends n h) = record { levels = λ s q. refl; begins = λ s q. refl }
    of-none (recalls k) = record { levels = λ s q. refl; begins = λ s q. refl }

  -- ---- the law

  pub untold : is_formed d ≡ true → (past : History) → is_legal gives m past ≡ true → was_opened past I ≡ false → IsPartOf m past I []
  untold formed [] legal shut = none-told gives d formed I
  untold formed (e ∷ past) legal shut =
      let old = first_so (is_legal gives m past) (is_legal_after gives m past e) legal in
      let before = (or_parts (is_opened_entry I e) (was_opened past I) shut).1 in
      let none = untold formed past old before in
      let l = last-legal gives m past e legal in
      (entries-are_events gives m past I [] none).stays e
      (record { jobs = λ s q. others-stay_settled gives m past e (spot I s q) (settles-none past before none l s q); rest = of-none past before none l })
