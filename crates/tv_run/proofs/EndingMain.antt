-- The run goes on once the main instance has ended, its outputs are kept, and the entry was noted: it is done.
use Rattle.std.specs.Prelude.{◌≡◌, refl, ◌+◌, ◌≤◌, true, [], ◌∷◌, ◌++◌, None, Option, Some, is_none, length, map, vec_capacity}
use Rattle.std.proofs.Common.{ap, append-nil, arith, subst, sym, ◌∙◌}
use Rattle.std.proofs.lemmas.List.{length-append}
use Rattle.tv_gate.specs.Outcomes.{Giving}
use Rattle.tv_strategy.specs.Origins.{plain}
use Rattle.tv_check.specs.RunViews.{run_view}
use Rattle.tv_cell.specs.PieceValues.{piece_values}
use Rattle.tv_cell.specs.Soundness.{AreSound}
use Rattle.tv_model.specs.Instances.{given_of}
use Rattle.tv_model.specs.Meanings.{meaning}
use Rattle.tv_history.specs.Entries.{ended}
use Rattle.tv_history.specs.Histories.{can_end}
use Rattle.tv_instances.specs.Answers.{AreOutputs}
use Rattle.tv_instances.specs.FramingViews.{View}
use Rattle.tv_instances.proofs.views.LawLemmas.{outputs-are_meant}
use Rattle.tv_frame.specs.Tables.{levels_in}
use Rattle.tv_instances.specs.Entries.{shut, with_instance}
use Rattle.tv_instances.specs.Forest.{Instance, Instances, IsAt, IsMain}
use Rattle.tv_instances.proofs.Lists.{at-set, one-at}
use Rattle.tv_instances.proofs.MainEnd.{ending-main}
use Rattle.tv_history.specs.Runs.{Appends, Run, meant, past_of}
use Rattle.tv_history.specs.declared.entry.Entry.{Entry}
use Rattle.tv_history.specs.declared.entry.Entry.TheVariants as entry
use Rattle.tv_history.proofs.ToldLemmas.{tells-ended}
use Rattle.tv_frame.specs.Views.{level_view}
use Rattle.tv_instances.specs.Levels.{AreItsLevels}
use Rattle.tv_run.specs.Changes.{ChangesTo}
use Rattle.tv_run.specs.Ended.{AreMainLevels}
use Rattle.tv_run.specs.Rooms.{IsAsBefore, IsNoted}
use Rattle.tv_run.specs.Settlements.{EndsIn, IsOpenIn, OfOpen, SettlesIn}
use Rattle.tv_run.specs.Standing.{Fits, IsLife, OutsAre, Stands, names_of, run_of, seats_of}
use Rattle.tv_run.specs.declared.ended.Ended.{Ended}
use Rattle.tv_run.specs.declared.instances.Instance as code
use Rattle.tv_run.specs.declared.run.OpenRun.{OpenRun}
use Rattle.tv_run.proofs.Alike.{AreAlike, fits-alike, names-alike}
use Rattle.tv_run.proofs.Ending as ending
use Rattle.tv_run.proofs.Failing.{ended-fails_none}
use Rattle.tv_run.proofs.Levels.{instance-named}
use Rattle.tv_run.proofs.MainLevels.{levels-are_meant}
use Rattle.tv_run.proofs.Next.{IsNext, fits-as_noted, names-kept, names-noted, stands-next}
use Rattle.tv_run.proofs.Rooms.{stands-before}

-- ---- a run with other outputs

module _ (t : OpenRun) (outs : Option Ended) where
  abbrev with_outs : OpenRun
  with_outs = record t { outs = outs }

  life-outs : (c : code.Instance) (x : Instance) (o : Option View) → IsLife t c x o → IsLife with_outs c x o
  life-outs c x None life = life
  life-outs c x (Some v) life = record {
    itself = life.itself;
    there = life.there;
    flow = life.flow;
    is_open = life.is_open;
    still = life.still;
  }

  alike-outs : AreAlike t with_outs
  alike-outs = record {
    run = refl;
    looks = refl;
    jobs = refl;
    due = refl;
    as_many = refl;
    each = λ i c e was is.
        let same = one-at t.instances.items i e c is was in
        record {
          flow = ap (λ (g : code.Instance). g.flow) same;
          opener = ap (λ (g : code.Instance). g.opener) same;
          jobs = ap (λ (g : code.Instance). g.jobs.items) same;
          seats = ap seats_of same;
        };
  }

  names-outs : names_of with_outs ≡ names_of t
  names-outs = names-alike t with_outs alike-outs

  fits-outs : (ys : Instances) → Fits t ys → Fits with_outs ys
  fits-outs ys fits =
      fits-alike t with_outs alike-outs ys fits
      (λ i c e x was is there kept.
      subst (λ g. IsLife with_outs g x x.view) (sym (one-at t.instances.items i e c is was))
      (life-outs c x x.view kept.life))
      fits.theirs fits.busy fits.busy_low

-- ---- the end

module _ (gives : Giving) (r : OpenRun) (h : IsOpenIn gives r 0) (ends : OfOpen r 0 EndsIn) (roomy : OpenRun)
    (b : IsAsBefore r roomy) (room : length roomy.entries.items + roomy.due + 0 + 1 ≤ vec_capacity roomy.entries)
    (closed : OpenRun) (changes : ChangesTo roomy closed (with_instance h.instances 0 (shut h.instance)))
    (names : names_of closed ≡ names_of roomy) (due : closed.due ≡ roomy.due) (outs : Ended) (sound : AreSound outs.outs)
    (are : AreOutputs h.view (piece_values outs.outs)) (kept : AreItsLevels h.view (map level_view outs.levels.items))
    (s : OpenRun)
    (noted : IsNoted (record closed { outs = Some outs }) s (entry.Ended 0)) where
  abbrev xs : Instances
  xs = h.instances

  abbrev x : Instance
  x = h.instance

  abbrev ys : Instances
  ys = with_instance xs 0 (shut x)

  abbrev e : Entry
  e = entry.Ended 0

  main : IsMain (run_view r.run) x
  main =
      subst (IsMain (run_view r.run))
      (one-at xs 0 h.stands.stand.main.0 x h.stands.stand.main.1 h.there) h.stands.stand.main.2

  can : can_end (meaning gives (run_view r.run)) (past_of (run_of r)) [] ≡ true
  can =
      ap (can_end (meaning gives (run_view r.run)) (past_of (run_of r))) (sym main.unnamed)
      ∙ ending.can gives r 0 h ends

  outputs : piece_values outs.outs ≡ map (λ o. plain o.1) (meaning gives (run_view r.run)).outputs
  outputs =
      outputs-are_meant gives (run_view r.run) (past_of (run_of r)) x.name (levels_in x.flow) h.view
      (ending.sit gives r 0 h ends).in_run main.unnamed
      (main.is_flow ∙ ap Some (sym (ending.flow-same r 0 xs x h.view (ending.here gives r 0 h ends))))
      (ap (given_of h.view.flow) (main.inputs h.view h.is_open)) (piece_values outs.outs) are

  levels : AreMainLevels gives (run_view r.run) (map level_view outs.levels.items)
  levels =
      levels-are_meant gives (run_view r.run) (past_of (run_of r)) x.name (levels_in x.flow) h.view
      (ending.sit gives r 0 h ends).in_run main.unnamed
      (main.is_flow ∙ ap Some (sym (ending.flow-same r 0 xs x h.view (ending.here gives r 0 h ends))))
      (map level_view outs.levels.items) kept

  now : Stands gives roomy xs
  now = stands-before gives r roomy b xs h.stands

  can-roomy : can_end (meant gives (run_of roomy)) (past_of (run_of roomy)) [] ≡ true
  can-roomy = subst (λ q. can_end (meant gives q) (past_of q) [] ≡ true) (sym b.same) can

  appends : Appends (run_of roomy) (run_of s) e
  appends = record {
    document = ap run_view (noted.rest.run ∙ changes.rest.run);
    more = [];
    names =
        names-noted (record closed { outs = Some outs }) s e noted
        ∙ names-outs closed (Some outs)
        ∙ names
        ∙ sym (append-nil (names_of roomy));
    entries = noted.entries ∙ ap (λ v. v.items ++ e ∷ []) changes.rest.entries;
  }

  document : run_view s.run ≡ run_view r.run
  document = ap run_view (noted.rest.run ∙ changes.rest.run) ∙ ap (λ (q : Run). q.document) b.same

  outs-are : (y : Instance) → IsAt ys 0 y → OutsAre gives (run_view s.run) s.outs (is_none y.view)
  outs-are y at =
      subst (λ o. OutsAre gives (run_view s.run) o (is_none y.view)) (sym noted.rest.outs) (
        ap (λ (a : Instance). is_none a.view) (one-at ys 0 y (shut x) at (at-set xs 0 x (shut x) h.there)),
        sound,
        outputs ∙ ap (λ a. map (λ o. plain o.1) (meaning gives a).outputs) (sym document),
        subst (λ a. AreMainLevels gives a (map level_view outs.levels.items)) (sym document) levels,
      )

  room-left : length s.entries.items + s.due ≤ vec_capacity s.entries
  room-left =
      let entries : length s.entries.items ≡ length roomy.entries.items + 1 =
      ap length (noted.entries ∙ ap (λ v. v.items ++ e ∷ []) changes.rest.entries)
      ∙ length-append roomy.entries.items (e ∷ []) in
      let left : s.due ≡ roomy.due = noted.rest.due ∙ due in
      let wide = ap vec_capacity changes.rest.entries in
      let more : vec_capacity closed.entries ≤ vec_capacity s.entries = noted.capacity in
      omega (arith, entries, left, wide, more, room)

  is-next : IsNext gives roomy s ys e (ended [])
  is-next = record {
    fits =
        fits-as_noted (record closed { outs = Some outs }) s e noted ys (fits-outs closed (Some outs) ys changes.fits);
    appends = appends;
    told =
        tells-ended (run_of roomy) 0 []
        (instance-named gives roomy xs now 0 x h.there ∙ ap Some main.unnamed);
    legal = can-roomy;
    stand =
        ending-main gives (run_view roomy.run) levels_in (past_of (run_of roomy)) xs now.stand x h.there can-roomy;
    failed =
        noted.rest.failed
        ∙ changes.rest.failed
        ∙ now.failed_is
        ∙ sym
        (ended-fails_none gives (run_view roomy.run) levels_in (past_of (run_of roomy)) xs now.stand [] can-roomy);
    room = room-left;
    outs = outs-are;
  }

  pub ends-main : SettlesIn gives r s 0 true
  ends-main = (
    (ys, stands-next gives roomy s xs ys now e (ended []) is-next refl (names-kept xs 0 x (shut x) h.there refl)),
    (e, subst (λ q. Appends q (run_of s) e) b.same appends, refl),
  )
