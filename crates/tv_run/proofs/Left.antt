-- A run that has left the last of its busy instances stands as it did.
use Rattle.std.specs.Prelude.{◌≡◌, ℕ, ◌+◌, ◌-◌, ◌≤◌, List, false, is_none, length, map, slice_get, vec_capacity}
use Rattle.std.proofs.Common.{ap, arith, subst, sym, ◌∙◌}
use Rattle.tv_gate.specs.Outcomes.{Giving}
use Rattle.tv_check.specs.RunViews.{run_view}
use Rattle.tv_frame.specs.Tables.{levels_in}
use Rattle.tv_instances.specs.Forest.{Instance, Instances, Stand}
use Rattle.tv_history.specs.Runs.{IsLegalRun, Run, instances_of, past_of}
use Rattle.tv_run.specs.Settlements.{LeavesLast, SettlesLast}
use Rattle.tv_run.specs.Standing.{Fits, OutsAre, Stands, StandsOpen, failed_count}
use Rattle.tv_run.specs.Turns.{StaysAs}
use Rattle.tv_run.specs.declared.run.OpenRun.{OpenRun}
use Rattle.tv_run.proofs.Rooms.{stands-before}

stands-left : (gives : Giving) (r s : OpenRun) (xs : Instances) → LeavesLast r s → Fits s xs → Stands gives r xs
    → Stands gives s xs
stands-left gives r s xs b fits st = record {
  fits = fits;
  stand = subst (λ (q : Run). Stand gives q.document levels_in (past_of q) xs) (sym b.same) st.stand;
  named = subst (λ (q : Run). instances_of q.names q.entries ≡ map (λ (x : Instance). x.name) xs) (sym b.same) st.named;
  legal = subst (IsLegalRun gives) (sym b.same) st.legal;
  failed_is = b.failed ∙ st.failed_is ∙ ap (failed_count gives) (sym b.same);
  room =
      subst (λ l. length l.items + s.due ≤ vec_capacity l) (sym b.entries)
      (let h = st.room in let due = b.due in omega (arith, h, due));
  outs_are = λ x at.
      subst (λ (q : Run). OutsAre gives q.document s.outs (is_none x.view)) (sym b.same)
      (subst (λ o. OutsAre gives (run_view r.run) o (is_none x.view)) (sym b.outs) (st.outs_are x at));
}

pub left-stays : (gives : Giving) (r s z : OpenRun) → StandsOpen gives r → SettlesLast gives r s false → LeavesLast s z
    → StaysAs gives r z
left-stays gives r s z so last left =
    let xs = so.0 in
    let now = stands-before gives r s last.0 xs so.1 in
    let fits =
    left.fits xs now.fits
    (λ i x v e there is_open.
    last.2 xs so.1.fits i x v (ap (λ (l : List ℕ). slice_get l (length l - 1)) (sym last.1) ∙ e) there is_open) in
    record {
      stands = (xs, stands-left gives s z xs left fits now, left.outs ∙ last.0.outs ∙ so.2);
      same = left.same ∙ last.0.same;
      regions = λ n. left.regions n ∙ last.0.regions n;
    }
