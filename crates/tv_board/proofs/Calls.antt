-- What the calls of a run say of a board: its run is x.
use Rattle.std.specs.Prelude.{◌≡◌, refl, ℕ, Bool, true, false, List, map, Result, Ok, Err, Option, Some, None, IfOk, OnErr, OnOk, MatchOption}
use Rattle.std.proofs.Common.{ap, subst, ◌∙◌}
use Rattle.tv_value.specs.Values.{Name}
use Rattle.tv_cell.specs.PieceValues.{piece_value}
use Rattle.tv_cell.specs.declared.piece.Piece.{Piece}
use Rattle.tv_gate.specs.Outcomes.{Giving}
use Rattle.tv_flow.specs.Views.{each}
use Rattle.tv_strategy.specs.Origins.{plain}
use Rattle.tv_history.specs.Histories.{is_done}
use Rattle.tv_history.specs.Calls.{IsNothingOffered, NothingSettles, Settles, hands_out, out_now, state_of}
use Rattle.tv_history.specs.Idle.{AreIdle}
use Rattle.tv_history.specs.Recalls.{IsRecalled}
use Rattle.tv_history.specs.Runs.{Appends, IsLegalRun, Run, meant, past_of}
use Rattle.tv_history.specs.Moves.{IsMove}
use Rattle.tv_history.specs.Settlements.{IsSettling}
use Rattle.tv_history.specs.declared.told.Moved.{Moved}
use Rattle.tv_history.specs.declared.told.Moved.TheVariants as moved
use Rattle.tv_history.specs.declared.ticket.Ticket.{Ticket}
use Rattle.tv_run.specs.Standing.{StandsOpen, StandsStill, run_of}
use Rattle.tv_run.specs.Turns.{HandsOut, IsOver, MovesTo, RecallsTo, SettlesTo, StaysAs}
use Rattle.tv_run.specs.declared.run.OpenRun.{OpenRun}

pub still : (gives : Giving) (r : OpenRun) → StandsOpen gives r → StandsStill gives r
still gives r st = (st.0, st.1)

pub legal-now : (gives : Giving) (r : OpenRun) (x : Run) → run_of r ≡ x → StandsStill gives r → IsLegalRun gives x
legal-now gives r x e st = subst (IsLegalRun gives) e st.1.legal

-- ---- a run that is over

module _ (gives : Giving) (r : OpenRun) (x : Run) (e : run_of r ≡ x) (over : IsOver gives (run_of r)) where
  pub over-settles : IsSettling gives x x false
  over-settles = (refl, subst (NothingSettles gives) e over.nothing_settles)

  pub over-offers : (x ≡ x) × IsNothingOffered gives x
  over-offers = (refl, subst (IsNothingOffered gives) e over.nothing_offered)

  pub over-out : out_now gives x ≡ 0
  over-out = subst (λ y. out_now gives y ≡ 0) e over.none_out

  pub over-idle : AreIdle gives x x
  over-idle = λ k a t h. absurd (over.no_state_out k a t (ap (λ y. state_of gives y k) e ∙ h))

  pub over-moves : IsMove gives x x moved.Nothing
  over-moves = record {
    same = refl;
    settled = subst (NothingSettles gives) e over.nothing_settles;
    nothing_offered = subst (IsNothingOffered gives) e over.nothing_offered;
  }

-- ---- calls

module _ (gives : Giving) (r s : OpenRun) (x : Run) (e : run_of r ≡ x) (st : StandsOpen gives r) where
  settled-still : (b : Bool) → SettlesTo gives r s b → StandsStill gives s
  settled-still true h = h.0
  settled-still false h = still gives s h.0.stands

  settled-told : (b : Bool) → SettlesTo gives r s b → IsSettling gives x (run_of s) b
  settled-told true h = subst (λ y. Settles y (run_of s)) e h.1
  settled-told false h = (h.0.same ∙ e, subst (NothingSettles gives) e h.1)

  pub settle-stands : {E : Type 0}
      (o : Result Bool E) → IfOk o (λ b. (g : Giving) → StandsOpen g r → SettlesTo g r s b)
      → OnErr o ((g : Giving) → StandsOpen g r → StaysAs g r s) → StandsStill gives s
  settle-stands (Ok b) h k = settled-still b (h gives st)
  settle-stands (Err n) h k = still gives s (k gives st).stands

  pub settle-tells : {E : Type 0}
      (o : Result Bool E) → IfOk o (λ b. (g : Giving) → StandsOpen g r → SettlesTo g r s b)
      → IfOk o (λ b. IsSettling gives x (run_of s) b)
  settle-tells (Ok b) h = settled-told b (h gives st)
  settle-tells (Err n) h = tt

  pub stays : {A E : Type 0} (o : Result A E) → OnErr o ((g : Giving) → StandsOpen g r → StaysAs g r s) → OnErr o (run_of s ≡ x)
  stays (Ok a) k = tt
  stays (Err n) k = (k gives st).same ∙ e

  pub hand-stands : (o : Option Ticket) → HandsOut gives r s o → StandsStill gives s
  hand-stands None h = still gives s h.0.stands
  hand-stands (Some t) h = still gives s h.0.stands

  pub hand-tells : (o : Option Ticket) → HandsOut gives r s o
      → MatchOption o ((run_of s ≡ x) × IsNothingOffered gives x) (λ t. Appends x (run_of s) (hands_out t))
  hand-tells None h = (h.0.same ∙ e, subst (IsNothingOffered gives) e h.1)
  hand-tells (Some t) h = subst (λ y. Appends y (run_of s) (hands_out t)) e h.0.appends

  pub hand-names : (o : Option Ticket) → HandsOut gives r s o → (run_of s).names ≡ x.names
  hand-names None h = ap (λ (y : Run). y.names) (h.0.same ∙ e)
  hand-names (Some t) h = h.1 ∙ ap (λ (y : Run). y.names) e

  moved-still : (m : Moved) → MovesTo gives r s m → StandsStill gives s
  moved-still moved.Settled h = h.0
  moved-still (moved.HandedOut t) h = still gives s h.0.0.stands
  moved-still moved.Nothing h = still gives s h.0.0.stands

  moved-told : (m : Moved) → MovesTo gives r s m → IsMove gives x (run_of s) m
  moved-told moved.Settled h = subst (λ y. Settles y (run_of s)) e h.1
  moved-told (moved.HandedOut t) h = record {
    settled = subst (NothingSettles gives) e h.1;
    handed = subst (λ y. Appends y (run_of s) (hands_out t)) e h.0.0.appends;
    names = h.0.1 ∙ ap (λ (y : Run). y.names) e;
  }
  moved-told moved.Nothing h = record {
    same = h.0.0.same ∙ e;
    settled = subst (NothingSettles gives) e h.1;
    nothing_offered = subst (IsNothingOffered gives) e h.0.1;
  }

  pub move-stands : {E : Type 0}
      (o : Result Moved E) → IfOk o (λ m. (g : Giving) → StandsOpen g r → MovesTo g r s m)
      → OnErr o ((g : Giving) → StandsOpen g r → StaysAs g r s) → StandsStill gives s
  move-stands (Ok m) h k = moved-still m (h gives st)
  move-stands (Err n) h k = still gives s (k gives st).stands

  pub move-tells : {E : Type 0}
      (o : Result Moved E) → IfOk o (λ m. (g : Giving) → StandsOpen g r → MovesTo g r s m)
      → IfOk o (λ m. IsMove gives x (run_of s) m)
  move-tells (Ok m) h = moved-told m (h gives st)
  move-tells (Err n) h = tt

  -- all tries taken back, or a refusal
  abbrev pub Recalls : ℕ → Type 0
  Recalls n = (g : Giving) → StandsOpen g r → RecallsTo g r s n

  abbrev pub Stays : Type 0
  Stays = (g : Giving) → StandsOpen g r → StaysAs g r s

  pub recall-stands : {E : Type 0} (o : Result ℕ E) → IfOk o Recalls → OnErr o Stays → StandsStill gives s
  recall-stands (Ok n) h k = still gives s (h gives st).stands
  recall-stands (Err m) h k = still gives s (k gives st).stands

  pub recall-counts : {E : Type 0} (o : Result ℕ E) → IfOk o Recalls → IfOk o (λ n. n ≡ out_now gives x)
  recall-counts (Ok n) h = (h gives st).count ∙ ap (out_now gives) e
  recall-counts (Err m) h = tt

  pub recall-tells : {E : Type 0} (o : Result ℕ E) → IfOk o Recalls → IfOk o (λ n. IsRecalled x (run_of s) n)
  recall-tells (Ok n) h = subst (λ y. IsRecalled y (run_of s) n) e (h gives st).recalled
  recall-tells (Err m) h = tt

  pub recall-names : {E : Type 0} (o : Result ℕ E) → IfOk o Recalls → OnErr o Stays → (run_of s).names ≡ x.names
  recall-names (Ok n) h k = (h gives st).names ∙ ap (λ (y : Run). y.names) e
  recall-names (Err m) h k = ap (λ (y : Run). y.names) ((k gives st).same ∙ e)

  pub recall-idle : {E : Type 0} (o : Result ℕ E) → IfOk o Recalls → OnOk o (AreIdle gives x (run_of s))
  recall-idle (Ok n) h = subst (λ y. AreIdle gives y (run_of s)) e (h gives st).idle
  recall-idle (Err m) h = tt

  pub recall-none_out : {E : Type 0} (o : Result ℕ E) → IfOk o Recalls → OnOk o (out_now gives (run_of s) ≡ 0)
  recall-none_out (Ok n) h = (h gives st).none_out
  recall-none_out (Err m) h = tt

-- ---- outputs

pub outputs-told : {E : Type 0} (gives : Giving) (r : OpenRun) (x : Run) → run_of r ≡ x → StandsStill gives r → is_done (past_of x) ≡ true
    → (o : Result (List (Name × Piece)) E)
    → IfOk o (λ os. (g : Giving) → StandsStill g r → is_done (past_of (run_of r)) ≡ true → each piece_value os ≡ map (λ p. (p.0, plain p.1)) (meant g (run_of r)).outputs)
    → IfOk o (λ os. each piece_value os ≡ map (λ p. (p.0, plain p.1)) (meant gives x).outputs)
outputs-told gives r x e st done (Ok os) h =
    h gives st (ap (λ (y : Run). is_done (past_of y)) e ∙ done) ∙ ap (λ y. map (λ p. (p.0, plain p.1)) (meant gives y).outputs) e
outputs-told gives r x e st done (Err m) h = tt
