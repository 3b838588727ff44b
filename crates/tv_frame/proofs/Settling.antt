-- A frame in which the thing that waits last is settled.
use Rattle.std.specs.Prelude.{◌≡◌, refl, ℕ, ◌-◌, ◌<◌, ◌≤◌, true, List, [], ◌∷◌, ◌++◌, length, nat_lt, take, Some, slice_get, slice_index_or}
use Rattle.std.proofs.Common.{sym, ap, subst, ◌∙◌, arith}
use Rattle.std.proofs.lemmas.List.{length-map}
use Rattle.std.proofs.lemmas.Option.{get_or_from_slice_get, same_Some}
use Rattle.tv_value.specs.Nested.{Place}
use Rattle.tv_value.specs.Values.{ErrorDoc, Name, holds_fault}
use Rattle.tv_flow.specs.Flows.{Flow, Step}
use Rattle.tv_flow.specs.Views.{flow_view}
use Rattle.tv_pool.specs.Pool.{number_of}
use Rattle.tv_stream.specs.nodes.Calls.{KeepsRegions}
use Rattle.tv_cell.specs.declared.piece.Piece.{Piece}
use Rattle.tv_cell.specs.PieceValues.{piece_value, piece_values}
use Rattle.tv_cell.specs.Soundness.{AreSound}
use Rattle.tv_check.specs.declared.plans.FlowPlan.{FlowPlan}
use Rattle.tv_matching.specs.Matchers.{Outcome}
use Rattle.tv_match.specs.declared.kinds.Kind.{Kind}
use Rattle.tv_match.specs.declared.kinds.Kind.TheVariants.{Job, Closed, Passed}
use Rattle.tv_match.specs.Seen.{outcome_kind}
use Rattle.tv_outputs.specs.Changes.{AllCanArrive, AllCanClose, AreMarked, Arrive, Close, no_value}
use Rattle.tv_outputs.specs.Known.{Nodes, depths, known, needed}
use Rattle.tv_outputs.specs.Kept.{Stand}
use Rattle.tv_intake.specs.declared.intakes.Intakes.{Intakes}
use Rattle.tv_intake.specs.Intaken.{waiting_things}
use Rattle.tv_model.specs.instance.Events as events
use Rattle.tv_model.specs.instance.Events.{Event, event_place, fault_set}
use Rattle.tv_framing.specs.Views.{View}
use Rattle.tv_match.specs.Stated.{outcome_place}
use Rattle.tv_frame.specs.declared.frame.Frame.{Frame}
use Rattle.tv_frame.specs.declared.events.Settled as settled
use Rattle.tv_frame.specs.Calls.{ArePassed, GoesOn, HasPieces, IsReadyToSettle, Settles, Tells}
use Rattle.tv_frame.specs.Prepared.{AreCounted, IsReadyFor, event_value}
use Rattle.tv_frame.specs.Shown.{CanTurnWhole, HasOtherTrees, IsShown, values_put}
use Rattle.tv_frame.specs.Tables.{first_tree, levels_in, trees_of}
use Rattle.tv_frame.proofs.Keeping.{first-is, kept-wired}
use Rattle.tv_frame.proofs.Putting.{can-put, right-length}
use Rattle.tv_frame.proofs.TreesPut.{passed-put, put-closed, put-passed}
use Rattle.tv_frame.proofs.EventLemmas.{IsPrepared, arrive-so, can-turn, close-so, firsts-read, goes-on, is-after, room-for}
use Rattle.tv_frame.proofs.SettledLemmas.{last-split, left-by}

-- other trees in a frame that is prepared
pub prepared-then : (f m after : Frame) (left : List (ℕ × Outcome)) → HasOtherTrees m after → IsPrepared f m left → IsPrepared f after left
prepared-then f m after left o p = record {
  region = o.region ∙ p.region;
  tables = o.tables ∙ p.tables;
  inputs = o.inputs ∙ p.inputs;
  faulty_inputs = o.faulty_inputs ∙ p.faulty_inputs;
  matchers = ap (λ (i : Intakes). i.matchers.items) o.intakes ∙ p.matchers;
  jobs = ap (λ (i : Intakes). i.jobs.items) o.intakes ∙ p.jobs;
  waits = ap waiting_things o.intakes ∙ p.waits;
  idle = o.idle ∙ p.idle;
  endings = o.endings ∙ p.endings;
  spread = o.spread ∙ p.spread;
  whole = o.whole ∙ p.whole;
  outs_ahead = o.outs_ahead ∙ p.outs_ahead;
  outs = o.outs ∙ p.outs;
}

passes-by : (s : Name × Step) (e : Event) (q : Place) (kind : Kind) → ((m : ℕ) → kind ≡ Closed m → ⊥) → Settles s e (outcome_kind q kind) → (d : ErrorDoc) × (e ≡ fault_set s.0 q d)
passes-by s e q (Job b) other h = absurd h
passes-by s e q (Closed m) other h = absurd (other m refl)
passes-by s e q (Passed l) other h = h

-- the code read the thing that waits last, and took the place that was put aside
module _ (flows : List (Name × Flow)) (plan : FlowPlan) (pool : Nodes) (f : Frame) (v : View) (n : ℕ) (s : Name × Step) (e : Event) (h : IsReadyToSettle flows plan pool f v n s e)
    (count step : ℕ) (q : Place) (kind : Kind) (counted : count ≡ length (waiting_things f.intakes)) (found : slice_get (waiting_things f.intakes) (count - 1) ≡ Some (step, outcome_kind q kind)) where
  abbrev pub left : List (ℕ × Outcome)
  left = take (length (waiting_things f.intakes) - 1) (waiting_things f.intakes)

  last-is : ◌≡◌ {A = ℕ × Outcome} (step, outcome_kind q kind) (n, h.outcome)
  last-is = same_Some (step, outcome_kind q kind) (n, h.outcome) (sym found ∙ ap (λ c. slice_get (waiting_things f.intakes) (c - 1)) counted ∙ h.last)

  pub step-is : step ≡ n
  step-is = ap (λ (x : ℕ × Outcome). x.0) last-is

  outcome-is : outcome_kind q kind ≡ h.outcome
  outcome-is = ap (λ (x : ℕ × Outcome). x.1) last-is

  settles : Settles s e (outcome_kind q kind)
  settles = subst (Settles s e) (sym outcome-is) h.settles

  split : waiting_things f.intakes ≡ left ++ (n, outcome_kind q kind) ∷ []
  split = last-split (waiting_things f.intakes) (n, outcome_kind q kind) (h.last ∙ ap (λ o. Some (n, o)) (sym outcome-is))

  place-of : (k : Kind) → outcome_place (outcome_kind q k) ≡ q
  place-of (Job b) = refl
  place-of (Closed m) = refl
  place-of (Passed l) = refl

  pub settle-reads : step < length f.tables.firsts.items
  settle-reads = subst (λ i. i < length f.tables.firsts.items) (sym step-is) (firsts-read flows plan pool f v n s e h.ready)

  pub settle-turns : f.ahead.whole ≡ true → CanTurnWhole plan.wiring step f.endings
  settle-turns w = subst (λ i. CanTurnWhole plan.wiring i f.endings) (sym step-is) (can-turn flows plan pool f v n s e h.ready w)

  module _ (first : ℕ) (read : first ≡ slice_index_or f.tables.firsts.items step first) where
    first-so : first ≡ first_tree v.flow.steps n
    first-so = first-is flows plan pool f v n s h.ready.keeps h.ready.at first (read ∙ ap (λ i. slice_index_or f.tables.firsts.items i first) step-is)

    -- ---- a list

    module _ (m : ℕ) (is_list : kind ≡ Closed m) where
      pub closes : e ≡ events.closed s.0 q m
      closes = subst (λ k. Settles s e (outcome_kind q k)) is_list settles

      ready-list : IsReadyFor flows plan pool f v n s (events.closed s.0 q m)
      ready-list = subst (IsReadyFor flows plan pool f v n s) closes h.ready

      module _ (place : Place) (taken : Some place ≡ f.ahead.place) (trees : ℕ) (many : (t : Name × Step) → slice_get (flow_view plan.flow).steps step ≡ Some t → trees ≡ trees_of t) where
        place-so : place ≡ q
        place-so = same_Some place (event_place e) (taken ∙ h.place) ∙ ap event_place closes

        trees-so : trees ≡ trees_of s
        trees-so = many s (ap (λ (x : Flow). slice_get x.steps step) (sym h.ready.keeps.flow_is) ∙ ap (slice_get v.flow.steps) step-is ∙ h.ready.at)

        can-close : AllCanClose (first_tree v.flow.steps n) (trees_of s) q m (depths f.outputs) (known pool f.outputs)
        can-close =
            close-so flows plan pool f v n s (events.closed s.0 q m) ready-list q m
            (right-length flows plan pool f v n s h.ready.keeps h.ready.at (events.closed s.0 q m) ready-list.next ready-list.named)
            (can-put flows plan pool f v n s h.ready.keeps h.ready.at (events.closed s.0 q m) ready-list.next ready-list.named)

        pub list-closes : AllCanClose first trees place m (depths f.outputs) (known pool f.outputs)
        list-closes =
            subst (λ (x : ℕ × ℕ × Place). AllCanClose x.0 x.1 x.2 m (depths f.outputs) (known pool f.outputs))
            (λ i. (sym first-so i, sym trees-so i, sym place-so i)) can-close

        pub list-room : needed (depths f.outputs) first trees ≤ pool.spare
        list-room = subst (λ i. needed (depths f.outputs) i trees ≤ pool.spare) (sym first-so) (room-for flows plan pool f v n s e h.ready trees trees-so)

        pub list-goes :
            (after : Nodes) (mid g : Frame) → IsShown plan.wiring step mid g → IsPrepared f mid left
            → KeepsRegions pool after (number_of f.region) → Stand after mid.outputs f.region → depths mid.outputs ≡ depths f.outputs
            → Close first trees place m (known pool f.outputs) (known after mid.outputs)
            → GoesOn flows plan after g v e × Tells (settled.Settled.Closed step place m) n e
        list-goes after mid g shown prepared regions stand deep closed =
            subst (λ (x : Event). GoesOn flows plan after g v x × Tells (settled.Settled.Closed step place m) n x) (sym closes) (
              goes-on flows plan pool after f g v n s (events.closed s.0 q m) left ready-list tt
                  (is-after f mid left prepared plan pool after g v n s (events.closed s.0 q m) regions stand deep
                  (put-closed v s q m (first_tree v.flow.steps n) (known pool f.outputs) (known after mid.outputs)
                  (subst (λ (x : ℕ × ℕ × Place). Close x.0 x.1 x.2 m (known pool f.outputs) (known after mid.outputs)) (λ i. (first-so i, trees-so i, place-so i)) closed))
                  (λ c t at. left-by v (kept-wired flows plan pool f v h.ready.keeps) n s h.ready.at (waiting_things f.intakes) left (outcome_kind q kind) split c t at q (place-of kind))
                  (subst (λ i. IsShown plan.wiring i mid g) step-is shown)),
              (step-is, place-so, refl),
            )

    -- ---- a fault

    module _ (other : (m : ℕ) → kind ≡ Closed m → ⊥) (place : Place) (taken : Some place ≡ f.ahead.place) (ps : List Piece) (aside : Some ps ≡ f.ahead.pieces) where
      passes : (d : ErrorDoc) × (e ≡ fault_set s.0 q d)
      passes = passes-by s e q kind other settles

      abbrev it : Event
      it = fault_set s.0 q passes.0

      ready-fault : IsReadyFor flows plan pool f v n s it
      ready-fault = subst (IsReadyFor flows plan pool f v n s) passes.1 h.ready

      fault-place : place ≡ q
      fault-place = same_Some place (event_place e) (taken ∙ h.place) ∙ ap event_place passes.1

      are-passed : ArePassed v s q passes.0 ps
      are-passed = subst (HasPieces v s it) (sym aside) (subst (λ x. HasPieces v s x f.ahead.pieces) passes.1 h.pieces)

      pub fault-sound : AreSound ps
      fault-sound = are-passed.sound

      values-many : length (piece_values ps) ≡ trees_of s
      values-many = length-map ps piece_value ∙ are-passed.many

      put-many : length (values_put (piece_values ps)) ≡ trees_of s
      put-many = ap length (passed-put (piece_values ps) s values-many) ∙ values-many

      pub fault-arrives : AllCanArrive first (length (values_put (piece_values ps))) place (depths f.outputs) (known pool f.outputs)
      fault-arrives =
          let l : length q < levels_in v.flow s.0 = right-length flows plan pool f v n s h.ready.keeps h.ready.at it ready-fault.next ready-fault.named in
          subst (λ (x : ℕ × Place). AllCanArrive x.0 (length (values_put (piece_values ps))) x.1 (depths f.outputs) (known pool f.outputs)) (λ i. (sym first-so i, sym fault-place i))
          (arrive-so flows plan pool f v n s it ready-fault q (length (values_put (piece_values ps))) put-many (omega (arith, l))
          (can-put flows plan pool f v n s h.ready.keeps h.ready.at it ready-fault.next ready-fault.named))

      -- each of them holds a fault, as was counted
      pub fault-marked : AreMarked place (piece_values ps) f.ahead.faults.items
      fault-marked =
          let counts = f.ahead.faults.items in
          let c : AreCounted s it counts = ready-fault.counted in
          record {
            many = subst (λ m. m ≤ length counts) (sym values-many) c.0;
            each = λ k lt.
                let among : k < trees_of s = subst (λ m. k < m) values-many lt in
                ap (λ p. nat_lt (length p) (slice_index_or counts k 0)) fault-place
                ∙ c.1 k among
                ∙ sym (ap holds_fault (get_or_from_slice_get (piece_values ps) k (event_value v s it k) no_value (are-passed.each k among)));
          }

      pub fault-room : needed (depths f.outputs) first (length (values_put (piece_values ps))) ≤ pool.spare
      fault-room = subst (λ i. needed (depths f.outputs) i (length (values_put (piece_values ps))) ≤ pool.spare) (sym first-so) (room-for flows plan pool f v n s e h.ready (length (values_put (piece_values ps))) put-many)

      pub fault-goes :
          (after : Nodes) (mid g : Frame) → IsShown plan.wiring step mid g → IsPrepared f mid left
          → KeepsRegions pool after (number_of f.region) → Stand after mid.outputs f.region → depths mid.outputs ≡ depths f.outputs
          → Arrive first place (values_put (piece_values ps)) (known pool f.outputs) (known after mid.outputs)
          → GoesOn flows plan after g v e × Tells (settled.Settled.Passed step place) n e
      fault-goes after mid g shown prepared regions stand deep arrived =
          subst (λ (x : Event). GoesOn flows plan after g v x × Tells (settled.Settled.Passed step place) n x) (sym passes.1) (
            goes-on flows plan pool after f g v n s it left ready-fault tt
                (is-after f mid left prepared plan pool after g v n s it regions stand deep
                (put-passed v s q passes.0 (piece_values ps) (first_tree v.flow.steps n) (known pool f.outputs) (known after mid.outputs) values-many are-passed.each
                (subst (λ (x : ℕ × Place). Arrive x.0 x.1 (values_put (piece_values ps)) (known pool f.outputs) (known after mid.outputs)) (λ i. (first-so i, fault-place i)) arrived))
                (λ c t at. left-by v (kept-wired flows plan pool f v h.ready.keeps) n s h.ready.at (waiting_things f.intakes) left (outcome_kind q kind) split c t at q (place-of kind))
                (subst (λ i. IsShown plan.wiring i mid g) step-is shown)),
            (step-is, fault-place),
          )
