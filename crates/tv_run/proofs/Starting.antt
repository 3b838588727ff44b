-- A run of which nothing is done stands: it has the main instance alone.
use Rattle.std.specs.Prelude.{◌≡◌, refl, ℕ, ◌+◌, ◌<◌, ◌≤◌, Bool, true, false, if◌then◌else◌, List, [], ◌∷◌, None, Option, Some, count_by, filter, is_none, is_some, length, map, option_and_then, option_map, slice_get, vec_capacity}
use Rattle.std.proofs.Common.{ap, arith, inl, inr, subst, sym, ◌∙◌}
use Rattle.std.proofs.lemmas.Option.{none-some, same_Some}
use Rattle.std.proofs.lemmas.Simd.{map-map}
use Rattle.tv_lemmas.specs.Members.{In}
use Rattle.tv_lemmas.proofs.Lists.{get-within}
use Rattle.tv_value.specs.Orders.{named}
use Rattle.tv_value.specs.Values.{Name, Value}
use Rattle.tv_value.specs.Views.{view}
use Rattle.tv_value.specs.declared.value.Value as code_value
use Rattle.tv_gate.specs.Outcomes.{Giving}
use Rattle.tv_dispatch.specs.Jobs.{Ask}
use Rattle.tv_flow.specs.DocumentViews.{document_view}
use Rattle.tv_flow.specs.Flows.{Document, Flow}
use Rattle.tv_flow.specs.Formed.{is_formed}
use Rattle.tv_flow.specs.declared.document.Document as code_document
use Rattle.tv_naming.specs.Numbers.{position}
use Rattle.tv_check.specs.RunViews.{run_view}
use Rattle.tv_check.specs.declared.run.CheckedRun.{CheckedRun}
use Rattle.tv_frame.specs.Tables.{levels_in}
use Rattle.tv_frame.specs.declared.frame.Frame.{Frame}
use Rattle.tv_frame_laws.proofs.Theirs.{first-theirs}
use Rattle.tv_model.specs.Agreeing.{FlowAgrees}
use Rattle.tv_model.specs.Jobs.{Job}
use Rattle.tv_model.specs.Lists.{first_of_list}
use Rattle.tv_model.specs.Meanings.{meaning}
use Rattle.tv_model.specs.RightDepths.{HaveTheseDepths}
use Rattle.tv_model.specs.Turns.{is_bounced}
use Rattle.tv_model.proofs.Tests.{true≠false}
use Rattle.tv_history.specs.Histories.{is_settled}
use Rattle.tv_history.specs.ReadOff.{has_failed}
use Rattle.tv_history.proofs.activities.Read.{documents-have_activities}
use Rattle.tv_history.proofs.activities.Tried.{document-tried}
use Rattle.tv_instances.specs.runs.Stated.{IsMainFlow}
use Rattle.tv_instances.proofs.runs.Starts.{inputs-are_in_order}
use Rattle.tv_instances.specs.seats.GoingOn.{IsNew}
use Rattle.tv_instances.specs.stands.States.{AreNamesOfJobs}
use Rattle.tv_instances.specs.Entries.{main_of}
use Rattle.tv_instances.specs.Forest.{Instance, IsAt, Stand, names_by}
use Rattle.tv_instances.proofs.Start.{starting}
use Rattle.tv_instances.proofs.forest_firsts.Names.{names-of_instances}
use Rattle.tv_history.specs.Runs.{IsLegalRun, Run, instances_of, past_of}
use Rattle.tv_history.specs.declared.entry.Entry.{Entry}
use Rattle.tv_instances.specs.declared.open.Open.{Open}
use Rattle.tv_run.specs.Changes.{AddsTo, CanAdd, IsOpenedOn}
use Rattle.tv_run.specs.Looks.{AreLooks}
use Rattle.tv_run.specs.Standing.{Fits, OutsAre, Stands, StandsOpen, failed_count, frame_at, names_from, names_of, numbered_as, numbers_of}
use Rattle.tv_run.specs.declared.instances.Instance as code
use Rattle.tv_run.specs.declared.run.OpenRun.{OpenRun}
use Rattle.tv_run.proofs.Names.{are-distinct, are-jobs, are-numbered}
use Rattle.tv_run.proofs.OutputLemmas.{named-at}

-- ---- nothing is settled

module _ (gives : Giving) (d : Document) (formed : is_formed d ≡ true) where
  -- each job is to be bounced, opens a flow or has an ask
  unsettled : (j : Job) → In j (meaning gives d).jobs → is_settled [] j ≡ false
  unsettled j i = by (is_bounced j.ending) refl (is_some j.opens) refl j.asks refl
    where
      by : (b : Bool) → is_bounced j.ending ≡ b → (o : Bool) → is_some j.opens ≡ o → (l : List Ask) → j.asks ≡ l
          → (if b then false else (if o then false else is_none (first_of_list l))) ≡ false
      by true e o f l g = refl
      by false e true f l g = refl
      by false e false f [] g =
          absurd (true≠false (sym (document-tried gives d (documents-have_activities d formed) j i e g) ∙ f))
      by false e false f (a ∷ l) g = refl

  none-of : (p : Job → Bool) (js : List Job) → ((j : Job) → In j js → p j ≡ false) → filter p js ≡ []
  none-of p [] h = refl
  none-of p (j ∷ js) h =
      ap (λ b. if b then j ∷ filter p js else filter p js) (h j (inl refl)) ∙ none-of p js (λ k i. h k (inr i))

  none-failed : count_by (λ (j : Job). has_failed [] j.name) (filter (is_settled []) (meaning gives d).jobs) ≡ 0
  none-failed =
      ap (count_by (λ (j : Job). has_failed [] j.name)) (none-of (is_settled []) (meaning gives d).jobs unsettled)

-- ---- no instance

abbrev frame_of : Option code.Instance → Option Frame
frame_of o = option_and_then (λ (c : code.Instance). option_map (λ (p : Open). p.frame) (slice_get c.open.items 0)) o

-- a run without an instance
module _ (r : OpenRun) (instances : r.instances.items ≡ []) (jobs : r.jobs.items ≡ []) where
  none-there : (i : ℕ) (c : code.Instance) → slice_get r.instances.items i ≡ Some c → ⊥
  none-there i c e = none-some c (sym (ap (λ l. slice_get l i) instances) ∙ e)

  pub none-fits : AreLooks (run_view r.run) r.looks.items → r.busy.items ≡ [] → r.pool.regions ≡ [] → r.due ≡ 0
      → Fits r []
  none-fits looks busy regions due = record {
    as_many = ap length instances;
    kept = λ i c x e at. absurd (none-there i c e);
    looks = looks;
    numbered = record {
      seats = λ a i n e. absurd (none-some (i, n) (sym (ap (λ l. slice_get (map numbered_as l) a) jobs) ∙ e));
      all = λ i n x s at e. absurd (none-some x at);
      apart = λ a b i n e f. absurd (none-some (i, n) (sym (ap (λ l. slice_get (map numbered_as l) a) jobs) ∙ e));
    };
    names_are =
        ap (names_from r []) jobs ∙ sym (ap (λ l. names_by [] (map numbered_as l)) jobs);
    behind = λ k n c m e at h. absurd (none-there n.instance c at);
    theirs = first-theirs r.pool (frame_at r) regions (λ i. ap (λ l. frame_of (slice_get l i)) instances);
    busy = λ i c e h. absurd (none-there i c e);
    busy_low = λ i h. absurd (subst (In i) busy h);
    due_is = due;
  }

-- ---- the main flow

-- the main flow of a checked run, by its number
pub main-there : (run : CheckedRun) (k : ℕ) → k ≡ position (run_view run).main (run_view run).flows
    → k < length (run_view run).flows
    → (f : Name × Flow) × (slice_get (run_view run).flows k ≡ Some f) × IsMainFlow (run_view run) f.1
main-there run k is low =
    let f = get-within (run_view run).flows k low in (
      f.0,
      f.1,
      record {
        formed = run.document.formed;
        accepted = run.kept.0;
        is_main =
            named-at (run_view run).main (run_view run).flows f.0 (ap (slice_get (run_view run).flows) (sym is) ∙ f.1);
      },
    )

-- the values given are those of the document's inputs
pub given-values : (d : Document) (doc : code_document.Document) (is : List (Name × code_value.Value)) (values : List Value)
    → values ≡ map (λ i. view i.1) is → is ≡ doc.inputs → document_view doc ≡ d → values ≡ map (λ x. x.1) d.inputs
given-values d doc is values e f g =
    e ∙ ap (map (λ (i : Name × code_value.Value). view i.1)) f
    ∙ sym (map-map (λ (x : Name × Value). x.1) (λ (i : Name × code_value.Value). (i.0, view i.1)) doc.inputs)
    ∙ ap (λ (q : Document). map (λ x. x.1) q.inputs) g

-- the main instance can be added first
pub main-can : (r : OpenRun) (k : ℕ) (f : Name × Flow) (values : List Value) → Fits r []
    → slice_get (run_view r.run).flows k ≡ Some f → IsMainFlow (run_view r.run) f.1
    → values ≡ map (λ x. x.1) (run_view r.run).inputs → CanAdd r [] k f.1 None [] values
main-can r k f values fits there main are = record {
  fits = fits;
  is_flow = ap (option_map (λ (x : Name × Flow). x.1)) there;
  named = refl;
  main = λ e. refl;
  start = λ plan of_flow.
      let g = inputs-are_in_order (run_view r.run) f.1 main in
      let right : HaveTheseDepths (map (λ x. x.1) f.1.inputs) values =
      subst (HaveTheseDepths (map (λ x. x.1) f.1.inputs)) (sym are) g.right in
      record {
        agrees = subst (FlowAgrees (run_view r.run).flows) (sym of_flow) g.agrees;
        right = subst (λ (h : Flow). HaveTheseDepths (map (λ x. x.1) h.inputs) values) (sym of_flow) right;
      };
}

-- ---- with the main instance

module _ (gives : Giving) (r s : OpenRun) (f : Flow) (values : List Value) (y : Instance)
    (opened : IsOpenedOn (run_view r.run) f values [] y) (adds : AddsTo r s (y ∷ [])) (main : IsMainFlow (run_view r.run) f)
    (are : values ≡ map (λ x. x.1) (run_view r.run).inputs) (empty : r.entries.items ≡ []) (failed : r.failed ≡ 0)
    (undone : r.outs ≡ None) (room : length s.entries.items + s.due + 1 ≤ vec_capacity s.entries) where
  abbrev d : Document
  d = run_view r.run

  -- of the run with these entries
  abbrev told : List Entry → Run
  told es = record { document = run_view s.run; names = names_of s; entries = es }

  nothing : s.entries.items ≡ []
  nothing = adds.entries ∙ empty

  same : run_view s.run ≡ d
  same = ap run_view adds.run

  is-main : y ≡ main_of opened.view y.seats
  is-main = λ i. record {
    name = opened.called i;
    flow = (opened.flow ∙ sym opened.of_flow) i;
    seats = y.seats;
    view = opened.is_open i;
  }

  stand : Stand gives (run_view s.run) levels_in [] (y ∷ [])
  stand =
      subst (λ e. Stand gives e levels_in [] (y ∷ [])) (sym same)
      (subst (λ x. Stand gives d levels_in [] (x ∷ [])) (sym is-main)
      (starting gives d levels_in opened.view y.seats (subst (IsMainFlow d) (sym opened.of_flow) main)
      ((inputs-are_in_order d f main).only opened.view.inputs opened.names (opened.inputs ∙ are))
      (subst (λ g. IsNew d (levels_in g) opened.view y.seats) (sym opened.of_flow) opened.new)))

  names : AreNamesOfJobs gives (run_view s.run) [] (names_of s)
  names =
      subst (AreNamesOfJobs gives (run_view s.run) []) (sym adds.fits.names_are)
      (names-of_instances gives (run_view s.run) levels_in [] (y ∷ []) stand (numbers_of s) adds.fits.numbered)

  legal : IsLegalRun gives (told [])
  legal = record {
    legal = refl;
    distinct = are-distinct gives (run_view s.run) [] (names_of s) names;
    jobs = are-jobs gives (run_view s.run) [] (names_of s) names;
    numbered = are-numbered gives (run_view s.run) [] (names_of s) names;
    instances = refl;
    numbers = refl;
  }

  outs : (x : Instance) → IsAt (y ∷ []) 0 x → OutsAre gives (run_view s.run) s.outs (is_none x.view)
  outs x at =
      subst (λ o. OutsAre gives (run_view s.run) o (is_none x.view)) (sym (adds.outs ∙ undone))
      (ap (λ (z : Instance). is_none z.view) (sym (same_Some y x at)) ∙ ap is_none opened.is_open)

  main-stands : Stands gives s (y ∷ [])
  main-stands = record {
    fits = adds.fits;
    stand = subst (λ es. Stand gives (run_view s.run) levels_in (past_of (told es)) (y ∷ [])) (sym nothing) stand;
    named = ap (instances_of (names_of s)) nothing ∙ ap (λ n. n ∷ []) (sym opened.called);
    legal = subst (λ es. IsLegalRun gives (told es)) (sym nothing) legal;
    failed_is =
        adds.failed ∙ failed
        ∙ sym
        (ap (λ es. failed_count gives (told es)) nothing ∙ none-failed gives (run_view s.run) s.run.document.formed);
    room = omega (arith, room);
    outs_are = outs;
  }

  pub main-open : StandsOpen gives s
  main-open = (y ∷ [], main-stands, adds.outs ∙ undone)
