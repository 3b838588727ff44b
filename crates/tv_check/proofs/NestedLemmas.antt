-- Ports that are the same, and flows that were measured.
use Rattle.std.proofs.Common.{◌≡◌, ◌∙◌, refl, sym, ap, subst, ℕ, zero, suc, ◌<◌, ◌+◌, List, [], ◌∷◌, length, map, drop, Bool, true, false, not, ◌&&◌, Option, Some, None, option_map, unwrap_or, arith, get_or, slice_get, if◌then◌else◌}
use Rattle.std.proofs.lemmas.Option.{slice_get-get_or}
use Rattle.std.specs.Prelude.{◌==◌, is_some}
use Rattle.std.specs.Option.{option_map_or}
use Rattle.std.specs.Cmp.Lexicographic.{pointwise}
use Rattle.std.proofs.lemmas.Bool.{false_from_ne_true}
use Rattle.tv_lemmas.proofs.Options.{is_some-map}
use Rattle.tv_lemmas.proofs.Lists.{get-read}
use Rattle.tv_value.specs.Values.{Name}
use Rattle.tv_value.specs.Orders.{same_name, named}
use Rattle.tv_value.specs.Activities.{Activity, service, nested}
use Rattle.tv_flow.specs.Flows.{StepInput, Step, Flow, Document}
use Rattle.tv_flow.specs.Views.{each, flow_view, step_input_view}
use Rattle.tv_flow.specs.DocumentViews.{document_view}
use Rattle.tv_flow.specs.declared.document.Document.{Document as Code}
use Rattle.tv_flow.specs.declared.document.Flow.{Flow as CodeFlow}
use Rattle.tv_flow.specs.declared.document.StepInput.{StepInput as CodeInput}
use Rattle.tv_naming.specs.Faulty.{nested_ports, at_activity, plainly, with_numbers}
use Rattle.tv_naming.specs.Naming.{has_name, complain_if}
use Rattle.tv_check.specs.Depthwise.{same_ports, fits_flow, nested_complaints}
use Rattle.tv_naming.specs.Numbers.{number_in, position}
use Rattle.tv_check.specs.Measured.{IsWorked, AreWorked, is_measured, opens_measured, fits_activity}
use Rattle.tv_naming.specs.Told.{StopsAt}
use Rattle.tv_naming.specs.declared.faults.CheckRefused.{CheckRefused}
use Rattle.tv_check.specs.declared.measured.Measured.{Measured}
use Rattle.tv_naming.proofs.ByPosition.{position-each, IsAt, number-found, number-absent}
use Rattle.tv_check.proofs.Links.{length-each, each-get}
use Rattle.tv_naming.proofs.Kept.{named-each}

-- ---- the same ports

pub ports-next : (ps qs : List (Name × ℕ)) (i : ℕ) (p q : Name × ℕ) → slice_get ps i ≡ Some p → slice_get qs i ≡ Some q → same_ports (drop i ps) (drop i qs) ≡ (same_name p.0 q.0 && p.1 == q.1 && same_ports (drop (i + 1) ps) (drop (i + 1) qs))
ports-next ps qs i p q e f = let n : suc i ≡ i + 1 = omega arith in subst (λ j. same_ports (drop i ps) (drop i qs) ≡ (same_name p.0 q.0 && p.1 == q.1 && same_ports (drop j ps) (drop j qs))) n (by_suc ps qs i e f)
  where
    by_suc : (xs ys : List (Name × ℕ)) (k : ℕ) → slice_get xs k ≡ Some p → slice_get ys k ≡ Some q → same_ports (drop k xs) (drop k ys) ≡ (same_name p.0 q.0 && p.1 == q.1 && same_ports (drop (suc k) xs) (drop (suc k) ys))
    by_suc [] ys k e f = cc
    by_suc (x ∷ xs) [] k e f = cc
    by_suc (x ∷ xs) (y ∷ ys) zero e f =
        let a : x ≡ p = cc in
        let b : y ≡ q = cc in
        subst (λ (u : Name × ℕ). same_ports (x ∷ xs) (y ∷ ys) ≡ (same_name u.0 q.0 && u.1 == q.1 && same_ports xs ys)) a (subst (λ (u : Name × ℕ). same_ports (x ∷ xs) (y ∷ ys) ≡ (same_name x.0 u.0 && x.1 == u.1 && same_ports xs ys)) b refl)
    by_suc (x ∷ xs) (y ∷ ys) (suc k) e f = by_suc xs ys k e f

same-length : (ps qs : List (Name × ℕ)) → same_ports ps qs ≡ true → length ps ≡ length qs
same-length [] [] e = refl
same-length [] (q ∷ qs) e = cc
same-length (p ∷ ps) [] e = cc
same-length (p ∷ ps) (q ∷ qs) e = ap suc (same-length ps qs (right _ _ e))
  where
    right : (a b : Bool) → (a && b) ≡ true → b ≡ true
    right true b h = h
    right false b h = cc

pub ports-lengths : (ps qs : List (Name × ℕ)) → (length ps ≡ length qs → ⊥) → same_ports ps qs ≡ false
ports-lengths ps qs h = false_from_ne_true (same_ports ps qs) (λ e. h (same-length ps qs e))

pub ports-pointwise : (ps qs : List (Name × ℕ)) → pointwise (λ a b. same_name a.0 b.0 && a.1 == b.1) ps qs ≡ same_ports ps qs
ports-pointwise [] [] = refl
ports-pointwise [] (q ∷ qs) = refl
ports-pointwise (p ∷ ps) [] = refl
ports-pointwise (p ∷ ps) (q ∷ qs) = ap (λ b. same_name p.0 q.0 && p.1 == q.1 && b) (ports-pointwise ps qs)

-- ---- the flows measured so far

pub worked-length : (fs : List (Name × Flow)) (ws : List (Option Measured)) → AreWorked fs ws → length ws ≡ length fs
worked-length [] [] h = refl
worked-length [] (w ∷ ws) h = absurd h
worked-length (f ∷ fs) [] h = absurd h
worked-length (f ∷ fs) (w ∷ ws) h = ap suc (worked-length fs ws h.1)

pub worked-at : (fs : List (Name × Flow)) (ws : List (Option Measured)) (i : ℕ) (f : Name × Flow) (w : Option Measured) → AreWorked fs ws → slice_get fs i ≡ Some f → slice_get ws i ≡ Some w → IsWorked f.1 w
worked-at [] ws i f w h e g = cc
worked-at (x ∷ fs) [] i f w h e g = absurd h
worked-at (x ∷ fs) (y ∷ ws) zero f w h e g =
    let a : x ≡ f = cc in
    let b : y ≡ w = cc in
    subst (λ (u : Name × Flow). IsWorked u.1 w) a (subst (λ v. IsWorked x.1 v) b h.0)
worked-at (x ∷ fs) (y ∷ ws) (suc i) f w h e g = worked-at fs ws i f w h.1 e g

-- ---- numbers of flows

pub number-each : {A B : Type 0} (g : A → B) (n : Name) (xs : List (Name × A)) → number_in (each g xs) n ≡ number_in xs n
number-each g n xs =
    ap (λ b. if b then Some (position n (each g xs)) else None) (ap is_some (named-each g n xs) ∙ is_some-map g (named n xs))
    ∙ ap (λ k. if has_name xs n then Some k else None) (position-each g n xs)

module _ (d : Code) (ws : List (Option Measured)) (h : AreWorked (document_view d).flows ws) where
  pub entry-there : (k : ℕ) → k < length d.flows → k < length ws
  entry-there k lt = omega (arith, worked-length (document_view d).flows ws h, length-each flow_view d.flows)

  pub entry-worked : (xs : List (Name × CodeFlow)) (k : ℕ) (e : Name × CodeFlow) (w : Option Measured) → xs ≡ d.flows → k < length d.flows → w ≡ get_or ws k w → IsWorked (flow_view (get_or xs k e).1) w
  entry-worked xs k e w is lt at =
      let x = get_or d.flows k e in
      subst (λ ys. IsWorked (flow_view (get_or ys k e).1) w) (sym is)
      (worked-at (document_view d).flows ws k (x.0, flow_view x.1) w h (each-get flow_view d.flows k x (slice_get-get_or d.flows k e lt)) (get-read ws k w (entry-there k lt) at))

  pub entry-measured : (n : Name) (k : ℕ) (w : Option Measured) → opens_measured (document_view d) ws (nested n) ≡ true → number_in d.flows n ≡ Some k → k < length d.flows → w ≡ get_or ws k w → is_some w ≡ true
  entry-measured n k w o e lt at =
      let there : is_measured ws k ≡ true = subst (λ i. option_map_or (is_measured ws) i true ≡ true) (number-each flow_view n d.flows ∙ e) o in
      subst (λ v. is_some (unwrap_or v None) ≡ true) (get-read ws k w (entry-there k lt) at) there

-- the flow of a name that has a number
pub flow-there : (d : Code) (s : Step) (xs : List (Name × CodeFlow)) (n : Name) (k : ℕ) (e : Name × CodeFlow) → xs ≡ d.flows → number_in d.flows n ≡ Some k → fits_flow s (flow_view (get_or xs k e).1) ≡ fits_activity (document_view d) s (nested n)
flow-there d s xs n k e is m =
    let at : IsAt n d.flows k (named n d.flows) = number-found d.flows n k m in
    ap (λ ys. fits_flow s (flow_view (get_or ys k e).1)) is
    ∙ sym (ap (λ o. option_map_or (fits_flow s) o false) (named-each flow_view n d.flows ∙ ap (option_map flow_view) (at.thing e)))

pub flow-absent : (d : Code) (s : Step) (n : Name) → number_in d.flows n ≡ None → false ≡ fits_activity (document_view d) s (nested n)
flow-absent d s n e = sym (ap (λ o. option_map_or (fits_flow s) o false) (named-each flow_view n d.flows ∙ ap (option_map flow_view) (number-absent d.flows n e)))

-- ---- ports and activities of a step

pub inputs-seen : (is : List (Name × CodeInput)) → map {B = Name × ℕ} (λ (i : Name × StepInput). (i.0, i.1.depth)) (each step_input_view is) ≡ map {B = Name × ℕ} (λ (i : Name × CodeInput). (i.0, i.1.depth)) is
inputs-seen [] = refl
inputs-seen (i ∷ is) = let x : Name × ℕ = (i.0, i.1.depth) in ap (λ xs. x ∷ xs) (inputs-seen is)

activity-told : (d : Document) (f n : Name) (s : Step) (k : ℕ) (a : Activity) → nested_complaints d f n s (k, a) ≡ complain_if (not (fits_activity d s a)) (plainly nested_ports (at_activity f n k))
activity-told d f n s k (service m) = refl
activity-told d f n s k (nested g) = refl

pub activity-silent : (d : Document) (f n : Name) (s : Step) (k : ℕ) (a : Activity) → fits_activity d s a ≡ true → nested_complaints d f n s (k, a) ≡ []
activity-silent d f n s k a e = activity-told d f n s k a ∙ ap (λ b. complain_if (not b) (plainly nested_ports (at_activity f n k))) e

pub activity-stops : (d : Document) (f n : Name) (s : Step) (k : ℕ) (a : Activity) (e : CheckRefused) → fits_activity d s a ≡ false → StopsAt (with_numbers nested_ports (at_activity f n k) 0 0 ∷ []) e → StopsAt (nested_complaints d f n s (k, a)) e
activity-stops d f n s k a e h t = subst (λ cs. StopsAt cs e) (sym (activity-told d f n s k a ∙ ap (λ b. complain_if (not b) (plainly nested_ports (at_activity f n k))) h)) t
