-- The depths that links deliver by a table.
use Rattle.std.proofs.Common.{◌≡◌, ◌∙◌, refl, sym, ap, subst, ℕ, zero, suc, ◌<◌, ◌+◌, List, [], ◌∷◌, length, map, take, Bool, true, false, not, Option, Some, None, option_map, unwrap_or, arith, get_or, slice_get, if◌then◌else◌}
use Rattle.std.proofs.lemmas.Option.{slice_get-get_or}
use Rattle.std.proofs.lemmas.Bool.Decides.{nat_tests}
use Rattle.std.specs.Prelude.{◌==◌}
use Rattle.std.specs.List.{find}
use Rattle.std.specs.Option.{option_map_or}
use Rattle.tv_lemmas.proofs.Lists.{get-map}
use Rattle.tv_value.specs.Values.{Name}
use Rattle.tv_value.specs.Orders.{named}
use Rattle.tv_flow.specs.Formed.{is_step, is_flow}
use Rattle.tv_flow.specs.Views.{each, step_view, flow_view}
use Rattle.tv_flow.specs.declared.document.Step.{Step}
use Rattle.tv_flow.specs.declared.document.Flow.{Flow}
use Rattle.tv_naming.specs.Faulty.{Where, merge_depths, with_numbers}
use Rattle.tv_check.specs.Depthwise.{merge_difference}
use Rattle.tv_naming.specs.declared.faults.CheckRefused.{CheckRefused}
use Rattle.tv_naming.specs.Told.{StopsAt}
use Rattle.tv_naming.specs.Numbers.{number_in}
use Rattle.tv_check.specs.Tables.{with_level, known_steps, IsTable, is_level, depth_of_output}
use Rattle.tv_naming.proofs.ByPosition.{IsAt, number-found, number-absent}
use Rattle.tv_naming.proofs.FormedParts.{steps-ascend, step-at, passes}
use Rattle.tv_naming.proofs.Kept.{named-each}
use Rattle.tv_check.proofs.Tables.{found, found-at, found-none}

pub length-each : {A B : Type 0} (g : A → B) (xs : List (Name × A)) → length (each g xs) ≡ length xs
length-each g [] = refl
length-each g (x ∷ xs) = ap suc (length-each g xs)

pub each-get : {A B : Type 0} (g : A → B) (xs : List (Name × A)) (i : ℕ) (x : Name × A) → slice_get xs i ≡ Some x → slice_get (each g xs) i ≡ Some (x.0, g x.1)
each-get {A = A} {B = B} g xs i x e = let v : Name × A → Name × B = λ y. (y.0, g y.1) in get-map v xs i x e

-- the step of a number, as it is seen
pub seen-at : (f : Flow) (i : ℕ) (d : Name × Step) → i < length f.steps → slice_get (flow_view f).steps i ≡ Some ((get_or f.steps i d).0, step_view (get_or f.steps i d).1)
seen-at f i d lt = get-map (λ (e : Name × Step). (e.0, step_view e.1)) f.steps i (get_or f.steps i d) (slice_get-get_or f.steps i d lt)

pub form-at : (f : Flow) (xs : List (Name × Step)) (i : ℕ) (d : Name × Step) → is_flow (flow_view f) ≡ true → xs ≡ f.steps → i < length f.steps → is_step (step_view (get_or xs i d).1) ≡ true
form-at f xs i d h e lt =
    subst (λ ys. is_step (step_view (get_or ys i d).1) ≡ true) (sym e) (step-at (flow_view f) h i ((get_or f.steps i d).0, step_view (get_or f.steps i d).1) (seen-at f i d lt))

module _ (f : Flow) (ls : List (Option ℕ)) (t : IsTable (flow_view f) ls) where
  pub in-table : (i : ℕ) → i < length f.steps → i < length ls
  in-table i lt = omega (arith, t.entries, length-each step_view f.steps)

  pub found-number : (n : Name) (i : ℕ) (d : Name × Step) (l : Option ℕ) → number_in f.steps n ≡ Some i → get_or ls i None ≡ l → found n (known_steps (flow_view f).steps ls) ≡ option_map (with_level ((get_or f.steps i d).0, step_view (get_or f.steps i d).1)) l
  found-number n i d l e g =
      let at : IsAt n f.steps i (named n f.steps) = number-found f.steps n i e in
      let s = get_or f.steps i d in
      let there : slice_get ls i ≡ Some l = slice_get-get_or ls i None (in-table i at.below) ∙ ap Some g in
      subst (λ m. found m (known_steps (flow_view f).steps ls) ≡ option_map (with_level (s.0, step_view s.1)) l) (at.name d)
      (found-at (flow_view f).steps ls i (s.0, step_view s.1) l (steps-ascend (flow_view f) t.formed) (seen-at f i d at.below) there)

  pub found-nothing : (n : Name) → number_in f.steps n ≡ None → found n (known_steps (flow_view f).steps ls) ≡ None
  found-nothing n e = found-none n (flow_view f).steps ls (named-each step_view n f.steps ∙ ap (option_map step_view) (number-absent f.steps n e))

  pub entry-small : (i : ℕ) → i < length f.steps → is_level (get_or ls i None) ≡ true
  entry-small i lt = passes is_level ls i (get_or ls i None) t.small (slice_get-get_or ls i None (in-table i lt))

  pub output-there : (n p : Name) (xs : List (Name × Step)) (i : ℕ) (d : Name × Step) → xs ≡ f.steps → number_in f.steps n ≡ Some i → depth_of_output p (option_map (λ k. map (λ (q : Name × ℕ). (q.0, k + q.1)) (get_or xs i d).1.outputs) (get_or ls i None)) ≡ option_map_or (λ m. unwrap_or (named p m.outputs) 1) (found n (known_steps (flow_view f).steps ls)) 1
  output-there n p xs i d x e =
      ap (λ ys. depth_of_output p (option_map (λ k. map (λ (q : Name × ℕ). (q.0, k + q.1)) (get_or ys i d).1.outputs) (get_or ls i None))) x
      ∙ same_outputs (get_or ls i None)
      ∙ sym (ap (λ o. option_map_or (λ m. unwrap_or (named p m.outputs) 1) o 1) (found-number n i d (get_or ls i None) e refl))
    where
      same_outputs : (l : Option ℕ) → depth_of_output p (option_map (λ k. map (λ (q : Name × ℕ). (q.0, k + q.1)) (get_or f.steps i d).1.outputs) l) ≡ option_map_or (λ m. unwrap_or (named p m.outputs) 1) (option_map (with_level ((get_or f.steps i d).0, step_view (get_or f.steps i d).1)) l) 1
      same_outputs None = refl
      same_outputs (Some k) = refl

-- ---- the first of a list that passes a test

module _ {A : Type 0} (p : A → Bool) where
  pub find-next : (xs : List A) (i : ℕ) (x : A) → slice_get xs i ≡ Some x → find p (take i xs) ≡ None → p x ≡ true → find p xs ≡ Some x
  find-next [] i x e n h = cc
  find-next (y ∷ ys) zero x e n h =
      let f : x ≡ y = cc in
      ap (λ b. if b then Some y else find p ys) (subst (λ z. p z ≡ true) f h) ∙ ap Some (sym f)
  find-next (y ∷ ys) (suc i) x e n h = by_cases (p y) n (find-next ys i x e)
    where
      by_cases : (b : Bool) → (if b then Some y else find p (take i ys)) ≡ None → (find p (take i ys) ≡ None → p x ≡ true → find p ys ≡ Some x) → (if b then Some y else find p ys) ≡ Some x
      by_cases true m k = cc
      by_cases false m k = k m h

  find-suc : (xs : List A) (i : ℕ) (x : A) → slice_get xs i ≡ Some x → find p (take i xs) ≡ None → p x ≡ false → find p (take (suc i) xs) ≡ None
  find-suc [] i x e n h = cc
  find-suc (y ∷ ys) zero x e n h =
      let f : x ≡ y = cc in
      ap (λ b. if b then Some y else find p (take zero ys)) (subst (λ z. p z ≡ false) f h)
  find-suc (y ∷ ys) (suc i) x e n h = by_cases (p y) n (find-suc ys i x e)
    where
      by_cases : (b : Bool) → (if b then Some y else find p (take i ys)) ≡ None → (find p (take i ys) ≡ None → p x ≡ false → find p (take (suc i) ys) ≡ None) → (if b then Some y else find p (take (suc i) ys)) ≡ None
      by_cases true m k = cc
      by_cases false m k = k m h

  pub find-more : (xs : List A) (i : ℕ) (x : A) → slice_get xs i ≡ Some x → find p (take i xs) ≡ None → p x ≡ false → find p (take (i + 1) xs) ≡ None
  find-more xs i x e n h = let j : suc i ≡ i + 1 = omega arith in subst (λ k. find p (take k xs) ≡ None) j (find-suc xs i x e n h)

-- ---- the links of a merge

is-not : (a b : ℕ) → (a ≡ b → ⊥) → not (a == b) ≡ true
is-not a b h = grind (arith, nat_tests)

is : (a b : ℕ) → a ≡ b → not (a == b) ≡ false
is a b h = grind (arith, nat_tests)

pub differs-next : (w : Where) (first d : ℕ) (ds : List ℕ) (i : ℕ) (e : CheckRefused) → slice_get ds i ≡ Some d → find (λ e. not (e == first)) (take i ds) ≡ None → (d ≡ first → ⊥) → StopsAt (with_numbers merge_depths w first d ∷ []) e → StopsAt (merge_difference w (first ∷ ds)) e
differs-next w first d ds i e g n h s =
    subst (λ o. StopsAt (option_map_or (λ k. with_numbers merge_depths w first k ∷ []) o []) e) (sym (find-next (λ k. not (k == first)) ds i d g n (is-not d first h))) s

pub same-more : (first d : ℕ) (ds : List ℕ) (i : ℕ) → slice_get ds i ≡ Some d → find (λ e. not (e == first)) (take i ds) ≡ None → d ≡ first → find (λ e. not (e == first)) (take (i + 1) ds) ≡ None
same-more first d ds i g n h = find-more (λ k. not (k == first)) ds i d g n (is d first h)
