-- In every finished legal history the accepted tries are those of the order of one worker, each as often.
use Rattle.std.specs.Prelude.{◌≡◌, refl, ℕ, List, [], ◌∷◌, ◌++◌, map, Bool, true, false, if◌then◌else◌, flat_map, IsPermutation}
use Rattle.std.proofs.Common.{sym, ap, subst, ◌∙◌, inl, inr, append_assoc}
use Rattle.std.proofs.lemmas.List.{map-append}
use Rattle.std.proofs.lemmas.List.Sorted.{IsPermutation-refl, IsPermutation-sym, IsPermutation-map, IsPermutation-append_left, IsPermutation-append_right, IsPermutation-trans}
use Rattle.std.specs.Cmp.{first_so}
use Rattle.tv_lemmas.specs.Members.{In}
use Rattle.tv_lemmas.proofs.Lists.{permute-front}
use Rattle.tv_value.specs.Values.{JobName}
use Rattle.tv_value.specs.Orders.{same_job}
use Rattle.tv_value.proofs.JobNameLemmas.{same_job_decides}
use Rattle.tv_flow.specs.Flows.{Document}
use Rattle.tv_gate.specs.Outcomes.{Giving}
use Rattle.tv_dispatch.specs.Jobs.{Ask}
use Rattle.tv_model.specs.Jobs.{Job}
use Rattle.tv_model.specs.Made.{Meaning}
use Rattle.tv_model.specs.Meanings.{meaning, nesting_limit}
use Rattle.tv_history.specs.Entries.{Entry, accepted, ended, History}
use Rattle.tv_history.specs.Histories.{is_settled, is_legal, is_legal_after, is_done}
use Rattle.tv_model.proofs.Tests.{true≠false}
use Rattle.tv_model.specs.JobOrder.{Apart}
use Rattle.tv_model.proofs.Whole.{IsWhole}
use Rattle.tv_history.proofs.Ready.{AnyNumber, document-whole}
use Rattle.tv_history.proofs.Done.{TryKey, key_of, try_of, tries_of, all-settled, settled-tries}
use Rattle.tv_history.proofs.Sums.{accepted-owned}
pub use Rattle.tv_history.specs.Tries.{NamedTry, entry_try, all_tries, ask_try}
pub use Rattle.tv_model.specs.Asked.{IsOrdered}
pub use Rattle.tv_model.specs.Turns.{asks_of}
use Rattle.tv_model.proofs.Ordered.{flow-ordered}
use Rattle.tv_model.specs.Turns.{ask_order}

-- ---- the accepted tries of a history

abbrev pub with_name : JobName → List TryKey → List NamedTry
with_name n ks = map (λ k. (n, k)) ks

two-parts : {A B : Type 0} (f g : A → List B) (xs : List A) → IsPermutation (flat_map (λ x. f x ++ g x) xs) (flat_map f xs ++ flat_map g xs)
two-parts f g [] = IsPermutation-refl []
two-parts f g (x ∷ xs) =
    IsPermutation-trans _ _ _ (IsPermutation-append_right (f x ++ g x) (flat_map (λ y. f y ++ g y) xs) (flat_map f xs ++ flat_map g xs) (two-parts f g xs))
    (subst (λ l. IsPermutation l ((f x ++ flat_map f xs) ++ (g x ++ flat_map g xs))) (sym (append_assoc (f x) (g x) (flat_map f xs ++ flat_map g xs)))
    (subst (λ l. IsPermutation (f x ++ (g x ++ (flat_map f xs ++ flat_map g xs))) l) (sym (append_assoc (f x) (flat_map f xs) (g x ++ flat_map g xs))) (IsPermutation-append_right (f x) (g x ++ (flat_map f xs ++ flat_map g xs)) (flat_map f xs ++ (g x ++ flat_map g xs)) (permute-front (g x) (flat_map f xs) (flat_map g xs)))))

flat-same : {A B : Type 0} (f g : A → List B) (xs : List A) → ((x : A) → In x xs → f x ≡ g x) → flat_map f xs ≡ flat_map g xs
flat-same f g [] h = refl
flat-same f g (x ∷ xs) h = ap (λ l. l ++ flat_map f xs) (h x (inl refl)) ∙ ap (λ l. g x ++ l) (flat-same f g xs (λ y i. h y (inr i)))

flat-none : {A B : Type 0} (f : A → List B) (xs : List A) → ((x : A) → In x xs → f x ≡ []) → flat_map f xs ≡ []
flat-none f [] h = refl
flat-none f (x ∷ xs) h = ap (λ l. l ++ flat_map f xs) (h x (inl refl)) ∙ flat-none f xs (λ y i. h y (inr i))

abbrev mine : JobName → TryKey → JobName → List NamedTry
mine k t n = with_name n (if same_job n k then t ∷ [] else [])

-- a try is that of one job
one-owner : (k : JobName) (t : TryKey) (js : List Job) → Apart (λ j. j.name) js → (j : Job) → In j js → j.name ≡ k → flat_map (λ (i : Job). mine k t i.name) js ≡ (k, t) ∷ []
one-owner k t [] a j h e = absurd h
one-owner k t (i ∷ js) a j (inl p) e =
    by (same_job i.name k) ((same_job_decides i.name k).1 (ap (λ (x : Job). x.name) (sym p) ∙ e)) (flat-none (λ (x : Job). mine k t x.name) js none)
  where
    not_it : (x : JobName) (b : Bool) → same_job x k ≡ b → (x ≡ k → ⊥) → with_name x (if b then t ∷ [] else []) ≡ []
    not_it x false q f = refl
    not_it x true q f = absurd (f ((same_job_decides x k).0 q))

    none : (x : Job) → In x js → mine k t x.name ≡ []
    none x h = not_it x.name (same_job x.name k) refl (λ q. a.0 x h (q ∙ sym e ∙ ap (λ (y : Job). y.name) p))

    by : (b : Bool) → b ≡ true → flat_map (λ (x : Job). mine k t x.name) js ≡ [] → with_name i.name (if b then t ∷ [] else []) ++ flat_map (λ (x : Job). mine k t x.name) js ≡ (k, t) ∷ []
    by false q r = absurd (true≠false (sym q))
    by true q r = ap (λ l. (i.name, t) ∷ l) r ∙ ap (λ n. (n, t) ∷ []) (ap (λ (x : Job). x.name) (sym p) ∙ e)
one-owner k t (i ∷ js) a j (inr h) e = by (same_job i.name k) refl (one-owner k t js a.1 j h e)
  where
    by : (b : Bool) → same_job i.name k ≡ b → flat_map (λ (x : Job). mine k t x.name) js ≡ (k, t) ∷ [] → with_name i.name (if b then t ∷ [] else []) ++ flat_map (λ (x : Job). mine k t x.name) js ≡ (k, t) ∷ []
    by false q r = r
    by true q r = absurd (a.0 j h (e ∙ sym ((same_job_decides i.name k).0 q)))

module _ (gives : Giving) (D : ℕ → Type 0) (m : Meaning) (w : IsWhole gives D m []) where
  entry-owner : (past : History) → is_legal gives m past ≡ true → (e : Entry) → In e past → flat_map (λ (j : Job). with_name j.name (try_of j.name e)) m.jobs ≡ entry_try e
  entry-owner past l (accepted k c t r) h = let o = accepted-owned gives D m w past l (accepted k c t r) h k refl in one-owner k (c, t, r) m.jobs w.jobs_apart o.0 o.1 o.2
  entry-owner past l e h = flat-none (λ (j : Job). []) m.jobs (λ j i. refl)

  -- a history's accepted tries are those of its jobs
  pub tries-parted : (past : History) → is_legal gives m past ≡ true → IsPermutation (flat_map (λ (j : Job). with_name j.name (tries_of j.name past)) m.jobs) (all_tries past)
  tries-parted [] l = subst (λ x. IsPermutation x []) (sym (flat-none (λ (j : Job). []) m.jobs (λ j i. refl))) (IsPermutation-refl [])
  tries-parted (e ∷ past) l =
      IsPermutation-trans _ _ _
      (subst (λ x. IsPermutation x (flat_map (λ (j : Job). with_name j.name (tries_of j.name past)) m.jobs ++ flat_map (λ (j : Job). with_name j.name (try_of j.name e)) m.jobs)) (sym (flat-same (λ (j : Job). with_name j.name (tries_of j.name past ++ try_of j.name e)) (λ (j : Job). with_name j.name (tries_of j.name past) ++ with_name j.name (try_of j.name e)) m.jobs (λ j i. map-append (λ k. (j.name, k)) (tries_of j.name past) (try_of j.name e)))) (two-parts (λ (j : Job). with_name j.name (tries_of j.name past)) (λ (j : Job). with_name j.name (try_of j.name e)) m.jobs))
      (subst (λ x. IsPermutation (flat_map (λ (j : Job). with_name j.name (tries_of j.name past)) m.jobs ++ x) (all_tries past ++ entry_try e)) (sym (entry-owner (e ∷ past) l e (inl refl))) (IsPermutation-append_left (entry_try e) (flat_map (λ (j : Job). with_name j.name (tries_of j.name past)) m.jobs) (all_tries past) (tries-parted past (first_so (is_legal gives m past) (is_legal_after gives m past e) l))))

  map-flat : (js : List Job) → flat_map (λ (j : Job). with_name j.name (map (key_of gives) j.asks)) js ≡ map (ask_try gives) (flat_map asks_of js)
  map-flat [] = refl
  map-flat (j ∷ js) = ap (λ l. with_name j.name (map (key_of gives) j.asks) ++ l) (map-flat js) ∙ ap (λ l. l ++ map (ask_try gives) (flat_map asks_of js)) (twice j.asks) ∙ sym (map-append (ask_try gives) (asks_of j) (flat_map asks_of js))
    where
      twice : (as' : List Ask) → with_name j.name (map (key_of gives) as') ≡ map (ask_try gives) (map (λ a. (j.name, a)) as')
      twice [] = refl
      twice (a ∷ as') = ap (λ l. (j.name, key_of gives a) ∷ l) (twice as')

  pub settled-permuted : IsOrdered m [] → (past : History) → is_legal gives m past ≡ true → ((j : Job) → In j m.jobs → is_settled past j ≡ true) → IsPermutation (all_tries past) (map (ask_try gives) (ask_order m))
  settled-permuted o past l s =
      IsPermutation-trans _ _ _ (IsPermutation-sym _ _ (tries-parted past l))
      (subst (λ x. IsPermutation x (map (ask_try gives) (ask_order m))) (sym (flat-same (λ (j : Job). with_name j.name (tries_of j.name past)) (λ (j : Job). with_name j.name (map (key_of gives) j.asks)) m.jobs (λ j i. ap (with_name j.name) (settled-tries gives D m w past l j i (s j i))) ∙ map-flat m.jobs)) (IsPermutation-map (ask_try gives) (flat_map asks_of m.jobs) (ask_order m) (IsPermutation-sym (ask_order m) (flat_map asks_of m.jobs) o)))

-- in a legal history in which the main instance has ended, the accepted tries are those of the stated order, each as often
pub done-permuted : (gives : Giving) (d : Document) (past : History) → is_legal gives (meaning gives d) past ≡ true → is_done past ≡ true → IsPermutation (all_tries past) (map (ask_try gives) (ask_order (meaning gives d)))
done-permuted gives d past l h =
    let m = meaning gives d in
    let w = document-whole gives d in
    settled-permuted gives AnyNumber m w (flow-ordered gives d.flows nesting_limit d.main [] d.inputs) past l (all-settled gives AnyNumber m w past l h)
