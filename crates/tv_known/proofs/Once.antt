-- In a legal history no two accepted tries are of one job, activity and attempt: the accepted tries of a job are first of its asks.
use Rattle.std.specs.Cmp.{first_so}
use Rattle.std.specs.Prelude.{◌≡◌, refl, ℕ, Bool, true, if◌then◌else◌, ◌⊎◌, ◌++◌, List, [], ◌∷◌, map}
use Rattle.std.proofs.Common.{sym, ap, ap₂, subst, ◌∙◌, append-nil, inl, inr}
use Rattle.tv_lemmas.specs.Members.{In}
use Rattle.tv_lemmas.proofs.Members.{in-append, in-left, in-right, of-map}
use Rattle.tv_value.specs.Values.{JobName}
use Rattle.tv_value.proofs.JobNameLemmas.{same_job_decides}
use Rattle.tv_gate.specs.Outcomes.{Giving}
use Rattle.tv_flow.specs.Flows.{Document}
use Rattle.tv_dispatch.specs.Plans.{came_right}
use Rattle.tv_model.specs.JobOrder.{Apart}
use Rattle.tv_model.specs.Jobs.{Job}
use Rattle.tv_model.specs.Made.{Meaning}
use Rattle.tv_model.specs.Meanings.{meaning}
use Rattle.tv_model.proofs.Members.{apart-append}
use Rattle.tv_model.proofs.Whole.{AnyNumber}
use Rattle.tv_history.specs.Entries.{Entry, History, accepted}
use Rattle.tv_history.specs.Histories.{asks_left, is_legal, is_legal_after}
use Rattle.tv_history.specs.Runs.{past_of}
use Rattle.tv_history.specs.Tries.{NamedTry, TryKey, all_tries, entry_try, key_of, tries_of, try_of}
use Rattle.tv_history.proofs.Done.{accepted-asks}
use Rattle.tv_history.proofs.Legal.{Legal, accepts, last-legal}
use Rattle.tv_history.proofs.Ready.{document-whole}
use Rattle.tv_known.specs.Once.{AcceptsEachTryOnce, BoardsAcceptOnce, HistoriesAcceptOnce, try_named}
use Rattle.tv_known.proofs.Tries.{asks-once}

-- the activity and attempt of a job's try
abbrev key_named : TryKey → ℕ × ℕ
key_named k = (k.0, k.1)

-- ---- lists

apart-map : {A B K : Type 0} (f : A → B) (key : B → K) (xs : List A) → Apart (λ x. key (f x)) xs → Apart key (map f xs)
apart-map f key [] h = tt
apart-map f key (x ∷ xs) h = (λ y i e. let w = of-map f y xs i in h.0 w.0 w.1 (sym (ap key w.2) ∙ e), apart-map f key xs h.1)

apart-first : {A K : Type 0} (key : A → K) (xs ys : List A) → Apart key (xs ++ ys) → Apart key xs
apart-first key [] ys h = tt
apart-first key (x ∷ xs) ys h = (λ y i. h.0 y (in-left y xs ys i), apart-first key xs ys h.1)

-- what comes after some has another key
apart-last : {A K : Type 0} (key : A → K) (xs : List A) (y : A) → Apart key (xs ++ y ∷ []) → (x : A) → In x xs → key y ≡ key x → ⊥
apart-last key [] y h x i e = i
apart-last key (z ∷ xs) y h x (inl p) e = h.0 y (in-right y xs (y ∷ []) (inl refl)) (e ∙ ap key p)
apart-last key (z ∷ xs) y h x (inr i) e = apart-last key xs y h.1 x i e

-- ---- the tries of one job

-- an accepted try is among those of its job
of-its_job : (past : History) (x : NamedTry) → In x (all_tries past) → In x.1 (tries_of x.0 past)
of-its_job [] x h = h
of-its_job (e ∷ past) x h = by (in-append x (all_tries past) (entry_try e) h) (λ i. of-its_job past x i)
  where
    here : (e : Entry) → In x (entry_try e) → In x.1 (try_of x.0 e)
    here (accepted n c t r) (inl p) =
        subst (λ (b : Bool). In x.1 (if b then (c, t, r) ∷ [] else [])) (sym ((same_job_decides x.0 n).1 (ap (λ (y : NamedTry). y.0) p))) (inl (ap (λ (y : NamedTry). y.1) p))
    here (accepted n c t r) (inr i) = absurd i
    here e i = absurd i

    by : In x (all_tries past) ⊎ In x (entry_try e) → (In x (all_tries past) → In x.1 (tries_of x.0 past)) → In x.1 (tries_of x.0 past ++ try_of x.0 e)
    by (inl i) rec = in-left x.1 (tries_of x.0 past) (try_of x.0 e) (rec i)
    by (inr i) rec = in-right x.1 (tries_of x.0 past) (try_of x.0 e) (here e i)

module _ (gives : Giving) (d : Document) where
  abbrev m : Meaning
  m = meaning gives d

  tries-apart : (past : History) → is_legal gives m past ≡ true → (j : Job) → In j m.jobs → Apart key_named (tries_of j.name past)
  tries-apart past l j i =
      apart-first key_named (tries_of j.name past) (map (key_of gives) (asks_left past j.name j.asks))
      (subst (Apart key_named) (sym (accepted-asks gives AnyNumber m (document-whole gives d) past l j i))
      (apart-map (key_of gives) key_named j.asks (asks-once gives d j i)))

  -- a new one is of none that was accepted before
  new-one : (past : History) (j : Job) → In j m.jobs → (c t : ℕ) (r : Bool) → is_legal gives m (accepted j.name c t r ∷ past) ≡ true → (x : NamedTry) → In x (all_tries past) → try_named (j.name, (c, t, r)) ≡ try_named x → ⊥
  new-one past j i c t r l x h e =
      let k : TryKey = (c, t, r) in
      let name : x.0 ≡ j.name = sym (ap (λ p. p.0) e) in
      let own : try_of j.name (accepted j.name c t r) ≡ k ∷ [] = ap (λ (b : Bool). if b then k ∷ [] else []) ((same_job_decides j.name j.name).1 refl) in
      apart-last key_named (tries_of j.name past) k
      (subst (λ (l : List TryKey). Apart key_named (tries_of j.name past ++ l)) own (tries-apart (accepted j.name c t r ∷ past) l j i))
      x.1 (subst (λ (n : JobName). In x.1 (tries_of n past)) name (of-its_job past x h))
      (ap₂ (λ (a b : ℕ). (a, b)) (ap (λ p. p.1) e) (ap (λ p. p.2) e))

  one-more : (past : History) {e : Entry} → Legal gives m past e → is_legal gives m (e ∷ past) ≡ true → AcceptsEachTryOnce past → AcceptsEachTryOnce (e ∷ past)
  one-more past (accepts j a i o q) l rec =
      let new : NamedTry = (j.name, (a.activity, a.attempt, came_right gives a)) in
      apart-append try_named (all_tries past) (new ∷ []) rec (λ y k. absurd k, tt) (λ x y h k e. by x y h k e)
    where
      by : (x y : NamedTry) → In x (all_tries past) → In y ((j.name, (a.activity, a.attempt, came_right gives a)) ∷ []) → try_named y ≡ try_named x → ⊥
      by x y h (inl p) e = new-one past j i a.activity a.attempt (came_right gives a) l x h (ap try_named (sym p) ∙ e)
      by x y h (inr k) e = k
  one-more past k l rec = subst (Apart try_named) (sym (append-nil (all_tries past))) rec

  once : (past : History) → is_legal gives m past ≡ true → AcceptsEachTryOnce past
  once [] l = tt
  once (e ∷ past) l = one-more past (last-legal gives m past e l) l (once past (first_so (is_legal gives m past) (is_legal_after gives m past e) l))

pub histories-accept_once : HistoriesAcceptOnce
histories-accept_once gives d past l = once gives d past l

pub boards-accept_once : BoardsAcceptOnce
boards-accept_once gives b h = once gives b.document (past_of b) h.legal
