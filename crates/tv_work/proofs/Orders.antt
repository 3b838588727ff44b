-- What one worker asks, from a board that has only settled things, is the order of one worker, or a beginning of it.
use Rattle.std.specs.List.{Contains, list_any, slice_index_or}
use Rattle.std.specs.Option.{option_map_or}
use Rattle.std.specs.Prelude.{Bool, List, Option, Some, [], false, flat_map, length, map, refl, suc, true, zero, ℕ, ◌&&◌, ◌++◌, ◌<◌, ◌==◌, ◌∷◌, ◌≡◌, ◌⊎◌}
use Rattle.std.proofs.Common.{ap, arith, inl, inr, subst, sym, ◌∙◌}
use Rattle.std.proofs.lemmas.Bool.{eq-eqb}
use Rattle.std.proofs.lemmas.List.{append-nil, append_assoc, map-append}
use Rattle.std.proofs.lemmas.List.Sorted.{Contains-permutation}
use Rattle.tv_lemmas.specs.Members.{In}
use Rattle.tv_lemmas.proofs.Members.{any-in, in-append, of-flat, of-map}
use Rattle.tv_value.specs.Values.{JobName}
use Rattle.tv_value.proofs.JobNameLemmas.{same_job_decides}
use Rattle.tv_gate.specs.Calls.{Call, IsCalled, IsSameCalls}
use Rattle.tv_gate.specs.Outcomes.{Giving}
use Rattle.tv_dispatch.specs.Jobs.{Ask}
use Rattle.tv_flow.specs.Flows.{Document}
use Rattle.tv_flow.specs.Formed.{is_formed}
use Rattle.tv_model.specs.Turns.{ask_order, asks_of}
use Rattle.tv_model.specs.Jobs.{Job}
use Rattle.tv_model.specs.Lists.{rest_of}
use Rattle.tv_model.specs.Made.{Meaning}
use Rattle.tv_model.specs.Meanings.{meaning}
use Rattle.tv_model.proofs.Ordered.{flow-ordered}
use Rattle.tv_model.proofs.Tests.{both_true, true≠false}
use Rattle.tv_history.specs.Alone.{IsFirstPart, is_by_one}
use Rattle.tv_history.specs.Entries as history
use Rattle.tv_history.specs.Entries.{History, is_out}
use Rattle.tv_history.specs.Histories.{is_ask, is_at, is_done, is_legal, is_legal_after, next_ask, same_bool}
use Rattle.tv_dispatch.specs.Plans.{came_right}
use Rattle.tv_history.specs.Tries.{NamedTry, all_tries, ask_try}
use Rattle.tv_history.proofs.InOrder.{done-in_order, in-order}
use Rattle.tv_history.proofs.Running.{AreJobs}
use Rattle.tv_history.proofs.activities.Read.{documents-have_activities}
use Rattle.tv_history.specs.Answers.{Question}
use Rattle.tv_history.specs.Calls.{IsTask}
use Rattle.tv_history.specs.Runs.{IsLegalRun, Run, meant, past_of}
use Rattle.tv_board.specs.Asked.{call_for}
use Rattle.tv_work.specs.Asked.{AreAsksOf, AsksABeginning, AsksAtMostOneMore, AsksEach, AsksInOrder, accepted_tries, call_of}
use Rattle.tv_work.specs.ByOne.{IsByOne, AppendsByOne}
use Rattle.tv_work.specs.InOrder.{HasOnlySettled}
use Rattle.tv_work.specs.Working.{IsWorkedOff}
use Rattle.tv_work.proofs.Answers.{IsTryOf, same-call, try-of}
use Rattle.tv_work.proofs.ByOne.{stays-by_one}
use Rattle.tv_work.proofs.Ends.{well-formed}
use Rattle.tv_work.proofs.Runs.{jobs-of}
use Rattle.tv_work.proofs.Starts.{IsQuiet, quiet-start}
use Rattle.tv_work.proofs.Tries.{AllHaveTries, all-have_tries}

-- ---- lists

-- what differs in what is made of it
same-of_map : {A B : Type 0} (f : A → B) (P : A → Type 0) → ((x y : A) → P x → P y → f x ≡ f y → x ≡ y) → (xs ys : List A) → ((x : A) → In x xs → P x) → ((y : A) → In y ys → P y) → map f xs ≡ map f ys → xs ≡ ys
same-of_map f P one [] [] p q e = refl
same-of_map f P one [] (y ∷ ys) p q e = absurd (true≠false (ap is_empty e))
  where
    is_empty : {B : Type 0} → List B → Bool
    is_empty [] = true
    is_empty (z ∷ zs) = false
same-of_map f P one (x ∷ xs) [] p q e = absurd (true≠false (sym (ap is_empty e)))
  where
    is_empty : {B : Type 0} → List B → Bool
    is_empty [] = true
    is_empty (z ∷ zs) = false
same-of_map {B = B} f P one (x ∷ xs) (y ∷ ys) p q e =
    let first = one x y (p x (inl refl)) (q y (inl refl)) (ap head e) in
    let rest = same-of_map f P one xs ys (λ z i. p z (inr i)) (λ z i. q z (inr i)) (ap rest_of e) in
    λ i. first i ∷ rest i
  where
    head : List B → B
    head [] = f x
    head (z ∷ zs) = z

in-contains : {A : Type 0} (x : A) (xs : List A) → In x xs → Contains xs x
in-contains x [] i = absurd i
in-contains x (y ∷ ys) (inl e) = (0, omega arith, sym e)
in-contains x (y ∷ ys) (inr i) = let k = in-contains x ys i in (suc k.0, (omega (arith, k.1)), k.2)

contains-in : {A : Type 0} (x : A) (xs : List A) → Contains xs x → In x xs
contains-in x xs c = at x xs c.0 c.1 c.2
  where
    at : {A : Type 0} (x : A) (xs : List A) (k : ℕ) → k < length xs → slice_index_or xs k x ≡ x → In x xs
    at x [] k l e = absurd (omega arith)
    at x (y ∷ ys) zero l e = inl (sym e)
    at x (y ∷ ys) (suc k) l e = inr (at x ys k (omega arith) e)

pub first-mapped : {A B : Type 0} (f : A → B) (xs ys : List A) → IsFirstPart xs ys → IsFirstPart (map f xs) (map f ys)
first-mapped f xs ys h = (map f h.0, ap (map f) h.1 ∙ map-append f xs h.0)

first-of_map : {A B : Type 0} (f : A → B) (P : A → Type 0) → ((x y : A) → P x → P y → f x ≡ f y → x ≡ y) → (xs ys : List A) → ((x : A) → In x xs → P x) → ((y : A) → In y ys → P y) → IsFirstPart (map f xs) (map f ys) → IsFirstPart xs ys
first-of_map f P one [] ys p q h = (ys, refl)
first-of_map f P one (x ∷ xs) [] p q h = absurd (true≠false (ap is_empty h.1))
  where
    is_empty : {B : Type 0} → List B → Bool
    is_empty [] = true
    is_empty (z ∷ zs) = false
first-of_map {B = B} f P one (x ∷ xs) (y ∷ ys) p q h =
    let first = one y x (q y (inl refl)) (p x (inl refl)) (ap head h.1) in
    let rest = first-of_map f P one xs ys (λ z i. p z (inr i)) (λ z i. q z (inr i)) (h.0, ap rest_of h.1) in
    (rest.0, λ i. first i ∷ rest.1 i)
  where
    head : List B → B
    head [] = f x
    head (z ∷ zs) = z

-- ---- asks of a meaning

module _ (gives : Giving) (m : Meaning) (are : AreJobs gives m) (own : AllHaveTries m.jobs) where
  abbrev IsOf : JobName × Ask → Type 0
  IsOf p = (j : Job) × In j m.jobs × (p.0 ≡ j.name) × In p.1 j.asks

  -- the try of an ask tells which it is
  one-ask : (p q : JobName × Ask) → IsOf p → IsOf q → ask_try gives p ≡ ask_try gives q → p ≡ q
  one-ask p q a b e =
      let same = are.once b.0 a.0 b.1 a.1 (sym b.2 ∙ sym (ap (λ (t : NamedTry). t.0) e) ∙ a.2) in
      let asks = (own a.0 a.1).apart p.1 q.1 a.3 (subst (λ (j : Job). In q.1 j.asks) same b.3) (ap (λ (t : NamedTry). t.1.0) e) (ap (λ (t : NamedTry). t.1.1) e) in
      λ i. ((e i).0, asks i)

  pub same-asks : (xs ys : List (JobName × Ask)) → AreAsksOf m.jobs xs → AreAsksOf m.jobs ys → map (ask_try gives) xs ≡ map (ask_try gives) ys → xs ≡ ys
  same-asks xs ys p q e = same-of_map (ask_try gives) IsOf one-ask xs ys p q e

  pub first-asks : (xs ys : List (JobName × Ask)) → AreAsksOf m.jobs xs → AreAsksOf m.jobs ys → IsFirstPart (map (ask_try gives) xs) (map (ask_try gives) ys) → IsFirstPart xs ys
  first-asks xs ys p q h = first-of_map (ask_try gives) IsOf one-ask xs ys p q h

-- ---- a document

module _ (gives : Giving) (d : Document) (formed : is_formed d ≡ true) where
  pub own-tries : AllHaveTries (meaning gives d).jobs
  own-tries = all-have_tries gives d (documents-have_activities d formed)

  pub order-asks : AreAsksOf (meaning gives d).jobs (ask_order (meaning gives d))
  order-asks p i =
      let j = of-flat asks_of p (meaning gives d).jobs (contains-in p (flat_map asks_of (meaning gives d).jobs) (Contains-permutation (ask_order (meaning gives d)) (flat_map asks_of (meaning gives d).jobs) p (flow-ordered gives d.flows 8 d.main [] d.inputs) (in-contains p (ask_order (meaning gives d)) i))) in
      let a = of-map (λ a. (j.0.name, a)) p j.0.asks j.2 in
      (j.0, j.1, ap (λ k. k.0) a.2, subst (λ z. In z j.0.asks) (sym (ap (λ k. k.1) a.2)) a.1)

  pub all-tries_in_order : (past : History) → is_legal gives (meaning gives d) past ≡ true → is_by_one (meaning gives d) past ≡ true → is_done past ≡ true → all_tries past ≡ map (ask_try gives) (ask_order (meaning gives d))
  all-tries_in_order past l b h = done-in_order gives d.flows (well-formed d formed).places 8 d.main d.inputs (λ j i k n. (own-tries j i).some k n) past l b h

  all-in_order : (past : History) → is_legal gives (meaning gives d) past ≡ true → is_by_one (meaning gives d) past ≡ true → is_done past ≡ true → (asks : List (JobName × Ask)) → all_tries past ≡ map (ask_try gives) asks → AreAsksOf (meaning gives d).jobs asks → asks ≡ (ask_order (meaning gives d))
  all-in_order past l b h asks e of = same-asks gives (meaning gives d) (jobs-of gives d) own-tries asks (ask_order (meaning gives d)) of order-asks (sym e ∙ all-tries_in_order past l b h)

  pub tries-in_order : (past : History) → is_legal gives (meaning gives d) past ≡ true → is_by_one (meaning gives d) past ≡ true → IsFirstPart (all_tries past) (map (ask_try gives) (ask_order (meaning gives d)))
  tries-in_order past l b = in-order gives d.flows (well-formed d formed).places 8 d.main d.inputs (λ j i k n. (own-tries j i).some k n) past l b

  first-in_order : (past : History) → is_legal gives (meaning gives d) past ≡ true → is_by_one (meaning gives d) past ≡ true → (asks : List (JobName × Ask)) → all_tries past ≡ map (ask_try gives) asks → AreAsksOf (meaning gives d).jobs asks → IsFirstPart asks (ask_order (meaning gives d))
  first-in_order past l b asks e of =
      first-asks gives (meaning gives d) (jobs-of gives d) own-tries asks (ask_order (meaning gives d)) of order-asks
      (subst (λ ts. IsFirstPart ts (map (ask_try gives) (ask_order (meaning gives d)))) e (tries-in_order past l b))

-- ---- a try that is out

module _ (gives : Giving) (s : Run) (q : Question) (task : IsTask gives s q) where
  abbrev its : IsTryOf gives s q task.asked
  its = try-of gives s q task

  -- its outcome may be accepted next
  abbrev its-acceptance : history.Entry
  its-acceptance = history.accepted its.job.name task.asked.activity task.asked.attempt (came_right gives task.asked)

  its-own : (is_ask task.asked.activity task.asked.attempt task.asked && same_bool (came_right gives task.asked) (came_right gives task.asked)) ≡ true
  its-own = both_true (is_ask task.asked.activity task.asked.attempt task.asked) (same_bool (came_right gives task.asked) (came_right gives task.asked)) (both_true (task.asked.activity == task.asked.activity) (task.asked.attempt == task.asked.attempt) (eq-eqb task.asked.activity task.asked.activity refl) (eq-eqb task.asked.attempt task.asked.attempt refl)) (same (came_right gives task.asked))
    where
      same : (b : Bool) → same_bool b b ≡ true
      same true = refl
      same false = refl

  acceptance-legal : is_legal_after gives (meant gives s) (past_of s) its-acceptance ≡ true
  acceptance-legal =
      let is_it = λ (k : Ask). is_ask task.asked.activity task.asked.attempt k && same_bool (came_right gives task.asked) (came_right gives k) in
      let its_job = λ (j : Job). is_at j its.job.name && option_map_or is_it (next_ask (past_of s) j) false in
      both_true (is_out (past_of s) its.job.name) (list_any its_job (meant gives s).jobs) its.out
      (any-in its_job its.job (meant gives s).jobs its.among (both_true (is_at its.job its.job.name) (option_map_or is_it (next_ask (past_of s) its.job) false) ((same_job_decides its.job.name its.job.name).1 refl) (subst (λ o. option_map_or is_it o false ≡ true) (sym its.next) its-own)))

  -- so with it the asks are in order
  with-next : is_formed s.document ≡ true → IsLegalRun gives s → IsByOne gives s → (asks : List (JobName × Ask)) → accepted_tries s ≡ map (ask_try gives) asks → AreAsksOf (meant gives s).jobs asks → IsFirstPart (asks ++ (its.job.name, task.asked) ∷ []) (ask_order (meant gives s))
  with-next formed l b asks e of =
      first-in_order gives s.document formed (its-acceptance ∷ past_of s)
      (both_true (is_legal gives (meant gives s) (past_of s)) (is_legal_after gives (meant gives s) (past_of s) its-acceptance) l.legal acceptance-legal)
      (both_true (is_by_one (meant gives s) (past_of s)) true b refl)
      (asks ++ (its.job.name, task.asked) ∷ [])
      (ap (λ ts. ts ++ ask_try gives (its.job.name, task.asked) ∷ []) e ∙ sym (map-append (ask_try gives) asks ((its.job.name, task.asked) ∷ [])))
      (λ p i. by p (in-append p asks ((its.job.name, task.asked) ∷ []) i))
    where
      by : (p : JobName × Ask) → In p asks ⊎ In p ((its.job.name, task.asked) ∷ []) → (j : Job) × In j (meant gives s).jobs × (p.0 ≡ j.name) × In p.1 j.asks
      by p (inl i) = of p i
      by p (inr (inl e)) = (its.job, its.among, ap (λ k. k.0) e, subst (λ z. In z its.job.asks) (sym (ap (λ k. k.1) e)) its.its_own)
      by p (inr (inr e)) = absurd e

-- ---- beginnings

-- no call is a beginning, and so is the whole
pub asks-no_call : (gives : Giving) (d : Document) (x : Option (List Call)) → AsksABeginning gives d x x
asks-no_call gives d x calls b = ([], b ∙ ap Some (sym (append-nil calls)), (map call_of (ask_order (meaning gives d)), refl))

pub begins-whole : (gives : Giving) (d : Document) (x y : Option (List Call)) → AsksInOrder gives d x y → AsksABeginning gives d x y
begins-whole gives d x y h calls b = (map call_of (ask_order (meaning gives d)), h calls b, ([], sym (append-nil (map call_of (ask_order (meaning gives d))))))

-- ---- from a board that has only settled things

-- what goes on from one
pub record IsFrom (gives : Giving) (r s : Run) : Type 0 where
  pub formed : is_formed r.document ≡ true
  pub document : s.document ≡ r.document
  pub settled : HasOnlySettled r
  pub legal : IsLegalRun gives s
  pub stays : AppendsByOne gives r s

module _ (gives : Giving) (r s : Run) (from : IsFrom gives r s) where
  pub formed-now : is_formed s.document ≡ true
  formed-now = subst (λ d. is_formed d ≡ true) (sym from.document) from.formed

  start : IsQuiet (meant gives r) (past_of r)
  start = quiet-start gives r from.settled

  pub one-now : IsByOne gives s
  one-now = stays-by_one gives r s from.stays start.by_one

  -- the asks since are those that were accepted, of the meaning of now
  since : (asks : List (JobName × Ask)) → accepted_tries s ≡ accepted_tries r ++ map (ask_try gives) asks → accepted_tries s ≡ map (ask_try gives) asks
  since asks e = e ∙ ap (λ ts. ts ++ map (ask_try gives) asks) start.none_accepted

  of-now : (asks : List (JobName × Ask)) → AreAsksOf (meant gives r).jobs asks → AreAsksOf (meant gives s).jobs asks
  of-now asks of = subst (λ d. AreAsksOf (meaning gives d).jobs asks) (sym from.document) of

  pub asks-in_order : (x y : Option (List Call)) → IsWorkedOff gives s → AsksEach gives x y r s → AsksInOrder gives r.document x y
  asks-in_order x y w h calls b =
      let k = h calls b in
      k.1
      ∙ ap (λ asks. Some (calls ++ map call_of asks)) (all-in_order gives s.document formed-now (past_of s) from.legal.legal one-now w.done k.0 (since k.0 k.2) (of-now k.0 k.3))
      ∙ ap (λ d. Some (calls ++ map call_of (ask_order (meaning gives d)))) from.document

  -- these asks are a beginning, so their calls are one
  begun : (y : Option (List Call)) (calls : List Call) (asks : List (JobName × Ask)) → y ≡ Some (calls ++ map call_of asks) → IsFirstPart asks (ask_order (meant gives s)) → (asked : List Call) × (y ≡ Some (calls ++ asked)) × IsFirstPart asked (map call_of (ask_order (meaning gives r.document)))
  begun y calls asks e h = (map call_of asks, e, subst (λ d. IsFirstPart (map call_of asks) (map call_of (ask_order (meaning gives d)))) from.document (first-mapped call_of asks (ask_order (meant gives s)) h))

  pub asks-beginning : (x y : Option (List Call)) → AsksAtMostOneMore gives x y r s → AsksABeginning gives r.document x y
  asks-beginning x y h calls b = let k = h.1 calls b in by k.0 k.1 (since k.0 k.2) (of-now k.0 k.3) h.2
    where
      by : (asks : List (JobName × Ask)) → h.0 ≡ Some (calls ++ map call_of asks) → accepted_tries s ≡ map (ask_try gives) asks → AreAsksOf (meant gives s).jobs asks → IsSameCalls h.0 y ⊎ ((q : Question) × IsTask gives s q × IsCalled h.0 y (call_for q)) → (asked : List Call) × (y ≡ Some (calls ++ asked)) × IsFirstPart asked (map call_of (ask_order (meaning gives r.document)))
      by asks e tries of (inl same) = begun y calls asks (same (calls ++ map call_of asks) e) (first-in_order gives s.document formed-now (past_of s) from.legal.legal one-now asks tries of)
      by asks e tries of (inr lost) =
          let its = try-of gives s lost.0 lost.1 in
          let last : JobName × Ask = (its.job.name, lost.1.asked) in
          begun y calls (asks ++ last ∷ [])
          (lost.2 (calls ++ map call_of asks) e
          ∙ ap Some (append_assoc calls (map call_of asks) (call_for lost.0 ∷ []))
          ∙ ap (λ c. Some (calls ++ (map call_of asks ++ c ∷ []))) (same-call gives s lost.0 lost.1)
          ∙ ap (λ cs. Some (calls ++ cs)) (sym (map-append call_of asks (last ∷ []))))
          (with-next gives s lost.0 lost.1 formed-now from.legal one-now asks tries of)
