-- With one worker the open instances are one chain.
use Rattle.std.specs.Prelude.{◌≡◌, refl, ℕ, suc, ◌+◌, ◌<◌, ◌≤◌, [], ◌∷◌, ◌++◌, length, true, false, is_some, count_by}
use Rattle.std.proofs.Common.{arith, sym, ap, subst, ◌∙◌, inl, inr, append_assoc, append-nil, length-append}
use Rattle.std.proofs.lemmas.List.{nil_from_length}
use Rattle.std.specs.Cmp.{first_so, second_so}
use Rattle.tv_lemmas.specs.Members.{In}
use Rattle.tv_lemmas.proofs.Cases.{on_either}
use Rattle.tv_value.specs.Nested.{Place}
use Rattle.tv_value.specs.Values.{JobName, Name}
use Rattle.tv_gate.specs.Outcomes.{Giving}
use Rattle.tv_flow.specs.Flows.{Document}
use Rattle.tv_model.specs.Agreeing.{NestsWithin}
use Rattle.tv_model.specs.Jobs.{Job}
use Rattle.tv_model.specs.Lists.{rest_of}
use Rattle.tv_model.specs.Made.{Meaning}
use Rattle.tv_model.specs.Meanings.{meaning, nesting_limit}
use Rattle.tv_model.proofs.Tests.{true≠false}
use Rattle.tv_model.proofs.Sound.{cancel, first_of}
use Rattle.tv_model.proofs.Whole.{IsWhole}
use Rattle.tv_history.specs.Alone.{is_by_one_after}
use Rattle.tv_history.specs.Entries.{History}
use Rattle.tv_history.specs.Going.{IsWellFormed}
use Rattle.tv_history.specs.Histories.{has_open_instance, is_legal, is_legal_after, is_open, is_running}
use Rattle.tv_history.proofs.Ready.{AnyNumber, are-jobs}
use Rattle.tv_history.proofs.Stuck.{AtLeastOne}
use Rattle.tv_history.proofs.OneWorker.{IsLaidOut, OneRuns, OthersWait, one-after, wait-after}
use Rattle.tv_history.proofs.LaidOut.{flow-laid}
use Rattle.tv_history.proofs.Counts.{count-tally}
use Rattle.tv_history.specs.order.Chains.{AreNested, is_by_one_from}
use Rattle.tv_history.proofs.Tallies.{tally-below}
use Rattle.tv_history.proofs.First.{HasOwn, has-own, open-running, outer-open}
use Rattle.tv_history.proofs.Documents.{any-whole, orderly}

-- ---- appended by one worker

module _ (gives : Giving) (m : Meaning) (w : IsWhole gives AtLeastOne m []) (laid : IsLaidOut m.jobs) (base : History) (none : (j : Job) → In j m.jobs → is_running base j ≡ false) where
  pub one-from : (es : History) → is_legal gives m (es ++ base) ≡ true → is_by_one_from m base es ≡ true → OneRuns gives m (es ++ base) × OthersWait gives m (es ++ base)
  one-from [] l b = (λ j k i h s r u. absurd (true≠false (sym r ∙ none j i)), λ c y i h s r u n o. absurd (true≠false (sym r ∙ none c i)))
  one-from (e ∷ es) l b =
      let legal = first_so (is_legal gives m (es ++ base)) (is_legal_after gives m (es ++ base) e) l in
      let after = second_so (is_legal gives m (es ++ base)) (is_legal_after gives m (es ++ base) e) l in
      let mine = second_so (is_by_one_from m base es) (is_by_one_after m (es ++ base) e) b in
      let r = one-from es legal (first_so (is_by_one_from m base es) (is_by_one_after m (es ++ base) e) b) in
      (one-after gives m w laid (es ++ base) e legal after mine r.0 r.1, wait-after gives m w laid (es ++ base) e legal after mine r.0 r.1)

-- ---- where at most one job of an instance runs

same-length : (a b t : JobName) → b ≡ a ++ t → length a ≡ length b → a ≡ b
same-length a b t e l = sym (e ∙ ap (λ n. a ++ n) (nil_from_length t (omega (arith, ap (λ (n : JobName). length n) e ∙ length-append a t, l))) ∙ append-nil a)

nested-same : (a b : JobName) → AreNested a b → length a ≡ length b → a ≡ b
nested-same a b (inl h) l = same-length a b h.0 h.1 l
nested-same a b (inr h) l = sym (same-length b a h.0 h.1 (sym l))

module _ (gives : Giving) (m : Meaning) (w : IsWhole gives AnyNumber m []) (past : History) (legal : is_legal gives m past ≡ true) (one : OneRuns gives m past) where
  own-runs : (I : JobName) (n : Name × Place) (y : Job) → In y m.jobs → has_open_instance past y ≡ true → (o : HasOwn gives AnyNumber m w past legal I n y) → is_running past o.own ≡ true
  own-runs I n y u t o = on_either o.itself_or_open (λ g. subst (λ z. is_running past z ≡ true) g (open-running gives AnyNumber m w past legal y u t)) (λ g. open-running gives AnyNumber m w past legal o.own o.mine g)

  same-key : (I : JobName) (c x : Name × Place) (r s : JobName) (j k : Job) → In j m.jobs → In k m.jobs → has_open_instance past j ≡ true → has_open_instance past k ≡ true → j.name ≡ I ++ c ∷ r → k.name ≡ I ++ x ∷ s → c ≡ x
  same-key I c x r s j k i h p q e f =
      let a = has-own gives AnyNumber m w past legal I c r j i e (outer-open gives AnyNumber m w past legal j i p) in
      let b = has-own gives AnyNumber m w past legal I x s k h f (outer-open gives AnyNumber m w past legal k h q) in
      let g = one a.own b.own a.mine b.mine (a.in_instance ∙ sym b.in_instance) (own-runs I c j i p a) (own-runs I x k h q b) in
      ap (first_of c) (cancel I (c ∷ []) (x ∷ []) (sym a.named ∙ ap (λ (z : Job). z.name) g ∙ b.named))

  chain-from : (r : JobName) (I : JobName) (c x : Name × Place) (s : JobName) (j k : Job) → In j m.jobs → In k m.jobs → has_open_instance past j ≡ true → has_open_instance past k ≡ true → j.name ≡ I ++ c ∷ r → k.name ≡ I ++ x ∷ s → AreNested j.name k.name
  chain-from [] I c x s j k i h p q e f =
      inl (s, f ∙ ap (λ z. I ++ z ∷ s) (sym (same-key I c x [] s j k i h p q e f)) ∙ sym (append_assoc I (c ∷ []) s) ∙ ap (λ n. n ++ s) (sym e))
  chain-from (y ∷ r) I c x [] j k i h p q e f =
      inr (y ∷ r, e ∙ ap (λ z. I ++ z ∷ y ∷ r) (same-key I c x (y ∷ r) [] j k i h p q e f) ∙ sym (append_assoc I (x ∷ []) (y ∷ r)) ∙ ap (λ n. n ++ y ∷ r) (sym f))
  chain-from (y ∷ r) I c x (z ∷ s) j k i h p q e f =
      chain-from r (I ++ c ∷ []) y z s j k i h p q (e ∙ sym (append_assoc I (c ∷ []) (y ∷ r))) (f ∙ ap (λ u. I ++ u ∷ z ∷ s) (sym (same-key I c x (y ∷ r) (z ∷ s) j k i h p q e f)) ∙ sym (append_assoc I (c ∷ []) (z ∷ s)))

  -- of two open instances one lies in the other
  pub one-chain : (j k : Job) → In j m.jobs → In k m.jobs → has_open_instance past j ≡ true → has_open_instance past k ≡ true → AreNested j.name k.name
  one-chain j k i h p q =
      let a = (are-jobs gives AnyNumber m [] w).has_name j i in
      let b = (are-jobs gives AnyNumber m [] w).has_name k h in
      chain-from a.1 [] a.0 b.0 b.1 j k i h p q a.2 b.2

  -- at most n, where all of them have names of at most n levels
  pub chain-length : (n : ℕ) → ((j : Job) → In j m.jobs → has_open_instance past j ≡ true → length j.name ≤ n) → count_by (has_open_instance past) m.jobs ≤ n
  chain-length n b =
      subst (λ t. t ≤ n) (sym (count-tally (has_open_instance past) m.jobs)) (tally-below (λ (z : Job). z.name) (has_open_instance past) (λ (z : Job). length (rest_of z.name)) m.jobs w.jobs_apart same n below)
    where
      length-is : (j : Job) → In j m.jobs → length j.name ≡ suc (length (rest_of j.name))
      length-is j i = let a = (are-jobs gives AnyNumber m [] w).has_name j i in subst (λ l. length l ≡ suc (length (rest_of l))) (sym a.2) refl

      same : (x y : Job) → In x m.jobs → In y m.jobs → has_open_instance past x ≡ true → has_open_instance past y ≡ true → length (rest_of x.name) ≡ length (rest_of y.name) → x ≡ y
      same x y i h p q e = (are-jobs gives AnyNumber m [] w).once x y i h (nested-same x.name y.name (one-chain x y i h p q) (length-is x i ∙ ap suc e ∙ sym (length-is y h)))

      below : (x : Job) → In x m.jobs → has_open_instance past x ≡ true → length (rest_of x.name) < n
      below x i p = omega (arith, length-is x i, b x i p)

-- ---- one chain

module _ (gives : Giving) (d : Document) (f : IsWellFormed d) (base : History) (none : (j : Job) → In j (meaning gives d).jobs → is_running base j ≡ false) (es : History) (legal : is_legal gives (meaning gives d) (es ++ base) ≡ true) (by_one : is_by_one_from (meaning gives d) base es ≡ true) where
  one-runs : OneRuns gives (meaning gives d) (es ++ base)
  one-runs = let p = flow-laid gives AtLeastOne d.flows f.places nesting_limit d.main [] d.inputs in (one-from gives (meaning gives d) p.0 p.1 base none es legal by_one).0

  pub open-nested : (j k : Job) → In j (meaning gives d).jobs → In k (meaning gives d).jobs → has_open_instance (es ++ base) j ≡ true → has_open_instance (es ++ base) k ≡ true → AreNested j.name k.name
  open-nested j k i h p q = one-chain gives (meaning gives d) (any-whole gives d) (es ++ base) legal one-runs j k i h p q

  pub open-few : NestsWithin d.flows nesting_limit d.main → suc (count_by (has_open_instance (es ++ base)) (meaning gives d).jobs) ≤ nesting_limit
  open-few nests = omega (arith, chain-length gives (meaning gives d) (any-whole gives d) (es ++ base) legal one-runs 7 short)
    where
      short : (j : Job) → In j (meaning gives d).jobs → has_open_instance (es ++ base) j ≡ true → length j.name ≤ 7
      short j i p = let o = (orderly gives d).opener nests j i (first_so (is_some j.opens) (is_open (es ++ base) j.name) p) in (omega (arith, ap (λ (n : JobName). length n) o.2, o.3))
