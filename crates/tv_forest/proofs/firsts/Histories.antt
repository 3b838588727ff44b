-- What is legal next, by the history alone.
use Rattle.std.specs.Prelude.{◌≡◌, refl, ℕ, ◌++◌, List, [], ◌∷◌, Bool, true, false, not, ◌&&◌, Option, Some, None, find, is_none, is_some}
use Rattle.std.specs.Option.{option_map_or}
use Rattle.std.proofs.Common.{ap, subst, sym, ◌∙◌}
use Rattle.std.proofs.lemmas.Bool.{false_from_ne_true}
use Rattle.std.specs.Cmp.{first_so, second_so}
use Rattle.std.proofs.Math.Bool.{and-false}
use Rattle.tv_lemmas.specs.Members.{In}
use Rattle.tv_lemmas.proofs.Members.{found-in}
use Rattle.tv_lemmas.proofs.Cases.{on_or}
use Rattle.tv_value.specs.Values.{JobName, Name}
use Rattle.tv_gate.specs.Outcomes.{Giving}
use Rattle.tv_flow.specs.Flows.{Document}
use Rattle.tv_model.specs.Jobs.{Job}
use Rattle.tv_model.specs.Made.{Meaning}
use Rattle.tv_model.specs.Meanings.{meaning}
use Rattle.tv_model.proofs.Tests.{both_true, true≠false}
use Rattle.tv_history.specs.Entries.{Entry, History, bounced, closed, ended, fault_passed, opened}
use Rattle.tv_history.specs.Histories.{can_open, can_settle_more, is_at, is_legal, is_legal_after, is_offered, is_open, may_go_on, next_ask}
use Rattle.tv_history.proofs.Legal.{Legal, bounces, closes, ends, legal-of, passes}
use Rattle.tv_history.proofs.Ready.{AnyNumber, document-whole, no-bounce, no-ending, no-settling}
use Rattle.tv_history.proofs.Tests.{same-itself}
use Rattle.tv_history.specs.order.Chains.{is_inside}
use Rattle.tv_history.specs.order.Moments.{goes_on}
use Rattle.tv_history.proofs.First.{find-first, find-none}
use Rattle.tv_forest.specs.firsts.FirstWithin.{FirstOfAll, IsFirstWithin}
use Rattle.tv_forest.specs.firsts.Opening.{NothingLeft, OpeningIsLegal, SettlesNothing}
use Rattle.tv_forest.proofs.firsts.Opened.{is-instance}

not-both : {A : Type 0} (o : Option A) → is_some o ≡ true → is_none o ≡ true → ⊥
not-both None h k = true≠false (sym h)
not-both (Some a) h k = true≠false (sym k)

-- bounced, closed, passed or ended
abbrev is_settling : Entry → Bool
is_settling (bounced n) = true
is_settling (closed n k) = true
is_settling (fault_passed n) = true
is_settling (ended n) = true
is_settling e = false

-- ---- the first of all

module _ (gives : Giving) (d : Document) where
  abbrev m : Meaning
  m = meaning gives d

  -- all jobs are inside the main instance
  inside-main : (j : Job) → In j m.jobs → is_inside [] j.name ≡ true
  inside-main j i =
      let w = (document-whole gives d).jobs j i in
      subst (λ n. is_inside [] n ≡ true) (sym w.named) (by j.instance w.key)
    where
      by : (I : JobName) (c : Name × List ℕ) → is_inside [] (I ++ c ∷ []) ≡ true
      by [] c = refl
      by (k ∷ I) c = refl

  first-of_all : (test : Job → Bool) (o : Option Job) → IsFirstWithin gives d test [] o → find test m.jobs ≡ o
  first-of_all test None w = find-none test m.jobs (λ j i. w j i (inside-main j i))
  first-of_all test (Some j) w =
      find-first (λ (k : Job). k.name) test m.jobs (document-whole gives d).jobs_apart j w.is_job w.does
      (λ k i h. w.first k i (inside-main k i) h)

  module _ (past : History) (quiet : can_settle_more m past ≡ false) where
    -- ---- openings

    opening-legal : (j : Job) → find (goes_on gives d past) m.jobs ≡ Some j → next_ask past j ≡ None
        → goes_on gives d past j ≡ true
        → is_legal_after gives m past (opened j.name) ≡ true
    opening-legal j e none goes =
        both_true (not (can_settle_more m past))
        (option_map_or (λ k. is_at k j.name && can_open m past k) (find (goes_on gives d past) m.jobs) false)
        (ap not quiet)
        (subst (λ o. option_map_or (λ k. is_at k j.name && can_open m past k) o false ≡ true) (sym e)
        (both_true (is_at j j.name) (can_open m past j) (same-itself j.name) opens-now))
      where
        opens-now : can_open m past j ≡ true
        opens-now =
            on_or (is_offered m past j) (can_open m past j) goes
            (λ h. absurd (true≠false (sym (first_so (is_some (next_ask past j)) (may_go_on m past j) h) ∙ ap is_some none)))
            (λ h. h)

    -- ---- nothing left

    module _ (legal : is_legal gives m past ≡ true)
        (asks : (j : Job) → find (goes_on gives d past) m.jobs ≡ Some j → is_some (next_ask past j) ≡ true) where
      none-settles : {e : Entry} → Legal gives m past e → is_settling e ≡ true → ⊥
      none-settles (bounces j i c) h = true≠false (sym c ∙ no-bounce gives AnyNumber m [] (document-whole gives d) past quiet j i)
      none-settles (closes l k i c e) h =
          true≠false (sym c ∙ no-settling gives AnyNumber m [] (document-whole gives d) past quiet l i)
      none-settles (passes l i c e) h =
          true≠false (sym c ∙ no-settling gives AnyNumber m [] (document-whole gives d) past quiet l i)
      none-settles (ends n c) h =
          true≠false
          (sym c
          ∙ no-ending gives AnyNumber m [] (document-whole gives d) past quiet n
          (is-instance gives d past legal n (first_so (is_open past n) _ c)))
      none-settles l h = absurd (true≠false (sym h))

      none-legal : (e : Entry) → is_settling e ≡ true → is_legal_after gives m past e ≡ false
      none-legal e s =
          false_from_ne_true (is_legal_after gives m past e) (λ h. none-settles (legal-of gives m past e h) s)

      none-opens : (n : JobName) → is_legal_after gives m past (opened n) ≡ false
      none-opens n = by (find (goes_on gives d past) m.jobs) refl
        where
          shut : (j : Job) → is_some (next_ask past j) ≡ true → (is_at j n && can_open m past j) ≡ false
          shut j h =
              false_from_ne_true (is_at j n && can_open m past j)
              (λ k.
              let opens = second_so (is_at j n) (can_open m past j) k in
              let both = first_so (is_none (next_ask past j) && is_some j.opens) (may_go_on m past j) opens in
              not-both (next_ask past j) h (first_so (is_none (next_ask past j)) (is_some j.opens) both))

          by : (o : Option Job) → find (goes_on gives d past) m.jobs ≡ o
              → (not (can_settle_more m past) && option_map_or (λ k. is_at k n && can_open m past k) o false) ≡ false
          by None e = and-false (not (can_settle_more m past))
          by (Some j) e =
              ap (λ b. not (can_settle_more m past) && b) (shut j (asks j e)) ∙ and-false (not (can_settle_more m past))

      settles-nothing : SettlesNothing gives d past
      settles-nothing = record {
        none_bounces = λ n. none-legal (bounced n) refl;
        none_closes = λ n k. none-legal (closed n k) refl;
        none_passes = λ n. none-legal (fault_passed n) refl;
        none_ends = λ n. none-legal (ended n) refl;
        none_opens = none-opens;
      }

-- ---- the laws

pub first-of_all_jobs : FirstOfAll
first-of_all_jobs gives d test o w = first-of_all gives d test o w

pub opening-is_legal : OpeningIsLegal
opening-is_legal gives d past j quiet e none =
    opening-legal gives d past quiet j e none (found-in (goes_on gives d past) (meaning gives d).jobs j e).1

pub nothing-left : NothingLeft
nothing-left gives d past legal quiet asks = settles-nothing gives d past quiet legal asks
