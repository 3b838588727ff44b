-- The tries that one worker has had accepted, each read as its ask, are the order of one worker, or a beginning of it.
use Rattle.std.specs.Prelude.{List, Some, [], find, map, option_and_then, option_map, refl, ◌&&◌, ◌==◌, ◌∷◌, ◌≡◌}
use Rattle.std.proofs.Common.{ap, inl, inr, subst, sym, ◌∙◌}
use Rattle.std.proofs.lemmas.Bool.{eq-eqb, eqb-true}
use Rattle.std.specs.Cmp.{first_so, second_so}
use Rattle.tv_lemmas.specs.Members.{In}
use Rattle.tv_value.specs.Orders.{same_job}
use Rattle.tv_value.specs.Values.{JobName}
use Rattle.tv_value.proofs.JobNameLemmas.{same_job_decides}
use Rattle.tv_gate.specs.Outcomes.{Giving}
use Rattle.tv_dispatch.specs.Jobs.{Ask}
use Rattle.tv_model.specs.Jobs.{Job}
use Rattle.tv_model.specs.Made.{Meaning}
use Rattle.tv_model.proofs.Tests.{both_true}
use Rattle.tv_model.specs.Turns.{ask_order}
use Rattle.tv_history.specs.Alone.{IsFirstPart}
use Rattle.tv_history.specs.Tries.{ask_try}
use Rattle.tv_history.proofs.Running.{AreJobs}
use Rattle.tv_history.specs.Runs.{Run, meant, past_of}
use Rattle.tv_work.specs.Asked.{AreAsksOf, accepted_tries}
use Rattle.tv_work.specs.InOrder.{AcceptsABeginning, AcceptsInOrder, ask_of_try}
use Rattle.tv_work.specs.Working.{IsWorkedOff}
use Rattle.tv_work.proofs.Orders.{IsFrom, all-tries_in_order, first-mapped, formed-now, one-now, order-asks, own-tries, tries-in_order}
use Rattle.tv_work.proofs.Runs.{jobs-of}
use Rattle.tv_work.proofs.Tickets.{find-it}
use Rattle.tv_work.proofs.Tries.{AllHaveTries}

module _ (gives : Giving) (m : Meaning) (are : AreJobs gives m) (own : AllHaveTries m.jobs) where
  -- the try of an ask is read as the ask
  reads-one : (p : JobName × Ask) → (j : Job) × In j m.jobs × (p.0 ≡ j.name) × In p.1 j.asks → ask_of_try m (ask_try gives p) ≡ Some p
  reads-one p h =
      ap (option_and_then (λ (j : Job). option_map (λ (a : Ask). (p.0, a)) (find (λ (a : Ask). p.1.activity == a.activity && p.1.attempt == a.attempt) j.asks))) its-job
      ∙ ap (option_map (λ (a : Ask). (p.0, a))) its-ask
    where
      its-job : find (λ (j : Job). same_job p.0 j.name) m.jobs ≡ Some h.0
      its-job =
          find-it (λ (j : Job). same_job p.0 j.name) h.0 m.jobs h.1 ((same_job_decides p.0 h.0.name).1 h.2)
          (λ k i e. are.once k h.0 i h.1 (sym ((same_job_decides p.0 k.name).0 e) ∙ h.2))

      its-ask : find (λ (a : Ask). p.1.activity == a.activity && p.1.attempt == a.attempt) h.0.asks ≡ Some p.1
      its-ask =
          find-it (λ (a : Ask). p.1.activity == a.activity && p.1.attempt == a.attempt) p.1 h.0.asks h.3
          (both_true (p.1.activity == p.1.activity) (p.1.attempt == p.1.attempt) (eq-eqb p.1.activity p.1.activity refl) (eq-eqb p.1.attempt p.1.attempt refl))
          (λ a i e. (own h.0 h.1).apart a p.1 i h.3 (sym (eqb-true p.1.activity a.activity (first_so (p.1.activity == a.activity) (p.1.attempt == a.attempt) e))) (sym (eqb-true p.1.attempt a.attempt (second_so (p.1.activity == a.activity) (p.1.attempt == a.attempt) e))))

  reads-all : (ps : List (JobName × Ask)) → AreAsksOf m.jobs ps → map (ask_of_try m) (map (ask_try gives) ps) ≡ map Some ps
  reads-all [] of = refl
  reads-all (p ∷ ps) of = λ i. reads-one p (of p (inl refl)) i ∷ reads-all ps (λ q h. of q (inr h)) i

module _ (gives : Giving) (r s : Run) (from : IsFrom gives r s) where
  reads-order : map (ask_of_try (meant gives s)) (map (ask_try gives) (ask_order (meant gives s))) ≡ map Some (ask_order (meant gives s))
  reads-order = reads-all gives (meant gives s) (jobs-of gives s.document) (own-tries gives s.document (formed-now gives r s from)) (ask_order (meant gives s)) (order-asks gives s.document (formed-now gives r s from))

  pub accepts-in_order : IsWorkedOff gives s → AcceptsInOrder gives s
  accepts-in_order w = ap (map (ask_of_try (meant gives s))) (all-tries_in_order gives s.document (formed-now gives r s from) (past_of s) from.legal.legal (one-now gives r s from) w.done) ∙ reads-order

  pub accepts-beginning : AcceptsABeginning gives s
  accepts-beginning =
      subst (IsFirstPart (map (ask_of_try (meant gives s)) (accepted_tries s))) reads-order
      (first-mapped (ask_of_try (meant gives s)) (accepted_tries s) (map (ask_try gives) (ask_order (meant gives s))) (tries-in_order gives s.document (formed-now gives r s from) (past_of s) from.legal.legal (one-now gives r s from)))
