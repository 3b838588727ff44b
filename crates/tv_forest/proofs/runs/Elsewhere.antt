-- Entries of other instances.
use Rattle.std.specs.Prelude.{◌≡◌, ◌≢◌, refl, [], ◌∷◌, false, true, if◌then◌else◌}
use Rattle.std.proofs.Common.{ap, ◌∙◌}
use Rattle.std.proofs.lemmas.Bool.{false_from_ne_true}
use Rattle.std.proofs.lemmas.Option.{none-some, same_Some}
use Rattle.tv_value.specs.Nested.{Place}
use Rattle.tv_value.specs.Orders.{same_job}
use Rattle.tv_value.specs.Values.{JobName, Name}
use Rattle.tv_value.proofs.JobNameLemmas.{same_job_decides}
use Rattle.tv_model.specs.instance.Steps.{spot}
use Rattle.tv_model.specs.Meanings.{meaning}
use Rattle.tv_model.proofs.Members.{snoc-parts}
use Rattle.tv_history.specs.Entries.{accepted, bounced, closed, ended, fault_passed, handed_out, is_out, opened, recalled}
use Rattle.tv_framing.proofs.instances.History.{others-stay_settled}
use Rattle.tv_forest.specs.runs.Stated.{ElsewhereTellsNothing, MainEndsElsewhere, OthersAreElsewhere}
use Rattle.tv_forest.proofs.runs.Entries.{is-none}

-- names in two instances differ
module _ (I J : JobName) (other : J ≢ I) where
  other-spot : (n : JobName) (s : Name) (q : Place) → n ≡ spot I s q → (t : Name) (r : Place) → same_job (spot J t r) n ≡ false
  other-spot n s q e t r =
      false_from_ne_true (same_job (spot J t r) n)
      (λ h. other (snoc-parts (s, q) J I (t, r) (s, q) ((same_job_decides (spot J t r) n).0 h ∙ e)).0)

pub others-are_elsewhere : OthersAreElsewhere
others-are_elsewhere (handed_out n a t) I J s q h other f =
    let apart = other-spot I J other n s q (same_Some n (spot I s q) h) in
    record {
      settles = λ u p. record { accepted = refl; bounced = refl; ended = refl };
      rest = record { levels = λ u p. refl; begins = apart };
      leaves_open = f;
      out = λ past u p. ap (λ b. if b then true else is_out past (spot J u p)) (apart u p);
    }
others-are_elsewhere (accepted n a t w) I J s q h other f =
    let apart = other-spot I J other n s q (same_Some n (spot I s q) h) in
    record {
      settles = λ u p. record { accepted = apart u p; bounced = refl; ended = refl };
      rest = record { levels = λ u p. refl; begins = λ u p. refl };
      leaves_open = f;
      out = λ past u p. ap (λ b. if b then false else is_out past (spot J u p)) (apart u p);
    }
others-are_elsewhere (bounced n) I J s q h other f =
    let apart = other-spot I J other n s q (same_Some n (spot I s q) h) in
    record {
      settles = λ u p. record { accepted = refl; bounced = apart u p; ended = refl };
      rest = record { levels = λ u p. refl; begins = λ u p. refl };
      leaves_open = f;
      out = λ past u p. refl;
    }
others-are_elsewhere (closed n k) I J s q h other f =
    record {
      settles = λ u p. record { accepted = refl; bounced = refl; ended = refl };
      rest = record { levels = other-spot I J other n s q (same_Some n (spot I s q) h); begins = λ u p. refl };
      leaves_open = f;
      out = λ past u p. refl;
    }
others-are_elsewhere (fault_passed n) I J s q h other f =
    record {
      settles = λ u p. record { accepted = refl; bounced = refl; ended = refl };
      rest = record { levels = other-spot I J other n s q (same_Some n (spot I s q) h); begins = λ u p. refl };
      leaves_open = f;
      out = λ past u p. refl;
    }
others-are_elsewhere (opened n) I J s q h other f =
    record {
      settles = λ u p. record { accepted = refl; bounced = refl; ended = refl };
      rest = record { levels = λ u p. refl; begins = other-spot I J other n s q (same_Some n (spot I s q) h) };
      leaves_open = f;
      out = λ past u p. refl;
    }
others-are_elsewhere (ended n) I J s q h other f =
    let apart = other-spot I J other n s q (same_Some n (spot I s q) h) in
    record {
      settles = λ u p. record { accepted = refl; bounced = refl; ended = apart u p };
      rest = record { levels = λ u p. refl; begins = λ u p. refl };
      leaves_open = f;
      out = λ past u p. refl;
    }
others-are_elsewhere (recalled k) I J s q h other f = absurd (none-some (spot I s q) h)

pub main-ends_elsewhere : MainEndsElsewhere
main-ends_elsewhere J other = record {
  settles = λ u p. record { accepted = refl; bounced = refl; ended = named J u p };
  rest = record { levels = λ u p. refl; begins = λ u p. refl };
  leaves_open = false_from_ne_true (same_job J []) (λ h. other ((same_job_decides J []).0 h));
  out = λ past u p. refl;
}
  where
    -- a job has a name
    named : (I : JobName) (u : Name) (p : Place) → same_job (spot I u p) [] ≡ false
    named [] u p = refl
    named (k ∷ n) u p = refl

pub elsewhere-tells_nothing : ElsewhereTellsNothing
elsewhere-tells_nothing gives d past I v r e h =
    is-none gives d past I v r e h.leaves_open
    (record { jobs = λ s q. others-stay_settled gives (meaning gives d) past e (spot I s q) (h.settles s q); rest = h.rest })
