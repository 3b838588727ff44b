-- The worked examples compute.
use Rattle.std.specs.Prelude.{◌≡◌, refl, ℕ}
use Rattle.std.proofs.Common.{arith}
use Rattle.std.proofs.lemmas.Bool.{false≢true, true≢false}
use Rattle.tv_model.specs.instance.Worked.{BindsWhatJobsGive, CountsWhatIsWhole, EndsAfterItsJobs, TellsInOrder}

pub binds-what_jobs_give : BindsWhatJobsGive
binds-what_jobs_give = record { outputs = refl; places = refl; inputs = refl; output = refl }

pub counts-what_is_whole : CountsWhatIsWhole
counts-what_is_whole = record { early = refl; item = refl; counter = refl; late = refl }

pub ends-after_its_jobs : EndsAfterItsJobs
ends-after_its_jobs =
    record { waits = refl; ready = refl; done = refl; open_list = refl; closed_list = refl; before = refl; after = refl; counted = refl }

two≢three : (m n : ℕ) → m ≡ 2 → n ≡ 3 → m ≡ n → ⊥
two≢three m n a b e = omega arith

pub tells-in_order : TellsInOrder
tells-in_order =
    record {
      legal = (
        record { fits = tt; sources = refl; fresh = refl },
        (
          record { fits = tt; sources = refl; fresh = refl },
          (record { fits = refl; sources = refl; fresh = refl }, (record { fits = tt; sources = refl; fresh = refl }, tt)),
        ),
      );
      other_length = λ h. two≢three _ _ refl refl h.fits;
      twice = λ h. true≢false h.fresh;
      too_early = λ h. false≢true h.sources;
    }
