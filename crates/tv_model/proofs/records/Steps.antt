-- The noted jobs of a step are those of the meaning.
use Rattle.std.specs.Prelude.{List}
use Rattle.std.proofs.Common.{ap, sym, ◌∙◌}
use Rattle.tv_lemmas.specs.Members.{In}
use Rattle.tv_lemmas.proofs.Members.{in-map, of-map}
use Rattle.tv_value.specs.Values.{JobName, Name}
use Rattle.tv_lineage.specs.Lineages.{Record, by_step}
use Rattle.tv_lineage.specs.Members.{HaveSame}
use Rattle.tv_lineage.proofs.LawLemmas.{by_step-jobs}
use Rattle.tv_model.specs.Lineages.{main_jobs}
use Rattle.tv_model.specs.Made.{Meaning}
use Rattle.tv_model.specs.Meanings.{meaning}
use Rattle.tv_model.specs.records.Recorded.{main_records, record_of}
use Rattle.tv_model.specs.records.Stated.{ByStepIsOfJobs, IsJobOf}

module _ (m : Meaning) (rs : List Record) (f : HaveSame rs (main_records m)) (s : Name) (n : JobName) where
  there : In n (by_step rs s) → IsJobOf m s n
  there h =
      let w = (by_step-jobs rs s n).0 h in
      let j = of-map record_of w.2.0 (main_jobs m) ((f w.2.0).0 w.2.1) in
      record {
        place = w.0;
        of_step = w.1;
        job = j.0;
        among = j.1;
        named = sym (ap (λ (r : Record). r.job) j.2) ∙ w.2.2 ∙ sym w.1;
      }

  back : IsJobOf m s n → In n (by_step rs s)
  back h =
      (by_step-jobs rs s n).1
      (h.place, h.of_step, (record_of h.job, (f (record_of h.job)).1 (in-map record_of h.job (main_jobs m) h.among), h.named ∙ h.of_step))

pub by_step-is : ByStepIsOfJobs
by_step-is gives d rs f s n = (there (meaning gives d) rs f s n, back (meaning gives d) rs f s n)
