-- What is out is counted, one instance more at a time.
use Rattle.std.specs.List.{sum_by}
use Rattle.std.specs.Prelude.{◌≡◌, refl, ℕ, ◌+◌, ◌<◌, ◌≤◌, List, [], ◌∷◌, None, Option, Some, get_or, length, slice_get, take}
use Rattle.std.proofs.Common.{ap, arith, sym, ◌∙◌}
use Rattle.std.proofs.lemmas.List.{take_all}
use Rattle.std.proofs.lemmas.List.Sums.{sum_by-cons, sum_by-take-le, sum_by_more}
use Rattle.std.proofs.lemmas.Option.{none-some, slice_get_read}
use Rattle.tv_gate.specs.Outcomes.{Giving}
use Rattle.tv_instances.specs.FramingViews.{View}
use Rattle.tv_seats.specs.Seats.{seats_out}
use Rattle.tv_instances.specs.Forest.{Instance, Instances}
use Rattle.tv_instances.specs.declared.open.Open.{Open}
use Rattle.tv_run.specs.Recalling.{out_in}
use Rattle.tv_run.specs.Standing.{IsKept, IsLife, Stands}
use Rattle.tv_run.specs.declared.instances.Instance as code
use Rattle.tv_run.specs.declared.run.OpenRun.{OpenRun}
use Rattle.tv_run.proofs.CountedJobs.{out-few}
use Rattle.tv_run.proofs.JobLemmas.{instance-told}
use Rattle.tv_run.proofs.Recalling.{out-many}

abbrev out_of : code.Instance → ℕ
out_of c = sum_by (λ (o : Open). seats_out o.seats.seats) c.open.items

-- an instance has no more than one Open
alone : (r : OpenRun) (i : ℕ) (c : code.Instance) (x : Instance) (o : Open) (os : List Open) → IsKept r i c x
    → c.open.items ≡ o ∷ os → os ≡ []
alone r i c x o os kept e = by x.view kept.life
  where
    by : (w : Option View) → IsLife r c x w → os ≡ []
    by None life = absurd (none-some o (ap (λ l. slice_get l 0) (sym life.0 ∙ e)))
    by (Some v) life = ap rest (sym e ∙ life.there)
      where
        rest : List Open → List Open
        rest [] = []
        rest (q ∷ qs) = qs

module _ (gives : Giving) (r : OpenRun) (xs : Instances) (st : Stands gives r xs) (items : List code.Instance)
    (all : items ≡ r.instances.items) (i : ℕ) (c : code.Instance) (low : i < length items) (read : c ≡ get_or items i c)
    (count : ℕ) (before : count ≡ out_in (take i items)) where
  more-is : out_in (take (i + 1) items) ≡ count + out_of c
  more-is = sum_by_more out_of items i c low ∙ (λ j. sym before j + out_of (sym read j))

  pub one-open : (o : Open) (os : List Open) → c.open.items ≡ o ∷ os → out_of c ≡ seats_out o.seats.seats
  one-open o os e =
      let at = slice_get_read items (length items) i c refl low read in
      let x = instance-told r xs st.fits i c (ap (λ l. slice_get l i) (sym all) ∙ at) in
      let rest = alone r i c x.0 o os x.2 e in
      let sum = sum_by-cons (λ (p : Open). seats_out p.seats.seats) o [] in
      ap (sum_by (λ (p : Open). seats_out p.seats.seats)) (e ∙ ap (λ l. o ∷ l) rest) ∙ plus-none _ _ sum
    where
      plus-none : (a b : ℕ) → a ≡ b + 0 → a ≡ b
      plus-none a b h = omega (arith, h)

  pub open-more : (o : Open) (os : List Open) (n : ℕ) → c.open.items ≡ o ∷ os → n ≡ seats_out o.seats.seats
      → count + n ≡ out_in (take (i + 1) items)
  open-more o os n e is = ap (λ m. count + m) (is ∙ sym (one-open o os e)) ∙ sym more-is

  pub shut-more : c.open.items ≡ [] → count ≡ out_in (take (i + 1) items)
  shut-more e =
      let more = more-is in
      let none : out_of c ≡ 0 = ap (sum_by (λ (p : Open). seats_out p.seats.seats)) e in
      omega (arith, more, none)

  -- no more are counted than there are jobs
  pub few-more : (o : Open) (os : List Open) (n : ℕ) → c.open.items ≡ o ∷ os → n ≡ seats_out o.seats.seats
      → count + n ≤ length r.jobs.items
  few-more o os n e is =
      let now = open-more o os n e is in
      let some = sum_by-take-le out_of items (i + 1) in
      let many = ap out_in all ∙ out-many gives r xs st in
      let few = out-few gives r xs st in
      omega (arith, now, some, many, few)

-- once all were looked at
pub out-so : (r : OpenRun) (items : List code.Instance) → items ≡ r.instances.items → (i count : ℕ) → length items ≤ i
    → count ≡ out_in (take i items) → count ≡ out_in r.instances.items
out-so r items all i count past e = e ∙ ap out_in (take_all i items past) ∙ ap out_in all
