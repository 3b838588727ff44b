use Rattle.std.proofs.Common.{◌≡◌, ◌++◌, ap, sym, subst, ◌∙◌, length, slice_get, option_map, Some, None, Option}
use Rattle.std.specs.Prelude.{ℕ, List, Bool}
use Rattle.tv_idle.specs.Laid.{listed}
use Rattle.tv_idle.specs.Listed.{Listed}
use Rattle.tv_idle.specs.Orders.{is_before, job_at}
use Rattle.tv_idle.specs.Sought.{IsFirst, is_sought_at, lesser, sought}
use Rattle.tv_idle.specs.Tables.{Rows}
use Rattle.tv_idle.proofs.Comparing.{before-order}
use Rattle.tv_idle.proofs.Finding.{first-both, first-listed, first-within, some-within}
use Rattle.tv_idle.proofs.ready.Ready.first_after.Goals as goal

pub lesser-requires-clause-first : goal.lesser-requires-clause-first
lesser-requires-clause-first c =
    let r = c.self.inside in
    let jobs = r.table.jobs in
    first-within (is_before jobs) (is_sought_at c.args.place.now c.args.gone.now jobs) (length jobs) r.queue.items c.first_queued-queued.result c.self.invariant.queue_within c.first_queued-queued.ensures

pub lesser-requires-clause-second : goal.lesser-requires-clause-second
lesser-requires-clause-second c =
    let r = c.self.inside in
    let jobs = r.table.jobs in
    let p = is_sought_at c.args.place.now c.args.gone.now jobs in
    first-within (is_before jobs) p (length jobs) r.late.items c.first_late-late.result c.self.invariant.late_within
    (subst (λ ss. IsFirst (is_before jobs) p ss c.first_late-late.result) c.as_slice.ensures.value c.first_late-late.ensures)

pub number-requires : goal.number-requires
number-requires c =
    let r = c.self.inside in
    let jobs = r.table.jobs in
    let p = is_sought_at c.args.place.now c.args.gone.now jobs in
    let late = subst (λ ss. IsFirst (is_before jobs) p ss c.first_late-late.result) c.as_slice.ensures.value c.first_late-late.ensures in
    some-within jobs p r.queue.items r.late.items c.first_queued-queued.result c.first_late-late.result c.in-Some.at
    c.self.invariant.queue_within c.self.invariant.late_within c.first_queued-queued.ensures late (sym c.lesser.ensures ∙ c.in-Some.is)

pub place-requires : goal.place-requires
place-requires c =
    let r = c.self.inside in
    let jobs = r.table.jobs in
    let p = is_sought_at c.args.place.now c.args.gone.now jobs in
    let late = subst (λ ss. IsFirst (is_before jobs) p ss c.first_late-late.result) c.as_slice.ensures.value c.first_late-late.ensures in
    some-within jobs p r.queue.items r.late.items c.first_queued-queued.result c.first_late-late.result c.in-Some.at
    c.self.invariant.queue_within c.self.invariant.late_within c.first_queued-queued.ensures late (sym c.lesser.ensures ∙ c.in-Some.is)

abbrev head : List ℕ → List Bool → Listed → Option (ℕ × List ℕ)
head p gone v = slice_get (sought p gone v.jobs) 0

-- what is seen of the first that is found
seen : (p : List ℕ) (gone : List Bool) (t : Rows) (queue late : List ℕ) (v : Listed) (a b m : Option ℕ) → record { jobs = listed t queue late; levels = t.levels; room = t.room } ≡ v
    → IsFirst (is_before t.jobs) (is_sought_at p gone t.jobs) queue a → IsFirst (is_before t.jobs) (is_sought_at p gone t.jobs) late b
    → m ≡ lesser (is_before t.jobs) a b → option_map (job_at t.jobs) m ≡ head p gone v
seen p gone t queue late v a b m is f g e =
    ap (option_map (job_at t.jobs)) e
    ∙ first-listed p gone t.jobs (queue ++ late) (lesser (is_before t.jobs) a b) (first-both (is_before t.jobs) (before-order t.jobs) (is_sought_at p gone t.jobs) queue late a b f g)
    ∙ ap (head p gone) is

pub returns-in-Some : goal.returns-in-Some
returns-in-Some c =
    let r = c.self.inside in
    let jobs = r.table.jobs in
    let p = is_sought_at c.args.place.now c.args.gone.now jobs in
    let late = subst (λ ss. IsFirst (is_before jobs) p ss c.first_late-late.result) c.as_slice.ensures.value c.first_late-late.ensures in
    ap (λ n. Some (n, c.place.result.now)) c.number.ensures
    ∙ ap (λ q. Some ((job_at jobs c.in-Some.at).0, q)) c.place.ensures
    ∙ seen c.args.place.now c.args.gone.now r.table r.queue.items r.late.items c.args.self.now c.first_queued-queued.result c.first_late-late.result (Some c.in-Some.at) c.self.view_is c.first_queued-queued.ensures late (sym c.in-Some.is ∙ c.lesser.ensures)

pub returns-in-None : goal.returns-in-None
returns-in-None c =
    let r = c.self.inside in
    let jobs = r.table.jobs in
    let p = is_sought_at c.args.place.now c.args.gone.now jobs in
    let late = subst (λ ss. IsFirst (is_before jobs) p ss c.first_late-late.result) c.as_slice.ensures.value c.first_late-late.ensures in
    seen c.args.place.now c.args.gone.now r.table r.queue.items r.late.items c.args.self.now c.first_queued-queued.result c.first_late-late.result None c.self.view_is c.first_queued-queued.ensures late (sym c.in-None.is ∙ c.lesser.ensures)
