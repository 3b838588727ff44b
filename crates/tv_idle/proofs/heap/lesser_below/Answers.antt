use Rattle.std.proofs.Common.{◌≡◌, ◌+◌, ◌*◌, ap, sym, ◌∙◌, arith, get_or, inl, inr}
use Rattle.std.proofs.lemmas.Bool.{cases_eq}
use Rattle.tv_idle.specs.Orders.{is_before}
use Rattle.tv_idle.proofs.Comparing.{before-order}
use Rattle.tv_idle.proofs.Sorting.{itself}
use Rattle.tv_idle.proofs.heap.lesser_below.Goals as goal
use Rattle.tv_idle.proofs.heap.lesser_below.Goals.{else-left-jobs-via-then-left-jobs+else-is_before, else-left-jobs-via-else-left-jobs}

pub returns-then-is_before-clause-lesser : goal.returns-then-is_before-clause-lesser
returns-then-is_before-clause-lesser c k a b f =
    let jobs = c.args.table.now.jobs in
    let xs = c.args.jobs.now in
    let left = c.args.at * 2 + 1 in
    let order = before-order jobs in
    elim (cases_eq k (left + 1)) [
      | inl e ↦ ap (λ m. is_before jobs (get_or xs m 0) (get_or xs (left + 1) 0)) e ∙ itself (is_before jobs) order (get_or xs (left + 1) 0)
      | inr n ↦
          let e : k ≡ left = omega (arith, a, b, n) in
          ap (λ m. is_before jobs (get_or xs m 0) (get_or xs (left + 1) 0)) e ∙ order.one_way (get_or xs (left + 1) 0) (get_or xs left 0) (sym c.is_before.ensures ∙ c.if-is_before.true)
    ]

pub returns-else-left-jobs-clause-lesser : goal.returns-else-left-jobs-clause-lesser
returns-else-left-jobs-clause-lesser c k a b f =
    let jobs = c.args.table.now.jobs in
    let xs = c.args.jobs.now in
    let left = c.args.at * 2 + 1 in
    let order = before-order jobs in
    elim (cases_eq k left) [
      | inl e ↦ ap (λ m. is_before jobs (get_or xs m 0) (get_or xs left 0)) e ∙ itself (is_before jobs) order (get_or xs left 0)
      | inr n ↦
          let e : k ≡ left + 1 = omega (arith, a, b, n) in
          ap (λ m. is_before jobs (get_or xs m 0) (get_or xs left 0)) e
          ∙ elim c.else-left-jobs.branch [
            | else-left-jobs-via-then-left-jobs+else-is_before w ↦ sym w.is_before.ensures ∙ w.if-is_before.false
            | else-left-jobs-via-else-left-jobs w ↦ absurd (omega (arith, e, f, w.if-left-jobs.false))
          ]
    ]
