use Rattle.std.proofs.Common.{◌≡◌, ℕ, suc, ◌-◌, ◌<◌, ◌≤◌, length, get_or, ap, sym, ◌∙◌, arith}
use Rattle.tv_value.specs.Nested.{leaves}
use Rattle.tv_value.specs.Values.{makers_of}
use Rattle.tv_value.specs.Orders.{job_name_cmp, put_all}
use Rattle.tv_value.specs.Views.{view}
use Rattle.tv_value.proofs.Faults.{makers_from, makers-step}
use Rattle.tv_value.proofs.value.+makers.Goals as goal

next : (n : ℕ) → 0 < n → suc (n - 1) ≡ n
next n h = omega arith

below : (n m : ℕ) → 0 < n → n ≤ m → n - 1 < m
below n m h k = omega arith

within : (n m : ℕ) → n ≤ m → n - 1 ≤ m
within n m h = omega arith

pub Items::put_makers-loop-left-preserved : goal.Items::put_makers-loop-left-preserved
Items::put_makers-loop-left-preserved t c =
    let vs = c.args.self.now.values.items in
    let n = c.loop-left.left in
    let acc = c.args.makers.now.keys in (
      within n (length vs) c.loop-left.invariant.0,
      c.in_ok-put_makers.ensures
          ∙ ap (λ v. put_all job_name_cmp (makers_of (leaves (view v))) c.loop-left.makers.keys) c.index.ensures
          ∙ ap (put_all job_name_cmp (makers_of (leaves (view (get_or vs (n - 1) c.index.result.now))))) (c.loop-left.invariant.1 ∙ ap (λ i. put_all job_name_cmp (makers_from vs i) acc) (sym (next n c.loop-left-test.true)))
          ∙ sym (makers-step vs (n - 1) c.index.result.now acc (below n (length vs) c.loop-left-test.true c.loop-left.invariant.0)),
    )
