use Rattle.std.proofs.Common.{ℕ, ◌<◌, suc, length, sym, ap, ◌∙◌, subst, arith}
use Rattle.tv_value.specs.Views.{view}
use Rattle.tv_parts.specs.Partials.{part_at}
use Rattle.tv_outputs.specs.Kept.{IsNoted}
use Rattle.tv_outputs.proofs.Comparing.{inner-told, none-told, part-told}
use Rattle.tv_outputs.proofs.Mapping.{each-part_at}
use Rattle.tv_outputs.proofs.PieceLemmas.{item-sound}
use Rattle.tv_outputs.proofs.same.+found_is.Goals as goal

pub part_stands_for-requires : goal.part_stands_for-requires
part_stands_for-requires t c =
    let n = c.requires in
    item-sound n.0 c.in-Some-item.piece.now (c.in-Some-item.ensures {u = tt} n.0 n.1) n.2

pub found_is-requires : goal.found_is-requires
found_is-requires t c =
    let n = c.requires in
    let s = c.in-Some.ensures.cases.0 in (
      subst (λ m. length c.in-Some.rest.now < m) (sym (ap length s) ∙ c.decreases) (below (length c.in-Some.rest.now)),
      (part_at n.0 c.in-Some.first.now, c.in-Some-part.ensures {u = tt} n.0 n.1, each-part_at IsNoted n.0 c.in-Some.first.now n.2),
    )
  where
    below : (n : ℕ) → n < suc n
    below n = omega arith

pub returns-in-Some-item : goal.returns-in-Some-item
returns-in-Some-item t c r shows each =
    part-told r c.in-Some-item.piece.now (c.in-Some-item.ensures {u = tt} r shows) c.args.place.now c.in-Some.first.now c.in-Some.rest.now c.in-Some.ensures.cases.0 (view c.args.value.now) c.part_stands_for.result c.part_stands_for.ensures

pub returns-in-Some-part : goal.returns-in-Some-part
returns-in-Some-part t c r shows each =
    let i = c.in-Some.first.now in
    inner-told r (c.in-None.ensures {u = tt} r shows) c.args.place.now i c.in-Some.rest.now c.in-Some.ensures.cases.0 (view c.args.value.now) c.found_is.result
    (c.found_is.ensures (part_at r i) (c.in-Some-part.ensures {u = tt} r shows) (each-part_at IsNoted r i each))

pub returns-in-None-part : goal.returns-in-None-part
returns-in-None-part t c r shows each =
    none-told r (c.in-None.ensures {u = tt} r shows) c.args.place.now c.in-Some.first.now c.in-Some.rest.now c.in-Some.ensures.cases.0 (view c.args.value.now) (c.in-None-part.ensures {u = tt} r shows)
