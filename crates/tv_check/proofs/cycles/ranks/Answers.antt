use Rattle.std.proofs.Common.{◌≡◌, ap, sym, ◌∙◌, subst, length, map, arith}
use Rattle.std.specs.Prelude.{nat_lt}
use Rattle.std.specs.List.{list_all, range_with_len}
use Rattle.std.specs.Result.{IfOk}
use Rattle.tv_flow.specs.Views.{step_view, flow_view}
use Rattle.tv_check.specs.RankNumbers.{first_at}
use Rattle.tv_naming.proofs.Forms.{steps-named, length-each}
use Rattle.tv_check.proofs.Ranks.{ranked-below, ranked-few, ranks-placed}
use Rattle.tv_check.proofs.cycles.ranks.Goals as goal

pub places-requires-clause-few : goal.places-requires-clause-few
places-requires-clause-few c =
    let f = flow_view c.args.flow.now in
    omega (arith, ap length c.requires.by_rank, ranked-few f.steps, (steps-named f c.requires.formed).few)

pub places-requires-clause-below : goal.places-requires-clause-below
places-requires-clause-below c =
    let f = flow_view c.args.flow.now in
    let steps = c.args.flow.now.steps in
    ap (λ n. list_all (λ v. nat_lt v n) c.args.by_rank.now) (ap length c.as_slice.ensures ∙ sym (length-each step_view steps))
    ∙ ap (list_all (λ v. nat_lt v (length f.steps))) c.requires.by_rank
    ∙ ranked-below f.steps (steps-named f c.requires.formed).rise

pub returns : goal.returns
returns c =
    let f = flow_view c.args.flow.now in
    let steps = c.args.flow.now.steps in
    subst (λ ks. IfOk c.places.result (λ rs. rs.items ≡ ks))
    (ap (λ n. map (λ v. first_at v c.args.by_rank.now) (range_with_len 0 n)) (ap length c.as_slice.ensures ∙ sym (length-each step_view steps))
    ∙ ap (λ vs. map (λ v. first_at v vs) (range_with_len 0 (length f.steps))) c.requires.by_rank
    ∙ ranks-placed f.steps (steps-named f c.requires.formed).rise)
    c.places.ensures
