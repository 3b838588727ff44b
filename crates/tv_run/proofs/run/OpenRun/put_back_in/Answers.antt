use Rattle.std.specs.Prelude.{Some, vec_len}
use Rattle.std.proofs.Common.{ap, arith, sym, ◌∙◌}
use Rattle.std.proofs.lemmas.Bool.{eqb-true}
use Rattle.std.proofs.lemmas.Option.{slice_get-get_or}
use Rattle.tv_run.proofs.AllBack.{none-open}
use Rattle.tv_run.proofs.run.OpenRun.put_back_in.Goals as goal

pub returns-else-not-is_empty : goal.returns-else-not-is_empty
returns-else-not-is_empty c =
    let r = c.args.self.now in
    let g = c.index.result.now in
    let none = eqb-true (vec_len g.open) 0 (sym c.is_empty.ensures ∙ c.if-not-is_empty.false) in
    none-open r c.args.at g (slice_get-get_or r.instances.items c.args.at g c.requires.there ∙ ap Some (sym c.index.ensures))
    (omega (arith, none, g.open.ok.0))
