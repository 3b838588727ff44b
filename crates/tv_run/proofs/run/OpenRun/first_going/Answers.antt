use Rattle.std.proofs.Common.{ap, length, ◌+◌}
use Rattle.tv_value.specs.Values.{JobName}
use Rattle.tv_run.proofs.WalkInside.{found-of_all, main-open}
use Rattle.tv_run.proofs.run.OpenRun.first_going.Goals as goal

pub first_in-requires : goal.first_in-requires
first_in-requires c =
    let w = c.requires in
    let m = main-open w.0 c.args.self.now w.1.0 w.1.1 w.1.2 in
    (w.0, w.1.0, m.main, m.view, w.1.1, m.there, m.is_open, ap (λ (n : JobName). length n + 8) m.unnamed)

pub returns : goal.returns
returns c gives xs st =
    let r = c.args.self.now in
    let m = main-open gives r xs st c.requires.1.2 in
    found-of_all gives r xs c.args.seeking m.main m.unnamed c.first_in.result
    (c.first_in.ensures gives xs m.main m.view st m.there m.is_open (ap (λ (n : JobName). length n + 8) m.unnamed))
