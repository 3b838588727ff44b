use Rattle.std.proofs.Common.{ap, refl, ◌-◌}
use Rattle.tv_frame.proofs.LastLevels.{last-is_level}
use Rattle.tv_frame.proofs.frame.Frame.last_level.Goals as goal

pub returns : goal.returns
returns c flows plan pool v n s e ready =
    let w = c.waiting_at-step.result in
    last-is_level flows plan pool c.args.self.now v n s e ready (c.waiting.result - 1) w.0 w.1.now w.2
    (ap (λ m. m - 1) c.waiting.ensures) c.waiting_at-step.ensures
    (record { step = w.0; place = c.in_ok-place.place; what = _ }) refl c.in_ok-place.ensures.ok c.what_of-what.ensures
