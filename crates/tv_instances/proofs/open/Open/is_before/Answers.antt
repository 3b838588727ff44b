use Rattle.std.specs.Cmp.Lexicographic.{lists_agrees, slice_cmp}
use Rattle.std.specs.Ordering.{is_lt, is_some_and, nat_cmp}
use Rattle.std.proofs.Common.{ap, refl, sym, ◌∙◌}
use Rattle.tv_seats.specs.Seats.{place_at}
use Rattle.tv_frame.proofs.turns.Ranks.{place-is}
use Rattle.tv_instances.specs.Firsts.{stands_before}
use Rattle.tv_instances.proofs.open.Open.is_before.Goals as goal

pub returns-in-Some : goal.returns-in-Some
returns-in-Some c =
    let ss = c.args.self.now.seats.seats in
    c.lt.ensures
    ∙ ap (is_some_and is_lt) (lists_agrees {R = nat_cmp} (λ x y. refl) c.place.result.now c.place-in-Some.result.now)
    ∙ (λ i. is_lt (slice_cmp nat_cmp (c.place.ensures i) (c.place-in-Some.ensures i)))
    ∙ sym (place-is (place_at ss c.args.number) (place_at ss c.in-Some.other))
    ∙ sym (ap (stands_before ss c.args.number) c.in-Some.is)
