use Rattle.std.proofs.Common.{◌≡◌, take}
use Rattle.tv_lemmas.specs.Members.{Each}
use Rattle.tv_idle.specs.Idles.{of_step}
use Rattle.tv_spread.specs.Spreads.{HasOtherRooms, new_faulty, new_good}
use Rattle.tv_spread.proofs.spread.Spread.reserve_idle.Given as goal

abbrev pub invariant-loop-step : goal.invariant-loop-step
invariant-loop-step l = record {
  good : Each (λ c. (of_step l.idle.steps c).good_room ≡ new_good l.intakes c) (take l.step-index l.self.touched.items);
  faulty : Each (λ c. (of_step l.idle.steps c).faulty_room ≡ new_faulty l.intakes c) (take l.step-index l.self.touched.items);
  rooms : HasOtherRooms l.initial.idle l.idle;
}
