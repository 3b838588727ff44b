use Rattle.std.proofs.Common.{◌≡◌, ◌∙◌, ◌<◌, ℕ, List, Bool, true, false, length, get_or, length-set, arith}
use Rattle.std.proofs.Math.ListN.{set}
use Rattle.tv_naming.specs.graphs.Walk.{is_entered}
use Rattle.tv_naming.proofs.Members.{all-more, marked-set}
use Rattle.tv_naming.proofs.graphs.walk.Walk.enter.Goals as goal

stay : (ts : List Bool) (v w : ℕ) → v < length ts → get_or ts w false ≡ true → get_or (set ts v true) w false ≡ true
stay ts v w below h = marked-set ts v w below ∙ grind arith

pub returns-in_err-push-clause-marks : goal.returns-in_err-push-clause-marks
returns-in_err-push-clause-marks c g k = record {
  entered_length = omega (arith, k.entered_length, length-set c.args.self.now.entered.items c.args.vertex true);
  places_length = k.places_length;
  passed = λ v below. all-more (is_entered c.args.self.now) (λ w. get_or (set c.args.self.now.entered.items c.args.vertex true) w false) (λ w. stay c.args.self.now.entered.items c.args.vertex w c.requires.within) _ (k.passed v below);
}

pub returns-clause-marks : goal.returns-clause-marks
returns-clause-marks c g k = record {
  entered_length = omega (arith, k.entered_length, length-set c.args.self.now.entered.items c.args.vertex true);
  places_length = k.places_length;
  passed = λ v below. all-more (is_entered c.args.self.now) (λ w. get_or (set c.args.self.now.entered.items c.args.vertex true) w false) (λ w. stay c.args.self.now.entered.items c.args.vertex w c.requires.within) _ (k.passed v below);
}
