use Rattle.std.specs.Prelude.{refl, None, false, slice_get}
use Rattle.std.proofs.Common.{ap, subst, sym, ◌∙◌}
use Rattle.std.proofs.lemmas.Option.{same_Some}
use Rattle.tv_run.specs.Following.{CanFollow, FollowsIn, IsEntering}
use Rattle.tv_run.specs.declared.instances.Instance.{Instance}
use Rattle.tv_run.specs.declared.run.OpenRun.{OpenRun}
use Rattle.tv_run.proofs.Entering.{HasLast, can-follow, entered-so}
use Rattle.tv_run.proofs.run.OpenRun.enter.Goals as goal

pub follow-requires : goal.follow-requires
follow-requires c =
    let m : OpenRun = record c.args.self.now { instances = c.push_reserved.new.self } in
    let e : Instance =
    record {
      flow = c.args.flow;
      opener = c.args.opener;
      jobs = c.args.leftover.numbers;
      is_busy = false;
      «open» = c.args.leftover.slot;
      seats = None;
    } in
    let last : HasLast c.args.self.now m e = record { same = refl; instances = c.push_reserved.ensures.items } in
    subst (CanFollow m) (sym (c.len-number.ensures ∙ c.args.self.now.instances.ok.0))
    (can-follow c.args.self.now m c.args.leftover.numbers c.args.leftover.slot c.requires.0 e c.requires.1 last refl c.requires.1.is_one)

pub returns : goal.returns
returns c o one =
    let entering =
    subst (IsEntering c.args.self.now c.args.leftover.numbers c.args.leftover.slot)
    (same_Some c.requires.0 o (ap (λ l. slice_get l 0) (sym c.requires.1.is_one ∙ one))) c.requires.1 in
    let m : OpenRun = record c.args.self.now { instances = c.push_reserved.new.self } in
    let e : Instance =
    record {
      flow = c.args.flow;
      opener = c.args.opener;
      jobs = c.args.leftover.numbers;
      is_busy = false;
      «open» = c.args.leftover.slot;
      seats = None;
    } in
    let last : HasLast c.args.self.now m e = record { same = refl; instances = c.push_reserved.ensures.items } in
    entered-so c.args.self.now m c.args.leftover.numbers c.args.leftover.slot o e entering last refl entering.is_one c.follow.new.self
    (subst (FollowsIn m c.follow.new.self) (c.len-number.ensures ∙ c.args.self.now.instances.ok.0) c.follow.ensures) refl
