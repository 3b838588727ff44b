use Rattle.std.proofs.Common.{◌≡◌, arith, length, subst}
use Rattle.std.specs.BTreeMap.{get}
use Rattle.std.proofs.lemmas.List.{get_or_default}
use Rattle.tv_value.specs.Orders.{place_cmp}
use Rattle.tv_traces.specs.Growing.{AreGrownBy, IsAroundOne, WithAround}
use Rattle.tv_traces.proofs.GrowingLemmas.{all-more, around-more}
use Rattle.tv_traces.proofs.growing.grow_around.Goals as goal

pub loop-depth-preserved : goal.loop-depth-preserved
loop-depth-preserved c = λ js h.
    around-more (IsAroundOne js) c.args.step c.args.place.now c.loop-depth.depth _ c.loop-depth-test.true (get_or_default c.args.place.now c.loop-depth.depth 0 _ c.loop-depth-test.true) (get place_cmp c.grow.new.grown) (c.in_ok-grow.ensures js c.args.place.now c.loop-depth.depth (c.loop-depth.invariant js h))

pub returns : goal.returns
returns c = λ js h.
    let all : c.loop-depth.depth ≡ length c.args.place.now = omega (arith, c.loop-depth-test.false, c.loop-depth.auto.depth-end) in
    all-more js c.args.step c.args.place.now (get place_cmp c.loop-depth.grown)
    (subst (λ d. AreGrownBy (WithAround (IsAroundOne js) c.args.step c.args.place.now d) (get place_cmp c.loop-depth.grown)) all (c.loop-depth.invariant js h))
