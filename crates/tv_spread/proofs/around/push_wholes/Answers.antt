use Rattle.std.proofs.Common.{length, subst, sym}
use Rattle.tv_check.specs.declared.ports.Port.{Port}
use Rattle.tv_telling.specs.endings.Feeds.{IsWithin}
use Rattle.tv_spread.specs.Arounds.{IsFed}
use Rattle.tv_spread.proofs.Lists.{each-at}
use Rattle.tv_spread.proofs.Told.{fed-within}
use Rattle.tv_spread.proofs.around.push_wholes.Goals as goal

pub has_whole-requires : goal.has_whole-requires
has_whole-requires c =
    let a = c.args.around.now in
    let s = c.args.step in
    let e = c.args.event.now in
    let fed = each-at (λ (p : Port). IsFed a s e p.feed) c.args.ports.now c.loop-port.port-index c.port-item.result c.requires.fed c.loop-port-test.true in
    subst (λ (p : Port). IsWithin (length a.endings.now.whole.items) p.feed) (sym c.port-item.is) (fed-within a s e _ fed)
