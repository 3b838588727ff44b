use Rattle.std.proofs.Common.{arith, length, refl, sym, ◌-◌, ◌≡◌, ◌∙◌}
use Rattle.std.proofs.lemmas.Bool.{eq-eqb, eqb-true}
use Rattle.std.proofs.lemmas.Result.{IfOk-weaker}
use Rattle.std.proofs.lemmas.List.{nil_from_length}
use Rattle.tv_gate.specs.Outcomes.{Giving}
use Rattle.tv_model.proofs.Tests.{true≠false}
use Rattle.tv_run.specs.Settlements.{IsOpenIn, SettlesIn, SettlesLast}
use Rattle.tv_run.specs.Standing.{StandsOpen}
use Rattle.tv_run.proofs.Lasts.{ended-still, last-low, open-last, settles-last, some-there}
use Rattle.tv_run.proofs.Rooms.{before-itself}
use Rattle.tv_run.proofs.run.OpenRun.settle_last.Goals as goal

pub index-requires : goal.index-requires
index-requires c =
    let r = c.args.self.now in
    let n = c.len.result - 1 in
    let last : n ≡ length r.busy.items - 1 = omega (arith, c.len.ensures, r.busy.ok.0) in
    let so = c.requires.1 in
    let low = last-low r c.requires.2 c.index-last.result.now n last c.index-last.ensures so.0 so.1.fits in
    omega (arith, low, r.instances.ok.0)

pub returns-then-is_empty-clause-settled : goal.returns-then-is_empty-clause-settled
returns-then-is_empty-clause-settled c = λ gives so.
    let r = c.args.self.now in
    let g = c.index.result.now in
    let n = c.len.result - 1 in
    let last : n ≡ length r.busy.items - 1 = omega (arith, c.len.ensures, r.busy.ok.0) in
    let empty = eqb-true g.open.len 0 (sym c.is_empty.ensures ∙ c.if-is_empty.true) in
    let none : length g.open.items ≡ 0 = omega (arith, empty, g.open.ok.0) in (
      before-itself r,
      refl,
      ended-still r c.requires.2 c.index-last.result.now n last c.index-last.ensures g c.index.ensures
          (nil_from_length g.open.items none),
    )

pub settle_in-requires : goal.settle_in-requires
settle_in-requires c =
    let r = c.args.self.now in
    let g = c.index.result.now in
    let n = c.len.result - 1 in
    let last : n ≡ length r.busy.items - 1 = omega (arith, c.len.ensures, r.busy.ok.0) in
    let o =
    some-there g.open.items
    (λ h.
    let none : g.open.len ≡ 0 = omega (arith, h, g.open.ok.0) in
    true≠false (sym (eq-eqb g.open.len 0 none) ∙ sym c.is_empty.ensures ∙ c.if-is_empty.false)) in (
      c.requires.0,
      open-last r c.requires.2 c.index-last.result.now n last c.index-last.ensures g c.index.ensures c.requires.0 o.0 o.1 o.2
          c.requires.1,
    )

pub returns-clause-settled : goal.returns-clause-settled
returns-clause-settled c =
    let r = c.args.self.now in
    let s = c.settle_in.new.self in
    let k = c.index-last.result.now in
    let g = c.index.result.now in
    let n = c.len.result - 1 in
    let last : n ≡ length r.busy.items - 1 = omega (arith, c.len.ensures, r.busy.ok.0) in
    let o =
    some-there g.open.items
    (λ h.
    let none : g.open.len ≡ 0 = omega (arith, h, g.open.ok.0) in
    true≠false (sym (eq-eqb g.open.len 0 none) ∙ sym c.is_empty.ensures ∙ c.if-is_empty.false)) in
    IfOk-weaker c.settle_in.result (λ b. (gives : Giving) → IsOpenIn gives r k → SettlesIn gives r s k b)
    (λ b. (gives : Giving) → StandsOpen gives r → SettlesLast gives r s b)
    (λ b h gives so.
    settles-last r c.requires.2 k n last c.index-last.ensures gives s b
    (h gives
    (open-last r c.requires.2 k n last c.index-last.ensures g c.index.ensures gives o.0 o.1 o.2 so)))
    c.settle_in.ensures.settled
