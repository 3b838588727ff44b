use Rattle.std.proofs.Common.{◌≡◌, ◌<◌, refl, [], length, take, sym, ap, subst, ◌∙◌, arith}
use Rattle.std.proofs.Math.Seq.{take-length}
use Rattle.tv_matching.specs.Stores.{latest_at}
use Rattle.tv_match.specs.declared.kinds.Kind as code
use Rattle.tv_match.specs.Chained.{Bucketed}
use Rattle.tv_match.specs.Entries.{entry, kepts}
use Rattle.tv_match.specs.Grouped.{AreHeads}
use Rattle.tv_match.proofs.Grouping.{heads-push}
use Rattle.tv_match.proofs.grouped.bucket_of.Goals as goal
use Rattle.tv_match.proofs.grouped.bucket_of.Goals.{then-count+in_ok-open-in-None, else-count}

pub returns-in_ok-push-in-None-clause-heads : goal.returns-in_ok-push-in-None-clause-heads
returns-in_ok-push-in-None-clause-heads c =
    let heads = c.args.heads.now in
    let q = c.args.key.now in
    let n : c.len-count.result ≡ length heads = c.len-count.ensures ∙ ap length c.bag.ensures in
    let none : latest_at q (kepts heads) ≡ [] = ap (λ es. latest_at q (kepts es)) (sym (ap (λ k. take k heads) n ∙ take-length heads)) ∙ c.in-None.ensures.none refl in
    let room : length heads < c.if-count.chains.count = elim c.if-count.branch [
      | then-count+in_ok-open-in-None w ↦ subst (λ (b : Bucketed). length heads < b.count) (sym w.chains-is) (omega (arith, w.in_ok-open-in-None.ensures.ok, c.requires.heads.room))
      | else-count w ↦ subst (λ (b : Bucketed). length heads < b.count) (sym w.chains-is) (omega (arith, w.if-count.false, c.count.ensures, n))
    ] in
    subst (λ es. AreHeads es c.if-count.chains.count) (sym c.in_ok-push-in-None.ensures.ok)
    (heads-push heads c.if-count.chains.count (entry 0 q (code.Kind.Closed 0)) (record { room = omega (arith, room); apart = c.requires.heads.apart }) none room)
