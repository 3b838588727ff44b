use Rattle.std.proofs.Common.{◌≡◌, ◌+◌, ◌<◌, ap, sym, subst, ◌∙◌, arith, length, slice_set}
use Rattle.tv_idle.specs.Idles.{Idles, of_step, with_idle}
use Rattle.tv_idle.specs.Kept.{faulty_in, is_gone, queues_view}
use Rattle.tv_idle.proofs.AllSteps.{many, map-longer, put-kept, put-seen}
use Rattle.tv_idle.proofs.Faulty.{more-by, one-more}
use Rattle.tv_idle.proofs.idle.Idle.add.Goals as goal

pub invariant_of-self : goal.invariant_of-self
invariant_of-self c =
    let r = c.self.inside in
    let i = c.self.invariant in
    let gs = r.gone.items in
    let qs = r.queues.items in
    let s = c.args.step in
    let e = map-longer (queues_view (is_gone gs)) qs in
    let inside : s < length qs = subst (λ m. s < m) (ap (λ (v : Idles). length v.steps) (sym c.self.view_is) ∙ e) c.requires.step in
    let number : c.len-number.result ≡ length gs = omega (arith, c.len-number.ensures, r.gone.ok.0) in
    let positive : 0 < r.room = subst (λ (v : Idles). 0 < v.room) (sym c.self.view_is) c.requires.room in
    let more = many gs c.push_reserved.new.self.items c.len-number.result c.args.place.now qs s c.args.faulty c.index_mut.result.now c.put.new.self c.push_reserved.ensures.items number i.all inside c.index_mut.ensures.value c.put.ensures.grown c.put.ensures.other in
    let more_faulty = more-by qs s c.index_mut.result.now c.put.new.self inside c.index_mut.ensures.value c.args.faulty (c.len-number.result, c.args.place.now) c.put.ensures.grown c.put.ensures.other in
    let counted : r.faulty + c.one_if.result ≡ faulty_in (slice_set qs s c.put.new.self) =
    ap (λ n. n + c.one_if.result) i.counted ∙ ap (λ n. faulty_in qs + n) c.one_if.ensures ∙ more_faulty in
    let few = one-more r.faulty (length gs) c.one_if.result (length c.push_reserved.new.self.items) c.args.faulty i.few c.one_if.ensures more in
    record {
      all = put-kept gs c.push_reserved.new.self.items c.len-number.result c.args.place.now qs s c.args.faulty c.index_mut.result.now c.put.new.self c.push_reserved.ensures.items number i.all inside c.index_mut.ensures.value c.put.ensures.grown c.put.ensures.other;
      marks = let a = i.marks in let b = c.push_reserved.ensures.capacity in omega (arith, a, b, more, positive);
      numbers = let a = i.numbers in omega (arith, a, more, positive);
      counted = counted;
      few = few;
    }

pub returns-clause-steps : goal.returns-clause-steps
returns-clause-steps c =
    let r = c.self.inside in
    let i = c.self.invariant in
    let gs = r.gone.items in
    let qs = r.queues.items in
    let s = c.args.step in
    let e = map-longer (queues_view (is_gone gs)) qs in
    let inside : s < length qs = subst (λ m. s < m) (ap (λ (v : Idles). length v.steps) (sym c.self.view_is) ∙ e) c.requires.step in
    let number : c.len-number.result ≡ length gs = omega (arith, c.len-number.ensures, r.gone.ok.0) in
    put-seen gs c.push_reserved.new.self.items c.len-number.result c.args.place.now qs s c.args.faulty c.index_mut.result.now c.put.new.self c.push_reserved.ensures.items number i.all inside c.index_mut.ensures.value c.put.ensures.grown c.put.ensures.other
    ∙ ap (λ (v : Idles). slice_set v.steps s (with_idle c.args.faulty (v.known, c.args.place.now) (of_step v.steps s))) c.self.view_is
