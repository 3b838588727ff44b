use Rattle.std.specs.Prelude.{None, Some}
use Rattle.std.specs.Str.{IsUtf8}
use Rattle.std.proofs.Common.{ap, drop, lit<, subst, sym, ◌+◌, ◌∙◌}
use Rattle.std.proofs.lemmas.Str.Pattern.{split_parts}
use Rattle.std.proofs.lemmas.Str.{IsUtf8-drop}
use Rattle.tv_words.proofs.Places.{Goes, ends, ends-wrong, goes-on, goes-wrong}
use Rattle.tv_words.proofs.elements.reading.indices_of.Goals as goal

pub returns-in_default-index_of : goal.returns-in_default-index_of
returns-in_default-index_of c =
    let rest = c.loop-part.rest.now in
    let part = c.in-Some.part in
    let after = c.in-Some.after in
    let p = split_parts 44 rest (Some (part, after)) c.in-Some.ensures.cases (lit< tt) in
    sym (goes-wrong c.loop-part.indices.items rest c.args.text.now part.now after.now c.loop-part.invariant.1 p.0 p.1 (sym c.in_default-index_of.ensures))

pub loop-part-preserved : goal.loop-part-preserved
loop-part-preserved c =
    let rest = c.loop-part.rest.now in
    let part = c.in-Some.part in
    let after = c.in-Some.after in
    let h = c.in-Some.ensures.cases in
    let at = h.2.1 in
    let p = split_parts 44 rest (Some (part, after)) h (lit< tt) in (
      subst IsUtf8 (sym h.4) (subst (λ n. IsUtf8 (drop n rest)) (sym at.ends) (IsUtf8-drop rest (h.0 + 1) c.loop-part.invariant.0 at.after)),
      subst (λ is. Goes is after.now c.args.text.now) (sym c.in_ok-push.ensures.items) (goes-on c.loop-part.indices.items rest c.args.text.now part.now after.now c.in-Some-index_of.index c.loop-part.invariant.1 p.0 p.1 (sym c.in-Some-index_of.ensures)),
    )

pub returns-in_default-index_of-2 : goal.returns-in_default-index_of-2
returns-in_default-index_of-2 c =
    let rest = c.loop-part.rest.now in
    let lacks = split_parts 44 rest None c.in_default.ensures.cases (lit< tt) in
    sym (ends-wrong c.loop-part.indices.items rest c.args.text.now c.loop-part.invariant.1 lacks (sym c.in_default-index_of-2.ensures))

pub returns : goal.returns
returns c =
    let rest = c.loop-part.rest.now in
    let lacks = split_parts 44 rest None c.in_default.ensures.cases (lit< tt) in
    ap Some (c.in_ok-of.ensures.ok ∙ c.as_slice.ensures.value ∙ c.in_ok-push-2.ensures.items)
    ∙ sym (ends c.loop-part.indices.items rest c.args.text.now c.in-Some-index_of-2.last c.loop-part.invariant.1 lacks (sym c.in-Some-index_of-2.ensures))
