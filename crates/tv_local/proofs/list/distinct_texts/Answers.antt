use Rattle.std.proofs.Common.{◌≡◌, ◌++◌, ◌∷◌, [], ◌+◌, ◌<◌, length, get_or, Bool, true, false, not, map, take, ap, sym, ◌∙◌}
use Rattle.std.specs.BTreeSet.{contains}
use Rattle.std.proofs.lemmas.List.{take_more}
use Rattle.tv_value.specs.Values.{text_value}
use Rattle.tv_value.specs.Views.{view}
use Rattle.tv_local.specs.Lists.{text_among}
use Rattle.tv_local.specs.Reading.{text_of}
use Rattle.tv_local.proofs.Lists.{ref_cmp, put-among, text_at, texts-long, distinct-new, distinct-old}
use Rattle.tv_local.proofs.list.distinct_texts.Goals as goal
use Rattle.tv_local.proofs.list.distinct_texts.Goals.{then-branch+in_ok-push_text, else-branch}

not_true : (a b : Bool) → a ≡ not b → a ≡ true → b ≡ false
not_true a true e p = absurd cc
not_true a false e p = cc

not_false : (a b : Bool) → a ≡ not b → a ≡ false → b ≡ true
not_false a true e p = cc
not_false a false e p = absurd cc

pub loop-value-preserved : goal.loop-value-preserved
loop-value-preserved c =
    let vs = c.args.values.now in
    let ts = map text_of (map view vs) in
    let i = c.loop-value.value-index in
    let r = c.text_of-text.result in
    let d = text_of (view c.value-item.result) in
    let long : i < length ts = texts-long vs i c.loop-value-test.true in
    let here : r.now ≡ get_or ts i d = c.text_of-text.ensures ∙ ap (λ v. text_of (view v)) c.value-item.is ∙ sym (text_at vs i c.value-item.result c.loop-value-test.true) in
    let more : take i ts ++ r.now ∷ [] ≡ take (i + 1) ts = ap (λ u. take i ts ++ u ∷ []) here ∙ sym (take_more ts i d long) in
    let inv = c.loop-value.invariant in
    let old = map view c.loop-value.texts.items in
    let was : text_among (take i ts) (get_or ts i d) ≡ contains ref_cmp c.loop-value.seen r = sym (ap (text_among (take i ts)) here) ∙ sym (inv.0 r) in (
      λ q. put-among c.loop-value.seen c.insert.new.self r (take i ts) c.in_ok-insert.ensures.keys inv.0 q ∙ ap (λ us. text_among us q.now) more,
      elim c.if-branch.branch [
        | then-branch+in_ok-push_text w ↦
            let moved : map view c.if-branch.texts.items ≡ map view w.push_text.new.values.items = cc in
            distinct-new ts i d old (map view c.if-branch.texts.items) long (was ∙ not_true _ _ c.in_ok-insert.ensures.added w.if-branch.true) inv.1 (moved ∙ w.in_ok-push_text.ensures ∙ ap (λ u. old ++ text_value u ∷ []) here)
        | else-branch w ↦
            let moved : map view c.if-branch.texts.items ≡ old = cc in
            distinct-old ts i d old (map view c.if-branch.texts.items) long (was ∙ not_false _ _ c.in_ok-insert.ensures.added w.if-branch.false) inv.1 moved
      ],
    )
