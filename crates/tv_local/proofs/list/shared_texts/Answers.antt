use Rattle.std.proofs.Common.{◌≡◌, ◌++◌, ◌∷◌, [], ◌<◌, length, get_or, map, take, ap, sym, ◌∙◌}
use Rattle.std.proofs.lemmas.List.{take_more}
use Rattle.tv_value.specs.Values.{text_value}
use Rattle.tv_value.specs.Views.{view}
use Rattle.tv_local.specs.Lists.{text_among}
use Rattle.tv_local.specs.Reading.{text_of}
use Rattle.tv_local.proofs.Lists.{put-among, text_at, texts-long, texts-all, shared-new, shared-old}
use Rattle.tv_local.proofs.list.shared_texts.Goals as goal
use Rattle.tv_local.proofs.list.shared_texts.Goals.{then-contains+in_ok-push_text, else-contains}

pub loop-other-preserved : goal.loop-other-preserved
loop-other-preserved c = λ q.
    let vs = c.args.others.now in
    let ts = map text_of (map view vs) in
    let i = c.loop-other.other-index in
    let r = c.text_of.result in
    let d = text_of (view c.other-item.result) in
    let here : r.now ≡ get_or ts i d = c.text_of.ensures ∙ ap (λ v. text_of (view v)) c.other-item.is ∙ sym (text_at vs i c.other-item.result c.loop-other-test.true) in
    put-among c.loop-other.wanted c.insert.new.self r (take i ts) c.in_ok-insert.ensures.keys c.loop-other.invariant q
    ∙ ap (λ us. text_among us q.now) (ap (λ u. take i ts ++ u ∷ []) here ∙ sym (take_more ts i d (texts-long vs i c.loop-other-test.true)))

pub loop-value-preserved : goal.loop-value-preserved
loop-value-preserved c =
    let vs = c.args.values.now in
    let ts = map text_of (map view vs) in
    let us = map text_of (map view c.args.others.now) in
    let i = c.loop-value.value-index in
    let r = c.text_of-text.result in
    let d = text_of (view c.value-item.result) in
    let old = map view c.loop-value.texts.items in
    let long : i < length ts = texts-long vs i c.loop-value-test.true in
    let here : r.now ≡ get_or ts i d = c.text_of-text.ensures ∙ ap (λ v. text_of (view v)) c.value-item.is ∙ sym (text_at vs i c.value-item.result c.loop-value-test.true) in
    let told : text_among us (get_or ts i d) ≡ c.contains.result =
    sym (c.contains.ensures ∙ c.loop-other.invariant r ∙ ap (λ l. text_among l r.now) (texts-all c.args.others.now c.loop-other.other-index c.loop-other-test.false) ∙ ap (text_among us) here) in
    elim c.if-contains.branch [
      | then-contains+in_ok-push_text w ↦
          let moved : map view c.if-contains.texts.items ≡ map view w.push_text.new.values.items = cc in
          shared-new ts us i d old (map view c.if-contains.texts.items) long (told ∙ w.if-contains.true) c.loop-value.invariant (moved ∙ w.in_ok-push_text.ensures ∙ ap (λ u. old ++ text_value u ∷ []) here)
      | else-contains w ↦
          let moved : map view c.if-contains.texts.items ≡ old = cc in
          shared-old ts us i d old (map view c.if-contains.texts.items) long (told ∙ w.if-contains.false) c.loop-value.invariant moved
    ]
