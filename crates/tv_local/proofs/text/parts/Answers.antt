use Rattle.std.proofs.Common.{◌++◌, ◌∷◌, [], ◌+◌, length, drop, map, ap, sym, subst, ◌∙◌, append_assoc}
use Rattle.std.specs.Str.{IsUtf8}
use Rattle.std.proofs.lemmas.Str.{IsUtf8-drop}
use Rattle.tv_value.specs.Values.{text_value}
use Rattle.tv_value.specs.Views.{view}
use Rattle.tv_local.specs.Texts.{parts}
use Rattle.tv_local.proofs.Texts.{parts-found, parts-none}
use Rattle.tv_local.proofs.text.parts.Goals as goal

pub loop-part-preserved : goal.loop-part-preserved
loop-part-preserved c =
    let s = c.args.by.now in
    let t = c.loop-part.rest.now in
    let h = c.in-Some.ensures.cases in
    let at = h.2.1 in
    let old = map view c.loop-part.parts.items in
    let part = c.in-Some.part.now in
    let after = c.in-Some.after.now in (
      subst IsUtf8 (sym h.4) (subst (λ n. IsUtf8 (drop n t)) (sym at.ends) (IsUtf8-drop t (h.0 + length s) c.loop-part.invariant.0 at.after)),
      ap (λ l. l ++ map text_value (parts s after)) c.in_ok-push_text.ensures
          ∙ append_assoc old (text_value part ∷ []) (map text_value (parts s after))
          ∙ ap (λ ps. old ++ map text_value ps) (sym (parts-found s t part after h.0 h.1 c.requires h.2.0 at h.3 h.4))
          ∙ c.loop-part.invariant.1,
    )

pub returns : goal.returns
returns c =
    let s = c.args.by.now in
    let t = c.loop-part.rest.now in
    let old = map view c.loop-part.parts.items in
    c.in_ok-push_text-2.ensures
    ∙ ap (λ ps. old ++ map text_value ps) (sym (parts-none s t c.requires c.in_default.ensures.cases))
    ∙ c.loop-part.invariant.1
