use Rattle.std.proofs.Common.{rules, ◌≡◌, ◌∙◌, ap, ap₂, codes, true, Some}
use Rattle.std.proofs.lemmas.Result.{IfOk-weaker}
use Rattle.clap.specs.Words.{app_of, rule_of, with_rule}
use Rattle.clap.specs.Simple.{app_of_fields, on_top}
use Rattle.tv_words.specs.Reading.{bare, of_rule, words_rule, workers_rule}
use Rattle.tv_words.proofs.ReadingLemmas.{one_or_two, range-given, rule-of-required}
use Rattle.tv_words.proofs.reading.command_line.Goals as goal

pub returns : goal.returns
returns c =
    let words_is : rule_of c.num_args-words.result ≡ words_rule =
    rule-of-required c.new.result c.required.result c.num_args-words.result (codes "words") (Some one_or_two) c.new.ensures.rule c.required.ensures c.num_args-words.ensures.0
    (range-given c.num_args-words.result.num_vals _ _ c.num_args-words.ensures.1 c.new-2.ensures.start c.new-2.ensures.end) in
    let workers_is : rule_of c.long-workers.result ≡ workers_rule = search rules in
    let of_is : rule_of c.long-of.result ≡ of_rule = search rules in
    let bare_is : app_of c.no_binary_name-bare.result ≡ bare =
    ap app_of_fields c.no_binary_name-bare.ensures ∙ ap (on_top (λ top. record top { no_binary_name = true })) c.new-5.ensures.app in
    let with_words = c.in_ok-arg.ensures.shape (search rules) ∙ ap₂ with_rule bare_is words_is in
    let with_workers = c.in_ok-arg-2.ensures.shape (search rules) ∙ ap₂ with_rule with_words workers_is in
    IfOk-weaker c.arg-3.result _ _ (λ r h. h.shape (search rules) ∙ ap₂ with_rule with_workers of_is) c.arg-3.ensures
