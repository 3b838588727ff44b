use Rattle.std.proofs.Common.{ap, map, option_map, sym, refl, ◌∙◌}
use Rattle.std.specs.Prelude.{[], codes, unwrap_or}
use Rattle.std.proofs.lemmas.Result.{IfOk-weaker}
use Rattle.clap.specs.Words.{found_of, rows_of}
use Rattle.clap.proofs.WalkLemmas.{first_value-rows, raw_values-rows}
use Rattle.tv_words.specs.Reading.{found_in}
use Rattle.tv_words.proofs.Commands.{command-found, texts-or-none}
use Rattle.tv_words.proofs.words.read_words.Goals as goal

pub returns : goal.returns
returns c =
    let f = found_of c.in-Some.matches in
    let reading = sym (ap (option_map (λ m. found_in (rows_of (found_of m)))) c.in-Some.is) ∙ c.in_ok-matches.ensures in
    let words = ap (λ r. map (λ v. v.now) r.now) c.unwrap_or-found.ensures ∙ texts-or-none c.get_strs.result _ refl
    ∙ ap (λ o. unwrap_or o []) (c.get_strs.ensures ∙ raw_values-rows f (codes "words")) in
    let workers = c.get_str.ensures ∙ first_value-rows f (codes "workers") in
    let of = c.get_str-2.ensures ∙ first_value-rows f (codes "of") in
    IfOk-weaker c.command_in.result _ _ (λ command h. h ∙ command-found (rows_of f) _ _ _ _ reading words workers of) c.command_in.ensures
