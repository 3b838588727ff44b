-- Lengths of lists put together, and of lists of those that pass.
use Rattle.std.specs.Prelude.{◌≡◌, ◌+◌, List, [], ◌∷◌, length, flat_map, filter, sum_by, count_by, Bool, refl}
use Rattle.std.proofs.Common.{ap, sym, ◌∙◌, length-append}
use Rattle.std.proofs.lemmas.List.Sums.{sum_by-cons}
use Rattle.std.proofs.lemmas.List.Sums.{length-filter}
use Rattle.tv_model.specs.Jobs.{Job}

pub attempts-sum : (js : List Job) → length (flat_map (λ j. j.asks) js) ≡ sum_by (λ j. length j.asks) js
attempts-sum [] = refl
attempts-sum (j ∷ js) =
    length-append j.asks (flat_map (λ k. k.asks) js)
    ∙ ap (λ n. length j.asks + n) (attempts-sum js)
    ∙ sym (sum_by-cons (λ k. length k.asks) j js)

pub passing-count : (p : Job → Bool) (js : List Job) → length (filter p js) ≡ count_by p js
passing-count p js = length-filter p js
