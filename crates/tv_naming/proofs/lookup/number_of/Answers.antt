use Rattle.std.proofs.Common.{length, subst, ◌∙◌, rules}
use Rattle.std.specs.List.Sorted.{IsSearchInRange, IsBinarySearchResult}
use Rattle.std.proofs.lemmas.Fn.{always_returns_same}
use Rattle.tv_value.specs.Orders.{name_cmp}
use Rattle.tv_naming.proofs.ByPosition.{searched}
use Rattle.tv_naming.proofs.lookup.number_of.Goals as goal

pub returns-clause-number : goal.returns-clause-number
returns-clause-number g c =
    let xs = c.args.entries.now in
    let n = c.args.name.now in
    let by = c.binary_search_by.ensures in
    let e = c.as_slice.ensures in
    c.ok.ensures.value
    ∙ searched xs n c.binary_search_by.result c.requires (subst (λ ys. IsSearchInRange c.binary_search_by.result (length ys)) e by.bound)
    (subst (λ ys. IsBinarySearchResult (λ x. name_cmp x.0 n) ys c.binary_search_by.result) e (by.position (λ x. name_cmp x.0 n) (always_returns_same _ _ _ (λ a r f called. search rules))))
