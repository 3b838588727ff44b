use Rattle.std.proofs.Common.{◌≡◌, Some, [], map, subst}
use Rattle.std.specs.Prelude.{◌↔◌, IsTrue}
use Rattle.tv_value.specs.Views.{view}
use Rattle.tv_stream.proofs.Ways.{nil-of}
use Rattle.tv_outputs.proofs.Comparing.{list_of-view}
use Rattle.tv_binding.specs.Found.{all_found, link_found, merge_found}
use Rattle.tv_binding.specs.Sourced.{known_by}
use Rattle.tv_binding.proofs.Comparing.{merged-told}
use Rattle.tv_binding.proofs.same.merge_is.Goals as goal

pub returns-in-List : goal.returns-in-List
returns-in-List c =
    let k = known_by c.args.sources.now in
    let ls = c.args.links.now in
    let vs = c.as_slice.result.now in
    subst (λ q. IsTrue c.links_are.result ↔ (merge_found k ls q ≡ Some (view c.args.value.now))) (nil-of c.args.place.now (c.in_default.ensures {u = tt}).cases)
    (merged-told (all_found (map (λ l. link_found k l []) ls)) (view c.args.value.now) (map view vs) (list_of-view c.args.value.now c.in-List.items vs c.in-List.is c.as_slice.ensures) c.links_are.result c.links_are.ensures)
