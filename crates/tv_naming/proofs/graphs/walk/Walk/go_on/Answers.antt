use Rattle.std.proofs.Common.{◌≡◌, ◌∙◌, ◌∷◌, ◌++◌, ◌||◌, ℕ, List, [], Bool, Some, None, true, false, not, eqb, get_or, sym, ap, Vec, Global}
use Rattle.std.proofs.lemmas.Bool.{not-true}
use Rattle.std.proofs.lemmas.Option.{slice_get-get_or, slice_get_past}
use Rattle.std.proofs.lemmas.Result.{on_ok_weaker}
use Rattle.std.specs.Prelude.{find, slice_get}
use Rattle.std.specs.List.{list_all}
use Rattle.tv_naming.specs.graphs.Graphs.{before}
use Rattle.tv_naming.specs.graphs.Walk.{is_entered}
use Rattle.tv_naming.proofs.Leaves.{walked-on, walked-off}
use Rattle.tv_naming.proofs.Members.{find-passes, find-member, find-all, all-member}
use Rattle.tv_naming.proofs.graphs.walk.Walk.go_on.Goals as goal

pub enter-requires-clause-new : goal.enter-requires-clause-new
enter-requires-clause-new c =
    let row : List ℕ = before c.args.graph.now c.args.vertex in
    let w : ℕ = get_or c.before-before.result.now c.pass-place.result 0 in
    let first : find (λ u. not (is_entered c.args.self.now u)) row ≡ Some w =
    sym c.pass-place.ensures.found ∙ ap (λ (us : List ℕ). slice_get us c.pass-place.result) (sym c.before-before.ensures.value) ∙ slice_get-get_or c.before-before.result.now c.pass-place.result 0 c.if-place-before.true in
    ap (λ (ts : List Bool). get_or ts w false) c.pass-place.ensures.entered ∙ not-true _ (find-passes (λ u. not (is_entered c.args.self.now u)) row w first)

pub returns-in_ok-push-clause-walked : goal.returns-in_ok-push-clause-walked
returns-in_ok-push-clause-walked c =
    let row : List ℕ = before c.args.graph.now c.args.vertex in
    let w : ℕ = get_or c.before-before.result.now c.pass-place.result 0 in
    let first : find (λ u. not (is_entered c.args.self.now u)) row ≡ Some w =
    sym c.pass-place.ensures.found ∙ ap (λ (us : List ℕ). slice_get us c.pass-place.result) (sym c.before-before.ensures.value) ∙ slice_get-get_or c.before-before.result.now c.pass-place.result 0 c.if-place-before.true in
    let new : is_entered c.args.self.now w ≡ false = not-true _ (find-passes (λ u. not (is_entered c.args.self.now u)) row w first) in
    let path_is : c.push.new.self.items ≡ c.args.self.now.path.items ++ c.args.vertex ∷ [] = c.in_ok-push.ensures.items ∙ ap (λ (vs : Vec ℕ Global). vs.items ++ c.args.vertex ∷ []) c.pass-place.ensures.path in
    let left_is : c.enter.new.self.left.items ≡ c.args.self.now.left.items = c.enter.ensures.left ∙ ap (λ (vs : Vec ℕ Global). vs.items) c.pass-place.ensures.left in
    on_ok_weaker c.enter.result
    (λ is.
    walked-on c.args.graph.now c.before-before.ensures.graph (is_entered c.args.self.now) c.args.self.now.left.items c.args.self.now.path.items c.push.new.self.items c.enter.new.self.path.items c.enter.new.self.left.items
    c.args.vertex w (is_entered c.enter.new.self) c.requires.walked path_is is left_is (find-member (λ u. not (is_entered c.args.self.now u)) row w first) new
    (λ y. c.enter.ensures.entered y ∙ ap (λ (ts : List Bool). get_or ts y false || eqb y w) c.pass-place.ensures.entered))
    c.enter.ensures.path

pub returns-in_ok-push-2-clause-walked : goal.returns-in_ok-push-2-clause-walked
returns-in_ok-push-2-clause-walked c =
    let row : List ℕ = before c.args.graph.now c.args.vertex in
    let none : find (λ u. not (is_entered c.args.self.now u)) row ≡ None =
    sym c.pass-place.ensures.found ∙ ap (λ (us : List ℕ). slice_get us c.pass-place.result) (sym c.before-before.ensures.value) ∙ slice_get_past c.before-before.result.now c.pass-place.result c.if-place-before.false in
    let all : list_all (is_entered c.args.self.now) row ≡ true = find-all (is_entered c.args.self.now) row none in
    let left_is : c.push-else-place-before.new.self.items ≡ c.args.self.now.left.items ++ c.args.vertex ∷ [] =
    c.in_ok-push-2.ensures.items ∙ ap (λ (vs : Vec ℕ Global). vs.items ++ c.args.vertex ∷ []) c.pass-place.ensures.left in
    walked-off c.args.graph.now c.before-before.ensures.graph c.args.self.now.entered.items c.pass-place.new.self.entered.items c.args.self.now.left.items c.push-else-place-before.new.self.items
    c.args.self.now.path.items c.pass-place.new.self.path.items c.args.vertex c.requires.walked (λ y e. all-member (is_entered c.args.self.now) row y all e) c.pass-place.ensures.entered (ap (λ (vs : Vec ℕ Global). vs.items) c.pass-place.ensures.path) left_is
