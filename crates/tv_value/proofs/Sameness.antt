-- The test of sameness: item by item, that it decides, and that it has no order.
use Rattle.std.specs.Prelude.{◌≡◌, refl, List, [], ◌∷◌, true, ◌&&◌, ◌==◌}
use Rattle.std.specs.Cmp.Lexicographic.{pointwise, pointwise_decides, bytes_decides}
use Rattle.std.proofs.Common.{ap, sym, ◌∙◌, eqb-true, eq-eqb, true≢false}
use Rattle.std.specs.Cmp.{first_so, second_so}
use Rattle.std.proofs.lemmas.Bool.{and_from}
use Rattle.std.specs.Cmp.Derive.{one_truth}
use Rattle.tv_value.specs.Nested.{leaf, list, Trees, no_trees, tree, trees_of, items}
use Rattle.tv_value.specs.Values.{ErrorDoc, Scalar, Value, fault, text}
use Rattle.tv_value.specs.Orders.{same_job, same_name}
use Rattle.tv_value.proofs.JobNameLemmas.{same_job_decides}
use Rattle.tv_value.specs.Laws.{TestDecidesSameness}
use Rattle.tv_value.specs.Sameness.{same_document, same_scalar, same_trees, same_value, same_values}

pub same_trees-items : (ts us : Trees (Unit {0}) Scalar) → same_trees ts us ≡ same_values (items ts) (items us)
same_trees-items no_trees no_trees = refl
same_trees-items no_trees (tree u us) = refl
same_trees-items (tree t ts) no_trees = refl
same_trees-items (tree t ts) (tree u us) = ap (λ b. same_value t u && b) (same_trees-items ts us)

pub same_trees-each : (vs ws : List Value) → same_trees (trees_of vs) (trees_of ws) ≡ same_values vs ws
same_trees-each [] [] = refl
same_trees-each [] (w ∷ ws) = refl
same_trees-each (v ∷ vs) [] = refl
same_trees-each (v ∷ vs) (w ∷ ws) = ap (λ b. same_value v w && b) (same_trees-each vs ws)

-- ---- what is told to be the same is equal

error-equal : (e f : ErrorDoc) → (e.depth == f.depth && same_document e f) ≡ true → e ≡ f
error-equal e f h =
    let last = pointwise same_job e.from f.from in
    let depth : e.depth ≡ f.depth = eqb-true e.depth f.depth (first_so (e.depth == f.depth) (same_document e f) h) in
    let h1 = second_so (e.depth == f.depth) (same_document e f) h in
    let at = (same_job_decides e.at f.at).0 (first_so (same_job e.at f.at) (same_name e.why f.why && last) h1) in
    let h2 = second_so (same_job e.at f.at) (same_name e.why f.why && last) h1 in
    let why = (bytes_decides e.why f.why).0 (first_so (same_name e.why f.why) last h2) in
    let from = (pointwise_decides same_job_decides e.from f.from).0 (second_so (same_name e.why f.why) last h2) in
    λ i. record { at = at i; depth = depth i; why = why i; from = from i }

scalar-equal : (a b : Scalar) → same_scalar a b ≡ true → a ≡ b
scalar-equal (text t) (text u) h = ap text ((bytes_decides t u).0 h)
scalar-equal (text t) (fault f) h = absurd (true≢false (sym h))
scalar-equal (fault e) (text u) h = absurd (true≢false (sym h))
scalar-equal (fault e) (fault f) h = ap fault (error-equal e f h)

mutual
  value-equal : (v w : Value) → same_value v w ≡ true → v ≡ w
  value-equal (leaf n a) (leaf m b) h = λ i. leaf tt (scalar-equal a b h i)
  value-equal (leaf n a) (list m us) h = absurd (true≢false (sym h))
  value-equal (list n ts) (leaf m b) h = absurd (true≢false (sym h))
  value-equal (list n ts) (list m us) h = λ i. list tt (trees-equal ts us h i)

  trees-equal : (ts us : Trees (Unit {0}) Scalar) → same_trees ts us ≡ true → ts ≡ us
  trees-equal no_trees no_trees h = refl
  trees-equal no_trees (tree u us) h = absurd (true≢false (sym h))
  trees-equal (tree t ts) no_trees h = absurd (true≢false (sym h))
  trees-equal (tree t ts) (tree u us) h = λ i. tree (value-equal t u (first_so (same_value t u) (same_trees ts us) h) i) (trees-equal ts us (second_so (same_value t u) (same_trees ts us) h) i)

-- ---- each is the same as itself

document-own : (e : ErrorDoc) → same_document e e ≡ true
document-own e =
    and_from (same_job e.at e.at) _ ((same_job_decides e.at e.at).1 refl)
    (and_from (same_name e.why e.why) _ ((bytes_decides e.why e.why).1 refl) ((pointwise_decides same_job_decides e.from e.from).1 refl))

mutual
  value-own : (v : Value) → same_value v v ≡ true
  value-own (leaf n (text t)) = (bytes_decides t t).1 refl
  value-own (leaf n (fault e)) = and_from (e.depth == e.depth) (same_document e e) (eq-eqb e.depth e.depth refl) (document-own e)
  value-own (list n ts) = trees-own ts

  trees-own : (ts : Trees (Unit {0}) Scalar) → same_trees ts ts ≡ true
  trees-own no_trees = refl
  trees-own (tree t ts) = and_from (same_value t t) (same_trees ts ts) (value-own t) (trees-own ts)

same-equal : (v w : Value) → v ≡ w → same_value v w ≡ true
same-equal v w e = ap (same_value v) (sym e) ∙ value-own v

pub test-decides : TestDecidesSameness
test-decides v w = (value-equal v w, same-equal v w)

-- ---- it has no order

pub same_value-turned : (v w : Value) → same_value v w ≡ same_value w v
same_value-turned v w = one_truth (same_value v w) (same_value w v) (λ h. same-equal w v (sym (value-equal v w h))) (λ h. same-equal v w (sym (value-equal w v h)))
