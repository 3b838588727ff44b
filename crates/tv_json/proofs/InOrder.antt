-- Members of an object that are put in the order of their keys.
use Rattle.std.specs.Prelude.{◌≡◌, List, [], ◌∷◌, ◌++◌, map, Bool, true, ◌&&◌, refl}
use Rattle.std.specs.List.{list_all}
use Rattle.std.specs.Ordering.{nat_cmp, is_lt, ordering_reverse, match_ordering}
use Rattle.std.specs.Cmp.Lexicographic.{slice_cmp}
use Rattle.std.specs.Cmp.{first_so, second_so}
use Rattle.std.proofs.Common.{ap, sym, ◌∙◌, append_assoc, append-nil, Greater}
use Rattle.std.proofs.lemmas.Cmp.{nat_list_cmp_total}
use Rattle.serde_json.specs.Data.{Data, object, member, put}
use Rattle.tv_lemmas.proofs.Orderings.{is_lt-less}
use Rattle.tv_value.specs.Orders.{name_cmp}
use Rattle.tv_value.specs.Printed.{members}
use Rattle.tv_value.specs.Values.{Text, Name}
use Rattle.tv_flow.specs.Formed.{is_ascending}
use Rattle.tv_flow.proofs.Growing.{all-push}
use Rattle.tv_flow.proofs.Shapes.{member_keys}
use Rattle.tv_flow.proofs.Sorting.{above}
use Rattle.tv_json.specs.Documents.{put_each, named_json}

-- each key is below a name
abbrev under : List (Text × Data) → Name → Bool
under done n = list_all (λ p. is_lt (name_cmp p.0 n)) done

put-last : (done : List (Text × Data)) (k : Name) (d : Data) → under done k ≡ true → put k d (members done) ≡ members (done ++ (k, d) ∷ [])
put-last [] k d h = refl
put-last (p ∷ ps) k d h =
    let greater : slice_cmp nat_cmp k p.0 ≡ Greater = nat_list_cmp_total.antisymm k p.0 ∙ ap ordering_reverse (is_lt-less (name_cmp p.0 k) (first_so (is_lt (name_cmp p.0 k)) (under ps k) h)) in
    ap (λ o. match_ordering o (member k d (member p.0 p.1 (members ps))) (member p.0 d (members ps)) (member p.0 p.1 (put k d (members ps)))) greater
    ∙ ap (member p.0 p.1) (put-last ps k d (second_so (is_lt (name_cmp p.0 k)) (under ps k) h))

module _ {A : Type 0} where
  pub under-none : (es : List (Name × A)) → list_all (λ e. under [] e.0) es ≡ true
  under-none [] = refl
  under-none (e ∷ es) = under-none es

  under-more : (done : List (Text × Data)) (k : Name) (d : Data) (es : List (Name × A)) → list_all (λ e. under done e.0) es ≡ true → above k (map (λ e. e.0) es) ≡ true → list_all (λ e. under (done ++ (k, d) ∷ []) e.0) es ≡ true
  under-more done k d [] h a = refl
  under-more done k d (e ∷ es) h a =
      let rest = list_all (λ (y : Name × A). under done y.0) es in
      let more = above k (map (λ (y : Name × A). y.0) es) in
      ap (λ b. b && list_all (λ y. under (done ++ (k, d) ∷ []) y.0) es) (all-push (λ p. is_lt (name_cmp p.0 e.0)) done (k, d) (first_so (under done e.0) rest h) (first_so (is_lt (name_cmp k e.0)) more a))
      ∙ under-more done k d es (second_so (under done e.0) rest h) (second_so (is_lt (name_cmp k e.0)) more a)

module _ {A : Type 0} (f : A → Data) where
  abbrev pub pairs : List (Name × A) → List (Text × Data)
  pairs es = map (λ e. (e.0, f e.1)) es

  -- names that ascend, put one after another, stand as they came
  pub put_each-members : (done : List (Text × Data)) (es : List (Name × A)) → list_all (λ e. under done e.0) es ≡ true → is_ascending (map (λ e. e.0) es) ≡ true → put_each f (members done) es ≡ members (done ++ pairs es)
  put_each-members done [] h a = ap members (sym (append-nil done))
  put_each-members done (e ∷ es) h a =
      let names = map (λ (x : Name × A). x.0) es in
      let x : Text × Data = (e.0, f e.1) in
      ap (λ ms. put_each f ms es) (put-last done e.0 (f e.1) (first_so (under done e.0) (list_all (λ y. under done y.0) es) h))
      ∙ put_each-members (done ++ x ∷ []) es (under-more done e.0 (f e.1) es (second_so (under done e.0) (list_all (λ y. under done y.0) es) h) (first_so (above e.0 names) (is_ascending names) a)) (second_so (above e.0 names) (is_ascending names) a)
      ∙ ap members (append_assoc done (x ∷ []) (pairs es))

  -- so an object of such names has them as they are
  pub named-is : (es : List (Name × A)) → is_ascending (map (λ e. e.0) es) ≡ true → named_json f es ≡ object (members (pairs es))
  named-is es h = ap object (put_each-members [] es (under-none es) h)

  pub keys-of-pairs : (es : List (Name × A)) → member_keys (members (pairs es)) ≡ map (λ e. e.0) es
  keys-of-pairs [] = refl
  keys-of-pairs (e ∷ es) = ap (λ ks. e.0 ∷ ks) (keys-of-pairs es)
