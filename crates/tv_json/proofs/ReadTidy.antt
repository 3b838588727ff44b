-- A JSON tree that was read has the keys of its objects in order.
use Rattle.std.specs.Prelude.{◌≡◌, List, [], ◌∷◌, Bool, true, ◌&&◌, Option, Some, None, option_map, option_and_then, refl}
use Rattle.std.specs.List.{list_all}
use Rattle.std.specs.Ordering.{is_lt, ordering_reverse, match_ordering}
use Rattle.std.specs.Cmp.{first_so, second_so}
use Rattle.std.proofs.Common.{Ordering, ap, subst, ◌∙◌, Less, Equal, Greater}
use Rattle.std.proofs.lemmas.Cmp.{nat_list_cmp_total}
use Rattle.json.specs.Json as json
use Rattle.json.specs.Lex.{tokens}
use Rattle.json.specs.Token.{Token}
use Rattle.serde_json.specs.Data.{Data, Num, number, array, object, item, Members, no_members, member, put}
use Rattle.serde_json.specs.Read.{number_of, of_json, of_items, of_members, max_depth, read}
use Rattle.tv_lemmas.proofs.Orderings.{is_lt-less}
use Rattle.tv_value.specs.Orders.{name_cmp}
use Rattle.tv_value.specs.Values.{Text}
use Rattle.tv_flow.specs.Formed.{is_ascending}
use Rattle.tv_flow.proofs.Shapes.{member_keys}
use Rattle.tv_flow.proofs.Sorting.{above}
use Rattle.tv_json.proofs.Tidy.{AnyNumber, AreTidy, IsTidy, MembersAreTidy}

-- ---- a member that is put among others

above-trans : (m n : Text) (xs : List Text) → name_cmp m n ≡ Less → above n xs ≡ true → above m xs ≡ true
above-trans m n [] e h = refl
above-trans m n (x ∷ xs) e h =
    ap (λ o. is_lt o && above m xs) (nat_list_cmp_total.trans m n x e (is_lt-less (name_cmp n x) (first_so (is_lt (name_cmp n x)) (above n xs) h)))
    ∙ above-trans m n xs e (second_so (is_lt (name_cmp n x)) (above n xs) h)

module _ (k : Text) (d : Data) where
  -- where the key belongs, beside the first member of the others
  abbrev place : Ordering → Text → Data → Members → Members
  place o l e ms = match_ordering o (member k d (member l e ms)) (member l d ms) (member l e (put k d ms))

  all-place : (test : Text → Bool) (o : Ordering) (l : Text) (e : Data) (ms : Members) → test k ≡ true → (test l && list_all test (member_keys ms)) ≡ true → list_all test (member_keys (put k d ms)) ≡ true → list_all test (member_keys (place o l e ms)) ≡ true
  all-place test Less l e ms p h g = ap (λ b. b && (test l && list_all test (member_keys ms))) p ∙ h
  all-place test Equal l e ms p h g = h
  all-place test Greater l e ms p h g = ap (λ b. b && list_all test (member_keys (put k d ms))) (first_so (test l) (list_all test (member_keys ms)) h) ∙ g

  all-put : (test : Text → Bool) (ms : Members) → test k ≡ true → list_all test (member_keys ms) ≡ true → list_all test (member_keys (put k d ms)) ≡ true
  all-put test no_members p h = ap (λ b. b && true) p
  all-put test (member l e ms) p h = all-place test (name_cmp k l) l e ms p h (all-put test ms p (second_so (test l) (list_all test (member_keys ms)) h))

  ascending-place : (o : Ordering) (l : Text) (e : Data) (ms : Members) → name_cmp k l ≡ o → (above l (member_keys ms) && is_ascending (member_keys ms)) ≡ true → is_ascending (member_keys (put k d ms)) ≡ true → is_ascending (member_keys (place o l e ms)) ≡ true
  ascending-place Less l e ms at h g =
      ap (λ b. b && (above l (member_keys ms) && is_ascending (member_keys ms))) (ap (λ o. is_lt o && above k (member_keys ms)) at ∙ above-trans k l (member_keys ms) at (first_so (above l (member_keys ms)) (is_ascending (member_keys ms)) h)) ∙ h
  ascending-place Equal l e ms at h g = h
  ascending-place Greater l e ms at h g =
      ap (λ b. b && is_ascending (member_keys (put k d ms)))
      (all-put (λ m. is_lt (name_cmp l m)) ms (ap is_lt (nat_list_cmp_total.antisymm l k ∙ ap ordering_reverse at)) (first_so (above l (member_keys ms)) (is_ascending (member_keys ms)) h))
      ∙ g

  ascending-put : (ms : Members) → is_ascending (member_keys ms) ≡ true → is_ascending (member_keys (put k d ms)) ≡ true
  ascending-put no_members h = refl
  ascending-put (member l e ms) h = ascending-place (name_cmp k l) l e ms refl h (ascending-put ms (second_so (above l (member_keys ms)) (is_ascending (member_keys ms)) h))

  tidy-place : (o : Ordering) (l : Text) (e : Data) (ms : Members) → IsTidy AnyNumber d → IsTidy AnyNumber e → MembersAreTidy AnyNumber ms → MembersAreTidy AnyNumber (put k d ms) → MembersAreTidy AnyNumber (place o l e ms)
  tidy-place Less l e ms h g r p = (h, (g, r))
  tidy-place Equal l e ms h g r p = (h, r)
  tidy-place Greater l e ms h g r p = (g, p)

  tidy-put : (ms : Members) → IsTidy AnyNumber d → MembersAreTidy AnyNumber ms → MembersAreTidy AnyNumber (put k d ms)
  tidy-put no_members h r = (h, tt)
  tidy-put (member l e ms) h r = tidy-place (name_cmp k l) l e ms h r.0 r.1 (tidy-put ms h r.1)

-- ---- what is read

-- what there is, is so
abbrev IfThere : {A : Type 0} → (A → Type 0) → Option A → Type 0
IfThere P None = Unit {0}
IfThere P (Some a) = P a

there-map : {A B : Type 0} (P : A → Type 0) (Q : B → Type 0) (f : A → B) (o : Option A) → ((a : A) → P a → Q (f a)) → IfThere P o → IfThere Q (option_map f o)
there-map P Q f None g h = tt
there-map P Q f (Some a) g h = g a h

there-then : {A B : Type 0} (P : A → Type 0) (Q : B → Type 0) (f : A → Option B) (o : Option A) → ((a : A) → P a → IfThere Q (f a)) → IfThere P o → IfThere Q (option_and_then f o)
there-then P Q f None g h = tt
there-then P Q f (Some a) g h = g a h

any : (o : Option Num) → IfThere AnyNumber o
any None = tt
any (Some n) = tt

abbrev IsInOrder : Members → Type 0
IsInOrder ms = (is_ascending (member_keys ms) ≡ true) × MembersAreTidy AnyNumber ms

mutual
  tidy-json : (j : json.Json) → IfThere (IsTidy AnyNumber) (of_json j)
  tidy-json json.null = tt
  tidy-json (json.boolean b) = tt
  tidy-json (json.number s) = there-map AnyNumber (IsTidy AnyNumber) number (number_of s) (λ n h. h) (any (number_of s))
  tidy-json (json.string s) = tt
  tidy-json (json.array js) = there-map (AreTidy AnyNumber) (IsTidy AnyNumber) array (of_items js) (λ ds h. h) (tidy-items js)
  tidy-json (json.object ms) = there-map IsInOrder (IsTidy AnyNumber) object (of_members ms no_members) (λ ms h. h) (tidy-members ms no_members (refl, tt))

  tidy-items : (js : json.Items) → IfThere (AreTidy AnyNumber) (of_items js)
  tidy-items json.no_items = tt
  tidy-items (json.item j js) =
      there-then (IsTidy AnyNumber) (AreTidy AnyNumber) (λ d. option_map (item d) (of_items js)) (of_json j)
      (λ d h. there-map (AreTidy AnyNumber) (AreTidy AnyNumber) (item d) (of_items js) (λ ds g. (h, g)) (tidy-items js)) (tidy-json j)

  tidy-members : (ms : json.Members) (found : Members) → IsInOrder found → IfThere IsInOrder (of_members ms found)
  tidy-members json.no_members found h = h
  tidy-members (json.member k j ms) found h =
      there-then (IsTidy AnyNumber) IsInOrder (λ d. of_members ms (put k d found)) (of_json j)
      (λ d g. tidy-members ms (put k d found) (ascending-put k d found h.0, tidy-put k d found g h.1)) (tidy-json j)

whole : (o : Option (json.Json × List Token)) → IfThere (IsTidy AnyNumber) (option_and_then of_json (option_and_then (λ p. json.if_last p.0 p.1) o))
whole None = tt
whole (Some (j, [])) = tidy-json j
whole (Some (j, t ∷ ts)) = tt

pub tidy-read : (text : Text) (d : Data) → read text ≡ Some d → IsTidy AnyNumber d
tidy-read text d e = subst (IfThere (IsTidy AnyNumber)) e (whole (json.value max_depth (tokens text)))
