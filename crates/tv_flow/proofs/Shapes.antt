-- What the lists that were read keep: as many entries as there were, and the byte order of names.
use Rattle.std.specs.Prelude.{◌≡◌, ℕ, suc, List, [], ◌∷◌, length, map, Bool, true, false, ◌&&◌, if◌then◌else◌, Result, Ok, Err, IfOk, String, string_bytes, refl}
use Rattle.std.specs.declared.alloc.Global.{Global}
use Rattle.std.specs.List.{list_all, AllByRecursion}
use Rattle.std.specs.List.Sorted.{IsStrictlySortedBy}
use Rattle.std.specs.Map.{keys_of}
use Rattle.std.specs.Ordering.{is_lt}
use Rattle.std.proofs.Common.{ap, sym, ◌∙◌, string_cmp, Less}
use Rattle.serde_json.specs.Data.{Data, Items, no_items, item, Members, no_members, member}
use Rattle.serde_json.specs.View.{members_view}
use Rattle.serde_json.specs.declared.value.Value.{Value as Json}
use Rattle.tv_value.specs.Values.{Text, Name}
use Rattle.tv_value.specs.Orders.{name_cmp}
use Rattle.tv_value.specs.Readings.{item_count}
use Rattle.tv_flow.specs.declared.faults.FormKind.TheVariants.{BadName}
use Rattle.tv_flow.specs.declared.faults.FormFault.{FormFault}
use Rattle.tv_flow.specs.Answers.{IsForm}
use Rattle.tv_flow.specs.Views.{each}
use Rattle.tv_flow.specs.Complaints.{Path, Complaint, complaint, key, index, and_then}
use Rattle.tv_flow.specs.Forms.{is_name, name_or_not, entries_form, items_form, member_count}
use Rattle.tv_flow.specs.Formed.{is_ascending, is_between, are_entries, are_named, are_listed}

pub ok : {A : Type 0} {a b : A} → ◌≡◌ {A = Result A Complaint} (Ok a) (Ok b) → a ≡ b
ok e = cc

pub given-ok : {A B : Type 0} (r : Result A Complaint) (f : A → Result B Complaint) (b : B) → and_then r f ≡ Ok b → (a : A) × ((r ≡ Ok a) × (f a ≡ Ok b))
given-ok (Ok a) f b e = (a, (refl, e))
given-ok (Err c) f b e = absurd (cc)

if-name : (b : Bool) (here : Path) (s n : Text) → (if b then Ok s else complaint BadName here) ≡ Ok n → s ≡ n
if-name true here s n e = ok e
if-name false here s n e = absurd (cc)

abbrev pub member_keys : Members → List Text
member_keys no_members = []
member_keys (member k d ms) = k ∷ member_keys ms

module _ {A : Type 0} (form : Path → Data → Result A Complaint) (here : Path) where
  pub items-count : (i : ℕ) (ds : Items) (as' : List A) → items_form form here i ds ≡ Ok as' → length as' ≡ item_count ds
  items-count i no_items as' e = ap length (sym (ok e))
  items-count i (item d ds) as' e =
      let p = given-ok (form (index here i) d) (λ a. and_then (items_form form here (suc i) ds) (λ bs. Ok (a ∷ bs))) as' e in
      let q = given-ok (items_form form here (suc i) ds) (λ bs. Ok (p.0 ∷ bs)) as' p.1.1 in
      ap length (sym (ok q.1.1)) ∙ ap suc (items-count (suc i) ds q.0 q.1.0)

  pub entries-names : (ms : Members) (es : List (Name × A)) → entries_form form here ms ≡ Ok es → map (λ e. e.0) es ≡ member_keys ms
  entries-names no_members es e = ap (map (λ e. e.0)) (sym (ok e))
  entries-names (member k d ms) es e =
      let p = given-ok (name_or_not (key here k) k) (λ n. and_then (form (key here k) d) (λ a. and_then (entries_form form here ms) (λ bs. Ok ((n, a) ∷ bs)))) es e in
      let q = given-ok (form (key here k) d) (λ a. and_then (entries_form form here ms) (λ bs. Ok ((p.0, a) ∷ bs))) es p.1.1 in
      let r = given-ok (entries_form form here ms) (λ bs. Ok ((p.0, q.0) ∷ bs)) es q.1.1 in
      ap (map (λ e. e.0)) (sym (ok r.1.1))
      ∙ ap (λ n. n ∷ map (λ e. e.0) r.0) (sym (if-name (is_name k) (key here k) k p.0 p.1.0))
      ∙ ap (λ ns. k ∷ ns) (entries-names ms r.0 r.1.0)

keys-count : (ms : Members) → length (member_keys ms) ≡ member_count ms
keys-count no_members = refl
keys-count (member k d ms) = ap suc (keys-count ms)

length-names : {A : Type 0} (es : List (Name × A)) → length (map (λ e. e.0) es) ≡ length es
length-names [] = refl
length-names (e ∷ es) = ap suc (length-names es)

abbrev pub Entry : Type 0
Entry = String Global × Json

all-below : (k : String Global) (es : List Entry) → AllByRecursion (λ l. string_cmp k l ≡ Less) (keys_of es) → list_all (λ n. is_lt (name_cmp (string_bytes k) n)) (member_keys (members_view es)) ≡ true
all-below k [] h = refl
all-below k (e ∷ es) h = ap (λ o. is_lt o && list_all (λ n. is_lt (name_cmp (string_bytes k) n)) (member_keys (members_view es))) h.0 ∙ all-below k es h.1

ascending : (es : List Entry) → IsStrictlySortedBy string_cmp (keys_of es) → is_ascending (member_keys (members_view es)) ≡ true
unfolding IsStrictlySortedBy
ascending [] h = refl
ascending (e ∷ es) h = ap (λ b. b && is_ascending (member_keys (members_view es))) (all-below e.0 es h.0) ∙ ascending es h.1

module _ {A : Type 0} (form : Path → Data → Result A Complaint) (here : Path) (test : A → Bool) (least most : ℕ) where
  pub listed : (ds : Items) (as' : List A) → items_form form here 0 ds ≡ Ok as' → is_between least most (item_count ds) ≡ true → list_all test as' ≡ true → are_listed test least most as' ≡ true
  listed ds as' e b h = ap (λ n. is_between least most n && list_all test as') (items-count form here 0 ds as' e) ∙ ap (λ c. c && list_all test as') b ∙ h

  pub named : (ms : List Entry) (es : List (Name × A)) → entries_form form here (members_view ms) ≡ Ok es → IsStrictlySortedBy string_cmp (keys_of ms) → is_between least most (member_count (members_view ms)) ≡ true → list_all (λ e. is_name e.0 && test e.1) es ≡ true → are_named test least most es ≡ true
  named ms es e o b h =
      let names = entries-names form here (members_view ms) es e in
      let all = list_all (λ e. is_name e.0 && test e.1) es in
      ap (λ n. is_between least most n && are_entries test es) (sym (length-names es) ∙ ap length names ∙ keys-count (members_view ms))
      ∙ ap (λ c. c && are_entries test es) b
      ∙ ap (λ ns. is_ascending ns && all) names
      ∙ ap (λ c. c && all) (ascending ms o)
      ∙ h

-- names with things that are seen as they are
pub same-each : {A : Type 0} (es : List (Name × A)) → map (λ e. (e.0, e.1)) es ≡ es
same-each [] = refl
same-each (e ∷ es) = ap (λ xs. e ∷ xs) (same-each es)

pub unseen : {A : Type 0} (r : Result (List (Name × A)) FormFault) (s : Result (List (Name × A)) Complaint) → IsForm (each (λ a. a)) r s → IsForm (λ es. es) r s
unseen (Ok es) s h = h ∙ ap Ok (same-each es)
unseen (Err f) s h = h

pub kept-unseen : {A : Type 0} (test : A → Bool) (least most : ℕ) (r : Result (List (Name × A)) FormFault) → IfOk r (λ es. are_named test least most (each (λ a. a) es) ≡ true) → IfOk r (λ es. are_named test least most es ≡ true)
kept-unseen test least most (Ok es) h = ap (are_named test least most) (sym (same-each es)) ∙ h
kept-unseen test least most (Err f) h = h
