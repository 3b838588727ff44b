-- Reading a list entry by entry: the entries so far, before what the rest gives.
use Rattle.std.specs.Prelude.{◌≡◌, ℕ, suc, ◌+◌, ◌<◌, List, [], ◌∷◌, ◌++◌, length, drop, Bool, true, false, ◌&&◌, Result, Ok, Err, String, string_bytes, refl}
use Rattle.std.specs.declared.alloc.Global.{Global}
use Rattle.std.specs.List.{list_all}
use Rattle.std.proofs.Common.{ap, sym, ◌∙◌, get_or, append_assoc, add-one as next}
use Rattle.serde_json.specs.Data.{Data}
use Rattle.serde_json.specs.View.{view as json_view, items_view as json_items, members_view}
use Rattle.serde_json.specs.declared.value.Value.{Value as Json}
use Rattle.tv_value.specs.Values.{Text, Name}
use Rattle.tv_flow.specs.declared.faults.FormFault.{FormFault}
use Rattle.tv_flow.specs.declared.faults.FormFault.TheVariants.{Form, NoMemory}
use Rattle.tv_value.specs.Readings.{item_count}
use Rattle.tv_value.proofs.ReadingLemmas.{item-at}
use Rattle.tv_flow.specs.Complaints.{Path, Complaint, key, index, and_then}
use Rattle.tv_flow.specs.Answers.{fault_result}
use Rattle.tv_flow.specs.Forms.{name_or_not, entries_form, items_form, member_count}

module _ {A : Type 0} where
  abbrev pub put_before : List A → Result (List A) Complaint → Result (List A) Complaint
  put_before xs r = and_then r (λ ys. Ok (xs ++ ys))

  pub put_before-push : (xs : List A) (x : A) (r : Result (List A) Complaint) → put_before xs (and_then r (λ ys. Ok (x ∷ ys))) ≡ put_before (xs ++ x ∷ []) r
  put_before-push xs x (Ok ys) = ap Ok (sym (append_assoc xs (x ∷ []) ys))
  put_before-push xs x (Err c) = refl

  -- a fault of the next thing is that of the whole
  pub stopped : {B : Type 0} (f : FormFault) (xs : List A) (a : Result B Complaint) (k : B → Result (List A) Complaint) → a ≡ fault_result f a → put_before xs (and_then a k) ≡ fault_result f (put_before xs (and_then a k))
  stopped (Form k p) xs a next e = ap (λ r. put_before xs (and_then r next)) e
  stopped NoMemory xs a next e = refl

-- ---- items of an array
module _ {A : Type 0} (form : Path → Data → Result A Complaint) (here : Path) (xs : List Json) where
  abbrev pub items_from : ℕ → Result (List A) Complaint
  items_from i = items_form form here i (json_items (drop i xs))

  pub items-more : (i : ℕ) (d : Json) (as' : List A) (a : A) → i < length xs → form (index here i) (json_view (get_or xs i d)) ≡ Ok a → put_before as' (items_from i) ≡ put_before (as' ++ a ∷ []) (items_from (i + 1))
  items-more i d as' a h e =
      ap (λ ds. put_before as' (items_form form here i ds)) (item-at xs i d h)
      ∙ ap (λ r. put_before as' (and_then r (λ b. and_then (items_from (suc i)) (λ bs. Ok (b ∷ bs))))) e
      ∙ put_before-push as' a (items_from (suc i))
      ∙ ap (λ n. put_before (as' ++ a ∷ []) (items_from n)) (sym (next i))

  pub items-stop : (i : ℕ) (d : Json) (as' : List A) (f : FormFault) → i < length xs → form (index here i) (json_view (get_or xs i d)) ≡ fault_result f (form (index here i) (json_view (get_or xs i d))) → put_before as' (items_from i) ≡ fault_result f (put_before as' (items_from i))
  items-stop i d as' f h e =
      let r = put_before as' (items_from i) in
      let a = form (index here i) (json_view (get_or xs i d)) in
      let split : r ≡ put_before as' (and_then a (λ b. and_then (items_from (suc i)) (λ bs. Ok (b ∷ bs)))) = ap (λ ds. put_before as' (items_form form here i ds)) (item-at xs i d h) in
      split ∙ stopped f as' a (λ b. and_then (items_from (suc i)) (λ bs. Ok (b ∷ bs))) e ∙ ap (fault_result f) (sym split)

-- ---- members of an object
pub name-same : {p q : Path} {s t : Text} → p ≡ q → s ≡ t → name_or_not p s ≡ name_or_not q t
name-same {q = q} {s = s} e h = ap (λ (w : Path). name_or_not w s) e ∙ ap (name_or_not q) h

abbrev pub Entry : Type 0
Entry = String Global × Json

module _ {A : Type 0} (form : Path → Data → Result A Complaint) (here : Path) where
  abbrev pub entries_of : List Entry → Result (List (Name × A)) Complaint
  entries_of es = entries_form form here (members_view es)

  abbrev pub name_of : Entry → Result Name Complaint
  name_of e = name_or_not (key here (string_bytes e.0)) (string_bytes e.0)

  abbrev pub thing_of : Entry → Result A Complaint
  thing_of e = form (key here (string_bytes e.0)) (json_view e.1)

  abbrev pub thing_then : Entry → Result (List (Name × A)) Complaint → Name → Result (List (Name × A)) Complaint
  thing_then e rest n = and_then (thing_of e) (λ a. and_then rest (λ bs. Ok ((n, a) ∷ bs)))

  pub entries-more : (es ts : List Entry) (e : Entry) (as' : List (Name × A)) (n : Name) (a : A) → es ≡ e ∷ ts → name_of e ≡ Ok n → thing_of e ≡ Ok a → put_before as' (entries_of es) ≡ put_before (as' ++ (n, a) ∷ []) (entries_of ts)
  entries-more es ts e as' n a split p q =
      ap (λ xs. put_before as' (entries_of xs)) split
      ∙ ap (λ r. put_before as' (and_then r (thing_then e (entries_of ts)))) p
      ∙ ap (λ r. put_before as' (and_then r (λ b. and_then (entries_of ts) (λ bs. Ok ((n, b) ∷ bs))))) q
      ∙ put_before-push as' (n, a) (entries_of ts)

  pub entries-unnamed : (es ts : List Entry) (e : Entry) (as' : List (Name × A)) (f : FormFault) → es ≡ e ∷ ts → name_of e ≡ fault_result f (name_of e) → put_before as' (entries_of es) ≡ fault_result f (put_before as' (entries_of es))
  entries-unnamed es ts e as' f split p =
      let whole : put_before as' (entries_of es) ≡ put_before as' (and_then (name_of e) (thing_then e (entries_of ts))) = ap (λ xs. put_before as' (entries_of xs)) split in
      whole ∙ stopped f as' (name_of e) (thing_then e (entries_of ts)) p ∙ ap (fault_result f) (sym whole)

  pub entries-unread : (es ts : List Entry) (e : Entry) (as' : List (Name × A)) (n : Name) (f : FormFault) → es ≡ e ∷ ts → name_of e ≡ Ok n → thing_of e ≡ fault_result f (thing_of e) → put_before as' (entries_of es) ≡ fault_result f (put_before as' (entries_of es))
  entries-unread es ts e as' n f split p q =
      let rest = λ (b : A). and_then (entries_of ts) (λ bs. Ok ((n, b) ∷ bs)) in
      let whole : put_before as' (entries_of es) ≡ put_before as' (and_then (thing_of e) rest) =
      ap (λ xs. put_before as' (entries_of xs)) split
      ∙ ap (λ r. put_before as' (and_then r (thing_then e (entries_of ts)))) p in
      whole ∙ stopped f as' (thing_of e) rest q ∙ ap (fault_result f) (sym whole)

-- ---- what each passes
pub all-push : {A : Type 0} (test : A → Bool) (xs : List A) (x : A) → list_all test xs ≡ true → test x ≡ true → list_all test (xs ++ x ∷ []) ≡ true
all-push test [] x p q = ap (λ b. b && true) q
all-push test (y ∷ ys) x p q = both (test y) (list_all test ys) (list_all test (ys ++ x ∷ [])) p (λ h. all-push test ys x h q)
  where
    both : (a b c : Bool) → (a && b) ≡ true → (b ≡ true → c ≡ true) → (a && c) ≡ true
    both true b c h f = f h
    both false b c h f = h

pub member_count-each : (es : List Entry) → length es ≡ member_count (members_view es)
member_count-each [] = refl
member_count-each (e ∷ es) = ap suc (member_count-each es)

pub item_count-each : (xs : List Json) → length xs ≡ item_count (json_items xs)
item_count-each [] = refl
item_count-each (x ∷ xs) = ap suc (item_count-each xs)
