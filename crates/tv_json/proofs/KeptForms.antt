-- What is read by a form is in that form, and its own JSON is tidy and no deeper than what was read.
use Rattle.std.specs.Prelude.{◌≡◌, ℕ, suc, ◌^◌, ◌<◌, ◌≤◌, List, ◌∷◌, length, map, Bool, true, false, ◌&&◌, nat_lt, if◌then◌else◌, Option, Some, None, Result, Ok, Err, refl}
use Rattle.std.specs.List.{list_all}
use Rattle.std.specs.Ordering.{nat_cmp, match_ordering}
use Rattle.std.specs.Cmp.Lexicographic.{slice_cmp}
use Rattle.std.proofs.Common.{Ordering, Less, Equal, Greater, ap, sym, subst, ◌∙◌, arith}
use Rattle.std.proofs.lemmas.Bool.Decides.{nat_tests}
use Rattle.std.proofs.lemmas.Bool.{and_from}
use Rattle.serde_json.specs.Data.{Data, Num, unsigned, negative, float, null, boolean, number, string, array, object, Items, no_items, item, Members, no_members, member, depth, items_depth, members_depth}
use Rattle.serde_json.specs.Find.{get, get_member, as_array, as_object, as_number, as_str}
use Rattle.serde_json.specs.View.{items_of}
use Rattle.tv_value.specs.Printed.{members}
use Rattle.tv_value.specs.Readings.{item_count}
use Rattle.tv_value.specs.Values.{Text, Name}
use Rattle.tv_flow.specs.declared.faults.FormKind.TheVariants.{Empty, OutOfRange, BadName}
use Rattle.tv_flow.specs.Complaints.{Path, Complaint, complaint, key, index, and_then}
use Rattle.tv_flow.specs.Forms.{array_form, counted, entries_form, in_range, is_name, items_form, member_count, name_form, name_or_not, named_form, number_form, optional, or_else, present, required, wanted}
use Rattle.tv_flow.specs.Formed.{are_listed, are_named, is_ascending, is_between}
use Rattle.tv_flow.proofs.Shapes.{entries-names, given-ok, items-count, ok}
use Rattle.tv_json.specs.Documents.{array_json, named_json, number_json}
use Rattle.tv_json.proofs.InOrder.{keys-of-pairs, named-is, pairs}
use Rattle.tv_json.proofs.Tidy.{AnyNumber, AreTidy, IsShort, IsTidy, MembersAreTidy}

-- tidy, and at most so deep
abbrev pub Within : ℕ → Data → Type 0
Within n d = IsTidy AnyNumber d × (depth d ≤ n)

-- a thing that passes a test, whose JSON is tidy and at most so deep
pub record IsKept {A : Type 0} (test : A → Bool) (json : A → Data) (n : ℕ) (a : A) : Type 0 where
  pub passes : test a ≡ true
  pub tidy : IsTidy IsShort (json a)
  pub shallow : depth (json a) ≤ n

-- a form gives such things of trees that are tidy and at most as deep
abbrev pub Keeps : {A : Type 0} → (Path → Data → Result A Complaint) → (A → Bool) → (A → Data) → ℕ → Type 0
Keeps {A} form test json n = (here : Path) (d : Data) (a : A) → Within n d → form here d ≡ Ok a → IsKept test json n a

-- ---- what is given is something

never : {A : Type 0} {P : Type 0} (c : Complaint) (a : A) → ◌≡◌ {A = Result A Complaint} (Err c) (Ok a) → P
never c a e = absurd (cc)

nothing : {A : Type 0} {P : Type 0} (a : A) → ◌≡◌ {A = Option A} None (Some a) → P
nothing a e = absurd (cc)

pub some : {A : Type 0} {a b : A} → ◌≡◌ {A = Option A} (Some a) (Some b) → a ≡ b
some e = cc

wanted-ok : {A : Type 0} (here : Path) (o : Option A) (a : A) → wanted here o ≡ Ok a → o ≡ Some a
wanted-ok here (Some b) a e = ap Some (ok e)
wanted-ok here None a e = never _ a e

present-ok : (there : Path) (o : Option Data) (d : Data) → present there o ≡ Ok d → o ≡ Some d
present-ok there (Some b) d e = ap Some (ok e)
present-ok there None d e = never _ d e

-- one of two
pub either : {A : Type 0} {P : Type 0} (b : Bool) (x y : Result A Complaint) (a : A) → (x ≡ Ok a → P) → (y ≡ Ok a → P) → (if b then x else y) ≡ Ok a → P
either true x y a f g e = f e
either false x y a f g e = g e

-- what comes after a test
pub after : {A B : Type 0} (r : Result A Complaint) (s : Result B Complaint) (b : B) → and_then r (λ u. s) ≡ Ok b → s ≡ Ok b
after (Ok u) s b e = e
after (Err c) s b e = never c b e

array-is : (d : Data) (ds : Items) → as_array d ≡ Some ds → d ≡ array ds
array-is null ds e = nothing ds e
array-is (boolean b) ds e = nothing ds e
array-is (number n) ds e = nothing ds e
array-is (string s) ds e = nothing ds e
array-is (array es) ds e = ap array (some e)
array-is (object ms) ds e = nothing ds e

object-is : (d : Data) (ms : Members) → as_object d ≡ Some ms → d ≡ object ms
object-is null ms e = nothing ms e
object-is (boolean b) ms e = nothing ms e
object-is (number n) ms e = nothing ms e
object-is (string s) ms e = nothing ms e
object-is (array ds) ms e = nothing ms e
object-is (object ns) ms e = ap object (some e)

-- ---- members

get_member-within : (k : Text) (ms : Members) (d : Data) (n : ℕ) → MembersAreTidy AnyNumber ms → members_depth ms ≤ n → get_member k ms ≡ Some d → Within n d
get_member-within k no_members d n t h e = nothing d e
get_member-within k (member l f ms) d n t h e = at (slice_cmp nat_cmp k l) (λ g. get_member-within k ms d n t.1 (omega arith) g) e
  where
    at : (o : Ordering) → (get_member k ms ≡ Some d → Within n d) → match_ordering o (get_member k ms) (Some f) (get_member k ms) ≡ Some d → Within n d
    at Less later e = later e
    at Equal later e = subst (Within n) (some e) (t.0, omega arith)
    at Greater later e = later e

pub get-within : (k : Text) (d e : Data) (n : ℕ) → Within (suc n) d → get k d ≡ Some e → Within n e
get-within k null e n w g = nothing e g
get-within k (boolean b) e n w g = nothing e g
get-within k (number m) e n w g = nothing e g
get-within k (string s) e n w g = nothing e g
get-within k (array ds) e n w g = nothing e g
get-within k (object ms) e n w g = get_member-within k ms e n w.0.1 (omega (arith, w.1)) g

-- what a field is read from, where it must be there
pub required-from : {A : Type 0} (form : Path → Data → Result A Complaint) (k : Text) (here : Path) (d : Data) (a : A) → required form k here d ≡ Ok a → (e : Data) × (get k d ≡ Some e) × (form (key here k) e ≡ Ok a)
required-from form k here d a h =
    let p = given-ok (present (key here k) (get k d)) (form (key here k)) a h in
    (p.0, present-ok (key here k) (get k d) p.0 p.1.0, p.1.1)

module _ {A : Type 0} (form : Path → Data → Result A Complaint) (test : A → Bool) (json : A → Data) (n : ℕ) (keeps : Keeps form test json n) where
  pub required-keeps : (k : Text) (here : Path) (d : Data) (a : A) → Within (suc n) d → required form k here d ≡ Ok a → IsKept test json n a
  required-keeps k here d a w h =
      let p = required-from form k here d a h in
      keeps (key here k) p.0 a (get-within k d p.0 n w p.1) p.2

  pub optional-keeps : (none : A) → IsKept test json n none → (k : Text) (here : Path) (d : Data) (a : A) → Within (suc n) d → optional none form k here d ≡ Ok a → IsKept test json n a
  optional-keeps none without k here d a w = by (get k d) refl
    where
      by : (o : Option Data) → get k d ≡ o → or_else none (form (key here k)) o ≡ Ok a → IsKept test json n a
      by None g e = subst (IsKept test json n) (ok e) without
      by (Some f) g e = keeps (key here k) f a (get-within k d f n w g) e

-- ---- names and numbers

pub name-ok : (here : Path) (s n : Text) → name_or_not here s ≡ Ok n → (is_name n ≡ true) × (s ≡ n)
name-ok here s n = by (is_name s) refl
  where
    by : (b : Bool) → is_name s ≡ b → (if b then Ok s else complaint BadName here) ≡ Ok n → (is_name n ≡ true) × (s ≡ n)
    by true h e = (subst (λ m. is_name m ≡ true) (ok e) h, ok e)
    by false h e = never _ n e

pub name-keeps : (n : ℕ) → Keeps name_form is_name string n
name-keeps n here d a w e =
    let p = given-ok (wanted here (as_str d)) (name_or_not here) a e in
    record { passes = (name-ok here p.0 a p.1.1).0; tidy = tt; shallow = omega arith }

in-range : (low high : ℕ) (here : Path) (m : Num) (a : ℕ) → in_range low high here m ≡ Ok a → is_between low high a ≡ true
in-range low high here (unsigned n) a e = by (is_between low high n) refl e
  where
    by : (b : Bool) → is_between low high n ≡ b → (if b then Ok n else complaint OutOfRange here) ≡ Ok a → is_between low high a ≡ true
    by true h f = subst (λ m. is_between low high m ≡ true) (ok f) h
    by false h f = never _ a f
in-range low high here (negative z) a e = never _ a e
in-range low high here (float x) a e = never _ a e

short : (low high n : ℕ) → high < 2 ^ 64 → is_between low high n ≡ true → n < 2 ^ 64
short low high n small h = grind (arith, nat_tests)

pub number-keeps : (low high : ℕ) → high < 2 ^ 64 → (n : ℕ) → Keeps (number_form low high) (is_between low high) number_json n
number-keeps low high small n here d a w e =
    let p = given-ok (wanted here (as_number d)) (in_range low high here) a e in
    let passes = in-range low high here p.0 a p.1.1 in
    record { passes = passes; tidy = short low high a small passes; shallow = omega arith }

-- ---- arrays and named objects

both : (least most n : ℕ) → nat_lt n least ≡ false → nat_lt most n ≡ false → is_between least most n ≡ true
both least most n g h = grind (arith, nat_tests)

pub counted-ok : (least most : ℕ) (here : Path) (n : ℕ) (u : Unit {0}) → counted least most here n ≡ Ok u → is_between least most n ≡ true
counted-ok least most here n u = by (nat_lt n least) (nat_lt most n) refl refl
  where
    by : (a b : Bool) → nat_lt n least ≡ a → nat_lt most n ≡ b → (if a then complaint Empty here else (if b then complaint OutOfRange here else Ok tt)) ≡ Ok u → is_between least most n ≡ true
    by true b g h e = never _ u e
    by false true g h e = never _ u e
    by false false g h e = both least most n g h

module _ {A : Type 0} (form : Path → Data → Result A Complaint) (test : A → Bool) (json : A → Data) (n : ℕ) (keeps : Keeps form test json n) where
  record AreKept (as' : List A) : Type 0 where
    passes : list_all test as' ≡ true
    tidy : AreTidy IsShort (items_of (map json as'))
    shallow : items_depth (items_of (map json as')) ≤ n

  items-keep : (here : Path) (i : ℕ) (ds : Items) (as' : List A) → AreTidy AnyNumber ds → items_depth ds ≤ n → items_form form here i ds ≡ Ok as' → AreKept as'
  items-keep here i no_items as' t h e = subst AreKept (ok e) (record { passes = refl; tidy = tt; shallow = omega arith })
  items-keep here i (item d ds) as' t h e =
      let p = given-ok (form (index here i) d) (λ a. and_then (items_form form here (suc i) ds) (λ bs. Ok (a ∷ bs))) as' e in
      let q = given-ok (items_form form here (suc i) ds) (λ bs. Ok (p.0 ∷ bs)) as' p.1.1 in
      let first = keeps (index here i) d p.0 (t.0, omega arith) p.1.0 in
      let rest = items-keep here (suc i) ds q.0 t.1 (omega arith) q.1.0 in
      subst AreKept (ok q.1.1) (record { passes = and_from _ _ first.passes rest.passes; tidy = (first.tidy, rest.tidy); shallow = omega (arith, first.shallow, rest.shallow) })

  pub array-keeps : (least most : ℕ) → Keeps (array_form form least most) (are_listed test least most) (array_json json) (suc n)
  array-keeps least most here d as' w e =
      let p = given-ok (wanted here (as_array d)) (λ ds. and_then (counted least most here (item_count ds)) (λ u. items_form form here 0 ds)) as' e in
      let q = given-ok (counted least most here (item_count p.0)) (λ u. items_form form here 0 p.0) as' p.1.1 in
      let v = subst (Within (suc n)) (array-is d p.0 (wanted-ok here (as_array d) p.0 p.1.0)) w in
      let kept = items-keep here 0 p.0 as' v.0 (omega (arith, v.1)) q.1.1 in
      record {
        passes = and_from _ _ (ap (is_between least most) (items-count form here 0 p.0 as' q.1.1) ∙ counted-ok least most here (item_count p.0) q.0 q.1.0) kept.passes;
        tidy = kept.tidy;
        shallow = omega (arith, kept.shallow);
      }

  record EntriesAreKept (m : ℕ) (es : List (Name × A)) : Type 0 where
    count : length es ≡ m
    passes : list_all (λ e. is_name e.0 && test e.1) es ≡ true
    tidy : MembersAreTidy IsShort (members (pairs json es))
    shallow : members_depth (members (pairs json es)) ≤ n

  entries-keep : (here : Path) (ms : Members) (es : List (Name × A)) → MembersAreTidy AnyNumber ms → members_depth ms ≤ n → entries_form form here ms ≡ Ok es → EntriesAreKept (member_count ms) es
  entries-keep here no_members es t h e = subst (EntriesAreKept 0) (ok e) (record { count = refl; passes = refl; tidy = tt; shallow = omega arith })
  entries-keep here (member k d ms) es t h e =
      let p = given-ok (name_or_not (key here k) k) (λ m. and_then (form (key here k) d) (λ a. and_then (entries_form form here ms) (λ bs. Ok ((m, a) ∷ bs)))) es e in
      let q = given-ok (form (key here k) d) (λ a. and_then (entries_form form here ms) (λ bs. Ok ((p.0, a) ∷ bs))) es p.1.1 in
      let r = given-ok (entries_form form here ms) (λ bs. Ok ((p.0, q.0) ∷ bs)) es q.1.1 in
      let first = keeps (key here k) d q.0 (t.0, omega arith) q.1.0 in
      let rest = entries-keep here ms r.0 t.1 (omega arith) r.1.0 in
      subst (EntriesAreKept (suc (member_count ms))) (ok r.1.1)
      (record {
        count = ap suc rest.count;
        passes = and_from _ _ (and_from _ _ (name-ok (key here k) k p.0 p.1.0).0 first.passes) rest.passes;
        tidy = (first.tidy, rest.tidy);
        shallow = omega (arith, first.shallow, rest.shallow);
      })

  pub named-keeps : (least most : ℕ) → Keeps (named_form form least most) (are_named test least most) (named_json json) (suc n)
  named-keeps least most here d es w e =
      let p = given-ok (wanted here (as_object d)) (λ ms. and_then (counted least most here (member_count ms)) (λ u. entries_form form here ms)) es e in
      let q = given-ok (counted least most here (member_count p.0)) (λ u. entries_form form here p.0) es p.1.1 in
      let v = subst (Within (suc n)) (object-is d p.0 (wanted-ok here (as_object d) p.0 p.1.0)) w in
      let kept = entries-keep here p.0 es v.0.1 (omega (arith, v.1)) q.1.1 in
      let ascends = ap is_ascending (entries-names form here p.0 es q.1.1) ∙ v.0.0 in
      let is = named-is json es ascends in
      let tidy : IsTidy IsShort (object (members (pairs json es))) = (ap is_ascending (keys-of-pairs json es) ∙ ascends, kept.tidy) in
      let shallow : depth (object (members (pairs json es))) ≤ suc n = omega (arith, kept.shallow) in
      record {
        passes = and_from _ _ (ap (is_between least most) kept.count ∙ counted-ok least most here (member_count p.0) q.0 q.1.0) (and_from _ _ ascends kept.passes);
        tidy = subst (IsTidy IsShort) (sym is) tidy;
        shallow = subst (λ t. depth t ≤ suc n) (sym is) shallow;
      }
