-- The complaint that reading answers is the first of all.
use Rattle.std.specs.Prelude.{◌≡◌, ℕ, suc, List, [], ◌∷◌, ◌++◌, map, Bool, true, false, ◌&&◌, nat_le, nat_lt, codes, if◌then◌else◌, Option, Some, None, is_some, Result, Ok, Err, refl}
use Rattle.std.specs.declared.cmp.Ordering.{Ordering}
use Rattle.std.specs.List.{list_any}
use Rattle.std.specs.Ordering.{nat_cmp, match_ordering}
use Rattle.std.specs.Cmp.Lexicographic.{slice_cmp}
use Rattle.std.proofs.Common.{ap, sym, ◌∙◌, arith, append_assoc, append-nil, Less, Equal, Greater}
use Rattle.std.proofs.lemmas.Bool.Decides.{nat_tests}
use Rattle.std.proofs.lemmas.Bool.{true≢false}
use Rattle.tv_value.specs.Activities.{service, nested}
use Rattle.serde_json.specs.Data.{Data, Num, unsigned, negative, float, null, boolean, number, string, array, object, Items, no_items, item, Members, no_members, member}
use Rattle.serde_json.specs.Find.{get, as_str, as_number, as_array, as_object}
use Rattle.tv_value.specs.Nested.{Trees}
use Rattle.tv_value.specs.Values.{Text, Value, Scalar, list_value}
use Rattle.tv_value.specs.DepthSets.{least_depth}
use Rattle.tv_value.specs.Readings.{read, read_items, read_list, first_read, within, length_limit, item_count, not_text, ragged}
use Rattle.tv_value.specs.Readings as reading
use Rattle.tv_value.specs.Orders.{same_name, name_cmp, in_order}
use Rattle.tv_value.specs.Strategies.{Strategy, port, cross, dot, prefix, Strategies, strategy}
use Rattle.tv_flow.specs.declared.faults.FormKind.{FormKind}
use Rattle.tv_flow.specs.declared.faults.FormKind.TheVariants.{Missing, Unknown, BadName, OutOfRange, Empty, NotText, Ragged}
use Rattle.tv_flow.specs.declared.faults.Part.TheVariants.{Index}
use Rattle.tv_flow.specs.Complaints.{Path, Complaint, complaint, key, index, place, and_then}
use Rattle.tv_flow.specs.Flows.{input, output, link, merge, constant}
use Rattle.tv_flow.specs.Forms.{wanted, is_name, name_or_not, name_form, in_range, number_form, depth_form, unknown_key, none_unknown, fields_form, present, required, or_else, optional, counted, member_count, entries_form, named_form, items_form, array_form, of_reading, value_form, has, input_link, output_link, link_form, link_feed, merge_feed, constant_feed, is_link, feed_form, is_second, in_second, node_form, tree_form, children_form, trees_form, each_tree, pair_form, prefix_form, two_trees, text_form, loop_form, given_loop, repeat_form, service_activity, nested_activity, activity_form, step_input_form, names_form, given_tree, step_fields, step_form, flow_form, document_form}
use Rattle.tv_flow.specs.Listed.{wrong, wrong_unless, all_wanted, all_name, all_text, all_loop, all_repeat, format_or, format_of, all_range, all_number, all_depth, all_unknown, all_fields, all_present, all_required, all_given, all_optional, all_counted, all_entries, all_named, all_items, all_array, all_ragged, all_value, all_values, all_input_link, all_output_link, all_link, all_merge, all_constant, all_feed, all_node, all_tree, all_children, all_trees, each_all_tree, all_service, all_nested, all_activity, all_step_input, all_step, all_flow, all_document, first_of, complaint_of}

-- what an answer complains of is the first of a list
abbrev pub Leads : {A : Type 0} → Result A Complaint → List Complaint → Type 0
Leads r cs = complaint_of r ≡ first_of cs

-- ---- one after the other

some-none : {A : Type 0} (a : A) → Some a ≡ None → ⊥
some-none a e = true≢false (ap is_some e)

and-first : (c : Complaint) (cs ds : List Complaint) → Some c ≡ first_of cs → Some c ≡ first_of (cs ++ ds)
and-first c [] ds e = absurd (some-none c e)
and-first c (x ∷ cs) ds e = e

and-next : (o : Option Complaint) (cs ds : List Complaint) → None ≡ first_of cs → o ≡ first_of ds → o ≡ first_of (cs ++ ds)
and-next o [] ds e h = h
and-next o (x ∷ cs) ds e h = absurd (some-none x (sym e))

one-then : {A B : Type 0} (r : Result A Complaint) (f : A → Result B Complaint) (cs ds : List Complaint) → Leads r cs → ((a : A) → Leads (f a) ds) → Leads (and_then r f) (cs ++ ds)
one-then (Ok a) f cs ds e h = and-next (complaint_of (f a)) cs ds e (h a)
one-then (Err c) f cs ds e h = and-first c cs ds e

-- the last of several
and-none : {A : Type 0} (r : Result A Complaint) (cs : List Complaint) → Leads r cs → Leads r (cs ++ [])
and-none r cs e = e ∙ ap first_of (sym (append-nil cs))

-- what the answer of one says is what follows from it
one-known : {A B : Type 0} (r : Result A Complaint) (f : A → Result B Complaint) (cs ds : List Complaint) → Leads r cs → ((a : A) → r ≡ Ok a → Leads (f a) ds) → Leads (and_then r f) (cs ++ ds)
one-known (Ok a) f cs ds e h = and-next (complaint_of (f a)) cs ds e (h a refl)
one-known (Err c) f cs ds e h = and-first c cs ds e

-- what is made of a thing that was read says nothing more
made : {A B : Type 0} (r : Result A Complaint) (f : A → B) (cs : List Complaint) → Leads r cs → Leads (and_then r (λ a. Ok (f a))) cs
made (Ok a) f cs e = e
made (Err c) f cs e = e

-- ---- kinds, names and numbers

wanted-then : {A B : Type 0} (here : Path) (f : A → Result B Complaint) (g : A → List Complaint) (o : Option A) → ((a : A) → Leads (f a) (g a)) → Leads (and_then (wanted here o) f) (all_wanted here g o)
wanted-then here f g None h = refl
wanted-then here f g (Some a) h = h a

name-first : (here : Path) (s : Text) → Leads (name_or_not here s) (wrong_unless (is_name s) BadName here)
name-first here s = by (is_name s)
  where
    by : (b : Bool) → Leads (if b then Ok s else complaint BadName here) (wrong_unless b BadName here)
    by true = refl
    by false = refl

name-leads : (here : Path) (d : Data) → Leads (name_form here d) (all_name here d)
name-leads here d = wanted-then here (name_or_not here) (λ s. wrong_unless (is_name s) BadName here) (as_str d) (name-first here)

range-leads : (low high : ℕ) (here : Path) (n : Num) → Leads (in_range low high here n) (all_range low high here n)
range-leads low high here (unsigned n) = by (nat_le low n && nat_le n high)
  where
    by : (b : Bool) → Leads (if b then Ok n else complaint OutOfRange here) (wrong_unless b OutOfRange here)
    by true = refl
    by false = refl
range-leads low high here (negative z) = refl
range-leads low high here (float x) = refl

number-leads : (low high : ℕ) (here : Path) (d : Data) → Leads (number_form low high here d) (all_number low high here d)
number-leads low high here d = wanted-then here (in_range low high here) (all_range low high here) (as_number d) (range-leads low high here)

-- ---- objects with fields

unknown-leads : (fields : List Text) (here : Path) (ms : Members) → Leads (none_unknown here (unknown_key fields ms)) (all_unknown fields here ms)
unknown-leads fields here no_members = refl
unknown-leads fields here (member k d ms) = by (list_any (same_name k) fields) (unknown-leads fields here ms)
  where
    by : (b : Bool) → Leads (none_unknown here (unknown_key fields ms)) (all_unknown fields here ms) → Leads (none_unknown here (if b then unknown_key fields ms else Some k)) (wrong_unless b Unknown (key here k) ++ all_unknown fields here ms)
    by true h = h
    by false h = refl

fields-then : {A : Type 0} (fields : List Text) (here : Path) (d : Data) (r : Result A Complaint) (cs : List Complaint) → Leads r cs → Leads (and_then (fields_form fields here d) (λ u. r)) (all_fields fields here cs d)
fields-then fields here d r cs h = by (as_object d)
  where
    by : (o : Option Members) → Leads (and_then (and_then (wanted here o) (λ ms. none_unknown here (unknown_key fields ms))) (λ u. r)) (all_wanted here (λ ms. all_unknown fields here ms ++ cs) o)
    by None = refl
    by (Some ms) = one-then (none_unknown here (unknown_key fields ms)) (λ u. r) (all_unknown fields here ms) cs (unknown-leads fields here ms) (λ u. h)

module _ {A : Type 0} (form : Path → Data → Result A Complaint) (all : Path → Data → List Complaint) (leads : (here : Path) (d : Data) → Leads (form here d) (all here d)) where
  required-leads : (k : Text) (here : Path) (d : Data) → Leads (required form k here d) (all_required all k here d)
  required-leads k here d = by (get k d)
    where
      by : (o : Option Data) → Leads (and_then (present (key here k) o) (form (key here k))) (all_present (all (key here k)) (key here k) o)
      by None = refl
      by (Some e) = leads (key here k) e

  optional-leads : (a : A) (k : Text) (here : Path) (d : Data) → Leads (optional a form k here d) (all_optional all k here d)
  optional-leads a k here d = by (get k d)
    where
      by : (o : Option Data) → Leads (or_else a (form (key here k)) o) (all_given (all (key here k)) o)
      by None = refl
      by (Some e) = leads (key here k) e

-- ---- arrays and named objects

counted-leads : (least most : ℕ) (here : Path) (n : ℕ) → Leads (counted least most here n) (all_counted least most here n)
counted-leads least most here n = by (nat_lt n least) (nat_lt most n)
  where
    by : (a b : Bool) → Leads {A = Unit {0}} (if a then complaint Empty here else (if b then complaint OutOfRange here else Ok tt)) (if a then wrong Empty here else (if b then wrong OutOfRange here else []))
    by true b = refl
    by false true = refl
    by false false = refl

module _ {A : Type 0} (form : Path → Data → Result A Complaint) (all : Path → Data → List Complaint) (leads : (here : Path) (d : Data) → Leads (form here d) (all here d)) where
  entries-leads : (here : Path) (ms : Members) → Leads (entries_form form here ms) (all_entries all here ms)
  entries-leads here no_members = refl
  entries-leads here (member k d ms) =
      one-then (name_or_not (key here k) k) (λ n. and_then (form (key here k) d) (λ a. and_then (entries_form form here ms) (λ as'. Ok ((n, a) ∷ as')))) (wrong_unless (is_name k) BadName (key here k)) (all (key here k) d ++ all_entries all here ms) (name-first (key here k) k)
      (λ n. one-then (form (key here k) d) (λ a. and_then (entries_form form here ms) (λ as'. Ok ((n, a) ∷ as'))) (all (key here k) d) (all_entries all here ms) (leads (key here k) d)
      (λ a. made (entries_form form here ms) (λ as'. (n, a) ∷ as') (all_entries all here ms) (entries-leads here ms)))

  named-leads : (least most : ℕ) (here : Path) (d : Data) → Leads (named_form form least most here d) (all_named all least most here d)
  named-leads least most here d =
      wanted-then here (λ ms. and_then (counted least most here (member_count ms)) (λ u. entries_form form here ms)) (λ ms. all_counted least most here (member_count ms) ++ all_entries all here ms) (as_object d)
      (λ ms. one-then (counted least most here (member_count ms)) (λ u. entries_form form here ms) (all_counted least most here (member_count ms)) (all_entries all here ms) (counted-leads least most here (member_count ms)) (λ u. entries-leads here ms))

  items-leads : (here : Path) (i : ℕ) (ds : Items) → Leads (items_form form here i ds) (all_items all here i ds)
  items-leads here i no_items = refl
  items-leads here i (item d ds) =
      one-then (form (index here i) d) (λ a. and_then (items_form form here (suc i) ds) (λ as'. Ok (a ∷ as'))) (all (index here i) d) (all_items all here (suc i) ds) (leads (index here i) d)
      (λ a. made (items_form form here (suc i) ds) (λ as'. a ∷ as') (all_items all here (suc i) ds) (items-leads here (suc i) ds))

  array-leads : (least most : ℕ) (here : Path) (d : Data) → Leads (array_form form least most here d) (all_array all least most here d)
  array-leads least most here d =
      wanted-then here (λ ds. and_then (counted least most here (item_count ds)) (λ u. items_form form here 0 ds)) (λ ds. all_counted least most here (item_count ds) ++ all_items all here 0 ds) (as_array d)
      (λ ds. one-then (counted least most here (item_count ds)) (λ u. items_form form here 0 ds) (all_counted least most here (item_count ds)) (all_items all here 0 ds) (counted-leads least most here (item_count ds)) (λ u. items-leads here 0 ds))

-- ---- values

-- a complaint of reading, seen from the document
abbrev located : {A : Type 0} → Path → Result A reading.ReadingComplaint → Result A Complaint
located here (Ok a) = Ok a
located here (Err (not_text q)) = complaint NotText (place here q)
located here (Err (ragged q)) = complaint Ragged (place here q)

at-top : (k : FormKind) (here : Path) → Some (record { kind = k; path = place here [] }) ≡ first_of (wrong k here)
at-top k here = ap (λ p. Some (record { kind = k; path = p })) (append-nil here)

inside : (here : Path) (i : ℕ) (q : List ℕ) → place here (i ∷ q) ≡ place (index here i) q
inside here i q = sym (append_assoc here (Index i ∷ []) (map Index q))

within-located : (here : Path) (i : ℕ) (c : reading.ReadingComplaint) → complaint_of (located {A = Trees (Unit {0}) Scalar} here (Err (within i c))) ≡ complaint_of (located {A = Value} (index here i) (Err c))
within-located here i (not_text q) = ap (λ p. Some (record { kind = NotText; path = p })) (inside here i q)
within-located here i (ragged q) = ap (λ p. Some (record { kind = Ragged; path = p })) (inside here i q)

ragged-last : (here : Path) (r : Result (Trees (Unit {0}) Scalar) reading.ReadingComplaint) (cs : List Complaint) → Leads (located here r) cs → Leads (located here (read_list r)) (cs ++ all_ragged here r)
ragged-last here (Err (not_text q)) cs h = and-first (record { kind = NotText; path = place here q }) cs [] h
ragged-last here (Err (ragged q)) cs h = and-first (record { kind = Ragged; path = place here q }) cs [] h
ragged-last here (Ok vs) cs h = by (is_some (least_depth (list_value vs)))
  where
    by : (b : Bool) → Leads (located here (if b then Ok (list_value vs) else Err (ragged []))) (cs ++ wrong_unless b Ragged here)
    by true = and-next None cs [] h refl
    by false = and-next (Some (record { kind = Ragged; path = place here [] })) cs (wrong Ragged here) h (at-top Ragged here)

first-then : (here : Path) (i : ℕ) (r : Result Value reading.ReadingComplaint) (rs : Result (Trees (Unit {0}) Scalar) reading.ReadingComplaint) (cs ds : List Complaint) → Leads (located (index here i) r) cs → Leads (located here rs) ds → Leads (located here (first_read i r rs)) (cs ++ ds)
first-then here i (Err (not_text q)) rs cs ds h k = within-located here i (not_text q) ∙ and-first (record { kind = NotText; path = place (index here i) q }) cs ds h
first-then here i (Err (ragged q)) rs cs ds h k = within-located here i (ragged q) ∙ and-first (record { kind = Ragged; path = place (index here i) q }) cs ds h
first-then here i (Ok v) (Err (not_text q)) cs ds h k = and-next (Some (record { kind = NotText; path = place here q })) cs ds h k
first-then here i (Ok v) (Err (ragged q)) cs ds h k = and-next (Some (record { kind = Ragged; path = place here q })) cs ds h k
first-then here i (Ok v) (Ok vs) cs ds h k = and-next None cs ds h k

mutual
  read-leads : (here : Path) (d : Data) → Leads (located here (read d)) (all_value here d)
  read-leads here null = at-top NotText here
  read-leads here (boolean b) = at-top NotText here
  read-leads here (number (unsigned n)) = refl
  read-leads here (number (negative z)) = refl
  read-leads here (number (float x)) = at-top NotText here
  read-leads here (string s) = refl
  read-leads here (array ds) = by (nat_lt (item_count ds) length_limit) (reads-lead here 0 ds)
    where
      by : (b : Bool) → Leads (located here (read_items 0 ds)) (all_values here 0 ds) → Leads (located here (if b then read_list (read_items 0 ds) else Err (ragged []))) (if b then all_values here 0 ds ++ all_ragged here (read_items 0 ds) else wrong Ragged here)
      by true h = ragged-last here (read_items 0 ds) (all_values here 0 ds) h
      by false h = at-top Ragged here
  read-leads here (object ms) = at-top NotText here

  reads-lead : (here : Path) (i : ℕ) (ds : Items) → Leads (located here (read_items i ds)) (all_values here i ds)
  reads-lead here i no_items = refl
  reads-lead here i (item d ds) = first-then here i (read d) (read_items (suc i) ds) (all_value (index here i) d) (all_values here (suc i) ds) (read-leads (index here i) d) (reads-lead here (suc i) ds)

value-leads : (here : Path) (d : Data) → Leads (value_form here d) (all_value here d)
value-leads here d = same (read d) ∙ read-leads here d
  where
    same : (r : Result Value reading.ReadingComplaint) → complaint_of (of_reading here r) ≡ complaint_of (located here r)
    same (Ok v) = refl
    same (Err (not_text q)) = refl
    same (Err (ragged q)) = refl

-- ---- feeds

input_link-leads : (here : Path) (d : Data) → Leads (input_link here d) (all_input_link here d)
input_link-leads here d = fields-then (codes "input" ∷ []) here d (and_then (required name_form (codes "input") here d) (λ n. Ok (input n))) (all_required all_name (codes "input") here d)
    (made (required name_form (codes "input") here d) input (all_required all_name (codes "input") here d) (required-leads name_form all_name name-leads (codes "input") here d))

output_link-leads : (here : Path) (d : Data) → Leads (output_link here d) (all_output_link here d)
output_link-leads here d = fields-then (codes "step" ∷ codes "port" ∷ []) here d (and_then (required name_form (codes "step") here d) (λ s. and_then (required name_form (codes "port") here d) (λ p. Ok (output s p)))) (all_required all_name (codes "step") here d ++ all_required all_name (codes "port") here d)
    (one-then (required name_form (codes "step") here d) (λ s. and_then (required name_form (codes "port") here d) (λ p. Ok (output s p))) (all_required all_name (codes "step") here d) (all_required all_name (codes "port") here d) (required-leads name_form all_name name-leads (codes "step") here d)
    (λ s. made (required name_form (codes "port") here d) (output s) (all_required all_name (codes "port") here d) (required-leads name_form all_name name-leads (codes "port") here d)))

-- one of two, by the same test
either-leads : {A : Type 0} (b : Bool) (r s : Result A Complaint) (cs ds : List Complaint) → Leads r cs → Leads s ds → Leads (if b then r else s) (if b then cs else ds)
either-leads true r s cs ds h k = h
either-leads false r s cs ds h k = k

link-leads : (here : Path) (d : Data) → Leads (link_form here d) (all_link here d)
link-leads here d =
    either-leads (has (codes "input") d) (input_link here d) (if has (codes "step") d then output_link here d else input_link here d) (all_input_link here d) (if has (codes "step") d then all_output_link here d else all_input_link here d) (input_link-leads here d)
    (either-leads (has (codes "step") d) (output_link here d) (input_link here d) (all_output_link here d) (all_input_link here d) (output_link-leads here d) (input_link-leads here d))

link_feed-leads : (here : Path) (d : Data) → Leads (link_feed here d) (all_link here d)
link_feed-leads here d = made (link_form here d) link (all_link here d) (link-leads here d)

merge-leads : (here : Path) (d : Data) → Leads (merge_feed here d) (all_merge here d)
merge-leads here d = fields-then (codes "merge" ∷ []) here d (and_then (required (array_form link_form 1 16) (codes "merge") here d) (λ ls. Ok (merge ls))) (all_required (all_array all_link 1 16) (codes "merge") here d)
    (made (required (array_form link_form 1 16) (codes "merge") here d) merge (all_required (all_array all_link 1 16) (codes "merge") here d) (required-leads (array_form link_form 1 16) (all_array all_link 1 16) (array-leads link_form all_link link-leads 1 16) (codes "merge") here d))

constant-leads : (here : Path) (d : Data) → Leads (constant_feed here d) (all_constant here d)
constant-leads here d = fields-then (codes "constant" ∷ []) here d (and_then (required value_form (codes "constant") here d) (λ v. Ok (constant v))) (all_required all_value (codes "constant") here d)
    (made (required value_form (codes "constant") here d) constant (all_required all_value (codes "constant") here d) (required-leads value_form all_value value-leads (codes "constant") here d))

feed-leads : (here : Path) (d : Data) → Leads (feed_form here d) (all_feed here d)
feed-leads here d =
    either-leads (is_link d) (link_feed here d) (if has (codes "merge") d then merge_feed here d else (if has (codes "constant") d then constant_feed here d else link_feed here d)) (all_link here d) (if has (codes "merge") d then all_merge here d else (if has (codes "constant") d then all_constant here d else all_link here d)) (link_feed-leads here d)
    (either-leads (has (codes "merge") d) (merge_feed here d) (if has (codes "constant") d then constant_feed here d else link_feed here d) (all_merge here d) (if has (codes "constant") d then all_constant here d else all_link here d) (merge-leads here d)
    (either-leads (has (codes "constant") d) (constant_feed here d) (link_feed here d) (all_constant here d) (all_link here d) (constant-leads here d) (link_feed-leads here d)))

-- ---- strategies

abbrev ChildLeads : {A : Type 0} → Option (Result A Complaint) → Option (List Complaint) → Type 0
ChildLeads None None = Unit {0}
ChildLeads None (Some cs) = ⊥
ChildLeads (Some r) None = ⊥
ChildLeads (Some r) (Some cs) = Leads r cs

of-order : {A : Type 0} (o : Ordering) (a b c : Option (Result A Complaint)) (x y z : Option (List Complaint)) → ChildLeads a x → ChildLeads b y → ChildLeads c z → ChildLeads (match_ordering o a b c) (match_ordering o x y z)
of-order Less a b c x y z h k l = h
of-order Equal a b c x y z h k l = k
of-order Greater a b c x y z h k l = l

second-leads : {A : Type 0} (format : ℕ) (a : Option (Result A Complaint)) (x : Option (List Complaint)) → ChildLeads a x → ChildLeads (in_second format a) (in_second format x)
second-leads format a x h = by (is_second format)
  where
    by : (b : Bool) → ChildLeads (if b then a else None) (if b then x else None)
    by true = h
    by false = tt

node-leads : (here : Path) (ms : Members) (a b : Option (Result Strategies Complaint)) (c : Option (Result Strategy Complaint)) (x y z : Option (List Complaint)) → ChildLeads a x → ChildLeads b y → ChildLeads c z → Leads (node_form here ms a b c) (all_node here ms x y z)
node-leads here ms (Some r) b c (Some cs) y z h k l =
    one-then (none_unknown here (unknown_key (codes "cross" ∷ []) ms)) (λ u. and_then r (λ ts. Ok (cross ts))) (all_unknown (codes "cross" ∷ []) here ms) cs (unknown-leads (codes "cross" ∷ []) here ms) (λ u. made r cross cs h)
node-leads here ms (Some r) b c None y z h k l = absurd h
node-leads here ms None b c (Some cs) y z h k l = absurd h
node-leads here ms None (Some r) c None (Some cs) z h k l =
    one-then (none_unknown here (unknown_key (codes "dot" ∷ []) ms)) (λ u. and_then r (λ ts. Ok (dot ts))) (all_unknown (codes "dot" ∷ []) here ms) cs (unknown-leads (codes "dot" ∷ []) here ms) (λ u. made r dot cs k)
node-leads here ms None (Some r) c None None z h k l = absurd k
node-leads here ms None None c None (Some cs) z h k l = absurd k
node-leads here ms None None (Some r) None None (Some cs) h k l =
    one-then (none_unknown here (unknown_key (codes "prefix" ∷ []) ms)) (λ u. r) (all_unknown (codes "prefix" ∷ []) here ms) cs (unknown-leads (codes "prefix" ∷ []) here ms) (λ u. l)
node-leads here ms None None (Some r) None None None h k l = absurd l
node-leads here ms None None None None None (Some cs) h k l = absurd l
node-leads here ms None None None None None None h k l =
    one-then (none_unknown here (unknown_key (codes "cross" ∷ []) ms)) (λ u. complaint Missing (key here (codes "cross"))) (all_unknown (codes "cross" ∷ []) here ms) (wrong Missing (key here (codes "cross"))) (unknown-leads (codes "cross" ∷ []) here ms) (λ u. refl)

-- three or more are more than two
not-few : (n : ℕ) → nat_lt (suc (suc (suc n))) 2 ≡ false
not-few n = grind (arith, nat_tests)

too-many : (n : ℕ) → nat_lt 2 (suc (suc (suc n))) ≡ true
too-many n = grind (arith, nat_tests)

mutual
  tree-leads : (format : ℕ) (here : Path) (d : Data) → Leads (tree_form format here d) (all_tree format here d)
  tree-leads format here null = refl
  tree-leads format here (boolean b) = refl
  tree-leads format here (number n) = refl
  tree-leads format here (string s) = made (name_or_not here s) port (wrong_unless (is_name s) BadName here) (name-first here s)
  tree-leads format here (array ds) = refl
  tree-leads format here (object ms) =
      node-leads here ms (children_form format (codes "cross") (key here (codes "cross")) ms) (children_form format (codes "dot") (key here (codes "dot")) ms) (in_second format (pair_form format (codes "prefix") (key here (codes "prefix")) ms))
      (all_children format 1 16 (codes "cross") (key here (codes "cross")) ms) (all_children format 1 16 (codes "dot") (key here (codes "dot")) ms) (in_second format (all_children format 2 2 (codes "prefix") (key here (codes "prefix")) ms))
      (children-lead format (codes "cross") (key here (codes "cross")) ms) (children-lead format (codes "dot") (key here (codes "dot")) ms)
      (second-leads format (pair_form format (codes "prefix") (key here (codes "prefix")) ms) (all_children format 2 2 (codes "prefix") (key here (codes "prefix")) ms) (pair-leads format (codes "prefix") (key here (codes "prefix")) ms))

  children-lead : (format : ℕ) (k : Text) (there : Path) (ms : Members) → ChildLeads (children_form format k there ms) (all_children format 1 16 k there ms)
  children-lead format k there no_members = tt
  children-lead format k there (member l d ms) =
      of-order (slice_cmp nat_cmp k l) (children_form format k there ms) (Some (trees_form format there d)) (children_form format k there ms) (all_children format 1 16 k there ms) (Some (all_trees format 1 16 there d)) (all_children format 1 16 k there ms)
      (children-lead format k there ms) (trees-lead format there d) (children-lead format k there ms)

  trees-lead : (format : ℕ) (here : Path) (d : Data) → Leads (trees_form format here d) (all_trees format 1 16 here d)
  trees-lead format here null = refl
  trees-lead format here (boolean b) = refl
  trees-lead format here (number n) = refl
  trees-lead format here (string s) = refl
  trees-lead format here (array ds) = one-then (counted 1 16 here (item_count ds)) (λ u. each_tree format here 0 ds) (all_counted 1 16 here (item_count ds)) (each_all_tree format here 0 ds) (counted-leads 1 16 here (item_count ds)) (λ u. each-leads format here 0 ds)
  trees-lead format here (object ms) = refl

  each-leads : (format : ℕ) (here : Path) (i : ℕ) (ds : Items) → Leads (each_tree format here i ds) (each_all_tree format here i ds)
  each-leads format here i no_items = refl
  each-leads format here i (item d ds) =
      one-then (tree_form format (index here i) d) (λ t. and_then (each_tree format here (suc i) ds) (λ ts. Ok (strategy t ts))) (all_tree format (index here i) d) (each_all_tree format here (suc i) ds) (tree-leads format (index here i) d)
      (λ t. made (each_tree format here (suc i) ds) (strategy t) (each_all_tree format here (suc i) ds) (each-leads format here (suc i) ds))

  pair-leads : (format : ℕ) (k : Text) (there : Path) (ms : Members) → ChildLeads (pair_form format k there ms) (all_children format 2 2 k there ms)
  pair-leads format k there no_members = tt
  pair-leads format k there (member l d ms) =
      of-order (slice_cmp nat_cmp k l) (pair_form format k there ms) (Some (prefix_form format there d)) (pair_form format k there ms) (all_children format 2 2 k there ms) (Some (all_trees format 2 2 there d)) (all_children format 2 2 k there ms)
      (pair-leads format k there ms) (prefix-leads format there d) (pair-leads format k there ms)

  prefix-leads : (format : ℕ) (here : Path) (d : Data) → Leads (prefix_form format here d) (all_trees format 2 2 here d)
  prefix-leads format here null = refl
  prefix-leads format here (boolean b) = refl
  prefix-leads format here (number n) = refl
  prefix-leads format here (string s) = refl
  prefix-leads format here (array ds) = two-lead format here ds
  prefix-leads format here (object ms) = refl

  two-lead : (format : ℕ) (here : Path) (ds : Items) → Leads (two_trees format here ds) (all_counted 2 2 here (item_count ds) ++ each_all_tree format here 0 ds)
  two-lead format here no_items = refl
  two-lead format here (item l no_items) = refl
  two-lead format here (item l (item r no_items)) =
      one-then (tree_form format (index here 0) l) (λ left. and_then (tree_form format (index here 1) r) (λ right. Ok (prefix left right))) (all_tree format (index here 0) l) (all_tree format (index here 1) r ++ []) (tree-leads format (index here 0) l)
      (λ left. made (tree_form format (index here 1) r) (prefix left) (all_tree format (index here 1) r ++ []) (and-none (tree_form format (index here 1) r) (all_tree format (index here 1) r) (tree-leads format (index here 1) r)))
  two-lead format here (item l (item r (item d ds))) =
      let n = item_count ds in
      let rest = each_all_tree format here 0 (item l (item r (item d ds))) in
      sym
      (ap (λ b. first_of ((if b then wrong Empty here else (if nat_lt 2 (suc (suc (suc n))) then wrong OutOfRange here else [])) ++ rest)) (not-few n)
      ∙ ap (λ b. first_of ((if b then wrong OutOfRange here else []) ++ rest)) (too-many n))

-- ---- steps, flows and documents

depth-leads : (here : Path) (d : Data) → Leads (depth_form here d) (all_depth here d)
depth-leads = number-leads 0 32

service-leads : (here : Path) (d : Data) → Leads (service_activity here d) (all_service here d)
service-leads here d = fields-then (codes "service" ∷ []) here d (and_then (required name_form (codes "service") here d) (λ n. Ok (service n))) (all_required all_name (codes "service") here d)
    (made (required name_form (codes "service") here d) service (all_required all_name (codes "service") here d) (required-leads name_form all_name name-leads (codes "service") here d))

nested-leads : (here : Path) (d : Data) → Leads (nested_activity here d) (all_nested here d)
nested-leads here d = fields-then (codes "flow" ∷ []) here d (and_then (required name_form (codes "flow") here d) (λ n. Ok (nested n))) (all_required all_name (codes "flow") here d)
    (made (required name_form (codes "flow") here d) nested (all_required all_name (codes "flow") here d) (required-leads name_form all_name name-leads (codes "flow") here d))

activity-leads : (here : Path) (d : Data) → Leads (activity_form here d) (all_activity here d)
activity-leads here d =
    either-leads (has (codes "service") d) (service_activity here d) (if has (codes "flow") d then nested_activity here d else service_activity here d) (all_service here d) (if has (codes "flow") d then all_nested here d else all_service here d) (service-leads here d)
    (either-leads (has (codes "flow") d) (nested_activity here d) (service_activity here d) (all_nested here d) (all_service here d) (nested-leads here d) (service-leads here d))

step_input-leads : (here : Path) (d : Data) → Leads (step_input_form here d) (all_step_input here d)
step_input-leads here d =
    fields-then (codes "depth" ∷ codes "from" ∷ []) here d
    (and_then (required depth_form (codes "depth") here d) (λ depth. and_then (required feed_form (codes "from") here d) (λ from. Ok (record { depth = depth; from = from }))))
    (all_required all_depth (codes "depth") here d ++ all_required all_feed (codes "from") here d)
    (one-then (required depth_form (codes "depth") here d) (λ depth. and_then (required feed_form (codes "from") here d) (λ from. Ok (record { depth = depth; from = from }))) (all_required all_depth (codes "depth") here d) (all_required all_feed (codes "from") here d) (required-leads depth_form all_depth depth-leads (codes "depth") here d)
    (λ depth. made (required feed_form (codes "from") here d) (λ from. record { depth = depth; from = from }) (all_required all_feed (codes "from") here d) (required-leads feed_form all_feed feed-leads (codes "from") here d)))

names-leads : (here : Path) (d : Data) → Leads (names_form here d) (all_array all_name 0 16 here d)
names-leads here d = made (array_form name_form 0 16 here d) (in_order name_cmp) (all_array all_name 0 16 here d) (array-leads name_form all_name name-leads 0 16 here d)

given_tree-leads : (format : ℕ) (here : Path) (d : Data) → Leads (given_tree format here d) (all_tree format here d)
given_tree-leads format here d = made (tree_form format here d) Some (all_tree format here d) (tree-leads format here d)

text-leads : (here : Path) (d : Data) → Leads (text_form here d) (all_text here d)
text-leads here d = by (as_str d)
  where
    by : (o : Option Text) → Leads (wanted here o) (all_wanted here (λ s. []) o)
    by None = refl
    by (Some s) = refl

loop-leads : (here : Path) (d : Data) → Leads (loop_form here d) (all_loop here d)
loop-leads here d =
    fields-then (codes "service" ∷ codes "until" ∷ codes "most" ∷ []) here d _ _
    (one-then (required name_form (codes "service") here d) _ (all_required all_name (codes "service") here d) _ (required-leads name_form all_name name-leads (codes "service") here d)
    (λ service. one-then (required text_form (codes "until") here d) _ (all_required all_text (codes "until") here d) _ (required-leads text_form all_text text-leads (codes "until") here d)
    (λ until. one-then (required (number_form 1 100) (codes "most") here d) _ (all_required (all_number 1 100) (codes "most") here d) _ (required-leads (number_form 1 100) (all_number 1 100) (number-leads 1 100) (codes "most") here d) (λ most. refl))))

given_loop-leads : (here : Path) (d : Data) → Leads (given_loop here d) (all_loop here d)
given_loop-leads here d = made (loop_form here d) Some (all_loop here d) (loop-leads here d)

repeat-leads : (format : ℕ) (here : Path) (d : Data) → Leads (repeat_form format here d) (all_repeat format here d)
repeat-leads format here d =
    either-leads (is_second format) (optional None given_loop (codes "loop") here d) (Ok None) (all_optional all_loop (codes "loop") here d) []
    (optional-leads given_loop all_loop given_loop-leads None (codes "loop") here d) refl

step-leads : (format : ℕ) (here : Path) (d : Data) → Leads (step_form format here d) (all_step format here d)
step-leads format here d =
    fields-then (step_fields format) here d _ _
    (one-then (optional [] (named_form step_input_form 0 16) (codes "inputs") here d) _ (all_optional (all_named all_step_input 0 16) (codes "inputs") here d) _ (optional-leads (named_form step_input_form 0 16) (all_named all_step_input 0 16) (named-leads step_input_form all_step_input step_input-leads 0 16) [] (codes "inputs") here d)
    (λ inputs. one-then (optional [] (named_form depth_form 0 16) (codes "outputs") here d) _ (all_optional (all_named all_depth 0 16) (codes "outputs") here d) _ (optional-leads (named_form depth_form 0 16) (all_named all_depth 0 16) (named-leads depth_form all_depth depth-leads 0 16) [] (codes "outputs") here d)
    (λ outputs. one-then (optional None (given_tree format) (codes "strategy") here d) _ (all_optional (all_tree format) (codes "strategy") here d) _ (optional-leads (given_tree format) (all_tree format) (given_tree-leads format) None (codes "strategy") here d)
    (λ strategy. one-then (required (array_form activity_form 1 8) (codes "activities") here d) _ (all_required (all_array all_activity 1 8) (codes "activities") here d) _ (required-leads (array_form activity_form 1 8) (all_array all_activity 1 8) (array-leads activity_form all_activity activity-leads 1 8) (codes "activities") here d)
    (λ activities. one-then (optional 0 (number_form 0 100) (codes "retries") here d) _ (all_optional (all_number 0 100) (codes "retries") here d) _ (optional-leads (number_form 0 100) (all_number 0 100) (number-leads 0 100) 0 (codes "retries") here d)
    (λ retries. one-then (optional 1 (number_form 1 64) (codes "jobs") here d) _ (all_optional (all_number 1 64) (codes "jobs") here d) _ (optional-leads (number_form 1 64) (all_number 1 64) (number-leads 1 64) 1 (codes "jobs") here d)
    (λ jobs. one-then (optional [] names_form (codes "after") here d) _ (all_optional (all_array all_name 0 16) (codes "after") here d) _ (optional-leads names_form (all_array all_name 0 16) names-leads [] (codes "after") here d)
    (λ after. one-then (repeat_form format here d) _ (all_repeat format here d) [] (repeat-leads format here d) (λ repeat. refl)))))))))

flow-leads : (format : ℕ) (here : Path) (d : Data) → Leads (flow_form format here d) (all_flow format here d)
flow-leads format here d =
    fields-then (codes "inputs" ∷ codes "steps" ∷ codes "outputs" ∷ []) here d _ _
    (one-then (optional [] (named_form depth_form 0 16) (codes "inputs") here d) _ (all_optional (all_named all_depth 0 16) (codes "inputs") here d) _ (optional-leads (named_form depth_form 0 16) (all_named all_depth 0 16) (named-leads depth_form all_depth depth-leads 0 16) [] (codes "inputs") here d)
    (λ inputs. one-then (optional [] (named_form (step_form format) 0 1000) (codes "steps") here d) _ (all_optional (all_named (all_step format) 0 1000) (codes "steps") here d) _ (optional-leads (named_form (step_form format) 0 1000) (all_named (all_step format) 0 1000) (named-leads (step_form format) (all_step format) (step-leads format) 0 1000) [] (codes "steps") here d)
    (λ steps. one-then (required (named_form feed_form 0 16) (codes "outputs") here d) _ (all_required (all_named all_feed 0 16) (codes "outputs") here d) _ (required-leads (named_form feed_form 0 16) (all_named all_feed 0 16) (named-leads feed_form all_feed feed-leads 0 16) (codes "outputs") here d) (λ outputs. refl))))

-- flows are of the format that was read
flows-leads : (here : Path) (d : Data) (format : ℕ) → required (number_form 1 2) (codes "taverna") here d ≡ Ok format → Leads (required (named_form (flow_form format) 1 256) (codes "flows") here d) (all_required (all_named (all_flow (format_of here d)) 1 256) (codes "flows") here d)
flows-leads here d format e =
    required-leads (named_form (flow_form format) 1 256) (all_named (all_flow format) 1 256) (named-leads (flow_form format) (all_flow format) (flow-leads format) 1 256) (codes "flows") here d
    ∙ ap (λ r. first_of (all_required (all_named (all_flow (format_or r)) 1 256) (codes "flows") here d)) (sym e)

pub document-leads : (here : Path) (d : Data) → Leads (document_form here d) (all_document here d)
document-leads here d =
    fields-then (codes "taverna" ∷ codes "main" ∷ codes "flows" ∷ codes "inputs" ∷ []) here d _ _
    (one-known (required (number_form 1 2) (codes "taverna") here d) _ (all_required (all_number 1 2) (codes "taverna") here d) _ (required-leads (number_form 1 2) (all_number 1 2) (number-leads 1 2) (codes "taverna") here d)
    (λ format read. one-then (required name_form (codes "main") here d) _ (all_required all_name (codes "main") here d) _ (required-leads name_form all_name name-leads (codes "main") here d)
    (λ main. one-then (required (named_form (flow_form format) 1 256) (codes "flows") here d) _ (all_required (all_named (all_flow (format_of here d)) 1 256) (codes "flows") here d) _ (flows-leads here d format read)
    (λ flows. one-then (optional [] (named_form value_form 0 16) (codes "inputs") here d) _ (all_optional (all_named all_value 0 16) (codes "inputs") here d) _ (optional-leads (named_form value_form 0 16) (all_named all_value 0 16) (named-leads value_form all_value value-leads 0 16) [] (codes "inputs") here d) (λ inputs. refl)))))
