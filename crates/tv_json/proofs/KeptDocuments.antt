-- A document that was read is in the form of documents, and its own JSON is tidy and no deeper than what was read.
use Rattle.std.specs.Prelude.{◌≡◌, ℕ, suc, ◌≤◌, List, [], ◌∷◌, ◌++◌, length, map, Bool, true, false, nat_lt, is_some, if◌then◌else◌, codes, Option, Some, None, Result, Ok, Err, refl}
use Rattle.std.proofs.Common.{ap, sym, subst, ◌∙◌, arith}
use Rattle.std.proofs.lemmas.Bool.Decides.{nat_tests}
use Rattle.std.proofs.lemmas.Bool.{and_from}
use Rattle.std.specs.Cmp.{first_so, second_so}
use Rattle.serde_json.specs.Data.{Data, Num, unsigned, negative, float, null, boolean, number, string, array, object, Items, no_items, item, depth, items_depth, members_depth}
use Rattle.serde_json.specs.Find.{get}
use Rattle.serde_json.specs.View.{items_of}
use Rattle.tv_value.specs.Activities.{Activity, Repeat, service, nested}
use Rattle.tv_value.specs.DepthSets.{least_depth}
use Rattle.tv_value.specs.Nested.{Trees, no_trees, tree, leaf, list}
use Rattle.tv_value.specs.Orders.{in_order, name_cmp}
use Rattle.tv_value.specs.Printed.{all_json, json, members}
use Rattle.tv_value.specs.Readings.{ReadingComplaint, first_read, item_count, length_limit, not_text, ragged, read, read_items, read_list, read_number}
use Rattle.tv_value.specs.Strategies.{Strategy}
use Rattle.tv_value.specs.Values.{Text, Name, Scalar, Value, fault, list_value, text}
use Rattle.tv_flow.specs.Complaints.{Path, Complaint, key, and_then}
use Rattle.tv_flow.specs.Flows.{Document, Feed, Flow, Link, Step, StepInput, constant, input, link, merge, output, upgraded}
use Rattle.tv_flow.specs.Forms.{activity_form, array_form, constant_feed, depth_form, document_form, feed_form, fields_form, flow_form, form_of, given_loop, given_tree, has, input_link, is_name, is_second, link_feed, link_form, loop_form, merge_feed, name_form, named_form, names_form, nested_activity, number_form, of_reading, optional, output_link, repeat_form, required, service_activity, step_fields, step_form, step_input_form, text_form, tree_form, value_form}
use Rattle.tv_flow.specs.Forms as form
use Rattle.tv_flow.specs.Formed.{are_entries, are_listed, are_named, are_names, are_values, is_activity, is_ascending, is_between, is_depth, is_feed, is_flow, is_formed, is_given_loop, is_given_tree, is_link, is_repeat, is_step, is_step_input, is_value}
use Rattle.tv_flow.proofs.KeptValues.{value-kept}
use Rattle.tv_flow.proofs.Shapes.{given-ok, member_keys, ok}
use Rattle.tv_flow.proofs.Sorting.{names-kept}
use Rattle.tv_json.specs.Documents.{activity_json, array_json, document_json, early_members, feed_json, flow_json, late_members, link_json, loop_json, loop_member, named_json, number_json, step_input_json, step_json, strategy_member, tree_json}
use Rattle.tv_json.proofs.Back.{second-flows}
use Rattle.tv_json.proofs.KeptForms.{IsKept, Keeps, Within, after, array-keeps, either, get-within, name-keeps, named-keeps, number-keeps, optional-keeps, required-keeps}
use Rattle.tv_json.proofs.KeptTrees.{tree-keeps}
use Rattle.tv_json.proofs.Tidy.{AreTidy, IsShort, IsTidy, MembersAreTidy}

never : {A : Type 0} {P : Type 0} (c : Complaint) (a : A) → ◌≡◌ {A = Result A Complaint} (Err c) (Ok a) → P
never c a e = absurd (cc)

-- ---- values

not-read : {A : Type 0} {P : Type 0} (c : ReadingComplaint) (a : A) → ◌≡◌ {A = Result A ReadingComplaint} (Err c) (Ok a) → P
not-read c a e = absurd (cc)

is-read : {A : Type 0} {a b : A} → ◌≡◌ {A = Result A ReadingComplaint} (Ok a) (Ok b) → a ≡ b
is-read e = cc

reads : (here : Path) (r : Result Value ReadingComplaint) (v : Value) → of_reading here r ≡ Ok v → r ≡ Ok v
reads here (Ok w) v e = ap Ok (ok e)
reads here (Err (not_text q)) v e = never _ v e
reads here (Err (ragged q)) v e = never _ v e

list-of : (b : Bool) (r : Result (Trees (Unit {0}) Scalar) ReadingComplaint) (c : ReadingComplaint) (v : Value) → (if b then read_list r else Err c) ≡ Ok v → (vs : Trees (Unit {0}) Scalar) × (r ≡ Ok vs) × (list_value vs ≡ v)
list-of false r c v e = not-read c v e
list-of true (Err d) c v e = not-read d v e
list-of true (Ok vs) c v e = by (is_some (least_depth (list_value vs))) e
  where
    by : (b : Bool) → (if b then Ok (list_value vs) else Err (ragged [])) ≡ Ok v → (ws : Trees (Unit {0}) Scalar) × (◌≡◌ {A = Result (Trees (Unit {0}) Scalar) ReadingComplaint} (Ok vs) (Ok ws)) × (list_value ws ≡ v)
    by true f = (vs, refl, is-read f)
    by false f = not-read _ v f

first-of : (i : ℕ) (a : Result Value ReadingComplaint) (r : Result (Trees (Unit {0}) Scalar) ReadingComplaint) (vs : Trees (Unit {0}) Scalar) → first_read i a r ≡ Ok vs → (v : Value) × (ws : Trees (Unit {0}) Scalar) × (a ≡ Ok v) × (r ≡ Ok ws) × (tree v ws ≡ vs)
first-of i (Err c) r vs e = not-read _ vs e
first-of i (Ok v) (Err c) vs e = not-read _ vs e
first-of i (Ok v) (Ok ws) vs e = (v, ws, refl, refl, is-read e)

number-flat : (n : Num) (v : Value) → read_number n ≡ Ok v → depth (json v) ≤ 0
number-flat (unsigned n) v e = subst (λ w. depth (json w) ≤ 0) (is-read e) (omega arith)
number-flat (negative z) v e = subst (λ w. depth (json w) ≤ 0) (is-read e) (omega arith)
number-flat (float x) v e = not-read _ v e

mutual
  value-shallow : (d : Data) (v : Value) → read d ≡ Ok v → depth (json v) ≤ depth d
  value-shallow null v e = not-read _ v e
  value-shallow (boolean b) v e = not-read _ v e
  value-shallow (number n) v e = number-flat n v e
  value-shallow (string s) v e = subst (λ w. depth (json w) ≤ 0) (is-read e) (omega arith)
  value-shallow (array ds) v e =
      let p = list-of (nat_lt (item_count ds) length_limit) (read_items 0 ds) (ragged []) v e in
      subst (λ w. depth (json w) ≤ depth (array ds)) p.2 (omega (arith, values-shallow 0 ds p.0 p.1))
  value-shallow (object ms) v e = not-read _ v e

  values-shallow : (i : ℕ) (ds : Items) (vs : Trees (Unit {0}) Scalar) → read_items i ds ≡ Ok vs → items_depth (all_json vs) ≤ items_depth ds
  values-shallow i no_items vs e = subst (λ ws. items_depth (all_json ws) ≤ 0) (is-read e) (omega arith)
  values-shallow i (item d ds) vs e =
      let p = first-of i (read d) (read_items (suc i) ds) vs e in
      subst (λ ws. items_depth (all_json ws) ≤ items_depth (item d ds)) p.4 (omega (arith, value-shallow d p.0 p.2, values-shallow (suc i) ds p.1 p.3))

mutual
  value-tidy : (v : Value) → is_value v ≡ true → IsTidy IsShort (json v)
  value-tidy (leaf n (text t)) h = tt
  value-tidy (leaf n (fault e)) h = absurd (cc)
  value-tidy (list n vs) h = values-tidy vs (second_so _ (are_values vs) h)

  values-tidy : (vs : Trees (Unit {0}) Scalar) → are_values vs ≡ true → AreTidy IsShort (all_json vs)
  values-tidy no_trees h = tt
  values-tidy (tree v vs) h = (value-tidy v (first_so (is_value v) (are_values vs) h), values-tidy vs (second_so (is_value v) (are_values vs) h))

value-keeps : (n : ℕ) → Keeps value_form is_value json n
value-keeps n here d v w e =
    let r = reads here (read d) v e in
    let passes = value-kept d v r in
    record { passes = passes; tidy = value-tidy v passes; shallow = omega (arith, w.1, value-shallow d v r) }

-- ---- links and feeds

input-kept : (n : ℕ) (here : Path) (d : Data) (l : Link) → Within (suc n) d → input_link here d ≡ Ok l → IsKept is_link link_json (suc n) l
input-kept n here d l w e =
    let p = given-ok (required name_form (codes "input") here d) (λ x. Ok (input x)) l (after (fields_form (codes "input" ∷ []) here d) _ l e) in
    let k = required-keeps name_form is_name string n (name-keeps n) (codes "input") here d p.0 w p.1.0 in
    subst (IsKept is_link link_json (suc n)) (ok p.1.1) (record { passes = k.passes; tidy = (refl, (tt, tt)); shallow = omega arith })

output-kept : (n : ℕ) (here : Path) (d : Data) (l : Link) → Within (suc n) d → output_link here d ≡ Ok l → IsKept is_link link_json (suc n) l
output-kept n here d l w e =
    let p = given-ok (required name_form (codes "step") here d) (λ s. and_then (required name_form (codes "port") here d) (λ q. Ok (output s q))) l (after (fields_form (codes "step" ∷ codes "port" ∷ []) here d) _ l e) in
    let q = given-ok (required name_form (codes "port") here d) (λ q. Ok (output p.0 q)) l p.1.1 in
    let j = required-keeps name_form is_name string n (name-keeps n) (codes "step") here d p.0 w p.1.0 in
    let k = required-keeps name_form is_name string n (name-keeps n) (codes "port") here d q.0 w q.1.0 in
    subst (IsKept is_link link_json (suc n)) (ok q.1.1) (record { passes = and_from _ _ j.passes k.passes; tidy = (refl, (tt, (tt, tt))); shallow = omega arith })

link-keeps : (n : ℕ) → Keeps link_form is_link link_json (suc n)
link-keeps n here d l w e =
    either (has (codes "input") d) _ _ l (input-kept n here d l w)
    (either (has (codes "step") d) _ _ l (output-kept n here d l w) (input-kept n here d l w)) e

link_feed-kept : (n : ℕ) (here : Path) (d : Data) (f : Feed) → Within (suc n) d → link_feed here d ≡ Ok f → IsKept is_feed feed_json (suc n) f
link_feed-kept n here d f w e =
    let p = given-ok (link_form here d) (λ l. Ok (link l)) f e in
    let k = link-keeps n here d p.0 w p.1.0 in
    subst (IsKept is_feed feed_json (suc n)) (ok p.1.1) (record { passes = k.passes; tidy = k.tidy; shallow = k.shallow })

merge-kept : (n : ℕ) (here : Path) (d : Data) (f : Feed) → Within (suc (suc (suc n))) d → merge_feed here d ≡ Ok f → IsKept is_feed feed_json (suc (suc (suc n))) f
merge-kept n here d f w e =
    let p = given-ok (required (array_form link_form 1 16) (codes "merge") here d) (λ ls. Ok (merge ls)) f (after (fields_form (codes "merge" ∷ []) here d) _ f e) in
    let k = required-keeps (array_form link_form 1 16) (are_listed is_link 1 16) (array_json link_json) (suc (suc n)) (array-keeps link_form is_link link_json (suc n) (link-keeps n) 1 16) (codes "merge") here d p.0 w p.1.0 in
    subst (IsKept is_feed feed_json (suc (suc (suc n)))) (ok p.1.1) (record { passes = k.passes; tidy = (refl, (k.tidy, tt)); shallow = omega (arith, k.shallow) })

constant-kept : (n : ℕ) (here : Path) (d : Data) (f : Feed) → Within (suc n) d → constant_feed here d ≡ Ok f → IsKept is_feed feed_json (suc n) f
constant-kept n here d f w e =
    let p = given-ok (required value_form (codes "constant") here d) (λ v. Ok (constant v)) f (after (fields_form (codes "constant" ∷ []) here d) _ f e) in
    let k = required-keeps value_form is_value json n (value-keeps n) (codes "constant") here d p.0 w p.1.0 in
    subst (IsKept is_feed feed_json (suc n)) (ok p.1.1) (record { passes = k.passes; tidy = (refl, (k.tidy, tt)); shallow = omega (arith, k.shallow) })

feed-keeps : (n : ℕ) → Keeps feed_form is_feed feed_json (suc (suc (suc n)))
feed-keeps n here d f w e =
    let linked = link_feed-kept (suc (suc n)) here d f w in
    either (form.is_link d) _ _ f linked
    (either (has (codes "merge") d) _ _ f (merge-kept n here d f w)
    (either (has (codes "constant") d) _ _ f (constant-kept (suc (suc n)) here d f w) linked)) e

depth-keeps : (n : ℕ) → Keeps depth_form is_depth number_json n
depth-keeps n = number-keeps 0 32 (omega arith) n

step_input-keeps : (n : ℕ) → Keeps step_input_form is_step_input step_input_json (suc (suc (suc (suc n))))
step_input-keeps n here d i w e =
    let m = suc (suc (suc n)) in
    let p = given-ok (required depth_form (codes "depth") here d) (λ depth. and_then (required feed_form (codes "from") here d) (λ from. Ok (record { depth = depth; from = from }))) i (after (fields_form (codes "depth" ∷ codes "from" ∷ []) here d) _ i e) in
    let q = given-ok (required feed_form (codes "from") here d) (λ from. Ok (record { depth = p.0; from = from })) i p.1.1 in
    let j = required-keeps depth_form is_depth number_json m (depth-keeps m) (codes "depth") here d p.0 w p.1.0 in
    let k = required-keeps feed_form is_feed feed_json m (feed-keeps n) (codes "from") here d q.0 w q.1.0 in
    subst (IsKept is_step_input step_input_json (suc m)) (ok q.1.1) (record { passes = and_from _ _ j.passes k.passes; tidy = (refl, (j.tidy, (k.tidy, tt))); shallow = omega (arith, k.shallow) })

-- ---- activities, names and loops

service-kept : (n : ℕ) (here : Path) (d : Data) (a : Activity) → Within (suc n) d → service_activity here d ≡ Ok a → IsKept is_activity activity_json (suc n) a
service-kept n here d a w e =
    let p = given-ok (required name_form (codes "service") here d) (λ x. Ok (service x)) a (after (fields_form (codes "service" ∷ []) here d) _ a e) in
    let k = required-keeps name_form is_name string n (name-keeps n) (codes "service") here d p.0 w p.1.0 in
    subst (IsKept is_activity activity_json (suc n)) (ok p.1.1) (record { passes = k.passes; tidy = (refl, (tt, tt)); shallow = omega arith })

nested-kept : (n : ℕ) (here : Path) (d : Data) (a : Activity) → Within (suc n) d → nested_activity here d ≡ Ok a → IsKept is_activity activity_json (suc n) a
nested-kept n here d a w e =
    let p = given-ok (required name_form (codes "flow") here d) (λ x. Ok (nested x)) a (after (fields_form (codes "flow" ∷ []) here d) _ a e) in
    let k = required-keeps name_form is_name string n (name-keeps n) (codes "flow") here d p.0 w p.1.0 in
    subst (IsKept is_activity activity_json (suc n)) (ok p.1.1) (record { passes = k.passes; tidy = (refl, (tt, tt)); shallow = omega arith })

activity-keeps : (n : ℕ) → Keeps activity_form is_activity activity_json (suc n)
activity-keeps n here d a w e =
    either (has (codes "service") d) _ _ a (service-kept n here d a w)
    (either (has (codes "flow") d) _ _ a (nested-kept n here d a w) (service-kept n here d a w)) e

names-tidy : (ns : List Name) → AreTidy IsShort (items_of (map string ns))
names-tidy [] = tt
names-tidy (n ∷ ns) = (tt, names-tidy ns)

names-flat : (ns : List Name) → items_depth (items_of (map string ns)) ≡ 0
names-flat [] = refl
names-flat (n ∷ ns) = omega (arith, names-flat ns)

names-written : (n : ℕ) (ns : List Name) → are_names ns ≡ true → IsKept are_names (array_json string) (suc n) ns
names-written n ns h = record { passes = h; tidy = names-tidy ns; shallow = omega (arith, names-flat ns) }

names-keeps : (n : ℕ) → Keeps names_form are_names (array_json string) (suc n)
names-keeps n here d ns w e =
    let p = given-ok (array_form name_form 0 16 here d) (λ ns. Ok (in_order name_cmp ns)) ns e in
    let k = array-keeps name_form is_name string n (name-keeps n) 0 16 here d p.0 w p.1.0 in
    subst (IsKept are_names (array_json string) (suc n)) (ok p.1.1) (names-written n (in_order name_cmp p.0) (names-kept p.0 k.passes))

loop-keeps : (n : ℕ) → Keeps loop_form is_repeat loop_json (suc n)
loop-keeps n here d r w e =
    let service_of = required name_form (codes "service") here d in
    let until_of = required text_form (codes "until") here d in
    let most_of = required (number_form 1 100) (codes "most") here d in
    let p = given-ok service_of (λ service. and_then until_of (λ until. and_then most_of (λ most. Ok (record { service = service; until = until; most = most })))) r (after (fields_form (codes "service" ∷ codes "until" ∷ codes "most" ∷ []) here d) _ r e) in
    let q = given-ok until_of (λ until. and_then most_of (λ most. Ok (record { service = p.0; until = until; most = most }))) r p.1.1 in
    let s = given-ok most_of (λ most. Ok (record { service = p.0; until = q.0; most = most })) r q.1.1 in
    let j = required-keeps name_form is_name string n (name-keeps n) (codes "service") here d p.0 w p.1.0 in
    let k = required-keeps (number_form 1 100) (is_between 1 100) number_json n (number-keeps 1 100 (omega arith) n) (codes "most") here d s.0 w s.1.0 in
    subst (IsKept is_repeat loop_json (suc n)) (ok s.1.1) (record { passes = and_from _ _ j.passes k.passes; tidy = (refl, (k.tidy, (tt, (tt, tt)))); shallow = omega arith })

-- ---- members one after another

record AreWritten (n : ℕ) (ps : List (Text × Data)) : Type 0 where
  tidy : MembersAreTidy IsShort (members ps)
  shallow : members_depth (members ps) ≤ n

none-written : (n : ℕ) → AreWritten n []
none-written n = record { tidy = tt; shallow = omega arith }

more-written : (n : ℕ) (k : Text) (d : Data) (ps : List (Text × Data)) → IsTidy IsShort d → depth d ≤ n → AreWritten n ps → AreWritten n ((k, d) ∷ ps)
more-written n k d ps t h r = record { tidy = (t, r.tidy); shallow = omega (arith, r.shallow) }

all-written : (n : ℕ) (ps qs : List (Text × Data)) → AreWritten n ps → AreWritten n qs → AreWritten n (ps ++ qs)
all-written n [] qs p q = q
all-written n (x ∷ ps) qs p q = more-written n x.0 x.1 (ps ++ qs) p.tidy.0 (omega (arith, p.shallow)) (all-written n ps qs (record { tidy = p.tidy.1; shallow = omega (arith, p.shallow) }) q)

-- ---- steps

module _ (n : ℕ) where
  -- a step passes, and its members are tidy and at most so deep
  abbrev IsKeptGiven : Option Strategy → Type 0
  IsKeptGiven o = (is_given_tree o ≡ true) × AreWritten n (strategy_member o)

  abbrev IsKeptLoop : Option Repeat → Type 0
  IsKeptLoop o = (is_given_loop o ≡ true) × AreWritten n (loop_member o)

given-tree-kept : (format n : ℕ) (here : Path) (d : Data) (o : Option Strategy) → Within (suc n) d → optional None (given_tree format) (codes "strategy") here d ≡ Ok o → IsKeptGiven n o
given-tree-kept format n here d o w = by (get (codes "strategy") d) refl
  where
    by : (f : Option Data) → get (codes "strategy") d ≡ f → form.or_else None (given_tree format (key here (codes "strategy"))) f ≡ Ok o → IsKeptGiven n o
    by None g e = subst (IsKeptGiven n) (ok e) (refl, none-written n)
    by (Some f) g e =
        let p = given-ok (tree_form format (key here (codes "strategy")) f) (λ t. Ok (Some t)) o e in
        let k = tree-keeps format n (key here (codes "strategy")) f p.0 (get-within (codes "strategy") d f n w g) p.1.0 in
        subst (IsKeptGiven n) (ok p.1.1) (k.passes, more-written n (codes "strategy") (tree_json p.0) [] k.tidy k.shallow (none-written n))

repeat-kept : (format n : ℕ) (here : Path) (d : Data) (o : Option Repeat) → Within (suc (suc n)) d → repeat_form format here d ≡ Ok o → IsKeptLoop (suc n) o
repeat-kept format n here d o w = either (is_second format) (optional None given_loop (codes "loop") here d) (Ok None) o (by (get (codes "loop") d) refl) (λ e. subst (IsKeptLoop (suc n)) (ok e) (refl, none-written (suc n)))
  where
    by : (f : Option Data) → get (codes "loop") d ≡ f → form.or_else None (given_loop (key here (codes "loop"))) f ≡ Ok o → IsKeptLoop (suc n) o
    by None g e = subst (IsKeptLoop (suc n)) (ok e) (refl, none-written (suc n))
    by (Some f) g e =
        let p = given-ok (loop_form (key here (codes "loop")) f) (λ r. Ok (Some r)) o e in
        let k = loop-keeps n (key here (codes "loop")) f p.0 (get-within (codes "loop") d f (suc n) w g) p.1.0 in
        subst (IsKeptLoop (suc n)) (ok p.1.1) (k.passes, more-written (suc n) (codes "loop") (loop_json p.0) [] k.tidy k.shallow (none-written (suc n)))

-- the fields of a step, each from what it is read as
abbrev chained : Result (List (Name × StepInput)) Complaint → Result (List (Name × ℕ)) Complaint → Result (Option Strategy) Complaint → Result (List Activity) Complaint → Result ℕ Complaint → Result ℕ Complaint → Result (List Name) Complaint → Result (Option Repeat) Complaint → Result Step Complaint
chained is os ts as' rs js ns ls =
    and_then is (λ inputs. and_then os (λ outputs. and_then ts (λ strategy. and_then as' (λ activities. and_then rs (λ retries. and_then js (λ jobs. and_then ns (λ after. and_then ls (λ repeat.
    Ok (record { inputs = inputs; outputs = outputs; strategy = strategy; activities = activities; retries = retries; jobs = jobs; after = after; repeat = repeat })))))))))

record AreFields (is : Result (List (Name × StepInput)) Complaint) (os : Result (List (Name × ℕ)) Complaint) (ts : Result (Option Strategy) Complaint) (as' : Result (List Activity) Complaint) (rs js : Result ℕ Complaint) (ns : Result (List Name) Complaint) (ls : Result (Option Repeat) Complaint) (s : Step) : Type 0 where
  inputs : is ≡ Ok s.inputs
  outputs : os ≡ Ok s.outputs
  strategy : ts ≡ Ok s.strategy
  activities : as' ≡ Ok s.activities
  retries : rs ≡ Ok s.retries
  jobs : js ≡ Ok s.jobs
  after : ns ≡ Ok s.after
  repeat : ls ≡ Ok s.repeat

fields-of : (is : Result (List (Name × StepInput)) Complaint) (os : Result (List (Name × ℕ)) Complaint) (ts : Result (Option Strategy) Complaint) (as' : Result (List Activity) Complaint) (rs js : Result ℕ Complaint) (ns : Result (List Name) Complaint) (ls : Result (Option Repeat) Complaint) (s : Step)
    → chained is os ts as' rs js ns ls ≡ Ok s → AreFields is os ts as' rs js ns ls s
fields-of (Err c) os ts as' rs js ns ls s e = never c s e
fields-of (Ok a) (Err c) ts as' rs js ns ls s e = never c s e
fields-of (Ok a) (Ok b) (Err c) as' rs js ns ls s e = never c s e
fields-of (Ok a) (Ok b) (Ok t) (Err c) rs js ns ls s e = never c s e
fields-of (Ok a) (Ok b) (Ok t) (Ok x) (Err c) js ns ls s e = never c s e
fields-of (Ok a) (Ok b) (Ok t) (Ok x) (Ok r) (Err c) ns ls s e = never c s e
fields-of (Ok a) (Ok b) (Ok t) (Ok x) (Ok r) (Ok j) (Err c) ls s e = never c s e
fields-of (Ok a) (Ok b) (Ok t) (Ok x) (Ok r) (Ok j) (Ok n) (Err c) s e = never c s e
fields-of (Ok a) (Ok b) (Ok t) (Ok x) (Ok r) (Ok j) (Ok n) (Ok l) s e =
    subst (AreFields (Ok a) (Ok b) (Ok t) (Ok x) (Ok r) (Ok j) (Ok n) (Ok l)) (ok e)
    (record { inputs = refl; outputs = refl; strategy = refl; activities = refl; retries = refl; jobs = refl; after = refl; repeat = refl })

-- the keys of a step's members are in order, whether or not it has a loop and a strategy
keys-ascend : (s : Step) (o : Option Strategy) (l : Option Repeat) → is_ascending (member_keys (members (early_members s ++ (loop_member l ++ late_members (record s { strategy = o }))))) ≡ true
keys-ascend s None None = refl
keys-ascend s None (Some r) = refl
keys-ascend s (Some t) None = refl
keys-ascend s (Some t) (Some r) = refl

step-keeps : (format n : ℕ) → Keeps (step_form format) is_step step_json (suc (suc (suc (suc (suc (suc n))))))
step-keeps format n here d s w e =
    let m = suc (suc (suc (suc (suc n)))) in
    let f = fields-of (optional [] (named_form step_input_form 0 16) (codes "inputs") here d) (optional [] (named_form depth_form 0 16) (codes "outputs") here d) (optional None (given_tree format) (codes "strategy") here d) (required (array_form activity_form 1 8) (codes "activities") here d) (optional 0 (number_form 0 100) (codes "retries") here d) (optional 1 (number_form 1 64) (codes "jobs") here d) (optional [] names_form (codes "after") here d) (repeat_form format here d) s
    (after (fields_form (step_fields format) here d) _ s e) in
    let is = optional-keeps (named_form step_input_form 0 16) (are_named is_step_input 0 16) (named_json step_input_json) m (named-keeps step_input_form is_step_input step_input_json (suc (suc (suc (suc n)))) (step_input-keeps n) 0 16) [] (record { passes = refl; tidy = (refl, tt); shallow = omega arith }) (codes "inputs") here d s.inputs w f.inputs in
    let os = optional-keeps (named_form depth_form 0 16) (are_named is_depth 0 16) (named_json number_json) m (named-keeps depth_form is_depth number_json (suc (suc (suc (suc n)))) (depth-keeps (suc (suc (suc (suc n))))) 0 16) [] (record { passes = refl; tidy = (refl, tt); shallow = omega arith }) (codes "outputs") here d s.outputs w f.outputs in
    let ts = given-tree-kept format m here d s.strategy w f.strategy in
    let as' = required-keeps (array_form activity_form 1 8) (are_listed is_activity 1 8) (array_json activity_json) m (array-keeps activity_form is_activity activity_json (suc (suc (suc (suc n)))) (activity-keeps (suc (suc (suc n)))) 1 8) (codes "activities") here d s.activities w f.activities in
    let rs = optional-keeps (number_form 0 100) (is_between 0 100) number_json m (number-keeps 0 100 (omega arith) m) 0 (record { passes = refl; tidy = omega arith; shallow = omega arith }) (codes "retries") here d s.retries w f.retries in
    let js = optional-keeps (number_form 1 64) (is_between 1 64) number_json m (number-keeps 1 64 (omega arith) m) 1 (record { passes = refl; tidy = omega arith; shallow = omega arith }) (codes "jobs") here d s.jobs w f.jobs in
    let ns = optional-keeps names_form are_names (array_json string) m (names-keeps (suc (suc (suc (suc n))))) [] (record { passes = refl; tidy = tt; shallow = omega arith }) (codes "after") here d s.after w f.after in
    let ls = repeat-kept format (suc (suc (suc (suc n)))) here d s.repeat w f.repeat in
    let early = more-written m (codes "activities") (array_json activity_json s.activities) _ as'.tidy as'.shallow
    (more-written m (codes "after") (array_json string s.after) _ ns.tidy ns.shallow
    (more-written m (codes "inputs") (named_json step_input_json s.inputs) _ is.tidy is.shallow
    (more-written m (codes "jobs") (number_json s.jobs) [] js.tidy js.shallow (none-written m)))) in
    let late = more-written m (codes "outputs") (named_json number_json s.outputs) _ os.tidy os.shallow
    (more-written m (codes "retries") (number_json s.retries) (strategy_member s.strategy) rs.tidy rs.shallow ts.1) in
    let all = all-written m (early_members s) (loop_member s.repeat ++ late_members s) early (all-written m (loop_member s.repeat) (late_members s) ls.1 late) in
    record {
      passes = and_from _ _ (and_from _ _ (and_from _ _ (and_from _ _ (and_from _ _ (and_from _ _ (and_from _ _ is.passes os.passes) ts.0) as'.passes) rs.passes) js.passes) ns.passes) ls.0;
      tidy = (keys-ascend s s.strategy s.repeat, all.tidy);
      shallow = omega (arith, all.shallow);
    }

-- ---- flows and documents

abbrev chained_flow : Result (List (Name × ℕ)) Complaint → Result (List (Name × Step)) Complaint → Result (List (Name × Feed)) Complaint → Result Flow Complaint
chained_flow is ss os = and_then is (λ inputs. and_then ss (λ steps. and_then os (λ outputs. Ok (record { inputs = inputs; steps = steps; outputs = outputs }))))

flow-of : (is : Result (List (Name × ℕ)) Complaint) (ss : Result (List (Name × Step)) Complaint) (os : Result (List (Name × Feed)) Complaint) (f : Flow) → chained_flow is ss os ≡ Ok f → (is ≡ Ok f.inputs) × (ss ≡ Ok f.steps) × (os ≡ Ok f.outputs)
flow-of (Err c) ss os f e = never c f e
flow-of (Ok a) (Err c) os f e = never c f e
flow-of (Ok a) (Ok b) (Err c) f e = never c f e
flow-of (Ok a) (Ok b) (Ok o) f e = (ap (λ g. Ok g.inputs) (ok e), ap (λ g. Ok g.steps) (ok e), ap (λ g. Ok g.outputs) (ok e))

flow-keeps : (format n : ℕ) → Keeps (flow_form format) is_flow flow_json (suc (suc (suc (suc (suc (suc (suc (suc n))))))))
flow-keeps format n here d f w e =
    let m = suc (suc (suc (suc (suc (suc n))))) in
    let p = flow-of (optional [] (named_form depth_form 0 16) (codes "inputs") here d) (optional [] (named_form (step_form format) 0 1000) (codes "steps") here d) (required (named_form feed_form 0 16) (codes "outputs") here d) f
    (after (fields_form (codes "inputs" ∷ codes "steps" ∷ codes "outputs" ∷ []) here d) _ f e) in
    let is = optional-keeps (named_form depth_form 0 16) (are_named is_depth 0 16) (named_json number_json) (suc m) (named-keeps depth_form is_depth number_json m (depth-keeps m) 0 16) [] (record { passes = refl; tidy = (refl, tt); shallow = omega arith }) (codes "inputs") here d f.inputs w p.0 in
    let ss = optional-keeps (named_form (step_form format) 0 1000) (are_named is_step 0 1000) (named_json step_json) (suc m) (named-keeps (step_form format) is_step step_json m (step-keeps format n) 0 1000) [] (record { passes = refl; tidy = (refl, tt); shallow = omega arith }) (codes "steps") here d f.steps w p.1 in
    let os = required-keeps (named_form feed_form 0 16) (are_named is_feed 0 16) (named_json feed_json) (suc m) (named-keeps feed_form is_feed feed_json m (feed-keeps (suc (suc (suc n)))) 0 16) (codes "outputs") here d f.outputs w p.2 in
    record {
      passes = and_from _ _ (and_from _ _ is.passes ss.passes) os.passes;
      tidy = (refl, (is.tidy, (os.tidy, (ss.tidy, tt))));
      shallow = omega (arith, is.shallow, os.shallow, ss.shallow);
    }

abbrev chained_document : Result ℕ Complaint → Result Name Complaint → (ℕ → Result (List (Name × Flow)) Complaint) → Result (List (Name × Value)) Complaint → Result Document Complaint
chained_document format main flows inputs = and_then format (λ format. and_then main (λ main. and_then (flows format) (λ flows. and_then inputs (λ inputs. Ok (record { format = format; main = main; flows = flows; inputs = inputs })))))

document-of : (format : Result ℕ Complaint) (main : Result Name Complaint) (flows : ℕ → Result (List (Name × Flow)) Complaint) (inputs : Result (List (Name × Value)) Complaint) (d : Document) → chained_document format main flows inputs ≡ Ok d
    → (main ≡ Ok d.main) × (flows d.format ≡ Ok d.flows) × (inputs ≡ Ok d.inputs)
document-of format main flows inputs d e =
    let p = given-ok format (λ format. and_then main (λ main. and_then (flows format) (λ flows. and_then inputs (λ inputs. Ok (record { format = format; main = main; flows = flows; inputs = inputs }))))) d e in
    let q = given-ok main (λ main. and_then (flows p.0) (λ flows. and_then inputs (λ inputs. Ok (record { format = p.0; main = main; flows = flows; inputs = inputs })))) d p.1.1 in
    let r = given-ok (flows p.0) (λ flows. and_then inputs (λ inputs. Ok (record { format = p.0; main = q.0; flows = flows; inputs = inputs }))) d q.1.1 in
    let s = given-ok inputs (λ inputs. Ok (record { format = p.0; main = q.0; flows = r.0; inputs = inputs })) d r.1.1 in
    let is = ok s.1.1 in
    (q.1.0 ∙ ap (λ x. Ok x.main) is, ap flows (sym (ap (λ (x : Document). x.format) is)) ∙ r.1.0 ∙ ap (λ x. Ok x.flows) is, s.1.0 ∙ ap (λ x. Ok x.inputs) is)

-- a document of the second format that passes, has at most 16 inputs, and whose JSON is tidy and at most so deep
pub record IsKeptDocument (n : ℕ) (d : Document) : Type 0 where
  pub formed : is_formed d ≡ true
  pub few : length d.inputs ≤ 16
  pub tidy : IsTidy IsShort (document_json d)
  pub shallow : depth (document_json d) ≤ n

few-enough : (n : ℕ) → is_between 0 16 n ≡ true → n ≤ 16
few-enough n h = grind (arith, nat_tests)

-- what is read may nest ten deep, as a document with a merge does
pub upgraded-kept : (n : ℕ) (j : Data) (d : Document) → Within (suc (suc (suc (suc (suc (suc (suc (suc (suc (suc n)))))))))) j → form_of j ≡ Ok d → IsKeptDocument (suc (suc (suc (suc (suc (suc (suc (suc (suc (suc n)))))))))) (upgraded d)
upgraded-kept n j d w e =
    let here : Path = [] in
    let m = suc (suc (suc (suc (suc (suc (suc (suc n))))))) in
    let p = document-of (required (number_form 1 2) (codes "taverna") here j) (required name_form (codes "main") here j) (λ format. required (named_form (flow_form format) 1 256) (codes "flows") here j) (optional [] (named_form value_form 0 16) (codes "inputs") here j) d
    (after (fields_form (codes "taverna" ∷ codes "main" ∷ codes "flows" ∷ codes "inputs" ∷ []) here j) _ d e) in
    let main = required-keeps name_form is_name string (suc m) (name-keeps (suc m)) (codes "main") here j d.main w p.0 in
    let flows = required-keeps (named_form (flow_form d.format) 1 256) (are_named is_flow 1 256) (named_json flow_json) (suc m) (named-keeps (flow_form d.format) is_flow flow_json m (flow-keeps d.format n) 1 256) (codes "flows") here j d.flows w p.1 in
    let inputs = optional-keeps (named_form value_form 0 16) (are_named is_value 0 16) (named_json json) (suc m) (named-keeps value_form is_value json m (value-keeps m) 0 16) [] (record { passes = refl; tidy = (refl, tt); shallow = omega arith }) (codes "inputs") here j d.inputs w p.2 in
    let between = is_between 0 16 (length d.inputs) in
    record {
      formed = and_from _ _ (and_from _ _ (and_from _ _ (second-flows d.flows) main.passes) flows.passes) (second_so between (are_entries is_value d.inputs) inputs.passes);
      few = few-enough (length d.inputs) (first_so between (are_entries is_value d.inputs) inputs.passes);
      tidy = (refl, (flows.tidy, (inputs.tidy, (tt, (omega arith, tt)))));
      shallow = omega (arith, flows.shallow, inputs.shallow);
    }
