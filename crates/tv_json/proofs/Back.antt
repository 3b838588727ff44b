-- A document's JSON reads back as the document.
use Rattle.std.specs.Prelude.{◌≡◌, ℕ, suc, ◌≤◌, List, [], ◌∷◌, ◌++◌, length, map, Bool, true, false, ◌&&◌, not, nat_le, nat_lt, if◌then◌else◌, codes, is_some, Option, Some, None, Result, Ok, Err, refl}
use Rattle.std.specs.List.{list_all}
use Rattle.std.specs.Ordering.{is_lt, match_ordering}
use Rattle.std.proofs.Common.{ap, ◌∙◌, arith}
use Rattle.std.proofs.lemmas.Bool.Decides.{nat_tests}
use Rattle.std.specs.Cmp.{first_so, second_so}
use Rattle.std.proofs.lemmas.Bool.{cond-true, cond-false}
use Rattle.tv_lemmas.proofs.Orderings.{is_lt-less}
use Rattle.serde_json.specs.Data.{Data, string, object, array, item, no_items, Members, no_members, member}
use Rattle.serde_json.specs.Find.{get}
use Rattle.serde_json.specs.View.{items_of}
use Rattle.tv_value.specs.Nested.{Trees, no_trees, tree, leaf, list, count}
use Rattle.tv_value.specs.Values.{Name, Value, Scalar, text, fault, is_fault, list_value}
use Rattle.tv_value.specs.DepthSets.{least_depth}
use Rattle.tv_value.specs.Readings.{read, read_items, read_list, first_read, item_count, length_limit, ragged}
use Rattle.tv_value.specs.Orders.{name_cmp, put_in_order, in_order}
use Rattle.tv_value.specs.Printed.{json, all_json, scalar_json, members}
use Rattle.tv_value.specs.Strategies.{Strategy, port, cross, dot, prefix, Strategies, no_strategies, strategy}
use Rattle.tv_value.specs.Activities.{Activity, Repeat, service, nested}
use Rattle.tv_flow.specs.declared.faults.FormKind.TheVariants.{OutOfRange, BadName}
use Rattle.tv_flow.specs.Complaints.{Path, Complaint, complaint, key, index, and_then}
use Rattle.tv_flow.specs.Flows.{Link, input, output, Feed, link, merge, constant, StepInput, Step, Flow, Document, upgraded}
use Rattle.tv_flow.specs.Forms.{is_name, name_or_not, name_form, number_form, depth_form, counted, member_count, entries_form, named_form, items_form, array_form, value_form, of_reading, link_form, feed_form, tree_form, trees_form, each_tree, activity_form, step_input_form, names_form, step_form, flow_form, form_of, is_second, fields_form, first_fields, step_fields, unknown_key, none_unknown, required, optional, or_else, node_form, prefix_form, given_tree, loop_form, given_loop, repeat_form}
use Rattle.tv_flow.specs.Formed.{is_ascending, is_between, is_depth, are_entries, are_named, are_listed, is_value, are_values, is_link, is_feed, strategy_count, is_tree, are_trees, is_activity, is_step_input, are_names, is_step, is_flow, is_formed, is_given_tree, is_repeat, is_given_loop, tree_fits, trees_fit, given_tree_fits, loop_fits, step_fits, flow_fits, are_of_format}
use Rattle.tv_flow.proofs.Sorting.{above}
use Rattle.tv_json.proofs.InOrder.{pairs, put_each-members, under-none}
use Rattle.tv_json.specs.Documents.{number_json, array_json, named_json, link_json, feed_json, step_input_json, activity_json, tree_json, all_trees, loop_json, loop_member, early_members, late_members, step_json, flow_json, document_json}

-- ---- numbers and names

name-back : (here : Path) (n : Name) → is_name n ≡ true → name_or_not here n ≡ Ok n
name-back here n h = cond-true (is_name n) (Ok n) (complaint BadName here) h

number-back : (low high : ℕ) (here : Path) (n : ℕ) → is_between low high n ≡ true → number_form low high here (number_json n) ≡ Ok n
number-back low high here n h = cond-true (is_between low high n) (Ok n) (complaint OutOfRange here) h

below : (least n : ℕ) → nat_le least n ≡ true → nat_lt n least ≡ false
below least n h = grind (arith, nat_tests)

counted-back : (least most : ℕ) (here : Path) (n : ℕ) → is_between least most n ≡ true → counted least most here n ≡ Ok tt
counted-back least most here n h =
    cond-false (nat_lt n least) _ _ (below least n (first_so (nat_le least n) (nat_le n most) h))
    ∙ cond-false (nat_lt most n) _ _ (below n most (second_so (nat_le least n) (nat_le n most) h))

-- ---- arrays and named objects

module _ {A : Type 0} (form : Path → Data → Result A Complaint) (test : A → Bool) (f : A → Data) (back : (here : Path) (a : A) → test a ≡ true → form here (f a) ≡ Ok a) where
  items-back : (here : Path) (i : ℕ) (xs : List A) → list_all test xs ≡ true → items_form form here i (items_of (map f xs)) ≡ Ok xs
  items-back here i [] h = refl
  items-back here i (x ∷ xs) h =
      ap (λ r. and_then r (λ a. and_then (items_form form here (suc i) (items_of (map f xs))) (λ as'. Ok (a ∷ as')))) (back (index here i) x (first_so (test x) (list_all test xs) h))
      ∙ ap (λ r. and_then r (λ as'. Ok (x ∷ as'))) (items-back here (suc i) xs (second_so (test x) (list_all test xs) h))

  count-items : (xs : List A) → item_count (items_of (map f xs)) ≡ length xs
  count-items [] = refl
  count-items (x ∷ xs) = ap suc (count-items xs)

  array-back : (least most : ℕ) (here : Path) (xs : List A) → are_listed test least most xs ≡ true → array_form form least most here (array_json f xs) ≡ Ok xs
  array-back least most here xs h =
      ap (λ r. and_then r (λ u. items_form form here 0 (items_of (map f xs))))
      (ap (counted least most here) (count-items xs) ∙ counted-back least most here (length xs) (first_so (is_between least most (length xs)) (list_all test xs) h))
      ∙ items-back here 0 xs (second_so (is_between least most (length xs)) (list_all test xs) h)

  count-pairs : (es : List (Name × A)) → member_count (members (pairs f es)) ≡ length es
  count-pairs [] = refl
  count-pairs (e ∷ es) = ap suc (count-pairs es)

  entries-back : (here : Path) (es : List (Name × A)) → list_all (λ e. is_name e.0 && test e.1) es ≡ true → entries_form form here (members (pairs f es)) ≡ Ok es
  entries-back here [] h = refl
  entries-back here (e ∷ es) h =
      let both = first_so (is_name e.0 && test e.1) (list_all (λ y. is_name y.0 && test y.1) es) h in
      let rest = entries-back here es (second_so (is_name e.0 && test e.1) (list_all (λ y. is_name y.0 && test y.1) es) h) in
      ap (λ r. and_then r (λ n. and_then (form (key here e.0) (f e.1)) (λ a. and_then (entries_form form here (members (pairs f es))) (λ as'. Ok ((n, a) ∷ as'))))) (name-back (key here e.0) e.0 (first_so (is_name e.0) (test e.1) both))
      ∙ ap (λ r. and_then r (λ a. and_then (entries_form form here (members (pairs f es))) (λ as'. Ok ((e.0, a) ∷ as')))) (back (key here e.0) e.1 (second_so (is_name e.0) (test e.1) both))
      ∙ ap (λ r. and_then r (λ as'. Ok ((e.0, e.1) ∷ as'))) rest

  named-back : (least most : ℕ) (here : Path) (es : List (Name × A)) → are_named test least most es ≡ true → named_form form least most here (named_json f es) ≡ Ok es
  named-back least most here es h =
      let names = is_ascending (map (λ (e : Name × A). e.0) es) in
      let all = list_all (λ e. is_name e.0 && test e.1) es in
      let entries = second_so (is_between least most (length es)) (names && all) h in
      ap (λ ms. and_then (counted least most here (member_count ms)) (λ u. entries_form form here ms)) (put_each-members f [] es (under-none es) (first_so names all entries))
      ∙ ap (λ r. and_then r (λ u. entries_form form here (members (pairs f es)))) (ap (counted least most here) (count-pairs es) ∙ counted-back least most here (length es) (first_so (is_between least most (length es)) (names && all) h))
      ∙ entries-back here es (second_so names all entries)

-- ---- values

scalar-back : (a : Scalar) → not (is_fault a) ≡ true → read (scalar_json a) ≡ Ok (leaf tt a)
scalar-back (text t) h = refl
scalar-back (fault e) h = absurd (cc)

count-json : (vs : Trees (Unit {0}) Scalar) → item_count (all_json vs) ≡ count vs
count-json no_trees = refl
count-json (tree v vs) = ap suc (count-json vs)

list-back : (vs : Trees (Unit {0}) Scalar) → (nat_lt (count vs) length_limit && is_some (least_depth (list_value vs)) && are_values vs) ≡ true → read_items 0 (all_json vs) ≡ Ok vs → read (array (all_json vs)) ≡ Ok (list_value vs)
list-back vs h e =
    let short = nat_lt (count vs) length_limit in
    let deep = is_some (least_depth (list_value vs)) in
    let both = first_so (short && deep) (are_values vs) h in
    cond-true (nat_lt (item_count (all_json vs)) length_limit) (read_list (read_items 0 (all_json vs))) (Err (ragged [])) (ap (λ n. nat_lt n length_limit) (count-json vs) ∙ first_so short deep both)
    ∙ ap read_list e
    ∙ cond-true deep (Ok (list_value vs)) (Err (ragged [])) (second_so short deep both)

mutual
  value-back : (v : Value) → is_value v ≡ true → read (json v) ≡ Ok v
  value-back (leaf n a) h = scalar-back a h
  value-back (list n vs) h = list-back vs h (values-back 0 vs (second_so (nat_lt (count vs) length_limit && is_some (least_depth (list_value vs))) (are_values vs) h))

  values-back : (i : ℕ) (vs : Trees (Unit {0}) Scalar) → are_values vs ≡ true → read_items i (all_json vs) ≡ Ok vs
  values-back i no_trees h = refl
  values-back i (tree v vs) h =
      ap (λ r. first_read i r (read_items (suc i) (all_json vs))) (value-back v (first_so (is_value v) (are_values vs) h))
      ∙ ap (first_read i (Ok v)) (values-back (suc i) vs (second_so (is_value v) (are_values vs) h))

value_form-back : (here : Path) (v : Value) → is_value v ≡ true → value_form here (json v) ≡ Ok v
value_form-back here v h = ap (of_reading here) (value-back v h)

-- ---- feeds

link-back : (here : Path) (l : Link) → is_link l ≡ true → link_form here (link_json l) ≡ Ok l
link-back here (input n) h = ap (λ r. and_then r (λ m. Ok (input m))) (name-back (key here (codes "input")) n h)
link-back here (output s p) h =
    ap (λ r. and_then r (λ t. and_then (name_or_not (key here (codes "port")) p) (λ q. Ok (output t q)))) (name-back (key here (codes "step")) s (first_so (is_name s) (is_name p) h))
    ∙ ap (λ r. and_then r (λ q. Ok (output s q))) (name-back (key here (codes "port")) p (second_so (is_name s) (is_name p) h))

feed-back : (here : Path) (a : Feed) → is_feed a ≡ true → feed_form here (feed_json a) ≡ Ok a
feed-back here (link (input n)) h = ap (λ r. and_then r (λ l. Ok (link l))) (link-back here (input n) h)
feed-back here (link (output s p)) h = ap (λ r. and_then r (λ l. Ok (link l))) (link-back here (output s p) h)
feed-back here (merge ls) h = ap (λ r. and_then r (λ ms. Ok (merge ms))) (array-back link_form is_link link_json link-back 1 16 (key here (codes "merge")) ls h)
feed-back here (constant v) h = ap (λ r. and_then r (λ w. Ok (constant w))) (value_form-back (key here (codes "constant")) v h)

step_input-back : (here : Path) (i : StepInput) → is_step_input i ≡ true → step_input_form here (step_input_json i) ≡ Ok i
step_input-back here i h =
    ap (λ r. and_then r (λ depth. and_then (feed_form (key here (codes "from")) (feed_json i.from)) (λ from. Ok (record { depth = depth; from = from })))) (number-back 0 32 (key here (codes "depth")) i.depth (first_so (is_depth i.depth) (is_feed i.from) h))
    ∙ ap (λ r. and_then r (λ from. Ok (record { depth = i.depth; from = from }))) (feed-back (key here (codes "from")) i.from (second_so (is_depth i.depth) (is_feed i.from) h))

activity-back : (here : Path) (a : Activity) → is_activity a ≡ true → activity_form here (activity_json a) ≡ Ok a
activity-back here (service n) h = ap (λ r. and_then r (λ m. Ok (service m))) (name-back (key here (codes "service")) n h)
activity-back here (nested n) h = ap (λ r. and_then r (λ m. Ok (nested m))) (name-back (key here (codes "flow")) n h)

-- ---- strategies

count-trees : (ts : Strategies) → item_count (all_trees ts) ≡ strategy_count ts
count-trees no_strategies = refl
count-trees (strategy t ts) = ap suc (count-trees ts)

children-back : (format : ℕ) (there : Path) (ts : Strategies) → (is_between 1 16 (strategy_count ts) && are_trees ts) ≡ true → each_tree format there 0 (all_trees ts) ≡ Ok ts → trees_form format there (array (all_trees ts)) ≡ Ok ts
children-back format there ts h e =
    ap (λ r. and_then r (λ u. each_tree format there 0 (all_trees ts))) (ap (counted 1 16 there) (count-trees ts) ∙ counted-back 1 16 there (strategy_count ts) (first_so (is_between 1 16 (strategy_count ts)) (are_trees ts) h))
    ∙ e

mutual
  tree-back : (format : ℕ) (here : Path) (t : Strategy) → is_tree t ≡ true → tree_fits format t ≡ true → tree_form format here (tree_json t) ≡ Ok t
  tree-back format here (port n) h f = ap (λ r. and_then r (λ m. Ok (port m))) (name-back here n h)
  tree-back format here (cross ts) h f = ap (λ r. and_then r (λ us. Ok (cross us))) (children-back format (key here (codes "cross")) ts h (trees-back format (key here (codes "cross")) 0 ts (second_so (is_between 1 16 (strategy_count ts)) (are_trees ts) h) f))
  tree-back format here (dot ts) h f = ap (λ r. and_then r (λ us. Ok (dot us))) (children-back format (key here (codes "dot")) ts h (trees-back format (key here (codes "dot")) 0 ts (second_so (is_between 1 16 (strategy_count ts)) (are_trees ts) h) f))
  tree-back format here (prefix l r) h f =
      let there = key here (codes "prefix") in
      let both = first_so (is_second format && tree_fits format l) (tree_fits format r) f in
      let ds = item (tree_json l) (item (tree_json r) no_items) in
      ap (λ b. node_form here (member (codes "prefix") (array ds) no_members) None None (if b then Some (prefix_form format there (array ds)) else None)) (first_so (is_second format) (tree_fits format l) both)
      ∙ ap (λ a. and_then a (λ left. and_then (tree_form format (index there 1) (tree_json r)) (λ right. Ok (prefix left right)))) (tree-back format (index there 0) l (first_so (is_tree l) (is_tree r) h) (second_so (is_second format) (tree_fits format l) both))
      ∙ ap (λ b. and_then b (λ right. Ok (prefix l right))) (tree-back format (index there 1) r (second_so (is_tree l) (is_tree r) h) (second_so (is_second format && tree_fits format l) (tree_fits format r) f))

  trees-back : (format : ℕ) (there : Path) (i : ℕ) (ts : Strategies) → are_trees ts ≡ true → trees_fit format ts ≡ true → each_tree format there i (all_trees ts) ≡ Ok ts
  trees-back format there i no_strategies h f = refl
  trees-back format there i (strategy t ts) h f =
      ap (λ r. and_then r (λ u. and_then (each_tree format there (suc i) (all_trees ts)) (λ us. Ok (strategy u us)))) (tree-back format (index there i) t (first_so (is_tree t) (are_trees ts) h) (first_so (tree_fits format t) (trees_fit format ts) f))
      ∙ ap (λ r. and_then r (λ us. Ok (strategy t us))) (trees-back format there (suc i) ts (second_so (is_tree t) (are_trees ts) h) (second_so (tree_fits format t) (trees_fit format ts) f))

-- ---- names in order

sorted : (ns : List Name) → is_ascending ns ≡ true → in_order name_cmp ns ≡ ns
sorted [] h = refl
sorted (n ∷ ns) h = ap (put_in_order name_cmp n) (sorted ns (second_so (above n ns) (is_ascending ns) h)) ∙ first n ns (first_so (above n ns) (is_ascending ns) h)
  where
    first : (n : Name) (ns : List Name) → above n ns ≡ true → put_in_order name_cmp n ns ≡ n ∷ ns
    first n [] a = refl
    first n (m ∷ ms) a = ap (λ o. match_ordering o (n ∷ m ∷ ms) (m ∷ ms) (m ∷ put_in_order name_cmp n ms)) (is_lt-less (name_cmp n m) (first_so (is_lt (name_cmp n m)) (above n ms) a))

at-most : (n : ℕ) → nat_le n 16 ≡ true → is_between 0 16 n ≡ true
at-most n h = grind (arith, nat_tests)

names-back : (here : Path) (ns : List Name) → are_names ns ≡ true → names_form here (array_json string ns) ≡ Ok ns
names-back here ns h =
    let few = nat_le (length ns) 16 in
    let all = list_all is_name ns in
    let first = first_so (few && is_ascending ns) all h in
    ap (λ r. and_then r (λ ms. Ok (in_order name_cmp ms)))
    (array-back name_form is_name string (λ p n e. name-back p n e) 0 16 here ns (ap (λ b. b && all) (at-most (length ns) (first_so few (is_ascending ns) first)) ∙ second_so (few && is_ascending ns) all h))
    ∙ ap Ok (sorted ns (second_so few (is_ascending ns) first))

-- ---- steps

loop-back : (here : Path) (r : Repeat) → is_repeat r ≡ true → loop_form here (loop_json r) ≡ Ok r
loop-back here r h =
    ap (λ o. and_then o (λ service. and_then (number_form 1 100 (key here (codes "most")) (number_json r.most)) (λ most. Ok (record { service = service; until = r.until; most = most })))) (name-back (key here (codes "service")) r.service (first_so (is_name r.service) (is_between 1 100 r.most) h))
    ∙ ap (λ o. and_then o (λ most. Ok (record { service = r.service; until = r.until; most = most }))) (number-back 1 100 (key here (codes "most")) r.most (second_so (is_name r.service) (is_between 1 100 r.most) h))

-- a step from what its fields are read as
abbrev pub chained : Result (List (Name × StepInput)) Complaint → Result (List (Name × ℕ)) Complaint → Result (Option Strategy) Complaint → Result (List Activity) Complaint → Result ℕ Complaint → Result ℕ Complaint → Result (List Name) Complaint → Result (Option Repeat) Complaint → Result Step Complaint
chained is os ts as' rs js ns ls =
    and_then is (λ inputs. and_then os (λ outputs. and_then ts (λ strategy. and_then as' (λ activities. and_then rs (λ retries. and_then js (λ jobs. and_then ns (λ after. and_then ls (λ repeat.
    Ok (record { inputs = inputs; outputs = outputs; strategy = strategy; activities = activities; retries = retries; jobs = jobs; after = after; repeat = repeat })))))))))

module _ (format : ℕ) (here : Path) (s : Step) where
  -- a tree with the fields of a step, each read as the step's
  pub record ReadsAs (d : Data) : Type 0 where
    pub fields : fields_form (step_fields format) here d ≡ Ok tt
    pub inputs : optional [] (named_form step_input_form 0 16) (codes "inputs") here d ≡ Ok s.inputs
    pub outputs : optional [] (named_form depth_form 0 16) (codes "outputs") here d ≡ Ok s.outputs
    pub strategy : optional None (given_tree format) (codes "strategy") here d ≡ Ok s.strategy
    pub activities : required (array_form activity_form 1 8) (codes "activities") here d ≡ Ok s.activities
    pub retries : optional 0 (number_form 0 100) (codes "retries") here d ≡ Ok s.retries
    pub jobs : optional 1 (number_form 1 64) (codes "jobs") here d ≡ Ok s.jobs
    pub after : optional [] names_form (codes "after") here d ≡ Ok s.after
    pub repeat : repeat_form format here d ≡ Ok s.repeat

  step-read : (d : Data) → ReadsAs d → step_form format here d ≡ Ok s
  step-read d r =
      let is = optional [] (named_form step_input_form 0 16) (codes "inputs") here d in
      let os = optional [] (named_form depth_form 0 16) (codes "outputs") here d in
      let ts = optional None (given_tree format) (codes "strategy") here d in
      let as' = required (array_form activity_form 1 8) (codes "activities") here d in
      let rs = optional 0 (number_form 0 100) (codes "retries") here d in
      let js = optional 1 (number_form 1 64) (codes "jobs") here d in
      let ns = optional [] names_form (codes "after") here d in
      let ls = repeat_form format here d in
      ap (λ f. and_then f (λ u. chained is os ts as' rs js ns ls)) r.fields
      ∙ ap (λ x. chained x os ts as' rs js ns ls) r.inputs
      ∙ ap (λ x. chained (Ok s.inputs) x ts as' rs js ns ls) r.outputs
      ∙ ap (λ x. chained (Ok s.inputs) (Ok s.outputs) x as' rs js ns ls) r.strategy
      ∙ ap (λ x. chained (Ok s.inputs) (Ok s.outputs) (Ok s.strategy) x rs js ns ls) r.activities
      ∙ ap (λ x. chained (Ok s.inputs) (Ok s.outputs) (Ok s.strategy) (Ok s.activities) x js ns ls) r.retries
      ∙ ap (λ x. chained (Ok s.inputs) (Ok s.outputs) (Ok s.strategy) (Ok s.activities) (Ok s.retries) x ns ls) r.jobs
      ∙ ap (λ x. chained (Ok s.inputs) (Ok s.outputs) (Ok s.strategy) (Ok s.activities) (Ok s.retries) (Ok s.jobs) x ls) r.after
      ∙ ap (λ x. chained (Ok s.inputs) (Ok s.outputs) (Ok s.strategy) (Ok s.activities) (Ok s.retries) (Ok s.jobs) (Ok s.after) x) r.repeat

depths-back : (here : Path) (ds : List (Name × ℕ)) → are_named is_depth 0 16 ds ≡ true → named_form depth_form 0 16 here (named_json number_json ds) ≡ Ok ds
depths-back here ds h = named-back depth_form is_depth number_json (λ p n e. number-back 0 32 p n e) 0 16 here ds h

-- the fields of a step without a loop are of either format, those with one of the second
fields-back : (format : ℕ) (here : Path) (ms : Members) → unknown_key first_fields ms ≡ None → unknown_key (first_fields ++ (codes "loop" ∷ [])) ms ≡ None → fields_form (step_fields format) here (object ms) ≡ Ok tt
fields-back format here ms e h = by (is_second format)
  where
    by : (b : Bool) → fields_form (if b then first_fields ++ (codes "loop" ∷ []) else first_fields) here (object ms) ≡ Ok tt
    by true = ap (none_unknown here) h
    by false = ap (none_unknown here) e

second-fields : (format : ℕ) (here : Path) (ms : Members) → is_second format ≡ true → unknown_key (first_fields ++ (codes "loop" ∷ [])) ms ≡ None → fields_form (step_fields format) here (object ms) ≡ Ok tt
second-fields format here ms b h = ap (λ b. fields_form (if b then first_fields ++ (codes "loop" ∷ []) else first_fields) here (object ms)) b ∙ ap (none_unknown here) h

no-loop : (format : ℕ) (here : Path) (d : Data) → get (codes "loop") d ≡ None → repeat_form format here d ≡ Ok None
no-loop format here d e = by (is_second format)
  where
    by : (b : Bool) → (if b then optional None given_loop (codes "loop") here d else Ok None) ≡ Ok None
    by true = ap (or_else None (given_loop (key here (codes "loop")))) e
    by false = refl

a-loop : (format : ℕ) (here : Path) (d : Data) (r : Repeat) → is_second format ≡ true → get (codes "loop") d ≡ Some (loop_json r) → is_repeat r ≡ true → repeat_form format here d ≡ Ok (Some r)
a-loop format here d r b e h =
    ap (λ b. if b then optional None given_loop (codes "loop") here d else Ok None) b
    ∙ ap (or_else None (given_loop (key here (codes "loop")))) e
    ∙ ap (λ o. and_then o (λ r. Ok (Some r))) (loop-back (key here (codes "loop")) r h)

parts : (a b c d e f g h : Bool) → (a && b && c && d && e && f && g && h) ≡ true → (a ≡ true) × ((b ≡ true) × ((c ≡ true) × ((d ≡ true) × ((e ≡ true) × ((f ≡ true) × ((g ≡ true) × (h ≡ true)))))))
parts true true true true true true true true e = (refl, (refl, (refl, (refl, (refl, (refl, (refl, refl)))))))
parts false b c d e f g h p = absurd (cc)
parts true false c d e f g h p = absurd (cc)
parts true true false d e f g h p = absurd (cc)
parts true true true false e f g h p = absurd (cc)
parts true true true true false f g h p = absurd (cc)
parts true true true true true false g h p = absurd (cc)
parts true true true true true true false h p = absurd (cc)
parts true true true true true true true false p = absurd (cc)

module _ (format : ℕ) (here : Path) (inputs : List (Name × StepInput)) (outputs : List (Name × ℕ)) (activities : List Activity) (retries jobs : ℕ) (after : List Name) where
  abbrev step_of : Option Strategy → Option Repeat → Step
  step_of o l = record { inputs = inputs; outputs = outputs; strategy = o; activities = activities; retries = retries; jobs = jobs; after = after; repeat = l }

  abbrev fields_of : Option Strategy → Option Repeat → Members
  fields_of o l = members (early_members (step_of o l) ++ (loop_member l ++ late_members (step_of o l)))

  abbrev json_of : Option Strategy → Option Repeat → Data
  json_of o l = step_json (step_of o l)

  tree-given : (t : Strategy) → is_tree t ≡ true → tree_fits format t ≡ true → given_tree format (key here (codes "strategy")) (tree_json t) ≡ Ok (Some t)
  tree-given t h f = ap (λ r. and_then r (λ u. Ok (Some u))) (tree-back format (key here (codes "strategy")) t h f)

  by-fields : (o : Option Strategy) (l : Option Repeat) → is_given_tree o ≡ true → given_tree_fits format o ≡ true → is_given_loop l ≡ true → loop_fits format l ≡ true
      → named_form step_input_form 0 16 (key here (codes "inputs")) (named_json step_input_json inputs) ≡ Ok inputs
      → named_form depth_form 0 16 (key here (codes "outputs")) (named_json number_json outputs) ≡ Ok outputs
      → array_form activity_form 1 8 (key here (codes "activities")) (array_json activity_json activities) ≡ Ok activities
      → number_form 0 100 (key here (codes "retries")) (number_json retries) ≡ Ok retries
      → number_form 1 64 (key here (codes "jobs")) (number_json jobs) ≡ Ok jobs
      → names_form (key here (codes "after")) (array_json string after) ≡ Ok after
      → step_form format here (json_of o l) ≡ Ok (step_of o l)
  by-fields None None t u v w is os as' rs js ns =
      step-read format here (step_of None None) (json_of None None)
      (record { fields = fields-back format here (fields_of None None) refl refl; inputs = is; outputs = os; strategy = refl; activities = as'; retries = rs; jobs = js; after = ns; repeat = no-loop format here (json_of None None) refl })
  by-fields (Some t) None g u v w is os as' rs js ns =
      step-read format here (step_of (Some t) None) (json_of (Some t) None)
      (record { fields = fields-back format here (fields_of (Some t) None) refl refl; inputs = is; outputs = os; strategy = tree-given t g u; activities = as'; retries = rs; jobs = js; after = ns; repeat = no-loop format here (json_of (Some t) None) refl })
  by-fields None (Some r) t u v w is os as' rs js ns =
      step-read format here (step_of None (Some r)) (json_of None (Some r))
      (record { fields = second-fields format here (fields_of None (Some r)) w refl; inputs = is; outputs = os; strategy = refl; activities = as'; retries = rs; jobs = js; after = ns; repeat = a-loop format here (json_of None (Some r)) r w refl v })
  by-fields (Some t) (Some r) g u v w is os as' rs js ns =
      step-read format here (step_of (Some t) (Some r)) (json_of (Some t) (Some r))
      (record { fields = second-fields format here (fields_of (Some t) (Some r)) w refl; inputs = is; outputs = os; strategy = tree-given t g u; activities = as'; retries = rs; jobs = js; after = ns; repeat = a-loop format here (json_of (Some t) (Some r)) r w refl v })

  step-by : (o : Option Strategy) (l : Option Repeat) → is_step (step_of o l) ≡ true → step_fits format (step_of o l) ≡ true → step_form format here (json_of o l) ≡ Ok (step_of o l)
  step-by o l h f =
      let p = parts (are_named is_step_input 0 16 inputs) (are_named is_depth 0 16 outputs) (is_given_tree o) (are_listed is_activity 1 8 activities) (is_between 0 100 retries) (is_between 1 64 jobs) (are_names after) (is_given_loop l) h in
      by-fields o l p.1.1.0 (first_so (given_tree_fits format o) (loop_fits format l) f) p.1.1.1.1.1.1.1 (second_so (given_tree_fits format o) (loop_fits format l) f)
      (named-back step_input_form is_step_input step_input_json step_input-back 0 16 (key here (codes "inputs")) inputs p.0)
      (depths-back (key here (codes "outputs")) outputs p.1.0)
      (array-back activity_form is_activity activity_json activity-back 1 8 (key here (codes "activities")) activities p.1.1.1.0)
      (number-back 0 100 (key here (codes "retries")) retries p.1.1.1.1.0)
      (number-back 1 64 (key here (codes "jobs")) jobs p.1.1.1.1.1.0)
      (names-back (key here (codes "after")) after p.1.1.1.1.1.1.0)

-- a step that is of a format, and flows of such steps
abbrev is_step_of : ℕ → Step → Bool
is_step_of format s = is_step s && step_fits format s

abbrev is_flow_of : ℕ → Flow → Bool
is_flow_of format f = is_flow f && flow_fits format f

step-back : (format : ℕ) (here : Path) (s : Step) → is_step_of format s ≡ true → step_form format here (step_json s) ≡ Ok s
step-back format here s h = step-by format here s.inputs s.outputs s.activities s.retries s.jobs s.after s.strategy s.repeat (first_so (is_step s) (step_fits format s) h) (second_so (is_step s) (step_fits format s) h)

-- ---- flows and documents

-- names with things that pass one test, and another
both-tests : {A : Type 0} (p q : A → Bool) (least most : ℕ) (es : List (Name × A)) → are_named p least most es ≡ true → list_all (λ e. q e.1) es ≡ true → are_named (λ x. p x && q x) least most es ≡ true
both-tests {A = A} p q least most es h g =
    let names = is_ascending (map (λ (e : Name × A). e.0) es) in
    let all = list_all (λ e. is_name e.0 && p e.1) es in
    let size = is_between least most (length es) in
    let entries = second_so size (names && all) h in
    ap (λ b. b && (names && list_all (λ e. is_name e.0 && (p e.1 && q e.1)) es)) (first_so size (names && all) h)
    ∙ ap (λ b. b && list_all (λ e. is_name e.0 && (p e.1 && q e.1)) es) (first_so names all entries)
    ∙ each es (second_so names all entries) g
  where
    one : (a b c d e : Bool) → (a && b && c) ≡ true → (d && e) ≡ true → (a && (b && d)) ≡ true
    one true true c true e h g = refl
    one true true c false e h g = absurd (cc)
    one true false c d e h g = absurd (cc)
    one false b c d e h g = absurd (cc)

    each : (es : List (Name × A)) → list_all (λ e. is_name e.0 && p e.1) es ≡ true → list_all (λ e. q e.1) es ≡ true → list_all (λ e. is_name e.0 && (p e.1 && q e.1)) es ≡ true
    each [] h g = refl
    each (e ∷ es) h g =
        let all = list_all (λ (y : Name × A). is_name y.0 && p y.1) es in
        let rest = list_all (λ (y : Name × A). q y.1) es in
        ap (λ b. b && list_all (λ y. is_name y.0 && (p y.1 && q y.1)) es) (one (is_name e.0) (p e.1) all (q e.1) rest h g)
        ∙ each es (second_so (is_name e.0 && p e.1) all h) (second_so (q e.1) rest g)

flow-back : (format : ℕ) (here : Path) (f : Flow) → is_flow_of format f ≡ true → flow_form format here (flow_json f) ≡ Ok f
flow-back format here f g =
    let h = first_so (is_flow f) (flow_fits format f) g in
    let ins = are_named is_depth 0 16 f.inputs in
    let steps = are_named is_step 0 1000 f.steps in
    let outs = are_named is_feed 0 16 f.outputs in
    let both = first_so (ins && steps) outs h in
    let fitting = both-tests is_step (step_fits format) 0 1000 f.steps (second_so ins steps both) (second_so (is_flow f) (flow_fits format f) g) in
    ap (λ r. and_then r (λ is. and_then (named_form (step_form format) 0 1000 (key here (codes "steps")) (named_json step_json f.steps)) (λ ss. and_then (named_form feed_form 0 16 (key here (codes "outputs")) (named_json feed_json f.outputs)) (λ os. Ok (record { inputs = is; steps = ss; outputs = os }))))) (depths-back (key here (codes "inputs")) f.inputs (first_so ins steps both))
    ∙ ap (λ r. and_then r (λ ss. and_then (named_form feed_form 0 16 (key here (codes "outputs")) (named_json feed_json f.outputs)) (λ os. Ok (record { inputs = f.inputs; steps = ss; outputs = os })))) (named-back (step_form format) (is_step_of format) step_json (step-back format) 0 1000 (key here (codes "steps")) f.steps fitting)
    ∙ ap (λ r. and_then r (λ os. Ok (record { inputs = f.inputs; steps = f.steps; outputs = os }))) (named-back feed_form is_feed feed_json feed-back 0 16 (key here (codes "outputs")) f.outputs (second_so (ins && steps) outs h))

four : (a b c d : Bool) → (a && b && c && d) ≡ true → (a ≡ true) × ((b ≡ true) × ((c ≡ true) × (d ≡ true)))
four true true true true h = (refl, (refl, (refl, refl)))
four false b c d h = absurd (cc)
four true false c d h = absurd (cc)
four true true false d h = absurd (cc)
four true true true false h = absurd (cc)

all-few : (n : ℕ) → n ≤ 16 → is_between 0 16 n ≡ true
all-few n h = grind (arith, nat_tests)

-- a document with at most 16 inputs
pub document-back : (d : Document) → is_formed d ≡ true → length d.inputs ≤ 16 → form_of (document_json d) ≡ Ok d
document-back d h few =
    let here : Path = [] in
    let p = four (are_of_format d.format d.flows) (is_name d.main) (are_named is_flow 1 256 d.flows) (are_entries is_value d.inputs) h in
    let format = first_so (is_between 1 2 d.format) (list_all (λ f. flow_fits d.format f.1) d.flows) p.0 in
    let flows = both-tests is_flow (flow_fits d.format) 1 256 d.flows p.1.1.0 (second_so (is_between 1 2 d.format) (list_all (λ f. flow_fits d.format f.1) d.flows) p.0) in
    ap (λ r. and_then r (λ format. and_then (name_or_not (key here (codes "main")) d.main) (λ main. and_then (named_form (flow_form format) 1 256 (key here (codes "flows")) (named_json flow_json d.flows)) (λ flows. and_then (named_form value_form 0 16 (key here (codes "inputs")) (named_json json d.inputs)) (λ inputs. Ok (record { format = format; main = main; flows = flows; inputs = inputs })))))) (number-back 1 2 (key here (codes "taverna")) d.format format)
    ∙ ap (λ r. and_then r (λ main. and_then (named_form (flow_form d.format) 1 256 (key here (codes "flows")) (named_json flow_json d.flows)) (λ flows. and_then (named_form value_form 0 16 (key here (codes "inputs")) (named_json json d.inputs)) (λ inputs. Ok (record { format = d.format; main = main; flows = flows; inputs = inputs }))))) (name-back (key here (codes "main")) d.main p.1.0)
    ∙ ap (λ r. and_then r (λ flows. and_then (named_form value_form 0 16 (key here (codes "inputs")) (named_json json d.inputs)) (λ inputs. Ok (record { format = d.format; main = d.main; flows = flows; inputs = inputs })))) (named-back (flow_form d.format) (is_flow_of d.format) flow_json (flow-back d.format) 1 256 (key here (codes "flows")) d.flows flows)
    ∙ ap (λ r. and_then r (λ inputs. Ok (record { format = d.format; main = d.main; flows = d.flows; inputs = inputs }))) (named-back value_form is_value json value_form-back 0 16 (key here (codes "inputs")) d.inputs (ap (λ b. b && are_entries is_value d.inputs) (all-few (length d.inputs) few) ∙ p.1.1.1))

-- ---- the second format has all that there is

mutual
  second-tree : (t : Strategy) → tree_fits 2 t ≡ true
  second-tree (port n) = refl
  second-tree (cross ts) = second-trees ts
  second-tree (dot ts) = second-trees ts
  second-tree (prefix l r) = ap (λ b. b && tree_fits 2 r) (second-tree l) ∙ second-tree r

  second-trees : (ts : Strategies) → trees_fit 2 ts ≡ true
  second-trees no_strategies = refl
  second-trees (strategy t ts) = ap (λ b. b && trees_fit 2 ts) (second-tree t) ∙ second-trees ts

second-given : (o : Option Strategy) → given_tree_fits 2 o ≡ true
second-given None = refl
second-given (Some t) = second-tree t

second-loop : (o : Option Repeat) → loop_fits 2 o ≡ true
second-loop None = refl
second-loop (Some r) = refl

second-steps : (ss : List (Name × Step)) → list_all (λ s. step_fits 2 s.1) ss ≡ true
second-steps [] = refl
second-steps (s ∷ ss) =
    ap (λ b. b && loop_fits 2 s.1.repeat && list_all (λ s. step_fits 2 s.1) ss) (second-given s.1.strategy)
    ∙ ap (λ b. b && list_all (λ s. step_fits 2 s.1) ss) (second-loop s.1.repeat)
    ∙ second-steps ss

pub second-flows : (fs : List (Name × Flow)) → list_all (λ f. flow_fits 2 f.1) fs ≡ true
second-flows [] = refl
second-flows (f ∷ fs) = ap (λ b. b && list_all (λ f. flow_fits 2 f.1) fs) (second-steps f.1.steps) ∙ second-flows fs

pub upgraded-formed : (d : Document) → is_formed d ≡ true → is_formed (upgraded d) ≡ true
upgraded-formed d h =
    let p = four (are_of_format d.format d.flows) (is_name d.main) (are_named is_flow 1 256 d.flows) (are_entries is_value d.inputs) h in
    ap (λ b. b && is_name d.main && are_named is_flow 1 256 d.flows && are_entries is_value d.inputs) (second-flows d.flows)
    ∙ ap (λ b. b && are_named is_flow 1 256 d.flows && are_entries is_value d.inputs) p.1.0
    ∙ ap (λ b. b && are_entries is_value d.inputs) p.1.1.0
    ∙ p.1.1.1
