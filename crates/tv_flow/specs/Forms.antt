-- The form of documents, table by table. Each reads a JSON tree that stands at a path, and gives what it stands for or the first complaint.
use Rattle.std.specs.Prelude.{ℕ, suc, List, [], ◌∷◌, ◌++◌, length, Bool, ◌&&◌, ◌||◌, ◌==◌, nat_le, nat_lt, codes, if◌then◌else◌, Option, Some, None, is_some, Result, Ok, Err}
use Rattle.std.specs.List.{list_all, list_any}
use Rattle.std.specs.Ordering.{nat_cmp, match_ordering}
use Rattle.std.specs.Cmp.Lexicographic.{slice_cmp}
use Rattle.serde_json.specs.Data.{Data, Num, unsigned, negative, float, null, boolean, number, string, array, object, Items, no_items, item, Members, no_members, member}
use Rattle.serde_json.specs.Find.{get, as_str, as_number, as_array, as_object}
use Rattle.tv_value.specs.Values.{Text, Name, Value}
use Rattle.tv_value.specs.Orders.{same_name, name_cmp, in_order}
use Rattle.tv_value.specs.Readings as reading
use Rattle.tv_value.specs.Readings.{read, not_text, ragged, item_count}
use Rattle.tv_value.specs.Strategies.{Strategy, port, cross, dot, prefix, Strategies, no_strategies, strategy}
use Rattle.tv_value.specs.Activities.{Activity, Repeat, service, nested}
use Rattle.tv_flow.specs.declared.faults.FormKind.TheVariants.{Missing, Unknown, WrongKind, BadName, OutOfRange, Empty, NotText, Ragged}
use Rattle.tv_flow.specs.Complaints.{Path, Complaint, complaint, key, index, place, and_then}
use Rattle.tv_flow.specs.Flows.{Link, input, output, Feed, link, merge, constant, StepInput, Step, Flow, Document}

-- ---- kinds, names and numbers

-- an object, array, string or number where one must stand
abbrev pub wanted : {A : Type 0} → Path → Option A → Result A Complaint
wanted here (Some a) = Ok a
wanted here None = complaint WrongKind here

-- a name is 1 to 64 letters, digits and underscores of ASCII
abbrev pub is_name_byte : ℕ → Bool
is_name_byte b = (nat_le 48 b && nat_le b 57) || (nat_le 65 b && nat_le b 90) || b == 95
    || (nat_le 97 b && nat_le b 122)

abbrev pub is_name : Text → Bool
is_name t = nat_le 1 (length t) && nat_le (length t) 64 && list_all is_name_byte t

abbrev pub name_or_not : Path → Text → Result Name Complaint
name_or_not here s = if is_name s then Ok s else complaint BadName here

abbrev pub name_form : Path → Data → Result Name Complaint
name_form here d = and_then (wanted here (as_str d)) (name_or_not here)

-- an integer in a range, which a float is not
abbrev pub in_range : ℕ → ℕ → Path → Num → Result ℕ Complaint
in_range low high here (unsigned n) = if nat_le low n && nat_le n high then Ok n
    else complaint OutOfRange here
in_range low high here (negative z) = complaint OutOfRange here
in_range low high here (float x) = complaint WrongKind here

abbrev pub number_form : ℕ → ℕ → Path → Data → Result ℕ Complaint
number_form low high here d = and_then (wanted here (as_number d)) (in_range low high here)

abbrev pub depth_form : Path → Data → Result ℕ Complaint
depth_form = number_form 0 32

-- ---- objects with fields

-- the first key that isn't among the fields, if there is one
abbrev pub unknown_key : List Text → Members → Option Text
unknown_key fields no_members = None
unknown_key fields (member k d ms) = if list_any (same_name k) fields then unknown_key fields ms
    else Some k

abbrev pub none_unknown : Path → Option Text → Result (Unit {0}) Complaint
none_unknown here None = Ok tt
none_unknown here (Some k) = complaint Unknown (key here k)

-- an object that has these fields and no others
abbrev pub fields_form : List Text → Path → Data → Result (Unit {0}) Complaint
fields_form fields here d = and_then (wanted here (as_object d))
    (λ ms. none_unknown here (unknown_key fields ms))

abbrev pub present : Path → Option Data → Result Data Complaint
present there (Some d) = Ok d
present there None = complaint Missing there

-- a field that must be there, in its form
abbrev pub required : {A : Type 0} → (Path → Data → Result A Complaint) → Text → Path → Data
    → Result A Complaint
required form k here d = and_then (present (key here k) (get k d)) (form (key here k))

abbrev pub or_else : {A : Type 0} → A → (Data → Result A Complaint) → Option Data
    → Result A Complaint
or_else a form None = Ok a
or_else a form (Some d) = form d

-- a field that may be left out
abbrev pub optional : {A : Type 0} → A → (Path → Data → Result A Complaint) → Text → Path → Data
    → Result A Complaint
optional a form k here d = or_else a (form (key here k)) (get k d)

-- ---- arrays and named objects

-- as many entries as there may be
abbrev pub counted : ℕ → ℕ → Path → ℕ → Result (Unit {0}) Complaint
counted least most here n = if nat_lt n least then complaint Empty here
    else (if nat_lt most n then complaint OutOfRange here else Ok tt)

abbrev pub member_count : Members → ℕ
member_count no_members = 0
member_count (member k d ms) = suc (member_count ms)

-- the members in order, a key before its value
abbrev pub entries_form : {A : Type 0} → (Path → Data → Result A Complaint) → Path → Members
    → Result (List (Name × A)) Complaint
entries_form form here no_members = Ok []
entries_form form here (member k d ms) =
    and_then (name_or_not (key here k) k) (λ n. and_then (form (key here k) d)
    (λ a. and_then (entries_form form here ms) (λ as'. Ok ((n, a) ∷ as'))))

-- an object whose keys are names, its number of members before them
abbrev pub named_form : {A : Type 0} → (Path → Data → Result A Complaint) → ℕ → ℕ → Path → Data
    → Result (List (Name × A)) Complaint
named_form form least most here d =
    and_then (wanted here (as_object d)) (λ ms. and_then (counted least most here (member_count ms))
    (λ u. entries_form form here ms))

abbrev pub items_form : {A : Type 0} → (Path → Data → Result A Complaint) → Path → ℕ → Items
    → Result (List A) Complaint
items_form form here i no_items = Ok []
items_form form here i (item d ds) = and_then (form (index here i) d)
    (λ a. and_then (items_form form here (suc i) ds) (λ as'. Ok (a ∷ as')))

-- an array, its number of items before them
abbrev pub array_form : {A : Type 0} → (Path → Data → Result A Complaint) → ℕ → ℕ → Path → Data
    → Result (List A) Complaint
array_form form least most here d =
    and_then (wanted here (as_array d)) (λ ds. and_then (counted least most here (item_count ds))
    (λ u. items_form form here 0 ds))

-- ---- values and feeds

abbrev pub of_reading : Path → Result Value reading.ReadingComplaint → Result Value Complaint
of_reading here (Ok v) = Ok v
of_reading here (Err (not_text q)) = complaint NotText (place here q)
of_reading here (Err (ragged q)) = complaint Ragged (place here q)

abbrev pub value_form : Path → Data → Result Value Complaint
value_form here d = of_reading here (read d)

-- whether an object has a key
abbrev pub has : Text → Data → Bool
has k d = is_some (get k d)

abbrev pub input_link : Path → Data → Result Link Complaint
input_link here d =
    and_then (fields_form (codes "input" ∷ []) here d) (λ u.
    and_then (required name_form (codes "input") here d) (λ n. Ok (input n)))

abbrev pub output_link : Path → Data → Result Link Complaint
output_link here d =
    and_then (fields_form (codes "step" ∷ codes "port" ∷ []) here d) (λ u.
    and_then (required name_form (codes "step") here d) (λ s.
    and_then (required name_form (codes "port") here d) (λ p. Ok (output s p))))

-- decided by the first key that is there of `input` and `step`; with neither it is an input
abbrev pub link_form : Path → Data → Result Link Complaint
link_form here d = if has (codes "input") d then input_link here d
    else (if has (codes "step") d then output_link here d else input_link here d)

abbrev pub link_feed : Path → Data → Result Feed Complaint
link_feed here d = and_then (link_form here d) (λ l. Ok (link l))

abbrev pub merge_feed : Path → Data → Result Feed Complaint
merge_feed here d =
    and_then (fields_form (codes "merge" ∷ []) here d) (λ u.
    and_then (required (array_form link_form 1 16) (codes "merge") here d) (λ ls. Ok (merge ls)))

abbrev pub constant_feed : Path → Data → Result Feed Complaint
constant_feed here d =
    and_then (fields_form (codes "constant" ∷ []) here d) (λ u.
    and_then (required value_form (codes "constant") here d) (λ v. Ok (constant v)))

abbrev pub is_link : Data → Bool
is_link d = has (codes "input") d || has (codes "step") d

-- decided by the first key that is there of `input`, `step`, `merge` and `constant`; with none of them it is an input
abbrev pub feed_form : Path → Data → Result Feed Complaint
feed_form here d =
    if is_link d then link_feed here d
    else (if has (codes "merge") d then merge_feed here d
    else (if has (codes "constant") d then constant_feed here d else link_feed here d))

-- ---- strategies

-- of the two formats of documents, the second has prefix nodes and loops besides
abbrev pub is_second : ℕ → Bool
is_second format = format == 2

abbrev pub in_second : {A : Type 0} → ℕ → Option A → Option A
in_second format o = if is_second format then o else None

-- a node is decided by the first key that is there of `cross`, `dot` and, in the second format, `prefix`; with none of them it is a cross
abbrev pub node_form : Path → Members → Option (Result Strategies Complaint)
    → Option (Result Strategies Complaint) → Option (Result Strategy Complaint)
    → Result Strategy Complaint
node_form here ms (Some trees) others pair = and_then
    (fields_form (codes "cross" ∷ []) here (object ms)) (λ u. and_then trees (λ ts. Ok (cross ts)))
node_form here ms None (Some trees) pair = and_then
    (fields_form (codes "dot" ∷ []) here (object ms)) (λ u. and_then trees (λ ts. Ok (dot ts)))
node_form here ms None None (Some pair) = and_then
    (fields_form (codes "prefix" ∷ []) here (object ms)) (λ u. pair)
node_form here ms None None None = and_then (fields_form (codes "cross" ∷ []) here (object ms))
    (λ u. complaint Missing (key here (codes "cross")))

abbrev mutual
  pub tree_form : ℕ → Path → Data → Result Strategy Complaint
  tree_form format here null = complaint WrongKind here
  tree_form format here (boolean b) = complaint WrongKind here
  tree_form format here (number n) = complaint WrongKind here
  tree_form format here (string s) = and_then (name_or_not here s) (λ n. Ok (port n))
  tree_form format here (array ds) = complaint WrongKind here
  tree_form format here (object ms) =
      node_form here ms (children_form format (codes "cross") (key here (codes "cross")) ms)
      (children_form format (codes "dot") (key here (codes "dot")) ms)
      (in_second format (pair_form format (codes "prefix") (key here (codes "prefix")) ms))

  -- the trees of the member at a key, if there is one; the path is that of the member
  pub children_form : ℕ → Text → Path → Members → Option (Result Strategies Complaint)
  children_form format k there no_members = None
  children_form format k there (member l d ms) = match_ordering (slice_cmp nat_cmp k l)
      (children_form format k there ms) (Some (trees_form format there d))
      (children_form format k there ms)

  pub trees_form : ℕ → Path → Data → Result Strategies Complaint
  trees_form format here null = complaint WrongKind here
  trees_form format here (boolean b) = complaint WrongKind here
  trees_form format here (number n) = complaint WrongKind here
  trees_form format here (string s) = complaint WrongKind here
  trees_form format here (array ds) = and_then (counted 1 16 here (item_count ds))
      (λ u. each_tree format here 0 ds)
  trees_form format here (object ms) = complaint WrongKind here

  pub each_tree : ℕ → Path → ℕ → Items → Result Strategies Complaint
  each_tree format here i no_items = Ok no_strategies
  each_tree format here i (item d ds) = and_then (tree_form format (index here i) d)
      (λ t. and_then (each_tree format here (suc i) ds) (λ ts. Ok (strategy t ts)))

  -- the prefix node of the member at a key, if there is one
  pub pair_form : ℕ → Text → Path → Members → Option (Result Strategy Complaint)
  pair_form format k there no_members = None
  pair_form format k there (member l d ms) = match_ordering (slice_cmp nat_cmp k l)
      (pair_form format k there ms) (Some (prefix_form format there d))
      (pair_form format k there ms)

  pub prefix_form : ℕ → Path → Data → Result Strategy Complaint
  prefix_form format here null = complaint WrongKind here
  prefix_form format here (boolean b) = complaint WrongKind here
  prefix_form format here (number n) = complaint WrongKind here
  prefix_form format here (string s) = complaint WrongKind here
  prefix_form format here (array ds) = two_trees format here ds
  prefix_form format here (object ms) = complaint WrongKind here

  -- exactly two
  pub two_trees : ℕ → Path → Items → Result Strategy Complaint
  two_trees format here no_items = complaint Empty here
  two_trees format here (item l no_items) = complaint Empty here
  two_trees format here (item l (item r no_items)) = and_then (tree_form format (index here 0) l)
      (λ left. and_then (tree_form format (index here 1) r) (λ right. Ok (prefix left right)))
  two_trees format here (item l (item r (item d ds))) = complaint OutOfRange here

-- ---- steps

abbrev pub service_activity : Path → Data → Result Activity Complaint
service_activity here d =
    and_then (fields_form (codes "service" ∷ []) here d) (λ u.
    and_then (required name_form (codes "service") here d) (λ n. Ok (service n)))

abbrev pub nested_activity : Path → Data → Result Activity Complaint
nested_activity here d =
    and_then (fields_form (codes "flow" ∷ []) here d) (λ u.
    and_then (required name_form (codes "flow") here d) (λ n. Ok (nested n)))

-- decided by the first key that is there of `service` and `flow`; with neither it is a service
abbrev pub activity_form : Path → Data → Result Activity Complaint
activity_form here d = if has (codes "service") d then service_activity here d
    else (if has (codes "flow") d then nested_activity here d else service_activity here d)

abbrev pub step_input_form : Path → Data → Result StepInput Complaint
step_input_form here d =
    and_then (fields_form (codes "depth" ∷ codes "from" ∷ []) here d) (λ u.
    and_then (required depth_form (codes "depth") here d) (λ depth.
    and_then (required feed_form (codes "from") here d)
    (λ from. Ok (record { depth = depth; from = from }))))

-- the names of an array, in byte order, each once
abbrev pub names_form : Path → Data → Result (List Name) Complaint
names_form here d = and_then (array_form name_form 0 16 here d) (λ ns. Ok (in_order name_cmp ns))

abbrev pub given_tree : ℕ → Path → Data → Result (Option Strategy) Complaint
given_tree format here d = and_then (tree_form format here d) (λ t. Ok (Some t))

abbrev pub text_form : Path → Data → Result Text Complaint
text_form here d = wanted here (as_str d)

abbrev pub loop_form : Path → Data → Result Repeat Complaint
loop_form here d =
    and_then (fields_form (codes "service" ∷ codes "until" ∷ codes "most" ∷ []) here d) (λ u.
    and_then (required name_form (codes "service") here d) (λ service.
    and_then (required text_form (codes "until") here d) (λ until.
    and_then (required (number_form 1 100) (codes "most") here d) (λ most.
    Ok (record { service = service; until = until; most = most })))))

abbrev pub given_loop : Path → Data → Result (Option Repeat) Complaint
given_loop here d = and_then (loop_form here d) (λ r. Ok (Some r))

-- the loop of a step, which the second format alone has
abbrev pub repeat_form : ℕ → Path → Data → Result (Option Repeat) Complaint
repeat_form format here d = if is_second format then optional None given_loop (codes "loop") here d
    else Ok None

abbrev pub first_fields : List Text
first_fields = codes "inputs" ∷ codes "outputs" ∷ codes "strategy" ∷ codes "activities"
    ∷ codes "retries" ∷ codes "jobs" ∷ codes "after" ∷ []

abbrev pub step_fields : ℕ → List Text
step_fields format = if is_second format then first_fields ++ (codes "loop" ∷ [])
    else first_fields

abbrev pub step_form : ℕ → Path → Data → Result Step Complaint
step_form format here d =
    and_then (fields_form (step_fields format) here d) (λ u.
    and_then (optional [] (named_form step_input_form 0 16) (codes "inputs") here d) (λ inputs.
    and_then (optional [] (named_form depth_form 0 16) (codes "outputs") here d) (λ outputs.
    and_then (optional None (given_tree format) (codes "strategy") here d) (λ strategy.
    and_then (required (array_form activity_form 1 8) (codes "activities") here d) (λ activities.
    and_then (optional 0 (number_form 0 100) (codes "retries") here d) (λ retries.
    and_then (optional 1 (number_form 1 64) (codes "jobs") here d) (λ jobs.
    and_then (optional [] names_form (codes "after") here d) (λ after.
    and_then (repeat_form format here d) (λ repeat.
    Ok (record {
      inputs = inputs;
      outputs = outputs;
      strategy = strategy;
      activities = activities;
      retries = retries;
      jobs = jobs;
      after = after;
      repeat = repeat;
    }))))))))))

-- ---- flows and documents

abbrev pub flow_form : ℕ → Path → Data → Result Flow Complaint
flow_form format here d =
    and_then (fields_form (codes "inputs" ∷ codes "steps" ∷ codes "outputs" ∷ []) here d) (λ u.
    and_then (optional [] (named_form depth_form 0 16) (codes "inputs") here d) (λ inputs.
    and_then (optional [] (named_form (step_form format) 0 1000) (codes "steps") here d) (λ steps.
    and_then (required (named_form feed_form 0 16) (codes "outputs") here d) (λ outputs.
    Ok (record { inputs = inputs; steps = steps; outputs = outputs })))))

abbrev pub document_form : Path → Data → Result Document Complaint
document_form here d =
    and_then (fields_form (codes "taverna" ∷ codes "main" ∷ codes "flows" ∷ codes "inputs" ∷ [])
    here d) (λ u.
    and_then (required (number_form 1 2) (codes "taverna") here d) (λ format.
    and_then (required name_form (codes "main") here d) (λ main.
    and_then (required (named_form (flow_form format) 1 256) (codes "flows") here d) (λ flows.
    and_then (optional [] (named_form value_form 0 16) (codes "inputs") here d) (λ inputs.
    Ok (record { format = format; main = main; flows = flows; inputs = inputs }))))))

-- the document that a whole JSON tree is, or the first complaint about its form
abbrev pub form_of : Data → Result Document Complaint
form_of = document_form []
