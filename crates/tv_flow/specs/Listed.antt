-- All complaints about the form of a document, in their order. Reading answers the first of them.
use Rattle.std.specs.Prelude.{◌≡◌, ℕ, suc, List, [], ◌∷◌, ◌++◌, Bool, ◌&&◌, nat_le, nat_lt, codes, if◌then◌else◌, Option, Some, None, is_some, Result, Ok, Err}
use Rattle.std.specs.List.{list_any}
use Rattle.std.specs.Ordering.{nat_cmp, match_ordering}
use Rattle.std.specs.Cmp.Lexicographic.{slice_cmp}
use Rattle.serde_json.specs.Data.{Data, Num, unsigned, negative, float, null, boolean, number, string, array, object, Items, no_items, item, Members, no_members, member}
use Rattle.serde_json.specs.Find.{get, as_str, as_number, as_array, as_object}
use Rattle.tv_value.specs.Nested.{Trees}
use Rattle.tv_value.specs.Values.{Text, Scalar, list_value}
use Rattle.tv_value.specs.DepthSets.{least_depth}
use Rattle.tv_value.specs.Readings.{read_items, length_limit, item_count}
use Rattle.tv_value.specs.Readings as reading
use Rattle.tv_value.specs.Orders.{same_name}
use Rattle.tv_flow.specs.declared.faults.FormKind.{FormKind}
use Rattle.tv_flow.specs.declared.faults.FormKind.TheVariants.{Missing, Unknown, WrongKind, BadName, OutOfRange, Empty, NotText, Ragged}
use Rattle.tv_flow.specs.Complaints.{Path, Complaint, key, index}
use Rattle.tv_flow.specs.Forms.{is_name, is_link, has, member_count, required, number_form, is_second, in_second, step_fields, form_of}

abbrev pub wrong : FormKind → Path → List Complaint
wrong k p = record { kind = k; path = p } ∷ []

abbrev pub wrong_unless : Bool → FormKind → Path → List Complaint
wrong_unless b k p = if b then [] else wrong k p

-- of a thing that must be of some kind, and of what it then is
abbrev pub all_wanted : {A : Type 0} → Path → (A → List Complaint) → Option A → List Complaint
all_wanted here f None = wrong WrongKind here
all_wanted here f (Some a) = f a

abbrev pub all_name : Path → Data → List Complaint
all_name here d = all_wanted here (λ s. wrong_unless (is_name s) BadName here) (as_str d)

abbrev pub all_text : Path → Data → List Complaint
all_text here d = all_wanted here (λ s. []) (as_str d)

abbrev pub all_range : ℕ → ℕ → Path → Num → List Complaint
all_range low high here (unsigned n) = wrong_unless (nat_le low n && nat_le n high) OutOfRange here
all_range low high here (negative z) = wrong OutOfRange here
all_range low high here (float x) = wrong WrongKind here

abbrev pub all_number : ℕ → ℕ → Path → Data → List Complaint
all_number low high here d = all_wanted here (all_range low high here) (as_number d)

abbrev pub all_depth : Path → Data → List Complaint
all_depth = all_number 0 32

-- each key that isn't among the fields
abbrev pub all_unknown : List Text → Path → Members → List Complaint
all_unknown fields here no_members = []
all_unknown fields here (member k d ms) = wrong_unless (list_any (same_name k) fields) Unknown
    (key here k) ++ all_unknown fields here ms

-- an object with these fields: the keys that aren't among them, and then what is said of the fields
abbrev pub all_fields : List Text → Path → List Complaint → Data → List Complaint
all_fields fields here rest d = all_wanted here (λ ms. all_unknown fields here ms ++ rest)
    (as_object d)

abbrev pub all_present : (Data → List Complaint) → Path → Option Data → List Complaint
all_present form there None = wrong Missing there
all_present form there (Some d) = form d

abbrev pub all_required : (Path → Data → List Complaint) → Text → Path → Data → List Complaint
all_required form k here d = all_present (form (key here k)) (key here k) (get k d)

abbrev pub all_given : (Data → List Complaint) → Option Data → List Complaint
all_given form None = []
all_given form (Some d) = form d

abbrev pub all_optional : (Path → Data → List Complaint) → Text → Path → Data → List Complaint
all_optional form k here d = all_given (form (key here k)) (get k d)

-- a number of entries outside its range, before the entries
abbrev pub all_counted : ℕ → ℕ → Path → ℕ → List Complaint
all_counted least most here n = if nat_lt n least then wrong Empty here
    else (if nat_lt most n then wrong OutOfRange here else [])

abbrev pub all_entries : (Path → Data → List Complaint) → Path → Members → List Complaint
all_entries form here no_members = []
all_entries form here (member k d ms) = wrong_unless (is_name k) BadName (key here k)
    ++ (form (key here k) d ++ all_entries form here ms)

abbrev pub all_named : (Path → Data → List Complaint) → ℕ → ℕ → Path → Data → List Complaint
all_named form least most here d = all_wanted here (λ ms. all_counted least most here
    (member_count ms) ++ all_entries form here ms) (as_object d)

abbrev pub all_items : (Path → Data → List Complaint) → Path → ℕ → Items → List Complaint
all_items form here i no_items = []
all_items form here i (item d ds) = form (index here i) d ++ all_items form here (suc i) ds

abbrev pub all_array : (Path → Data → List Complaint) → ℕ → ℕ → Path → Data → List Complaint
all_array form least most here d = all_wanted here (λ ds. all_counted least most here
    (item_count ds) ++ all_items form here 0 ds) (as_array d)

-- ---- values and feeds

abbrev pub all_integer : Path → Num → List Complaint
all_integer here (unsigned n) = []
all_integer here (negative z) = []
all_integer here (float x) = wrong NotText here

-- a list of which no item is wrong, if it has no depth
abbrev pub all_ragged : Path → Result (Trees (Unit {0}) Scalar) reading.ReadingComplaint
    → List Complaint
all_ragged here (Err c) = []
all_ragged here (Ok vs) = wrong_unless (is_some (least_depth (list_value vs))) Ragged here

-- items before their list; a list that is too long before its items
abbrev mutual
  pub all_value : Path → Data → List Complaint
  all_value here null = wrong NotText here
  all_value here (boolean b) = wrong NotText here
  all_value here (number n) = all_integer here n
  all_value here (string s) = []
  all_value here (array ds) = if nat_lt (item_count ds) length_limit then all_values here 0 ds
      ++ all_ragged here (read_items 0 ds) else wrong Ragged here
  all_value here (object ms) = wrong NotText here

  pub all_values : Path → ℕ → Items → List Complaint
  all_values here i no_items = []
  all_values here i (item d ds) = all_value (index here i) d ++ all_values here (suc i) ds

abbrev pub all_input_link : Path → Data → List Complaint
all_input_link here d =
    all_fields (codes "input" ∷ []) here (all_required all_name (codes "input") here d) d

abbrev pub all_output_link : Path → Data → List Complaint
all_output_link here d =
    all_fields (codes "step" ∷ codes "port" ∷ []) here
    (all_required all_name (codes "step") here d ++ all_required all_name (codes "port") here d)
    d

abbrev pub all_link : Path → Data → List Complaint
all_link here d = if has (codes "input") d then all_input_link here d
    else (if has (codes "step") d then all_output_link here d else all_input_link here d)

abbrev pub all_merge : Path → Data → List Complaint
all_merge here d =
    all_fields (codes "merge" ∷ []) here
    (all_required (all_array all_link 1 16) (codes "merge") here d) d

abbrev pub all_constant : Path → Data → List Complaint
all_constant here d =
    all_fields (codes "constant" ∷ []) here (all_required all_value (codes "constant") here d) d

abbrev pub all_feed : Path → Data → List Complaint
all_feed here d = if is_link d then all_link here d
    else (if has (codes "merge") d then all_merge here d
    else (if has (codes "constant") d then all_constant here d else all_link here d))

-- ---- strategies

abbrev pub all_node : Path → Members → Option (List Complaint) → Option (List Complaint)
    → Option (List Complaint) → List Complaint
all_node here ms (Some inside) others pair = all_unknown (codes "cross" ∷ []) here ms ++ inside
all_node here ms None (Some inside) pair = all_unknown (codes "dot" ∷ []) here ms ++ inside
all_node here ms None None (Some inside) = all_unknown (codes "prefix" ∷ []) here ms ++ inside
all_node here ms None None None = all_unknown (codes "cross" ∷ []) here ms
    ++ wrong Missing (key here (codes "cross"))

abbrev mutual
  pub all_tree : ℕ → Path → Data → List Complaint
  all_tree format here null = wrong WrongKind here
  all_tree format here (boolean b) = wrong WrongKind here
  all_tree format here (number n) = wrong WrongKind here
  all_tree format here (string s) = wrong_unless (is_name s) BadName here
  all_tree format here (array ds) = wrong WrongKind here
  all_tree format here (object ms) =
      all_node here ms (all_children format 1 16 (codes "cross") (key here (codes "cross")) ms)
      (all_children format 1 16 (codes "dot") (key here (codes "dot")) ms)
      (in_second format (all_children format 2 2 (codes "prefix") (key here (codes "prefix")) ms))

  pub all_children : ℕ → ℕ → ℕ → Text → Path → Members → Option (List Complaint)
  all_children format least most k there no_members = None
  all_children format least most k there (member l d ms) = match_ordering (slice_cmp nat_cmp k l)
      (all_children format least most k there ms) (Some (all_trees format least most there d))
      (all_children format least most k there ms)

  pub all_trees : ℕ → ℕ → ℕ → Path → Data → List Complaint
  all_trees format least most here null = wrong WrongKind here
  all_trees format least most here (boolean b) = wrong WrongKind here
  all_trees format least most here (number n) = wrong WrongKind here
  all_trees format least most here (string s) = wrong WrongKind here
  all_trees format least most here (array ds) = all_counted least most here (item_count ds)
      ++ each_all_tree format here 0 ds
  all_trees format least most here (object ms) = wrong WrongKind here

  pub each_all_tree : ℕ → Path → ℕ → Items → List Complaint
  each_all_tree format here i no_items = []
  each_all_tree format here i (item d ds) = all_tree format (index here i) d
      ++ each_all_tree format here (suc i) ds

-- ---- steps, flows and documents

-- one list after the other
abbrev pub all_of : List (List Complaint) → List Complaint
all_of [] = []
all_of (cs ∷ css) = cs ++ all_of css

abbrev pub all_service : Path → Data → List Complaint
all_service here d =
    all_fields (codes "service" ∷ []) here (all_required all_name (codes "service") here d) d

abbrev pub all_nested : Path → Data → List Complaint
all_nested here d =
    all_fields (codes "flow" ∷ []) here (all_required all_name (codes "flow") here d) d

abbrev pub all_activity : Path → Data → List Complaint
all_activity here d = if has (codes "service") d then all_service here d
    else (if has (codes "flow") d then all_nested here d else all_service here d)

abbrev pub all_step_input : Path → Data → List Complaint
all_step_input here d =
    all_fields (codes "depth" ∷ codes "from" ∷ []) here
    (all_required all_depth (codes "depth") here d
    ++ all_required all_feed (codes "from") here d) d

abbrev pub all_loop : Path → Data → List Complaint
all_loop here d =
    all_fields (codes "service" ∷ codes "until" ∷ codes "most" ∷ []) here
    (all_of
    (all_required all_name (codes "service") here d
    ∷ all_required all_text (codes "until") here d
    ∷ all_required (all_number 1 100) (codes "most") here d ∷ []))
    d

abbrev pub all_repeat : ℕ → Path → Data → List Complaint
all_repeat format here d = if is_second format then all_optional all_loop (codes "loop") here d
    else []

abbrev pub all_step : ℕ → Path → Data → List Complaint
all_step format here d =
    all_fields (step_fields format) here
    (all_of
    (all_optional (all_named all_step_input 0 16) (codes "inputs") here d
    ∷ all_optional (all_named all_depth 0 16) (codes "outputs") here d
    ∷ all_optional (all_tree format) (codes "strategy") here d
    ∷ all_required (all_array all_activity 1 8) (codes "activities") here d
    ∷ all_optional (all_number 0 100) (codes "retries") here d
    ∷ all_optional (all_number 1 64) (codes "jobs") here d
    ∷ all_optional (all_array all_name 0 16) (codes "after") here d
    ∷ all_repeat format here d ∷ []))
    d

abbrev pub all_flow : ℕ → Path → Data → List Complaint
all_flow format here d =
    all_fields (codes "inputs" ∷ codes "steps" ∷ codes "outputs" ∷ []) here
    (all_of
    (all_optional (all_named all_depth 0 16) (codes "inputs") here d
    ∷ all_optional (all_named (all_step format) 0 1000) (codes "steps") here d
    ∷ all_required (all_named all_feed 0 16) (codes "outputs") here d ∷ []))
    d

-- the format that a document names; what stands in one that names none is of the first
abbrev pub format_or : Result ℕ Complaint → ℕ
format_or (Ok format) = format
format_or (Err c) = 1

abbrev pub format_of : Path → Data → ℕ
format_of here d = format_or (required (number_form 1 2) (codes "taverna") here d)

abbrev pub all_document : Path → Data → List Complaint
all_document here d =
    all_fields (codes "taverna" ∷ codes "main" ∷ codes "flows" ∷ codes "inputs" ∷ []) here
    (all_of
    (all_required (all_number 1 2) (codes "taverna") here d
    ∷ all_required all_name (codes "main") here d
    ∷ all_required (all_named (all_flow (format_of here d)) 1 256) (codes "flows") here d
    ∷ all_optional (all_named all_value 0 16) (codes "inputs") here d ∷ []))
    d

-- all complaints about a whole JSON tree
abbrev pub form_complaints : Data → List Complaint
form_complaints = all_document []

abbrev pub first_of : List Complaint → Option Complaint
first_of [] = None
first_of (c ∷ cs) = Some c

abbrev pub complaint_of : {A : Type 0} → Result A Complaint → Option Complaint
complaint_of (Ok a) = None
complaint_of (Err c) = Some c

-- a tree has a document exactly where there is no complaint, and the complaint about it is the first of all
abbrev pub FirstIsAnswered : Type 0
FirstIsAnswered = (d : Data) → complaint_of (form_of d) ≡ first_of (form_complaints d)
