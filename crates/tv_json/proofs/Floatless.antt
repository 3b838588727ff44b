-- The JSON of a document has no floats.
use Rattle.std.specs.Prelude.{◌≡◌, ℕ, List, [], ◌∷◌, ◌++◌, map, Bool, true, false, ◌||◌, Option, Some, None, refl}
use Rattle.std.specs.declared.cmp.Ordering.{Ordering}
use Rattle.std.specs.Ordering.{nat_cmp, match_ordering}
use Rattle.std.specs.Cmp.Lexicographic.{slice_cmp}
use Rattle.std.proofs.Common.{ap, ◌∙◌, Less, Equal, Greater}
use Rattle.serde_json.specs.Data.{Data, string, Members, no_members, member, put}
use Rattle.serde_json.specs.View.{items_of}
use Rattle.serde_json.specs.Written.{has_float, items_have_float, members_have_float}
use Rattle.tv_value.specs.Nested.{Tree, leaf, list, Trees, no_trees, tree}
use Rattle.tv_value.specs.Values.{Text, Name, Scalar, text, fault}
use Rattle.tv_value.specs.Printed.{json, all_json, strings, members, job_text}
use Rattle.tv_value.specs.Strategies.{Strategy, port, cross, dot, prefix, Strategies, no_strategies, strategy}
use Rattle.tv_value.specs.Activities.{Activity, Repeat, service, nested}
use Rattle.tv_flow.specs.Flows.{Link, input, output, Feed, link, merge, constant, StepInput, Step, Flow, Document}
use Rattle.tv_json.specs.Documents.{number_json, array_json, put_each, named_json, link_json, feed_json, step_input_json, activity_json, tree_json, all_trees, loop_member, early_members, late_members, strategy_member, step_json, flow_json, document_json}

-- neither of two
neither : (a b : Bool) → a ≡ false → b ≡ false → (a || b) ≡ false
neither a b e h = ap (λ c. c || b) e ∙ h

-- ---- arrays and named objects

module _ {A : Type 0} (f : A → Data) (plain : (a : A) → has_float (f a) ≡ false) where
  items-plain : (xs : List A) → items_have_float (items_of (map f xs)) ≡ false
  items-plain [] = refl
  items-plain (x ∷ xs) = neither (has_float (f x)) (items_have_float (items_of (map f xs))) (plain x) (items-plain xs)

  step : (o : Ordering) (k l : Text) (d e : Data) (ms : Members) → has_float d ≡ false → (has_float e || members_have_float ms) ≡ false → (has_float e || members_have_float (put k d ms)) ≡ false
      → members_have_float ms ≡ false → members_have_float (match_ordering o (member k d (member l e ms)) (member l d ms) (member l e (put k d ms))) ≡ false
  step Less k l d e ms h g r m = neither (has_float d) (has_float e || members_have_float ms) h g
  step Equal k l d e ms h g r m = neither (has_float d) (members_have_float ms) h m
  step Greater k l d e ms h g r m = r

  first-of : (a b : Bool) → (a || b) ≡ false → a ≡ false
  first-of false b h = refl
  first-of true b h = h

  second-of : (a b : Bool) → (a || b) ≡ false → b ≡ false
  second-of false b h = h
  second-of true b h = absurd (cc)

  put-plain : (k : Text) (d : Data) (ms : Members) → has_float d ≡ false → members_have_float ms ≡ false → members_have_float (put k d ms) ≡ false
  put-plain k d no_members h g = neither (has_float d) false h refl
  put-plain k d (member l e ms) h g =
      let rest = second-of (has_float e) (members_have_float ms) g in
      step (slice_cmp nat_cmp k l) k l d e ms h g (neither (has_float e) (members_have_float (put k d ms)) (first-of (has_float e) (members_have_float ms) g) (put-plain k d ms h rest)) rest

  put_each-plain : (ms : Members) (es : List (Name × A)) → members_have_float ms ≡ false → members_have_float (put_each f ms es) ≡ false
  put_each-plain ms [] h = h
  put_each-plain ms (e ∷ es) h = put_each-plain (put e.0 (f e.1) ms) es (put-plain e.0 (f e.1) ms (plain e.1) h)

  named-plain : (es : List (Name × A)) → has_float (named_json f es) ≡ false
  named-plain es = put_each-plain no_members es refl

-- ---- values

strings-plain : (ts : List Text) → items_have_float (strings ts) ≡ false
strings-plain [] = refl
strings-plain (t ∷ ts) = strings-plain ts

mutual
  value-plain : {N : Type 0} (v : Tree N Scalar) → has_float (json v) ≡ false
  value-plain (leaf n (text t)) = refl
  value-plain (leaf n (fault e)) = neither (items_have_float (strings (map job_text e.from)) || false) false (neither (items_have_float (strings (map job_text e.from))) false (strings-plain (map job_text e.from)) refl) refl
  value-plain (list n ts) = values-plain ts

  values-plain : {N : Type 0} (ts : Trees N Scalar) → items_have_float (all_json ts) ≡ false
  values-plain no_trees = refl
  values-plain (tree t ts) = neither (has_float (json t)) (items_have_float (all_json ts)) (value-plain t) (values-plain ts)

-- ---- documents

texts-plain : (ns : List Name) → has_float (array_json string ns) ≡ false
texts-plain ns = items-plain string (λ n. refl) ns

link-plain : (l : Link) → has_float (link_json l) ≡ false
link-plain (input n) = refl
link-plain (output s p) = refl

feed-plain : (f : Feed) → has_float (feed_json f) ≡ false
feed-plain (link l) = link-plain l
feed-plain (merge ls) = neither (has_float (array_json link_json ls)) false (items-plain link_json link-plain ls) refl
feed-plain (constant v) = neither (has_float (json v)) false (value-plain v) refl

step_input-plain : (i : StepInput) → has_float (step_input_json i) ≡ false
step_input-plain i = neither (has_float (feed_json i.from)) false (feed-plain i.from) refl

activity-plain : (a : Activity) → has_float (activity_json a) ≡ false
activity-plain (service n) = refl
activity-plain (nested n) = refl

mutual
  tree-plain : (t : Strategy) → has_float (tree_json t) ≡ false
  tree-plain (port n) = refl
  tree-plain (cross ts) = neither (items_have_float (all_trees ts)) false (trees-plain ts) refl
  tree-plain (dot ts) = neither (items_have_float (all_trees ts)) false (trees-plain ts) refl
  tree-plain (prefix l r) =
      neither (has_float (tree_json l) || (has_float (tree_json r) || false)) false
      (neither (has_float (tree_json l)) (has_float (tree_json r) || false) (tree-plain l) (neither (has_float (tree_json r)) false (tree-plain r) refl)) refl

  trees-plain : (ts : Strategies) → items_have_float (all_trees ts) ≡ false
  trees-plain no_strategies = refl
  trees-plain (strategy t ts) = neither (has_float (tree_json t)) (items_have_float (all_trees ts)) (tree-plain t) (trees-plain ts)

-- lists of members one after another
append-plain : (ps qs : List (Text × Data)) → members_have_float (members ps) ≡ false → members_have_float (members qs) ≡ false → members_have_float (members (ps ++ qs)) ≡ false
append-plain [] qs h g = g
append-plain (p ∷ ps) qs h g = by (has_float p.1) h (λ e. append-plain ps qs e g)
  where
    by : (b : Bool) → (b || members_have_float (members ps)) ≡ false → (members_have_float (members ps) ≡ false → members_have_float (members (ps ++ qs)) ≡ false) → (b || members_have_float (members (ps ++ qs))) ≡ false
    by true e k = absurd (cc)
    by false e k = k e

depths-plain : (ds : List (Name × ℕ)) → has_float (named_json number_json ds) ≡ false
depths-plain ds = named-plain number_json (λ n. refl) ds

early-plain : (s : Step) → members_have_float (members (early_members s)) ≡ false
early-plain s =
    let ins = has_float (named_json step_input_json s.inputs) in
    let after = has_float (array_json string s.after) in
    neither (has_float (array_json activity_json s.activities)) (after || (ins || false)) (items-plain activity_json activity-plain s.activities)
    (neither after (ins || false) (texts-plain s.after) (neither ins false (named-plain step_input_json step_input-plain s.inputs) refl))

loop-plain : (o : Option Repeat) → members_have_float (members (loop_member o)) ≡ false
loop-plain None = refl
loop-plain (Some r) = refl

given-plain : (o : Option Strategy) → members_have_float (members (strategy_member o)) ≡ false
given-plain None = refl
given-plain (Some t) = neither (has_float (tree_json t)) false (tree-plain t) refl

late-plain : (s : Step) → members_have_float (members (late_members s)) ≡ false
late-plain s = neither (has_float (named_json number_json s.outputs)) (members_have_float (members (strategy_member s.strategy))) (depths-plain s.outputs) (given-plain s.strategy)

step-plain : (s : Step) → has_float (step_json s) ≡ false
step-plain s =
    append-plain (early_members s) (loop_member s.repeat ++ late_members s) (early-plain s)
    (append-plain (loop_member s.repeat) (late_members s) (loop-plain s.repeat) (late-plain s))

flow-plain : (f : Flow) → has_float (flow_json f) ≡ false
flow-plain f =
    let outs = has_float (named_json feed_json f.outputs) in
    let steps = has_float (named_json step_json f.steps) in
    neither (has_float (named_json number_json f.inputs)) (outs || (steps || false)) (depths-plain f.inputs)
    (neither outs (steps || false) (named-plain feed_json feed-plain f.outputs) (neither steps false (named-plain step_json step-plain f.steps) refl))

pub document-plain : (d : Document) → has_float (document_json d) ≡ false
document-plain d =
    let inputs = has_float (named_json json d.inputs) in
    neither (has_float (named_json flow_json d.flows)) (inputs || false) (named-plain flow_json flow-plain d.flows)
    (neither inputs false (named-plain json value-plain d.inputs) refl)
