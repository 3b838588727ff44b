-- Strategies, node by node: what the fields of a node say, and that what stands inside is less deep.
use Rattle.std.specs.Prelude.{◌≡◌, ℕ, zero, suc, ◌<◌, ◌≤◌, max, List, [], ◌∷◌, length, map, Bool, true, false, ◌&&◌, is_some, if◌then◌else◌, codes, Option, Some, None, option_map, Result, Ok, Err, refl}
use Rattle.std.specs.declared.cmp.Ordering.{Ordering}
use Rattle.std.specs.Ordering.{nat_cmp, match_ordering}
use Rattle.std.specs.Cmp.Lexicographic.{slice_cmp}
use Rattle.std.specs.List.{list_all}
use Rattle.std.specs.Cmp.{first_so, second_so}
use Rattle.std.proofs.Common.{ap, sym, subst, ◌∙◌, arith, get_or, Less, Equal, Greater}
use Rattle.std.proofs.lemmas.Bool.Decides.{nat_tests}
use Rattle.serde_json.specs.Data.{Data, object, array, Items, no_items, item, Members, no_members, member, depth, items_depth, members_depth}
use Rattle.serde_json.specs.Find.{get, get_member}
use Rattle.serde_json.specs.View.{view as json_view, items_view as json_items}
use Rattle.serde_json.specs.declared.value.Value.{Value as Json}
use Rattle.tv_value.specs.Values.{Text}
use Rattle.tv_value.specs.Strategies.{Strategy, Strategies, strategy, cross, dot, prefix}
use Rattle.tv_value.specs.Views.{strategies_of, strategy_view, strategies_view, tree_step, trees_step}
use Rattle.tv_value.specs.declared.tree.Trees.{Trees}
use Rattle.tv_value.specs.declared.tree.Tree.TheFolds.{fold_out-Trees}
use Rattle.tv_value.specs.Readings.{item_count}
use Rattle.tv_flow.specs.declared.faults.FormFault.{FormFault}
use Rattle.tv_flow.specs.declared.faults.FormFault.TheVariants.{Form, NoMemory}
use Rattle.tv_flow.specs.Answers.{fault_result}
use Rattle.tv_flow.proofs.Shapes.{items-count}
use Rattle.tv_flow.specs.declared.faults.FormKind.TheVariants.{Missing}
use Rattle.tv_flow.specs.Complaints.{Path, Complaint, complaint, key, index, and_then}
use Rattle.tv_flow.specs.Forms.{is_second, in_second, fields_form, present, has, node_form, tree_form, children_form, trees_form, each_tree, pair_form, prefix_form, two_trees, items_form, counted}
use Rattle.tv_flow.specs.Branch.{branch, pair}
use Rattle.tv_flow.specs.Formed.{is_tree, are_trees, tree_fits, trees_fit, strategy_count, is_between}

pub given-given : {A B C : Type 0} (r : Result A Complaint) (f : A → Result B Complaint) (g : B → Result C Complaint) → and_then (and_then r f) g ≡ and_then r (λ a. and_then (f a) g)
given-given (Ok a) f g = refl
given-given (Err c) f g = refl

mapped : {A : Type 0} (f : Data → A) (o : Ordering) (p : Option Data) (d : Data) → match_ordering o (option_map f p) (Some (f d)) (option_map f p) ≡ option_map f (match_ordering o p (Some d) p)
mapped f Less p d = refl
mapped f Equal p d = refl
mapped f Greater p d = refl

children_form-get : (format : ℕ) (k : Text) (there : Path) (ms : Members) → children_form format k there ms ≡ option_map (trees_form format there) (get_member k ms)
children_form-get format k there no_members = refl
children_form-get format k there (member l d ms) =
    ap (λ o. match_ordering (slice_cmp nat_cmp k l) o (Some (trees_form format there d)) o) (children_form-get format k there ms)
    ∙ mapped (trees_form format there) (slice_cmp nat_cmp k l) (get_member k ms) d

pair_form-get : (format : ℕ) (k : Text) (there : Path) (ms : Members) → pair_form format k there ms ≡ option_map (prefix_form format there) (get_member k ms)
pair_form-get format k there no_members = refl
pair_form-get format k there (member l d ms) =
    ap (λ o. match_ordering (slice_cmp nat_cmp k l) o (Some (prefix_form format there d)) o) (pair_form-get format k there ms)
    ∙ mapped (prefix_form format there) (slice_cmp nat_cmp k l) (get_member k ms) d

abbrev pub Child : Type 0
Child = Option (Result Strategies Complaint)

branch-of : (format : ℕ) (k : Text) (here : Path) (r : Result (Unit {0}) Complaint) (o : Option Data) (d : Data) (make : Strategies → Strategy) → o ≡ Some d → and_then r (λ u. and_then (trees_form format (key here k) d) (λ ts. Ok (make ts))) ≡ and_then (and_then r (λ u. and_then (present (key here k) o) (trees_form format (key here k)))) (λ ts. Ok (make ts))
branch-of format k here r o d make e =
    ap (λ p. and_then r (λ u. and_then (and_then p (trees_form format (key here k))) (λ ts. Ok (make ts)))) (ap (present (key here k)) (sym e))
    ∙ sym (given-given r (λ u. and_then (present (key here k) o) (trees_form format (key here k))) (λ ts. Ok (make ts)))

missing-of : (format : ℕ) (k : Text) (here : Path) (r : Result (Unit {0}) Complaint) (o : Option Data) (make : Strategies → Strategy) → o ≡ None → and_then r (λ u. complaint Missing (key here k)) ≡ and_then (and_then r (λ u. and_then (present (key here k) o) (trees_form format (key here k)))) (λ ts. Ok (make ts))
missing-of format k here r o make e =
    ap (λ p. and_then r (λ u. and_then (and_then p (trees_form format (key here k))) (λ ts. Ok (make ts)))) (ap (present (key here k)) (sym e))
    ∙ sym (given-given r (λ u. and_then (present (key here k) o) (trees_form format (key here k))) (λ ts. Ok (make ts)))

some-of : (o : Option Data) → is_some o ≡ true → (d : Data) × (o ≡ Some d)
some-of (Some d) e = (d, refl)
some-of None e = absurd (cc)

none-of : (o : Option Data) → is_some o ≡ false → o ≡ None
none-of (Some d) e = absurd (cc)
none-of None e = refl

module _ (format : ℕ) (here : Path) (ms : Members) where
  abbrev pub child : Option Data → Text → Child
  child o k = option_map (trees_form format (key here k)) o

  -- a node by the members that it has at the three keys
  abbrev pub node_by : Option Data → Option Data → Option Data → Result Strategy Complaint
  node_by crosses dots pairs = node_form here ms (child crosses (codes "cross")) (child dots (codes "dot"))
      (in_second format (option_map (prefix_form format (key here (codes "prefix"))) pairs))

  node : tree_form format here (object ms) ≡ node_by (get_member (codes "cross") ms) (get_member (codes "dot") ms) (get_member (codes "prefix") ms)
  node =
      ap (λ c. node_form here ms c (children_form format (codes "dot") (key here (codes "dot")) ms) (in_second format (pair_form format (codes "prefix") (key here (codes "prefix")) ms))) (children_form-get format (codes "cross") (key here (codes "cross")) ms)
      ∙ ap (λ c. node_form here ms (child (get_member (codes "cross") ms) (codes "cross")) c (in_second format (pair_form format (codes "prefix") (key here (codes "prefix")) ms))) (children_form-get format (codes "dot") (key here (codes "dot")) ms)
      ∙ ap (λ c. node_form here ms (child (get_member (codes "cross") ms) (codes "cross")) (child (get_member (codes "dot") ms) (codes "dot")) (in_second format c)) (pair_form-get format (codes "prefix") (key here (codes "prefix")) ms)

  pub node-cross : has (codes "cross") (object ms) ≡ true → tree_form format here (object ms) ≡ and_then (branch format (codes "cross") here (object ms)) (λ ts. Ok (cross ts))
  node-cross e =
      let s = some-of (get_member (codes "cross") ms) e in
      node
      ∙ ap (λ o. node_by o (get_member (codes "dot") ms) (get_member (codes "prefix") ms)) s.1
      ∙ branch-of format (codes "cross") here (fields_form (codes "cross" ∷ []) here (object ms)) (get_member (codes "cross") ms) s.0 cross s.1

  pub node-dot : has (codes "cross") (object ms) ≡ false → has (codes "dot") (object ms) ≡ true → tree_form format here (object ms) ≡ and_then (branch format (codes "dot") here (object ms)) (λ ts. Ok (dot ts))
  node-dot n e =
      let s = some-of (get_member (codes "dot") ms) e in
      node
      ∙ ap (λ o. node_by o (get_member (codes "dot") ms) (get_member (codes "prefix") ms)) (none-of (get_member (codes "cross") ms) n)
      ∙ ap (λ o. node_by None o (get_member (codes "prefix") ms)) s.1
      ∙ branch-of format (codes "dot") here (fields_form (codes "dot" ∷ []) here (object ms)) (get_member (codes "dot") ms) s.0 dot s.1

  -- neither a cross nor a dot
  no-trees : has (codes "cross") (object ms) ≡ false → has (codes "dot") (object ms) ≡ false → tree_form format here (object ms) ≡ node_by None None (get_member (codes "prefix") ms)
  no-trees n e =
      node
      ∙ ap (λ o. node_by o (get_member (codes "dot") ms) (get_member (codes "prefix") ms)) (none-of (get_member (codes "cross") ms) n)
      ∙ ap (λ o. node_by None o (get_member (codes "prefix") ms)) (none-of (get_member (codes "dot") ms) e)

  pub node-prefix : has (codes "cross") (object ms) ≡ false → has (codes "dot") (object ms) ≡ false → (is_second format && has (codes "prefix") (object ms)) ≡ true → tree_form format here (object ms) ≡ pair format here (object ms)
  node-prefix n e h =
      let s = some-of (get_member (codes "prefix") ms) (second_so (is_second format) (has (codes "prefix") (object ms)) h) in
      no-trees n e
      ∙ ap (node_by None None) s.1
      ∙ ap (λ b. node_form here ms None None (if b then Some (prefix_form format (key here (codes "prefix")) s.0) else None)) (first_so (is_second format) (has (codes "prefix") (object ms)) h)
      ∙ ap (λ o. and_then (fields_form (codes "prefix" ∷ []) here (object ms)) (λ u. and_then (present (key here (codes "prefix")) o) (prefix_form format (key here (codes "prefix"))))) (sym s.1)

  no-pair : (b : Bool) (o : Option Data) → (b && is_some o) ≡ false → (if b then option_map (prefix_form format (key here (codes "prefix"))) o else None) ≡ None
  no-pair true (Some d) h = absurd (cc)
  no-pair true None h = refl
  no-pair false o h = refl

  pub node-none : has (codes "cross") (object ms) ≡ false → has (codes "dot") (object ms) ≡ false → (is_second format && has (codes "prefix") (object ms)) ≡ false → tree_form format here (object ms) ≡ and_then (branch format (codes "cross") here (object ms)) (λ ts. Ok (cross ts))
  node-none n e h =
      no-trees n e
      ∙ ap (node_form here ms None None) (no-pair (is_second format) (get_member (codes "prefix") ms) h)
      ∙ missing-of format (codes "cross") here (fields_form (codes "cross" ∷ []) here (object ms)) (get_member (codes "cross") ms) cross (none-of (get_member (codes "cross") ms) n)

-- ---- children as a list

grown : (t : Strategy) (r : Result (List Strategy) Complaint) → and_then (and_then r (λ ts. Ok (strategies_of ts))) (λ ss. Ok (strategy t ss)) ≡ and_then (and_then r (λ ts. Ok (t ∷ ts))) (λ ts. Ok (strategies_of ts))
grown t (Ok ts) = refl
grown t (Err c) = refl

grown-any : (r : Result Strategy Complaint) (s : Result (List Strategy) Complaint) → and_then r (λ t. and_then (and_then s (λ ts. Ok (strategies_of ts))) (λ ss. Ok (strategy t ss))) ≡ and_then (and_then r (λ t. and_then s (λ ts. Ok (t ∷ ts)))) (λ ts. Ok (strategies_of ts))
grown-any (Ok t) s = grown t s
grown-any (Err c) s = refl

pub each_tree-items : (format : ℕ) (here : Path) (i : ℕ) (ds : Items) → each_tree format here i ds ≡ and_then (items_form (tree_form format) here i ds) (λ ts. Ok (strategies_of ts))
each_tree-items format here i no_items = refl
each_tree-items format here i (item d ds) =
    ap (λ r. and_then (tree_form format (index here i) d) (λ t. and_then r (λ ss. Ok (strategy t ss)))) (each_tree-items format here (suc i) ds)
    ∙ grown-any (tree_form format (index here i) d) (items_form (tree_form format) here (suc i) ds)

pub count-each : (ts : List Strategy) → strategy_count (strategies_of ts) ≡ length ts
count-each [] = refl
count-each (t ∷ ts) = ap suc (count-each ts)

pub trees-each : (ts : List Strategy) → are_trees (strategies_of ts) ≡ list_all is_tree ts
trees-each [] = refl
trees-each (t ∷ ts) = ap (λ b. is_tree t && b) (trees-each ts)

pub trees-fit-each : (format : ℕ) (ts : List Strategy) → trees_fit format (strategies_of ts) ≡ list_all (tree_fits format) ts
trees-fit-each format [] = refl
trees-fit-each format (t ∷ ts) = ap (λ b. tree_fits format t && b) (trees-fit-each format ts)

-- the view of children is made of theirs
pub strategies_view-each : (ts : Trees) → strategies_view ts ≡ strategies_of (map strategy_view ts.trees.items)
strategies_view-each ts = fold_out-Trees _ _ tree_step trees_step ts

pub passed : {A B : Type 0} (f : FormFault) (r : Result A Complaint) (k : A → Result B Complaint) → r ≡ fault_result f r → and_then r k ≡ fault_result f (and_then r k)
passed (Form kind path) r k e = ap (λ s. and_then s k) e
passed NoMemory r k e = refl

module _ (format : ℕ) (here : Path) (ds : Items) (d : Data) (n : ℕ) (is : d ≡ array ds) (same : n ≡ item_count ds) (fits : counted 1 16 here n ≡ Ok tt) where
  pub trees-array : trees_form format here d ≡ and_then (items_form (tree_form format) here 0 ds) (λ ts. Ok (strategies_of ts))
  trees-array =
      ap (trees_form format here) is
      ∙ ap (λ r. and_then r (λ u. each_tree format here 0 ds)) (ap (counted 1 16 here) (sym same) ∙ fits)
      ∙ each_tree-items format here 0 ds

  pub trees-stop : (f : FormFault) → items_form (tree_form format) here 0 ds ≡ fault_result f (items_form (tree_form format) here 0 ds) → trees_form format here d ≡ fault_result f (trees_form format here d)
  trees-stop f e = trees-array ∙ passed f (items_form (tree_form format) here 0 ds) (λ ts. Ok (strategies_of ts)) e ∙ ap (fault_result f) (sym trees-array)

  pub trees-read : (ts : List Strategy) → items_form (tree_form format) here 0 ds ≡ Ok ts → trees_form format here d ≡ Ok (strategies_of ts)
  trees-read ts e = trees-array ∙ ap (λ r. and_then r (λ us. Ok (strategies_of us))) e

  pub trees-kept : (ts : List Strategy) → items_form (tree_form format) here 0 ds ≡ Ok ts → is_between 1 16 n ≡ true → list_all is_tree ts ≡ true → (is_between 1 16 (strategy_count (strategies_of ts)) && are_trees (strategies_of ts)) ≡ true
  trees-kept ts e b h =
      ap (λ m. is_between 1 16 m && are_trees (strategies_of ts)) (count-each ts ∙ items-count (tree_form format) here 0 ds ts e ∙ sym same)
      ∙ ap (λ c. c && are_trees (strategies_of ts)) b
      ∙ trees-each ts ∙ h

-- ---- the two of a prefix node

module _ (format : ℕ) (here : Path) (l r : Data) where
  abbrev pub both : Result Strategy Complaint
  both = two_trees format here (item l (item r no_items))

  pub both-read : (a b : Strategy) → tree_form format (index here 0) l ≡ Ok a → tree_form format (index here 1) r ≡ Ok b → both ≡ Ok (prefix a b)
  both-read a b e h =
      ap (λ o. and_then o (λ left. and_then (tree_form format (index here 1) r) (λ right. Ok (prefix left right)))) e
      ∙ ap (λ o. and_then o (λ right. Ok (prefix a right))) h

  pub left-stops : (f : FormFault) → tree_form format (index here 0) l ≡ fault_result f (tree_form format (index here 0) l) → both ≡ fault_result f both
  left-stops f e = passed f (tree_form format (index here 0) l) (λ left. and_then (tree_form format (index here 1) r) (λ right. Ok (prefix left right))) e

  pub right-stops : (f : FormFault) (a : Strategy) → tree_form format (index here 0) l ≡ Ok a → tree_form format (index here 1) r ≡ fault_result f (tree_form format (index here 1) r) → both ≡ fault_result f both
  right-stops f a e h =
      let left : both ≡ and_then (tree_form format (index here 1) r) (λ right. Ok (prefix a right)) = ap (λ o. and_then o (λ left. and_then (tree_form format (index here 1) r) (λ right. Ok (prefix left right)))) e in
      left ∙ passed f (tree_form format (index here 1) r) (λ right. Ok (prefix a right)) h ∙ ap (fault_result f) (sym left)

-- of a list of two in the code
module _ (format : ℕ) (here : Path) where
  abbrev two : Data → Data → Result Strategy Complaint
  two l r = two_trees format here (item l (item r no_items))

  pub both-are : (xs : List Json) (l r : Json) → length xs ≡ 2 → l ≡ get_or xs 0 l → r ≡ get_or xs 1 r → two_trees format here (json_items xs) ≡ two (json_view l) (json_view r)
  both-are [] l r n e h = absurd (omega arith)
  both-are (x ∷ []) l r n e h = absurd (omega arith)
  both-are (x ∷ y ∷ []) l r n e h = ap (λ j. two (json_view j) (json_view y)) (sym e) ∙ ap (λ j. two (json_view l) (json_view j)) (sym h)
  both-are (x ∷ y ∷ z ∷ xs) l r n e h = absurd (omega arith)

  -- where the first of them stops
  pub first-stops : (xs : List Json) (l : Json) (f : FormFault) → length xs ≡ 2 → l ≡ get_or xs 0 l → tree_form format (index here 0) (json_view l) ≡ fault_result f (tree_form format (index here 0) (json_view l)) → two_trees format here (json_items xs) ≡ fault_result f (two_trees format here (json_items xs))
  first-stops [] l f n e h = absurd (omega arith)
  first-stops (x ∷ []) l f n e h = absurd (omega arith)
  first-stops (x ∷ y ∷ []) l f n e h = left-stops format here (json_view x) (json_view y) f (subst (λ j. tree_form format (index here 0) (json_view j) ≡ fault_result f (tree_form format (index here 0) (json_view j))) e h)
  first-stops (x ∷ y ∷ z ∷ xs) l f n e h = absurd (omega arith)

pub exactly-two : (n : ℕ) → is_between 2 2 n ≡ true → n ≡ 2
exactly-two n h = grind (arith, nat_tests)

-- ---- depths of JSON trees

member-deep : (k : Text) (ms : Members) (d : Data) → get_member k ms ≡ Some d → depth d ≤ members_depth ms
member-deep k no_members d e = absurd (cc)
member-deep k (member l x ms) d e = step (slice_cmp nat_cmp k l) (λ h. member-deep k ms d h) e
  where
    some : (a b : Data) → Some a ≡ Some b → a ≡ b
    some a b p = cc

    step : (o : Ordering) → (get_member k ms ≡ Some d → depth d ≤ members_depth ms) → match_ordering o (get_member k ms) (Some x) (get_member k ms) ≡ Some d → depth d ≤ max (depth x) (members_depth ms)
    step Less f p = let h = f p in omega arith
    step Equal f p = let q = ap depth (some x d p) in omega arith
    step Greater f p = let h = f p in omega arith

pub get-deep : (k : Text) (x d : Data) → get k x ≡ Some d → depth d < depth x
get-deep k (object ms) d e = let h = member-deep k ms d e in omega arith
get-deep k x d e = absurd (cc)

pub item-deep : (xs : List Json) (i : ℕ) (d : Json) → i < length xs → depth (json_view (get_or xs i d)) ≤ items_depth (json_items xs)
item-deep [] i d h = absurd (omega arith)
item-deep (x ∷ xs) zero d h = omega arith
item-deep (x ∷ xs) (suc i) d h = let g = item-deep xs i d (omega arith) in omega arith
