-- What is read by the form of a strategy is in that form, and its own JSON is tidy and no deeper than what was read.
use Rattle.std.specs.Prelude.{◌≡◌, ℕ, suc, ◌≤◌, [], ◌∷◌, Bool, true, false, ◌&&◌, if◌then◌else◌, codes, Option, Some, None, Result, Ok, Err, refl}
use Rattle.std.specs.Ordering.{nat_cmp, match_ordering}
use Rattle.std.specs.Cmp.Lexicographic.{slice_cmp}
use Rattle.std.proofs.Common.{Ordering, Less, Equal, Greater, ap, subst, ◌∙◌, arith}
use Rattle.std.proofs.lemmas.Bool.{and_from}
use Rattle.serde_json.specs.Data.{Data, null, boolean, number, string, array, object, Items, no_items, item, Members, no_members, member, depth, items_depth, members_depth}
use Rattle.tv_value.specs.Readings.{item_count}
use Rattle.tv_value.specs.Strategies.{Strategy, port, cross, dot, prefix, Strategies, strategy}
use Rattle.tv_value.specs.Values.{Text}
use Rattle.tv_flow.specs.Complaints.{Path, Complaint, key, index, and_then}
use Rattle.tv_flow.specs.Forms.{children_form, counted, each_tree, fields_form, in_second, is_second, name_or_not, node_form, pair_form, prefix_form, tree_form, trees_form, two_trees}
use Rattle.tv_flow.specs.Formed.{are_trees, is_between, is_tree, strategy_count}
use Rattle.tv_flow.proofs.Shapes.{given-ok, ok}
use Rattle.tv_json.specs.Documents.{all_trees, tree_json}
use Rattle.tv_json.proofs.KeptForms.{IsKept, Keeps, after, counted-ok, name-ok, some}
use Rattle.tv_json.proofs.Tidy.{AreTidy, IsShort}

never : {A : Type 0} {P : Type 0} (c : Complaint) (a : A) → ◌≡◌ {A = Result A Complaint} (Err c) (Ok a) → P
never c a e = absurd (cc)

nothing : {A : Type 0} {P : Type 0} (a : A) → ◌≡◌ {A = Option A} None (Some a) → P
nothing a e = absurd (cc)

-- the children of a node, whose array is at most so deep
record AreKept (m : ℕ) (ts : Strategies) : Type 0 where
  passes : (is_between 1 16 (strategy_count ts) && are_trees ts) ≡ true
  tidy : AreTidy IsShort (all_trees ts)
  shallow : suc (items_depth (all_trees ts)) ≤ m

-- children as they are read, from so many trees
record AreRead (n m : ℕ) (ts : Strategies) : Type 0 where
  count : strategy_count ts ≡ n
  passes : are_trees ts ≡ true
  tidy : AreTidy IsShort (all_trees ts)
  shallow : items_depth (all_trees ts) ≤ m

abbrev IsKeptTree : ℕ → Strategy → Type 0
IsKeptTree m t = IsKept is_tree tree_json m t

deeper : (m n : ℕ) (ts : Strategies) → m ≤ n → AreKept m ts → AreKept n ts
deeper m n ts h k = record { passes = k.passes; tidy = k.tidy; shallow = omega (arith, h, k.shallow) }

deeper-tree : (m n : ℕ) (t : Strategy) → m ≤ n → IsKeptTree m t → IsKeptTree n t
deeper-tree m n t h k = record { passes = k.passes; tidy = k.tidy; shallow = omega (arith, h, k.shallow) }

cross-kept : (m : ℕ) (ts : Strategies) → AreKept m ts → IsKeptTree (suc m) (cross ts)
cross-kept m ts k = record { passes = k.passes; tidy = (refl, (k.tidy, tt)); shallow = omega (arith, k.shallow) }

dot-kept : (m : ℕ) (ts : Strategies) → AreKept m ts → IsKeptTree (suc m) (dot ts)
dot-kept m ts k = record { passes = k.passes; tidy = (refl, (k.tidy, tt)); shallow = omega (arith, k.shallow) }

-- what a node is read as, from what its three keys are read as
module _ (here : Path) (ms : Members) where
  children-of : (r : Result Strategies Complaint) (f : Strategies → Strategy) (t : Strategy) (m : ℕ)
      → ((ts : Strategies) → AreKept m ts → IsKeptTree (suc m) (f ts)) → ((ts : Strategies) → r ≡ Ok ts → AreKept m ts)
      → and_then r (λ ts. Ok (f ts)) ≡ Ok t → IsKeptTree (suc m) t
  children-of (Ok ts) f t m g k e = subst (IsKeptTree (suc m)) (ok e) (g ts (k ts refl))
  children-of (Err c) f t m g k e = never c t e

  node-kept : (a b : Option (Result Strategies Complaint)) (c : Option (Result Strategy Complaint)) (t : Strategy) (m : ℕ)
      → ((ts : Strategies) → a ≡ Some (Ok ts) → AreKept m ts) → ((ts : Strategies) → b ≡ Some (Ok ts) → AreKept m ts)
      → ((u : Strategy) → c ≡ Some (Ok u) → IsKeptTree (suc m) u) → node_form here ms a b c ≡ Ok t → IsKeptTree (suc m) t
  node-kept (Some r) b c t m f g h e =
      children-of r cross t m (cross-kept m) (λ ts k. f ts (ap Some k))
      (after (fields_form (codes "cross" ∷ []) here (object ms)) (and_then r (λ ts. Ok (cross ts))) t e)
  node-kept None (Some r) c t m f g h e =
      children-of r dot t m (dot-kept m) (λ ts k. g ts (ap Some k))
      (after (fields_form (codes "dot" ∷ []) here (object ms)) (and_then r (λ ts. Ok (dot ts))) t e)
  node-kept None None (Some r) t m f g h e = h t (ap Some (after (fields_form (codes "prefix" ∷ []) here (object ms)) r t e))
  node-kept None None None t m f g h e = never _ t (after (fields_form (codes "cross" ∷ []) here (object ms)) _ t e)

-- one of two members, or what comes later
at-key : {A : Type 0} {P : Type 0} (o : Ordering) (first later : Option A) (a : A) → (first ≡ Some a → P) → (later ≡ Some a → P) → match_ordering o later first later ≡ Some a → P
at-key Less first later a f g e = g e
at-key Equal first later a f g e = f e
at-key Greater first later a f g e = g e

second-of : {A : Type 0} {P : Type 0} (format : ℕ) (o : Option A) (a : A) → (o ≡ Some a → P) → in_second format o ≡ Some a → P
second-of {A} {P} format o a f = by (is_second format)
  where
    by : (b : Bool) → (if b then o else None) ≡ Some a → P
    by true e = f e
    by false e = nothing a e

mutual
  tree-kept : (format : ℕ) (here : Path) (d : Data) (t : Strategy) → tree_form format here d ≡ Ok t → IsKeptTree (depth d) t
  tree-kept format here null t e = never _ t e
  tree-kept format here (boolean b) t e = never _ t e
  tree-kept format here (number n) t e = never _ t e
  tree-kept format here (string s) t e =
      let p = given-ok (name_or_not here s) (λ n. Ok (port n)) t e in
      subst (IsKeptTree 0) (ok p.1.1) (record { passes = (name-ok here s p.0 p.1.0).0; tidy = tt; shallow = omega arith })
  tree-kept format here (array ds) t e = never _ t e
  tree-kept format here (object ms) t e =
      node-kept here ms (children_form format (codes "cross") (key here (codes "cross")) ms) (children_form format (codes "dot") (key here (codes "dot")) ms)
      (in_second format (pair_form format (codes "prefix") (key here (codes "prefix")) ms)) t (members_depth ms)
      (λ ts h. children-kept format (codes "cross") (key here (codes "cross")) ms ts h)
      (λ ts h. children-kept format (codes "dot") (key here (codes "dot")) ms ts h)
      (λ u. second-of format (pair_form format (codes "prefix") (key here (codes "prefix")) ms) (Ok u) (λ h. pair-kept format (codes "prefix") (key here (codes "prefix")) ms u h))
      e

  children-kept : (format : ℕ) (k : Text) (there : Path) (ms : Members) (ts : Strategies) → children_form format k there ms ≡ Some (Ok ts) → AreKept (members_depth ms) ts
  children-kept format k there no_members ts e = nothing _ e
  children-kept format k there (member l d ms) ts e =
      at-key (slice_cmp nat_cmp k l) (Some (trees_form format there d)) (children_form format k there ms) (Ok ts)
      (λ h. deeper (depth d) (members_depth (member l d ms)) ts (omega arith) (trees-kept format there d ts (some h)))
      (λ h. deeper (members_depth ms) (members_depth (member l d ms)) ts (omega arith) (children-kept format k there ms ts h))
      e

  trees-kept : (format : ℕ) (here : Path) (d : Data) (ts : Strategies) → trees_form format here d ≡ Ok ts → AreKept (depth d) ts
  trees-kept format here null ts e = never _ ts e
  trees-kept format here (boolean b) ts e = never _ ts e
  trees-kept format here (number n) ts e = never _ ts e
  trees-kept format here (string s) ts e = never _ ts e
  trees-kept format here (array ds) ts e =
      let p = given-ok (counted 1 16 here (item_count ds)) (λ u. each_tree format here 0 ds) ts e in
      let r = each-kept format here 0 ds ts p.1.1 in
      record {
        passes = and_from _ _ (ap (is_between 1 16) r.count ∙ counted-ok 1 16 here (item_count ds) p.0 p.1.0) r.passes;
        tidy = r.tidy;
        shallow = omega (arith, r.shallow);
      }
  trees-kept format here (object ms) ts e = never _ ts e

  each-kept : (format : ℕ) (here : Path) (i : ℕ) (ds : Items) (ts : Strategies) → each_tree format here i ds ≡ Ok ts → AreRead (item_count ds) (items_depth ds) ts
  each-kept format here i no_items ts e = subst (AreRead 0 0) (ok e) (record { count = refl; passes = refl; tidy = tt; shallow = omega arith })
  each-kept format here i (item d ds) ts e =
      let p = given-ok (tree_form format (index here i) d) (λ t. and_then (each_tree format here (suc i) ds) (λ us. Ok (strategy t us))) ts e in
      let q = given-ok (each_tree format here (suc i) ds) (λ us. Ok (strategy p.0 us)) ts p.1.1 in
      let first = tree-kept format (index here i) d p.0 p.1.0 in
      let rest = each-kept format here (suc i) ds q.0 q.1.0 in
      subst (AreRead (suc (item_count ds)) (items_depth (item d ds))) (ok q.1.1)
      (record {
        count = ap suc rest.count;
        passes = and_from _ _ first.passes rest.passes;
        tidy = (first.tidy, rest.tidy);
        shallow = omega (arith, first.shallow, rest.shallow);
      })

  pair-kept : (format : ℕ) (k : Text) (there : Path) (ms : Members) (t : Strategy) → pair_form format k there ms ≡ Some (Ok t) → IsKeptTree (suc (members_depth ms)) t
  pair-kept format k there no_members t e = nothing _ e
  pair-kept format k there (member l d ms) t e =
      at-key (slice_cmp nat_cmp k l) (Some (prefix_form format there d)) (pair_form format k there ms) (Ok t)
      (λ h. deeper-tree (suc (depth d)) (suc (members_depth (member l d ms))) t (omega arith) (prefix-kept format there d t (some h)))
      (λ h. deeper-tree (suc (members_depth ms)) (suc (members_depth (member l d ms))) t (omega arith) (pair-kept format k there ms t h))
      e

  prefix-kept : (format : ℕ) (here : Path) (d : Data) (t : Strategy) → prefix_form format here d ≡ Ok t → IsKeptTree (suc (depth d)) t
  prefix-kept format here null t e = never _ t e
  prefix-kept format here (boolean b) t e = never _ t e
  prefix-kept format here (number n) t e = never _ t e
  prefix-kept format here (string s) t e = never _ t e
  prefix-kept format here (array ds) t e = two-kept format here ds t e
  prefix-kept format here (object ms) t e = never _ t e

  two-kept : (format : ℕ) (here : Path) (ds : Items) (t : Strategy) → two_trees format here ds ≡ Ok t → IsKeptTree (suc (suc (items_depth ds))) t
  two-kept format here no_items t e = never _ t e
  two-kept format here (item l no_items) t e = never _ t e
  two-kept format here (item l (item r no_items)) t e =
      let p = given-ok (tree_form format (index here 0) l) (λ left. and_then (tree_form format (index here 1) r) (λ right. Ok (prefix left right))) t e in
      let q = given-ok (tree_form format (index here 1) r) (λ right. Ok (prefix p.0 right)) t p.1.1 in
      let left = tree-kept format (index here 0) l p.0 p.1.0 in
      let right = tree-kept format (index here 1) r q.0 q.1.0 in
      subst (IsKeptTree (suc (suc (items_depth (item l (item r no_items)))))) (ok q.1.1)
      (record {
        passes = and_from _ _ left.passes right.passes;
        tidy = (refl, ((left.tidy, (right.tidy, tt)), tt));
        shallow = omega (arith, left.shallow, right.shallow);
      })
  two-kept format here (item l (item r (item d ds))) t e = never _ t e

pub tree-keeps : (format n : ℕ) → Keeps (tree_form format) is_tree tree_json n
tree-keeps format n here d t w e = deeper-tree (depth d) n t w.1 (tree-kept format here d t e)
