-- Orders of places and names, and lists that are kept in order.
use Rattle.std.specs.Prelude.{List, [], ◌∷◌, Bool, true, false, ◌&&◌, ◌==◌, Option, Some, None, if◌then◌else◌}
use Rattle.std.specs.declared.cmp.Ordering.{Ordering}
use Rattle.std.specs.Ordering.{nat_cmp, ordering_then, match_ordering}
use Rattle.std.specs.Cmp.Lexicographic.{slice_cmp, pointwise}
use Rattle.tv_value.specs.Nested.{Place}
use Rattle.tv_value.specs.Values.{Name, JobName}

-- index by index, a prefix before its extensions
abbrev pub place_cmp : Place → Place → Ordering
place_cmp = slice_cmp nat_cmp

-- by bytes
abbrev pub name_cmp : Name → Name → Ordering
name_cmp = slice_cmp nat_cmp

-- level by level by step name, then place
abbrev pub job_name_cmp : JobName → JobName → Ordering
job_name_cmp = slice_cmp (λ a b. ordering_then (name_cmp a.0 b.0) (place_cmp a.1 b.1))

abbrev pub same_name : Name → Name → Bool
same_name = pointwise ◌==◌

abbrev pub same_job : JobName → JobName → Bool
same_job = pointwise (λ a b. same_name a.0 b.0 && same_name a.1 b.1)

-- q is the first part of r
abbrev pub is_prefix : Place → Place → Bool
is_prefix [] r = true
is_prefix (i ∷ q) [] = false
is_prefix (i ∷ q) (j ∷ r) = i == j && is_prefix q r

-- with x in its place, once
abbrev pub put_in_order : {A : Type 0} → (A → A → Ordering) → A → List A → List A
put_in_order cmp x [] = x ∷ []
put_in_order cmp x (y ∷ ys) = match_ordering (cmp x y) (x ∷ y ∷ ys) (y ∷ ys) (y
    ∷ put_in_order cmp x ys)

-- in order, each once
abbrev pub in_order : {A : Type 0} → (A → A → Ordering) → List A → List A
in_order cmp [] = []
in_order cmp (x ∷ xs) = put_in_order cmp x (in_order cmp xs)

-- with each of these in its place, the last of them first
abbrev pub put_all : {A : Type 0} → (A → A → Ordering) → List A → List A → List A
put_all cmp [] ys = ys
put_all cmp (x ∷ xs) ys = put_in_order cmp x (put_all cmp xs ys)

-- the first thing of that name
abbrev pub named : {A : Type 0} → Name → List (Name × A) → Option A
named n [] = None
named n (m ∷ ms) = if same_name n m.0 then Some m.1 else named n ms
