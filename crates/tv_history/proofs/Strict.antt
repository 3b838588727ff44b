-- Job order is strict: no two jobs stand before each other, and no name before its own first part.
use Rattle.std.specs.Prelude.{◌≡◌, refl, ℕ, zero, suc, ◌⊎◌, List, [], ◌∷◌, ◌++◌, Bool, true, false, ◌==◌, if◌then◌else◌, nat_lt, Option, Some, None}
use Rattle.std.specs.Option.{option_map_or}
use Rattle.std.specs.Cmp.Lexicographic.{bytes_decides}
use Rattle.std.proofs.Common.{arith, sym, ap, subst, ◌∙◌, inl, inr, eqb-true}
use Rattle.std.proofs.lemmas.Bool.{ltb-true, false_from_ne_true}
use Rattle.std.specs.Cmp.{first_so, second_so}
use Rattle.tv_lemmas.specs.Members.{In}
use Rattle.tv_lemmas.proofs.Members.{each_in}
use Rattle.tv_value.specs.Nested.{Place}
use Rattle.tv_value.specs.Orders.{named, same_name}
use Rattle.tv_value.specs.Values.{JobName, Name}
use Rattle.tv_flow.specs.Flows.{Flow, Step}
use Rattle.tv_model.specs.instance.Ranks.{ranked}
use Rattle.tv_model.specs.Jobs.{Job}
use Rattle.tv_model.proofs.Tests.{true≠false, both_true}
use Rattle.tv_model.proofs.Whole.{not-longer}
use Rattle.tv_history.proofs.OneWorker.{Before, one-first}
use Rattle.tv_model.specs.JobOrder.{AllPairs, job_before, names_before, step_flow, place_before, rank_in, same_spot, spot_before}
use Rattle.tv_history.proofs.OrderLemmas.{Within}

both-less : (i j : ℕ) → nat_lt i j ≡ true → nat_lt j i ≡ true → ⊥
both-less i j h k = omega (arith, ltb-true i j h, ltb-true j i k)

less-itself : (i : ℕ) → nat_lt i i ≡ true → ⊥
less-itself i h = both-less i i h h

pub place-strict : (q r : Place) → place_before q r ≡ true → place_before r q ≡ true → ⊥
place-strict q [] h k = true≠false (sym h)
place-strict [] (j ∷ r) h k = true≠false (sym k)
place-strict (i ∷ q) (j ∷ r) h k = by (i == j) (j == i) refl refl h k (λ u v. place-strict q r u v)
  where
    by : (b c : Bool) → (i == j) ≡ b → (j == i) ≡ c → (if b then place_before q r else nat_lt i j) ≡ true → (if c then place_before r q else nat_lt j i) ≡ true → (place_before q r ≡ true → place_before r q ≡ true → ⊥) → ⊥
    by true true e f u v rec = rec u v
    by true false e f u v rec = less-itself j (subst (λ z. nat_lt j z ≡ true) (eqb-true i j e) v)
    by false true e f u v rec = less-itself i (subst (λ z. nat_lt i z ≡ true) (eqb-true j i f) u)
    by false false e f u v rec = both-less i j u v

pub spot-strict : (steps : List (Name × Step)) (x y : Name × Place) → spot_before steps x y ≡ true → spot_before steps y x ≡ true → ⊥
spot-strict steps x y h k = by (same_name x.0 y.0) (same_name y.0 x.0) refl refl h k
  where
    same : (a b : Name) → same_name a b ≡ true → rank_in steps a ≡ rank_in steps b
    same a b e = ap (λ n. rank_in steps n) ((bytes_decides a b).0 e)

    by : (b c : Bool) → same_name x.0 y.0 ≡ b → same_name y.0 x.0 ≡ c → (if b then place_before x.1 y.1 else nat_lt (rank_in steps y.0) (rank_in steps x.0)) ≡ true → (if c then place_before y.1 x.1 else nat_lt (rank_in steps x.0) (rank_in steps y.0)) ≡ true → ⊥
    by true true e f u v = place-strict x.1 y.1 u v
    by true false e f u v = less-itself (rank_in steps x.0) (subst (λ z. nat_lt (rank_in steps x.0) z ≡ true) (sym (same x.0 y.0 e)) v)
    by false true e f u v = less-itself (rank_in steps y.0) (subst (λ z. nat_lt (rank_in steps y.0) z ≡ true) (sym (same y.0 x.0 f)) u)
    by false false e f u v = both-less (rank_in steps y.0) (rank_in steps x.0) u v

pub same-spots : (x y : Name × Place) → same_spot x y ≡ true → x ≡ y
same-spots x y h =
    let e = (bytes_decides x.0 y.0).0 (first_so (same_name x.0 y.0) (same_name x.1 y.1) h) in
    let f = (bytes_decides x.1 y.1).0 (second_so (same_name x.0 y.0) (same_name x.1 y.1) h) in λ i. (e i, f i)

pub spot-itself : (x : Name × Place) → same_spot x x ≡ true
spot-itself x = both_true (same_name x.0 x.0) (same_name x.1 x.1) ((bytes_decides x.0 x.0).1 refl) ((bytes_decides x.1 x.1).1 refl)

spot-swap : (x y : Name × Place) → same_spot x y ≡ true → same_spot y x ≡ true
spot-swap x y h = subst (λ z. same_spot z x ≡ true) (same-spots x y h) (spot-itself x)

option-strict : (o : Option Name) (f g : Name → Bool) → ((n : Name) → f n ≡ true → g n ≡ true → ⊥) → option_map_or f o false ≡ true → option_map_or g o false ≡ true → ⊥
option-strict None f g r h k = true≠false (sym h)
option-strict (Some n) f g r h k = r n h k

names-strict : (deeper : Name → JobName → JobName → Bool) (steps : List (Name × Step)) → ((g : Name) (a b : JobName) → deeper g a b ≡ true → deeper g b a ≡ true → ⊥) → (a b : JobName) → names_before deeper steps a b ≡ true → names_before deeper steps b a ≡ true → ⊥
names-strict deeper steps r a [] h k = true≠false (sym h)
names-strict deeper steps r [] (y ∷ b) h k = true≠false (sym k)
names-strict deeper steps r (x ∷ a) (y ∷ b) h k = by (same_spot x y) (same_spot y x) refl refl h k
  where
    by : (c d : Bool) → same_spot x y ≡ c → same_spot y x ≡ d → (if c then option_map_or (λ g. deeper g a b) (step_flow steps x.0) false else spot_before steps x y) ≡ true → (if d then option_map_or (λ g. deeper g b a) (step_flow steps y.0) false else spot_before steps y x) ≡ true → ⊥
    by true true e f u v = option-strict (step_flow steps x.0) (λ g. deeper g a b) (λ g. deeper g b a) (λ g p q. r g a b p q) u (subst (λ (z : Name × Place). option_map_or (λ g. deeper g b a) (step_flow steps z.0) false ≡ true) (sym (same-spots x y e)) v)
    by true false e f u v = true≠false (sym (spot-swap x y e) ∙ f)
    by false true e f u v = true≠false (sym (spot-swap y x f) ∙ e)
    by false false e f u v = spot-strict steps x y u v

flow-strict : (o : Option Flow) (r s : Flow → Bool) → ((f : Flow) → r f ≡ true → s f ≡ true → ⊥) → option_map_or r o false ≡ true → option_map_or s o false ≡ true → ⊥
flow-strict None r s g h k = true≠false (sym h)
flow-strict (Some f) r s g h k = g f h k

-- no two names stand before each other
pub job-strict : (flows : List (Name × Flow)) (k : ℕ) (f : Name) (a b : JobName) → job_before flows k f a b ≡ true → job_before flows k f b a ≡ true → ⊥
job-strict flows zero f a b h g = true≠false (sym h)
job-strict flows (suc k) f a b h g =
    flow-strict (named f flows) (λ (fl : Flow). names_before (job_before flows k) (ranked fl.steps) a b) (λ (fl : Flow). names_before (job_before flows k) (ranked fl.steps) b a) (λ fl u v. names-strict (job_before flows k) (ranked fl.steps) (λ n c d p q. job-strict flows k n c d p q) a b u v) h g

-- what is longer stands after
names-longer : (deeper : Name → JobName → JobName → Bool) (steps : List (Name × Step)) → ((g : Name) (a : JobName) (c : Name × Place) (r : JobName) → deeper g (a ++ c ∷ r) a ≡ true → ⊥) → (a : JobName) (c : Name × Place) (r : JobName) → names_before deeper steps (a ++ c ∷ r) a ≡ true → ⊥
names-longer deeper steps h [] c r e = true≠false (sym e)
names-longer deeper steps h (x ∷ a) c r e = by (same_spot x x) (spot-itself x) e
  where
    none : (o : Option Name) → option_map_or (λ g. deeper g (a ++ c ∷ r) a) o false ≡ true → ⊥
    none None k = true≠false (sym k)
    none (Some g) k = h g a c r k

    by : (b : Bool) → b ≡ true → (if b then option_map_or (λ g. deeper g (a ++ c ∷ r) a) (step_flow steps x.0) false else spot_before steps x x) ≡ true → ⊥
    by true f k = none (step_flow steps x.0) k
    by false f k = true≠false (sym f)

pub job-longer : (flows : List (Name × Flow)) (k : ℕ) (f : Name) (a : JobName) (c : Name × Place) (r : JobName) → job_before flows k f (a ++ c ∷ r) a ≡ true → ⊥
job-longer flows zero f a c r e = true≠false (sym e)
job-longer flows (suc k) f a c r e = by (named f flows) e (λ g b d s h. job-longer flows k g b d s h)
  where
    by : (o : Option Flow) → option_map_or (λ (fl : Flow). names_before (job_before flows k) (ranked fl.steps) (a ++ c ∷ r) a) o false ≡ true → ((g : Name) (b : JobName) (d : Name × Place) (s : JobName) → job_before flows k g (b ++ d ∷ s) b ≡ true → ⊥) → ⊥
    by None h rec = true≠false (sym h)
    by (Some fl) h rec = names-longer (job_before flows k) (ranked fl.steps) rec a c r h

-- ---- in a list in job order

pub pair-before : {A : Type 0} (R : A → A → Type 0) (xs : List A) → AllPairs R xs → (x y : A) → Before x y xs → R x y
pair-before R [] p x y b = absurd b
pair-before R (z ∷ zs) p x y (inl b) = subst (λ w. R w y) b.0 (each_in (R z) zs p.0 y b.1)
pair-before R (z ∷ zs) p x y (inr b) = pair-before R zs p.1 x y b

-- a job stands before those inside it
abbrev pub PrefixFirst : List Job → Type 0
PrefixFirst js = (j y : Job) → In j js → In y js → (c : Name × Place) (r : JobName) → y.name ≡ j.name ++ c ∷ r → Before j y js

pub prefix-first : (flows : List (Name × Flow)) (k : ℕ) (f : Name) (js : List Job) → AllPairs (Within [] (job_before flows k f)) js → PrefixFirst js
prefix-first flows k f js p j y h i c r e = by (one-first js j y h i)
  where
    by : (j ≡ y) ⊎ (Before j y js ⊎ Before y j js) → Before j y js
    by (inl q) = absurd (not-longer j.name c r (ap (λ (z : Job). z.name) q ∙ e))
    by (inr (inl b)) = b
    by (inr (inr b)) =
        let w = pair-before (Within [] (job_before flows k f)) js p y j b in
        absurd (job-longer flows k f j.name c r (subst (λ n. job_before flows k f n j.name ≡ true) e (subst (λ n. job_before flows k f y.name n ≡ true) (sym w.3) (subst (λ n. job_before flows k f n w.1 ≡ true) (sym w.2) w.4))))

pub order-strict : (flows : List (Name × Flow)) (k : ℕ) (f : Name) (a b : JobName) → job_before flows k f a b ≡ true → job_before flows k f b a ≡ false
order-strict flows k f a b h = false_from_ne_true (job_before flows k f b a) (λ e. job-strict flows k f a b h e)
