-- What holds of all things of a list, and of names in it.
use Rattle.std.specs.Prelude.{◌≡◌, refl, List, [], ◌∷◌, map, filter, flat_map, Bool, true, false, ◌||◌, Some, is_some, if◌then◌else◌}
use Rattle.std.specs.List.{list_any}
use Rattle.std.proofs.Common.{sym, subst, ◌∙◌, cond}
use Rattle.tv_lemmas.specs.Members.{Each}
use Rattle.tv_value.specs.Values.{Name}
use Rattle.tv_value.specs.Orders.{same_name, named}
use Rattle.tv_value.proofs.NameLemmas.{same_name-is}
use Rattle.tv_strategy.proofs.ThereAll.{each-parts}

-- ---- lists

pub two-each : {X : Type 0} (P Q : X → Type 0) (xs : List X) → Each P xs → Each Q xs → Each (λ x. P x × Q x) xs
two-each P Q [] g h = tt
two-each P Q (x ∷ xs) g h = ((g.0, h.0), two-each P Q xs g.1 h.1)

-- what holds of each thing holds of the one that a name finds
pub named-each : {A : Type 0} (P : Name × A → Type 0) (n : Name) (xs : List (Name × A)) (a : A) → Each P xs → named n xs ≡ Some a → P (n, a)
named-each P n [] a e h = cc
named-each {A = A} P n (x ∷ xs) a e h = cases (same_name n x.0) refl h (named-each P n xs a e.1)
  where
    cases : (b : Bool) → same_name n x.0 ≡ b → (if b then Some x.1 else named n xs) ≡ Some a → (named n xs ≡ Some a → P (n, a)) → P (n, a)
    cases true q k rec = let f : x.1 ≡ a = cc in subst (λ c. P (n, c)) f (subst (λ m. P (m, x.1)) (sym (same_name-is n x.0 q)) e.0)
    cases false q k rec = rec k

pub split-each : {X Y : Type 0} (Q : Y → Type 0) (g : X → List Y) (xs : List X) → Each Q (flat_map g xs) → Each (λ x. Each Q (g x)) xs
split-each Q g [] h = tt
split-each Q g (x ∷ xs) h = let b = each-parts Q (g x) (flat_map g xs) h in (b.0, split-each Q g xs b.1)

pub of-filter : {X : Type 0} (Q : X → Type 0) (p : X → Bool) (xs : List X) → Each Q (filter p xs) → Each (λ x. p x ≡ true → Q x) xs
of-filter Q p [] h = tt
of-filter {X = X} Q p (x ∷ xs) h = cases (p x) refl h (of-filter Q p xs)
  where
    cases : (b : Bool) → p x ≡ b → Each Q (cond b (x ∷ filter p xs) (filter p xs)) → (Each Q (filter p xs) → Each (λ y. p y ≡ true → Q y) xs) → Each (λ y. p y ≡ true → Q y) (x ∷ xs)
    cases true e k rec = (λ g. k.0, rec k.1)
    cases false e k rec = (λ g. let w : true ≡ false = sym g ∙ e in cc, rec k)

-- ---- names

pub any-named : {A : Type 0} (n : Name) (xs : List (Name × A)) → is_some (named n xs) ≡ true → list_any (same_name n) (map (λ x. x.0) xs) ≡ true
any-named n [] h = h
any-named n (x ∷ xs) h = cases (same_name n x.0) h (any-named n xs)
  where
    cases : (b : Bool) → is_some (if b then Some x.1 else named n xs) ≡ true → (is_some (named n xs) ≡ true → list_any (same_name n) (map (λ x. x.0) xs) ≡ true) → (b || list_any (same_name n) (map (λ x. x.0) xs)) ≡ true
    cases true k rec = refl
    cases false k rec = rec k

pub named-any : {A : Type 0} (n : Name) (xs : List (Name × A)) → list_any (same_name n) (map (λ x. x.0) xs) ≡ true → is_some (named n xs) ≡ true
named-any n [] h = h
named-any n (x ∷ xs) h = cases (same_name n x.0) h (named-any n xs)
  where
    cases : (b : Bool) → (b || list_any (same_name n) (map (λ x. x.0) xs)) ≡ true → (list_any (same_name n) (map (λ x. x.0) xs) ≡ true → is_some (named n xs) ≡ true) → is_some (if b then Some x.1 else named n xs) ≡ true
    cases true k rec = refl
    cases false k rec = rec k
