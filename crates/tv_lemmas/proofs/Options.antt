-- Whether an option or a result holds a value.
use Rattle.std.specs.Prelude.{◌≡◌, refl, Bool, true, false, Option, Some, None, is_some, is_none, Result, Ok, Err, OnErr, option_and_then}
use Rattle.std.specs.Option.{option_map, option_map_or}
use Rattle.std.proofs.Common.{sym}
use Rattle.std.proofs.lemmas.Bool.{true≢false}

pub is_none-none : {A : Type 0} (o : Option A) → is_none o ≡ true → o ≡ None
is_none-none None h = refl
is_none-none (Some x) h = cc

pub is_some-some : {A : Type 0} (o : Option A) → is_some o ≡ true → (x : A) × (o ≡ Some x)
is_some-some None h = absurd (true≢false (sym h))
is_some-some (Some x) h = (x, refl)

pub not_some-none : {A : Type 0} (o : Option A) → is_some o ≡ false → o ≡ None
not_some-none None h = refl
not_some-none (Some x) h = absurd (true≢false h)

pub some-not_none : {A : Type 0} (o : Option A) (x : A) → o ≡ Some x → o ≡ None → ⊥
some-not_none None x h k = absurd (cc)
some-not_none (Some y) x h k = absurd (cc)

pub is_some-map : {A B : Type 0} (f : A → B) (o : Option A) → is_some (option_map f o) ≡ is_some o
is_some-map f None = refl
is_some-map f (Some x) = refl

pub and_then-map : {A B C : Type 0} (f : A → B) (g : B → Option C) (o : Option A) → option_and_then g (option_map f o) ≡ option_and_then (λ x. g (f x)) o
and_then-map f g None = refl
and_then-map f g (Some x) = refl

pub map_or-some : {A : Type 0} (p : A → Bool) (o : Option A) → option_map_or p o false ≡ true → (x : A) × (o ≡ Some x) × (p x ≡ true)
map_or-some p None h = absurd (true≢false (sym h))
map_or-some p (Some x) h = (x, refl, h)

pub on-err : {A E P : Type 0} (r : Result A E) → P → OnErr r P
on-err (Ok x) p = tt
on-err (Err e) p = p
