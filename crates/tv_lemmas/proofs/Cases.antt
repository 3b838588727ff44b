-- Proofs by a test, or by which of two facts holds.
use Rattle.std.specs.Prelude.{◌≡◌, refl, Bool, true, false, ◌||◌, ◌⊎◌}
use Rattle.std.proofs.Common.{inl, inr}

pub on_test : {C : Type 0} (b : Bool) → (b ≡ true → C) → (b ≡ false → C) → C
on_test true f g = f refl
on_test false f g = g refl

pub on_either : {A B C : Type 0} → A ⊎ B → (A → C) → (B → C) → C
on_either (inl a) f g = f a
on_either (inr b) f g = g b

-- where one of two tests passes
pub on_or : {C : Type 0} (a b : Bool) → (a || b) ≡ true → (a ≡ true → C) → (b ≡ true → C) → C
on_or true b h f g = f refl
on_or false b h f g = g h
