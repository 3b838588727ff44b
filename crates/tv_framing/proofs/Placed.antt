-- What is placed at the outermost place stays as it is.
use Rattle.std.specs.Prelude.{◌≡◌, refl, List, [], ◌∷◌, map}
use Rattle.std.proofs.Common.{ap}
use Rattle.tv_matching.specs.Items.{Bound, Item, Stopped}
use Rattle.tv_framing.specs.PortTellings.{placed}

pub placed-all : (xs : List (Item Bound Stopped)) → map (placed []) xs ≡ xs
placed-all [] = refl
placed-all (x ∷ xs) = ap (λ l. x ∷ l) (placed-all xs)
