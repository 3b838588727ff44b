-- Tellings that are added to a list, whatever strategy has the leaf.
use Rattle.std.specs.Prelude.{◌≡◌, List, ◌++◌, map}
use Rattle.std.proofs.Common.{ap, ◌∙◌, append_assoc}
use Rattle.tv_value.specs.Strategies.{Strategy}
use Rattle.tv_matching.specs.Told.{Told}
use Rattle.tv_match.specs.declared.told.Told as code
use Rattle.tv_match.specs.Seen.{told_view}
use Rattle.tv_telling.specs.Views.{AddsTellings}

-- some tellings, and then others
pub adds-both : (a b c : List code.Told) (f g h : Strategy → List Told) → AddsTellings a b f → AddsTellings b c g → ((s : Strategy) → f s ++ g s ≡ h s) → AddsTellings a c h
adds-both a b c f g h x y e = λ s. y s ∙ ap (λ t. t ++ g s) (x s) ∙ append_assoc (map (told_view s) a) (f s) (g s) ∙ ap (λ t. map (told_view s) a ++ t) (e s)

pub adds-same : (a b : List code.Told) (f h : Strategy → List Told) → AddsTellings a b f → ((s : Strategy) → f s ≡ h s) → AddsTellings a b h
adds-same a b f h x e = λ s. x s ∙ ap (λ t. map (told_view s) a ++ t) (e s)
