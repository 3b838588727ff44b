-- A text that has too many parts is not split.
use Rattle.std.specs.Prelude.{◌≡◌, ◌<◌, ◌≤◌, [], ◌∷◌, codes, if◌then◌else◌, length}
use Rattle.std.proofs.Common.{ap, arith}
use Rattle.std.proofs.lemmas.Bool.{le-ltb}
use Rattle.tv_value.specs.Values.{Text}
use Rattle.tv_gate.specs.Outcomes.{bad}
use Rattle.tv_local.specs.Table.{list_limit, one_list, split_by}
use Rattle.tv_local.specs.Texts.{parts}

pub split-long : (by t : Text) → 0 < length by → list_limit ≤ length (parts by t) → split_by t by ≡ bad (codes "split too long")
split-long [] t some many = absurd (omega (arith, some))
split-long (c ∷ s) t some many =
    ap (λ b. if b then one_list (parts (c ∷ s) t) else bad (codes "split too long"))
    (le-ltb (length (parts (c ∷ s) t)) list_limit many)
