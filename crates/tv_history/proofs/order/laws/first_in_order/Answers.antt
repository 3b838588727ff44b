use Rattle.tv_history.proofs.Documents.{first-going, first-offered, going-plain}
use Rattle.tv_model.specs.Meanings.{meaning}
use Rattle.tv_history.proofs.Handing.{first-same}
use Rattle.std.specs.Prelude.{refl}
use Rattle.tv_history.proofs.Held.{own-held}
use Rattle.tv_history.proofs.order.laws.first_in_order.Goals as goal

pub returns : goal.returns
returns c = record { offered = λ gives d past l o held are. first-offered gives d past l o held are; going = λ gives d past l o held are. first-going gives d past l o held are; plain = λ gives d past l j i. going-plain gives d past l j i; handing = λ gives d past q s. first-same gives (meaning gives d) past q s; held = λ gives d past passes. own-held (meaning gives d) past passes; row = (refl, refl) }
