use Rattle.tv_binding.proofs.Finding.{known-found, found-known}
use Rattle.tv_binding.proofs.Feeding.{found-delivered, found-inside}
use Rattle.tv_binding.proofs.Wraps.{wrapping-keeps}
use Rattle.tv_binding.proofs.laws.what_is_found.Goals as goal

pub returns : goal.returns
returns c = record {
  delivered = found-delivered;
  known = λ r v q w b h. (λ f s there. found-known q r w s f there, λ k. known-found q r v w b h k);
  inside = found-inside;
  wrapped = wrapping-keeps;
}
