use Rattle.tv_parts.proofs.Changes.{arrive-shows, close-shows, arrive-there, there-arrive, close-there, there-close}
use Rattle.tv_stream.proofs.Mapped.{arrive-none_whole, close-none_whole}
use Rattle.tv_stream.proofs.laws.changes_of_any.Goals as goal

pub returns : goal.returns
returns g c = record {
  known = record { arrival = λ q x r. arrive-shows q x r; close = λ q n r. close-shows q n r };
  before = record { arrival = λ q r. arrive-none_whole q r; close = λ q n r. close-none_whole q n r };
  there = record {
    arrival = λ q r. (λ h. arrive-there q r h, λ h. there-arrive q r h.0 h.1);
    close = λ q n r. (λ h. close-there q n r h, λ h. there-close q n r h.0 h.1);
  };
}
