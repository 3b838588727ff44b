use Rattle.tv_parts.proofs.Changes.{arrive-below, close-below, arrive-shows, close-shows, arrive-not_whole, close-not_whole, arrive-there, there-arrive, close-there, there-close}
use Rattle.tv_parts.proofs.laws.trees_that_change.Goals as goal

pub returns : goal.returns
returns c = record {
  stay = record { arrival = arrive-below; close = close-below };
  show = record { arrival = λ q w r. arrive-shows q w r; close = λ q n r. close-shows q n r };
  whole = record { arrival = λ q r. arrive-not_whole q r; close = λ q n r. close-not_whole q n r };
  there = record {
    arrival = λ q r. (λ h. arrive-there q r h, λ h. there-arrive q r h.0 h.1);
    close = λ q n r. (λ h. close-there q n r h, λ h. there-close q n r h.0 h.1);
  };
}
