use Rattle.tv_stream.proofs.Mapped.{map-arrive, map-close, map-known, map-shows, map-whole, map-least, map-count, map-place, can_arrive-map, map-can_arrive, can_close-map, map-can_close}
use Rattle.tv_stream.proofs.laws.other_items.Goals as goal

pub returns : goal.returns
returns g c = record {
  changes = record { arrival = λ f q x r. map-arrive f q x r; close = λ f q n r. map-close f q n r };
  known = record {
    known = λ f q r. map-known f q r;
    shows = λ f r q. map-shows f r q;
    whole = λ f r. map-whole f r;
    least = λ f q r. map-least f q r;
    count = λ f ps. map-count f ps;
  };
  can = record {
    place = λ f q r. map-place f q r;
    arrival = λ f q r. (λ h. map-can_arrive f q r h, λ h. can_arrive-map f q r h);
    close = λ f q n r. (λ h. map-can_close f q n r h, λ h. can_close-map f q n r h);
  };
}
