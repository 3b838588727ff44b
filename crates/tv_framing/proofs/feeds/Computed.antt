-- The worked examples compute.
use Rattle.std.specs.Prelude.{refl}
use Rattle.tv_framing.specs.feeds.Worked.{ShowsFirstEvent, ShowsLastEvent}

pub shows-first_event : ShowsFirstEvent
shows-first_event = record { number = refl; given = refl; item = refl; list = refl; port_waits = refl }

pub shows-last_event : ShowsLastEvent
shows-last_event = record {
  given = refl;
  item = refl;
  list = refl;
  before = refl;
  after = refl;
  port_has = refl;
  fed_step = refl;
}
