-- The worked examples compute.
use Rattle.std.specs.Prelude.{refl}
use Rattle.tv_framing.specs.starts.Worked.{TellsFeeds}

pub tells-feeds : TellsFeeds
tells-feeds =
    record {
      walked = refl;
      taken_whole = refl;
      without_fault = refl;
      walked_output = refl;
      whole_output = refl;
      lists_of_merge = refl;
      items_of_merge = refl;
      merge_with_output = refl;
      merge_of_inputs = refl;
      constants = refl;
    }
