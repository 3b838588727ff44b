-- A law of ports that take their feed at once.
use Rattle.std.specs.Prelude.{◌≡◌, ℕ, ◌&&◌, Bool, false, not}
use Rattle.tv_check.specs.declared.feeds.NumberedFeed.{NumberedFeed}
use Rattle.tv_telling.specs.endings.Feeds.{feed_from, feed_whole, with_step}

-- all of a feed is known with a step, and wasn't before, exactly where it comes from that step and all of it is known then
abbrev pub FeedsTurnWholeOnce : Type 0
FeedsTurnWholeOnce =
    (whole : ℕ → Bool) (s : ℕ) → whole s ≡ false → (f : NumberedFeed)
    → (feed_whole (with_step whole s) f && not (feed_whole whole f))
    ≡ (feed_from s f && feed_whole (with_step whole s) f)
