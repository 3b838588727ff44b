-- When all that feeds a port is known: each step that it comes from is whole.
use Rattle.std.specs.List.{list_all, list_any}
use Rattle.std.specs.Prelude.{ℕ, ◌<◌, ◌==◌, ◌&&◌, ◌||◌, Bool, true, false, List, filter, map}
use Rattle.tv_lemmas.specs.Members.{Each}
use Rattle.tv_check.specs.declared.feeds.NumberedLink.{NumberedLink}
use Rattle.tv_check.specs.declared.feeds.NumberedLink.TheVariants.{Input, Output}
use Rattle.tv_check.specs.declared.feeds.NumberedFeed.{NumberedFeed}
use Rattle.tv_check.specs.declared.feeds.NumberedFeed.TheVariants.{Link, Merge, Constant}
use Rattle.tv_check.specs.declared.ports.Port.{Port}

-- what an input of the flow has is known from the start
abbrev pub link_whole : (ℕ → Bool) → NumberedLink → Bool
link_whole whole (Input x) = true
link_whole whole (Output s o) = whole s

abbrev pub feed_whole : (ℕ → Bool) → NumberedFeed → Bool
feed_whole whole (Link l) = link_whole whole l
feed_whole whole (Merge ls) = list_all (link_whole whole) ls
feed_whole whole Constant = true

-- some of it comes from step s
abbrev pub link_from : ℕ → NumberedLink → Bool
link_from s (Input x) = false
link_from s (Output t o) = t == s

abbrev pub feed_from : ℕ → NumberedFeed → Bool
feed_from s (Link l) = link_from s l
feed_from s (Merge ls) = list_any (link_from s) ls
feed_from s Constant = false

-- those that are whole, and step s
abbrev pub with_step : (ℕ → Bool) → ℕ → ℕ → Bool
with_step whole s t = t == s || whole t

-- a port that takes its feed at once has all of it with step s
abbrev pub has_whole_with : (ℕ → Bool) → ℕ → Port → Bool
has_whole_with whole s p = p.levels == 0
    && (feed_from s p.feed && feed_whole (with_step whole s) p.feed)

abbrev pub leaves_whole_with : (ℕ → Bool) → ℕ → List Port → List ℕ
leaves_whole_with whole s ps = map (λ (p : Port). p.leaf) (filter (has_whole_with whole s) ps)

-- the steps that a feed comes from are among the first n
abbrev pub IsLinkWithin : ℕ → NumberedLink → Type 0
IsLinkWithin n (Input x) = Unit {0}
IsLinkWithin n (Output s o) = s < n

abbrev pub IsWithin : ℕ → NumberedFeed → Type 0
IsWithin n (Link l) = IsLinkWithin n l
IsWithin n (Merge ls) = Each (IsLinkWithin n) ls
IsWithin n Constant = Unit {0}
