-- The ports of a step that come to have their whole values, each with whether its value holds a fault.
use Rattle.std.specs.List.{list_any}
use Rattle.std.specs.Prelude.{ℕ, Bool, false, List, filter, map}
use Rattle.tv_telling.specs.declared.ways.Whole.{Whole}
use Rattle.tv_check.specs.declared.feeds.NumberedLink.{NumberedLink}
use Rattle.tv_check.specs.declared.feeds.NumberedLink.TheVariants.{Input, Output}
use Rattle.tv_check.specs.declared.feeds.NumberedFeed.{NumberedFeed}
use Rattle.tv_check.specs.declared.feeds.NumberedFeed.TheVariants.{Link, Merge, Constant}
use Rattle.tv_check.specs.declared.ports.Port.{Port}
use Rattle.tv_telling.specs.endings.Feeds.{has_whole_with}

-- ---- whether what a feed delivers holds a fault, from which inputs and outputs hold one

abbrev pub link_faulty : (ℕ → Bool) → (ℕ → ℕ → Bool) → NumberedLink → Bool
link_faulty inputs outputs (Input x) = inputs x
link_faulty inputs outputs (Output s o) = outputs s o

abbrev pub feed_faulty : (ℕ → Bool) → (ℕ → ℕ → Bool) → NumberedFeed → Bool
feed_faulty inputs outputs (Link l) = link_faulty inputs outputs l
feed_faulty inputs outputs (Merge ls) = list_any (link_faulty inputs outputs) ls
feed_faulty inputs outputs Constant = false

-- ---- the ports that take their feeds at once, and have all of them with step s

abbrev pub whole_port : (NumberedFeed → Bool) → Port → Whole
whole_port faulty p = record { leaf = p.leaf; faulty = faulty p.feed }

abbrev pub wholes_with : (ℕ → Bool) → ℕ → (NumberedFeed → Bool) → List Port → List Whole
wholes_with whole s faulty ps = map (whole_port faulty) (filter (has_whole_with whole s) ps)
