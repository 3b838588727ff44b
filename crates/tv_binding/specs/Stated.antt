-- The laws of what is found.
use Rattle.std.specs.Prelude.{◌≡◌, ◌↔◌, ℕ, true, [], ◌++◌, Option, Some, is_some, IsTrue, replicate}
use Rattle.tv_value.specs.Nested.{Place, at}
use Rattle.tv_value.specs.Values.{Value, holds_fault}
use Rattle.tv_parts.specs.Partials.{Partial, shows}
use Rattle.tv_parts.specs.Below.{Below}
use Rattle.tv_outputs.specs.FoundIn.{found_in}
use Rattle.tv_check.specs.declared.feeds.NumberedLink.{NumberedLink}
use Rattle.tv_check.specs.declared.feeds.NumberedFeed.{NumberedFeed}
use Rattle.tv_binding.specs.Found.{Known, link_found, feed_found}
use Rattle.tv_binding.specs.Delivered.{FlowValues, IsKnownOf, link_value, feed_value, wrapped_value}

-- ---- what is found is what is delivered

-- what a feed is found to deliver at a place stands there in what it delivers; so the whole, wrapped, is that, wrapped
pub record FoundIsDelivered (d : FlowValues) (k : Known) : Type 0 where
  pub link : (l : NumberedLink) (q : Place) (w : Value) → link_found k l q ≡ Some w
      → at (link_value d l) q ≡ Some w
  pub feed : (f : NumberedFeed) (c : Value) (q : Place) (w : Value) → feed_found k f (Some c) q
      ≡ Some w → at (feed_value d f c) q ≡ Some w
  pub wrapped : (f : NumberedFeed) (c : Value) (n : ℕ) (w : Value) → feed_found k f (Some c) []
      ≡ Some w → wrapped_value n w ≡ wrapped_value n (feed_value d f c)

abbrev pub FindsWhatIsDelivered : Type 0
FindsWhatIsDelivered = (d : FlowValues) (k : Known) → IsKnownOf d k → FoundIsDelivered d k

-- ---- what is known is found

-- all nodes of a value that stands at a place are known
abbrev pub IsShown : Partial Value → Place → Value → Type 0
IsShown r q w = (s : Place) → IsTrue (is_some (at w s)) → shows r (q ++ s) ≡ true

-- what stands at a place of an output is found there as soon as all its nodes are known, and not before
abbrev pub FindsWhatIsKnown : Type 0
FindsWhatIsKnown = (r : Partial Value) (v : Value) (q : Place) (w : Value) → Below r v → at v q
    ≡ Some w → (found_in q r ≡ Some w) ↔ IsShown r q w

-- where the whole is found, what stands inside is found too
abbrev pub FindsInside : Type 0
FindsInside = (k : Known) (f : NumberedFeed) (c : Option Value) (v : Value) (q : Place)
    → feed_found k f c [] ≡ Some v → feed_found k f c q ≡ at v q

-- ---- one-item lists

-- a wrapped value stands inside at the first places, and holds a fault where it did
pub record WrappingKeeps : Type 0 where
  pub inside : (n : ℕ) (v : Value) (q : Place) → at (wrapped_value n v) (replicate n 0 ++ q)
      ≡ at v q
  pub faults : (n : ℕ) (v : Value) → holds_fault (wrapped_value n v) ≡ holds_fault v
