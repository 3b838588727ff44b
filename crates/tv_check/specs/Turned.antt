-- Links and names to run after, turned round: for each step what it feeds, and what runs after it.
use Rattle.std.specs.Prelude.{ℕ, zero, suc, List, [], ◌∷◌, ◌++◌, map, flat_map, filter, length, ◌==◌, ◌^◌, ◌&&◌, nat_lt, Bool, Option, Some, None}
use Rattle.std.specs.List.{list_all}
use Rattle.tv_naming.specs.Naming.{numbered}
use Rattle.tv_check.specs.declared.feeds.NumberedLink.{NumberedLink}
use Rattle.tv_check.specs.declared.feeds.NumberedLink.TheVariants.{Input, Output}
use Rattle.tv_check.specs.declared.feeds.NumberedFeed.{NumberedFeed}
use Rattle.tv_check.specs.declared.feeds.NumberedFeed.TheVariants.{Link, Merge, Constant}
use Rattle.tv_check.specs.declared.ports.Port.{Port}
use Rattle.tv_check.specs.declared.wires.Wire.{Wire}

-- ---- what comes from each number

module _ {A : Type 0} where
  -- the things that come from a number, in order
  abbrev pub from_number : ℕ → List (ℕ × A) → List A
  from_number n xs = map (λ x. x.1) (filter (λ x. x.0 == n) xs)

  -- from each of these numbers
  abbrev pub from_each : List ℕ → List (ℕ × A) → List (List A)
  from_each ns xs = map (λ n. from_number n xs) ns

  -- one more thing at the end of the list of its number
  abbrev pub with_item : List (List A) → ℕ × A → List (List A)
  with_item [] x = []
  with_item (xs ∷ xss) (zero, y) = (xs ++ y ∷ []) ∷ xss
  with_item (xs ∷ xss) (suc n, y) = xs ∷ with_item xss (n, y)

  abbrev pub with_items : List (List A) → List (ℕ × A) → List (List A)
  with_items xss [] = xss
  with_items xss (y ∷ ys) = with_items (with_item xss y) ys

-- ---- links

-- the links of a feed, each with its position where they are merged
abbrev pub links_of : NumberedFeed → List (Option ℕ × NumberedLink)
links_of (Link l) = (None, l) ∷ []
links_of (Merge ls) = map (λ x. (Some x.0, x.1)) (numbered 0 ls)
links_of Constant = []

-- they can be counted by the code
abbrev pub has_counted : Port → Bool
has_counted p = nat_lt (length (links_of p.feed)) (2 ^ 32)

abbrev pub are_counted : List Port → Bool
are_counted ps = nat_lt (length ps) (2 ^ 32) && list_all has_counted ps

-- the wire of a link into a port of step t, with the step that it comes from; an input of the flow has none
abbrev pub wire_of : ℕ → ℕ × Port → Option ℕ × NumberedLink → List (ℕ × Wire)
wire_of t (p, port) (at, Input x) = []
wire_of t (p, port) (at, Output s o) = (
  s,
  record {
    step = t;
    port = p;
    link = at;
    output = o;
    levels = port.levels;
    leaf = port.leaf;
  },
) ∷ []

abbrev pub port_wires : ℕ → ℕ × Port → List (ℕ × Wire)
port_wires t x = flat_map (wire_of t x) (links_of x.1.feed)

abbrev pub step_wires : ℕ × List Port → List (ℕ × Wire)
step_wires x = flat_map (port_wires x.0) (numbered 0 x.1)

-- of all steps, in the order of steps, ports and links
abbrev pub all_wires : List (List Port) → List (ℕ × Wire)
all_wires ports = flat_map step_wires (numbered 0 ports)

-- ---- names to run after

-- each step that a step runs after, with that step
abbrev pub waits_of : ℕ × List ℕ → List (ℕ × ℕ)
waits_of x = map (λ a. (a, x.0)) x.1

abbrev pub all_waits : List (List ℕ) → List (ℕ × ℕ)
all_waits after = flat_map waits_of (numbered 0 after)
