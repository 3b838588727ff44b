-- The laws as they are stated.
use Rattle.std.specs.Prelude.{◌≡◌, ℕ, ◌+◌, ◌&&◌, []}
use Rattle.std.proofs.Common.{arith, ap}
use Rattle.tv_model.specs.instance.Stated.{CountersRise, JobsWaitForSourcesAndSteps, ListsAreWholeByCount, LongerPrefixesTurnWhole, OutputsAreWholeWithIteration, PrefixesTurnWhole, StepsEndWhole}
use Rattle.tv_value.specs.Nested.{list}
use Rattle.tv_model.specs.instance.Wholeness.{origin_at}
use Rattle.tv_model.proofs.Endings.{ended-by, waits-by}
use Rattle.tv_model.proofs.Rising.{rises-below, rises-on_way}
use Rattle.tv_model.proofs.Wholeness.{counted-whole, counter-rises, output-at}

pub outputs-are_whole : OutputsAreWholeWithIteration
outputs-are_whole named known gives declared d t r w h = output-at named known gives declared t [] d r w h

pub lists-are_whole_by_count : ListsAreWholeByCount
lists-are_whole_by_count named known q r ts = ap (λ b. known (origin_at named q (list r ts)) && b) (counted-whole named known ts q 0)

pub steps-end_whole : StepsEndWhole
steps-end_whole known instance results given fs s = ended-by known instance results given fs s

pub jobs-wait : JobsWaitForSourcesAndSteps
jobs-wait known sources fs after = waits-by known sources fs after

pub prefixes-turn_whole : PrefixesTurnWhole
prefixes-turn_whole named known after p c t q h = rises-on_way named known after c.hits c.known_or_hit p c.at_place t q h

pub longer_prefixes-turn_whole : LongerPrefixesTurnWhole
longer_prefixes-turn_whole named known after p c t q r s u node w =
    rises-below named known after c.hits c.known_or_hit p c.at_place t q r s u node w.outer w.inner w.lowest w.place w.new

pub counters-rise : CountersRise
counters-rise named known after p c ts q m s t e h =
    counter-rises named known after c.hits c.known_or_hit p c.at_place ts q 0 m m s t (from_zero m) e h
  where
    from_zero : (n : ℕ) → n ≡ 0 + n
    from_zero n = omega arith
