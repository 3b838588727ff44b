-- What one event more changes: a test of what is known turns true at the nodes of one place.
use Rattle.std.specs.Prelude.{◌≡◌, ◌||◌, Bool, true}
use Rattle.tv_value.specs.Nested.{Place}
use Rattle.tv_value.specs.Values.{JobName}
use Rattle.tv_strategy.specs.Iterations.{Iteration}
use Rattle.tv_strategy.specs.Origins.{Origin}
use Rattle.tv_model.specs.instance.Wholeness.{is_new, is_whole, origin_at}

-- `hits` are the nodes that the event tells of, all at place p: they are known after it, beside those known before
pub record Rises (named : Place → JobName) (known after : Origin → Bool) (p : Place) : Type 0 where
  pub hits : Origin → Bool
  pub known_or_hit : (o : Origin) → after o ≡ (hits o || known o)
  pub at_place : (q : Place) (u : Iteration) → hits (origin_at named q u) ≡ true → q ≡ p

-- whether what stands at q becomes whole
abbrev pub turns_whole : (Place → JobName) → (Origin → Bool) → (Origin → Bool) → Place → Iteration
    → Bool
turns_whole named known after q t = is_new (is_whole named known q t) (is_whole named after q t)
