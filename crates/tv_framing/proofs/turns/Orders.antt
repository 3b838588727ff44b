-- The steps by falling rank are steps of the flow.
use Rattle.std.specs.Prelude.{◌≡◌, ℕ, ◌<◌, nat_lt, true, length, map}
use Rattle.std.proofs.Common.{sym, subst, ◌∙◌}
use Rattle.std.proofs.lemmas.Bool.{lt-ltb}
use Rattle.std.proofs.lemmas.List.{length-map}
use Rattle.std.proofs.lemmas.Option.{slice_get_within}
use Rattle.tv_lemmas.specs.Members.{In}
use Rattle.tv_lemmas.proofs.Members.{all-in}
use Rattle.tv_value.specs.Values.{Name}
use Rattle.tv_flow.specs.Flows.{Step}
use Rattle.tv_naming.specs.Numbers.{position}
use Rattle.tv_naming.proofs.Forms.{steps-named}
use Rattle.tv_check.specs.Wirings.{after_of}
use Rattle.tv_framing.specs.turns.FirstReady.{by_falling_rank}
use Rattle.tv_framing.specs.turns.Stated.{OrderIsOfSteps}
use Rattle.tv_framing.proofs.turns.Ranks.{at-in, number-of, numbers-step}

pub order-of-steps : OrderIsOfSteps
order-of-steps f wired = all-in (λ k. nat_lt k (length (map (λ (s : Name × Step). after_of f.steps s.1) f.steps))) (by_falling_rank f) below
  where
    below : (k : ℕ) → In k (by_falling_rank f) → nat_lt k (length (map (λ (s : Name × Step). after_of f.steps s.1) f.steps)) ≡ true
    below k i =
        let m = numbers-step f.steps (λ s. position s.0 f.steps) k i in
        let at = at-in f.steps m.0 m.1 in
        let low : at.0 < length f.steps = slice_get_within f.steps at.0 m.0 at.1 in
        let same = m.2 ∙ number-of f.steps at.0 m.0 (steps-named f wired.formed).rise at.1 in
        lt-ltb k (length (map (λ (s : Name × Step). after_of f.steps s.1) f.steps))
        (subst (λ n. k < n) (sym (length-map f.steps (λ (s : Name × Step). after_of f.steps s.1))) (subst (λ n. n < length f.steps) (sym same) low))
