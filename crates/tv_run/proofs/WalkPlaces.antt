-- Places in order: which doesn't stand before which.
use Rattle.std.specs.Prelude.{◌≡◌, true, false}
use Rattle.std.proofs.Common.{sym, ◌∙◌}
use Rattle.tv_lemmas.proofs.Cases.{on_test}
use Rattle.tv_value.specs.Nested.{Place}
use Rattle.tv_model.proofs.Tests.{true≠false}
use Rattle.tv_model.specs.JobOrder.{place_before}
use Rattle.tv_instances.proofs.FirstSeats.{before-chain, before-turned}

pub before-then : (p q r : Place) → place_before p q ≡ true → place_before q r ≡ true → place_before p r ≡ true
before-then p q r h k =
    on_test (place_before p r) (λ e. e)
    (λ e. absurd (true≠false (sym h ∙ before-chain p r q e (before-turned q r k))))

pub before-itself : (p : Place) → place_before p p ≡ false
before-itself p = on_test (place_before p p) (λ e. before-turned p p e) (λ e. e)
