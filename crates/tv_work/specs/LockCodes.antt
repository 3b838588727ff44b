-- A code of locked values, by which equal ones are equal in one way.
use Rattle.std.specs.Prelude.{Bool, refl, ℕ}
use Rattle.std.specs.Coded.{Coded, code_by, coded_bool, coded_ℕ, coded×}
use Rattle.tv_history.specs.Runs.{Run}
use Rattle.tv_history.specs.RunCodes.{coded_run}
use Rattle.tv_history.specs.declared.entry.Entry.{Entry}
use Rattle.tv_work.specs.Locking.{Held}

abbrev pub coded_held : Coded Entry → Coded Held
coded_held entries =
    code_by (Run × (ℕ × Bool)) (coded× (coded_run entries) (coded× coded_ℕ coded_bool))
    (λ h. (h.board, (h.accepted, h.stopped)))
    (λ p. record { board = p.0; accepted = p.1.0; stopped = p.1.1 }) (λ _. refl)
