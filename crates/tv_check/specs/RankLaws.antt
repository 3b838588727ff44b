-- What holds of ranks: all steps have one exactly where none comes before itself.
use Rattle.std.specs.Prelude.{◌≡◌, [], length, Bool, true, not}
use Rattle.std.specs.List.{list_all}
use Rattle.tv_value.specs.Values.{Name}
use Rattle.tv_flow.specs.Flows.{Flow, Document}
use Rattle.tv_flow.specs.Formed.{is_flow}
use Rattle.tv_naming.specs.Naming.{naming_complaints}
use Rattle.tv_model.specs.instance.Ranks.{ranked}
use Rattle.tv_check.specs.Cycles.{reaches, steps_before}
use Rattle.tv_check.specs.NamedGraphs.{links_inside, names_inside}

-- whether no step reaches itself
abbrev pub is_acyclic : Flow → Bool
is_acyclic f = list_all (λ s. not (reaches (steps_before f) (length f.steps) s.0 s.0)) f.steps

abbrev pub AllAreRanked : Type 0
AllAreRanked = (f : Flow) → is_flow f ≡ true → links_inside f ≡ true → is_acyclic f ≡ true
    → length (ranked f.steps) ≡ length f.steps

abbrev pub NoneIsRankedOnCycles : Type 0
NoneIsRankedOnCycles = (f : Flow) → is_flow f ≡ true → links_inside f ≡ true
    → length (ranked f.steps) ≡ length f.steps → is_acyclic f ≡ true

-- where no name is complained of, what comes before a step and what a flow opens is there
abbrev pub NamesAreInside : Type 0
NamesAreInside = (knows : Name → Bool) (d : Document) → naming_complaints knows d ≡ []
    → names_inside d ≡ true
