-- Worked examples: what the events of `tv_model`'s example tell, as partial trees, as tellings of ports and as jobs. They compute.
use Rattle.std.specs.Prelude.{◌≡◌, true, false, [], ◌∷◌, codes}
use Rattle.tv_value.specs.Values.{Name, Value, text_value}
use Rattle.tv_flow.specs.Flows.{link, merge, output}
use Rattle.tv_parts.specs.Partials.{closed, growing, item, no_parts, part, wanting}
use Rattle.tv_matching.specs.Told.{arrival, close}
use Rattle.tv_model.specs.instance.Events as events
use Rattle.tv_model.specs.instance.Events.{gave, known_by}
use Rattle.tv_model.specs.instance.Worked.{both, last_one, o, so_far, u, v}
use Rattle.tv_framing.specs.Arriving.{part_so_far}
use Rattle.tv_framing.specs.Frames.{known_jobs, new_jobs}
use Rattle.tv_framing.specs.PortTellings.{newly_by, port_told}

abbrev pub p : Name
p = codes "p"

abbrev pub one : Value
one = text_value (codes "A")

abbrev pub two : Value
two = text_value (codes "B")

-- the list that u makes, part by part
pub record ShowsParts : Type 0 where
  pub nothing : part_so_far u 0 1 0 [] ≡ wanting
  pub second : part_so_far u 0 1 0 (gave u (1 ∷ []) (two ∷ []) ∷ [])
      ≡ growing (part wanting (part (item two) no_parts))
  pub length : part_so_far u 0 1 0 so_far ≡ closed (part wanting (part (item two) no_parts))
  pub all : part_so_far u 0 1 0 (last_one ∷ so_far)
      ≡ closed (part (item one) (part (item two) no_parts))

-- a port that walks the list is told of its item, one that takes it whole of the whole list; one that merges two links of the item at
-- both indices, and one that walks the merge's list alone of each list that is whole
pub record TellsPorts : Type 0 where
  pub walked :
      port_told (newly_by so_far last_one u 1) last_one (λ o. one) p false 1 (link (output u o))
      ≡ arrival p (0 ∷ []) false ∷ []
  pub taken_whole :
      port_told (newly_by so_far last_one u 1) last_one (λ o. one) p true 0 (link (output u o))
      ≡ arrival p [] false ∷ []
  pub lists_of_merge :
      port_told (newly_by so_far last_one u 1) last_one (λ o. one) p false 1
      (merge (output u o ∷ output u o ∷ []))
      ≡ arrival p (0 ∷ []) false ∷ arrival p (1 ∷ []) false ∷ []
  pub items_of_merge :
      port_told (newly_by so_far last_one u 1) last_one (λ o. one) p false 2
      (merge (output u o ∷ output u o ∷ []))
      ≡ arrival p (0 ∷ 0 ∷ []) false ∷ arrival p (1 ∷ 0 ∷ []) false ∷ []
  pub other_step : port_told (newly_by so_far last_one u 1) last_one (λ o. one) p false 1
      (link (output v o)) ≡ []
  pub list_closed :
      port_told (newly_by [] (events.closed u [] 2) u 1) (events.closed u [] 2) (λ o. one) p false 1
      (link (output u o))
      ≡ close p [] 2 ∷ []

-- u's jobs are known from the start, since a constant feeds it; v's one job becomes known with the last item
pub record MakesJobsKnown : Type 0 where
  pub start : known_jobs (known_by [] []) both ≡ (u, 0 ∷ []) ∷ (u, 1 ∷ []) ∷ []
  pub none : new_jobs (known_by [] []) (known_by [] so_far) both ≡ []
  pub last : new_jobs (known_by [] so_far) (known_by [] (last_one ∷ so_far)) both ≡ (v, []) ∷ []
