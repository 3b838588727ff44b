-- A plain worker alone: it settles what can be settled, else opens a flow or hands out a try and accepts its outcome
-- at once.
use Rattle.std.specs.Cmp.Lexicographic.{pointwise}
use Rattle.std.specs.List.{list_all}
use Rattle.std.specs.Option.{option_map_or, option_or}
use Rattle.std.specs.Prelude.{Bool, List, Option, [], find, map, option_map, suc, true, zero, ℕ, ◌&&◌, ◌++◌, ◌||◌, ◌∷◌}
use Rattle.tv_value.specs.Orders.{same_job}
use Rattle.tv_value.specs.Values.{JobName}
use Rattle.tv_gate.specs.Outcomes.{Giving}
use Rattle.tv_dispatch.specs.Jobs.{Ask}
use Rattle.tv_model.specs.Jobs.{Job}
use Rattle.tv_model.specs.Levels.{levels}
use Rattle.tv_model.specs.Made.{Meaning}
use Rattle.tv_model.specs.Turns.{ask_order}
use Rattle.tv_history.specs.Alone.{is_by_one}
use Rattle.tv_history.specs.Entries.{Entry, History, accepted, bounced, ended, handed_out, level_entry, opened}
use Rattle.tv_history.specs.Going.{most_entries}
use Rattle.tv_history.specs.Histories.{can_bounce, can_end, can_open, can_settle, can_settle_more, instances, is_done, is_legal, is_offered, is_offered_by_meaning, next_ask, same_bool}
use Rattle.tv_dispatch.specs.Plans.{came_right}
use Rattle.tv_history.specs.Tries.{all_tries}

-- the asks that were accepted, the oldest first
abbrev pub asked_names : History → List JobName
asked_names past = map (λ t. t.0) (all_tries past)

-- what is so of a whole run
pub record Told : Type 0 where
  pub legal : Bool
  pub by_one : Bool
  pub done : Bool
  -- the asks stand in the stated order
  pub ordered : Bool
  -- in every state in which nothing can be settled, what is offered is what the meaning offers
  pub offers : Bool

abbrev pub all_true : Told
all_true = record { legal = true; by_one = true; done = true; ordered = true; offers = true }

module _ (m : Meaning) where
  abbrev pub settling : History → Option Entry
  settling past =
      let bounce = option_map (λ j. bounced j.name) (find (can_bounce m past) m.jobs) in
      let level = option_map (λ l. level_entry l.name l.length)
      (find (can_settle m past) (levels m.steps)) in
      let end = option_map (λ n. ended n) (find (can_end m past) (instances m)) in
      option_or bounce (option_or level end)

  abbrev pub offers_agree : History → Bool
  offers_agree [] = true
  offers_agree (e ∷ past) =
      offers_agree past
      && (
      can_settle_more m (e ∷ past)
      || list_all (λ j. same_bool (is_offered m (e ∷ past) j)
      (is_offered_by_meaning m (e ∷ past) j)) m.jobs
      )

module _ (gives : Giving) where
  -- the newest first
  abbrev pub try_entries : JobName → Ask → List Entry
  try_entries n k = accepted n k.activity k.attempt (came_right gives k)
      ∷ handed_out n k.activity k.attempt ∷ []

  abbrev pub job_entries : History → Job → List Entry
  job_entries past j = option_map_or (λ k. try_entries j.name k) (next_ask past j)
      (opened j.name ∷ [])

  module _ (m : Meaning) where
    -- with the first job that is offered or can open its flow
    abbrev pub going_on : History → Option (List Entry)
    going_on past =
        option_map (job_entries past) (find (λ j. is_offered m past j || can_open m past j) m.jobs)

    abbrev pub next_entries : History → Option (List Entry)
    next_entries past = option_or (option_map (λ e. e ∷ []) (settling m past)) (going_on past)

    abbrev pub run_for : ℕ → History → History
    run_for zero past = past
    run_for (suc n) past = option_map_or (λ es. run_for n (es ++ past)) (next_entries past) past

    -- as long as a history can be
    abbrev pub run : History
    run = run_for (most_entries m) []

    abbrev pub report : History → Told
    report past = record {
      legal = is_legal gives m past;
      by_one = is_by_one m past;
      done = is_done past;
      ordered = pointwise same_job (asked_names past) (map (λ k. k.0) (ask_order m));
      offers = offers_agree m past;
    }
