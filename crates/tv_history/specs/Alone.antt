-- Which histories are those of one worker, and that a list is the first part of another.
use Rattle.std.specs.List.{list_all}
use Rattle.std.specs.Option.{option_map_or}
use Rattle.std.specs.Prelude.{Bool, List, [], false, find, is_some, not, true, ◌&&◌, ◌++◌, ◌||◌, ◌∷◌, ◌≡◌}
use Rattle.tv_lemmas.specs.Members.{In}
use Rattle.tv_model.specs.Jobs.{Job}
use Rattle.tv_model.specs.Made.{Meaning}
use Rattle.tv_model.specs.Turns.{is_bounced}
use Rattle.tv_history.specs.Entries.{Entry, History, handed_out, is_out, opened, recalled}
use Rattle.tv_history.specs.Histories.{can_open, can_settle_more, is_at, is_offered}

module _ (m : Meaning) where
  abbrev pub nobody_out : History → Bool
  nobody_out past = list_all (λ j. not (is_out past j.name)) m.jobs

  -- a try is handed out only where nothing can be settled, no try is out, and its job is the first that is offered or
  -- can open its flow
  abbrev pub is_by_one_after : History → Entry → Bool
  is_by_one_after past (handed_out n a t) =
      not (can_settle_more m past)
      && option_map_or (λ j. is_at j n)
      (find (λ j. is_offered m past j || can_open m past j) m.jobs) false
      && nobody_out past
  is_by_one_after past (opened n) = nobody_out past
  is_by_one_after past (recalled k) = false
  is_by_one_after past _ = true

  abbrev pub is_by_one : History → Bool
  is_by_one [] = true
  is_by_one (e ∷ past) = is_by_one past && is_by_one_after past e

abbrev pub IsFirstPart : {A : Type 0} → List A → List A → Type 0
IsFirstPart {A = A} xs ys = (zs : List A) × (ys ≡ xs ++ zs)

-- who isn't bounced has something to do
abbrev pub HaveTries : List Job → Type 0
HaveTries js = (j : Job) → In j js → is_bounced j.ending ≡ false → j.asks ≡ []
    → is_some j.opens ≡ true
