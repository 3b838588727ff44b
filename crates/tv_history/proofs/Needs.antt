-- In every legal history a known node has all its needs settled.
use Rattle.std.specs.Prelude.{◌≡◌, refl, List, [], ◌∷◌, Bool, true, false, not, ◌&&◌, ◌||◌, if◌then◌else◌, Option, Some, None, is_some, is_none, find}
use Rattle.std.specs.List.{list_any, list_all}
use Rattle.std.specs.Option.{option_map_or}
use Rattle.std.proofs.Common.{sym, subst, ◌∙◌}
use Rattle.std.proofs.lemmas.List.Folds.{list_all-append}
use Rattle.std.specs.Cmp.{first_so, second_so}
use Rattle.tv_lemmas.specs.Members.{Each, In}
use Rattle.tv_lemmas.proofs.Members.{each_in}
use Rattle.tv_lemmas.proofs.Lists.{all-weaken}
use Rattle.tv_history.proofs.Legal.{last-legal, Legal, closes, passes}
use Rattle.tv_model.proofs.Tests.{true≠false, both_true, or_right}
use Rattle.tv_value.specs.Values.{JobName}
use Rattle.tv_value.specs.Orders.{same_job}
use Rattle.tv_strategy.specs.Origins.{Origin, Known, at_start, by_job, by_level, needs_of}
use Rattle.tv_gate.specs.Outcomes.{Giving}
use Rattle.tv_dispatch.specs.Jobs.{Ask}
use Rattle.tv_model.specs.Jobs.{Job}
use Rattle.tv_model.specs.Made.{Meaning}
use Rattle.tv_model.specs.Turns.{is_bounced}
use Rattle.tv_history.specs.Entries.{Entry, History, is_accepted, is_bounced_entry, is_ended_entry, is_level_entry}
use Rattle.tv_model.specs.Levels.{Level, levels}
use Rattle.tv_model.specs.Lists.{rest_of, first_of_list}
use Rattle.tv_history.specs.Histories.{asks_left, next_ask, is_settled, is_settled_name, has_entry, is_known, all_known, can_settle, is_open, is_legal, is_legal_after}

-- ---- what is settled stays settled

pub left_nil : (b : Bool) (l : List Ask) → is_none (first_of_list l) ≡ true → is_none (first_of_list (if b then rest_of l else l)) ≡ true
left_nil true [] h = refl
left_nil false [] h = refl
left_nil b (a ∷ l) h = absurd (true≠false (sym h))

pub choice : (b c x y z u v w : Bool) → (x ≡ true → u ≡ true) → (y ≡ true → v ≡ true) → (z ≡ true → w ≡ true) → (if b then x else (if c then y else z)) ≡ true → (if b then u else (if c then v else w)) ≡ true
choice true c x y z u v w f g k h = f h
choice false true x y z u v w f g k h = g h
choice false false x y z u v w f g k h = k h

module _ (gives : Giving) (m : Meaning) where
  pub stays_settled : (e : Entry) (past : History) (j : Job) → is_settled past j ≡ true → is_settled (e ∷ past) j ≡ true
  stays_settled e past j h =
      choice (is_bounced j.ending) (is_some j.opens) (list_any (is_bounced_entry j.name) past) (list_any (is_ended_entry j.name) past) (is_none (next_ask past j)) (list_any (is_bounced_entry j.name) (e ∷ past)) (list_any (is_ended_entry j.name) (e ∷ past)) (is_none (next_ask (e ∷ past) j))
      (or_right (is_bounced_entry j.name e) (list_any (is_bounced_entry j.name) past)) (or_right (is_ended_entry j.name e) (list_any (is_ended_entry j.name) past)) (left_nil (is_accepted j.name e) (asks_left past j.name j.asks)) h

  pub stays_settled_name : (e : Entry) (past : History) (n : JobName) → is_settled_name m past n ≡ true → is_settled_name m (e ∷ past) n ≡ true
  stays_settled_name e past n h = by (find (λ j. same_job n j.name) m.jobs) h
    where
      by : (o : Option Job) → option_map_or (is_settled past) o false ≡ true → option_map_or (is_settled (e ∷ past)) o false ≡ true
      by None k = k
      by (Some j) k = stays_settled e past j k

  -- ---- origins that say what they need

  -- the node needs what the sources of the list or fault of that name need
  abbrev pub IsSourced : Origin → JobName → Level → Type 0
  IsSourced o n l = same_job n l.name ≡ true → o.needs ≡ needs_of l.sources

  abbrev pub IsSoundAt : Origin → Known → Type 0
  IsSoundAt o at_start = o.needs ≡ []
  IsSoundAt o (by_job n) = o.needs ≡ n ∷ []
  IsSoundAt o (by_level n) = Each (IsSourced o n) (levels m.steps)

  abbrev pub IsSound : Origin → Type 0
  IsSound o = IsSoundAt o o.known

  -- the sources of every list and passed fault are sound
  abbrev pub AllSound : Type 0
  AllSound = Each (λ l. Each IsSound l.sources) (levels m.steps)

  -- ---- the theorem

  abbrev NeedsSettled : History → List JobName → Type 0
  NeedsSettled past ns = list_all (is_settled_name m past) ns ≡ true

  pub needs_of-settled : (past : History) → ((o : Origin) → IsSound o → is_known m past o.known ≡ true → NeedsSettled past o.needs) → (os : List Origin) → Each IsSound os → all_known m past os ≡ true → NeedsSettled past (needs_of os)
  needs_of-settled past rec [] s k = refl
  needs_of-settled past rec (o ∷ os) s k =
      list_all-append (is_settled_name m past) o.needs (needs_of os)
      ∙ both_true (list_all (is_settled_name m past) o.needs) (list_all (is_settled_name m past) (needs_of os))
      (rec o s.0 (first_so (is_known m past o.known) (all_known m past os) k))
      (needs_of-settled past rec os s.1 (second_so (is_known m past o.known) (all_known m past os) k))

  -- where an entry closes a list or passes a fault, its sources were known
  abbrev Closing : History → Origin → JobName → Type 0
  Closing past o n = (l : Level) × (all_known m past l.sources ≡ true) × (o.needs ≡ needs_of l.sources) × Each IsSound l.sources

  closing : (past : History) (o : Origin) (n : JobName) → AllSound → Each (IsSourced o n) (levels m.steps) → (l : Level) → In l (levels m.steps) → can_settle m past l ≡ true → same_job n l.name ≡ true → Closing past o n
  closing past o n a s l i c h = (l, second_so (is_open past l.instance && not (has_entry past l.name)) (all_known m past l.sources) c, each_in (IsSourced o n) (levels m.steps) s l i h, each_in (λ l. Each IsSound l.sources) (levels m.steps) a l i)

  closing_entry : (past : History) {e : Entry} (o : Origin) (n : JobName) → AllSound → Each (IsSourced o n) (levels m.steps) → is_level_entry n e ≡ true → Legal gives m past e → Closing past o n
  closing_entry past o n a s h (closes l k i c q) = closing past o n a s l i c h
  closing_entry past o n a s h (passes l i c q) = closing past o n a s l i c h
  closing_entry past o n a s h l = absurd (true≠false (sym h))

  level_case : (past : History) (e : Entry) (o : Origin) (n : JobName) → AllSound → Legal gives m past e → ((q : Origin) → IsSound q → is_known m past q.known ≡ true → NeedsSettled past q.needs) → (has_entry past n ≡ true → NeedsSettled past o.needs) → Each (IsSourced o n) (levels m.steps) → (b : Bool) → is_level_entry n e ≡ b → (b || has_entry past n) ≡ true → NeedsSettled (e ∷ past) o.needs
  level_case past e o n a l rec old s true q h =
      let c = closing_entry past o n a s q l in
      all-weaken (is_settled_name m past) (is_settled_name m (e ∷ past)) (stays_settled_name e past) o.needs
      (subst (λ ns. NeedsSettled past ns) (sym c.2) (needs_of-settled past rec c.0.sources c.3 c.1))
  level_case past e o n a l rec old s false q h =
      all-weaken (is_settled_name m past) (is_settled_name m (e ∷ past)) (stays_settled_name e past) o.needs (old h)

  -- a known node has all its needs settled
  pub known-needs : AllSound → (past : History) → is_legal gives m past ≡ true → (o : Origin) (k : Known) → IsSoundAt o k → is_known m past k ≡ true → NeedsSettled past o.needs
  known-needs a past l o at_start s h = subst (λ ns. NeedsSettled past ns) (sym s) refl
  known-needs a past l o (by_job n) s h = subst (λ ns. NeedsSettled past ns) (sym s) (both_true (is_settled_name m past n) true h refl)
  known-needs a [] l o (by_level n) s h = absurd (true≠false (sym h))
  known-needs a (e ∷ past) l o (by_level n) s h =
      let legal = first_so (is_legal gives m past) (is_legal_after gives m past e) l in
      level_case past e o n a (last-legal gives m past e l)
      (λ q t k. known-needs a past legal q q.known t k) (λ k. known-needs a past legal o (by_level n) s k) s (is_level_entry n e) refl h
