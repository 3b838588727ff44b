-- A settlement that is legal for an instance is a legal entry of the history, and the other way.
use Rattle.std.specs.Prelude.{◌≡◌, refl, ℕ, zero, suc, ◌==◌, ◌+◌, List, [], ◌∷◌, ◌++◌, true, false, not, ◌&&◌, Option, Some, None, filter_map, is_none, option_and_then}
use Rattle.std.specs.List.{list_all}
use Rattle.std.specs.Option.{option_map_or}
use Rattle.std.proofs.Common.{arith, eq-eqb, sym, ap, subst, ◌∙◌, append_assoc, append-nil}
use Rattle.std.proofs.lemmas.Bool.{not-true, and_from, and_parts}
use Rattle.std.proofs.lemmas.Option.{none-some, same_Some}
use Rattle.tv_lemmas.specs.Members.{Each, In}
use Rattle.tv_lemmas.proofs.Members.{any-in, in-flat, in-options}
use Rattle.tv_lemmas.proofs.Numbers.{is-zero_plus}
use Rattle.tv_value.specs.Nested.{leaf, list, no_trees, tree, Place, at, count, item_at, nodes, note}
use Rattle.tv_value.specs.Orders.{same_job}
use Rattle.tv_value.specs.Values.{ErrorDoc, JobName}
use Rattle.tv_value.proofs.JobNameLemmas.{same_job_decides}
use Rattle.tv_value.proofs.NameLemmas.{same_name-refl}
use Rattle.tv_gate.specs.Outcomes.{Giving}
use Rattle.tv_strategy.specs.Iterations.{Iteration, Iterations, job, passed}
use Rattle.tv_strategy.specs.Origins.{Origin}
use Rattle.tv_strategy.specs.Sources.{AllSourcesHave, SourcesHave}
use Rattle.tv_model.specs.instance.Delivered.{StepMeaning}
use Rattle.tv_model.specs.instance.Steps.{spot}
use Rattle.tv_model.specs.Levels.{Level, level_at, levels}
use Rattle.tv_model.specs.Made.{Meaning}
use Rattle.tv_history.specs.Entries.{History, closed, fault_passed}
use Rattle.tv_history.specs.Histories.{can_settle, is_legal_after, is_open}
use Rattle.tv_model.proofs.Formed.{IsNode, nodes-in}
use Rattle.tv_model.proofs.Sound.{AllStand, AllStandFrom}
use Rattle.tv_model.specs.instance.Events as events
use Rattle.tv_model.specs.instance.ByResults.{InstanceStep}
use Rattle.tv_model.specs.instance.Endings.{IsOwn}
use Rattle.tv_model.specs.instance.Events.{Events, fault_set, has_level, known_by}
use Rattle.tv_model.specs.instance.Fitting.{FitsNode}
use Rattle.tv_model.specs.instance.Legality.{HasSources, IsLegalNext, node_of}
use Rattle.tv_framing.proofs.instances.Legal.{node-here}
use Rattle.tv_framing.proofs.instances.Readiness.{settling-by_events}
use Rattle.tv_framing.specs.instances.InHistory.{Finds, IsPartOf}
use Rattle.tv_framing.specs.instances.Stated.{SettlementsAreLegal}

-- ---- what holds of all nodes holds of the one at a place

same-end : (a b : ℕ) → a ≡ b + 0 → b ≡ a
same-end a b e = omega arith

next-end : (a b c : ℕ) → a ≡ b + suc c → a ≡ suc b + c
next-end a b c e = omega arith

module _ (K : Place → Iteration → Type 0) where
  mutual
    stand-at : (t : Iteration) (q r : Place) (u : Iteration) → AllStand K q t → at t r ≡ Some u → K (q ++ r) u
    stand-at t q [] u h e = subst (λ x. K x u) (sym (append-nil q)) (subst (K q) (same_Some t u e) (top t q h))
      where
        top : (t : Iteration) (q : Place) → AllStand K q t → K q t
        top (leaf s x) q h = h
        top (list s ts) q h = h.0
    stand-at (leaf s x) q (i ∷ r) u h e = absurd (none-some u e)
    stand-at (list s ts) q (i ∷ r) u h e = stands-at ts q r 0 i i u (is-zero_plus i) h.1 e

    stands-at : (ts : Iterations) (q r : Place) (i k m : ℕ) (u : Iteration) → m ≡ i + k → AllStandFrom K q i ts → option_and_then (λ x. at x r) (item_at ts k) ≡ Some u → K (q ++ m ∷ r) u
    stands-at no_trees q r i k m u l h e = absurd (none-some u e)
    stands-at (tree t ts) q r i zero m u l h e = subst (λ x. K x u) (append_assoc q (i ∷ []) r ∙ ap (λ n. q ++ n ∷ r) (same-end m i l)) (stand-at t (q ++ i ∷ []) r u h.0 e)
    stands-at (tree t ts) q r i (suc k) m u l h e = stands-at ts q r (suc i) k m u (next-end m i k l) h.1 e

pub node-listed : (t : Iteration) (q : Place) (u : Iteration) → at t q ≡ Some u → In (q, u) (nodes t)
node-listed t q u e = stand-at (IsNode (nodes t)) t [] q u (nodes-in (nodes t) t [] (λ x h. h)) e

module _ (P : Origin → Type 0) where
  mutual
    pub sources-at : (t : Iteration) (r : Place) (u : Iteration) → SourcesHave P t → at t r ≡ Some u → Each P (note u)
    sources-at t [] u h e = subst (λ x. Each P (note x)) (same_Some t u e) (top t h)
      where
        top : (t : Iteration) → SourcesHave P t → Each P (note t)
        top (leaf s x) h = h.0
        top (list s ts) h = h.0
    sources-at (leaf s x) (i ∷ r) u h e = absurd (none-some u e)
    sources-at (list s ts) (i ∷ r) u h e = all_sources-at ts r i u h.1 e

    all_sources-at : (ts : Iterations) (r : Place) (k : ℕ) (u : Iteration) → AllSourcesHave P ts → option_and_then (λ x. at x r) (item_at ts k) ≡ Some u → Each P (note u)
    all_sources-at no_trees r k u h e = absurd (none-some u e)
    all_sources-at (tree t ts) r zero u h e = sources-at t r u h.0 e
    all_sources-at (tree t ts) r (suc k) u h e = all_sources-at ts r k u h.1 e

module _ (gives : Giving) (m : Meaning) (past : History) (instance : JobName) (es : Events) (part : IsPartOf m past instance es) (now : is_open past instance ≡ true) (fs : List InstanceStep) (f : InstanceStep) (self : Finds fs f) (mine : In f.step m.steps) (here : f.step.instance ≡ instance) (own : SourcesHave (λ o. IsOwn instance o.known) f.step.iteration) where
  -- the list or fault at a place of the step, as the meaning has it
  level-here : (q : Place) (u : Iteration) (l : Level) → at f.step.iteration q ≡ Some u → level_at f.step (q, u) ≡ Some l → In l (levels m.steps)
  level-here q u l h e = in-flat (λ (s : StepMeaning). filter_map (level_at s) (nodes s.iteration)) f.step l m.steps mine (in-options (level_at f.step) (q, u) l (nodes f.step.iteration) (node-listed f.step.iteration q u h) e)

  settles : (q : Place) (u : Iteration) (l : Level) → at f.step.iteration q ≡ Some u → l.name ≡ spot instance f.step.step q → l.instance ≡ instance → l.sources ≡ note u → has_level es f.step.step q ≡ false → list_all (known_by instance es) (note u) ≡ true → can_settle m past l ≡ true
  settles q u l h n i s fresh k =
      settling-by_events m past instance es part now l f.step.step q (record { name = n; within = i; own = subst (Each (λ o. IsOwn instance o.known)) (sym s) (sources-at (λ o. IsOwn instance o.known) f.step.iteration q u own h) })
      ∙ and_from (not (has_level es f.step.step q)) (list_all (known_by instance es) l.sources) (ap not fresh) (ap (list_all (known_by instance es)) s ∙ k)

  -- a list that can be closed is one that the history lets close
  pub closing-legal : (q : Place) (n : ℕ) → IsLegalNext instance fs es (events.closed f.step.step q n) → is_legal_after gives m past (closed (spot instance f.step.step q) n) ≡ true
  closing-legal q n h = by (at f.step.iteration q) refl (subst (FitsNode (events.closed f.step.step q n)) place h.fits) (subst (HasSources (known_by instance es)) place h.sources)
    where
      place : node_of fs (events.closed f.step.step q n) ≡ at f.step.iteration q
      place = node-here instance fs f self (events.closed f.step.step q n) (same_name-refl f.step.step)

      by : (o : Option Iteration) → at f.step.iteration q ≡ o → FitsNode (events.closed f.step.step q n) o → HasSources (known_by instance es) o → is_legal_after gives m past (closed (spot instance f.step.step q) n) ≡ true
      by None e k s = absurd s
      by (Some (leaf r x)) e k s = absurd k
      by (Some (list r ts)) e k s =
          let l : Level = record { name = spot f.step.instance f.step.step q; instance = f.step.instance; sources = r; length = Some (count ts) } in
          let name : l.name ≡ spot instance f.step.step q = ap (λ i. spot i f.step.step q) here in
          any-in (λ (l : Level). same_job (spot instance f.step.step q) l.name && can_settle m past l && option_map_or (λ c. c == n) l.length false) l (levels m.steps) (level-here q (list r ts) l e refl)
          (and_from (same_job (spot instance f.step.step q) l.name && can_settle m past l) (count ts == n) (and_from (same_job (spot instance f.step.step q) l.name) (can_settle m past l) ((same_job_decides (spot instance f.step.step q) l.name).1 (sym name)) (settles q (list r ts) l e name here refl h.fresh s)) (eq-eqb (count ts) n k))

  -- and so is a fault that can be set
  pub passing-legal : (q : Place) (d : ErrorDoc) → IsLegalNext instance fs es (fault_set f.step.step q d) → is_legal_after gives m past (fault_passed (spot instance f.step.step q)) ≡ true
  passing-legal q d h = by (at f.step.iteration q) refl (subst (FitsNode (fault_set f.step.step q d)) place h.fits) (subst (HasSources (known_by instance es)) place h.sources)
    where
      place : node_of fs (fault_set f.step.step q d) ≡ at f.step.iteration q
      place = node-here instance fs f self (fault_set f.step.step q d) (same_name-refl f.step.step)

      by : (o : Option Iteration) → at f.step.iteration q ≡ o → FitsNode (fault_set f.step.step q d) o → HasSources (known_by instance es) o → is_legal_after gives m past (fault_passed (spot instance f.step.step q)) ≡ true
      by None e k s = absurd s
      by (Some (list r ts)) e k s = absurd k
      by (Some (leaf r (job b))) e k s = absurd k
      by (Some (leaf r (passed x g))) e k s =
          let l : Level = record { name = spot f.step.instance f.step.step q; instance = f.step.instance; sources = r; length = None } in
          let name : l.name ≡ spot instance f.step.step q = ap (λ i. spot i f.step.step q) here in
          any-in (λ (l : Level). same_job (spot instance f.step.step q) l.name && can_settle m past l && is_none l.length) l (levels m.steps) (level-here q (leaf r (passed x g)) l e refl)
          (and_from (same_job (spot instance f.step.step q) l.name && can_settle m past l) true (and_from (same_job (spot instance f.step.step q) l.name) (can_settle m past l) ((same_job_decides (spot instance f.step.step q) l.name).1 (sym name)) (settles q (leaf r (passed x g)) l e name here refl h.fresh s)) refl)

  abbrev or_l : Level → Option Level → Level
  or_l d None = d
  or_l d (Some y) = y

  known-parts : (q : Place) (u : Iteration) (l : Level) → at f.step.iteration q ≡ Some u → spot f.step.instance f.step.step q ≡ l.name → f.step.instance ≡ l.instance → note u ≡ l.sources → can_settle m past l ≡ true → (list_all (known_by instance es) (note u) ≡ true) × (has_level es f.step.step q ≡ false)
  known-parts q u l h n i s k =
      let e = sym (settling-by_events m past instance es part now l f.step.step q (record { name = sym n ∙ ap (λ x. spot x f.step.step q) here; within = sym i ∙ here; own = subst (Each (λ o. IsOwn instance o.known)) s (sources-at (λ o. IsOwn instance o.known) f.step.iteration q u own h) })) ∙ k in
      (ap (list_all (known_by instance es)) s ∙ (and_parts (not (has_level es f.step.step q)) (list_all (known_by instance es) l.sources) e).1, not-true (has_level es f.step.step q) ((and_parts (not (has_level es f.step.step q)) (list_all (known_by instance es) l.sources) e).0))

  -- and whatever the history lets settle at a node of the step has known sources and was not told
  pub settling-known : (q : Place) (u : Iteration) (l : Level) → at f.step.iteration q ≡ Some u → level_at f.step (q, u) ≡ Some l → can_settle m past l ≡ true → (list_all (known_by instance es) (note u) ≡ true) × (has_level es f.step.step q ≡ false)
  settling-known q (leaf r (job b)) l h e k = absurd (none-some l e)
  settling-known q (leaf r (passed x g)) l h e k = known-parts q (leaf r (passed x g)) l h (ap (λ o. (or_l l o).name) e) (ap (λ o. (or_l l o).instance) e) (ap (λ o. (or_l l o).sources) e) k
  settling-known q (list r ts) l h e k = known-parts q (list r ts) l h (ap (λ o. (or_l l o).name) e) (ap (λ o. (or_l l o).instance) e) (ap (λ o. (or_l l o).sources) e) k

pub settlements-are_legal : SettlementsAreLegal
settlements-are_legal gives m past instance es part now fs f w = record {
  closing = λ q n h. closing-legal gives m past instance es part now fs f w.first w.listed w.here w.own q n h;
  passing = λ q d h. passing-legal gives m past instance es part now fs f w.first w.listed w.here w.own q d h;
  new = λ q u l e h k. settling-known gives m past instance es part now fs f w.first w.listed w.here w.own q u l e h k;
}
