-- An entry of one instance, which goes on: all others stay as they are.
use Rattle.std.specs.Prelude.{◌≡◌, ℕ, List, ◌∷◌, true, false, Option, None, Some, is_some, option_map}
use Rattle.std.proofs.Common.{ap, sym, ◌∙◌}
use Rattle.std.proofs.lemmas.Option.{same_Some}
use Rattle.tv_lemmas.proofs.Options.{is_some-some}
use Rattle.tv_value.specs.Nested.{Place}
use Rattle.tv_value.specs.Values.{JobName, Name, Value}
use Rattle.tv_gate.specs.Outcomes.{Giving}
use Rattle.tv_flow.specs.Flows.{Document, Flow}
use Rattle.tv_model.specs.instance.Steps.{spot}
use Rattle.tv_model.specs.Meanings.{meaning}
use Rattle.tv_history.specs.Entries.{Entry, History, is_ended_entry, is_opened_entry}
use Rattle.tv_history.specs.Histories.{is_legal_after}
use Rattle.tv_framing.specs.Views.{View}
use Rattle.tv_forest.specs.runs.Elsewhere.{IsElsewhere, name_in}
use Rattle.tv_forest.proofs.runs.Elsewhere.{others-are_elsewhere}
use Rattle.tv_forest.proofs.seats.Runs.{elsewhere-stays}
use Rattle.tv_forest.proofs.seats.Ends.{ended_stays}
use Rattle.tv_forest.specs.Entries.{GoesOnAs, OneGoesOn, with_instance}
use Rattle.tv_forest.specs.Forest.{Instance, Instances, IsAt, IsOpenAt, Stand, Stays}
use Rattle.tv_forest.proofs.Instances.{Becomes, Later, StaysThen, later-itself, stand-then}
use Rattle.tv_forest.proofs.Lists.{at-each, at-set, of-set, to-set}
use Rattle.tv_forest.proofs.SeatLemmas.{WereNested, were-same}

-- ---- an instance of which the entry isn't

module _ (gives : Giving) (d : Document) (levels : Flow → Name → ℕ) (past : History) (e : Entry)
    (legal : is_legal_after gives (meaning gives d) past e ≡ true) (x : Instance) where
  -- one that has ended stays, whatever the entry
  pub stays-elsewhere : IsElsewhere e x.name → (o : Option View)
      → Stays gives d levels past x o → Stays gives d levels (e ∷ past) x o
  stays-elsewhere there (Some v) h =
      (h.0, elsewhere-stays gives d past x.name (levels x.flow) v x.seats h.1 e legal there)
  stays-elsewhere there None h = ended_stays gives d past x.name x.flow x.seats h e legal

-- ---- one that goes on

abbrev inputs_of : Option View → Option (List (Name × Value))
inputs_of o = option_map (λ (v : View). v.inputs) o

pub later-on : (ys : Instances) (x y : Instance) → GoesOnAs x y → Later ys x y
later-on ys x y g = record {
  name = g.name;
  flow = g.flow;
  views = λ w e.
      let v = is_some-some x.view (sym g.as_open ∙ ap is_some e) in (
        v.0,
        v.1,
        same_Some w.inputs v.0.inputs (sym (ap inputs_of e) ∙ g.inputs ∙ ap inputs_of v.1),
      );
  spots = g.seats;
  still = λ n k s t a b h is. g.still_nested n k s t a b h;
}

-- ---- the law

module _ (gives : Giving) (d : Document) (levels : Flow → Name → ℕ) (past : History) (xs : Instances)
    (stand : Stand gives d levels past xs) (e : Entry) (i : ℕ) (x y : Instance) (s : Name) (q : Place)
    (at : IsAt xs i x) (named : name_in e ≡ Some (spot x.name s q))
    (legal : is_legal_after gives (meaning gives d) past e ≡ true)
    (no_opening : (n : JobName) → is_opened_entry n e ≡ false) (no_end : (n : JobName) → is_ended_entry n e ≡ false)
    (g : GoesOnAs x y) (now : Stays gives d levels (e ∷ past) y y.view) where
  abbrev ys : Instances
  ys = with_instance xs i y

  here : IsAt ys i y
  here = at-set xs i x y at

  on : (k : ℕ) (z : Instance) → IsAt xs k z → Becomes gives d levels past xs stand e ys k z
  on =
      at-each xs i x at (λ k z. Becomes gives d levels past xs stand e ys k z)
      (record { after = y; there = here; later = later-on ys x y g })
      (λ k z ne c. record { after = z; there = to-set xs i x y at k z ne c; later = later-itself ys z })

  each : (k : ℕ) (z : Instance) → IsAt ys k z → StaysThen gives d levels past xs stand e ys z
  each =
      at-each ys i y here (λ k z. StaysThen gives d levels past xs stand e ys z) now
      (λ k z ne c.
      let b = of-set xs i x y at k z ne c in
      let there =
      others-are_elsewhere e x.name z.name s q named (λ h. ne (stand.apart k i z x b at h))
      (no_end z.name) in
      stays-elsewhere gives d levels past e legal z there z.view (stand.each k z b))

  abbrev Was : ℕ → Instance → Type 0
  Was k z = (u : Instance) × IsAt xs k u × Later ys u z × WereNested u.seats z.seats

  was : (k : ℕ) (z : Instance) → IsAt ys k z → Was k z
  was =
      at-each ys i y here Was (x, at, later-on ys x y g, g.nested)
      (λ k z ne c. (z, of-set xs i x y at k z ne c, later-itself ys z, were-same z.seats))

  open-then : (n : JobName) (k : ℕ) → IsOpenAt xs k n → IsOpenAt ys k n
  open-then n k o =
      at-each xs i x at (λ l z. z.name ≡ n → is_some z.view ≡ true → IsOpenAt ys l n)
      (λ h f. record { instance = y; there = here; is_its = g.name ∙ h; is_open = g.as_open ∙ f })
      (λ l z ne c h f.
      record { instance = z; there = to-set xs i x y at l z ne c; is_its = h; is_open = f })
      k o.instance o.there o.is_its o.is_open

  goes-on : Stand gives d levels (e ∷ past) ys
  goes-on =
      stand-then gives d levels past xs stand e ys on each legal no_opening was
      (λ l n k z t j is h o. open-then j.name k o)

pub one-goes_on : OneGoesOn
one-goes_on gives d levels past xs stand e i x y s q at named legal no_opening no_end g now =
    goes-on gives d levels past xs stand e i x y s q at named legal no_opening no_end g now
