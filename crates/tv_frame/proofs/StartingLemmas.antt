-- What ports are told at the start, one after the other.
use Rattle.std.specs.Borrow.{Bor}
use Rattle.std.specs.Prelude.{◌≡◌, refl, ℕ, ◌+◌, ◌-◌, ◌<◌, ◌≤◌, List, ◌++◌, flat_map, is_some, length, Option, Some, None, option_map, reverse, slice_get, take}
use Rattle.std.proofs.Common.{arith, sym, ap, subst, ◌∙◌, get_or}
use Rattle.std.proofs.lemmas.List.{get_or-reverse, length-reverse, take_all}
use Rattle.std.proofs.lemmas.Option.{get_or_from_slice_get}
use Rattle.tv_lemmas.proofs.Lists.{get-read}
use Rattle.tv_value.specs.Strategies.{Strategy}
use Rattle.tv_value.specs.Values.{Value}
use Rattle.tv_value.specs.Views.{view}
use Rattle.tv_naming.specs.Naming.{numbered}
use Rattle.tv_naming.proofs.Told.{get-numbered, length-numbered}
use Rattle.tv_cell.specs.declared.cell.Cell.{Cell}
use Rattle.tv_matching.specs.Told.{Told}
use Rattle.tv_match.specs.declared.told.Told as code
use Rattle.tv_telling.specs.Views.{AddsTellings, AreTellings}
use Rattle.tv_check.specs.declared.feeds.NumberedFeed.{NumberedFeed}
use Rattle.tv_check.specs.declared.ports.Port.{Port}
use Rattle.tv_telling.specs.Openings.{IsFedFrom, fixed_in, numbered_port_start}
use Rattle.tv_frame.specs.FirstTellings.{fixed_value, ports_start}
use Rattle.tv_frame.proofs.TableLemmas.{flat-next}

-- ---- the constant that is lent is the port's

pub fixed-lent : (o : Option (Bor Cell)) (c : Option Value) → option_map (λ x. view x.now) o ≡ c → fixed_in o ≡ fixed_value c
fixed-lent None c e = ap fixed_value e
fixed-lent (Some x) c e = ap fixed_value e

pub fed-lent : (o : Option (Bor Cell)) (c : Option Value) → option_map (λ x. view x.now) o ≡ c → (count : ℕ) (d : NumberedFeed) → IsFedFrom count (is_some c) d → IsFedFrom count (is_some o) d
fed-lent None c e count d h = subst (λ b. IsFedFrom count (is_some b) d) (sym e) h
fed-lent (Some x) c e count d h = subst (λ b. IsFedFrom count (is_some b) d) (sym e) h

-- ---- the ports of a step, the last first

port-at : (ps : List Port) (back number : ℕ) (p : Port) → back < length ps → number ≡ length ps - 1 - back → p ≡ get_or ps number p → slice_get (reverse (numbered 0 ps)) back ≡ Some (number, p)
port-at ps back number p lt n is =
    let there : slice_get (numbered 0 ps) number ≡ Some (number, p) = get-numbered ps number p (get-read ps number p (omega (arith, lt, n)) is) in
    let many : length (numbered 0 ps) ≡ length ps = length-numbered 0 ps in
    from-there (numbered 0 ps) (number, p) back number (omega (arith, lt, many)) (omega (arith, lt, n, many)) there
  where
    from-there : (xs : List (ℕ × Port)) (x : ℕ × Port) (b m : ℕ) → b < length xs → m ≡ length xs - 1 - b → slice_get xs m ≡ Some x → slice_get (reverse xs) b ≡ Some x
    from-there xs x b m lt n e = get-read (reverse xs) b x (let r = length-reverse xs in omega (arith, lt, r)) (sym (get_or-reverse xs b x lt ∙ ap (λ j. get_or xs j x) (sym n) ∙ get_or_from_slice_get xs m x x e))

module _ (vs : List Value) (constants : ℕ → Option Value) (ps : List Port) where
  -- what the last so many ports are told
  abbrev pub last_start : ℕ → Strategy → List Told
  last_start back s = flat_map (λ (x : ℕ × Port). numbered_port_start vs (fixed_value (constants x.0)) s x.1) (take back (reverse (numbered 0 ps)))

  pub ports-next : (back : ℕ) (p : Port) (before after : List code.Told) → back < length ps → p ≡ get_or ps (length ps - 1 - back) p → AreTellings before (last_start back) → AddsTellings before after (λ s. numbered_port_start vs (fixed_value (constants (length ps - 1 - back))) s p) → AreTellings after (last_start (back + 1))
  ports-next back p before after lt is h t s =
      t s
      ∙ ap (λ a. a ++ numbered_port_start vs (fixed_value (constants (length ps - 1 - back))) s p) (h s)
      ∙ sym (flat-next (λ (x : ℕ × Port). numbered_port_start vs (fixed_value (constants x.0)) s x.1) (reverse (numbered 0 ps)) back (length ps - 1 - back, p) (port-at ps back (length ps - 1 - back) p lt refl is))

  pub ports-all : (back : ℕ) (tellings : List code.Told) → length ps ≤ back → AreTellings tellings (last_start back) → AreTellings tellings (λ s. ports_start vs constants s ps)
  ports-all back tellings le h s =
      let many : length (numbered 0 ps) ≡ length ps = length-numbered 0 ps in
      let turned = length-reverse (numbered 0 ps) in
      h s ∙ ap (flat_map (λ (x : ℕ × Port). numbered_port_start vs (fixed_value (constants x.0)) s x.1)) (take_all back (reverse (numbered 0 ps)) (omega (arith, le, many, turned)))
