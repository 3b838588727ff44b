-- One step of a search.
use Rattle.std.proofs.Common.{◌≡◌, ◌≢◌, ℕ, zero, suc, ◌/◌, ◌%◌, ◌==◌, if◌then◌else◌, Bool, true, false, Option, Some, None, refl, sym, ap, ◌∙◌}
use Rattle.std.specs.Option.{option_map}
use Rattle.std.proofs.lemmas.Bool.{eq-eqb, ne_eqb}
use Rattle.tv_pool.specs.Pool.{nowhere}
use Rattle.tv_stream.specs.declared.nodes.Entry.{Entry}
use Rattle.tv_stream.specs.nodes.Nodes.{Stop, found, free, leads, within, next, seek}

module _ {B : Type 0} where
  abbrev after : (ℕ → Option (Entry B)) → ℕ → ℕ → ℕ → ℕ → ℕ → Option (ℕ × Entry B) → Stop
  after m left at by i rest o = elim o [ None ↦ free at by | Some (s, e) ↦ if e.index == i then found s else seek m left s (rest % 4) i (rest / 4) ]

  pub seek-none : (m : ℕ → Option (Entry B)) (left at by i rest : ℕ) → next m at by ≡ None → seek m left at by i rest ≡ free at by
  unfolding seek
  seek-none m zero at by i rest e = refl
  seek-none m (suc left) at by i rest e = ap (after m left at by i rest) e

  pub seek-found : (m : ℕ → Option (Entry B)) (left at by i rest s : ℕ) (e : Entry B) → next m at by ≡ Some (s, e) → e.index ≡ i → seek m (suc left) at by i rest ≡ found s
  unfolding seek
  seek-found m left at by i rest s e h same = ap (after m left at by i rest) h ∙ ap (λ b. if b then found s else seek m left s (rest % 4) i (rest / 4)) (eq-eqb e.index i same)

  pub seek-on : (m : ℕ → Option (Entry B)) (left at by i rest s : ℕ) (e : Entry B) → next m at by ≡ Some (s, e) → e.index ≢ i → seek m (suc left) at by i rest ≡ seek m left s (rest % 4) i (rest / 4)
  unfolding seek
  seek-on m left at by i rest s e h differs = ap (after m left at by i rest) h ∙ ap (λ b. if b then found s else seek m left s (rest % 4) i (rest / 4)) (ne_eqb e.index i differs)

  pub seek-zero : (m : ℕ → Option (Entry B)) (at by i rest : ℕ) → seek m 0 at by i rest ≡ free at by
  unfolding seek
  seek-zero m at by i rest = refl

  abbrev led : (ℕ → Option (Entry B)) → ℕ → Option (Entry B) → Option (ℕ × Entry B)
  led m by o = elim o [ None ↦ None | Some e ↦ within (leads e by) (m (leads e by)) ]

  pub next-some : (m : ℕ → Option (Entry B)) (at by : ℕ) (e f : Entry B) → m at ≡ Some e → leads e by ≢ nowhere → m (leads e by) ≡ Some f → next m at by ≡ Some (leads e by, f)
  unfolding next
  next-some m at by e f h there k =
      ap (led m by) h
      ∙ ap (λ b. if b then None else option_map (λ (g : Entry B). (leads e by, g)) (m (leads e by))) (ne_eqb (leads e by) nowhere there)
      ∙ ap (option_map (λ (g : Entry B). (leads e by, g))) k

  pub next-none : (m : ℕ → Option (Entry B)) (at by : ℕ) (e : Entry B) → m at ≡ Some e → leads e by ≡ nowhere → next m at by ≡ None
  unfolding next
  next-none m at by e h none =
      ap (led m by) h
      ∙ ap (λ b. if b then None else option_map (λ (g : Entry B). (leads e by, g)) (m (leads e by))) (eq-eqb (leads e by) nowhere none)
