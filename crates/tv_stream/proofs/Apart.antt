-- Nodes stay as they are where what lies in their slots does.
use Rattle.std.proofs.Common.{◌≡◌, ◌≢◌, ℕ, zero, suc, ◌/◌, ◌%◌, List, Option, Some, None, ◌⊎◌, inl, inr, refl, sym, ap, ◌∙◌, subst}
use Rattle.std.proofs.lemmas.Bool.{cases_eq}
use Rattle.tv_pool.specs.Pool.{nowhere}
use Rattle.tv_stream.specs.declared.nodes.Entry.{Entry}
use Rattle.tv_stream.specs.nodes.Nodes.{part_found, own_link, leads, next, seek, seek_part, part_in}
use Rattle.tv_stream.specs.nodes.Stands.{Spot, AreNodes}
use Rattle.tv_stream.proofs.Seeks.{seek-none, seek-found, seek-on, seek-zero, next-some, next-none}
use Rattle.tv_stream.proofs.NodeWays.{OnWay, Reached, way-begins, way-next, way-on}

module _ {B : Type 0} (m m' : ℕ → Option (Entry B)) (spots : ℕ → Option Spot) (nodes : AreNodes m spots) (same : (s : ℕ) (p : Spot) → spots s ≡ Some p → m' s ≡ m s) where
  pub nodes-stay : AreNodes m' spots
  nodes-stay = record {
    entries = λ s p known. let e = nodes.entries s p known in record { entry = e.entry; lies = same s p known ∙ e.lies; there = e.there; links = e.links; index = e.index };
    links = λ s p e by known lies bound there.
        let l = nodes.links s p e by known (sym (same s p known) ∙ lies) bound there in
        record { spot = l.spot; entry = l.entry; known = l.known; lies = same (leads e by) l.spot l.known ∙ l.lies; hangs = l.hangs };
  }

  seek-stays : (o : ℕ) (r : List ℕ) (i left s d rest : ℕ) → OnWay m spots o r i s d rest left → seek m' left s d i rest ≡ seek m left s d i rest
  seek-stays o r i zero s d rest w = seek-zero m' s d i rest ∙ sym (seek-zero m s d i rest)
  seek-stays o r i (suc left) s d rest w = elim (way-next m spots nodes o r i s d rest (suc left) w) [
    | inl none ↦ seek-none m' (suc left) s d i rest (next-none m' s d w.entry here none.0) ∙ sym (seek-none m (suc left) s d i rest none.1)
    | inr there ↦ at_node there.0 there.1.0 there.1.1 (cases_eq there.1.0.entry.index i) (λ v. seek-stays o r i left there.1.0.slot (rest % 4) (rest / 4) v)
  ]
    where
      here : m' s ≡ Some w.entry
      here = same s w.spot w.known ∙ w.lies

      at_node : leads w.entry d ≢ nowhere → (t : Reached m spots o r i s d rest (suc left)) → leads w.entry d ≡ t.slot → (t.entry.index ≡ i) ⊎ (t.entry.index ≢ i) → (OnWay m spots o r i t.slot (rest % 4) (rest / 4) left → seek m' left t.slot (rest % 4) i (rest / 4) ≡ seek m left t.slot (rest % 4) i (rest / 4)) → seek m' (suc left) s d i rest ≡ seek m (suc left) s d i rest
      at_node there t is k rec = by_index k
        where
          comes : next m' s d ≡ Some (t.slot, t.entry)
          comes = subst (λ n. next m' s d ≡ Some (n, t.entry)) is (next-some m' s d w.entry t.entry here there (ap m' is ∙ same t.slot t.spot t.known ∙ t.lies))

          by_index : (t.entry.index ≡ i) ⊎ (t.entry.index ≢ i) → seek m' (suc left) s d i rest ≡ seek m (suc left) s d i rest
          by_index (inl e) = seek-found m' left s d i rest t.slot t.entry comes e ∙ sym (seek-found m left s d i rest t.slot t.entry t.comes e)
          by_index (inr ne) =
              seek-on m' left s d i rest t.slot t.entry comes ne
              ∙ rec (way-on m spots nodes o r i s d rest left t ne)
              ∙ sym (seek-on m left s d i rest t.slot t.entry t.comes ne)

  pub parts-stay : (s : ℕ) (p : Spot) (i : ℕ) → spots s ≡ Some p → part_in m' s i ≡ part_in m s i
  unfolding seek_part
  parts-stay s p i known = ap part_found (seek-stays s p.place i 17 s own_link i (way-begins m spots nodes s p.place i s p known refl refl))
