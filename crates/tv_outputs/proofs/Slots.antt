-- The slot in which the node of a place of a tree lies.
use Rattle.std.specs.Prelude.{◌≡◌, ◌≢◌, refl, ℕ, zero, suc, Bool, true, false, ◌||◌, eqb, if◌then◌else◌, List, [], ◌∷◌, ◌++◌, map, Option, Some, None}
use Rattle.std.specs.Set.{is_member}
use Rattle.std.proofs.Common.{sym, ap, ◌∙◌, append_assoc}
use Rattle.std.proofs.lemmas.Bool.{eq-eqb, eqb-true, or_right}
use Rattle.std.proofs.lemmas.List.{append-nil}
use Rattle.std.proofs.lemmas.Option.{none-some}
use Rattle.tv_value.specs.Nested.{Place}
use Rattle.tv_parts.specs.Partials.{known_at, part_at, wanting}
use Rattle.tv_pool.specs.Pool.{Stored, lying_in}
use Rattle.tv_stream.specs.declared.nodes.Entry.{Entry}
use Rattle.tv_stream.specs.nodes.Nodes.{part_in}
use Rattle.tv_stream.specs.nodes.Stands.{AreNodes, Spot}
use Rattle.tv_stream.proofs.NodeWays.{part-spot}
use Rattle.tv_stream.specs.declared.held.Held.{Held}
use Rattle.tv_stream.specs.declared.held.Part.{Part}
use Rattle.tv_stream.specs.declared.held.Part.TheVariants.{Item, Numbered, Wanting}
use Rattle.tv_stream.specs.Stands.{IsLeaf, IsSound}
use Rattle.tv_stream.specs.Trees.{Marked, optional, tree_at, tree_by}
use Rattle.tv_stream.proofs.Places.{known-wanting}
use Rattle.tv_stream.proofs.Same.{part-tree, sound-zero, tree-zero}
use Rattle.tv_stream.proofs.Steps.{part-sound}

-- ---- what lies in a slot is one of the region's items

pub lies-among : {T : Type 0} (ss : List (Stored T)) (slot : ℕ) (x : T) → lying_in ss slot ≡ Some x → is_member eqb (map (λ (s : Stored T). s.slot) ss) slot ≡ true
lies-among [] slot x h = absurd (none-some x h)
lies-among {T = T} (s ∷ ss) slot x h = by (eqb s.slot slot) refl h (λ k. lies-among ss slot x k)
  where
    rest : Bool
    rest = is_member eqb (map (λ (s : Stored T). s.slot) ss) slot

    by : (b : Bool) → eqb s.slot slot ≡ b → (if b then Some s.item else lying_in ss slot) ≡ Some x → (lying_in ss slot ≡ Some x → rest ≡ true) → (eqb slot s.slot || rest) ≡ true
    by true e k rec = ap (λ b. b || rest) (eq-eqb slot s.slot (sym (eqb-true s.slot slot e)))
    by false e k rec = or_right (eqb slot s.slot) rest (rec k)

-- ---- from part to part

module _ {T : Type 0} (m : ℕ → Option (Entry (Held T))) where
  -- the slot to which a place leads from the node in a slot
  abbrev pub slot_at : ℕ → Place → ℕ
  slot_at s [] = s
  slot_at s (i ∷ q) = elim (part_in m s i) [ None ↦ s | Some t ↦ slot_at t q ]

  leaf-part : (s : ℕ) (marked : Bool) (w : Part T) (i : ℕ) → IsLeaf m s marked w → part_at (tree_by (λ t. wanting) m s marked w) i ≡ wanting
  leaf-part s marked Wanting i h = refl
  leaf-part s marked (Item v) i h = refl
  leaf-part s marked (Numbered c) i h = absurd h

  no-part : (s i : ℕ) → IsSound 0 m s → part_at (tree_at 0 m s) i ≡ wanting
  no-part s i sound = let b = sound-zero m s sound in ap (λ t. part_at t i) (tree-zero m s b.0 b.1) ∙ leaf-part s b.0.marked b.0.part i b.2

  module _ (spots : ℕ → Option Spot) (nodes : AreNodes m spots) where
    -- the node of a place at which something is known lies in a slot with a spot at that place
    pub record IsSpotOf (p : Spot) (q : Place) (slot : ℕ) : Type 0 where
      pub spot : Spot
      pub known : spots slot ≡ Some spot
      pub place : spot.place ≡ p.place ++ q

    pub stands-there : (height s : ℕ) (p : Spot) (q : Place) → spots s ≡ Some p → IsSound height m s → known_at q (tree_at height m s) ≢ wanting → IsSpotOf p q (slot_at s q)
    stands-there height s p [] at sound known = record { spot = p; known = at; place = sym (append-nil p.place) }
    stands-there zero s p (i ∷ q) at sound known = absurd (known (ap (known_at q) (no-part s i sound) ∙ known-wanting (Marked T) q))
    stands-there (suc height) s p (i ∷ q) at sound known = by (part_in m s i) refl (λ h. known (ap (known_at q) (part-tree height m s sound i) ∙ h)) (λ t a e k. stands-there height t a q e k)
      where
        by : (o : Option ℕ) → part_in m s i ≡ o → known_at q (optional (tree_at height m) (part_in m s i)) ≢ wanting
            → ((t : ℕ) (a : Spot) → spots t ≡ Some a → IsSound height m t → known_at q (tree_at height m t) ≢ wanting → IsSpotOf a q (slot_at t q))
            → IsSpotOf p (i ∷ q) (slot_at s (i ∷ q))
        by None e k rec = absurd (k (ap (λ o. known_at q (optional (tree_at height m) o)) e ∙ known-wanting (Marked T) q))
        by (Some t) e k rec =
            let w = part-spot m spots nodes s p i t at e in
            let r = rec t w.0 w.1 (part-sound height m s i t sound e) (λ h. k (ap (λ o. known_at q (optional (tree_at height m) o)) e ∙ h)) in
            let same : slot_at s (i ∷ q) ≡ slot_at t q = ap (λ (o : Option ℕ). elim o [ None ↦ s | Some u ↦ slot_at u q ]) e in
            record {
              spot = r.spot;
              known = ap spots same ∙ r.known;
              place = r.place ∙ ap (λ x. x ++ q) w.2 ∙ append_assoc p.place (i ∷ []) q;
            }
