-- Lemmas on what lies where in a pool, for this crate and its callers.
use Rattle.std.proofs.Common.{◌≡◌, ◌≢◌, ℕ, zero, suc, List, [], ◌∷◌, ◌++◌, get_or, map, eqb, if◌then◌else◌, Bool, true, false, Option, Some, None, refl, sym, ap, ◌∙◌, subst}
use Rattle.std.specs.List.{slice_get}
use Rattle.std.specs.Option.{option_map, IsSomeAnd}
use Rattle.std.proofs.lemmas.Bool.{eq-eqb, eqb-true, both_ways}
use Rattle.std.proofs.lemmas.List.{get_or-set_other}
use Rattle.std.proofs.lemmas.Option.{same_Some}
use Rattle.tv_pool.specs.Pool.{Pool, Contents, Stored, region_at, stored_in, lying_in, item_in, with_lying, contents_written, with_linked, lies_at, slot_of, number_of, IsLive, Puts, contents_with}
use Rattle.tv_pool.specs.declared.handles.Region.{Region}
use Rattle.tv_pool.specs.declared.handles.Node.{Node}
use Rattle.tv_pool.specs.declared.handles.Link.{Link}
use Rattle.tv_pool.proofs.PoolLemmas.{region_at-put}

module _ {T : Type 0} where
  -- what lies in a slot is stored at some position
  pub lying-stored : (ss : List (Stored T)) (slot : ℕ) (item : T) → lying_in ss slot ≡ Some item → (position : ℕ) × (slice_get ss position ≡ Some (record { item = item; slot = slot }))
  lying-stored [] slot item lies = absurd (cc)
  lying-stored (s ∷ ss) slot item lies = by (λ is. lying-stored ss slot item is) (eqb s.slot slot) refl lies
    where
      by : (lying_in ss slot ≡ Some item → (position : ℕ) × (slice_get ss position ≡ Some (record { item = item; slot = slot }))) → (b : Bool) → eqb s.slot slot ≡ b → (if b then Some s.item else lying_in ss slot) ≡ Some item → (position : ℕ) × (slice_get (s ∷ ss) position ≡ Some (record { item = item; slot = slot }))
      by rec true same is = (0, ap (λ x. let r : Stored T = record { item = x; slot = s.slot } in Some r) (same_Some s.item item is) ∙ ap (λ n. let r : Stored T = record { item = item; slot = n } in Some r) (eqb-true s.slot slot same))
      by rec false differs is = let found = rec is in (suc found.0, found.1)

  -- one more, in a slot in which nothing lay
  pub lying-more : (ss : List (Stored T)) (last : Stored T) (slot : ℕ) → lying_in ss last.slot ≡ None → lying_in (ss ++ last ∷ []) slot ≡ (if eqb last.slot slot then Some last.item else lying_in ss slot)
  lying-more [] last slot fresh = refl
  lying-more (s ∷ ss) last slot fresh = by (lying-more ss last slot (apart (eqb s.slot last.slot) fresh)) (eqb s.slot slot) (eqb last.slot slot) refl refl
    where
      apart : (b : Bool) → (if b then Some s.item else lying_in ss last.slot) ≡ None → lying_in ss last.slot ≡ None
      apart true h = absurd (cc)
      apart false h = h

      by : lying_in (ss ++ last ∷ []) slot ≡ (if eqb last.slot slot then Some last.item else lying_in ss slot) → (b c : Bool) → eqb s.slot slot ≡ b → eqb last.slot slot ≡ c → (if b then Some s.item else lying_in (ss ++ last ∷ []) slot) ≡ (if c then Some last.item else (if b then Some s.item else lying_in ss slot))
      by rec true true h k = absurd (taken (eqb s.slot last.slot) (eq-eqb s.slot last.slot (eqb-true s.slot slot h ∙ sym (eqb-true last.slot slot k))) fresh)
        where
          taken : (b : Bool) → b ≡ true → (if b then Some s.item else lying_in ss last.slot) ≡ None → ⊥
          taken true e f = absurd (cc)
          taken false e f = absurd (cc)
      by rec true false h k = refl
      by rec false c h k = rec ∙ ap (λ d. if d then Some last.item else lying_in ss slot) k

  -- after a put: the item in its slot, and all else of the region
  pub item_in-put : (old new : Pool T) (region : Region) (item : T) (node : Node) → IsLive old region → Puts old new region item node → item_in old (number_of region) (slot_of node) ≡ None → (slot : ℕ) → item_in new (number_of region) slot ≡ (if eqb (slot_of node) slot then Some item else item_in old (number_of region) slot)
  item_in-put old new region item node live puts fresh slot =
      ap (λ o. lying_in (stored_in o) slot) (region_at-put old new region item node live puts)
      ∙ lying-more (stored_in (region_at old region.number)) (record { item = item; slot = node.slot }) slot fresh

  lying-written : (ss : List (Stored T)) (at : ℕ) (item : T) (slot : ℕ) → lying_in (map (with_lying at item) ss) slot ≡ (if eqb slot at then option_map (λ was. item) (lying_in ss slot) else lying_in ss slot)
  lying-written [] at item slot = by (eqb slot at)
    where
      by : (b : Bool) → None ≡ (if b then option_map (λ (was : T). item) None else None)
      by true = refl
      by false = refl
  lying-written (s ∷ ss) at item slot = by (lying-written ss at item slot) (eqb s.slot slot) (eqb slot at) (eqb s.slot at) refl refl refl
    where
      by : lying_in (map (with_lying at item) ss) slot ≡ (if eqb slot at then option_map (λ was. item) (lying_in ss slot) else lying_in ss slot) → (b c d : Bool) → eqb s.slot slot ≡ b → eqb slot at ≡ c → eqb s.slot at ≡ d → (if b then Some (if d then item else s.item) else lying_in (map (with_lying at item) ss) slot) ≡ (if c then option_map (λ was. item) (if b then Some s.item else lying_in ss slot) else (if b then Some s.item else lying_in ss slot))
      by rec true true true h k l = refl
      by rec true true false h k l = absurd (both_ways (eqb s.slot at) l (eq-eqb s.slot at (eqb-true s.slot slot h ∙ eqb-true slot at k)))
      by rec true false true h k l = absurd (both_ways (eqb slot at) k (eq-eqb slot at (sym (eqb-true s.slot slot h) ∙ eqb-true s.slot at l)))
      by rec true false false h k l = refl
      by rec false c d h k l = rec ∙ ap (λ e. if e then option_map (λ was. item) (lying_in ss slot) else lying_in ss slot) k

  at-written : (os : List (Option (Contents T))) (at : ℕ) (item : T) (number : ℕ) → get_or (map (contents_written at item) os) number None ≡ contents_written at item (get_or os number None)
  at-written [] at item number = refl
  at-written (o ∷ os) at item zero = refl
  at-written (o ∷ os) at item (suc number) = at-written os at item number

  stored-written : (o : Option (Contents T)) (at : ℕ) (item : T) → stored_in (contents_written at item o) ≡ map (with_lying at item) (stored_in o)
  stored-written None at item = refl
  stored-written (Some c) at item = refl

  -- after a write through a link
  pub item_in-linked : (pool : Pool T) (link : Link) (item : T) (number slot : ℕ) → item_in (with_linked pool link item) number slot ≡ (if eqb slot (lies_at link) then option_map (λ was. item) (item_in pool number slot) else item_in pool number slot)
  item_in-linked pool link item number slot =
      ap (λ o. lying_in (stored_in o) slot) (at-written pool.regions link.slot item number)
      ∙ ap (λ ss. lying_in ss slot) (stored-written (region_at pool number) link.slot item)
      ∙ lying-written (stored_in (region_at pool number)) link.slot item slot

  -- a write through a link leaves the live regions live
  entry-written : (o : Option (Contents T)) (at : ℕ) (item : T) (entry : ℕ) → IsSomeAnd o (λ c. c.entry ≡ entry) → IsSomeAnd (contents_written at item o) (λ c. c.entry ≡ entry)
  entry-written None at item entry h = absurd h
  entry-written (Some c) at item entry h = h

  pub IsLive-linked : (pool : Pool T) (link : Link) (item : T) (region : Region) → IsLive pool region → IsLive (with_linked pool link item) region
  IsLive-linked pool link item region live = subst (λ o. IsSomeAnd o (λ (c : Contents T). c.entry ≡ region.entry)) (sym (at-written pool.regions link.slot item region.number)) (entry-written (region_at pool region.number) link.slot item region.entry live)

  -- a put leaves what stands under other numbers
  pub region_at-put_other : (old new : Pool T) (region : Region) (item : T) (node : Node) → Puts old new region item node → (number : ℕ) → number ≢ number_of region → region_at new number ≡ region_at old number
  region_at-put_other old new region item node puts number other =
      ap (λ rs. get_or rs number None) puts.regions
      ∙ get_or-set_other old.regions region.number number (Some (contents_with old region (record { item = item; slot = node.slot }))) None other

  lying-unwritten : (ss : List (Stored T)) (at : ℕ) (item : T) → lying_in ss at ≡ None → map (with_lying at item) ss ≡ ss
  lying-unwritten [] at item none = refl
  lying-unwritten (s ∷ ss) at item none = by (lying-unwritten ss at item) (eqb s.slot at) refl none
    where
      by : (lying_in ss at ≡ None → map (with_lying at item) ss ≡ ss) → (b : Bool) → eqb s.slot at ≡ b → (if b then Some s.item else lying_in ss at) ≡ None → map (with_lying at item) (s ∷ ss) ≡ s ∷ ss
      by rec true is none = absurd (cc)
      by rec false is none = ap (λ b. let r : Stored T = record { item = if b then item else s.item; slot = s.slot } in r ∷ map (with_lying at item) ss) is ∙ ap (λ l. s ∷ l) (rec none)

  -- so does a write through a link of another region
  pub region_at-linked_other : (pool : Pool T) (link : Link) (item : T) (number : ℕ) → item_in pool number (lies_at link) ≡ None → region_at (with_linked pool link item) number ≡ region_at pool number
  region_at-linked_other pool link item number none = at-written pool.regions link.slot item number ∙ by (region_at pool number) none
    where
      by : (o : Option (Contents T)) → lying_in (stored_in o) link.slot ≡ None → contents_written link.slot item o ≡ o
      by None h = refl
      by (Some c) h = ap (λ ss. let r : Contents T = record { entry = c.entry; stored = ss } in Some r) (lying-unwritten c.stored link.slot item h)
