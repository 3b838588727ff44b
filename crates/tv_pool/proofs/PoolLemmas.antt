-- Lemmas on what a contract sees of a pool, for this crate and its callers.
use Rattle.std.proofs.Common.{◌≡◌, ◌≢◌, ℕ, ◌+◌, [], ◌∷◌, ◌++◌, length, get_or, set, map, Option, Some, None, refl, sym, ap, ◌∙◌, subst, inl, inr}
use Rattle.std.specs.List.{slice_get}
use Rattle.std.specs.Option.{IsSomeAnd, option_map}
use Rattle.std.proofs.lemmas.Bool.{cases_eq}
use Rattle.std.proofs.lemmas.List.{get_or-set_same, get_or-set_other, get_or_append_left, length-map, map-append}
use Rattle.std.proofs.lemmas.Option.{slice_get-map, slice_get_within, same_Some}
use Rattle.tv_pool.specs.Pool.{Pool, Contents, Stored, region_at, stored_in, stored_at, items_of, item_at, number_of, IsLive, Holds, Keeps, KeepsOthers, Begins, Puts, with_item, written, region_of, position_of}
use Rattle.tv_pool.specs.declared.handles.Region.{Region}
use Rattle.tv_pool.specs.declared.handles.Node.{Node}
use Rattle.tv_pool.proofs.Chains.{within, slice_get-push_below, slice_get-set_same, slice_get-set_other}
use Rattle.tv_lemmas.proofs.Lists.{get-end}

pub some_from : {X : Type 0} (o : Option X) (P : X → Type 0) → IsSomeAnd o P → (x : X) × (o ≡ Some x) × P x
some_from None P holds = absurd holds
some_from (Some x) P holds = (x, refl, holds)

module _ {T : Type 0} where
  -- the item at a node is that of what is stored there
  pub item_at-stored : (pool : Pool T) (node : Node) → item_at pool node ≡ option_map (λ s. s.item) (stored_at pool node)
  item_at-stored pool node = slice_get-map (λ (s : Stored T). s.item) (stored_in (region_at pool node.region)) node.position

  -- a node of a region that stays as it was is still held, with its item
  pub IsLive-same : (old new : Pool T) (region : Region) → region_at new region.number ≡ region_at old region.number → IsLive old region → IsLive new region
  IsLive-same old new region same live = rw same live

  pub Holds-same : (old new : Pool T) (node : Node) → stored_at new node ≡ stored_at old node → Holds old node → Holds new node
  Holds-same old new node same holds = subst (λ o. IsSomeAnd o (λ (s : Stored T). s.slot ≡ node.slot)) (sym same) holds

  pub item_at-same : (old new : Pool T) (node : Node) → stored_at new node ≡ stored_at old node → item_at new node ≡ item_at old node
  item_at-same old new node same = item_at-stored new node ∙ ap (option_map (λ (s : Stored T). s.item)) same ∙ sym (item_at-stored old node)

  -- where nothing that was live and stored changes, all is kept
  pub Keeps-from : (old new : Pool T) → ((number : ℕ) (c : Contents T) → region_at old number ≡ Some c → (d : Contents T) × (region_at new number ≡ Some d) × (d.entry ≡ c.entry) × ((k : ℕ) (s : Stored T) → slice_get c.stored k ≡ Some s → slice_get d.stored k ≡ Some s)) → Keeps old new
  Keeps-from old new grows =
      record {
        live = λ region was.
            let live = some_from _ (λ (c : Contents T). c.entry ≡ region.entry) was in
            let now = grows region.number live.0 live.1 in
            subst (λ o. IsSomeAnd o (λ (c : Contents T). c.entry ≡ region.entry)) (sym now.1) (now.2 ∙ live.2);
        held = λ node was. Holds-same old new node (same node was) was;
        items = λ node was. item_at-same old new node (same node was);
      }
    where
      by_contents : (node : Node) (s : Stored T) (o : Option (Contents T)) → region_at old node.region ≡ o → slice_get (stored_in o) node.position ≡ Some s → stored_at new node ≡ Some s
      by_contents node s None is found = absurd (cc)
      by_contents node s (Some c) is found =
          let now = grows node.region c is in
          ap (λ o. slice_get (stored_in o) node.position) now.1 ∙ now.3 node.position s found

      same : (node : Node) → Holds old node → stored_at new node ≡ stored_at old node
      same node was =
          let stored = some_from _ (λ (s : Stored T). s.slot ≡ node.slot) was in
          by_contents node stored.0 (region_at old node.region) refl stored.1 ∙ sym stored.1

  pub Keeps-begin : (old new : Pool T) (region : Region) → Begins old new region → Keeps old new
  Keeps-begin old new region begins =
      Keeps-from old new (λ number c found. (
        c,
        ap (λ rs. get_or rs number None) begins.regions ∙ get_or_append_left old.regions _ None number (within old.regions number c found) ∙ found,
        refl,
        λ k s there. there,
      ))

  -- a put speaks of the regions alone
  pub Puts-regions : (old other new : Pool T) (region : Region) (item : T) (node : Node) → other.regions ≡ old.regions → Puts other new region item node → Puts old new region item node
  Puts-regions old other new region item node same puts =
      record {
        number = puts.number;
        position = puts.position ∙ ap (λ rs. length (map (λ (s : Stored T). s.item) (stored_in (get_or rs region.number None)))) same;
        regions = puts.regions ∙ ap (λ rs. set rs region.number (Some (record { entry = region.entry; stored = stored_in (get_or rs region.number None) ++ record { item = item; slot = node.slot } ∷ [] }))) same;
      }

  -- what stands under the region's number after a put
  pub region_at-put : (old new : Pool T) (region : Region) (item : T) (node : Node) → IsLive old region → Puts old new region item node → region_at new region.number ≡ Some (record { entry = region.entry; stored = stored_in (region_at old region.number) ++ record { item = item; slot = node.slot } ∷ [] })
  region_at-put old new region item node live puts =
      let was = some_from _ (λ (c : Contents T). c.entry ≡ region.entry) live in
      ap (λ rs. get_or rs region.number None) puts.regions ∙ get_or-set_same old.regions region.number _ None (within old.regions region.number was.0 was.1)

  pub Keeps-put : (old new : Pool T) (region : Region) (item : T) (node : Node) → IsLive old region → Puts old new region item node → Keeps old new
  Keeps-put old new region item node live puts = Keeps-from old new grows
    where
      grows : (number : ℕ) (c : Contents T) → region_at old number ≡ Some c → (d : Contents T) × (region_at new number ≡ Some d) × (d.entry ≡ c.entry) × ((k : ℕ) (s : Stored T) → slice_get c.stored k ≡ Some s → slice_get d.stored k ≡ Some s)
      grows number c found =
          elim (cases_eq number region.number) [
            | inl same ↦
                let was = some_from _ (λ (x : Contents T). x.entry ≡ region.entry) live in
                let is : c ≡ was.0 = same_Some c was.0 (sym found ∙ ap (region_at old) same ∙ was.1) in (
                  record { entry = region.entry; stored = stored_in (region_at old region.number) ++ record { item = item; slot = node.slot } ∷ [] },
                  ap (region_at new) same ∙ region_at-put old new region item node live puts,
                  sym was.2 ∙ ap (λ (x : Contents T). x.entry) (sym is),
                  λ k s there. slice_get-push_below _ _ k s (ap (λ o. slice_get (stored_in o) k) was.1 ∙ ap (λ (x : Contents T). slice_get x.stored k) (sym is) ∙ there),
                )
            | inr differs ↦ (
              c,
              ap (λ rs. get_or rs number None) puts.regions ∙ get_or-set_other old.regions region.number number _ None differs ∙ found,
              refl,
              λ k s there. there,
            )
          ]

  -- what is stored at the node of the put item
  pub stored_at-put : (old new : Pool T) (region : Region) (item : T) (node : Node) → IsLive old region → Puts old new region item node → stored_at new node ≡ Some (record { item = item; slot = node.slot })
  stored_at-put old new region item node live puts =
      let xs = stored_in (region_at old region.number) in
      ap (λ n. slice_get (stored_in (region_at new n)) node.position) puts.number
      ∙ ap (λ o. slice_get (stored_in o) node.position) (region_at-put old new region item node live puts)
      ∙ ap (λ k. slice_get (xs ++ record { item = item; slot = node.slot } ∷ []) k) (puts.position ∙ length-map xs (λ (s : Stored T). s.item))
      ∙ get-end xs (record { item = item; slot = node.slot })

  pub Holds-put : (old new : Pool T) (region : Region) (item : T) (node : Node) → IsLive old region → Puts old new region item node → Holds new node
  Holds-put old new region item node live puts = rw (stored_at-put old new region item node live puts) refl

  pub item_at-put : (old new : Pool T) (region : Region) (item : T) (node : Node) → IsLive old region → Puts old new region item node → item_at new node ≡ Some item
  item_at-put old new region item node live puts = item_at-stored new node ∙ ap (option_map (λ (s : Stored T). s.item)) (stored_at-put old new region item node live puts)

  -- the region's list is longer by the item
  pub items_of-put : (old new : Pool T) (region : Region) (item : T) (node : Node) → IsLive old region → Puts old new region item node → items_of new (number_of region) ≡ items_of old (number_of region) ++ item ∷ []
  items_of-put old new region item node live puts =
      ap (λ o. map (λ (s : Stored T). s.item) (stored_in o)) (region_at-put old new region item node live puts)
      ∙ map-append (λ (s : Stored T). s.item) (stored_in (region_at old region.number)) (record { item = item; slot = node.slot } ∷ [])

  -- a change under one number keeps all else
  pub KeepsOthers-set : (old new : Pool T) (number : ℕ) (contents : Option (Contents T)) → new.regions ≡ set old.regions number contents → KeepsOthers old new number
  KeepsOthers-set old new number contents changed =
      record {
        live = λ region differs was. IsLive-same old new region (there region.number differs) was;
        held = λ node differs was. Holds-same old new node (ap (λ o. slice_get (stored_in o) node.position) (there node.region differs)) was;
        items = λ node differs was. item_at-same old new node (ap (λ o. slice_get (stored_in o) node.position) (there node.region differs));
      }
    where
      there : (other : ℕ) → other ≢ number → region_at new other ≡ region_at old other
      there other differs = ap (λ rs. get_or rs other None) changed ∙ get_or-set_other old.regions number other contents None differs

  -- ---- a write through `get_mut`
  module _ (pool : Pool T) (node : Node) (item : T) (holds : Holds pool node) where
    -- the pool after the write
    abbrev after : Pool T
    after = with_item pool node item

    abbrev stored_new : Stored T
    stored_new = record { item = item; slot = node.slot }

    record Written : Type 0 where
      contents : Contents T
      shown : region_at pool node.region ≡ Some contents
      stored : Stored T
      read : slice_get contents.stored node.position ≡ Some stored
      at : stored.slot ≡ node.slot

    written_there : Written
    written_there = by_contents (region_at pool node.region) refl (some_from _ (λ (s : Stored T). s.slot ≡ node.slot) holds)
      where
        by_contents : (o : Option (Contents T)) → region_at pool node.region ≡ o → (s : Stored T) × (slice_get (stored_in o) node.position ≡ Some s) × (s.slot ≡ node.slot) → Written
        by_contents None shown stored = absurd (let e = stored.1 in cc)
        by_contents (Some c) shown stored = record { contents = c; shown = shown; stored = stored.0; read = stored.1; at = stored.2 }

    region_at-after : region_at after node.region ≡ Some (record written_there.contents { stored = set written_there.contents.stored node.position stored_new })
    region_at-after =
        let w = written_there in
        get_or-set_same pool.regions node.region _ None (within pool.regions node.region w.contents w.shown)
        ∙ ap (λ o. written o node item) w.shown

    region_at-after_other : (number : ℕ) → number ≢ node.region → region_at after number ≡ region_at pool number
    region_at-after_other number differs = get_or-set_other pool.regions node.region number _ None differs

    stored_at-after : stored_at after node ≡ Some stored_new
    stored_at-after =
        let w = written_there in
        ap (λ o. slice_get (stored_in o) node.position) region_at-after
        ∙ slice_get-set_same w.contents.stored node.position stored_new (slice_get_within w.contents.stored node.position w.stored w.read)

    stored_at-after_other : (other : Node) → (region_of other ≡ region_of node → position_of other ≢ position_of node) → stored_at after other ≡ stored_at pool other
    stored_at-after_other other differs =
        let w = written_there in
        elim (cases_eq other.region node.region) [
          | inl same ↦
              ap (λ n. slice_get (stored_in (region_at after n)) other.position) same
              ∙ ap (λ o. slice_get (stored_in o) other.position) region_at-after
              ∙ slice_get-set_other w.contents.stored node.position other.position stored_new (differs same)
              ∙ sym (ap (λ n. slice_get (stored_in (region_at pool n)) other.position) same ∙ ap (λ o. slice_get (stored_in o) other.position) w.shown)
          | inr there ↦ ap (λ o. slice_get (stored_in o) other.position) (region_at-after_other other.region there)
        ]

    -- every region that was live is
    pub IsLive-with_item : (region : Region) → IsLive pool region → IsLive after region
    IsLive-with_item region live =
        elim (cases_eq region.number node.region) [
          | inl same ↦
              let w = written_there in
              let is : IsSomeAnd (Some w.contents) (λ (c : Contents T). c.entry ≡ region.entry) = subst (λ o. IsSomeAnd o (λ (c : Contents T). c.entry ≡ region.entry)) (ap (region_at pool) same ∙ w.shown) live in
              subst (λ o. IsSomeAnd o (λ (c : Contents T). c.entry ≡ region.entry)) (sym (ap (region_at after) same ∙ region_at-after)) is
          | inr there ↦ IsLive-same pool after region (region_at-after_other region.number there) live
        ]

    -- every node that was held is
    pub Holds-with_item : (other : Node) → Holds pool other → Holds after other
    Holds-with_item other was =
        elim (cases_eq other.region node.region) [
          | inl same ↦ elim (cases_eq other.position node.position) [
            | inl also ↦
                let w = written_there in
                let stored = some_from _ (λ (s : Stored T). s.slot ≡ other.slot) was in
                let read : stored_at pool node ≡ Some stored.0 = sym (ap (λ n. slice_get (stored_in (region_at pool n)) other.position) same ∙ ap (slice_get (stored_in (region_at pool node.region))) also) ∙ stored.1 in
                let is : w.stored ≡ stored.0 = same_Some w.stored stored.0 (sym w.read ∙ sym (ap (λ o. slice_get (stored_in o) node.position) w.shown) ∙ read) in
                let now : stored_at after other ≡ Some stored_new = ap (λ n. slice_get (stored_in (region_at after n)) other.position) same ∙ ap (slice_get (stored_in (region_at after node.region))) also ∙ stored_at-after in
                subst (λ o. IsSomeAnd o (λ (s : Stored T). s.slot ≡ other.slot)) (sym now) (sym w.at ∙ ap (λ (s : Stored T). s.slot) is ∙ stored.2)
            | inr there ↦ Holds-same pool after other (stored_at-after_other other (λ e. there)) was
          ]
          | inr there ↦ Holds-same pool after other (stored_at-after_other other (λ e. absurd (there e))) was
        ]
