-- Where a link leads in the pool's memory, and what a write there makes of what the pool shows.
use Rattle.std.proofs.Common.{◌≡◌, ◌≢◌, ℕ, zero, suc, ◌-◌, List, [], ◌∷◌, ◌++◌, get_or, set, map, if◌then◌else◌, Option, Some, None, refl, sym, ap, ◌∙◌, subst, inl, inr}
use Rattle.std.specs.Option.{IsSomeAnd, option_map}
use Rattle.std.specs.List.{range_with_len}
use Rattle.std.proofs.lemmas.Bool.{cases_eq, eq-eqb, ne_eqb}
use Rattle.std.proofs.lemmas.List.{get_or-set_same, get_or-set_other, map-append}
use Rattle.std.proofs.lemmas.Option.{same_Some, slice_get-map}
use Rattle.tv_lemmas.proofs.Lists.{map-after}
use Rattle.slab.specs.Slab.{Slab, get, slab_len, with_value}
use Rattle.tv_pool.specs.Pool.{Pool, Contents, Stored, stored_in, item_in, with_lying, contents_written, with_linked, lies_at}
use Rattle.tv_pool.specs.Layout.{chain_items, find_from, contents_of, contents_at, regions_of, IsLaidOut}
use Rattle.tv_pool.specs.declared.layout.Placed.{Placed}
use Rattle.tv_pool.specs.declared.layout.Chain.{Chain}
use Rattle.tv_pool.specs.declared.handles.Link.{Link}
use Rattle.tv_pool.proofs.Chains.{within}
use Rattle.tv_pool.proofs.PoolLinks.{lying-stored}
use Rattle.tv_pool.proofs.Regions.{map_range-same}
use Rattle.tv_pool.proofs.Steps.{held, Held, Held-item, slab_len-nodes_with, IsLaidOut-write, shown}

module _ {T : Type 0} where
  -- what the slots show of a chain before its last item, and that item
  abbrev chain_end : ℕ → ℕ → List (Option (Placed T)) → Option (Placed T) → List (Stored T)
  chain_end last before xs o = elim o [ None ↦ [] | Some placed ↦ chain_items xs placed.previous before ++ record { item = placed.item; slot = last } ∷ [] ]

  abbrev slots_with : List (Option (Placed T)) → ℕ → Placed T → T → List (Option (Placed T))
  slots_with slots slot p item = set slots slot (Some (record p { item = item }))

  chain-written : (slots : List (Option (Placed T))) (slot : ℕ) (p : Placed T) (item : T) → get_or slots slot None ≡ Some p → (last count : ℕ) → chain_items (slots_with slots slot p item) last count ≡ map (with_lying slot item) (chain_items slots last count)
  chain-written slots slot p item found last zero = refl
  chain-written slots slot p item found last (suc before) = elim (cases_eq last slot) [
    | inl same ↦ here same (chain-written slots slot p item found p.previous before)
    | inr differs ↦ there (λ previous. chain-written slots slot p item found previous before) differs (get_or slots last None) refl
  ]
    where
      one : (s : Stored T) (xs : List (Stored T)) → map (with_lying slot item) (xs ++ s ∷ []) ≡ map (with_lying slot item) xs ++ with_lying slot item s ∷ []
      one s xs = map-append (with_lying slot item) xs (s ∷ [])

      here : last ≡ slot → chain_items (slots_with slots slot p item) p.previous before ≡ map (with_lying slot item) (chain_items slots p.previous before) → chain_items (slots_with slots slot p item) last (suc before) ≡ map (with_lying slot item) (chain_items slots last (suc before))
      here same rec =
          ap (chain_end last before (slots_with slots slot p item)) (ap (λ n. get_or (slots_with slots slot p item) n None) same ∙ get_or-set_same slots slot (Some (record p { item = item })) None (within slots slot p found))
          ∙ ap (λ xs. xs ++ record { item = item; slot = last } ∷ []) rec
          ∙ ap (λ x. let r : Stored T = record { item = x; slot = last } in map (with_lying slot item) (chain_items slots p.previous before) ++ r ∷ []) (ap (λ b. if b then item else p.item) (sym (eq-eqb last slot same)))
          ∙ sym (one (record { item = p.item; slot = last }) (chain_items slots p.previous before))
          ∙ ap (λ o. map (with_lying slot item) (chain_end last before slots o)) (sym (ap (λ n. get_or slots n None) same ∙ found))

      there : ((previous : ℕ) → chain_items (slots_with slots slot p item) previous before ≡ map (with_lying slot item) (chain_items slots previous before)) → last ≢ slot → (o : Option (Placed T)) → get_or slots last None ≡ o → chain_items (slots_with slots slot p item) last (suc before) ≡ map (with_lying slot item) (chain_items slots last (suc before))
      there rec differs None is = ap (chain_end last before (slots_with slots slot p item)) (get_or-set_other slots slot last (Some (record p { item = item })) None differs ∙ is) ∙ ap (λ o. map (with_lying slot item) (chain_end last before slots o)) (sym is)
      there rec differs (Some q) is =
          ap (chain_end last before (slots_with slots slot p item)) (get_or-set_other slots slot last (Some (record p { item = item })) None differs ∙ is)
          ∙ ap (λ xs. xs ++ record { item = q.item; slot = last } ∷ []) (rec q.previous)
          ∙ ap (λ x. let r : Stored T = record { item = x; slot = last } in map (with_lying slot item) (chain_items slots q.previous before) ++ r ∷ []) (ap (λ b. if b then item else q.item) (sym (ne_eqb last slot differs)))
          ∙ sym (one (record { item = q.item; slot = last }) (chain_items slots q.previous before))
          ∙ ap (λ o. map (with_lying slot item) (chain_end last before slots o)) (sym is)

  contents-written : (slots : List (Option (Placed T))) (slot : ℕ) (p : Placed T) (item : T) → get_or slots slot None ≡ Some p → (o : Option (ℕ × Chain)) → contents_of (set slots slot (Some (record p { item = item }))) o ≡ contents_written slot item (contents_of slots o)
  contents-written slots slot p item found None = refl
  contents-written slots slot p item found (Some f) = ap (λ xs. let c : Contents T = record { entry = f.0; stored = xs } in Some c) (chain-written slots slot p item found f.1.last f.1.count)

  regions-written : (slots : List (Option (Placed T))) (table : List (Option Chain)) (begun slot : ℕ) (p : Placed T) (item : T) → get_or slots slot None ≡ Some p → regions_of (set slots slot (Some (record p { item = item }))) table begun ≡ map (contents_written slot item) (regions_of slots table begun)
  regions-written slots table begun slot p item found =
      map_range-same (λ k. contents_written slot item (contents_at slots table k)) (contents_at (set slots slot (Some (record p { item = item }))) table) begun (λ k below. contents-written slots slot p item found (find_from 0 table k))
      ∙ map-after (contents_written slot item) (contents_at slots table) (range_with_len 0 begun)

  module _ (nodes : Slab (Placed T)) (table : Slab Chain) (begun : ℕ) (laid : IsLaidOut nodes table begun) where
    -- the place of a linked item
    pub linked-held : (number slot : ℕ) (item : T) → item_in (shown nodes table begun) number slot ≡ Some item → (position : ℕ) × Held nodes table begun laid number position slot
    linked-held number slot item lies =
        let found = lying-stored (stored_in (get_or (regions_of nodes.slots table.slots begun) number None)) slot item lies in
        (found.0, held nodes table begun laid number found.0 slot (subst (λ o. IsSomeAnd o (λ (s : Stored T). s.slot ≡ slot)) (sym found.1) refl))

    -- a slot is of one region alone
    pub linked-alone : (number other slot : ℕ) (one two : T) → item_in (shown nodes table begun) number slot ≡ Some one → item_in (shown nodes table begun) other slot ≡ Some two → number ≡ other
    linked-alone number other slot one two lies also =
        let h = (linked-held number slot one lies).1 in
        let k = (linked-held other slot two also).1 in
        sym h.same ∙ sym h.own ∙ k.own ∙ k.same

    pub linked-item : (number slot : ℕ) (item : T) → item_in (shown nodes table begun) number slot ≡ Some item → (p : Placed T) × (get nodes slot ≡ Some p) × (p.item ≡ item)
    linked-item number slot item lies =
        let found = lying-stored (stored_in (get_or (regions_of nodes.slots table.slots begun) number None)) slot item lies in
        let h = held nodes table begun laid number found.0 slot (subst (λ o. IsSomeAnd o (λ (s : Stored T). s.slot ≡ slot)) (sym found.1) refl) in
        (h.placed, h.found, same_Some _ _ (sym (Held-item nodes table begun laid number found.0 slot h) ∙ slice_get-map (λ (s : Stored T). s.item) (stored_in (get_or (regions_of nodes.slots table.slots begun) number None)) found.0 ∙ ap (option_map (λ (s : Stored T). s.item)) found.1))

    -- nothing of a region lies in a vacant slot
    pub vacant-lies : (number slot : ℕ) → get nodes slot ≡ None → item_in (shown nodes table begun) number slot ≡ None
    vacant-lies number slot vacant = by (item_in (shown nodes table begun) number slot) refl
      where
        none : {A : Type 0} (p : A) (o : Option A) → o ≡ None → o ≡ Some p → ⊥
        none p None e f = absurd (cc)
        none p (Some q) e f = absurd (cc)

        by : (o : Option T) → item_in (shown nodes table begun) number slot ≡ o → item_in (shown nodes table begun) number slot ≡ None
        by None is = is
        by (Some item) is = let l = linked-item number slot item is in absurd (none l.0 (get nodes slot) vacant l.1)

    -- what the pool shows after a write through the link
    pub linked-view : (link : Link) (p : Placed T) (item : T) (number : ℕ) (was : T) → item_in (shown nodes table begun) number (lies_at link) ≡ Some was → get nodes link.slot ≡ Some p → shown (with_value nodes link.slot (record p { item = item })) table begun ≡ with_linked (shown nodes table begun) link item
    linked-view link p item number was lies found =
        let h = linked-held number link.slot was lies in
        let same = same_Some _ _ (sym h.1.found ∙ found) in
        ap (λ n. let q : Pool T = record { regions = regions_of (with_value nodes link.slot (record p { item = item })).slots table.slots begun; spare = nodes.capacity - n } in q) (subst (λ (r : Placed T). slab_len (with_value nodes link.slot (record r { item = item })) ≡ slab_len nodes) same (slab_len-nodes_with nodes table begun laid number h.0 link.slot h.1 item))
        ∙ ap (λ rs. let q : Pool T = record { regions = rs; spare = nodes.capacity - slab_len nodes } in q) (regions-written nodes.slots table.slots begun link.slot p item found)

    pub linked-laid : (link : Link) (p : Placed T) (item : T) (number : ℕ) (was : T) → item_in (shown nodes table begun) number (lies_at link) ≡ Some was → get nodes link.slot ≡ Some p → IsLaidOut (with_value nodes link.slot (record p { item = item })) table begun
    linked-laid link p item number was lies found =
        let h = linked-held number link.slot was lies in
        let same = same_Some _ _ (sym h.1.found ∙ found) in
        subst (λ (r : Placed T). IsLaidOut (with_value nodes link.slot (record r { item = item })) table begun) same (IsLaidOut-write nodes table begun laid number h.0 link.slot h.1 item)
