-- What each call of a pool makes of its fields: they stay laid out, and show the regions that the
-- contract says.
use Rattle.std.proofs.Common.{◌≡◌, ◌≢◌, ◌⊎◌, ℕ, suc, ◌+◌, ◌-◌, ◌<◌, ◌≤◌, eqb, List, [], ◌∷◌, ◌++◌, length, get_or, set, map, cond, Option, Some, None, is_some, refl, sym, ap, ◌∙◌, subst, arith, inl, inr, zero-add, count_by}
use Rattle.std.specs.List.{slice_get}
use Rattle.std.specs.Option.{IsSomeAnd}
use Rattle.std.proofs.lemmas.Bool.{cases_eq, eq-eqb}
use Rattle.std.proofs.lemmas.Bool.Decides.{eqb_tells}
use Rattle.std.proofs.lemmas.List.{length-set, length-map, length_push}
use Rattle.std.proofs.lemmas.List.FromFn.{length-map-range_with_len, get_or-map-range_with_len, map-range_with_len_more}
use Rattle.std.proofs.lemmas.List.Sums.{sum_by-set, sum_by_push}
use Rattle.std.proofs.lemmas.Option.{same_Some, slice_get-map}
use Rattle.slab.specs.Slab.{Slab, get, ContainsKey, slab_len, Updates, with_value}
use Rattle.tv_pool.specs.Pool.{Pool, Contents, Stored, stored_in, live_count, with_item, written, Puts}
use Rattle.tv_pool.specs.Layout.{Places, IsChain, chain_items, contents_at, regions_of, IsLaidOut}
use Rattle.tv_pool.specs.declared.layout.Placed.{Placed}
use Rattle.tv_pool.specs.declared.layout.Chain.{Chain}
use Rattle.tv_pool.specs.declared.handles.Node.{Node}
use Rattle.tv_pool.specs.declared.handles.Region.{Region}
use Rattle.tv_pool.proofs.Chains.{KeepsBelow, chain_items-suc, IsChain-kept, IsChain-last, chain_items-kept, length-chain_items, IsChain-at, KeepsBelow-rewritten, IsChain-rewritten, chain_items-rewritten, within}
use Rattle.tv_pool.proofs.PoolLemmas.{some_from}
use Rattle.tv_pool.proofs.Tables.{IsApart, Agrees}
use Rattle.tv_pool.proofs.Regions.{map_range-same, map_range-changed, contents_at-entry, chain_from_contents, contents_at-agrees, contents_at-view}

-- a change of one entry leaves each number alone that the entry neither had nor has
Agrees-updated : (old new : Slab Chain) (entry : ℕ) (slot : Option Chain) (number : ℕ) → Updates old new entry slot → ((c : Chain) → get old entry ≡ Some c → c.number ≢ number) → ((c : Chain) → slot ≡ Some c → c.number ≢ number) → Agrees old.slots new.slots number
Agrees-updated old new entry slot number updates had has =
    record {
      forth = λ at c same found. elim (cases_eq at entry) [
        | inl here ↦ absurd (had c (ap (get old) (sym here) ∙ found) same)
        | inr there ↦ updates.others at there ∙ found
      ];
      back = λ at c same found. elim (cases_eq at entry) [
        | inl here ↦ absurd (has c (sym updates.changed ∙ ap (get new) (sym here) ∙ found) same)
        | inr there ↦ sym (updates.others at there) ∙ found
      ];
    }

-- each entry of the new table has the number that it had in the old
abbrev KeepsNumbers : Slab Chain → Slab Chain → Type 0
KeepsNumbers old new = (entry : ℕ) (c : Chain) → get new entry ≡ Some c → (d : Chain) × (get old entry ≡ Some d) × (d.number ≡ c.number)

IsApart-kept : (old new : Slab Chain) → KeepsNumbers old new → IsApart old.slots → IsApart new.slots
IsApart-kept old new keeps apart one other c d first second same =
    let was = keeps one c first in
    let also = keeps other d second in
    apart one other was.0 also.0 was.1 also.1 (was.2 ∙ same ∙ sym also.2)

numbered-kept : (old new : Slab Chain) (begun : ℕ) → KeepsNumbers old new → ((entry : ℕ) (c : Chain) → get old entry ≡ Some c → c.number < begun) → (entry : ℕ) (c : Chain) → get new entry ≡ Some c → c.number < begun
numbered-kept old new begun keeps below entry c found =
    let was = keeps entry c found in
    omega (arith, was.2, below entry was.0 was.1)

-- the chain of a live region stands in its entry
pub record LiveChain (table : Slab Chain) (begun number entry : ℕ) : Type 0 where
  pub chain : Chain
  pub listed : get table entry ≡ Some chain
  pub same : chain.number ≡ number
  pub inside : number < begun

pub LiveChain-contains : (table : Slab Chain) (begun number entry : ℕ) → LiveChain table begun number entry → ContainsKey table entry
LiveChain-contains table begun number entry live = rw live.listed refl

module _ {T : Type 0} where
  -- the regions of the table, none of which has the number, have chains, with the items that they had
  abbrev pub LeavesChains : List (Option (Placed T)) → List (Option (Placed T)) → Places → Slab Chain → ℕ → Type 0
  LeavesChains old new places table number = (entry : ℕ) (c : Chain) → get table entry ≡ Some c → (c.number ≢ number) × IsChain new places c.number c.last c.count × (chain_items new c.last c.count ≡ chain_items old c.last c.count)

  -- what the fields of a pool show
  abbrev pub shown : Slab (Placed T) → Slab Chain → ℕ → Pool T
  shown nodes table begun = record { regions = regions_of nodes.slots table.slots begun; spare = nodes.capacity - slab_len nodes }

  IsChain-moved : (slots : List (Option (Placed T))) (places : Places) (a b c d e f : ℕ) → a ≡ b → c ≡ d → e ≡ f → IsChain slots places b d f → IsChain slots places a c e
  IsChain-moved slots places a b c d e f one two three chain = rw (one, two, three) chain

  -- a pool that has nothing
  pub IsLaidOut-new : (nodes : Slab (Placed T)) (table : Slab Chain) → nodes.slots ≡ [] → table.slots ≡ [] → IsLaidOut nodes table 0
  IsLaidOut-new nodes table no_nodes no_regions =
      let none : (entry : ℕ) (c : Chain) → get table entry ≡ Some c → ⊥ = λ entry c found. let e : None ≡ Some c = sym (ap (λ xs. get_or xs entry None) no_regions) ∙ found in cc in
      record {
        numbered = λ entry c found. absurd (none entry c found);
        apart = λ one other c d found also same. absurd (none one c found);
        places = record { owner = λ slot. slot; position = λ slot. slot };
        chained = λ entry c found. absurd (none entry c found);
        counted = ap (count_by is_some) no_nodes;
        room = let empty = ap (count_by is_some) no_nodes in omega (arith, empty);
      }

  -- more room changes nothing
  pub IsLaidOut-room : (nodes nodes' : Slab (Placed T)) (table : Slab Chain) (begun : ℕ) → nodes' ≡ record nodes { capacity = nodes'.capacity } → nodes.capacity ≤ nodes'.capacity → IsLaidOut nodes table begun → IsLaidOut nodes' table begun
  IsLaidOut-room nodes nodes' table begun same more laid =
      let slots : nodes.slots ≡ nodes'.slots = sym (ap (λ (s : Slab (Placed T)). s.slots) same) in
      record {
        numbered = laid.numbered;
        apart = laid.apart;
        places = laid.places;
        chained = λ entry c found. subst (λ xs. IsChain xs laid.places c.number c.last c.count) slots (laid.chained entry c found);
        counted = ap (count_by is_some) (sym slots) ∙ laid.counted ∙ ap (λ xs. live_count (regions_of xs table.slots begun)) slots;
        room = let len = ap (count_by is_some) slots in omega (arith, len, laid.room, more);
      }

  pub live_chain : (nodes : Slab (Placed T)) (table : Slab Chain) (begun number entry : ℕ) → IsSomeAnd (get_or (regions_of nodes.slots table.slots begun) number None) (λ r. r.entry ≡ entry) → LiveChain table begun number entry
  live_chain nodes table begun number entry live =
      let shown = some_from _ (λ (r : Contents T). r.entry ≡ entry) live in
      let view = contents_at-view nodes.slots table.slots begun number shown.0 shown.1 in
      let there = chain_from_contents nodes.slots table.slots number shown.0 view.1 in
      record { chain = there.0; listed = ap (get table) (sym shown.2) ∙ there.1; same = there.2; inside = view.0 }

  module _ (nodes : Slab (Placed T)) (table : Slab Chain) (begun : ℕ) (laid : IsLaidOut nodes table begun) where
    abbrev pub regions : List (Option (Contents T))
    regions = regions_of nodes.slots table.slots begun

    pub length-regions : length regions ≡ begun
    length-regions = length-map-range_with_len (contents_at nodes.slots table.slots) 0 begun

    -- the contents of a region in its entry
    abbrev pub contents_in : ℕ → Chain → Contents T
    contents_in entry chain = record { entry = entry; stored = chain_items nodes.slots chain.last chain.count }

    pub regions-at : (entry : ℕ) (chain : Chain) → get table entry ≡ Some chain → get_or regions chain.number None ≡ Some (contents_in entry chain)
    regions-at entry chain listed =
        get_or-map-range_with_len (contents_at nodes.slots table.slots) 0 begun chain.number chain.number None (laid.numbered entry chain listed) (zero-add chain.number)
        ∙ contents_at-entry nodes.slots table.slots entry chain laid.apart listed

    pub length-contents : (entry : ℕ) (chain : Chain) → get table entry ≡ Some chain → length (contents_in entry chain).stored ≡ chain.count
    length-contents entry chain listed = length-chain_items nodes.slots laid.places chain.number chain.last chain.count (laid.chained entry chain listed)

    -- a region has at most the items that the pool has
    pub count-le : (entry : ℕ) (chain : Chain) → get table entry ≡ Some chain → chain.count ≤ slab_len nodes
    count-le entry chain listed =
        let all = sum_by-set (λ (c : Option (Contents T)). length (stored_in c)) regions chain.number None None (omega (arith, length-regions, laid.numbered entry chain listed)) in
        let here = ap (λ (c : Option (Contents T)). length (stored_in c)) (regions-at entry chain listed) in
        omega (arith, all, here, laid.counted, length-contents entry chain listed)

    -- the number of items once one number's region is another
    live_count-set : (entry : ℕ) (chain : Chain) (new : Option (Contents T)) → get table entry ≡ Some chain → live_count (set regions chain.number new) + chain.count ≡ slab_len nodes + length (stored_in new)
    live_count-set entry chain new listed =
        let all = sum_by-set (λ (c : Option (Contents T)). length (stored_in c)) regions chain.number new None (omega (arith, length-regions, laid.numbered entry chain listed)) in
        let here = ap (λ (c : Option (Contents T)). length (stored_in c)) (regions-at entry chain listed) in
        omega (arith, all, here, laid.counted, length-contents entry chain listed)

    -- ---- begin
    module _ (table' : Slab Chain) (entry : ℕ) (fresh : Chain) (number : fresh.number ≡ begun) (empty : fresh.count ≡ 0) (vacant : get table entry ≡ None) (updates : Updates table table' entry (Some fresh)) where
      entry_cases : (at : ℕ) (c : Chain) → get table' at ≡ Some c → ((at ≡ entry) × (c ≡ fresh)) ⊎ ((at ≢ entry) × (get table at ≡ Some c))
      entry_cases at c found =
          elim (cases_eq at entry) [
            | inl here ↦ inl (here, same_Some c fresh (sym found ∙ ap (get table') here ∙ updates.changed))
            | inr there ↦ inr (there, sym (updates.others at there) ∙ found)
          ]

      begin-apart : IsApart table'.slots
      begin-apart one other c d first second same =
          elim (entry_cases one c first) [
            | inl here ↦ elim (entry_cases other d second) [
              | inl also ↦ here.0 ∙ sym also.0
              | inr there ↦ absurd (omega (arith, ap (λ (x : Chain). x.number) here.1, number, same, laid.numbered other d there.1))
            ]
            | inr there ↦ elim (entry_cases other d second) [
              | inl here ↦ absurd (omega (arith, ap (λ (x : Chain). x.number) here.1, number, same, laid.numbered one c there.1))
              | inr also ↦ laid.apart one other c d there.1 also.1 same
            ]
          ]

      pub begin-regions : regions_of nodes.slots table'.slots (begun + 1) ≡ regions ++ Some (record { entry = entry; stored = [] }) ∷ []
      begin-regions =
          let f = contents_at nodes.slots table.slots in
          let g = contents_at nodes.slots table'.slots in
          let old = map_range-same f g begun (λ k below. contents_at-agrees nodes.slots nodes.slots table.slots table'.slots k laid.apart begin-apart (Agrees-updated table table' entry (Some fresh) k updates (λ c found. absurd (cc)) (λ c is same. omega (arith, ap (λ (x : Chain). x.number) (same_Some fresh c is), number, same, below))) (λ at c same found. refl)) in
          let last : g begun ≡ Some (record { entry = entry; stored = [] }) =
          ap g (sym number)
          ∙ contents_at-entry nodes.slots table'.slots entry fresh begin-apart updates.changed
          ∙ ap (λ n. Some (record { entry = entry; stored = chain_items nodes.slots fresh.last n })) empty in
          map-range_with_len_more g 0 begun begun (zero-add begun) ∙ ap (λ xs. xs ++ g begun ∷ []) old ∙ ap (λ x. regions ++ x ∷ []) last

      pub IsLaidOut-begin : IsLaidOut nodes table' (begun + 1)
      IsLaidOut-begin =
          record {
            numbered = λ at c found. elim (entry_cases at c found) [
              | inl here ↦ omega (arith, ap (λ (x : Chain). x.number) here.1, number)
              | inr there ↦ omega (arith, laid.numbered at c there.1)
            ];
            apart = begin-apart;
            places = laid.places;
            chained = λ at c found. elim (entry_cases at c found) [
              | inl here ↦ subst (λ (x : Chain). IsChain nodes.slots laid.places x.number x.last x.count) (sym here.1) (subst (IsChain nodes.slots laid.places fresh.number fresh.last) (sym empty) tt)
              | inr there ↦ laid.chained at c there.1
            ];
            counted =
                laid.counted
                ∙ sym (ap live_count begin-regions ∙ sum_by_push (λ (c : Option (Contents T)). length (stored_in c)) regions (Some (record { entry = entry; stored = [] })) ∙ omega arith);
            room = laid.room;
          }

    -- ---- put
    module _ (nodes' : Slab (Placed T)) (table' : Slab Chain) (entry slot : ℕ) (chain chain' : Chain) (item : T) (listed : get table entry ≡ Some chain) (number : chain'.number ≡ chain.number) (last : chain'.last ≡ slot) (count : chain'.count ≡ suc chain.count) (vacant : get nodes slot ≡ None) (stores : Updates nodes nodes' slot (Some (record { previous = chain.last; item = item }))) (longer : slab_len nodes' ≡ slab_len nodes + 1) (room : slab_len nodes' ≤ nodes'.capacity) (updates : Updates table table' entry (Some chain')) where
      put_cases : (at : ℕ) (c : Chain) → get table' at ≡ Some c → ((at ≡ entry) × (c ≡ chain')) ⊎ ((at ≢ entry) × (get table at ≡ Some c))
      put_cases at c found =
          elim (cases_eq at entry) [
            | inl here ↦ inl (here, same_Some c chain' (sym found ∙ ap (get table') here ∙ updates.changed))
            | inr there ↦ inr (there, sym (updates.others at there) ∙ found)
          ]

      put-numbers : KeepsNumbers table table'
      put-numbers at c found =
          elim (put_cases at c found) [
            | inl here ↦ (chain, ap (get table) here.0 ∙ listed, sym number ∙ ap (λ (x : Chain). x.number) (sym here.1))
            | inr there ↦ (c, there.1, refl)
          ]

      -- the new slot has the region's next place
      put-places : Places
      put-places =
          record {
            owner = λ s. cond (eqb s slot) chain.number (laid.places.owner s);
            position = λ s. cond (eqb s slot) chain.count (laid.places.position s);
          }

      new_owner : put-places.owner slot ≡ chain.number
      unfolding put-places
      new_owner = ap (λ b. cond b chain.number (laid.places.owner slot)) (eq-eqb slot slot refl)

      new_position : put-places.position slot ≡ chain.count
      unfolding put-places
      new_position = ap (λ b. cond b chain.count (laid.places.position slot)) (eq-eqb slot slot refl)

      old_place : (at : ℕ) → at ≢ slot → (put-places.owner at ≡ laid.places.owner at) × (put-places.position at ≡ laid.places.position at)
      unfolding put-places
      old_place at differs =
          elim (eqb_tells at slot) [
            | inl same ↦ absurd (differs same.1)
            | inr other ↦ (ap (λ b. cond b chain.number (laid.places.owner at)) other.0, ap (λ b. cond b chain.count (laid.places.position at)) other.0)
          ]

      put-keeps : (other bound : ℕ) → KeepsBelow nodes.slots nodes'.slots laid.places put-places other bound
      put-keeps other bound at placed found own below =
          let differs : at ≢ slot = λ here. let e : None ≡ Some placed = sym vacant ∙ ap (get nodes) (sym here) ∙ found in absurd (cc) in
          let kept = old_place at differs in
          (stores.others at differs ∙ found, kept.0 ∙ own, kept.1)

      put-items : chain_items nodes'.slots chain'.last chain'.count ≡ chain_items nodes.slots chain.last chain.count ++ record { item = item; slot = slot } ∷ []
      put-items =
          ap (λ l. chain_items nodes'.slots l chain'.count) last
          ∙ ap (λ n. chain_items nodes'.slots slot n) count
          ∙ chain_items-suc nodes'.slots slot chain.count _ stores.changed
          ∙ ap (λ xs. xs ++ record { item = item; slot = slot } ∷ []) (chain_items-kept nodes.slots nodes'.slots laid.places put-places chain.number chain.last chain.count (put-keeps chain.number chain.count) (laid.chained entry chain listed))

      pub put-regions : regions_of nodes'.slots table'.slots begun ≡ set regions chain.number (Some (record { entry = entry; stored = chain_items nodes.slots chain.last chain.count ++ record { item = item; slot = slot } ∷ [] }))
      put-regions =
          let apart' = IsApart-kept table table' put-numbers laid.apart in
          let g = contents_at nodes'.slots table'.slots in
          map_range-changed (contents_at nodes.slots table.slots) g begun chain.number _ (laid.numbered entry chain listed)
          (ap g (sym number) ∙ contents_at-entry nodes'.slots table'.slots entry chain' apart' updates.changed ∙ ap (λ xs. Some (record { entry = entry; stored = xs })) put-items)
          (λ k below differs.
          contents_at-agrees nodes.slots nodes'.slots table.slots table'.slots k laid.apart apart'
          (Agrees-updated table table' entry (Some chain') k updates
          (λ c found same. differs (sym same ∙ ap (λ (x : Chain). x.number) (same_Some c chain (sym found ∙ listed))))
          (λ c is same. differs (sym same ∙ ap (λ (x : Chain). x.number) (sym (same_Some chain' c is)) ∙ number)))
          (λ at c same found. chain_items-kept nodes.slots nodes'.slots laid.places put-places c.number c.last c.count (put-keeps c.number c.count) (laid.chained at c found)))

      pub IsLaidOut-put : IsLaidOut nodes' table' begun
      IsLaidOut-put =
          record {
            numbered = numbered-kept table table' begun put-numbers laid.numbered;
            apart = IsApart-kept table table' put-numbers laid.apart;
            places = put-places;
            chained = λ at c found. elim (put_cases at c found) [
              | inl here ↦
                  let whole : IsChain nodes'.slots put-places chain.number slot (suc chain.count) = (_, stores.changed, new_owner, new_position, IsChain-kept nodes.slots nodes'.slots laid.places put-places chain.number chain.last chain.count (put-keeps chain.number chain.count) (laid.chained entry chain listed)) in
                  subst (λ (x : Chain). IsChain nodes'.slots put-places x.number x.last x.count) (sym here.1) (IsChain-moved nodes'.slots put-places chain'.number chain.number chain'.last slot chain'.count (suc chain.count) number last count whole)
              | inr there ↦ IsChain-kept nodes.slots nodes'.slots laid.places put-places c.number c.last c.count (put-keeps c.number c.count) (laid.chained at c there.1)
            ];
            counted =
                let new : Contents T = record { entry = entry; stored = chain_items nodes.slots chain.last chain.count ++ record { item = item; slot = slot } ∷ [] } in
                let all = live_count-set entry chain (Some new) listed in
                let more = length_push (chain_items nodes.slots chain.last chain.count) (record { item = item; slot = slot }) in
                omega (arith, all, more, longer, length-contents entry chain listed, ap live_count put-regions);
            room = room;
          }

      -- what the pool shows after the put
      pub put-view : (region : Region) → chain.number ≡ region.number → entry ≡ region.entry → Puts (shown nodes table begun) (shown nodes' table' begun) region item (record { region = chain.number; position = chain.count; slot = slot })
      put-view region same here =
          let was : get_or regions region.number None ≡ Some (contents_in entry chain) = ap (λ n. get_or regions n None) (sym same) ∙ regions-at entry chain listed in
          let last : Stored T = record { item = item; slot = slot } in
          record {
            number = same;
            position =
                sym (length-map (stored_in (get_or regions region.number None)) (λ (s : Stored T). s.item)
                ∙ ap (λ (o : Option (Contents T)). length (stored_in o)) was
                ∙ length-contents entry chain listed);
            regions =
                put-regions
                ∙ ap (λ n. set regions n (Some (record { entry = entry; stored = chain_items nodes.slots chain.last chain.count ++ last ∷ [] }))) same
                ∙ ap (λ e. set regions region.number (Some (record { entry = e; stored = chain_items nodes.slots chain.last chain.count ++ last ∷ [] }))) here
                ∙ ap (λ o. set regions region.number (Some (record { entry = region.entry; stored = stored_in o ++ last ∷ [] }))) (sym was);
          }

    -- ---- release
    -- an entry of the table after the release was another of the table before
    pub release_cases : (table' : Slab Chain) (entry : ℕ) → Updates table table' entry None → (at : ℕ) (c : Chain) → get table' at ≡ Some c → (at ≢ entry) × (get table at ≡ Some c)
    release_cases table' entry updates at c found =
        elim (cases_eq at entry) [
          | inl here ↦ absurd (let e : None ≡ Some c = sym updates.changed ∙ ap (get table') (sym here) ∙ found in cc)
          | inr there ↦ (there, sym (updates.others at there) ∙ found)
        ]

    module _ (nodes' : Slab (Placed T)) (table' : Slab Chain) (entry : ℕ) (chain : Chain) (listed : get table entry ≡ Some chain) (places : Places) (others : LeavesChains nodes.slots nodes'.slots places table' chain.number) (shorter : slab_len nodes' + chain.count ≡ slab_len nodes) (same_capacity : nodes'.capacity ≡ nodes.capacity) (updates : Updates table table' entry None) where
      release-numbers : KeepsNumbers table table'
      release-numbers at c found = (c, (release_cases table' entry updates at c found).1, refl)

      gone : contents_at nodes'.slots table'.slots chain.number ≡ None
      gone = nothing (contents_at nodes'.slots table'.slots chain.number) refl
        where
          nothing : (o : Option (Contents T)) → contents_at nodes'.slots table'.slots chain.number ≡ o → o ≡ None
          nothing None is = refl
          nothing (Some r) is =
              let there = chain_from_contents nodes'.slots table'.slots chain.number r is in
              let was = release_cases table' entry updates r.entry there.0 there.1 in
              absurd (was.0 (laid.apart r.entry entry there.0 chain was.1 listed there.2))

      pub release-regions : regions_of nodes'.slots table'.slots begun ≡ set regions chain.number None
      release-regions =
          let apart' = IsApart-kept table table' release-numbers laid.apart in
          map_range-changed (contents_at nodes.slots table.slots) (contents_at nodes'.slots table'.slots) begun chain.number None (laid.numbered entry chain listed) gone
          (λ k below differs.
          contents_at-agrees nodes.slots nodes'.slots table.slots table'.slots k laid.apart apart'
          (Agrees-updated table table' entry None k updates
          (λ c found same. differs (sym same ∙ ap (λ (x : Chain). x.number) (same_Some c chain (sym found ∙ listed))))
          (λ c is same. absurd (cc)))
          (λ at c same found.
          let there : at ≢ entry = λ here. differs (sym same ∙ ap (λ (x : Chain). x.number) (same_Some c chain (sym found ∙ ap (get table) here ∙ listed))) in
          (others at c (updates.others at there ∙ found)).2))

      pub IsLaidOut-release : IsLaidOut nodes' table' begun
      IsLaidOut-release =
          record {
            numbered = numbered-kept table table' begun release-numbers laid.numbered;
            apart = IsApart-kept table table' release-numbers laid.apart;
            places = places;
            chained = λ at c found. (others at c found).1;
            counted = let all = live_count-set entry chain None listed in omega (arith, all, shorter, ap live_count release-regions);
            room = omega (arith, laid.room, shorter, same_capacity);
          }

      -- the puts that can't be refused after the release
      pub release-spare : (number : ℕ) → chain.number ≡ number → nodes'.capacity - slab_len nodes' ≡ nodes.capacity - slab_len nodes + length (stored_in (get_or regions number None))
      release-spare number same =
          let was = ap (λ n. length (stored_in (get_or regions n None))) (sym same) ∙ ap (λ (o : Option (Contents T)). length (stored_in o)) (regions-at entry chain listed) ∙ length-contents entry chain listed in
          omega (arith, laid.room, shorter, same_capacity, was)

    -- ---- get and get_mut
    -- where the item of a node is
    pub record Held (region position slot : ℕ) : Type 0 where
      pub entry : ℕ
      pub chain : Chain
      pub listed : get table entry ≡ Some chain
      pub same : chain.number ≡ region
      pub stored : Stored T
      pub read : slice_get (chain_items nodes.slots chain.last chain.count) position ≡ Some stored
      pub at : stored.slot ≡ slot
      pub placed : Placed T
      pub found : get nodes slot ≡ Some placed
      pub own : laid.places.owner slot ≡ chain.number
      pub item : placed.item ≡ stored.item

    pub held : (region position slot : ℕ) → IsSomeAnd (slice_get (stored_in (get_or regions region None)) position) (λ s. s.slot ≡ slot) → Held region position slot
    held region position slot holds = by_contents (get_or regions region None) refl (some_from _ (λ (s : Stored T). s.slot ≡ slot) holds)
      where
        by_contents : (o : Option (Contents T)) → get_or regions region None ≡ o → (s : Stored T) × (slice_get (stored_in o) position ≡ Some s) × (s.slot ≡ slot) → Held region position slot
        by_contents None shown stored = absurd (let e = stored.1 in cc)
        by_contents (Some r) shown stored =
            let view = contents_at-view nodes.slots table.slots begun region r shown in
            let there = chain_from_contents nodes.slots table.slots region r view.1 in
            let read = ap (λ xs. slice_get xs position) (sym there.3) ∙ stored.1 in
            let inner = IsChain-at nodes.slots laid.places there.0.number there.0.last there.0.count position stored.0 (laid.chained r.entry there.0 there.1) read in
            record {
              entry = r.entry;
              chain = there.0;
              listed = there.1;
              same = there.2;
              stored = stored.0;
              read = read;
              at = stored.2;
              placed = inner.0;
              found = ap (get nodes) (sym stored.2) ∙ inner.1;
              own = ap laid.places.owner (sym stored.2) ∙ inner.2;
              item = inner.4;
            }

    pub Held-contains : (region position slot : ℕ) → Held region position slot → ContainsKey nodes slot
    Held-contains region position slot h = rw h.found refl

    -- the item at the node's position is that in its slot
    pub Held-item : (region position slot : ℕ) (h : Held region position slot) → slice_get (map (λ (s : Stored T). s.item) (stored_in (get_or regions region None))) position ≡ Some h.placed.item
    Held-item region position slot h =
        ap (λ n. slice_get (map (λ (s : Stored T). s.item) (stored_in (get_or regions n None))) position) (sym h.same)
        ∙ ap (λ o. slice_get (map (λ (s : Stored T). s.item) (stored_in o)) position) (regions-at h.entry h.chain h.listed)
        ∙ slice_get-map (λ (s : Stored T). s.item) (chain_items nodes.slots h.chain.last h.chain.count) position
        ∙ rw h.read (ap Some (sym h.item))

    module _ (region position slot : ℕ) (h : Held region position slot) (item : T) where
      abbrev pub nodes_with : Slab (Placed T)
      nodes_with = with_value nodes slot (record h.placed { item = item })

      pub slab_len-nodes_with : slab_len nodes_with ≡ slab_len nodes
      slab_len-nodes_with =
          let f = λ (o : Option (Placed T)). cond (is_some o) 1 0 in
          let all = sum_by-set f nodes.slots slot (Some (record h.placed { item = item })) None (within nodes.slots slot h.placed h.found) in
          let one = ap f h.found in
          omega (arith, all, one)

      pub write-regions : regions_of nodes_with.slots table.slots begun ≡ set regions region (Some (record { entry = h.entry; stored = set (chain_items nodes.slots h.chain.last h.chain.count) position (record { item = item; slot = slot }) }))
      write-regions =
          let g = contents_at nodes_with.slots table.slots in
          map_range-changed (contents_at nodes.slots table.slots) g begun region _ (subst (λ n. n < begun) h.same (laid.numbered h.entry h.chain h.listed))
          (ap g (sym h.same)
          ∙ contents_at-entry nodes_with.slots table.slots h.entry h.chain laid.apart h.listed
          ∙ ap (λ xs. Some (record { entry = h.entry; stored = xs })) (chain_items-rewritten nodes.slots laid.places slot h.placed item h.found h.chain.number h.chain.last h.chain.count position h.stored (laid.chained h.entry h.chain h.listed) h.read h.at))
          (λ k below differs.
          contents_at-agrees nodes.slots nodes_with.slots table.slots table.slots k laid.apart laid.apart (record { forth = λ at c same found. found; back = λ at c same found. found })
          (λ at c same found. chain_items-kept nodes.slots nodes_with.slots laid.places laid.places c.number c.last c.count (KeepsBelow-rewritten nodes.slots laid.places slot h.placed item h.found c.number c.count (λ e. differs (sym same ∙ sym e ∙ h.own ∙ h.same))) (laid.chained at c found)))

      pub IsLaidOut-write : IsLaidOut nodes_with table begun
      IsLaidOut-write =
          record {
            numbered = laid.numbered;
            apart = laid.apart;
            places = laid.places;
            chained = λ at c found. IsChain-rewritten nodes.slots laid.places slot h.placed item h.found c.number c.last c.count (laid.chained at c found);
            counted =
                let xs = chain_items nodes.slots h.chain.last h.chain.count in
                let all = live_count-set h.entry h.chain (Some (record { entry = h.entry; stored = set xs position (record { item = item; slot = slot }) })) h.listed in
                let same = length-set xs position (record { item = item; slot = slot }) in
                let number = ap (λ n. live_count (set regions n (Some (record { entry = h.entry; stored = set xs position (record { item = item; slot = slot }) })))) h.same in
                omega (arith, all, same, number, slab_len-nodes_with, length-contents h.entry h.chain h.listed, ap live_count write-regions);
            room = omega (arith, laid.room, slab_len-nodes_with);
          }

    -- what the pool shows after the write
    pub write-view : (node : Node) (h : Held node.region node.position node.slot) (item : T) → shown (nodes_with node.region node.position node.slot h item) table begun ≡ with_item (shown nodes table begun) node item
    write-view node h item =
        let was : get_or regions node.region None ≡ Some (contents_in h.entry h.chain) = ap (λ n. get_or regions n None) (sym h.same) ∙ regions-at h.entry h.chain h.listed in
        let spare = nodes.capacity - slab_len nodes in
        ap (λ n. let p : Pool T = record { regions = regions_of (nodes_with node.region node.position node.slot h item).slots table.slots begun; spare = nodes.capacity - n } in p) (slab_len-nodes_with node.region node.position node.slot h item)
        ∙ ap (λ rs. let p : Pool T = record { regions = rs; spare = spare } in p) (write-regions node.region node.position node.slot h item)
        ∙ ap (λ c. let p : Pool T = record { regions = set regions node.region (written c node item); spare = spare } in p) (sym was)

-- taking the last item of a chain leaves the rest of it, and all other chains
module _ {T : Type 0} (first nodes nodes' : Slab (Placed T)) (places : Places) (table : Slab Chain) (number slot left : ℕ) (placed : Placed T) (some : 0 < left) (chain : IsChain nodes.slots places number slot left) (others : LeavesChains first.slots nodes.slots places table number) (taken : get nodes slot ≡ Some placed) (updates : Updates nodes nodes' slot None) where
  pub cut-position : suc (places.position slot) ≡ left
  cut-position = (IsChain-last nodes.slots places number slot left some chain).3

  pub cut-chain : IsChain nodes'.slots places number placed.previous (places.position slot)
  cut-chain =
      let last = IsChain-last nodes.slots places number slot left some chain in
      let is : last.0 ≡ placed = same_Some last.0 placed (sym last.1 ∙ taken) in
      IsChain-kept nodes.slots nodes'.slots places places number placed.previous (places.position slot)
      (λ at p found own below. (updates.others at (λ here. omega (arith, below, ap places.position here)) ∙ found, own, refl))
      (subst (λ (p : Placed T). IsChain nodes.slots places number p.previous (places.position slot)) is last.4)

  pub cut-others : LeavesChains first.slots nodes'.slots places table number
  cut-others at c found =
      let was = others at c found in
      let last = IsChain-last nodes.slots places number slot left some chain in
      let keeps : KeepsBelow nodes.slots nodes'.slots places places c.number c.count = λ k p seen own below. (updates.others k (λ here. was.0 (sym own ∙ ap places.owner here ∙ last.2)) ∙ seen, own, refl) in (
        was.0,
        IsChain-kept nodes.slots nodes'.slots places places c.number c.last c.count keeps was.1,
        chain_items-kept nodes.slots nodes'.slots places places c.number c.last c.count keeps was.1 ∙ was.2,
      )
