-- Lemmas on the chain of a region.
use Rattle.std.proofs.Common.{◌≡◌, ◌≢◌, ◌⊎◌, ℕ, zero, suc, ◌<◌, List, [], ◌∷◌, ◌++◌, length, get_or, set, Option, Some, None, refl, sym, ap, ◌∙◌, arith, inl, inr, subst}
use Rattle.std.specs.List.{slice_get}
use Rattle.std.proofs.lemmas.Bool.{cases_eq}
use Rattle.std.proofs.lemmas.List.{get_or-set_same, get_or-set_other, get_or_past, length_push, set-append_left, set_at}
use Rattle.std.proofs.lemmas.Option.{same_Some}
use Rattle.tv_pool.specs.Pool.{Stored}
use Rattle.tv_pool.specs.Layout.{Places, IsChain, chain_items}
use Rattle.tv_pool.specs.declared.layout.Placed.{Placed}

module _ {X : Type 0} where
  -- what a list has after a push is what it had, or the new last
  pub slice_get_push : (xs : List X) (last : X) (k : ℕ) (x : X) → slice_get (xs ++ last ∷ []) k ≡ Some x → ((k < length xs) × (slice_get xs k ≡ Some x)) ⊎ ((length xs ≡ k) × (last ≡ x))
  slice_get_push [] last zero x found = inr (refl, same_Some last x found)
  slice_get_push [] last (suc k) x found = absurd (cc)
  slice_get_push (y ∷ ys) last zero x found = inl (omega arith, found)
  slice_get_push (y ∷ ys) last (suc k) x found =
      elim (slice_get_push ys last k x found) [
        | inl there ↦ inl (omega (arith, there.0), there.1)
        | inr here ↦ inr (ap suc here.0, here.1)
      ]

  pub slice_get-push_below : (xs : List X) (last : X) (k : ℕ) (x : X) → slice_get xs k ≡ Some x → slice_get (xs ++ last ∷ []) k ≡ Some x
  slice_get-push_below [] last k x found = absurd (cc)
  slice_get-push_below (y ∷ ys) last zero x found = found
  slice_get-push_below (y ∷ ys) last (suc k) x found = slice_get-push_below ys last k x found

  pub slice_get-set_same : (xs : List X) (k : ℕ) (x : X) → k < length xs → slice_get (set xs k x) k ≡ Some x
  slice_get-set_same [] k x inside = absurd (omega arith)
  slice_get-set_same (y ∷ ys) zero x inside = refl
  slice_get-set_same (y ∷ ys) (suc k) x inside = slice_get-set_same ys k x (omega (arith, inside))

  pub slice_get-set_other : (xs : List X) (k other : ℕ) (x : X) → other ≢ k → slice_get (set xs k x) other ≡ slice_get xs other
  slice_get-set_other [] k other x differs = refl
  slice_get-set_other (y ∷ ys) zero zero x differs = absurd (differs refl)
  slice_get-set_other (y ∷ ys) zero (suc other) x differs = refl
  slice_get-set_other (y ∷ ys) (suc k) zero x differs = refl
  slice_get-set_other (y ∷ ys) (suc k) (suc other) x differs = slice_get-set_other ys k other x (λ same. differs (ap suc same))

  -- a place with something in it lies inside the list
  pub within : (xs : List (Option X)) (k : ℕ) (x : X) → get_or xs k None ≡ Some x → k < length xs
  within xs k x found = grind (arith, get_or_past)

module _ {T : Type 0} where
  -- the slots of a region below a position are as they were, and where they were
  abbrev pub KeepsBelow : List (Option (Placed T)) → List (Option (Placed T)) → Places → Places → ℕ → ℕ → Type 0
  KeepsBelow old new places places' number bound = (slot : ℕ) (placed : Placed T) → get_or old slot None ≡ Some placed → places.owner slot ≡ number → places.position slot < bound → (get_or new slot None ≡ Some placed) × (places'.owner slot ≡ number) × (places'.position slot ≡ places.position slot)

  pub chain_items-suc : (slots : List (Option (Placed T))) (last before : ℕ) (placed : Placed T) → get_or slots last None ≡ Some placed → chain_items slots last (suc before) ≡ chain_items slots placed.previous before ++ record { item = placed.item; slot = last } ∷ []
  chain_items-suc slots last before placed found = rw (found, chain_items) refl

  module _ (old new : List (Option (Placed T))) (places places' : Places) (number : ℕ) where
    pub IsChain-kept : (last count : ℕ) → KeepsBelow old new places places' number count → IsChain old places number last count → IsChain new places' number last count
    IsChain-kept last zero keeps chain = tt
    IsChain-kept last (suc before) keeps chain =
        let kept = keeps last chain.0 chain.1 chain.2 (omega (arith, chain.3)) in (
          chain.0,
          kept.0,
          kept.1,
          kept.2 ∙ chain.3,
          IsChain-kept chain.0.previous before (λ slot placed found own below. keeps slot placed found own (omega (arith, below))) chain.4,
        )

    pub chain_items-kept : (last count : ℕ) → KeepsBelow old new places places' number count → IsChain old places number last count → chain_items new last count ≡ chain_items old last count
    chain_items-kept last zero keeps chain = refl
    chain_items-kept last (suc before) keeps chain =
        let kept = keeps last chain.0 chain.1 chain.2 (omega (arith, chain.3)) in
        chain_items-suc new last before chain.0 kept.0
        ∙ ap (λ xs. xs ++ record { item = chain.0.item; slot = last } ∷ []) (chain_items-kept chain.0.previous before (λ slot placed found own below. keeps slot placed found own (omega (arith, below))) chain.4)
        ∙ sym (chain_items-suc old last before chain.0 chain.1)

  module _ (slots : List (Option (Placed T))) (places : Places) (number : ℕ) where
    pub length-chain_items : (last count : ℕ) → IsChain slots places number last count → length (chain_items slots last count) ≡ count
    length-chain_items last zero chain = refl
    length-chain_items last (suc before) chain =
        let shorter = length-chain_items chain.0.previous before chain.4 in
        let unfolded = ap length (chain_items-suc slots last before chain.0 chain.1) in
        let pushed = length_push (chain_items slots chain.0.previous before) (record { item = chain.0.item; slot = last }) in
        omega (arith, shorter, unfolded, pushed)

    -- the last item of a chain is in the slot that ends it
    pub IsChain-last : (last count : ℕ) → 0 < count → IsChain slots places number last count → (placed : Placed T) × (get_or slots last None ≡ Some placed) × (places.owner last ≡ number) × (suc (places.position last) ≡ count) × IsChain slots places number placed.previous (places.position last)
    IsChain-last last zero some chain = absurd (omega arith)
    IsChain-last last (suc before) some chain = (chain.0, chain.1, chain.2, ap suc chain.3, subst (λ n. IsChain slots places number chain.0.previous n) (sym chain.3) chain.4)

    -- what stands at a position of a chain is in its slot
    pub IsChain-at : (last count k : ℕ) (s : Stored T) → IsChain slots places number last count → slice_get (chain_items slots last count) k ≡ Some s → (placed : Placed T) × (get_or slots s.slot None ≡ Some placed) × (places.owner s.slot ≡ number) × (places.position s.slot ≡ k) × (placed.item ≡ s.item)
    IsChain-at last zero k s chain found = absurd (cc)
    IsChain-at last (suc before) k s chain found =
        let xs = chain_items slots chain.0.previous before in
        let top : Stored T = record { item = chain.0.item; slot = last } in
        let read : slice_get (xs ++ top ∷ []) k ≡ Some s = ap (λ ys. slice_get ys k) (sym (chain_items-suc slots last before chain.0 chain.1)) ∙ found in
        elim (slice_get_push xs top k s read) [
          | inl below ↦ IsChain-at chain.0.previous before k s chain.4 below.1
          | inr here ↦ (
            chain.0,
            ap (λ (t : Stored T). get_or slots t.slot None) (sym here.1) ∙ chain.1,
            ap (λ (t : Stored T). places.owner t.slot) (sym here.1) ∙ chain.2,
            ap (λ (t : Stored T). places.position t.slot) (sym here.1) ∙ chain.3 ∙ sym (length-chain_items chain.0.previous before chain.4) ∙ here.0,
            ap (λ (t : Stored T). t.item) here.1,
          )
        ]

  module _ (old : List (Option (Placed T))) (places : Places) (slot : ℕ) (placed : Placed T) (item : T) (found : get_or old slot None ≡ Some placed) where
    -- the slots with this item in one of them
    abbrev pub rewritten : List (Option (Placed T))
    rewritten = set old slot (Some (record placed { item = item }))

    pub rewritten-here : get_or rewritten slot None ≡ Some (record placed { item = item })
    rewritten-here = get_or-set_same old slot (Some (record placed { item = item })) None (within old slot placed found)

    pub rewritten-there : (other : ℕ) → other ≢ slot → get_or rewritten other None ≡ get_or old other None
    rewritten-there other differs = get_or-set_other old slot other (Some (record placed { item = item })) None differs

    -- a region that doesn't have the slot keeps all of its own
    pub KeepsBelow-rewritten : (number bound : ℕ) → places.owner slot ≢ number → KeepsBelow old rewritten places places number bound
    KeepsBelow-rewritten number bound foreign other there read own below =
        (rewritten-there other (λ same. foreign (ap places.owner (sym same) ∙ own)) ∙ read, own, refl)

    pub IsChain-rewritten : (number last count : ℕ) → IsChain old places number last count → IsChain rewritten places number last count
    IsChain-rewritten number last zero chain = tt
    IsChain-rewritten number last (suc before) chain =
        elim (cases_eq last slot) [
          | inl same ↦
              let is : chain.0 ≡ placed = same_Some chain.0 placed (sym chain.1 ∙ ap (λ k. get_or old k None) same ∙ found) in (
                record placed { item = item },
                ap (λ k. get_or rewritten k None) same ∙ rewritten-here,
                chain.2,
                chain.3,
                IsChain-rewritten number placed.previous before (subst (λ (p : Placed T). IsChain old places number p.previous before) is chain.4),
              )
          | inr differs ↦ (chain.0, rewritten-there last differs ∙ chain.1, chain.2, chain.3, IsChain-rewritten number chain.0.previous before chain.4)
        ]

    -- the chain that has the slot has the item there, and no other place changes
    pub chain_items-rewritten : (number last count k : ℕ) (s : Stored T) → IsChain old places number last count → slice_get (chain_items old last count) k ≡ Some s → s.slot ≡ slot → chain_items rewritten last count ≡ set (chain_items old last count) k (record { item = item; slot = slot })
    chain_items-rewritten number last zero k s chain read at = absurd (cc)
    chain_items-rewritten number last (suc before) k s chain read at =
        let xs = chain_items old chain.0.previous before in
        let top : Stored T = record { item = chain.0.item; slot = last } in
        let new : Stored T = record { item = item; slot = slot } in
        let unfolded = chain_items-suc old last before chain.0 chain.1 in
        let len : length xs ≡ before = length-chain_items old places number chain.0.previous before chain.4 in
        let there : slice_get (xs ++ top ∷ []) k ≡ Some s = ap (λ ys. slice_get ys k) (sym unfolded) ∙ read in
        elim (slice_get_push xs top k s there) [
          | inl below ↦
              let inner = IsChain-at old places number chain.0.previous before k s chain.4 below.1 in
              let differs : last ≢ slot = λ same. omega (arith, ap places.position (same ∙ sym at), inner.3, chain.3, len, below.0) in
              chain_items-suc rewritten last before chain.0 (rewritten-there last differs ∙ chain.1)
              ∙ ap (λ ys. ys ++ top ∷ []) (chain_items-rewritten number chain.0.previous before k s chain.4 below.1 at)
              ∙ sym (set-append_left xs (top ∷ []) k new below.0)
              ∙ ap (λ ys. set ys k new) (sym unfolded)
          | inr here ↦
              let same : last ≡ slot = ap (λ (t : Stored T). t.slot) here.1 ∙ at in
              let is : chain.0 ≡ placed = same_Some chain.0 placed (sym chain.1 ∙ ap (λ j. get_or old j None) same ∙ found) in
              let keeps : KeepsBelow old rewritten places places number before = λ other p seen own below. (rewritten-there other (λ e. omega (arith, ap places.position (e ∙ sym same), chain.3, below)) ∙ seen, own, refl) in
              chain_items-suc rewritten last before (record placed { item = item }) (ap (λ j. get_or rewritten j None) same ∙ rewritten-here)
              ∙ ap (λ (p : Placed T). chain_items rewritten p.previous before ++ record { item = item; slot = last } ∷ []) (sym is)
              ∙ ap (λ ys. ys ++ record { item = item; slot = last } ∷ []) (chain_items-kept old rewritten places places number chain.0.previous before keeps chain.4)
              ∙ ap (λ j. xs ++ record { item = item; slot = j } ∷ []) same
              ∙ sym (set_at xs top [] new k here.0)
              ∙ ap (λ ys. set ys k new) (sym unfolded)
        ]
