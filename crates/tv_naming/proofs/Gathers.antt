-- A search that keeps out of visited vertices, and what is visited and found when it starts from a vertex that was left last.
use Rattle.std.proofs.Common.{◌≡◌, ℕ, ◌<◌, Bool, true, false, not, ◌&&◌, ◌||◌, suc, zero, eqb, ltb, List, [], ◌∷◌, ◌++◌, length, refl, sym, ap, ◌∙◌, subst, inl, inr, arith, append_assoc}
use Rattle.std.proofs.lemmas.Bool.{eqb-true, or_cases, cases_Bool, cases_eq}
use Rattle.std.proofs.lemmas.Bool.Decides.{nat_tests}
use Rattle.std.specs.List.{list_all}
use Rattle.std.specs.Cmp.Derive.{one_truth}
use Rattle.tv_naming.specs.graphs.Graphs.{Graph, is_graph, before, is_one_of, comes_before, is_on_cycle}
use Rattle.tv_naming.specs.graphs.Leaving.{alike, times, is_late, IsLeft}
use Rattle.tv_naming.specs.graphs.Gathered.{IsGathered, AreTurned, IsVisited, IsLatest}
use Rattle.tv_naming.proofs.Walks.{walk-last}
use Rattle.tv_naming.proofs.Alike.{near, on_from, join, owner-below, walk-to_below, walk-from_below, alike-both, alike-join, alike-turned, alike-after}
use Rattle.tv_naming.proofs.Late.{late-last, times-pushed, member-times}

-- while the search goes on: some of those that it visited are listed, and the others are to be gone on from
pub record IsGathering (after : ℕ → List ℕ) (from : ℕ) (was is : ℕ → Bool) (had has : List ℕ) (open_ones : ℕ → Bool) : Type 0 where
  pub kept : (u : ℕ) → was u ≡ true → is u ≡ true
  pub new : (u : ℕ) → open_ones u ≡ true → (is u && not (was u)) ≡ true
  pub first : (u : ℕ) → is_one_of (after from) u ≡ true → is u ≡ true
  pub next : (w u : ℕ) → is w ≡ true → was w ≡ false → open_ones w ≡ false → is_one_of (after w) u ≡ true → is u ≡ true
  pub sound :
      (p : ℕ → Bool) → ((u : ℕ) → is_one_of (after from) u ≡ true → p u ≡ true) → ((w u : ℕ) → p w ≡ true → is_one_of (after w) u ≡ true → p u ≡ true) →
      (u : ℕ) → is u ≡ true → was u ≡ false → p u ≡ true
  pub found : (u : ℕ) → (is_one_of has u || open_ones u) ≡ (is_one_of had u || (is u && not (was u)))

module _ (after : ℕ → List ℕ) (from : ℕ) (was : ℕ → Bool) (had : List ℕ) where
  module _ (is : ℕ → Bool) (has : List ℕ) (open_ones : ℕ → Bool) (k : IsGathering after from was is had has open_ones) where
    pub gathering-more : (is' rest open' : ℕ → Bool) (has' : List ℕ) (x : ℕ) → ((u : ℕ) → open_ones u ≡ (rest u || eqb u x)) → ((u : ℕ) → is' u ≡ (is u || is_one_of (after x) u)) →
        ((u : ℕ) → open' u ≡ (rest u || (is_one_of (after x) u && not (is u)))) → ((u : ℕ) → is_one_of has' u ≡ (is_one_of has u || eqb u x)) → IsGathering after from was is' had has' open'
    gathering-more is' rest open' has' x pops marks opens lists =
        let x_new : (is x && not (was x)) ≡ true = k.new x (grind (arith, nat_tests, pops x)) in
        record {
          kept = λ u h. grind (arith, marks u, k.kept u h);
          new = λ u h. grind (arith, marks u, opens u, pops u, k.new u, k.kept u);
          first = λ u h. grind (arith, marks u, k.first u h);
          next = λ w u h out shut e. elim (cases_Bool (is w)) [
            | inl old ↦ elim (cases_eq w x) [
              | inl same ↦ let here : is_one_of (after x) u ≡ true = subst (λ (y : ℕ). is_one_of (after y) u ≡ true) same e in grind (arith, marks u)
              | inr ne ↦
                  let not_open : open_ones w ≡ false = grind (arith, nat_tests, pops w, opens w) in
                  grind (arith, marks u, k.next w u old out not_open e)
            ]
            | inr new ↦ let no : open' w ≡ true = grind (arith, marks w, opens w) in cc
          ];
          sound = λ p base step u h out. elim (or_cases (is u) (is_one_of (after x) u) (sym (marks u) ∙ h)) [
            | inl old ↦ k.sound p base step u old out
            | inr e ↦ step x u (k.sound p base step x (grind arith) (grind arith)) e
          ];
          found = λ u. grind (arith, marks u, opens u, pops u, lists u, k.found u, k.kept u);
        }

module _ (g : Graph) (ok : is_graph g ≡ true) (after : ℕ → List ℕ) (turned : AreTurned g after) (r : ℕ) (was is : ℕ → Bool) (had has : List ℕ) (visited : IsVisited g was had)
    (latest : IsLatest g was r) (fresh : was r ≡ false) (k : IsGathered after r was is had has) where
  -- what is alike to the vertex wasn't visited
  alike-fresh : (v : ℕ) → alike g v r ≡ true → was v ≡ false
  alike-fresh v same =
      elim (cases_Bool (was v)) [
        | inl old ↦ let no : was r ≡ true = visited.closed v r old same in cc
        | inr new ↦ new
      ]

  -- what the vertex comes before is alike to it, or was visited
  comes-back : (v : ℕ) → comes_before g (length g) r v ≡ true → was v ≡ false → alike g r v ≡ true
  comes-back v h out =
      let found = latest v h in
      elim (or_cases (eqb found.0 r) (was found.0) found.2) [
        | inl e ↦ subst (λ (y : ℕ). alike g y v ≡ true) (eqb-true found.0 r e) found.1
        | inr old ↦ let no : was v ≡ true = visited.closed found.0 v old found.1 in cc
      ]

  reached : (v : ℕ) → is v ≡ true → was v ≡ false → comes_before g (length g) r v ≡ true
  reached v h out =
      k.sound (λ u. comes_before g (length g) r u) (λ u e. near g ok r u (sym (turned r u) ∙ e))
      (λ w u p e. join g ok r w u p (near g ok w u (sym (turned w u) ∙ e))) v h out

  new-alike : (v : ℕ) → is v ≡ true → was v ≡ false → alike g r v ≡ true
  new-alike v h out = comes-back v (reached v h out) out

  new-cycle : (v : ℕ) → is v ≡ true → was v ≡ false → is_on_cycle g v ≡ true
  new-cycle v h out = alike-after g ok v r v (alike-turned g ok r v (new-alike v h out)) (reached v h out)

  -- all that comes both after and before the vertex is visited now
  round : (n v : ℕ) → comes_before g n r v ≡ true → comes_before g (length g) v r ≡ true → (is v && not (was v)) ≡ true
  round zero v h back = cc
  round (suc n) v h back =
      let last = walk-last g n r v h in
      let u : ℕ = last.0 in
      let u_back : comes_before g (length g) u r ≡ true = on_from g ok u v r last.1 back in
      elim last.2 [
        | inl e ↦
            let step : is_one_of (before g v) r ≡ true = subst (λ (y : ℕ). is_one_of (before g v) y ≡ true) (sym e) last.1 in
            let yes : is v ≡ true = k.first v (turned r v ∙ step) in
            let out : was v ≡ false = alike-fresh v (alike-both g ok v r back (near g ok r v step)) in
            grind arith
        | inr far ↦
            let both : (is u && not (was u)) ≡ true = round n u far u_back in
            let yes : is v ≡ true = k.next u v (grind arith) (grind arith) (turned u v ∙ last.1) in
            let there : comes_before g (length g) r u ≡ true = reached u (grind arith) (grind arith) in
            let out : was v ≡ false = alike-fresh v (alike-both g ok v r back (join g ok r u v there (near g ok u v last.1))) in
            grind arith
      ]

  alike-new : (v : ℕ) → alike g r v ≡ true → (eqb v r || (is v && not (was v))) ≡ true
  alike-new v same =
      elim (or_cases (eqb r v) (comes_before g (length g) r v && comes_before g (length g) v r) same) [
        | inl e ↦ grind (arith, nat_tests)
        | inr both ↦ let new : (is v && not (was v)) ≡ true = round (length g) v (grind arith) (grind arith) in grind arith
      ]

  pub visited-more : (is' : ℕ → Bool) → ((u : ℕ) → is' u ≡ (is u || eqb u r)) → IsVisited g is' has
  visited-more is' marks = record {
    closed = λ u v h same. elim (cases_Bool (was u)) [
      | inl old ↦ grind (arith, marks v, k.kept v (visited.closed u v old same))
      | inr out ↦ elim (or_cases (is u) (eqb u r) (sym (marks u) ∙ h)) [
        | inl new ↦ grind (arith, marks v, alike-new v (alike-join g ok r u v (new-alike u new out) same))
        | inr e ↦ grind (arith, marks v, alike-new v (subst (λ (y : ℕ). alike g y v ≡ true) (eqb-true u r e) same))
      ]
    ];
    found_are = λ u. k.found u ∙ one_truth (is_one_of had u || (is u && not (was u))) (is' u && is_on_cycle g u)
        (λ h. elim (or_cases (is_one_of had u) (is u && not (was u)) h) [
          | inl old ↦ grind (arith, marks u, visited.found_are u, k.kept u)
          | inr new ↦ grind (arith, marks u, new-cycle u)
        ])
        (λ h. elim (cases_Bool (was u)) [
          | inl old ↦ grind (arith, visited.found_are u)
          | inr out ↦ elim (or_cases (is u) (eqb u r) (sym (marks u) ∙ grind arith)) [
            | inl new ↦ grind arith
            | inr e ↦
                let around : is_on_cycle g r ≡ true = subst (λ (y : ℕ). is_on_cycle g y ≡ true) (eqb-true u r e) (grind arith) in
                let new : (is r && not (was r)) ≡ true = round (length g) r around around in
                let here : (is u && not (was u)) ≡ true = subst (λ (y : ℕ). (is y && not (was y)) ≡ true) (sym (eqb-true u r e)) new in
                grind arith
          ]
        ]);
  }

-- where those that were left later are visited, the next one is the latest of the others
pub latest-next : (g : Graph) (left rest popped : List ℕ) (visited : ℕ → Bool) (r : ℕ) → is_graph g ≡ true → IsLeft g left → left ≡ rest ++ r ∷ popped →
    ((u : ℕ) → is_one_of popped u ≡ true → visited u ≡ true) → IsLatest g visited r
latest-next g left rest popped visited r ok k is passed v h =
    let found = k.settled v (owner-of v h) r h in
    let late : is_one_of (r ∷ popped) found.0 ≡ true = late-last rest popped r found.0 once (subst (λ xs. is_late xs r found.0 ≡ true) is found.2) in
    (found.0, found.1, grind (arith, passed found.0))
  where
    r_below : r < length g
    r_below = k.within r (subst (λ xs. is_one_of xs r ≡ true) (sym is) (times-pushed rest popped r))

    once : times (rest ++ r ∷ popped) r ≡ 1
    once = subst (λ xs. times xs r ≡ 1) is (k.each_once r r_below)

    owner-of : (v : ℕ) → comes_before g (length g) r v ≡ true → v < length g
    owner-of v h = walk-to_below g (length g) r v h

pub all-members : (p : ℕ → Bool) (xs : List ℕ) → ((u : ℕ) → is_one_of xs u ≡ true → p u ≡ true) → list_all p xs ≡ true
all-members p [] all = refl
all-members p (x ∷ xs) all =
    let here : p x ≡ true = all x (grind (arith, nat_tests)) in
    let rest : list_all p xs ≡ true = all-members p xs (λ u h. all u (grind arith)) in
    grind arith

-- the vertices directly after one are vertices
pub turned-within : (g : Graph) (after : ℕ → List ℕ) → AreTurned g after → (w n : ℕ) (xs : List ℕ) → xs ≡ after w → n ≡ length g → list_all (λ u. ltb u n) xs ≡ true
turned-within g after turned w n xs is count =
    subst (λ (ys : List ℕ). list_all (λ u. ltb u n) ys ≡ true) (sym is)
    (all-members (λ u. ltb u n) (after w) (λ u h. let below : u < length g = owner-below g u w (sym (turned w u) ∙ h) in grind (arith, nat_tests)))

-- those found are vertices, and where all are visited they are the ones on cycles
module _ (g : Graph) (ok : is_graph g ≡ true) (visited : ℕ → Bool) (found : List ℕ) (k : IsVisited g visited found) where
  pub found-within : list_all (λ u. ltb u (length g)) found ≡ true
  found-within =
      all-members (λ u. ltb u (length g)) found (λ u h.
      let around : is_on_cycle g u ≡ true = grind (arith, k.found_are u) in
      let below : u < length g = walk-from_below g ok u u around in
      grind (arith, nat_tests))

  pub found-all : (u : ℕ) → visited u ≡ true → is_one_of found u ≡ is_on_cycle g u
  found-all u h = k.found_are u ∙ grind arith

-- one more is popped from the list
pub popped-next : (whole left rest popped : List ℕ) (r : ℕ) → whole ≡ left ++ popped → left ≡ rest ++ r ∷ [] → whole ≡ rest ++ r ∷ popped
popped-next whole left rest popped r is last = is ∙ ap (λ (xs : List ℕ). xs ++ popped) last ∙ append_assoc rest (r ∷ []) popped

pub popped-below : (g : Graph) (whole left rest popped : List ℕ) (r : ℕ) → IsLeft g whole → whole ≡ left ++ popped → left ≡ rest ++ r ∷ [] → r < length g
popped-below g whole left rest popped r k is last =
    k.within r (subst (λ (xs : List ℕ). is_one_of xs r ≡ true) (sym (popped-next whole left rest popped r is last)) (times-pushed rest popped r))

pub popped-all : (g : Graph) (whole left popped : List ℕ) → IsLeft g whole → whole ≡ left ++ popped → length left ≡ 0 → (u : ℕ) → u < length g → is_one_of popped u ≡ true
popped-all g whole [] popped k is none u below =
    subst (λ (xs : List ℕ). is_one_of xs u ≡ true) is (member-times whole u (omega (arith, k.each_once u below)))
popped-all g whole (x ∷ left) popped k is none u below = absurd (omega arith)

pub popped-visited : (popped : List ℕ) (r : ℕ) (was visited : ℕ → Bool) → ((u : ℕ) → is_one_of popped u ≡ true → was u ≡ true) → ((u : ℕ) → was u ≡ true → visited u ≡ true) → visited r ≡ true →
    (u : ℕ) → is_one_of (r ∷ popped) u ≡ true → visited u ≡ true
popped-visited popped r was visited passed kept itself u h =
    elim (or_cases (eqb u r) (is_one_of popped u) h) [
      | inl e ↦ subst (λ (y : ℕ). visited y ≡ true) (sym (eqb-true u r e)) itself
      | inr old ↦ kept u (passed u old)
    ]
