-- The way of a search: what each node on it has in common with the part that is searched.
use Rattle.std.proofs.Common.{◌≡◌, ◌≢◌, ℕ, zero, suc, ◌+◌, ◌<◌, ◌^◌, ◌/◌, ◌%◌, ◌==◌, if◌then◌else◌, arith, List, [], ◌∷◌, ◌++◌, Option, Some, None, ◌⊎◌, inl, inr, refl, sym, ap, ◌∙◌, subst}
use Rattle.std.proofs.lemmas.Bool.{cases_eq, eq-eqb, ne_eqb}
use Rattle.std.proofs.lemmas.Option.{same_Some}
use Rattle.tv_pool.specs.Pool.{nowhere}
use Rattle.tv_stream.specs.declared.nodes.Entry.{Entry}
use Rattle.tv_stream.specs.nodes.Digits.{without, Agree}
use Rattle.tv_stream.specs.nodes.Nodes.{Stop, found, free, part_found, own_link, leads, next, seek, seek_part, part_in}
use Rattle.tv_stream.specs.nodes.Stands.{Spot, owner_by, base_by, level_by, Hangs, IsEntry, Leads, AreNodes}
use Rattle.tv_stream.proofs.Digits.{without-suc, agree-more, agree-all}
use Rattle.tv_stream.proofs.Seeks.{seek-none, seek-found, seek-on, seek-zero, next-some, next-none}

pub level-own : (p : Spot) (by : ℕ) → by ≡ own_link → level_by p by ≡ 0
level-own p by h = ap (λ b. if b then 0 else suc p.level) (eq-eqb by own_link h)

pub level-other : (p : Spot) (by : ℕ) → by ≢ own_link → level_by p by ≡ suc p.level
level-other p by h = ap (λ b. if b then 0 else suc p.level) (ne_eqb by own_link h)

pub base-other : (p : Spot) (by : ℕ) → by ≢ own_link → base_by p by ≡ p.base
base-other p by h = ap (λ b. if b then p.place else p.base) (ne_eqb by own_link h)

pub owner-other : (s : ℕ) (p : Spot) (by : ℕ) → by ≢ own_link → owner_by s p by ≡ p.owner
owner-other s p by h = ap (λ b. if b then s else p.owner) (ne_eqb by own_link h)

module _ {B : Type 0} where
  -- a search for the part `i` of the node at the place `r` is at a link, with so many nodes left at most
  pub record OnWay (m : ℕ → Option (Entry B)) (spots : ℕ → Option Spot) (o : ℕ) (r : List ℕ) (i at by rest left : ℕ) : Type 0 where
    pub spot : Spot
    pub entry : Entry B
    pub known : spots at ≡ Some spot
    pub lies : m at ≡ Some entry
    pub bound : by < 5
    pub owner : owner_by at spot by ≡ o
    pub base : base_by spot by ≡ r
    pub levels : left + level_by spot by ≡ 17
    pub digits : rest ≡ without (level_by spot by) i
    pub agrees : by ≢ own_link → Agree spot.level i entry.index
    pub digit : by ≢ own_link → by ≡ without spot.level i % 4
    pub differs : by ≢ own_link → i ≢ entry.index

  -- and has come to a node
  pub record Reached (m : ℕ → Option (Entry B)) (spots : ℕ → Option Spot) (o : ℕ) (r : List ℕ) (i at by rest left : ℕ) : Type 0 where
    pub slot : ℕ
    pub spot : Spot
    pub entry : Entry B
    pub comes : next m at by ≡ Some (slot, entry)
    pub known : spots slot ≡ Some spot
    pub lies : m slot ≡ Some entry
    pub owner : spot.owner ≡ o
    pub base : spot.base ≡ r
    pub place : spot.place ≡ r ++ entry.index ∷ []
    pub levels : left + spot.level ≡ 17
    pub digits : rest ≡ without spot.level i
    pub agrees : Agree spot.level i entry.index

  module _ (m : ℕ → Option (Entry B)) (spots : ℕ → Option Spot) (nodes : AreNodes m spots) (o : ℕ) (r : List ℕ) (i : ℕ) where
    pub way-begins : (s : ℕ) (p : Spot) → spots s ≡ Some p → s ≡ o → p.place ≡ r → OnWay m spots o r i s own_link i 17
    way-begins s p known own place = let e = nodes.entries s p known in record {
      spot = p;
      entry = e.entry;
      known = known;
      lies = e.lies;
      bound = omega arith;
      owner = own;
      base = place;
      levels = refl;
      digits = refl;
      agrees = λ ne. absurd (ne refl);
      digit = λ ne. absurd (ne refl);
      differs = λ ne. absurd (ne refl);
    }

    pub way-next : (at by rest left : ℕ) (w : OnWay m spots o r i at by rest left) → ((leads w.entry by ≡ nowhere) × (next m at by ≡ None)) ⊎ ((leads w.entry by ≢ nowhere) × ((n : Reached m spots o r i at by rest left) × (leads w.entry by ≡ n.slot)))
    way-next at by rest left w = elim (cases_eq (leads w.entry by) nowhere) [
      | inl none ↦ inl (none, next-none m at by w.entry w.lies none)
      | inr there ↦ inr (there, reached there (nodes.links at w.spot w.entry by w.known w.lies w.bound there))
    ]
      where
        reached : leads w.entry by ≢ nowhere → Leads m spots at w.spot w.entry by → (n : Reached m spots o r i at by rest left) × (leads w.entry by ≡ n.slot)
        reached there l = (
          record {
            slot = leads w.entry by;
            spot = l.spot;
            entry = l.entry;
            comes = next-some m at by w.entry l.entry w.lies there l.lies;
            known = l.known;
            lies = l.lies;
            owner = l.hangs.owner ∙ w.owner;
            base = l.hangs.base ∙ w.base;
            place = l.hangs.place ∙ ap (λ q. q ++ l.entry.index ∷ []) (l.hangs.base ∙ w.base);
            levels = ap (λ n. left + n) l.hangs.level ∙ w.levels;
            digits = w.digits ∙ ap (λ n. without n i) (sym l.hangs.level);
            agrees = elim (cases_eq by own_link) [
              | inl own ↦ subst (λ n. Agree n i l.entry.index) (sym (l.hangs.level ∙ level-own w.spot by own)) tt
              | inr other ↦ subst (λ n. Agree n i l.entry.index) (sym (l.hangs.level ∙ level-other w.spot by other)) (agree-more w.spot.level i l.entry.index w.entry.index (w.agrees other) (l.hangs.digits other) (sym (w.digit other) ∙ sym (l.hangs.digit other)))
            ];
          },
          refl,
        )

    not-four : (n : ℕ) → n % 4 ≢ 4
    not-four n h = omega arith

    less-five : (n : ℕ) → n % 4 < 5
    less-five n = omega arith

    one-less : (a b : ℕ) → suc a + b ≡ 17 → a + suc b ≡ 17
    one-less a b h = omega arith

    pub way-on : (at by rest left : ℕ) (w : Reached m spots o r i at by rest (suc left)) → w.entry.index ≢ i → OnWay m spots o r i w.slot (rest % 4) (rest / 4) left
    way-on at by rest left w differs = record {
      spot = w.spot;
      entry = w.entry;
      known = w.known;
      lies = w.lies;
      bound = less-five rest;
      owner = owner-other w.slot w.spot (rest % 4) (not-four rest) ∙ w.owner;
      base = base-other w.spot (rest % 4) (not-four rest) ∙ w.base;
      levels = ap (λ n. left + n) (level-other w.spot (rest % 4) (not-four rest)) ∙ one-less left w.spot.level w.levels;
      digits = ap (λ n. n / 4) w.digits ∙ sym (without-suc w.spot.level i) ∙ ap (λ n. without n i) (sym (level-other w.spot (rest % 4) (not-four rest)));
      agrees = λ ne. w.agrees;
      digit = λ ne. ap (λ n. n % 4) w.digits;
      differs = λ ne e. differs (sym e);
    }

    -- it ends in time: two indices of 16 equal digits are one
    pub way-ends : (at by rest : ℕ) → i < 2 ^ 32 → OnWay m spots o r i at by rest 0 → ⊥
    way-ends at by rest small w = elim (cases_eq by own_link) [
      | inl own ↦ none (level_by w.spot by) w.levels (level-own w.spot by own)
      | inr other ↦ w.differs other (agree-all 16 i w.entry.index small (index (nodes.entries at w.spot w.known)) (subst (λ n. Agree n i w.entry.index) (all (level_by w.spot by) w.spot.level w.levels (level-other w.spot by other)) (w.agrees other)))
    ]
      where
        none : (n : ℕ) → 0 + n ≡ 17 → n ≡ 0 → ⊥
        none n h k = omega arith

        all : (n l : ℕ) → 0 + n ≡ 17 → n ≡ suc l → l ≡ 16
        all n l h k = omega arith

        index : IsEntry m at → w.entry.index < 2 ^ 32
        index e = subst (λ (f : Entry B). f.index < 2 ^ 32) (same_Some e.entry w.entry (sym e.lies ∙ w.lies)) e.index

    -- what is found is the part
    pub found-part : (left at by rest t : ℕ) → OnWay m spots o r i at by rest left → part_found (seek m left at by i rest) ≡ Some t → (q : Spot) × (spots t ≡ Some q) × (q.place ≡ r ++ i ∷ [])
    found-part zero at by rest t w h = absurd (none (sym (ap part_found (seek-zero m at by i rest)) ∙ h))
      where
        none : None ≡ Some t → ⊥
        none e = cc
    found-part (suc left) at by rest t w h = elim (way-next at by rest (suc left) w) [
      | inl none ↦ absurd (nothing (sym (ap part_found (seek-none m (suc left) at by i rest none.1)) ∙ h))
      | inr there ↦ at_node there.1.0 (cases_eq there.1.0.entry.index i) (λ x. found-part left there.1.0.slot (rest % 4) (rest / 4) t x)
    ]
      where
        nothing : None ≡ Some t → ⊥
        nothing e = cc

        at_node : (n : Reached m spots o r i at by rest (suc left)) → (n.entry.index ≡ i) ⊎ (n.entry.index ≢ i) → (OnWay m spots o r i n.slot (rest % 4) (rest / 4) left → part_found (seek m left n.slot (rest % 4) i (rest / 4)) ≡ Some t → (q : Spot) × (spots t ≡ Some q) × (q.place ≡ r ++ i ∷ [])) → (q : Spot) × (spots t ≡ Some q) × (q.place ≡ r ++ i ∷ [])
        at_node n (inl same) rec =
            let here = same_Some n.slot t (sym (ap part_found (seek-found m left at by i rest n.slot n.entry n.comes same)) ∙ h) in
            (n.spot, ap spots (sym here) ∙ n.known, n.place ∙ ap (λ k. r ++ k ∷ []) same)
        at_node n (inr differs) rec = rec (way-on at by rest left n differs) (sym (ap part_found (seek-on m left at by i rest n.slot n.entry n.comes differs)) ∙ h)

  -- a part of a node has its place below the node's
  pub part-spot : (m : ℕ → Option (Entry B)) (spots : ℕ → Option Spot) → AreNodes m spots → (s : ℕ) (p : Spot) (i t : ℕ) → spots s ≡ Some p → part_in m s i ≡ Some t → (q : Spot) × (spots t ≡ Some q) × (q.place ≡ p.place ++ i ∷ [])
  unfolding seek_part
  part-spot m spots nodes s p i t known h = found-part m spots nodes s p.place i 17 s own_link i t (way-begins m spots nodes s p.place i s p known refl refl) h

  -- a loop that searches a part, after so many steps
  pub record Searches (m : ℕ → Option (Entry B)) (spots : ℕ → Option Spot) (r : List ℕ) (i s at by rest left : ℕ) : Type 0 where
    pub way : OnWay m spots s r i at by rest left
    pub same : seek_part m s i ≡ seek m left at by i rest

  pub searches-begins : (m : ℕ → Option (Entry B)) (spots : ℕ → Option Spot) (nodes : AreNodes m spots) (s : ℕ) (p : Spot) (i : ℕ) → spots s ≡ Some p → Searches m spots p.place i s s own_link i 17
  unfolding seek_part
  searches-begins m spots nodes s p i known = record { way = way-begins m spots nodes s p.place i s p known refl refl; same = refl }

  module _ (m : ℕ → Option (Entry B)) (spots : ℕ → Option Spot) (nodes : AreNodes m spots) (r : List ℕ) (i s at by rest : ℕ) (e : Entry B) (lies : m at ≡ Some e) where
    pub searches-none : (left : ℕ) → leads e by ≡ nowhere → Searches m spots r i s at by rest left → seek_part m s i ≡ free at by
    searches-none left none w = w.same ∙ seek-none m left at by i rest (next-none m at by e lies none)

    pub searches-reach : (left : ℕ) → leads e by ≢ nowhere → Searches m spots r i s at by rest left → (n : Reached m spots s r i at by rest left) × (leads e by ≡ n.slot)
    searches-reach left there w = by_next (way-next m spots nodes s r i at by rest left w.way)
      where
        same : w.way.entry ≡ e
        same = same_Some w.way.entry e (sym w.way.lies ∙ lies)

        by_next : ((leads w.way.entry by ≡ nowhere) × (next m at by ≡ None)) ⊎ ((leads w.way.entry by ≢ nowhere) × ((n : Reached m spots s r i at by rest left) × (leads w.way.entry by ≡ n.slot))) → (n : Reached m spots s r i at by rest left) × (leads e by ≡ n.slot)
        by_next (inl none) = absurd (there (ap (λ (x : Entry B). leads x by) (sym same) ∙ none.0))
        by_next (inr n) = (n.1.0, ap (λ (x : Entry B). leads x by) (sym same) ∙ n.1.1)

    pub searches-found : (left : ℕ) → leads e by ≢ nowhere → Searches m spots r i s at by rest (suc left) → (f : Entry B) → m (leads e by) ≡ Some f → f.index ≡ i → part_in m s i ≡ Some (leads e by)
    searches-found left there w f k same = ap part_found (w.same ∙ seek-found m left at by i rest (leads e by) f (next-some m at by e f lies there k) same)

    pub searches-on : (left : ℕ) → leads e by ≢ nowhere → Searches m spots r i s at by rest (suc left) → (f : Entry B) → m (leads e by) ≡ Some f → f.index ≢ i → Searches m spots r i s (leads e by) (rest % 4) (rest / 4) left
    searches-on left there w f k differs =
        let n = searches-reach (suc left) there w in
        let same : n.0.entry ≡ f = same_Some n.0.entry f (sym n.0.lies ∙ ap m (sym n.1) ∙ k) in
        let ne : n.0.entry.index ≢ i = λ h. differs (ap (λ (x : Entry B). x.index) (sym same) ∙ h) in
        record {
          way = subst (λ t. OnWay m spots s r i t (rest % 4) (rest / 4) left) (sym n.1) (way-on m spots nodes s r i at by rest left n.0 ne);
          same = w.same ∙ seek-on m left at by i rest (leads e by) f (next-some m at by e f lies there k) differs;
        }
