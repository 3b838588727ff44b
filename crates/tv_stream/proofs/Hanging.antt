-- What a node that hangs by a free link changes.
use Rattle.std.proofs.Common.{◌≡◌, ◌≢◌, ℕ, zero, suc, ◌+◌, ◌<◌, ◌^◌, ◌/◌, ◌%◌, ◌==◌, if◌then◌else◌, arith, List, [], ◌∷◌, ◌++◌, length, Option, Some, None, ◌⊎◌, inl, inr, refl, sym, ap, ◌∙◌, subst}
use Rattle.std.specs.Option.{option_map}
use Rattle.std.proofs.lemmas.Bool.{cases_eq, eq-eqb, ne_eqb}
use Rattle.std.proofs.lemmas.Option.{same_Some}
use Rattle.tv_lemmas.proofs.Options.{some-not_none}
use Rattle.tv_pool.specs.Pool.{nowhere}
use Rattle.tv_stream.specs.declared.nodes.Entry.{Entry}
use Rattle.tv_stream.specs.nodes.Digits.{without, Agree}
use Rattle.tv_stream.specs.nodes.Nodes.{Stop, found, free, part_found, own_link, leads, next, seek, seek_part, part_in, body_in}
use Rattle.tv_stream.specs.nodes.Stands.{Spot, owner_by, base_by, level_by, Hangs, IsEntry, Leads, AreNodes, with_spot}
use Rattle.tv_stream.specs.nodes.Calls.{root_spot, Plants, HangsPart, Sets}
use Rattle.tv_stream.proofs.Seeks.{seek-none, seek-found, seek-on, seek-zero, next-some, next-none}
use Rattle.tv_stream.proofs.NodeWays.{OnWay, Reached, way-begins, way-next, way-on, way-ends}

pub spot-here : (spots : ℕ → Option Spot) (s : ℕ) (p : Spot) → with_spot spots s p s ≡ Some p
spot-here spots s p = ap (λ b. if b then Some p else spots s) (eq-eqb s s refl)

pub spot-other : (spots : ℕ → Option Spot) (s : ℕ) (p : Spot) (t : ℕ) → t ≢ s → with_spot spots s p t ≡ spots t
spot-other spots s p t ne = ap (λ b. if b then Some p else spots t) (ne_eqb t s ne)

module _ {B : Type 0} where
  -- a node alone: it leads nowhere
  pub record Alone (e : Entry B) (index : ℕ) (b : B) : Type 0 where
    pub number : e.index ≡ index
    pub links : length e.links ≡ 5
    pub nowhere_by : (by : ℕ) → by < 5 → leads e by ≡ nowhere
    pub body : e.body ≡ b

  -- a node more
  pub record Adds (m : ℕ → Option (Entry B)) (m' : ℕ → Option (Entry B)) (n : ℕ) (x : Entry B) (index : ℕ) (b : B) : Type 0 where
    pub alone : Alone x index b
    pub small : index < 2 ^ 32
    pub fresh : m n ≡ None
    pub there : n ≢ nowhere
    pub new : m' n ≡ Some x

  -- what is kept of a node where at most one of its links changes
  pub record Kept (e f : Entry B) : Type 0 where
    pub number : f.index ≡ e.index
    pub links : length f.links ≡ length e.links
    pub body : f.body ≡ e.body

  -- the link `by` of the node in the slot `at`, which led nowhere, now leads to the new node
  pub record Links (m m' : ℕ → Option (Entry B)) (n at by : ℕ) (e f : Entry B) : Type 0 where
    pub was : m at ≡ Some e
    pub free_link : leads e by ≡ nowhere
    pub now : m' at ≡ Some f
    pub kept : Kept e f
    pub here : leads f by ≡ n
    pub elsewhere : (d : ℕ) → d ≢ by → leads f d ≡ leads e d
    pub others : (s : ℕ) → s ≢ n → s ≢ at → m' s ≡ m s

  module _ (m m' : ℕ → Option (Entry B)) (n : ℕ) (x : Entry B) (index : ℕ) (b : B) (adds : Adds m m' n x index b) where
    new-entry : IsEntry m' n
    new-entry = record { entry = x; lies = adds.new; there = adds.there; links = adds.alone.links; index = subst (λ i. i < 2 ^ 32) (sym adds.alone.number) adds.small }

    new-next : (by : ℕ) → by < 5 → next m' n by ≡ None
    new-next by bound = next-none m' n by x adds.new (adds.alone.nowhere_by by bound)

    pub new-empty : (i : ℕ) → part_in m' n i ≡ None
    unfolding seek_part
    new-empty i = ap part_found (seek-none m' 17 n own_link i i (new-next own_link (omega arith)))

    pub new-body : body_in m' n ≡ Some b
    new-body = ap (option_map (λ f. f.body)) adds.new ∙ ap Some adds.alone.body

    known-apart : (spots : ℕ → Option Spot) → AreNodes m spots → (s : ℕ) (p : Spot) → spots s ≡ Some p → s ≢ n
    known-apart spots nodes s p known same = let y = nodes.entries s p known in some-not_none (m s) y.entry y.lies (ap m same ∙ adds.fresh)

    -- a root
    module _ (others : (s : ℕ) → s ≢ n → m' s ≡ m s) where
      root-entries : (spots : ℕ → Option Spot) → AreNodes m spots → (s : ℕ) (p : Spot) → with_spot spots n root_spot s ≡ Some p → IsEntry m' s
      root-entries spots nodes s p known = elim (cases_eq s n) [
        | inl same ↦ subst (IsEntry m') (sym same) new-entry
        | inr ne ↦ old ne (nodes.entries s p (sym (spot-other spots n root_spot s ne) ∙ known))
      ]
        where
          old : s ≢ n → IsEntry m s → IsEntry m' s
          old ne y = record { entry = y.entry; lies = others s ne ∙ y.lies; there = y.there; links = y.links; index = y.index }

      root-links : (spots : ℕ → Option Spot) → AreNodes m spots → (s : ℕ) (p : Spot) (e : Entry B) (by : ℕ) → with_spot spots n root_spot s ≡ Some p → m' s ≡ Some e → by < 5 → leads e by ≢ nowhere → Leads m' (with_spot spots n root_spot) s p e by
      root-links spots nodes s p e by known lies bound there = elim (cases_eq s n) [
        | inl same ↦ absurd (there (ap (λ (y : Entry B). leads y by) (same_Some e x (sym lies ∙ ap m' same ∙ adds.new)) ∙ adds.alone.nowhere_by by bound))
        | inr ne ↦ old (nodes.links s p e by (sym (spot-other spots n root_spot s ne) ∙ known) (sym (others s ne) ∙ lies) bound there)
      ]
        where
          old : Leads m spots s p e by → Leads m' (with_spot spots n root_spot) s p e by
          old l =
              let ne = known-apart spots nodes (leads e by) l.spot l.known in
              record { spot = l.spot; entry = l.entry; known = spot-other spots n root_spot (leads e by) ne ∙ l.known; lies = others (leads e by) ne ∙ l.lies; hangs = l.hangs }

      pub plants : Plants m m' n b
      plants = record {
        fresh = adds.fresh;
        nodes = λ spots nodes. record { entries = root-entries spots nodes; links = root-links spots nodes };
        empty = new-empty;
        body = new-body;
        others = others;
      }

    -- a part
    module _ (spots : ℕ → Option Spot) (nodes : AreNodes m spots) (at by : ℕ) (e f : Entry B) (links : Links m m' n at by e f) where
      -- what stood before
      record Stood (s : ℕ) (g : Entry B) : Type 0 where
        pub entry : Entry B
        pub lies : m' s ≡ Some entry
        pub kept : Kept g entry
        pub led : (d : ℕ) → (s ≡ at → d ≢ by) → leads entry d ≡ leads g d

      stood : (s : ℕ) (p : Spot) (g : Entry B) → spots s ≡ Some p → m s ≡ Some g → Stood s g
      stood s p g known lies = elim (cases_eq s at) [
        | inl same ↦ here same (same_Some e g (sym links.was ∙ ap m (sym same) ∙ lies))
        | inr ne ↦ record { entry = g; lies = links.others s (known-apart spots nodes s p known) ne ∙ lies; kept = record { number = refl; links = refl; body = refl }; led = λ d h. refl }
      ]
        where
          here : s ≡ at → e ≡ g → Stood s g
          here same is = record {
            entry = f;
            lies = ap m' same ∙ links.now;
            kept = subst (λ y. Kept y f) is links.kept;
            led = λ d h. links.elsewhere d (h same) ∙ ap (λ (y : Entry B). leads y d) is;
          }

      -- the new link
      linked : next m' at by ≡ Some (n, x)
      linked =
          let l = next-some m' at by f x links.now (λ h. adds.there (sym links.here ∙ h)) (ap m' links.here ∙ adds.new) in
          l ∙ ap (λ t. Some (t, x)) links.here

      -- another search finds what it found
      pub search-kept : (o : ℕ) (r : List ℕ) (j left s d rest : ℕ) → (p : Spot) → spots at ≡ Some p → ((o ≡ owner_by at p by) → j ≢ index) → OnWay m spots o r j s d rest left → part_found (seek m' left s d j rest) ≡ part_found (seek m left s d j rest)
      search-kept o r j zero s d rest p known other w = ap part_found (seek-zero m' s d j rest ∙ sym (seek-zero m s d j rest))
      search-kept o r j (suc left) s d rest p known other w = elim (way-next m spots nodes o r j s d rest (suc left) w) [
        | inl none ↦ at_end none.0 none.1 (cases_eq s at) (cases_eq d by)
        | inr there ↦ at_node there.0 there.1.0 there.1.1 (cases_eq there.1.0.entry.index j) (λ v. search-kept o r j left there.1.0.slot (rest % 4) (rest / 4) p known other v)
      ]
        where
          before : Stood s w.entry
          before = stood s w.spot w.entry w.known w.lies

          ended : next m s d ≡ None → next m' s d ≡ None → part_found (seek m' (suc left) s d j rest) ≡ part_found (seek m (suc left) s d j rest)
          ended none none' = ap part_found (seek-none m' (suc left) s d j rest none' ∙ sym (seek-none m (suc left) s d j rest none))

          at_end : leads w.entry d ≡ nowhere → next m s d ≡ None → (s ≡ at) ⊎ (s ≢ at) → (d ≡ by) ⊎ (d ≢ by) → part_found (seek m' (suc left) s d j rest) ≡ part_found (seek m (suc left) s d j rest)
          at_end nw none (inl same) (inl also) =
              let owner : o ≡ owner_by at p by = sym w.owner ∙ ap (λ q. owner_by s q d) (same_Some w.spot p (sym w.known ∙ ap spots same ∙ known)) ∙ ap (λ t. owner_by t p d) same ∙ ap (λ k. owner_by at p k) also in
              let comes : next m' s d ≡ Some (n, x) = ap (λ t. next m' t d) same ∙ ap (next m' at) also ∙ linked in
              let on = seek-on m' left s d j rest n x comes (λ h. other owner (sym h ∙ adds.alone.number)) in
              ap part_found (on ∙ seek-none m' left n (rest % 4) j (rest / 4) (new-next (rest % 4) (small rest)))
              ∙ sym (ap part_found (seek-none m (suc left) s d j rest none))
            where
              small : (k : ℕ) → k % 4 < 5
              small k = omega arith
          at_end nw none (inl same) (inr ne) = ended none (next-none m' s d before.entry before.lies (before.led d (λ h. ne) ∙ nw))
          at_end nw none (inr ne) k = ended none (next-none m' s d before.entry before.lies (before.led d (λ h. absurd (ne h)) ∙ nw))

          at_node : leads w.entry d ≢ nowhere → (t : Reached m spots o r j s d rest (suc left)) → leads w.entry d ≡ t.slot → (t.entry.index ≡ j) ⊎ (t.entry.index ≢ j) → (OnWay m spots o r j t.slot (rest % 4) (rest / 4) left → part_found (seek m' left t.slot (rest % 4) j (rest / 4)) ≡ part_found (seek m left t.slot (rest % 4) j (rest / 4))) → part_found (seek m' (suc left) s d j rest) ≡ part_found (seek m (suc left) s d j rest)
          at_node there t is k rec = by_index k
            where
              free-there : s ≡ at → d ≢ by
              free-there same also = there (ap (leads w.entry) also ∙ ap (λ (y : Entry B). leads y by) (same_Some w.entry e (sym w.lies ∙ ap m same ∙ links.was)) ∙ links.free_link)

              target : Stood t.slot t.entry
              target = stood t.slot t.spot t.entry t.known t.lies

              led : leads before.entry d ≡ t.slot
              led = before.led d free-there ∙ is

              comes : next m' s d ≡ Some (t.slot, target.entry)
              comes = next-some m' s d before.entry target.entry before.lies (λ h. there (is ∙ sym led ∙ h)) (ap m' led ∙ target.lies) ∙ ap (λ y. Some (y, target.entry)) led

              by_index : (t.entry.index ≡ j) ⊎ (t.entry.index ≢ j) → part_found (seek m' (suc left) s d j rest) ≡ part_found (seek m (suc left) s d j rest)
              by_index (inl same) = ap part_found (seek-found m' left s d j rest t.slot target.entry comes (target.kept.number ∙ same) ∙ sym (seek-found m left s d j rest t.slot t.entry t.comes same))
              by_index (inr ne) =
                  ap part_found (seek-on m' left s d j rest t.slot target.entry comes (λ h. ne (sym target.kept.number ∙ h)))
                  ∙ rec (way-on m spots nodes o r j s d rest left t ne)
                  ∙ sym (ap part_found (seek-on m left s d j rest t.slot t.entry t.comes ne))

      -- the search for the new part finds it
      pub search-new : (o : ℕ) (r : List ℕ) (left s d rest : ℕ) → OnWay m spots o r index s d rest left → seek m left s d index rest ≡ free at by → part_found (seek m' left s d index rest) ≡ Some n
      search-new o r zero s d rest w ends = absurd (way-ends m spots nodes o r index s d rest adds.small w)
      search-new o r (suc left) s d rest w ends = elim (way-next m spots nodes o r index s d rest (suc left) w) [
        | inl none ↦ at_end (sym (seek-none m (suc left) s d index rest none.1) ∙ ends)
        | inr there ↦ at_node there.0 there.1.0 there.1.1 (cases_eq there.1.0.entry.index index) (λ v k. search-new o r left there.1.0.slot (rest % 4) (rest / 4) v k)
      ]
        where
          slot_of_free : free s d ≡ free at by → s ≡ at
          slot_of_free h = cc

          link_of_free : free s d ≡ free at by → d ≡ by
          link_of_free h = cc

          at_end : free s d ≡ free at by → part_found (seek m' (suc left) s d index rest) ≡ Some n
          at_end h = ap part_found (seek-found m' left s d index rest n x (ap (λ t. next m' t d) (slot_of_free h) ∙ ap (next m' at) (link_of_free h) ∙ linked) adds.alone.number)

          never : (t : ℕ) → found t ≡ free at by → ⊥
          never t h = cc

          at_node : leads w.entry d ≢ nowhere → (t : Reached m spots o r index s d rest (suc left)) → leads w.entry d ≡ t.slot → (t.entry.index ≡ index) ⊎ (t.entry.index ≢ index) → (OnWay m spots o r index t.slot (rest % 4) (rest / 4) left → seek m left t.slot (rest % 4) index (rest / 4) ≡ free at by → part_found (seek m' left t.slot (rest % 4) index (rest / 4)) ≡ Some n) → part_found (seek m' (suc left) s d index rest) ≡ Some n
          at_node there t is (inl same) rec = absurd (never t.slot (sym (seek-found m left s d index rest t.slot t.entry t.comes same) ∙ ends))
          at_node there t is (inr ne) rec =
              let before = stood s w.spot w.entry w.known w.lies in
              let target = stood t.slot t.spot t.entry t.known t.lies in
              let led = before.led d free-there ∙ is in
              let comes = next-some m' s d before.entry target.entry before.lies (λ h. there (is ∙ sym led ∙ h)) (ap m' led ∙ target.lies) ∙ ap (λ y. Some (y, target.entry)) led in
              ap part_found (seek-on m' left s d index rest t.slot target.entry comes (λ h. ne (sym target.kept.number ∙ h)))
              ∙ rec (way-on m spots nodes o r index s d rest left t ne) (sym (seek-on m left s d index rest t.slot t.entry t.comes ne) ∙ ends)
            where
              free-there : s ≡ at → d ≢ by
              free-there same also = there (ap (leads w.entry) also ∙ ap (λ (y : Entry B). leads y by) (same_Some w.entry e (sym w.lies ∙ ap m same ∙ links.was)) ∙ links.free_link)

      -- the nodes stand
      module _ (p : Spot) (known : spots at ≡ Some p) (bound : by < 5) (q : Spot) (hangs : Hangs at p e by q x) where
        part-entries : (s : ℕ) (u : Spot) → with_spot spots n q s ≡ Some u → IsEntry m' s
        part-entries s u k = elim (cases_eq s n) [
          | inl same ↦ subst (IsEntry m') (sym same) new-entry
          | inr ne ↦ old (sym (spot-other spots n q s ne) ∙ k)
        ]
          where
            old : spots s ≡ Some u → IsEntry m' s
            old k =
                let y = nodes.entries s u k in
                let z = stood s u y.entry k y.lies in
                record { entry = z.entry; lies = z.lies; there = y.there; links = z.kept.links ∙ y.links; index = subst (λ i. i < 2 ^ 32) (sym z.kept.number) y.index }

        part-links : (s : ℕ) (u : Spot) (g : Entry B) (d : ℕ) → with_spot spots n q s ≡ Some u → m' s ≡ Some g → d < 5 → leads g d ≢ nowhere → Leads m' (with_spot spots n q) s u g d
        part-links s u g d k lies below there = elim (cases_eq s n) [
          | inl same ↦ absurd (there (ap (λ (y : Entry B). leads y d) (same_Some g x (sym lies ∙ ap m' same ∙ adds.new)) ∙ adds.alone.nowhere_by d below))
          | inr ne ↦ old (sym (spot-other spots n q s ne) ∙ k)
        ]
          where
            old : spots s ≡ Some u → Leads m' (with_spot spots n q) s u g d
            old k = by_link (cases_eq s at) (cases_eq d by)
              where
                y : IsEntry m s
                y = nodes.entries s u k

                z : Stood s y.entry
                z = stood s u y.entry k y.lies

                is : z.entry ≡ g
                is = same_Some z.entry g (sym z.lies ∙ lies)

                there-still : (s ≡ at → d ≢ by) → Leads m' (with_spot spots n q) s u g d
                there-still apart = leading (nodes.links s u y.entry d k y.lies below (λ h. there (sym led ∙ h)))
                  where
                    led : leads y.entry d ≡ leads g d
                    led = sym (z.led d apart) ∙ ap (λ (v : Entry B). leads v d) is

                    leading : Leads m spots s u y.entry d → Leads m' (with_spot spots n q) s u g d
                    leading l = put (stood (leads y.entry d) l.spot l.entry l.known l.lies)
                      where
                        put : Stood (leads y.entry d) l.entry → Leads m' (with_spot spots n q) s u g d
                        put t = record {
                          spot = l.spot;
                          entry = t.entry;
                          known = ap (with_spot spots n q) (sym led) ∙ spot-other spots n q (leads y.entry d) (known-apart spots nodes (leads y.entry d) l.spot l.known) ∙ l.known;
                          lies = ap m' (sym led) ∙ t.lies;
                          hangs = record {
                            owner = l.hangs.owner;
                            base = l.hangs.base;
                            place = l.hangs.place ∙ ap (λ i. l.spot.base ++ i ∷ []) (sym t.kept.number);
                            level = l.hangs.level;
                            digits = λ ne. subst (λ i. Agree u.level i g.index) (sym t.kept.number) (subst (λ i. Agree u.level l.entry.index i) (sym z.kept.number ∙ ap (λ (v : Entry B). v.index) is) (l.hangs.digits ne));
                            digit = λ ne. ap (λ i. without u.level i % 4) t.kept.number ∙ l.hangs.digit ne;
                          };
                        }

                by_link : (s ≡ at) ⊎ (s ≢ at) → (d ≡ by) ⊎ (d ≢ by) → Leads m' (with_spot spots n q) s u g d
                by_link (inl same) (inl also) =
                    let spot-is : p ≡ u = same_Some p u (sym known ∙ ap spots (sym same) ∙ k) in
                    let g-is : f ≡ g = same_Some f g (sym links.now ∙ ap m' (sym same) ∙ lies) in
                    let to : leads g d ≡ n = ap (leads g) also ∙ ap (λ (v : Entry B). leads v by) (sym g-is) ∙ links.here in
                    let index-is : e.index ≡ g.index = sym links.kept.number ∙ ap (λ (v : Entry B). v.index) g-is in
                    record {
                      spot = q;
                      entry = x;
                      known = ap (with_spot spots n q) to ∙ spot-here spots n q;
                      lies = ap m' to ∙ adds.new;
                      hangs = record {
                        owner = hangs.owner ∙ ap (λ t. owner_by t p by) (sym same) ∙ ap (λ v. owner_by s v by) spot-is ∙ ap (owner_by s u) (sym also);
                        base = hangs.base ∙ ap (λ v. base_by v by) spot-is ∙ ap (base_by u) (sym also);
                        place = hangs.place;
                        level = hangs.level ∙ ap (λ v. level_by v by) spot-is ∙ ap (level_by u) (sym also);
                        digits = λ ne. subst (λ (v : Spot). Agree v.level x.index g.index) spot-is (subst (λ i. Agree p.level x.index i) index-is (hangs.digits (λ h. ne (also ∙ h))));
                        digit = λ ne. ap (λ (v : Spot). without v.level x.index % 4) (sym spot-is) ∙ hangs.digit (λ h. ne (also ∙ h)) ∙ sym also;
                      };
                    }
                by_link (inl same) (inr ne) = there-still (λ h. ne)
                by_link (inr ne) k = there-still (λ h. absurd (ne h))

        pub part-nodes : AreNodes m' (with_spot spots n q)
        part-nodes = record { entries = part-entries; links = part-links }
