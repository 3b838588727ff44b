-- Another body changes no search.
use Rattle.std.proofs.Common.{◌≡◌, ◌≢◌, ℕ, zero, suc, ◌<◌, ◌^◌, ◌/◌, ◌%◌, ◌==◌, eqb, if◌then◌else◌, arith, List, [], ◌∷◌, ◌++◌, length, Bool, true, false, Option, Some, None, ◌⊎◌, inl, inr, refl, sym, ap, ◌∙◌, subst}
use Rattle.std.specs.Option.{option_map}
use Rattle.std.proofs.lemmas.Bool.{cases_eq, eq-eqb, ne_eqb}
use Rattle.std.proofs.lemmas.Option.{same_Some}
use Rattle.tv_pool.specs.Pool.{Pool, IsLive, item_in, region_at, with_linked, lies_at, nowhere}
use Rattle.tv_pool.specs.declared.handles.Link.{Link}
use Rattle.tv_pool.specs.declared.handles.Region.{Region}
use Rattle.tv_pool.proofs.PoolLinks.{item_in-linked, region_at-linked_other, IsLive-linked}
use Rattle.tv_stream.specs.declared.nodes.Entry.{Entry}
use Rattle.tv_stream.specs.nodes.Digits.{without, Agree}
use Rattle.tv_stream.specs.nodes.Nodes.{Stop, found, free, part_found, own_link, leads, within, next, seek, seek_part, part_in, body_in}
use Rattle.tv_stream.specs.nodes.Stands.{Spot, Hangs, IsEntry, Leads, AreNodes, IsNode}
use Rattle.tv_stream.specs.nodes.Calls.{Sets, KeepsRegions}

none-of : {A : Type 0} (o : Option A) → ((x : A) → o ≡ Some x → ⊥) → o ≡ None
none-of None h = refl
none-of (Some x) h = absurd (h x refl)

module _ {B : Type 0} where
  -- the same node but for its body
  pub record Like (e f : Entry B) : Type 0 where
    pub number : f.index ≡ e.index
    pub links : f.links ≡ e.links

  abbrev AreLike : Option (Entry B) → Option (Entry B) → Type 0
  AreLike None None = Unit {0}
  AreLike None (Some f) = ⊥
  AreLike (Some e) None = ⊥
  AreLike (Some e) (Some f) = Like e f

  abbrev SameNext : Option (ℕ × Entry B) → Option (ℕ × Entry B) → Type 0
  SameNext None None = Unit {0}
  SameNext None (Some f) = ⊥
  SameNext (Some e) None = ⊥
  SameNext (Some e) (Some f) = (f.0 ≡ e.0) × (f.1.index ≡ e.1.index)

  module _ (m m' : ℕ → Option (Entry B)) (like : (s : ℕ) → AreLike (m s) (m' s)) where
    within-like : (s : ℕ) (o o' : Option (Entry B)) → AreLike o o' → SameNext (within s o) (within s o')
    within-like s o o' h = by (s == nowhere) o o' h
      where
        by : (b : Bool) (o o' : Option (Entry B)) → AreLike o o' → SameNext (if b then None else option_map (λ f. (s, f)) o) (if b then None else option_map (λ f. (s, f)) o')
        by true o o' h = tt
        by false None None h = tt
        by false None (Some f) h = absurd h
        by false (Some e) None h = absurd h
        by false (Some e) (Some f) h = (refl, h.number)

    next-like : (at by : ℕ) → SameNext (next m at by) (next m' at by)
    unfolding next
    next-like at by = from (m at) (m' at) (like at)
      where
        from : (o o' : Option (Entry B)) → AreLike o o' → SameNext (elim o [ None ↦ None | Some e ↦ within (leads e by) (m (leads e by)) ]) (elim o' [ None ↦ None | Some e ↦ within (leads e by) (m' (leads e by)) ])
        from None None h = tt
        from None (Some f) h = absurd h
        from (Some e) None h = absurd h
        from (Some e) (Some f) h = subst (λ t. SameNext (within (leads e by) (m (leads e by))) (within t (m' t))) (ap (λ ls. leads (record e { links = ls }) by) (sym h.links)) (within-like (leads e by) (m (leads e by)) (m' (leads e by)) (like (leads e by)))

    abbrev go_on : (ℕ → Option (Entry B)) → ℕ → ℕ → ℕ → ℕ → ℕ → Option (ℕ × Entry B) → Stop
    go_on w left at by i rest o = elim o [ None ↦ free at by | Some (s, e) ↦ if e.index == i then found s else seek w left s (rest % 4) i (rest / 4) ]

    seek-like : (left at by i rest : ℕ) → seek m' left at by i rest ≡ seek m left at by i rest
    unfolding seek
    seek-like zero at by i rest = refl
    seek-like (suc left) at by i rest = from (next m at by) (next m' at by) (next-like at by) (λ s. seek-like left s (rest % 4) i (rest / 4))
      where
        from : (o o' : Option (ℕ × Entry B)) → SameNext o o' → ((s : ℕ) → seek m' left s (rest % 4) i (rest / 4) ≡ seek m left s (rest % 4) i (rest / 4)) → go_on m' left at by i rest o' ≡ go_on m left at by i rest o
        from None None h rec = refl
        from None (Some f) h rec = absurd h
        from (Some e) None h rec = absurd h
        from (Some e) (Some f) h rec =
            ap (λ s. if f.1.index == i then found s else seek m' left s (rest % 4) i (rest / 4)) h.0
            ∙ ap (λ j. if j == i then found e.0 else seek m' left e.0 (rest % 4) i (rest / 4)) h.1
            ∙ ap (λ x. if e.1.index == i then found e.0 else x) (rec e.0)

    pub part-like : (s i : ℕ) → part_in m' s i ≡ part_in m s i
    unfolding seek_part
    part-like s i = ap part_found (seek-like 17 s own_link i i)

    some-like : (s : ℕ) (e : Entry B) → m s ≡ Some e → (f : Entry B) × (m' s ≡ Some f) × Like e f
    some-like s e h = from (m' s) refl (subst (λ o. AreLike o (m' s)) h (like s))
      where
        from : (o : Option (Entry B)) → m' s ≡ o → AreLike (Some e) o → (f : Entry B) × (m' s ≡ Some f) × Like e f
        from None is k = absurd k
        from (Some f) is k = (f, is, k)

    some-unlike : (s : ℕ) (f : Entry B) → m' s ≡ Some f → (e : Entry B) × (m s ≡ Some e) × Like e f
    some-unlike s f h = from (m s) refl (subst (λ o. AreLike (m s) o) h (like s))
      where
        from : (o : Option (Entry B)) → m s ≡ o → AreLike o (Some f) → (e : Entry B) × (m s ≡ Some e) × Like e f
        from None is k = absurd k
        from (Some e) is k = (e, is, k)

    pub nodes-like : (spots : ℕ → Option Spot) → AreNodes m spots → AreNodes m' spots
    nodes-like spots nodes = record { entries = entries; links = links }
      where
        entries : (s : ℕ) (p : Spot) → spots s ≡ Some p → IsEntry m' s
        entries s p known =
            let y = nodes.entries s p known in
            let z = some-like s y.entry y.lies in
            record { entry = z.0; lies = z.1; there = y.there; links = ap length z.2.links ∙ y.links; index = subst (λ i. i < 2 ^ 32) (sym z.2.number) y.index }

        links : (s : ℕ) (p : Spot) (f : Entry B) (by : ℕ) → spots s ≡ Some p → m' s ≡ Some f → by < 5 → leads f by ≢ nowhere → Leads m' spots s p f by
        links s p f by known lies bound there = from (some-unlike s f lies)
          where
            from : (e : Entry B) × (m s ≡ Some e) × Like e f → Leads m' spots s p f by
            from y = put (nodes.links s p y.0 by known y.1 bound (λ h. there (led ∙ h)))
              where
                led : leads f by ≡ leads y.0 by
                led = ap (λ ls. leads (record f { links = ls }) by) y.2.links

                put : Leads m spots s p y.0 by → Leads m' spots s p f by
                put l =
                    let z = some-like (leads y.0 by) l.entry l.lies in
                    record {
                      spot = l.spot;
                      entry = z.0;
                      known = ap spots led ∙ l.known;
                      lies = ap m' led ∙ z.1;
                      hangs = record {
                        owner = l.hangs.owner;
                        base = l.hangs.base;
                        place = l.hangs.place ∙ ap (λ i. l.spot.base ++ i ∷ []) (sym z.2.number);
                        level = l.hangs.level;
                        digits = λ ne. subst (λ i. Agree p.level i f.index) (sym z.2.number) (subst (Agree p.level l.entry.index) (sym y.2.number) (l.hangs.digits ne));
                        digit = λ ne. ap (λ i. without p.level i % 4) z.2.number ∙ l.hangs.digit ne;
                      };
                    }

  -- ---- the pool

  module _ (pool : Pool (Entry B)) (number : ℕ) (node : Link) (e : Entry B) (lies : item_in pool number (lies_at node) ≡ Some e) (r : Entry B) (is : r ≡ e) (b : B) where
    abbrev f : Entry B
    f = record { index = r.index; links = r.links; body = b }

    abbrev m : ℕ → Option (Entry B)
    m = item_in pool number

    abbrev m' : ℕ → Option (Entry B)
    m' = item_in (with_linked pool node f) number

    written : (t : ℕ) → m' t ≡ (if eqb t (lies_at node) then option_map (λ was. f) (m t) else m t)
    written t = item_in-linked pool node f number t

    here : m' (lies_at node) ≡ Some f
    here = written (lies_at node) ∙ ap (λ c. if c then option_map (λ was. f) (m (lies_at node)) else m (lies_at node)) (eq-eqb (lies_at node) (lies_at node) refl) ∙ ap (option_map (λ was. f)) lies

    other : (t : ℕ) → t ≢ lies_at node → m' t ≡ m t
    other t ne = written t ∙ ap (λ c. if c then option_map (λ was. f) (m t) else m t) (ne_eqb t (lies_at node) ne)

    like-self : (o : Option (Entry B)) → AreLike o o
    like-self None = tt
    like-self (Some x) = record { number = refl; links = refl }

    like-here : AreLike (m (lies_at node)) (m' (lies_at node))
    like-here = subst (λ o. AreLike o (m' (lies_at node))) (sym lies) (subst (AreLike (Some e)) (sym here) (record { number = ap (λ (x : Entry B). x.index) is; links = ap (λ (x : Entry B). x.links) is }))

    all-like : (s : ℕ) → AreLike (m s) (m' s)
    all-like s = elim (cases_eq s (lies_at node)) [
      | inl same ↦ subst (λ t. AreLike (m t) (m' t)) (sym same) like-here
      | inr ne ↦ subst (AreLike (m s)) (sym (other s ne)) (like-self (m s))
    ]

    pub sets : Sets m m' (lies_at node) b
    sets = record {
      nodes = λ spots nodes. nodes-like m m' all-like spots nodes;
      body = ap (option_map (λ x. x.body)) here;
      parts = part-like m m' all-like;
      others = other;
    }

  -- ---- other regions

  pub keeps-linked : (pool : Pool (Entry B)) (link : Link) (item was : Entry B) (number : ℕ) → item_in pool number (lies_at link) ≡ Some was → ((one other : ℕ) (x y : Entry B) → item_in pool one (lies_at link) ≡ Some x → item_in pool other (lies_at link) ≡ Some y → one ≡ other) → KeepsRegions pool (with_linked pool link item) number
  keeps-linked pool link item was number lies alone = record {
    live = λ region. IsLive-linked pool link item region;
    others = λ other ne. region_at-linked_other pool link item other (none-of (item_in pool other (lies_at link)) (λ x h. ne (alone other number x was h lies)));
  }
