-- Of the first seats of a step of two kinds the one with the lesser place is the first of either kind.
use Rattle.std.specs.Cmp.{IsStrictWeakOrder}
use Rattle.std.specs.Cmp.Lexicographic.{slice_cmp}
use Rattle.std.specs.Option.{option_map_or}
use Rattle.std.specs.Ordering.{is_lt, nat_cmp}
use Rattle.std.specs.Prelude.{◌≡◌, ◌⊎◌, refl, ℕ, ◌<◌, Bool, true, false, if◌then◌else◌, List, [], Option, None, Some, IfSome, length, slice_get}
use Rattle.std.proofs.Common.{ap, inl, inr, sym, ◌∙◌}
use Rattle.std.proofs.lemmas.Bool.{true≢false}
use Rattle.std.proofs.lemmas.Cmp.{nat_list_cmp_total}
use Rattle.std.proofs.lemmas.List.MinMax.{ranks_by}
use Rattle.std.proofs.lemmas.Option.{slice_get_within}
use Rattle.tv_lemmas.proofs.Cases.{on_either}
use Rattle.tv_value.specs.Nested.{Place}
use Rattle.tv_model.specs.JobOrder.{place_before}
use Rattle.tv_frame.proofs.turns.Ranks.{place-is}
use Rattle.tv_seats.specs.Firsts.{IsFirstAsideOf, IsFirstOf}
use Rattle.tv_seats.specs.Seats.{Seat, place_at}
use Rattle.tv_seats.specs.Stages.{is_aside, is_idle}
use Rattle.tv_frame.specs.FramingViews.{View}
use Rattle.tv_instances.specs.Firsts.{CanBegin, GoesOnAt, IsFirstAt, IsFirstOwn, IsFirstSeat, IsFirstToBegin, lesser_of, stands_before}

-- ---- places

abbrev is_before : Place → Place → Bool
is_before p q = is_lt (slice_cmp nat_cmp p q)

places : IsStrictWeakOrder is_before
places = ranks_by nat_list_cmp_total (λ (p : Place). p)

pub before-chain : (p q r : Place) → place_before p q ≡ false → place_before q r ≡ false → place_before p r ≡ false
before-chain p q r h k = place-is p r ∙ places.chain p q r (sym (place-is p q) ∙ h) (sym (place-is q r) ∙ k)

pub before-turned : (p q : Place) → place_before p q ≡ true → place_before q p ≡ false
before-turned p q h = place-is q p ∙ places.one_way p q (sym (place-is p q) ∙ h)

-- ---- firsts

module _ (ss : List Seat) (step : ℕ) where
  place-at : (n : ℕ) (s : Seat) → slice_get ss n ≡ Some s → place_at ss n ≡ s.place
  place-at n s e = ap (λ o. option_map_or (λ (t : Seat). t.place) o []) e

  -- a first one is known
  pub first-known : (P : Seat → Type 0) (o : Option ℕ) → IsFirstAt ss P step o → IfSome o (λ n. n < length ss)
  first-known P None f = tt
  first-known P (Some n) f = slice_get_within ss n f.seat f.there

  -- what is said of the first of one kind is so of another that is the same
  pub same-first : (P R : Seat → Type 0) → ((s : Seat) → P s → R s) → ((s : Seat) → R s → P s)
      → (o : Option ℕ) → IsFirstAt ss P step o → IsFirstAt ss R step o
  same-first P R to from None f = λ n s e h r. f n s e h (from s r)
  same-first P R to from (Some n) f = record {
    seat = f.seat;
    there = f.there;
    of_step = f.of_step;
    does = to f.seat f.does;
    first = λ m t e h r. f.first m t e h (from t r);
  }

  module _ (P Q R : Seat → Type 0) (of : (s : Seat) → R s → P s ⊎ Q s) (left : (s : Seat) → P s → R s)
      (right : (s : Seat) → Q s → R s) where
    -- where all of the other kind don't stand before it
    with-left : (n : ℕ) (f : IsFirstSeat ss P step n)
        → ((m : ℕ) (t : Seat) → slice_get ss m ≡ Some t → t.step ≡ step → Q t → place_before t.place f.seat.place ≡ false)
        → IsFirstSeat ss R step n
    with-left n f none = record {
      seat = f.seat;
      there = f.there;
      of_step = f.of_step;
      does = left f.seat f.does;
      first = λ m t e h r. on_either (of t r) (λ p. f.first m t e h p) (λ q. none m t e h q);
    }

    with-right : (n : ℕ) (g : IsFirstSeat ss Q step n)
        → ((m : ℕ) (t : Seat) → slice_get ss m ≡ Some t → t.step ≡ step → P t → place_before t.place g.seat.place ≡ false)
        → IsFirstSeat ss R step n
    with-right n g none = record {
      seat = g.seat;
      there = g.there;
      of_step = g.of_step;
      does = right g.seat g.does;
      first = λ m t e h r. on_either (of t r) (λ p. none m t e h p) (λ q. g.first m t e h q);
    }

    pub lesser-first : (o u : Option ℕ) → IsFirstAt ss P step o → IsFirstAt ss Q step u
        → IsFirstAt ss R step (lesser_of ss o u)
    lesser-first None None f g = λ n s e h r. on_either (of s r) (λ p. f n s e h p) (λ q. g n s e h q)
    lesser-first (Some n) None f g = with-left n f (λ m t e h q. absurd (g m t e h q))
    lesser-first None (Some m) f g = with-right m g (λ k t e h p. absurd (f k t e h p))
    lesser-first (Some n) (Some m) f g = by (stands_before ss m (Some n)) refl
      where
        places-are : place_before g.seat.place f.seat.place ≡ stands_before ss m (Some n)
        places-are = λ i. place_before (sym (place-at m g.seat g.there) i) (sym (place-at n f.seat f.there) i)

        by : (b : Bool) → stands_before ss m (Some n) ≡ b → IsFirstAt ss R step (if b then Some m else Some n)
        by true b =
            with-right m g
            (λ k t e h p.
            before-chain t.place f.seat.place g.seat.place (f.first k t e h p)
            (before-turned g.seat.place f.seat.place (places-are ∙ b)))
        by false b =
            with-left n f
            (λ k t e h q. before-chain t.place g.seat.place f.seat.place (g.first k t e h q) (places-are ∙ b))

  -- ---- idle ones, and those put aside

  abbrev pub Idles : Seat → Type 0
  Idles s = is_idle s.stage ≡ true

  abbrev pub Asides : Seat → Type 0
  Asides s = is_aside s.stage ≡ true

  pub idle-first : (o : Option ℕ) → IsFirstOf ss step o → IsFirstAt ss Idles step o
  idle-first None f = λ n s e h i. f n s (record { there = e; of_step = h; idle = i })
  idle-first (Some n) f = record {
    seat = f.seat;
    there = f.is.there;
    of_step = f.is.of_step;
    does = f.is.idle;
    first = λ m t e h i. place-is t.place f.seat.place ∙ f.first m t (record { there = e; of_step = h; idle = i });
  }

  pub aside-first : (o : Option ℕ) → IsFirstAsideOf ss step o → IsFirstAt ss Asides step o
  aside-first None f = λ n s e h i. f n s (record { there = e; of_step = h; aside = i })
  aside-first (Some n) f = record {
    seat = f.seat;
    there = f.is.there;
    of_step = f.is.of_step;
    does = f.is.aside;
    first = λ m t e h i. place-is t.place f.seat.place ∙ f.first m t (record { there = e; of_step = h; aside = i });
  }

  -- ---- what goes on itself

  module _ (v : View) (limit : ℕ) where
    pub idle-alone : (o : Option ℕ) → IsFirstOf ss step o → IsFirstOwn v ss limit false false step o
    idle-alone o f =
        same-first Idles (GoesOnAt v ss limit false false) (λ s i. inl i) back o (idle-first o f)
      where
        back : (s : Seat) → GoesOnAt v ss limit false false s → Idles s
        back s (inl i) = i
        back s (inr (inl a)) = absurd (true≢false (sym a.0))
        back s (inr (inr b)) = absurd (true≢false (sym b.0))

    pub begun-first : (o u : Option ℕ) → IsFirstOf ss step o → IsFirstAsideOf ss step u
        → IsFirstOwn v ss limit true false step (lesser_of ss o u)
    begun-first o u f g =
        lesser-first Idles Asides (GoesOnAt v ss limit true false) of (λ s i. inl i) (λ s a. inr (inl (refl, a))) o u
        (idle-first o f) (aside-first u g)
      where
        of : (s : Seat) → GoesOnAt v ss limit true false s → Idles s ⊎ Asides s
        of s (inl i) = inl i
        of s (inr (inl a)) = inr a.1
        of s (inr (inr b)) = absurd (true≢false (sym b.0))

    pub own-first : (asides : Bool) (o u : Option ℕ) → IsFirstOwn v ss limit asides false step o
        → IsFirstToBegin v ss limit step u → IsFirstOwn v ss limit asides true step (lesser_of ss o u)
    own-first asides o u f g =
        lesser-first (GoesOnAt v ss limit asides false) (CanBegin v ss limit) (GoesOnAt v ss limit asides true) of left
        (λ s b. inr (inr (refl, b))) o u f g
      where
        of : (s : Seat) → GoesOnAt v ss limit asides true s → GoesOnAt v ss limit asides false s ⊎ CanBegin v ss limit s
        of s (inl i) = inl (inl i)
        of s (inr (inl a)) = inl (inr (inl a))
        of s (inr (inr b)) = inr b.1

        left : (s : Seat) → GoesOnAt v ss limit asides false s → GoesOnAt v ss limit asides true s
        left s (inl i) = inl i
        left s (inr (inl a)) = inr (inl a)
        left s (inr (inr b)) = absurd (true≢false (sym b.0))
