-- A run of which one instance has more jobs, or is new: with the numbers of these it fits what its instances are then.
use Rattle.std.specs.Option.{option_map_or}
use Rattle.std.specs.List.{range_with_len, sum_by}
use Rattle.std.specs.Prelude.{◌≡◌, refl, ℕ, zero, suc, ◌+◌, ◌<◌, ◌⊎◌, ◌++◌, true, List, [], ◌∷◌, None, Some, is_some, length, map, slice_get}
use Rattle.std.proofs.Common.{ap, arith, inl, inr, subst, sym, ◌∙◌}
use Rattle.std.proofs.lemmas.List.{length-map, map-append}
use Rattle.std.proofs.lemmas.List.FromFn.{get_or-range_with_len, length-range_with_len}
use Rattle.std.proofs.lemmas.Option.{same_Some, slice_get-get_or, slice_get_within}
use Rattle.tv_lemmas.specs.Members.{In}
use Rattle.tv_lemmas.proofs.Cases.{on_either}
use Rattle.tv_lemmas.proofs.Lists.{get-within, in-front, in-behind, of-image, get-map}
use Rattle.tv_check.specs.RunViews.{run_view}
use Rattle.tv_frame_laws.specs.Theirs.{AreTheirs}
use Rattle.tv_seats.specs.Seats.{Seat}
use Rattle.tv_instances.specs.seats.Seated.{AreAtSteps, spot_of}
use Rattle.tv_instances.specs.Forest.{AreNumbered, Instance, Instances, IsAt, TellsNumbers, name_of, names_by}
use Rattle.tv_run.specs.Following.{numbered_in}
use Rattle.tv_run.specs.Looks.{AreLooks, IsFlow}
use Rattle.tv_run.specs.Standing.{Fits, IsLife, due_in, frame_at, names_of, numbered_as, numbers_of, seats_of}
use Rattle.tv_run.specs.declared.instances.Instance as code
use Rattle.tv_run.specs.declared.instances.Numbered.{Numbered}
use Rattle.tv_run.specs.declared.run.OpenRun.{OpenRun}
use Rattle.tv_run.proofs.Naming.{IsNamedAt, names-told}

-- ---- numbers in a row

pub get-range : (a n p : ℕ) → p < n → slice_get (range_with_len a n) p ≡ Some (a + p)
get-range a n p low =
    slice_get-get_or (range_with_len a n) p 0 (subst (λ m. p < m) (sym (length-range_with_len a n)) low)
    ∙ ap Some (get_or-range_with_len a n p 0 low)

pub of-range : (a n p q : ℕ) → slice_get (range_with_len a n) p ≡ Some q → (p < n) × (q ≡ a + p)
of-range a n p q e =
    let low : p < n = subst (λ m. p < m) (length-range_with_len a n) (slice_get_within (range_with_len a n) p q e) in
    (low, same_Some q (a + p) (sym e ∙ get-range a n p low))

-- where one list stands behind another, a member is of the one or the other
pub get-either : {A : Type 0} (xs ys : List A) (n : ℕ) (x : A) → slice_get (xs ++ ys) n ≡ Some x
    → ((slice_get xs n ≡ Some x) × (n < length xs)) ⊎ ((p : ℕ) × (n ≡ length xs + p) × (slice_get ys p ≡ Some x))
get-either [] ys n x e = inr (n, omega arith, e)
get-either (z ∷ xs) ys zero x e = inl (e, omega arith)
get-either (z ∷ xs) ys (suc n) x e =
    on_either (get-either xs ys n x e)
    (λ h. let low = h.1 in inl (h.0, omega (arith, low)))
    (λ h. let is = h.1 in inr (h.0, omega (arith, is), h.2))

-- the numbers of an instance's jobs, from the a-th on
abbrev pub more_numbers : ℕ → ℕ → ℕ → List (ℕ × ℕ)
more_numbers i a n = map (λ m. (i, m)) (range_with_len a n)

abbrev pub more_jobs : ℕ → ℕ → ℕ → List Numbered
more_jobs i a n = map (numbered_in i) (range_with_len a n)

same-numbers : (i : ℕ) (ms : List ℕ) → map numbered_as (map (numbered_in i) ms) ≡ map (λ m. (i, m)) ms
same-numbers i [] = refl
same-numbers i (m ∷ ms) = ap (λ l. (i, m) ∷ l) (same-numbers i ms)

of-more : (i a n p k m : ℕ) → slice_get (more_numbers i a n) p ≡ Some (k, m) → (k ≡ i) × (p < n) × (m ≡ a + p)
of-more i a n p k m e =
    let w = of-image (λ (x : ℕ). (i, x)) (range_with_len a n) p (k, m) e in
    let r = of-range a n p w.0 w.1 in
    (sym (ap (λ (q : ℕ × ℕ). q.0) w.2), r.0, sym (ap (λ (q : ℕ × ℕ). q.1) w.2) ∙ r.1)

get-more : (i a n p : ℕ) → p < n → slice_get (more_numbers i a n) p ≡ Some (i, a + p)
get-more i a n p low = get-map (λ (x : ℕ). (i, x)) (range_with_len a n) p (a + p) (get-range a n p low)

-- ---- instances

module _ (xs ys : Instances) where
  -- seat m of instance k is there then too, with its step and place
  pub record IsStillAt (k m : ℕ) (x : Instance) (s : Seat) : Type 0 where
    pub after : Instance
    pub there : IsAt ys k after
    pub seat : Seat
    pub sits : slice_get after.seats m ≡ Some seat
    pub name : after.name ≡ x.name
    pub flow : after.flow ≡ x.flow
    pub step : seat.step ≡ s.step
    pub place : seat.place ≡ s.place

  -- ys are xs later on, with n more jobs of instance i, behind a
  pub record AreMore (i a n : ℕ) : Type 0 where
    pub still :
        (k m : ℕ) (x : Instance) (s : Seat) → IsAt xs k x → slice_get x.seats m ≡ Some s → IsStillAt k m x s
    pub before :
        (k m : ℕ) (y : Instance) (t : Seat) → IsAt ys k y → slice_get y.seats m ≡ Some t
        → ((x : Instance) × (s : Seat) × IsAt xs k x × (slice_get x.seats m ≡ Some s))
        ⊎ ((p : ℕ) × (k ≡ i) × (p < n) × (m ≡ a + p))
    pub new : (p : ℕ) → p < n → (y : Instance) × (t : Seat) × IsAt ys i y × (slice_get y.seats (a + p) ≡ Some t)
    pub low : (m : ℕ) (x : Instance) (s : Seat) → IsAt xs i x → slice_get x.seats m ≡ Some s → m < a

  module _ (i a n : ℕ) (more : AreMore i a n) (ks : List (ℕ × ℕ)) (numbered : AreNumbered xs ks) where
    abbrev ls : List (ℕ × ℕ)
    ls = ks ++ more_numbers i a n

    -- an old one isn't new
    old-new : (b k m p : ℕ) → slice_get ks b ≡ Some (k, m) → k ≡ i → m ≡ a + p → ⊥
    old-new b k m p e same is =
        let w = numbered.seats b k m e in
        let low = more.low m w.0 w.1 (subst (λ j. IsAt xs j w.0) same w.2) w.3 in
        omega (arith, low, is)

    pub numbered-more : AreNumbered ys ls
    numbered-more = record {
      seats = λ b k m e.
          on_either (get-either ks (more_numbers i a n) b (k, m) e)
          (λ h.
          let w = numbered.seats b k m h.0 in
          let z = more.still k m w.0 w.1 w.2 w.3 in
          (z.after, z.seat, z.there, z.sits))
          (λ h.
          let w = of-more i a n h.0 k m h.2 in
          let z = more.new h.0 w.1 in (
            z.0,
            z.1,
            subst (λ j. IsAt ys j z.0) (sym w.0) z.2,
            subst (λ q. slice_get z.0.seats q ≡ Some z.1) (sym w.2) z.3,
          ));
      all = λ k m y t at sits.
          on_either (more.before k m y t at sits)
          (λ h.
          let b = numbered.all k m h.0 h.1 h.2 h.3 in
          (b.0, in-front ks (more_numbers i a n) b.0 (k, m) b.1))
          (λ h. (
            length ks + h.0,
            in-behind ks (more_numbers i a n) h.0
                ∙ get-more i a n h.0 h.2
                ∙ (λ j. Some (sym h.1 j, sym h.3 j)),
          ));
      apart = λ b c k m e f.
          on_either (get-either ks (more_numbers i a n) b (k, m) e)
          (λ g.
          on_either (get-either ks (more_numbers i a n) c (k, m) f)
          (λ h. numbered.apart b c k m g.0 h.0)
          (λ h.
          let w = of-more i a n h.0 k m h.2 in
          absurd (old-new b k m h.0 g.0 w.0 w.2)))
          (λ g.
          let v = of-more i a n g.0 k m g.2 in
          on_either (get-either ks (more_numbers i a n) c (k, m) f)
          (λ h. absurd (old-new c k m g.0 h.0 v.0 v.2))
          (λ h.
          let w = of-more i a n h.0 k m h.2 in
          let x = v.2 in
          let y = w.2 in
          let p = g.1 in
          let q = h.1 in
          omega (arith, x, y, p, q)));
    }

    -- the old ones have their names
    name-still : (k m : ℕ) (x : Instance) (s : Seat) → IsAt xs k x → slice_get x.seats m ≡ Some s
        → name_of ys (k, m) ≡ name_of xs (k, m)
    name-still k m x s at sits =
        let z = more.still k m x s at sits in
        told ys k m z.after z.seat z.there z.sits
        ∙ (λ j.
        z.name j ++ (option_map_or (λ t. t.0) (slice_get (z.flow j).steps (z.step j)) [], z.place j) ∷ [])
        ∙ sym (told xs k m x s at sits)
      where
        told : (zs : Instances) (k m : ℕ) (x : Instance) (s : Seat) → IsAt zs k x → slice_get x.seats m ≡ Some s
            → name_of zs (k, m) ≡ x.name ++ spot_of x.flow.steps s ∷ []
        told zs k m x s at sits =
            ap
            (λ o.
            option_map_or
            (λ (z : Instance). option_map_or (λ t. z.name ++ spot_of z.flow.steps t ∷ []) (slice_get z.seats m) []) o [])
            at
            ∙ ap (λ o. option_map_or (λ t. x.name ++ spot_of x.flow.steps t ∷ []) o []) sits

    names-still : names_by ys ks ≡ names_by xs ks
    names-still =
        same-maps (name_of ys) (name_of xs) ks
        (λ b z e. let w = numbered.seats b z.0 z.1 e in name-still z.0 z.1 w.0 w.1 w.2 w.3)
      where
        same-maps : {A B : Type 0} (f g : A → B) (zs : List A)
            → ((b : ℕ) (z : A) → slice_get zs b ≡ Some z → f z ≡ g z) → map f zs ≡ map g zs
        same-maps f g [] h = refl
        same-maps f g (z ∷ zs) h = λ j. h 0 z refl j ∷ same-maps f g zs (λ b y e. h (suc b) y e) j

    pub names-more : names_by ys ls ≡ names_by xs ks ++ names_by ys (more_numbers i a n)
    names-more =
        map-append (name_of ys) ks (more_numbers i a n)
        ∙ ap (λ l. l ++ names_by ys (more_numbers i a n)) names-still

-- ---- the run

pub numbers-with : (r s : OpenRun) (i a n : ℕ) → s.jobs.items ≡ r.jobs.items ++ more_jobs i a n
    → numbers_of s ≡ numbers_of r ++ more_numbers i a n
numbers-with r s i a n jobs =
    ap (map numbered_as) jobs
    ∙ map-append numbered_as r.jobs.items (more_jobs i a n)
    ∙ ap (λ l. numbers_of r ++ l) (same-numbers i (range_with_len a n))

-- an instance that has numbers, and gets more
pub tells-more : (r s : OpenRun) (i a n : ℕ) (old now : List ℕ) → s.jobs.items ≡ r.jobs.items ++ more_jobs i a n
    → length old ≡ a → now ≡ old ++ range_with_len (length r.jobs.items) n → TellsNumbers (numbers_of r) i old
    → TellsNumbers (numbers_of s) i now
tells-more r s i a n old now jobs long are tells m k e =
    ap (λ l. slice_get l k) (numbers-with r s i a n jobs)
    ∙ on_either (get-either old (range_with_len (length r.jobs.items) n) m k (sym (ap (λ l. slice_get l m) are) ∙ e))
    (λ h. in-front (numbers_of r) (more_numbers i a n) k (i, m) (tells m k h.0))
    (λ h.
    let w = of-range (length r.jobs.items) n h.0 k h.2 in
    ap (slice_get (numbers_of r ++ more_numbers i a n))
    (w.1 ∙ ap (λ q. q + h.0) (sym (length-map r.jobs.items numbered_as)))
    ∙ in-behind (numbers_of r) (more_numbers i a n) h.0
    ∙ get-more i a n h.0 w.0
    ∙ ap (λ q. Some (i, q + h.0)) (sym long)
    ∙ ap (λ q. Some (i, q)) (sym h.1))

-- one of which nothing is new
pub tells-still : (r s : OpenRun) (i a n k : ℕ) (numbers : List ℕ) → s.jobs.items ≡ r.jobs.items ++ more_jobs i a n
    → TellsNumbers (numbers_of r) k numbers → TellsNumbers (numbers_of s) k numbers
tells-still r s i a n k numbers jobs tells m b e =
    ap (λ l. slice_get l b) (numbers-with r s i a n jobs)
    ∙ in-front (numbers_of r) (more_numbers i a n) b (k, m) (tells m b e)

-- the code's instance e is y, opened by a job that r knows already
pub record IsGrown (r s : OpenRun) (k : ℕ) (e : code.Instance) (y : Instance) : Type 0 where
  pub flow : IsFlow (run_view r.run) e.flow y.flow
  pub seats : seats_of e ≡ y.seats
  pub steps : AreAtSteps y.flow.steps y.seats
  pub main : e.opener ≡ None → (k ≡ 0) × (y.name ≡ [])
  pub opener : (m : ℕ) → e.opener ≡ Some m → slice_get (names_of r) m ≡ Some y.name
  pub numbered : TellsNumbers (numbers_of s) k e.jobs.items
  pub as_many : is_some y.view ≡ true → length e.jobs.items ≡ length y.seats
  pub life : IsLife s e y y.view

-- s is r with n more jobs of instance i
pub record HasGrown (r s : OpenRun) (xs ys : Instances) (i a n : ℕ) : Type 0 where
  pub fits : Fits r xs
  pub run : s.run ≡ r.run
  pub looks : s.looks ≡ r.looks
  pub more : AreMore xs ys i a n
  pub jobs : s.jobs.items ≡ r.jobs.items ++ more_jobs i a n
  pub as_many : length s.instances.items ≡ length ys
  pub each :
      (k : ℕ) (e : code.Instance) (y : Instance) → slice_get s.instances.items k ≡ Some e → IsAt ys k y → IsGrown r s k e y
  pub openers :
      (k : ℕ) (c e : code.Instance) → slice_get r.instances.items k ≡ Some c → slice_get s.instances.items k ≡ Some e
      → e.opener ≡ c.opener
  pub theirs : AreTheirs s.pool (frame_at s)
  pub busy :
      (k : ℕ) (e : code.Instance) → slice_get s.instances.items k ≡ Some e → e.is_busy ≡ true → In k s.busy.items
  pub busy_low : (k : ℕ) → In k s.busy.items → k < length s.instances.items
  pub due_is : s.due ≡ sum_by due_in ys

module _ (r s : OpenRun) (xs ys : Instances) (i a n : ℕ) (g : HasGrown r s xs ys i a n) where
  pub numbers-grown : numbers_of s ≡ numbers_of r ++ more_numbers i a n
  numbers-grown = numbers-with r s i a n g.jobs

  numbered : AreNumbered ys (numbers_of s)
  numbered = subst (AreNumbered ys) (sym numbers-grown) (numbered-more xs ys i a n g.more (numbers_of r) g.fits.numbered)

  -- the names that are told
  told : names_by ys (numbers_of s) ≡ names_of r ++ names_by ys (more_numbers i a n)
  told =
      ap (names_by ys) numbers-grown
      ∙ names-more xs ys i a n g.more (numbers_of r) g.fits.numbered
      ∙ ap (λ l. l ++ names_by ys (more_numbers i a n)) (sym g.fits.names_are)

  -- job k stands behind the one that opened its instance
  behind : (k : ℕ) (m : Numbered) (e : code.Instance) (o : ℕ) → slice_get s.jobs.items k ≡ Some m
      → slice_get s.instances.items m.instance ≡ Some e → e.opener ≡ Some o → o < k
  behind k m e o job at opener =
      on_either (get-either r.jobs.items (more_jobs i a n) k m (sym (ap (λ l. slice_get l k) g.jobs) ∙ job))
      (λ h.
      let w = g.fits.numbered.seats k m.instance m.number (get-map numbered_as r.jobs.items k m h.0) in
      let c =
      get-within r.instances.items m.instance
      (subst (λ q. m.instance < q) (sym g.fits.as_many) (slice_get_within xs m.instance w.0 w.2)) in
      g.fits.behind k m c.0 o h.0 c.1 (sym (g.openers m.instance c.0 e c.1 at) ∙ opener))
      (λ h.
      let y = get-within ys m.instance (subst (λ q. m.instance < q) g.as_many (slice_get_within s.instances.items m.instance e at)) in
      let low : o < length (names_of r) =
      slice_get_within (names_of r) o y.0.name ((g.each m.instance e y.0 at y.1).opener o opener) in
      let long : length (names_of r) ≡ length r.jobs.items =
      ap length g.fits.names_are
      ∙ length-map (numbers_of r) (name_of xs)
      ∙ length-map r.jobs.items numbered_as in
      let is = h.1 in
      omega (arith, low, long, is))

  named-at : (k : ℕ) (m : Numbered) → slice_get s.jobs.items k ≡ Some m → IsNamedAt s ys k m
  named-at k m job =
      let w = numbered.seats k m.instance m.number (get-map numbered_as s.jobs.items k m job) in
      let e =
      get-within s.instances.items m.instance
      (subst (λ q. m.instance < q) (sym g.as_many) (slice_get_within ys m.instance w.0 w.2)) in
      let h = g.each m.instance e.0 w.0 e.1 w.2 in
      record {
        itself = e.0;
        there = e.1;
        instance = w.0;
        at = w.2;
        seat = w.1;
        sits = w.3;
        flow = subst (λ q. IsFlow (run_view q) e.0.flow w.0.flow) (sym g.run) h.flow;
        seats = h.seats;
        main = λ none. (h.main none).1;
        opener = λ o some. (
          behind k m e.0 o job e.1 some,
          ap (λ l. slice_get l o) told
              ∙ in-front (names_of r) (names_by ys (more_numbers i a n)) o w.0.name (h.opener o some),
        );
      }

  names-are : names_of s ≡ names_by ys (numbers_of s)
  names-are = names-told s ys named-at

  -- its names, with those of the new jobs
  pub names-grown : names_of s ≡ names_of r ++ names_by ys (more_numbers i a n)
  names-grown = names-are ∙ told

  pub fits-grown : Fits s ys
  fits-grown = record {
    as_many = g.as_many;
    kept = λ k e y at there.
        let h = g.each k e y at there in
        record {
          flow = subst (λ q. IsFlow (run_view q) e.flow y.flow) (sym g.run) h.flow;
          seats = h.seats;
          steps = h.steps;
          main = h.main;
          opener = λ o some.
              ap (λ l. slice_get l o) names-grown
              ∙ in-front (names_of r) (names_by ys (more_numbers i a n)) o y.name (h.opener o some);
          numbered = h.numbered;
          as_many = h.as_many;
          life = h.life;
        };
    looks =
        subst (λ d. AreLooks (run_view d) s.looks.items) (sym g.run)
        (subst (λ l. AreLooks (run_view r.run) l) (sym (ap (λ l. l.items) g.looks)) g.fits.looks);
    numbered = numbered;
    names_are = names-are;
    behind = λ k m e o job at opener. behind k m e o job at opener;
    theirs = g.theirs;
    busy = g.busy;
    busy_low = g.busy_low;
    due_is = g.due_is;
  }
