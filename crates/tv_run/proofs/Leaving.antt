-- An instance in which nothing can be settled is busy no more.
use Rattle.std.specs.Prelude.{◌≡◌, refl, ℕ, ◌+◌, ◌-◌, ◌<◌, ◌⊎◌, true, false, List, [], ◌∷◌, ◌++◌, None, Option, Some, length, option_and_then, option_map, slice_get}
use Rattle.std.proofs.Common.{ap, arith, inl, inr, length-append, subst, sym, ◌∙◌}
use Rattle.std.proofs.lemmas.Option.{same_Some}
use Rattle.tv_lemmas.specs.Members.{In}
use Rattle.tv_lemmas.proofs.Cases.{on_either}
use Rattle.tv_lemmas.proofs.Lists.{get-end}
use Rattle.tv_check.specs.RunViews.{run_view}
use Rattle.tv_model.proofs.Tests.{true≠false}
use Rattle.tv_instances.specs.FramingViews.{View}
use Rattle.tv_frame.specs.Tables.{levels_in}
use Rattle.tv_frame.specs.declared.frame.Frame.{Frame}
use Rattle.tv_pool.specs.Pool.{region_at}
use Rattle.tv_frame_laws.specs.Theirs.{AreTheirs}
use Rattle.tv_instances.specs.Forest.{Instance, Instances, IsAt}
use Rattle.tv_instances.proofs.Lists.{same-number}
use Rattle.tv_instances.specs.forest_firsts.Opening.{IsStill}
use Rattle.tv_instances.specs.Standing.{IsOpen}
use Rattle.tv_instances.specs.declared.open.Open.{Open}
use Rattle.tv_run.specs.Following.{OthersAreSame}
use Rattle.tv_run.specs.Settlements.{LastIsStill, LeavesLast, last_busy}
use Rattle.tv_run.specs.Standing.{Fits, IsKept, IsLife, IsOpenOf, frame_at}
use Rattle.tv_run.specs.declared.instances.Instance as code
use Rattle.tv_run.specs.declared.run.OpenRun.{OpenRun}
use Rattle.tv_run.proofs.Alike.{AreAlike, IsAlike, alike-there, fits-alike, names-alike}

pub in-front : {A : Type 0} (xs : List A) (y x : A) → In x (xs ++ y ∷ []) → In x xs ⊎ (x ≡ y)
in-front [] y x h = on_either h (λ e. inr e) (λ n. absurd n)
in-front (z ∷ xs) y x h =
    on_either h (λ e. inl (inl e)) (λ i. on_either (in-front xs y x i) (λ k. inl (inr k)) (λ e. inr e))

pub in-more : {A : Type 0} (xs : List A) (y x : A) → In x xs → In x (xs ++ y ∷ [])
in-more [] y x h = absurd h
in-more (z ∷ xs) y x h = on_either h (λ e. inl e) (λ i. inr (in-more xs y x i))

-- s is r, but the last busy instance isn't busy
pub record IsLeft (r s : OpenRun) (last : ℕ) : Type 0 where
  pub run : s.run ≡ r.run
  pub looks : s.looks ≡ r.looks
  pub pool : s.pool ≡ r.pool
  pub jobs : s.jobs ≡ r.jobs
  pub entries : s.entries ≡ r.entries
  pub due : s.due ≡ r.due
  pub failed : s.failed ≡ r.failed
  pub outs : s.outs ≡ r.outs
  pub before : code.Instance
  pub was : slice_get r.instances.items last ≡ Some before
  pub there : slice_get s.instances.items last ≡ Some (record before { is_busy = false })
  pub others : OthersAreSame r s last
  pub busy : r.busy.items ≡ s.busy.items ++ last ∷ []

module _ (r s : OpenRun) (last : ℕ) (w : IsLeft r s last) where
  abbrev after : code.Instance
  after = record w.before { is_busy = false }

  at-one : {P : Type 0} (k : ℕ) (c e : code.Instance) → slice_get r.instances.items k ≡ Some c
      → slice_get s.instances.items k ≡ Some e
      → (k ≡ last → c ≡ w.before → e ≡ after → P) → ((k ≡ last → ⊥) → c ≡ e → P) → P
  at-one {P} k c e at there here other =
      same-number k last
      (λ is.
      here is (same_Some c w.before (sym at ∙ ap (λ n. slice_get r.instances.items n) is ∙ w.was))
      (same_Some e after (sym there ∙ ap (λ n. slice_get s.instances.items n) is ∙ w.there)))
      (λ ne. other ne (same_Some c e (sym at ∙ sym (w.others.others k ne) ∙ there)))

  alike : AreAlike r s
  alike = record {
    run = w.run;
    looks = w.looks;
    jobs = ap (λ l. l.items) w.jobs;
    due = w.due;
    as_many = w.others.as_many;
    each = λ k c e at there.
        at-one k c e at there
        (λ is a b.
        subst (λ y. IsAlike y e) (sym a)
        (subst (IsAlike w.before) (sym b) (record { flow = refl; opener = refl; jobs = refl; seats = refl })))
        (λ ne a. subst (IsAlike c) a (record { flow = refl; opener = refl; jobs = refl; seats = refl }));
  }

  -- the frames are the same
  abbrev frame-of : code.Instance → Option Frame
  frame-of c = option_map (λ (o : Open). o.frame) (slice_get c.open.items 0)

  frames : (k : ℕ) → frame_at s k ≡ frame_at r k
  frames k =
      same-number k last
      (λ is.
      ap (λ n. option_and_then frame-of (slice_get s.instances.items n)) is
      ∙ ap (option_and_then frame-of) w.there ∙ sym (ap (option_and_then frame-of) w.was)
      ∙ ap (λ n. option_and_then frame-of (slice_get r.instances.items n)) (sym is))
      (λ ne. ap (option_and_then frame-of) (w.others.others k ne))

  theirs : AreTheirs r.pool (frame_at r) → AreTheirs s.pool (frame_at s)
  theirs t =
      subst (λ p. AreTheirs p (frame_at s)) (sym w.pool)
      (subst (AreTheirs r.pool) (λ j k. sym (frames k) j) t)

  -- and so are lives, but that it is busy no more
  opened-still : (c e : code.Instance) (x : Instance) (v : View) → e.open ≡ c.open
      → (e.is_busy ≡ false → c.is_busy ≡ false ⊎ IsStill levels_in x v) → IsOpenOf r c x v → IsOpenOf s e x v
  opened-still c e x v same busy o = record {
    itself = o.itself;
    there = ap (λ l. l.items) same ∙ o.there;
    flow = o.flow;
    is_open = λ plan h.
        subst (λ d. IsOpen (run_view d) plan s.pool o.itself v) (sym w.run)
        (subst (λ p. IsOpen (run_view r.run) plan p o.itself v) (sym w.pool) (o.is_open plan h));
    still = λ b. on_either (busy b) (λ f. o.still f) (λ k. k);
  }

  -- the last one
  last-is : last_busy r ≡ Some last
  last-is =
      let long : length r.busy.items ≡ length s.busy.items + 1 = ap length w.busy ∙ length-append s.busy.items (last ∷ []) in
      let here : length r.busy.items - 1 ≡ length s.busy.items = omega (arith, long) in
      ap (slice_get r.busy.items) here ∙ ap (λ l. slice_get l (length s.busy.items)) w.busy ∙ get-end s.busy.items last

  lives : (xs : Instances) → LastIsStill r xs → (k : ℕ) (c e : code.Instance) (x : Instance)
      → slice_get r.instances.items k ≡ Some c → slice_get s.instances.items k ≡ Some e → IsAt xs k x → IsKept r k c x
      → IsLife s e x x.view
  lives xs still k c e x at there is kept =
      at-one k c e at there (λ h a b. subst (λ y. IsLife s y x x.view) (sym b) (here h (subst (λ y. IsLife r y x x.view) a kept.life)))
      (λ ne a. subst (λ y. IsLife s y x x.view) a (elsewhere x.view kept.life))
    where
      elsewhere : (v : Option View) → IsLife r c x v → IsLife s c x v
      elsewhere None life = life
      elsewhere (Some v) life = opened-still c c x v refl (λ b. inl b) life

      here : k ≡ last → IsLife r w.before x x.view → IsLife s after x x.view
      here h life = by x.view refl life
        where
          by : (v : Option View) → x.view ≡ v → IsLife r w.before x v → IsLife s after x v
          by None e life = life
          by (Some v) e life =
              opened-still w.before after x v refl
              (λ b. inr (still last x v last-is (subst (λ n. IsAt xs n x) h is) e)) life

  busy-then : (xs : Instances) → Fits r xs → (k : ℕ) (e : code.Instance) → slice_get s.instances.items k ≡ Some e
      → e.is_busy ≡ true → In k s.busy.items
  busy-then xs fits k e there b =
      let c = alike-there r s alike k e there in
      at-one k c.0 e c.1 there (λ is a f. absurd (true≠false (sym b ∙ ap (λ y. y.is_busy) f)))
      (λ ne a.
      on_either
      (in-front s.busy.items last k (subst (In k) w.busy (fits.busy k c.0 c.1 (ap (λ y. y.is_busy) a ∙ b)))) (λ i. i)
      (λ is. absurd (ne is)))

  pub left : LeavesLast r s
  left = record {
    fits = λ xs fits still.
        fits-alike r s alike xs fits (lives xs still) (theirs fits.theirs) (busy-then xs fits)
        (λ k h.
        subst (λ n. k < n) (sym w.others.as_many)
        (fits.busy_low k (subst (In k) (sym w.busy) (in-more s.busy.items last k h))));
    same = λ j. record {
      document = run_view (w.run j);
      names = names-alike r s alike j;
      entries = (w.entries j).items;
    };
    regions = λ n. ap (λ p. region_at p n) w.pool;
    entries = w.entries;
    due = w.due;
    failed = w.failed;
    outs = w.outs;
    fewer = sym (ap length w.busy ∙ length-append s.busy.items (last ∷ []));
  }
