-- Whose the regions of a pool are, after each call.
use Rattle.std.specs.Prelude.{None, Some, refl, slice_index_or, ℕ, ◌≡◌, ◌≢◌, ◌⊎◌}
use Rattle.std.proofs.Common.{ap, inl, inr, subst, sym, ◌∙◌}
use Rattle.std.proofs.lemmas.Bool.{cases_eq}
use Rattle.std.proofs.lemmas.Option.{same_Some}
use Rattle.tv_pool.specs.Pool.{IsLive, number_of, region_at}
use Rattle.tv_outputs.specs.Known.{Nodes}
use Rattle.tv_frame.specs.declared.frame.Frame.{Frame}
use Rattle.tv_frame_laws.specs.Theirs.{AreTheirs, FirstTheirs, Frames, NoneLive, OthersStay, TheirsAfterCall, TheirsAfterGivingUp, TheirsAfterRefusal, TheirsAfterRelease, TheirsAfterStart, TheirsAreOnly}
use Rattle.tv_frame_laws.proofs.Regions.{empty, given_up-same, live-before, live-same, none-counted, not-both, released-none, released-other}

-- a frame's number
abbrev its : Frame → ℕ
its f = number_of f.region

-- ---- at first

pub first-theirs : FirstTheirs
first-theirs pool fs none shut = record {
  live = λ i f e. absurd (not-both (fs i) (shut i) e);
  apart = λ i k f g e h same. absurd (not-both (fs i) (shut i) e);
  no_other = λ n there. absurd (there (ap (λ rs. slice_index_or rs n None) none));
}

-- ---- all stay but one

module _ (fs gs : Frames) (i : ℕ) (stay : OthersStay i fs gs) where
  -- another one is among those of before
  was : (k : ℕ) (g : Frame) → gs k ≡ Some g → k ≢ i → fs k ≡ Some g
  was k g e ne = sym (stay k ne) ∙ e

  -- and is there now
  still : (k : ℕ) (g : Frame) → fs k ≡ Some g → k ≢ i → gs k ≡ Some g
  still k g e ne = stay k ne ∙ e

-- one of them has another number than another
its-own : (pool : Nodes) (fs : Frames) → AreTheirs pool fs → (i k : ℕ) (f g : Frame) → fs i ≡ Some f → fs k ≡ Some g → k ≢ i → its g ≢ its f
its-own pool fs t i k f g e h ne same = ne (t.apart k i g f h e same)

-- ---- a call

pub theirs-only : TheirsAreOnly
theirs-only pool after fs i k f g t e h ne keeps = keeps.others (its g) (its-own pool fs t i k f g e h ne)

pub theirs-called : TheirsAfterCall
theirs-called pool after fs gs i f g t e h region stay keeps = record {
  live = λ k x is. keeps.live x.region (live k x is);
  apart = λ j k x y a b same.
      let one = before j x a in
      let other = before k y b in
      t.apart j k one.0 other.0 one.1 other.1 (sym one.2 ∙ same ∙ other.2);
  no_other = λ n there. found n there (cases_eq n (its f));
}
  where
    number : its g ≡ its f
    number = ap number_of region

    -- each had this region before
    before : (k : ℕ) (x : Frame) → gs k ≡ Some x → (y : Frame) × (fs k ≡ Some y) × (its x ≡ its y)
    before k x is = elim (cases_eq k i) [
      | inl same ↦ (f, ap fs same ∙ e, ap its (same_Some x g (sym is ∙ ap gs same ∙ h)) ∙ number)
      | inr ne ↦ (x, was fs gs i stay k x is ne, refl)
    ]

    live : (k : ℕ) (x : Frame) → gs k ≡ Some x → IsLive pool x.region
    live k x is = elim (cases_eq k i) [
      | inl same ↦ subst (IsLive pool) (sym (ap (λ (z : Frame). z.region) (same_Some x g (sym is ∙ ap gs same ∙ h)) ∙ region)) (t.live i f e)
      | inr ne ↦ t.live k x (was fs gs i stay k x is ne)
    ]

    found : (n : ℕ) → region_at after n ≢ None → (n ≡ its f) ⊎ (n ≢ its f)
        → (k : ℕ) × (x : Frame) × (gs k ≡ Some x) × (its x ≡ n)
    found n there (inl same) = (i, g, h, number ∙ sym same)
    found n there (inr ne) =
        let r = t.no_other n (λ none. there (keeps.others n ne ∙ none)) in
        (r.0, r.1, still fs gs i stay r.0 r.1 r.2 (λ same. ne (sym r.3 ∙ ap its (same_Some r.1 f (sym r.2 ∙ ap fs same ∙ e)))), r.3)

-- ---- a start

pub theirs-started : TheirsAfterStart
theirs-started pool after fs gs i f t none h stay live next keeps = record {
  live = λ k x is. elim (cases_eq k i) [
    | inl same ↦ subst (λ (z : Frame). IsLive after z.region) (sym (is-new k x is same)) live
    | inr ne ↦ keeps.live x.region (t.live k x (was fs gs i stay k x is ne))
  ];
  apart = λ j k x y a b same. apart-now j k x y a b same (cases_eq j i) (cases_eq k i);
  no_other = λ n there. found n there (cases_eq n (its f));
}
  where
    is-new : (k : ℕ) (x : Frame) → gs k ≡ Some x → k ≡ i → x ≡ f
    is-new k x is same = same_Some x f (sym is ∙ ap gs same ∙ h)

    -- no other has its number
    unlike : (k : ℕ) (x : Frame) → gs k ≡ Some x → k ≢ i → its x ≢ its f
    unlike k x is ne same = live-before pool x.region (t.live k x (was fs gs i stay k x is ne)) (same ∙ next)

    apart-now : (j k : ℕ) (x y : Frame) → gs j ≡ Some x → gs k ≡ Some y → its x ≡ its y
        → (j ≡ i) ⊎ (j ≢ i) → (k ≡ i) ⊎ (k ≢ i) → j ≡ k
    apart-now j k x y a b same (inl c) (inl d) = c ∙ sym d
    apart-now j k x y a b same (inl c) (inr d) = absurd (unlike k y b d (sym same ∙ ap its (is-new j x a c)))
    apart-now j k x y a b same (inr c) (inl d) = absurd (unlike j x a c (same ∙ ap its (is-new k y b d)))
    apart-now j k x y a b same (inr c) (inr d) = t.apart j k x y (was fs gs i stay j x a c) (was fs gs i stay k y b d) same

    found : (n : ℕ) → region_at after n ≢ None → (n ≡ its f) ⊎ (n ≢ its f)
        → (k : ℕ) × (x : Frame) × (gs k ≡ Some x) × (its x ≡ n)
    found n there (inl same) = (i, f, h, sym same)
    found n there (inr ne) =
        let r = t.no_other n (λ gone. there (keeps.others n ne ∙ gone)) in
        (r.0, r.1, still fs gs i stay r.0 r.1 r.2 (λ same. not-both (fs r.0) (ap fs same ∙ none) r.2), r.3)

-- ---- no region changes

pub theirs-refused : TheirsAfterRefusal
theirs-refused pool after fs t same = record {
  live = λ i f e. live-same pool after f.region (same (its f)) (t.live i f e);
  apart = t.apart;
  no_other = λ n there. t.no_other n (λ none. there (same n ∙ none));
}

pub theirs-given_up : TheirsAfterGivingUp
theirs-given_up pool mid after fs t k e = theirs-refused pool after fs t (given_up-same pool mid after k e)

-- ---- a release

pub theirs-released : TheirsAfterRelease
theirs-released pool after fs gs i f t e h stay gone = record {
  live = λ k x is.
      let there = was fs gs i stay k x is (other k x is) in
      live-same pool after x.region
      (released-other pool after (its f) (its x) gone (its-own pool fs t i k f x e there (other k x is)))
      (t.live k x there);
  apart = λ j k x y a b same.
      t.apart j k x y (was fs gs i stay j x a (other j x a)) (was fs gs i stay k y b (other k y b)) same;
  no_other = λ n there. found n there (cases_eq n (its f));
}
  where
    other : (k : ℕ) (x : Frame) → gs k ≡ Some x → k ≢ i
    other k x is same = not-both (gs k) (ap gs same ∙ h) is

    found : (n : ℕ) → region_at after n ≢ None → (n ≡ its f) ⊎ (n ≢ its f)
        → (k : ℕ) × (x : Frame) × (gs k ≡ Some x) × (its x ≡ n)
    found n there (inl same) = absurd (there (ap (region_at after) same ∙ released-none pool after (its f) gone))
    found n there (inr ne) =
        let r = t.no_other n (λ none. there (released-other pool after (its f) n gone ne ∙ none)) in
        (r.0, r.1, still fs gs i stay r.0 r.1 r.2 (λ same. ne (sym r.3 ∙ ap its (same_Some r.1 f (sym r.2 ∙ ap fs same ∙ e)))), r.3)

-- ---- none is left

pub none-live : NoneLive
none-live pool fs t shut = none-counted pool.regions (λ n. empty (region_at pool n) (by n))
  where
    by : (n : ℕ) → region_at pool n ≢ None → ⊥
    by n there = let r = t.no_other n there in not-both (fs r.0) (shut r.0) r.2
