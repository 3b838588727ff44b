-- Jobs with results in several frames, each frame in a region of its own: together the regions have a node
-- for each output.
use Rattle.std.specs.List.{sum_by}
use Rattle.std.specs.Prelude.{◌≡◌, refl, ℕ, ◌<◌, ◌≤◌, ◌==◌, None, Option, Some, List, [], ◌∷◌, length, slice_get}
use Rattle.std.proofs.Common.{ap, arith, inl, subst, sym, ◌∙◌}
use Rattle.std.proofs.lemmas.Bool.{eqb-true}
use Rattle.std.proofs.lemmas.List.{get_or_past}
use Rattle.std.proofs.lemmas.Option.{get_or_from_slice_get, same_Some, slice_get_cases}
use Rattle.tv_lemmas.specs.Members.{In}
use Rattle.tv_lemmas.proofs.Members.{of-filter}
use Rattle.tv_lemmas.proofs.Cases.{on_either}
use Rattle.tv_value.specs.Nested.{Place}
use Rattle.tv_value.specs.Values.{Name}
use Rattle.tv_flow.specs.Flows.{Flow}
use Rattle.tv_pool.specs.Pool.{IsLive, live_count, number_of, region_at, stored_in}
use Rattle.tv_pool.specs.declared.handles.Region.{Region}
use Rattle.tv_check.specs.declared.plans.FlowPlan.{FlowPlan}
use Rattle.tv_model.specs.JobOrder.{Apart}
use Rattle.tv_outputs.specs.Known.{Nodes}
use Rattle.tv_run.specs.FramingViews.{View}
use Rattle.tv_run.specs.Kept.{Keeps}
use Rattle.tv_run.specs.Inner.{Frame}
use Rattle.tv_run.specs.Theirs.{AreTheirs, Frames}
use Rattle.tv_run.proofs.Regions.{live-there}
use Rattle.tv_run.specs.nodes.Stated.{HasResult, HaveResults, output_count}
use Rattle.tv_run.proofs.nodes.Housed.{outputs-have_nodes}
use Rattle.tv_board.proofs.Sums.{all-different, all-in, apart-filter, apart-made, by-numbers, made, of-made, of_number, sum-made}

-- a region that lives has one of the pool's numbers
live-low : (pool : Nodes) (region : Region) → IsLive pool region → number_of region < length pool.regions
live-low pool region live =
    on_either (slice_get_cases pool.regions (number_of region)).1 (λ h. h.1)
    (λ h. absurd (live-there pool region live (get_or_past pool.regions (number_of region) None h.0)))

-- the frame of that number is one of a plan, and keeps what the view says
pub record HasFrame (flows : List (Name × Flow)) (pool : Nodes) (fs : Frames) (i : ℕ) (v : View) : Type 0 where
  pub frame : Frame
  pub plan : FlowPlan
  pub there : fs i ≡ Some frame
  pub keeps : Keeps flows plan pool frame v

module _ (flows : List (Name × Flow)) (pool : Nodes) (fs : Frames) (theirs : AreTheirs pool fs)
    (told : ℕ → Option View) where
  -- a job with a result: the number of its instance, and its step's number and place there
  pub record Housed : Type 0 where
    pub number : ℕ
    pub job : ℕ × Place
    pub view : View
    pub is_told : told number ≡ Some view
    pub own : HasFrame flows pool fs number view
    pub has : HasResult view job

  abbrev pub spot : Housed → ℕ × (ℕ × Place)
  spot h = (h.number, h.job)

  abbrev pub outputs : Housed → ℕ
  outputs h = output_count h.view.flow h.job.0

  abbrev region : Housed → ℕ
  region h = number_of h.own.frame.region

  -- those of one region are of one instance
  same-number : (a b : Housed) → region a ≡ region b → a.number ≡ b.number
  same-number a b e = theirs.apart a.number b.number a.own.frame b.own.frame a.own.there b.own.there e

  same-view : (a b : Housed) → region a ≡ region b → a.view ≡ b.view
  same-view a b e = same_Some a.view b.view (sym a.is_told ∙ ap told (same-number a b e) ∙ b.is_told)

  module _ (u : Housed) (hs : List Housed) (same : (h : Housed) → In h hs → region h ≡ region u) where
    abbrev jobs : List (ℕ × Place)
    jobs = made hs (λ h i. h.job)

    jobs-apart : Apart spot hs → Apart (λ j. j) jobs
    jobs-apart a =
        apart-made spot (λ j. j) hs (λ h i. h.job)
        (λ x y i k e. λ n. (same-number x y (same x i ∙ sym (same y k)) n, e n)) a

    have-results : Apart spot hs → HaveResults u.view jobs
    have-results a = record {
      different = all-different jobs (jobs-apart a);
      each = all-in (HasResult u.view) jobs
          (λ j i.
          let w = of-made hs (λ h k. h.job) j i in
          subst (HasResult u.view) (sym w.2)
          (subst (λ v. HasResult v w.0.job) (same-view w.0 u (same w.0 w.1)) w.0.has));
    }

    one-region : Apart spot hs → sum_by outputs hs ≤ length (stored_in (region_at pool (region u)))
    one-region a =
        subst (λ n. n ≤ length (stored_in (region_at pool (region u))))
        (sym
        (sum-made outputs (λ j. output_count u.view.flow j.0) hs (λ h i. h.job)
        (λ h i. ap (λ (v : View). output_count v.flow h.job.0) (same-view h u (same h i)))))
        (outputs-have_nodes flows u.own.plan pool u.own.frame u.view u.own.keeps jobs (have-results a))

  -- the outputs of different jobs
  pub all-housed : (hs : List Housed) → Apart spot hs → sum_by outputs hs ≤ live_count pool.regions
  all-housed hs a =
      by-numbers region outputs (λ c. length (stored_in c)) pool.regions hs
      (λ h i. live-low pool h.own.frame.region h.own.keeps.live)
      (λ n c e.
      of-number n c e (of_number region outputs n hs)
      (λ h i. eqb-true (region h) n (of-filter (λ b. region b == n) h hs i).1)
      (apart-filter (λ b. region b == n) spot hs a))
    where
      of-number : (n : ℕ) (c : _) → slice_get pool.regions n ≡ Some c → (us : List Housed)
          → ((h : Housed) → In h us → region h ≡ n) → Apart spot us → sum_by outputs us ≤ length (stored_in c)
      of-number n c e [] same b = omega arith
      of-number n c e (u ∷ us) same b =
          let here = same u (inl refl) in
          subst (λ o. sum_by outputs (u ∷ us) ≤ length (stored_in o))
          (ap (region_at pool) here ∙ get_or_from_slice_get pool.regions n c None e)
          (one-region u (u ∷ us) (λ h i. same h i ∙ sym here) b)
