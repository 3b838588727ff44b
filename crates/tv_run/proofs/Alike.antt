-- A run whose jobs and instances are those of another, but for rooms, frames and what is busy, has its names and fits what it fits.
use Rattle.std.specs.Option.{option_map_or}
use Rattle.std.specs.Prelude.{◌≡◌, refl, ℕ, ◌<◌, ◌≤◌, ◌++◌, true, List, [], ◌∷◌, Some, length, map, option_map, slice_get}
use Rattle.std.proofs.Common.{ap, subst, sym, ◌∙◌}
use Rattle.std.proofs.lemmas.Option.{slice_get_cases, slice_get_past, slice_get_within}
use Rattle.tv_lemmas.specs.Members.{In}
use Rattle.tv_lemmas.proofs.Cases.{on_either}
use Rattle.tv_lemmas.proofs.Lists.{get-within}
use Rattle.tv_value.specs.Values.{JobName, Name}
use Rattle.tv_flow.specs.Flows.{Flow}
use Rattle.tv_check.specs.RunViews.{run_view}
use Rattle.tv_frame_laws.specs.Theirs.{AreTheirs}
use Rattle.tv_instances.specs.seats.Seated.{spot_of}
use Rattle.tv_instances.specs.Forest.{AreNumbered, Instance, Instances, IsAt, names_by}
use Rattle.tv_run.specs.Looks.{AreLooks}
use Rattle.tv_run.specs.Standing.{Fits, IsKept, IsLife, frame_at, name_behind, names_from, names_of, numbered_as, numbers_of, opener_name, seats_of, steps_of}
use Rattle.tv_run.specs.declared.instances.Instance as code
use Rattle.tv_run.specs.declared.instances.Numbered.{Numbered}
use Rattle.tv_run.specs.declared.run.OpenRun.{OpenRun}

-- e has the flow, opener, jobs and seats of c
pub record IsAlike (c e : code.Instance) : Type 0 where
  pub flow : e.flow ≡ c.flow
  pub opener : e.opener ≡ c.opener
  pub jobs : e.jobs.items ≡ c.jobs.items
  pub seats : seats_of e ≡ seats_of c

-- each instance of s is alike to that of r
pub record AreAlike (r s : OpenRun) : Type 0 where
  pub run : s.run ≡ r.run
  pub looks : s.looks ≡ r.looks
  pub jobs : s.jobs.items ≡ r.jobs.items
  pub due : s.due ≡ r.due
  pub as_many : length s.instances.items ≡ length r.instances.items
  pub each :
      (i : ℕ) (c e : code.Instance) → slice_get r.instances.items i ≡ Some c → slice_get s.instances.items i ≡ Some e
      → IsAlike c e

module _ (r s : OpenRun) (a : AreAlike r s) where
  -- each has another there
  pub alike-there : (i : ℕ) (e : code.Instance) → slice_get s.instances.items i ≡ Some e
      → (c : code.Instance) × (slice_get r.instances.items i ≡ Some c) × IsAlike c e
  alike-there i e at =
      let c = get-within r.instances.items i
      (subst (λ n. i < n) a.as_many (slice_get_within s.instances.items i e at)) in
      (c.0, c.1, a.each i c.0 e c.1 at)

  pub numbers-alike : numbers_of s ≡ numbers_of r
  numbers-alike = ap (map numbered_as) a.jobs

  -- ---- names

  abbrev name_in : OpenRun → List JobName → ℕ → code.Instance → JobName
  name_in q so_far n c =
      opener_name so_far c.opener
      ++ option_map_or (λ t. spot_of (steps_of (run_view q.run) c) t ∷ []) (slice_get (seats_of c) n) []

  steps-alike : (c e : code.Instance) → IsAlike c e → steps_of (run_view s.run) e ≡ steps_of (run_view r.run) c
  steps-alike c e h =
      λ i. option_map_or (λ (f : Name × Flow). f.1.steps) (slice_get (run_view (a.run i)).flows (h.flow i)) []

  named-alike : (so_far : List JobName) (n : ℕ) (c e : code.Instance) → IsAlike c e
      → name_in s so_far n e ≡ name_in r so_far n c
  named-alike so_far n c e h =
      λ i. opener_name so_far (h.opener i)
      ++ option_map_or (λ t. spot_of (steps-alike c e h i) t ∷ []) (slice_get (h.seats i) n) []

  behind-alike : (so_far : List JobName) (k : Numbered) → name_behind s so_far k ≡ name_behind r so_far k
  behind-alike so_far k =
      on_either (slice_get_cases s.instances.items k.instance).1
      (λ w.
      let c = alike-there k.instance w.0 w.2 in
      ap (λ o. option_map_or (name_in s so_far k.number) o []) w.2
      ∙ named-alike so_far k.number c.0 w.0 c.2
      ∙ sym (ap (λ o. option_map_or (name_in r so_far k.number) o []) c.1))
      (λ w.
      ap (λ o. option_map_or (name_in s so_far k.number) o []) w.1
      ∙ sym
      (ap (λ o. option_map_or (name_in r so_far k.number) o [])
      (slice_get_past r.instances.items k.instance (subst (λ n. n ≤ k.instance) a.as_many w.0))))

  from-alike : (so_far : List JobName) (ks : List Numbered) → names_from s so_far ks ≡ names_from r so_far ks
  from-alike so_far [] = refl
  from-alike so_far (k ∷ ks) =
      ap (λ n. names_from s (so_far ++ n ∷ []) ks) (behind-alike so_far k)
      ∙ from-alike (so_far ++ name_behind r so_far k ∷ []) ks

  pub names-alike : names_of s ≡ names_of r
  names-alike = ap (names_from s []) a.jobs ∙ from-alike [] r.jobs.items

  -- ---- what it fits

  -- the rest, by frames and what is busy
  pub fits-alike :
      (xs : Instances) → Fits r xs
      → (
      (i : ℕ) (c e : code.Instance) (x : Instance) → slice_get r.instances.items i ≡ Some c
      → slice_get s.instances.items i ≡ Some e → IsAt xs i x → IsKept r i c x → IsLife s e x x.view)
      → AreTheirs s.pool (frame_at s)
      → ((i : ℕ) (e : code.Instance) → slice_get s.instances.items i ≡ Some e → e.is_busy ≡ true → In i s.busy.items)
      → ((i : ℕ) → In i s.busy.items → i < length s.instances.items)
      → Fits s xs
  fits-alike xs fits life theirs busy low = record {
    as_many = a.as_many ∙ fits.as_many;
    kept = kept;
    looks =
        subst (λ d. AreLooks (run_view d) s.looks.items) (sym a.run)
        (subst (λ l. AreLooks (run_view r.run) l) (sym (ap (λ l. l.items) a.looks)) fits.looks);
    numbered = subst (AreNumbered xs) (sym numbers-alike) fits.numbered;
    names_are = names-alike ∙ fits.names_are ∙ ap (names_by xs) (sym numbers-alike);
    behind = λ k n e m at there opener.
        let c = alike-there n.instance e there in
        fits.behind k n c.0 m (ap (λ l. slice_get l k) (sym a.jobs) ∙ at) c.1 (sym c.2.opener ∙ opener);
    theirs = theirs;
    busy = busy;
    busy_low = low;
    due_is = a.due ∙ fits.due_is;
  }
    where
      kept : (i : ℕ) (e : code.Instance) (x : Instance) → slice_get s.instances.items i ≡ Some e → IsAt xs i x
          → IsKept s i e x
      kept i e x at there =
          let c = alike-there i e at in
          let k = fits.kept i c.0 x c.1 there in
          record {
            flow =
                (λ j. option_map (λ (f : Name × Flow). f.1) (slice_get (run_view (a.run j)).flows (c.2.flow j))) ∙ k.flow;
            seats = c.2.seats ∙ k.seats;
            steps = k.steps;
            main = λ h. k.main (sym c.2.opener ∙ h);
            opener = λ m h. ap (λ l. slice_get l m) names-alike ∙ k.opener m (sym c.2.opener ∙ h);
            numbered = λ n m h.
                ap (λ l. slice_get l m) numbers-alike ∙ k.numbered n m (ap (λ l. slice_get l n) (sym c.2.jobs) ∙ h);
            as_many = λ now. ap length c.2.jobs ∙ k.as_many now;
            life = life i c.0 e x c.1 at there k;
          }
