-- A node is grounded where all that it waits for leads back, in so many steps, to what is known from the start.
use Rattle.std.specs.Prelude.{◌≡◌, ℕ, zero, suc, [], ◌∷◌}
use Rattle.tv_lemmas.specs.Members.{Each}
use Rattle.tv_value.specs.Values.{JobName}
use Rattle.tv_strategy.specs.Origins.{Origin, Known, at_start, by_job, by_level, needs_of}
use Rattle.tv_strategy.proofs.Each.{each-weaken}
use Rattle.tv_model.specs.Jobs.{Job}
use Rattle.tv_model.specs.Levels.{Level}

-- L and J hold of the lists and faults, and of the jobs, that there are
module _ (L : Level → Type 0) (J : Job → Type 0) (I : JobName) where
  -- it waits for a job or a list of the instance, and R holds of all that these wait for
  abbrev pub GroundedBy : (Origin → Type 0) → Origin → Known → Type 0
  GroundedBy R o at_start = o.needs ≡ []
  GroundedBy R o (by_job n) = (o.needs ≡ n ∷ []) × ((j : Job) × J j × (j.name ≡ n) × (j.instance ≡ I) × Each R j.waits)
  GroundedBy R o (by_level n) = (l : Level) × L l × (l.name ≡ n) × (l.instance ≡ I) × (o.needs ≡ needs_of l.sources) × Each R l.sources

  abbrev pub Grounded : ℕ → Origin → Type 0
  Grounded zero o = GroundedBy (λ s. ⊥) o o.known
  Grounded (suc k) o = GroundedBy (λ s. Grounded k s) o o.known

pub by-weaken : {L M : Level → Type 0} {J K : Job → Type 0} → ((l : Level) → L l → M l) → ((j : Job) → J j → K j) → (I : JobName) (R S : Origin → Type 0) → ((s : Origin) → R s → S s) → (o : Origin) (q : Known) → GroundedBy L J I R o q → GroundedBy M K I S o q
by-weaken f g I R S w o at_start h = h
by-weaken f g I R S w o (by_job n) h = let j = h.1 in (h.0, (j.0, g j.0 j.1, j.2, j.3, each-weaken R S w j.0.waits j.4))
by-weaken f g I R S w o (by_level n) h = (h.0, f h.0 h.1, h.2, h.3, h.4, each-weaken R S w h.0.sources h.5)

pub grounded-weaken : {L M : Level → Type 0} {J K : Job → Type 0} → ((l : Level) → L l → M l) → ((j : Job) → J j → K j) → (I : JobName) (k : ℕ) (o : Origin) → Grounded L J I k o → Grounded M K I k o
grounded-weaken f g I zero o h = by-weaken f g I (λ s. ⊥) (λ s. ⊥) (λ s a. a) o o.known h
grounded-weaken {L} {M} {J} {K} f g I (suc k) o h =
    by-weaken f g I (λ s. Grounded L J I k s) (λ s. Grounded M K I k s) (λ s a. grounded-weaken f g I k s a) o o.known h

pub grounded-more : (L : Level → Type 0) (J : Job → Type 0) (I : JobName) (k : ℕ) (o : Origin) → Grounded L J I k o → Grounded L J I (suc k) o
grounded-more L J I zero o h = by-weaken (λ l a. a) (λ j a. a) I (λ s. ⊥) (λ s. Grounded L J I zero s) (λ s a. absurd a) o o.known h
grounded-more L J I (suc k) o h =
    by-weaken (λ l a. a) (λ j a. a) I (λ s. Grounded L J I k s) (λ s. Grounded L J I (suc k) s) (λ s a. grounded-more L J I k s a) o o.known h
