-- In the meaning of every flow the jobs inside a job stand before the later jobs of its instance.
use Rattle.std.specs.Prelude.{◌≡◌, refl, ℕ, zero, suc, ◌⊎◌, List, [], ◌∷◌, ◌++◌, length, Option, Some, None, flat_map}
use Rattle.std.specs.Option.{option_map_or}
use Rattle.std.proofs.Common.{sym, ap, subst, ◌∙◌, inl, inr, append_assoc, append-nil}
use Rattle.tv_lemmas.specs.Members.{Each, In}
use Rattle.tv_lemmas.proofs.Members.{in-append, in-left, in-right, of-flat}
use Rattle.tv_lemmas.proofs.Cases.{on_either}
use Rattle.tv_value.specs.Values.{Name, JobName, Value}
use Rattle.tv_flow.specs.Flows.{Flow}
use Rattle.tv_gate.specs.Outcomes.{Giving}
use Rattle.tv_model.specs.Jobs.{Job}
use Rattle.tv_model.specs.Made.{Meaning, Opened}
use Rattle.tv_model.specs.Meanings.{jobs_with_inside, instance_meaning, no_meaning, flow_meaning, meaning}
use Rattle.tv_model.specs.instance.Ranks.{ranked}
use Rattle.tv_model.proofs.Fed.{named_map_or}
use Rattle.tv_model.proofs.Earlier.{job_list}
use Rattle.tv_model.proofs.Kept.{InsideIs}
use Rattle.tv_model.specs.JobOrder.{Apart}
use Rattle.tv_model.proofs.Formed.{own-apart, steps-formed, none-formed}
use Rattle.tv_model.proofs.Instances.{given_of, given-free, steps_of, ranked-fresh}
use Rattle.tv_model.proofs.Whole.{IsWhole, StepsHave, not-longer, same-head, one-whole, rank-each, nothing-whole}
use Rattle.tv_history.proofs.OneWorker.{Before, before-left, IsLaidOut}

pub of-before : {A : Type 0} (x y : A) (xs ys : List A) → Before x y (xs ++ ys) → Before x y xs ⊎ ((In x xs × In y ys) ⊎ Before x y ys)
of-before x y [] ys b = inr (inr b)
of-before {A = A} x y (z ∷ xs) ys (inl b) = on_either (in-append y xs ys b.1) (λ i. inl (inl (b.0, i))) (λ i. inr (inl (inl (sym b.0), i)))
of-before {A = A} x y (z ∷ xs) ys (inr b) = by (of-before x y xs ys b)
  where
    by : Before x y xs ⊎ ((In x xs × In y ys) ⊎ Before x y ys) → Before x y (z ∷ xs) ⊎ ((In x (z ∷ xs) × In y ys) ⊎ Before x y ys)
    by (inl c) = inl (inr c)
    by (inr (inl c)) = inr (inl (inr c.0, c.1))
    by (inr (inr c)) = inr (inr c)

pub before-first : {A : Type 0} (x y : A) (xs ys : List A) → Before x y xs → Before x y (xs ++ ys)
before-first x y [] ys b = absurd b
before-first x y (z ∷ xs) ys (inl b) = inl (b.0, in-left y xs ys b.1)
before-first x y (z ∷ xs) ys (inr b) = inr (before-first x y xs ys b)

pub before-cross : {A : Type 0} (x y : A) (xs ys : List A) → In x xs → In y ys → Before x y (xs ++ ys)
before-cross x y [] ys h k = absurd h
before-cross x y (z ∷ xs) ys (inl p) k = inl (sym p, in-right y xs ys k)
before-cross x y (z ∷ xs) ys (inr h) k = inr (before-cross x y xs ys h k)

pub before-rest : {A : Type 0} (x y : A) (xs ys : List A) → Before x y ys → Before x y (xs ++ ys)
before-rest x y [] ys b = b
before-rest x y (z ∷ xs) ys b = inr (before-rest x y xs ys b)

module _ (gives : Giving) (D : ℕ → Type 0) where
  -- a meaning whose jobs are laid out
  abbrev pub IsLaid : Meaning → JobName → Type 0
  IsLaid m I = IsWhole gives D m I × IsLaidOut m.jobs

  module _ (I : JobName) where
    pub record IsBlock (o : Opened) : Type 0 where
      pub key : Name × List ℕ
      pub named : o.job.name ≡ I ++ key ∷ []
      pub in_instance : o.job.instance ≡ I
      pub inside_it : InsideIs IsLaid o.job o.inside

    inner : (o : Opened) → IsBlock o → (n : Meaning) → o.inside ≡ Some n → IsLaid n o.job.name
    inner o b n e = (subst (λ p. InsideIs IsLaid o.job p) e b.inside_it).0

    -- the name of a job inside is longer
    longer-inside : (o : Opened) → IsBlock o → (n : Meaning) → o.inside ≡ Some n → (j : Job) → In j n.jobs → (c : Name × List ℕ) × (r : JobName) × (j.name ≡ o.job.name ++ c ∷ r)
    longer-inside o b n e j i =
        let f = (inner o b n e).0.jobs j i in
        split f.below.0 f.key (f.named ∙ ap (λ x. x ++ f.key ∷ []) f.below.1 ∙ append_assoc o.job.name f.below.0 (f.key ∷ []))
      where
        split : (r : JobName) (k : Name × List ℕ) → j.name ≡ o.job.name ++ (r ++ k ∷ []) → (c : Name × List ℕ) × (r : JobName) × (j.name ≡ o.job.name ++ c ∷ r)
        split [] k p = (k, [], p)
        split (c ∷ r) k p = (c, r ++ k ∷ [], p)

    in-block : (o : Opened) → IsBlock o → (j : Job) → In j (jobs_with_inside o) → (r : JobName) × (j.name ≡ o.job.name ++ r)
    in-block o b j (inl p) = ([], ap (λ (x : Job). x.name) p ∙ sym (append-nil o.job.name))
    in-block o b j (inr i) = by o.inside refl i
      where
        by : (p : Option Meaning) → o.inside ≡ p → In j (option_map_or (λ (x : Meaning). x.jobs) p []) → (r : JobName) × (j.name ≡ o.job.name ++ r)
        by None e k = absurd k
        by (Some n) e k = let f = longer-inside o b n e j k in (f.0 ∷ f.1, f.2)

    laid-block : (o : Opened) → IsBlock o → (k j x : Job) → Before k j (jobs_with_inside o) → k.instance ≡ j.instance → In x (jobs_with_inside o) → (r : JobName) → x.name ≡ k.name ++ r → Before x j (jobs_with_inside o)
    laid-block o b k j x q s i r p = by o.inside refl q i
      where
        by : (w : Option Meaning) → o.inside ≡ w → Before k j (o.job ∷ option_map_or (λ (x : Meaning). x.jobs) w []) → In x (o.job ∷ option_map_or (λ (x : Meaning). x.jobs) w []) → Before x j (o.job ∷ option_map_or (λ (x : Meaning). x.jobs) w [])
        by None e (inl c) h = absurd c.1
        by None e (inr c) h = absurd c
        by (Some n) e (inl c) h =
            let f = (inner o b n e).0.jobs j c.1 in
            absurd (not-longer I b.key f.below.0 (sym b.in_instance ∙ ap (λ (z : Job). z.instance) c.0 ∙ s ∙ f.below.1 ∙ ap (λ z. z ++ f.below.0) b.named ∙ append_assoc I (b.key ∷ []) f.below.0))
        by (Some n) e (inr c) (inl h) =
            let f = longer-inside o b n e k (before-left k j n.jobs c) in
            absurd (not-longer o.job.name f.0 (f.1 ++ r) (ap (λ (z : Job). z.name) (sym h) ∙ p ∙ ap (λ z. z ++ r) f.2 ∙ append_assoc o.job.name (f.0 ∷ f.1) r))
        by (Some n) e (inr c) (inr h) = inr ((inner o b n e).1 k j x c s h r p)

    -- names of two blocks that begin one name
    apart-blocks : (o u : Opened) → IsBlock o → IsBlock u → (j x : Job) → In j (jobs_with_inside o) → In x (jobs_with_inside u) → (r : JobName) → x.name ≡ j.name ++ r → o.job.name ≡ u.job.name
    apart-blocks o u b c j x h k r p =
        let f = in-block o b j h in
        let g = in-block u c x k in
        same-head I b.key c.key o.job.name u.job.name (f.0 ++ r) g.0 b.named c.named (sym (append_assoc o.job.name f.0 r) ∙ ap (λ z. z ++ r) (sym f.1) ∙ sym p ∙ g.1)

    pub laid-blocks : (os : List Opened) → Apart (λ o. o.job.name) os → ((o : Opened) → In o os → IsBlock o) → IsLaidOut (flat_map jobs_with_inside os)
    laid-blocks [] a b k j x q s i r p = absurd q
    laid-blocks (o ∷ os) a b k j x q s i r p =
        by (of-before k j (jobs_with_inside o) (flat_map jobs_with_inside os) q) (in-append x (jobs_with_inside o) (flat_map jobs_with_inside os) i) (λ c h. laid-blocks os a.1 (λ u g. b u (inr g)) k j x c s h r p)
      where
        other : In k (jobs_with_inside o) → In x (flat_map jobs_with_inside os) → ⊥
        other h g = let u = of-flat jobs_with_inside x os g in a.0 u.0 u.1 (sym (apart-blocks o u.0 (b o (inl refl)) (b u.0 (inr u.1)) k x h u.2 r p))

        same : In k (flat_map jobs_with_inside os) → In x (jobs_with_inside o) → ⊥
        same h g = let u = of-flat jobs_with_inside k os h in a.0 u.0 u.1 (apart-blocks u.0 o (b u.0 (inr u.1)) (b o (inl refl)) k x u.2 g r p)

        by : Before k j (jobs_with_inside o) ⊎ ((In k (jobs_with_inside o) × In j (flat_map jobs_with_inside os)) ⊎ Before k j (flat_map jobs_with_inside os)) → In x (jobs_with_inside o) ⊎ In x (flat_map jobs_with_inside os) → (Before k j (flat_map jobs_with_inside os) → In x (flat_map jobs_with_inside os) → Before x j (flat_map jobs_with_inside os)) → Before x j (jobs_with_inside o ++ flat_map jobs_with_inside os)
        by (inl c) (inl h) rec = before-first x j (jobs_with_inside o) (flat_map jobs_with_inside os) (laid-block o (b o (inl refl)) k j x c s h r p)
        by (inl c) (inr h) rec = absurd (other (before-left k j (jobs_with_inside o) c) h)
        by (inr (inl c)) (inl h) rec = before-cross x j (jobs_with_inside o) (flat_map jobs_with_inside os) h c.1
        by (inr (inl c)) (inr h) rec = absurd (other c.0 h)
        by (inr (inr c)) (inl h) rec = absurd (same (before-left k j (flat_map jobs_with_inside os) c) h)
        by (inr (inr c)) (inr h) rec = before-rest x j (jobs_with_inside o) (flat_map jobs_with_inside os) (rec c h)

  -- ---- every flow

  instance-laid : (inside : Name → JobName → List (Name × Value) → Meaning) → ((f : Name) (n : JobName) (vs : List (Name × Value)) → IsLaid (inside f n vs) n) → (I : JobName) (flow : Flow) (vs : List (Name × Value)) → StepsHave gives D flow → IsLaid (instance_meaning gives inside I flow vs) I
  instance-laid inside is I flow vs w =
      let formed = steps-formed gives inside I IsLaid is D (given_of flow vs) (given-free flow vs) [] (none-formed gives inside I IsLaid is D (given_of flow vs) (given-free flow vs)) (ranked flow.steps) (ranked-fresh flow.steps) (rank-each gives D (λ s. D s.1.jobs) (length flow.steps) [] flow.steps w) in
      let ms = steps_of gives inside I flow vs in
      (one-whole gives D inside (λ f n us. (is f n us).0) I flow vs w, laid-blocks I (job_list ms) (own-apart gives inside I IsLaid is D (given_of flow vs) (given-free flow vs) ms formed) (λ o i. let f = formed.jobs o i in record { key = (f.step, f.place); named = f.named; in_instance = f.in_instance; inside_it = f.inside_it }))

  pub flow-laid : (flows : List (Name × Flow)) → Each (λ f. StepsHave gives D f.1) flows → (depth : ℕ) (f : Name) (I : JobName) (vs : List (Name × Value)) → IsLaid (flow_meaning gives flows depth f I vs) I
  flow-laid flows h zero f I vs = (nothing-whole gives D I, λ k j x q s i r p. absurd q)
  flow-laid flows h (suc depth) f I vs =
      named_map_or (StepsHave gives D) (λ m. IsLaid m I) (λ flow. instance_meaning gives (flow_meaning gives flows depth) I flow vs) (λ flow w. instance-laid (flow_meaning gives flows depth) (λ g n us. flow-laid flows h depth g n us) I flow vs w) f flows no_meaning h (nothing-whole gives D I, λ k j x q s i r p. absurd q)
