-- Steps by rank: what feeds a step was taken before it, so that its depths stay as they are when more steps are taken.
use Rattle.std.proofs.Common.{◌≡◌, ◌∙◌, refl, sym, ap, subst, ℕ, zero, suc, ◌<◌, ◌≤◌, ◌-◌, List, [], ◌∷◌, ◌++◌, length, map, flat_map, Bool, true, false, not, ◌&&◌, ◌||◌, Option, Some, None, unwrap_or, arith, slice_get, if◌then◌else◌}
use Rattle.std.proofs.Math.Path.{fun_ext}
use Rattle.std.proofs.lemmas.Bool.{and_parts, not-true, or_parts}
use Rattle.std.specs.Prelude.{filter}
use Rattle.std.specs.List.{list_all, find}
use Rattle.std.specs.Option.{option_map_or}
use Rattle.tv_lemmas.proofs.Numbers.{none-below}
use Rattle.tv_value.specs.Values.{Name}
use Rattle.tv_value.specs.Orders.{same_name, named}
use Rattle.tv_value.proofs.NameLemmas.{same_name-is, same_name-sym}
use Rattle.tv_flow.specs.Flows.{Link, input, output, Feed, link, merge, constant, StepInput, Step}
use Rattle.tv_model.specs.instance.Ranks.{link_step, feed_steps, earlier_steps, is_among, by_rank, ranked}
use Rattle.tv_model.specs.instance.CheckedDepths.{StepDepths, link_depth, merged_depth, feed_depth, port_depth}

among-left : (ns ms : List Name) (n : Name) → is_among (ns ++ ms) n ≡ false → is_among ns n ≡ false
among-left [] ms n h = refl
among-left (k ∷ ns) ms n h = let p = or_parts (same_name n k) (is_among (ns ++ ms) n) h in ap (λ b. b || is_among ns n) p.0 ∙ among-left ns ms n p.1

among-right : (ns ms : List Name) (n : Name) → is_among (ns ++ ms) n ≡ false → is_among ms n ≡ false
among-right [] ms n h = h
among-right (k ∷ ns) ms n h = among-right ns ms n (or_parts (same_name n k) (is_among (ns ++ ms) n) h).1

-- ---- a step that doesn't feed another may be taken without changing that one's depths

module _ (given : List (Name × ℕ)) (so : List StepDepths) (x : StepDepths) where
  link-stays : (l : Link) → is_among (link_step l) x.step ≡ false → link_depth given (x ∷ so) l ≡ link_depth given so l
  link-stays (input n) h = refl
  link-stays (output s p) h =
      let apart : same_name s x.step ≡ false = same_name-sym s x.step ∙ (or_parts (same_name x.step s) false h).0 in
      ap (λ b. option_map_or (λ m. unwrap_or (named p m.outputs) 1) (if b then Some x else find (λ m. same_name s m.step) so) 1) apart

  links-stay : (ls : List Link) → is_among (flat_map link_step ls) x.step ≡ false → map (link_depth given (x ∷ so)) ls ≡ map (link_depth given so) ls
  links-stay [] h = refl
  links-stay (l ∷ ls) h =
      ap (λ d. d ∷ map (link_depth given (x ∷ so)) ls) (link-stays l (among-left (link_step l) (flat_map link_step ls) x.step h))
      ∙ ap (λ ds. link_depth given so l ∷ ds) (links-stay ls (among-right (link_step l) (flat_map link_step ls) x.step h))

  feed-stays : (f : Feed) → is_among (feed_steps f) x.step ≡ false → feed_depth given (x ∷ so) f ≡ feed_depth given so f
  feed-stays (link l) h = link-stays l h
  feed-stays (merge ls) h = ap merged_depth (links-stay ls h)
  feed-stays (constant v) h = refl

  ports-stay : (is : List (Name × StepInput)) → is_among (flat_map (λ i. feed_steps i.1.from) is) x.step ≡ false → (p : Name) → option_map_or (λ i. feed_depth given (x ∷ so) i.from - i.depth) (named p is) 0 ≡ option_map_or (λ i. feed_depth given so i.from - i.depth) (named p is) 0
  ports-stay [] h p = refl
  ports-stay (i ∷ is) h p =
      by_test (same_name p i.0) (ap (λ d. d - i.1.depth) (feed-stays i.1.from (among-left (feed_steps i.1.from) (flat_map (λ j. feed_steps j.1.from) is) x.step h)))
      (ports-stay is (among-right (feed_steps i.1.from) (flat_map (λ j. feed_steps j.1.from) is) x.step h) p)
    where
      by_test : (b : Bool) → feed_depth given (x ∷ so) i.1.from - i.1.depth ≡ feed_depth given so i.1.from - i.1.depth → option_map_or (λ j. feed_depth given (x ∷ so) j.from - j.depth) (named p is) 0 ≡ option_map_or (λ j. feed_depth given so j.from - j.depth) (named p is) 0 → option_map_or (λ j. feed_depth given (x ∷ so) j.from - j.depth) (if b then Some i.1 else named p is) 0 ≡ option_map_or (λ j. feed_depth given so j.from - j.depth) (if b then Some i.1 else named p is) 0
      by_test true e f = e
      by_test false e f = f

  pub port-stays : (s : Step) → is_among (earlier_steps s) x.step ≡ false → port_depth given (x ∷ so) s ≡ port_depth given so s
  port-stays s h = fun_ext (ports-stay s.inputs (among-left (flat_map (λ i. feed_steps i.1.from) s.inputs) s.after x.step h))

-- ---- the order of ranks

-- each step is new, and all that come before it are among those taken
abbrev pub IsOrdered : List Name → List (Name × Step) → Type 0
IsOrdered done [] = Unit {0}
IsOrdered done (r ∷ rs) = (list_all (is_among done) (earlier_steps r.1) ≡ true) × ((is_among done r.0 ≡ false) × IsOrdered (r.0 ∷ done) rs)

abbrev are_new : List Name → List (Name × Step) → Bool
are_new done steps = list_all (λ t. not (is_among done t.0)) steps

found-passes : (p : Name × Step → Bool) (q : Name × Step → Bool) (steps : List (Name × Step)) (s : Name × Step) → find p steps ≡ Some s → list_all q steps ≡ true → (p s ≡ true) × (q s ≡ true)
found-passes p q [] s e h = cc
found-passes p q (t ∷ steps) s e h = by_test (p t) refl e (found-passes p q steps s)
  where
    by_test : (b : Bool) → p t ≡ b → (if b then Some t else find p steps) ≡ Some s → (find p steps ≡ Some s → list_all q steps ≡ true → (p s ≡ true) × (q s ≡ true)) → (p s ≡ true) × (q s ≡ true)
    by_test true g f k = let a : t ≡ s = cc in (subst (λ u. p u ≡ true) a g, subst (λ u. q u ≡ true) a (and_parts _ _ h).0)
    by_test false g f k = k f (and_parts _ _ h).1

still-new : (done : List Name) (s : Name × Step) (steps : List (Name × Step)) → are_new done steps ≡ true → are_new (s.0 ∷ done) (filter (λ t. not (same_name s.0 t.0)) steps) ≡ true
still-new done s [] h = refl
still-new done s (t ∷ steps) h = by_test (same_name s.0 t.0) refl (still-new done s steps (and_parts _ _ h).1)
  where
    by_test : (b : Bool) → same_name s.0 t.0 ≡ b → are_new (s.0 ∷ done) (filter (λ u. not (same_name s.0 u.0)) steps) ≡ true → are_new (s.0 ∷ done) (if not b then t ∷ filter (λ u. not (same_name s.0 u.0)) steps else filter (λ u. not (same_name s.0 u.0)) steps) ≡ true
    by_test true e k = k
    by_test false e k =
        let a : same_name t.0 s.0 ≡ false = same_name-sym t.0 s.0 ∙ e in
        ap (λ b. not (b || is_among done t.0) && are_new (s.0 ∷ done) (filter (λ u. not (same_name s.0 u.0)) steps)) a
        ∙ (ap (λ b. b && are_new (s.0 ∷ done) (filter (λ u. not (same_name s.0 u.0)) steps)) (and_parts _ _ h).0 ∙ k)

by_rank-ordered : (n : ℕ) (done : List Name) (steps : List (Name × Step)) → are_new done steps ≡ true → IsOrdered done (by_rank n done steps)
by_rank-ordered zero done steps h = tt
by_rank-ordered (suc n) done steps h = by_found (find (λ s. list_all (is_among done) (earlier_steps s.1)) steps) refl (λ s. by_rank-ordered n (s.0 ∷ done) (filter (λ t. not (same_name s.0 t.0)) steps) (still-new done s steps h))
  where
    by_found : (o : Option (Name × Step)) → find (λ s. list_all (is_among done) (earlier_steps s.1)) steps ≡ o → ((s : Name × Step) → IsOrdered (s.0 ∷ done) (by_rank n (s.0 ∷ done) (filter (λ t. not (same_name s.0 t.0)) steps))) → IsOrdered done (option_map_or (λ s. s ∷ by_rank n (s.0 ∷ done) (filter (λ t. not (same_name s.0 t.0)) steps)) o [])
    by_found None e k = tt
    by_found (Some s) e k =
        let p = found-passes (λ t. list_all (is_among done) (earlier_steps t.1)) (λ t. not (is_among done t.0)) steps s e h in
        (p.0, (not-true _ p.1, k s))

all-new : (steps : List (Name × Step)) → are_new [] steps ≡ true
all-new [] = refl
all-new (s ∷ steps) = all-new steps

pub ranked-ordered : (steps : List (Name × Step)) → IsOrdered [] (ranked steps)
ranked-ordered steps = by_rank-ordered (length steps) [] steps (all-new steps)

-- ---- what isn't taken feeds nothing that is

pub not-among : (done es : List Name) (n : Name) → list_all (is_among done) es ≡ true → is_among done n ≡ false → is_among es n ≡ false
not-among done [] n h f = refl
not-among done (e ∷ es) n h f = by_test (same_name n e) refl (not-among done es n (and_parts _ _ h).1 f)
  where
    by_test : (b : Bool) → same_name n e ≡ b → is_among es n ≡ false → (b || is_among es n) ≡ false
    by_test true g k = let t : true ≡ false = sym (subst (λ m. is_among done m ≡ true) (sym (same_name-is n e g)) (and_parts _ _ h).0) ∙ f in cc
    by_test false g k = k

new-later : (done : List Name) (rs : List (Name × Step)) (i : ℕ) (r : Name × Step) → IsOrdered done rs → slice_get rs i ≡ Some r → is_among done r.0 ≡ false
new-later done [] i r o e = cc
new-later done (x ∷ rs) zero r o e = let p : x ≡ r = cc in subst (λ (u : Name × Step). is_among done u.0 ≡ false) p o.1.0
new-later done (x ∷ rs) (suc i) r o e = (or_parts (same_name r.0 x.0) (is_among done r.0) (new-later (x.0 ∷ done) rs i r o.1.1 e)).1

pub feeds-none : (done : List Name) (rs : List (Name × Step)) (j i : ℕ) (t r : Name × Step) → IsOrdered done rs → slice_get rs j ≡ Some t → slice_get rs i ≡ Some r → j ≤ i → is_among (earlier_steps t.1) r.0 ≡ false
feeds-none done [] j i t r o e f le = cc
feeds-none done (x ∷ rs) zero i t r o e f le =
    let p : x ≡ t = cc in
    not-among done (earlier_steps t.1) r.0 (subst (λ (u : Name × Step). list_all (is_among done) (earlier_steps u.1) ≡ true) p o.0) (new-later done (x ∷ rs) i r o f)
feeds-none done (x ∷ rs) (suc j) zero t r o e f le = absurd (short j le)
  where
    short : (n : ℕ) → suc n ≤ 0 → ⊥
    short n p = omega arith
feeds-none done (x ∷ rs) (suc j) (suc i) t r o e f le = feeds-none (x.0 ∷ done) rs j i t r o.1.1 e f (omega arith)

-- the names of two steps of different ranks differ
pub ranks-apart : (done : List Name) (rs : List (Name × Step)) (j i : ℕ) (t r : Name × Step) → IsOrdered done rs → slice_get rs j ≡ Some t → slice_get rs i ≡ Some r → j < i → same_name r.0 t.0 ≡ false
ranks-apart done [] j i t r o e f lt = cc
ranks-apart done (x ∷ rs) j zero t r o e f lt = none-below j lt
ranks-apart done (x ∷ rs) zero (suc i) t r o e f lt =
    let p : x ≡ t = cc in
    subst (λ (u : Name × Step). same_name r.0 u.0 ≡ false) p (or_parts (same_name r.0 x.0) (is_among done r.0) (new-later (x.0 ∷ done) rs i r o.1.1 f)).0
ranks-apart done (x ∷ rs) (suc j) (suc i) t r o e f lt = ranks-apart (x.0 ∷ done) rs j i t r o.1.1 e f (omega arith)
