-- What is worked out of a node follows from what is worked out of its items.
use Rattle.std.specs.List.{list_any}
use Rattle.std.specs.Prelude.{◌≡◌, refl, ◌⊎◌, ℕ, zero, suc, ◌+◌, ◌≤◌, ◌<◌, ◌||◌, Bool, true, false, List, [], ◌∷◌, ◌++◌, flat_map, length, map, Option, Some, None, option_and_then}
use Rattle.std.proofs.Common.{arith, sym, ap, ap₂, subst, ◌∙◌, append-nil, append_assoc, inl, inr}
use Rattle.std.proofs.lemmas.Bool.{and_parts, true≢false}
use Rattle.std.proofs.lemmas.Option.{none-some, same_Some}
use Rattle.tv_lemmas.specs.Members.{In}
use Rattle.tv_lemmas.proofs.Members.{in-map}
use Rattle.tv_lemmas.proofs.Numbers.{less-or_same}
use Rattle.tv_value.specs.Nested.{Place, at, children, count, item_at, leaf, list, no_trees, tree, trees_of}
use Rattle.tv_value.specs.Orders.{same_job}
use Rattle.tv_value.specs.Values.{ErrorDoc, JobName, Name}
use Rattle.tv_value.proofs.JobNameLemmas.{same_job_decides}
use Rattle.tv_flow.specs.Flows.{Step}
use Rattle.tv_lineage.specs.Kept.{Groups, IsBefore, Kept, KeptRecord, Part, all_marks, is_noted, marks_of, record_kept, records_of, result}
use Rattle.tv_lineage.specs.Lineages.{Record}
use Rattle.tv_lineage.specs.Touching.{Mark}
use Rattle.tv_lineage.specs.Views.{with_group, with_job}
use Rattle.tv_lineage.proofs.Seeing.{last as in-last}
use Rattle.tv_strategy.specs.Iterations.{Binding, Iteration, Iterations, job, passed}
use Rattle.tv_strategy.specs.Levels.{HasLevels}
use Rattle.tv_strategy.specs.Origins as Origins
use Rattle.tv_strategy.specs.Origins.{Origin}
use Rattle.tv_strategy.proofs.AtPlace.{ItemHasLevels, item-levels}
use Rattle.tv_model.specs.instance.Wholeness.{all_whole, is_whole, is_whole_at, item_whole_at, origin_at}
use Rattle.tv_model.specs.Lineages.{mark_or, used}
use Rattle.tv_model.specs.instance.Steps.{bound_values}
use Rattle.tv_model.specs.records.Recorded.{mark_of}
use Rattle.tv_frame.specs.Levels.{came, closed}
use Rattle.tv_traces.specs.OfNodes.{AreBuilt, IsBuilt, IsJobNoted, ShowFirst, Telling, Tells}
use Rattle.tv_traces.specs.Feeds.{job_at, node_marks, node_parts}
use Rattle.tv_traces.specs.Grouped.{AllAreGrouped, Grows, IsGrouped, ItemsAreGrouped, StandFor}
use Rattle.tv_traces.specs.Shapes.{BothHave, Shape, ShowAll, ShowsAt, ShowsKnown, job_here, no_shape, passed_by, shape_used, shapes_used}
use Rattle.tv_traces.specs.Noted.{HaveRecords, IsNoted, IsRecordOf}
use Rattle.tv_traces.specs.Walking.{bound_parts, fault_marks}
use Rattle.tv_traces.proofs.Groups.{bound-stands, grows-none, grows-on, grows-one, items-grow, node-stands, stand-both, stand-grow, stand-none}
use Rattle.tv_traces.proofs.GrowingLemmas.{in-front, in-end}

-- ---- notes

pub noted-none : (d : Place → Bool) (s : Name × Step) (it : Iteration) (rs : List Record) → IsNoted d s it rs rs
noted-none d s it rs = record { only = λ r i. inl i; kept = λ r i. i }

pub noted-on : (d : Place → Bool) (s : Name × Step) (it : Iteration) (a b c : List Record) → IsNoted d s it a b → IsNoted d s it b c → IsNoted d s it a c
noted-on d s it a b c h k = record {
  only = λ r i. by r (k.only r i);
  kept = λ r i. k.kept r (h.kept r i);
}
  where
    by : (r : Record) → In r b ⊎ IsRecordOf d s it r → In r a ⊎ IsRecordOf d s it r
    by r (inl i) = h.only r i
    by r (inr i) = inr i

any-noted : (n : JobName) (js : List KeptRecord) → list_any (λ (r : KeptRecord). same_job n r.job) js ≡ true → (r : KeptRecord) × In r js × (r.job ≡ n)
any-noted n [] e = absurd (no e)
  where
    no : false ≡ true → ⊥
    no h = cc
any-noted n (j ∷ js) e = by (same_job n j.job) refl e (any-noted n js)
  where
    by : (b : Bool) → same_job n j.job ≡ b → (b || list_any (λ (r : KeptRecord). same_job n r.job) js) ≡ true → (list_any (λ (r : KeptRecord). same_job n r.job) js ≡ true → (r : KeptRecord) × In r js × (r.job ≡ n)) → (r : KeptRecord) × In r (j ∷ js) × (r.job ≡ n)
    by true f g rec = (j, inl refl, sym ((same_job_decides n j.job).0 f))
    by false f g rec = let r = rec g in (r.0, inr r.1, r.2)

-- ---- what is known

-- a node at or inside this one, which stands at q, is known
record KnownInside (name : Place → JobName) (known : Origin → Bool) (q : Place) (t : Iteration) : Type 0 where
  place : Place
  node : Iteration
  there : at t place ≡ Some node
  is_known : known (origin_at name (q ++ place) node) ≡ true

at-after : (t : Iteration) (q p : Place) (u : Iteration) → at t q ≡ Some u → at t (q ++ p) ≡ at u p
at-after t [] p u e = ap (λ x. at x p) (same_Some t u e)
at-after t (i ∷ q) p u e = inner (item_at (children t) i) e (λ x k. at-after x q p u k)
  where
    inner : (o : Option Iteration) → option_and_then (λ x. at x q) o ≡ Some u → ((x : Iteration) → at x q ≡ Some u → at x (q ++ p) ≡ at u p) → option_and_then (λ x. at x (q ++ p)) o ≡ at u p
    inner None k rec = absurd (none-some u k)
    inner (Some x) k rec = rec x k

module _ (name : Place → JobName) (known : Origin → Bool) where
  whole-top : (t : Iteration) (q : Place) → is_whole name known q t ≡ is_whole_at name known q t []
  whole-top (leaf r e) q = refl
  whole-top (list r ts) q = refl

  item-whole : (ts : Iterations) (q : Place) (j i : ℕ) (r : Place) → item_whole_at name known q j ts i r ≡ true → (t : Iteration) × (item_at ts i ≡ Some t) × (is_whole_at name known (q ++ (j + i) ∷ []) t r ≡ true)
  item-whole no_trees q j i r h = absurd (true≢false (sym h))
  item-whole (tree t ts) q j zero r h = (t, refl, subst (λ k. is_whole_at name known (q ++ k ∷ []) t r ≡ true) (same j) h)
    where
      same : (j : ℕ) → j ≡ j + 0
      same j = omega arith
  item-whole (tree t ts) q j (suc i) r h =
      let x = item-whole ts q (suc j) i r h in (x.0, x.1, subst (λ k. is_whole_at name known (q ++ k ∷ []) x.0 r ≡ true) (later j i) x.2)
    where
      later : (j i : ℕ) → suc j + i ≡ j + suc i
      later j i = omega arith

  first-whole : (ts : Iterations) (q : Place) (i : ℕ) (r : Place) → item_whole_at name known q 0 ts i r ≡ true → (t : Iteration) × (item_at ts i ≡ Some t) × (is_whole_at name known (q ++ i ∷ []) t r ≡ true)
  first-whole ts q i r h = let x = item-whole ts q 0 i r h in (x.0, x.1, subst (λ k. is_whole_at name known (q ++ k ∷ []) x.0 r ≡ true) (from-none i) x.2)
    where
      from-none : (i : ℕ) → 0 + i ≡ i
      from-none i = omega arith

  -- where the node at a place is whole, something there is known
  whole-known : (r : Place) (t : Iteration) (q : Place) → is_whole_at name known q t r ≡ true → KnownInside name known q t
  whole-known r (leaf s e) q h = record { place = []; node = leaf s e; there = refl; is_known = subst (λ p. known (origin_at name p (leaf s e)) ≡ true) (sym (append-nil q)) h }
  whole-known [] (list s ts) q h = record {
    place = [];
    node = list s ts;
    there = refl;
    is_known = subst (λ p. known (origin_at name p (list s ts)) ≡ true) (sym (append-nil q)) (and_parts (known (origin_at name q (list s ts))) (all_whole name known q 0 ts) h).0;
  }
  whole-known (i ∷ r) (list s ts) q h =
      let x = first-whole ts q i r h in
      let k = whole-known r x.0 (q ++ i ∷ []) x.2 in
      record {
        place = i ∷ k.place;
        node = k.node;
        there = ap (option_and_then (λ u. at u k.place)) x.1 ∙ k.there;
        is_known = subst (λ p. known (origin_at name p k.node) ≡ true) (append_assoc q (i ∷ []) k.place) k.is_known;
      }

module _ (t : Telling) where
  name_of : Place → JobName
  name_of = job_at t.name

  -- ---- jobs

  -- a job that isn't settled
  pub job-open : (q : Place) (k : Kept) → t.settled q ≡ false → IsJobNoted t q k k
  job-open q k e = record {
    grows = grows-none k.groups;
    told = λ known s it w r b h. (noted-none t.settled s it (records_of k), λ f. absurd (true≢false (sym f ∙ e)));
  }

  -- a job that was noted already
  pub job-there : (q : Place) (k : Kept) → is_noted (job_at t.name q) k ≡ true → IsJobNoted t q k k
  job-there q k e = record {
    grows = grows-none k.groups;
    told = λ known s it w r b h.
        let x = any-noted (job_at t.name q) k.jobs e in
        (noted-none t.settled s it (records_of k), λ f. (record_kept k.groups x.0, in-map (record_kept k.groups) x.0 k.jobs x.1, x.2 ∙ ap (λ m. job_at m q) w.name));
  }

  -- a settled job that is noted now
  pub job-noted : (q : Place) (old new : Kept) (ps : List Part) → t.settled q ≡ true → AllAreGrouped t.flow old.groups t.shapes → ps ≡ bound_parts t.flow t.shapes t.ports t.begins q → new ≡ with_job (job_at t.name q) ps old → records_of new ≡ records_of old ++ record { job = job_at t.name q; used = all_marks old.groups ps } ∷ [] → IsJobNoted t q old new
  job-noted q old new ps is_settled all e f g = record {
    grows = subst (λ (k : Kept). Grows old.groups k.groups) (sym f) (grows-one ps old.groups);
    told = λ known s it w r b h.
        let own : record { job = job_at t.name q; used = all_marks old.groups ps } ≡ record { job = job_at s.0 q; used = map mark_of (flat_map used (bound_values s.1 b)) } =
        ap₂ (λ m us. record { job = job_at m q; used = us }) w.name (ap (all_marks old.groups) e ∙ (bound-stands old.groups t.flow t.shapes all t.ports t.begins q).marks ∙ w.told.jobs q r b h is_settled) in (
          record {
            only = λ x i. by s it (record { job = job_at t.name q; used = all_marks old.groups ps }) x (record { place = q; sources = r; binding = b; stands = h; is_settled = is_settled; is = own }) (in-end x _ (records_of old) (subst (In x) g i));
            kept = λ x i. subst (In x) (sym g) (in-front x _ (records_of old) i);
          },
          λ z. (record { job = job_at t.name q; used = all_marks old.groups ps }, subst (In _) (sym g) (in-last _ (records_of old)), ap (λ m. job_at m q) w.name),
        );
  }
    where
      by : (s : Name × Step) (it : Iteration) (y x : Record) → IsRecordOf t.settled s it y → In x (records_of old) ⊎ (x ≡ y) → In x (records_of old) ⊎ IsRecordOf t.settled s it x
      by s it y x h (inl i) = inl i
      by s it y x h (inr e) = inr (subst (IsRecordOf t.settled s it) (sym e) h)

  no-levels : (n : ℕ) → 0 < 0 → ⊥
  no-levels n h = omega arith

  more-levels : (n : ℕ) → suc n ≡ 0 → ⊥
  more-levels n h = omega arith

  pub job-built : (q : Place) (old new : Kept) (u : Shape) → u ≡ leaf (result []) job_here → IsJobNoted t q old new → IsBuilt t 0 q old new u
  job-built q old new u e h = subst (IsBuilt t 0 q old new) (sym e) (record { grows = h.grows; grouped = tt; told = λ known s it w n a l. by known s it w n a l })
    where
      shows : (r : List Origin) (b : Binding) (p : Place) → ShowsAt (leaf (result []) job_here) (leaf r (job b)) p
      shows r b [] = tt
      shows r b (i ∷ p) = tt

      by : (known : Origin → Bool) (s : Name × Step) (it : Iteration) → Tells t known s it → (n : Iteration) → at it q ≡ Some n → HasLevels n 0 → ShowsKnown (job_at s.0) known q (leaf (result []) job_here) n × IsNoted t.settled s it (records_of old) (records_of new) × HaveRecords t.settled s.0 q n (records_of new)
      by known s it w (leaf r (job b)) a l = let x = h.told known s it w r b a in (λ p whole. shows r b p, x.0, λ p src c g k. own s x.1 r b p src c g k)
        where
          own : (s : Name × Step) → (t.settled q ≡ true → (x : Record) × In x (records_of new) × (x.job ≡ job_at s.0 q)) → (r : List Origin) (b : Binding) (p : Place) (src : List Origin) (c : Binding) → at (leaf r (job b)) p ≡ Some (leaf src (job c)) → t.settled (q ++ p) ≡ true → (x : Record) × In x (records_of new) × (x.job ≡ job_at s.0 (q ++ p))
          own s x r b [] src c g k = let y = x (subst (λ z. t.settled z ≡ true) (append-nil q) k) in (y.0, y.1, y.2 ∙ ap (job_at s.0) (sym (append-nil q)))
          own s x r b (i ∷ p) src c g k = absurd (none-some _ g)
      by known s it w (leaf r (passed m d)) a l = absurd (no-levels 0 l)
      by known s it w (list r ts) a l = absurd l

  -- ---- faults

  pub fault-built : (levels : ℕ) (q : Place) (k : Kept) (leaf_number : ℕ) (u : Shape) (ms : List Mark) → u ≡ leaf (result []) (passed_by ms) → t.what q ≡ Some (came leaf_number) → ms ≡ fault_marks t.flow t.shapes t.ports t.begins leaf_number q → IsBuilt t (suc levels) q k k u
  fault-built levels q k l u ms e f g = subst (IsBuilt t (suc levels) q k k) (sym e) (record { grows = grows-none k.groups; grouped = tt; told = λ known s it w n a h. by known s it w n a h })
    where
      same_leaf : (i j : ℕ) → Some (came i) ≡ Some (came j) → i ≡ j
      same_leaf i j h = cc

      shows : (r : List Origin) (m : Option Origins.Mark) (d : ErrorDoc) (p : Place) → ms ≡ map mark_of (mark_or m []) → ShowsAt (leaf (result []) (passed_by ms)) (leaf r (passed m d)) p
      shows r m d [] h = h
      shows r m d (i ∷ p) h = h

      by : (known : Origin → Bool) (s : Name × Step) (it : Iteration) → Tells t known s it → (n : Iteration) → at it q ≡ Some n → HasLevels n (suc levels) → ShowsKnown (job_at s.0) known q (leaf (result []) (passed_by ms)) n × IsNoted t.settled s it (records_of k) (records_of k) × HaveRecords t.settled s.0 q n (records_of k)
      by known s it w (leaf r (job b)) a h = absurd (more-levels levels h)
      by known s it w (leaf r (passed m d)) a h = (
        λ p whole.
            let x = w.told.faults q r m d a whole in
            let same = same_leaf l x.0 (sym f ∙ x.1) in
            shows r m d p (g ∙ ap (λ i. fault_marks t.flow t.shapes t.ports t.begins i q) same ∙ x.2),
        noted-none t.settled s it (records_of k),
        λ p src c i z. none p src c i,
      )
        where
          none : (p : Place) (src : List Origin) (c : Binding) → at (leaf r (passed m d)) p ≡ Some (leaf src (job c)) → (x : Record) × In x (records_of k) × (x.job ≡ job_at s.0 (q ++ p))
          none [] src c i = absurd (cc)
          none (j ∷ p) src c i = absurd (none-some _ i)
      by known s it w (list r ts) a h = absurd (w.told.came_there q l (list r ts) f a)

  -- nothing is told of it, so nothing there is known
  pub none-built : (levels : ℕ) (q : Place) (k : Kept) (u : Shape) → u ≡ no_shape → t.what q ≡ None → IsBuilt t (suc levels) q k k u
  none-built levels q k u e f = subst (IsBuilt t (suc levels) q k k) (sym e) (record { grows = grows-none k.groups; grouped = tt; told = λ known s it w n a h. by known s it w n a h })
    where
      -- what is known there would be told
      unknown : (known : Origin → Bool) (s : Name × Step) (it : Iteration) → Tells t known s it → (n : Iteration) → at it q ≡ Some n → HasLevels n (suc levels) → (p : Place) (m : Iteration) → at n p ≡ Some m → known (origin_at (job_at s.0) (q ++ p) m) ≡ true → ⊥
      unknown known s it w (leaf r (job b)) a h [] m g k = more-levels levels h
      unknown known s it w (leaf r (passed n d)) a h [] m g k =
          let x = w.told.faults q r n d a (subst (λ z. known (origin_at (job_at s.0) z (leaf r (passed n d))) ≡ true) (append-nil q) (subst (λ z. known (origin_at (job_at s.0) (q ++ []) z) ≡ true) (sym (same_Some (leaf r (passed n d)) m g)) k)) in none-some _ (sym f ∙ x.1)
      unknown known s it w (list r ts) a h [] m g k =
          none-some _ (sym f ∙ w.told.lists q r ts a (subst (λ z. known (origin_at (job_at s.0) z (list r ts)) ≡ true) (append-nil q) (subst (λ z. known (origin_at (job_at s.0) (q ++ []) z) ≡ true) (sym (same_Some (list r ts) m g)) k)))
      unknown known s it w n a h (i ∷ p) m g k = let x = w.told.around q i p m (at-after it q (i ∷ p) n a ∙ g) k in none-some _ (sym f ∙ x.1)

      by : (known : Origin → Bool) (s : Name × Step) (it : Iteration) → Tells t known s it → (n : Iteration) → at it q ≡ Some n → HasLevels n (suc levels) → ShowsKnown (job_at s.0) known q no_shape n × IsNoted t.settled s it (records_of k) (records_of k) × HaveRecords t.settled s.0 q n (records_of k)
      by known s it w n a h = (
        λ r whole. let x = whole-known (job_at s.0) known r n q whole in absurd (unknown known s it w n a h x.place x.node x.there x.is_known),
        noted-none t.settled s it (records_of k),
        λ p src c g z. absurd (unknown known s it w n a h p (leaf src (job c)) g (w.told.settled_known (q ++ p) src c (at-after it q p n a ∙ g) z)),
      )

  -- ---- lists

  zero-less : (i : ℕ) → i < 0 → ⊥
  zero-less i h = omega arith

  more-none : (j : ℕ) → j + 0 ≡ j
  more-none j = omega arith

  none-more : (j : ℕ) → 0 + j ≡ j
  none-more j = omega arith

  later : (j i : ℕ) → suc j + i ≡ j + suc i
  later j i = omega arith

  items-more : (gs : Groups) (q : Place) (j : ℕ) (us : List Shape) (u : Shape) → ItemsAreGrouped (job_at t.name) gs q j (trees_of us) → IsGrouped (job_at t.name) gs (q ++ (j + length us) ∷ []) u → ItemsAreGrouped (job_at t.name) gs q j (trees_of (us ++ u ∷ []))
  items-more gs q j [] u h k = (subst (λ i. IsGrouped (job_at t.name) gs (q ++ i ∷ []) u) (more-none j) k, tt)
  items-more gs q j (v ∷ us) u h k = (h.0, items-more gs q (suc j) us u h.1 (subst (λ i. IsGrouped (job_at t.name) gs (q ++ i ∷ []) u) (sym (later j (length us))) k))

  used-more : (q : Place) (j : ℕ) (us : List Shape) (u : Shape) → shapes_used (job_at t.name) q j (trees_of (us ++ u ∷ [])) ≡ shapes_used (job_at t.name) q j (trees_of us) ++ shape_used (job_at t.name) (q ++ (j + length us) ∷ []) u
  used-more q j [] u = append-nil (shape_used (job_at t.name) (q ++ j ∷ []) u) ∙ ap (λ i. shape_used (job_at t.name) (q ++ i ∷ []) u) (sym (more-none j))
  used-more q j (v ∷ us) u =
      ap (λ l. shape_used (job_at t.name) (q ++ j ∷ []) v ++ l) (used-more q (suc j) us u)
      ∙ sym (append_assoc (shape_used (job_at t.name) (q ++ j ∷ []) v) (shapes_used (job_at t.name) q (suc j) (trees_of us)) (shape_used (job_at t.name) (q ++ (suc j + length us) ∷ []) u))
      ∙ ap (λ i. (shape_used (job_at t.name) (q ++ j ∷ []) v ++ shapes_used (job_at t.name) q (suc j) (trees_of us)) ++ shape_used (job_at t.name) (q ++ i ∷ []) u) (later j (length us))

  show-more : (name : Place → JobName) (known : Origin → Bool) (q : Place) (j : ℕ) (us : List Shape) (ns : Iterations) (u : Shape) (n : Iteration) → ShowFirst name known q j us ns → item_at ns (length us) ≡ Some n → ShowsKnown name known (q ++ (j + length us) ∷ []) u n → ShowFirst name known q j (us ++ u ∷ []) ns
  show-more name known q j [] no_trees u n h e k = absurd (none-some n e)
  show-more name known q j [] (tree m ns) u n h e k = (subst (ShowsKnown name known (q ++ j ∷ []) u) (sym (same_Some m n e)) (subst (λ i. ShowsKnown name known (q ++ i ∷ []) u n) (more-none j) k), tt)
  show-more name known q j (v ∷ us) no_trees u n h e k = absurd h
  show-more name known q j (v ∷ us) (tree m ns) u n h e k = (h.0, show-more name known q (suc j) us ns u n h.1 e (subst (λ i. ShowsKnown name known (q ++ i ∷ []) u n) (sym (later j (length us))) k))

  show-all : (name : Place → JobName) (known : Origin → Bool) (q : Place) (j : ℕ) (us : List Shape) (ns : Iterations) → ShowFirst name known q j us ns → length us ≡ count ns → all_whole name known q j ns ≡ true → ShowAll (trees_of us) ns
  show-all name known q j [] no_trees h e w = tt
  show-all name known q j [] (tree m ns) h e w = absurd (none (count ns) e)
    where
      none : (a : ℕ) → 0 ≡ suc a → ⊥
      none a e = omega arith
  show-all name known q j (u ∷ us) no_trees h e w = absurd h
  show-all name known q j (u ∷ us) (tree m ns) h e w =
      let p = and_parts (is_whole name known (q ++ j ∷ []) m) (all_whole name known q (suc j) ns) w in
      (h.0 [] (sym (whole-top name known m (q ++ j ∷ [])) ∙ p.0), show-all name known q (suc j) us ns h.1 (less (length us) (count ns) e) p.1)
    where
      less : (a b : ℕ) → suc a ≡ suc b → a ≡ b
      less a b e = omega arith

  show-item : (name : Place → JobName) (known : Origin → Bool) (q : Place) (j : ℕ) (us : List Shape) (ns : Iterations) → ShowFirst name known q j us ns → (i : ℕ) (n : Iteration) → i < length us → item_at ns i ≡ Some n → (u : Shape) × (item_at (trees_of us) i ≡ Some u) × ShowsKnown name known (q ++ (j + i) ∷ []) u n
  show-item name known q j [] ns h i n lt e = absurd (zero-less i lt)
  show-item name known q j (u ∷ us) no_trees h i n lt e = absurd h
  show-item name known q j (u ∷ us) (tree m ns) h zero n lt e = (u, refl, subst (λ k. ShowsKnown name known (q ++ k ∷ []) u n) (sym (more-none j)) (subst (ShowsKnown name known (q ++ j ∷ []) u) (same_Some m n e) h.0))
  show-item name known q j (u ∷ us) (tree m ns) h (suc i) n lt e =
      let x = show-item name known q (suc j) us ns h.1 i n (less i (length us) lt) e in (x.0, x.1, subst (λ k. ShowsKnown name known (q ++ k ∷ []) x.0 n) (later j i) x.2)
    where
      less : (a b : ℕ) → suc a < suc b → a < b
      less a b e = omega arith

  pub some-item : (ns : Iterations) (i : ℕ) → i < count ns → (n : Iteration) × (item_at ns i ≡ Some n)
  some-item no_trees i h = absurd (zero-less i h)
  some-item (tree n ns) zero h = (n, refl)
  some-item (tree n ns) (suc i) h = some-item ns i (less i (count ns) h)
    where
      less : (a b : ℕ) → suc a < suc b → a < b
      less a b e = omega arith

  pub at-item : (it : Iteration) (q : Place) (r : List Origin) (ns : Iterations) (i : ℕ) → at it q ≡ Some (list r ns) → at it (q ++ i ∷ []) ≡ item_at ns i
  at-item it [] r ns i e = itself (item_at (children it) i) ∙ ap (λ u. item_at (children u) i) (same_Some it (list r ns) e)
    where
      itself : (o : Option Iteration) → option_and_then (λ u. Some u) o ≡ o
      itself None = refl
      itself (Some u) = refl
  at-item it (j ∷ q) r ns i e = inner (item_at (children it) j) e (λ u k. at-item u q r ns i k)
    where
      inner : (o : Option Iteration) → option_and_then (λ u. at u q) o ≡ Some (list r ns) → ((u : Iteration) → at u q ≡ Some (list r ns) → at u (q ++ i ∷ []) ≡ item_at ns i) → option_and_then (λ u. at u (q ++ i ∷ [])) o ≡ item_at ns i
      inner None k rec = absurd (none-some _ k)
      inner (Some u) k rec = rec u k

  long-end : {A : Type 0} (xs : List A) (x : A) → length (xs ++ x ∷ []) ≡ suc (length xs)
  long-end [] x = refl
  long-end (y ∷ xs) x = ap suc (long-end xs x)

  item-leveled : (levels : ℕ) (o : Option Iteration) (n : Iteration) → ItemHasLevels o levels → o ≡ Some n → HasLevels n levels
  item-leveled levels o n h e = subst (λ p. ItemHasLevels p levels) e h

  before-one : (a b c : ℕ) → a ≡ suc b → a ≤ c → b ≤ c
  before-one a b c e h = omega arith

  below-one : (a b c : ℕ) → a ≡ suc b → a ≤ c → b < c
  below-one a b c e h = omega arith

  pub none-of_list : (levels : ℕ) (q : Place) (k : Kept) → AreBuilt t levels q k k [] []
  none-of_list levels q k = record {
    grows = grows-none k.groups;
    grouped = tt;
    parts = stand-none k.groups;
    told = λ known s it w r ns a l le. (tt, noted-none t.settled s it (records_of k), λ i p src b h e z. absurd (zero-less i h));
  }

  pub one-more : (levels : ℕ) (q : Place) (old mid new : Kept) (us : List Shape) (ps : List Part) (u : Shape) → AreBuilt t levels q old mid us ps → IsBuilt t levels (q ++ length us ∷ []) mid new u → AreBuilt t levels q old new (us ++ u ∷ []) (ps ++ node_parts t.name (q ++ length us ∷ []) u)
  one-more levels q old mid new us ps u h b = record {
    grows = grows-on old.groups mid.groups new.groups h.grows b.grows;
    grouped = items-more new.groups q 0 us u (items-grow (job_at t.name) mid.groups new.groups b.grows q 0 (trees_of us) h.grouped) (subst (λ i. IsGrouped (job_at t.name) new.groups (q ++ i ∷ []) u) (sym (none-more (length us))) b.grouped);
    parts =
        subst (StandFor new.groups (ps ++ node_parts t.name (q ++ length us ∷ []) u)) (ap (λ i. shapes_used (job_at t.name) q 0 (trees_of us) ++ shape_used (job_at t.name) (q ++ i ∷ []) u) (sym (none-more (length us))) ∙ sym (used-more q 0 us u))
        (stand-both new.groups ps (node_parts t.name (q ++ length us ∷ []) u) (shapes_used (job_at t.name) q 0 (trees_of us)) (node_marks t.name (q ++ length us ∷ []) u) (stand-grow mid.groups new.groups ps (shapes_used (job_at t.name) q 0 (trees_of us)) b.grows h.parts) (node-stands new.groups t.name (q ++ length us ∷ []) u b.grouped));
    told = λ known s it w r ns a l le.
        let long = long-end us u in
        let first = h.told known s it w r ns a l (before-one (length (us ++ u ∷ [])) (length us) (count ns) long le) in
        let n = some-item ns (length us) (below-one (length (us ++ u ∷ [])) (length us) (count ns) long le) in
        let last = b.told known s it w n.0 (at-item it q r ns (length us) a ∙ n.1) (item-leveled levels (item_at ns (length us)) n.0 (item-levels ns levels (length us) l) n.1) in (
          show-more (job_at s.0) known q 0 us ns u n.0 first.0 n.1 (subst (λ i. ShowsKnown (job_at s.0) known (q ++ i ∷ []) u n.0) (sym (none-more (length us))) last.0),
          noted-on t.settled s it (records_of old) (records_of mid) (records_of new) first.1 last.1,
          λ i p src c lt e z.
              by s r ns n.0 n.1 last.1.kept last.2 first.2 i p src c e z (less-or_same i (length us) (subst (λ k. i < k) long lt)),
        );
  }
    where
      by :
          (s : Name × Step) (r : List Origin) (ns : Iterations) (n : Iteration) → item_at ns (length us) ≡ Some n
          → ((x : Record) → In x (records_of mid) → In x (records_of new))
          → HaveRecords t.settled s.0 (q ++ length us ∷ []) n (records_of new)
          → ((i : ℕ) (p : Place) (src : List Origin) (c : Binding) → i < length us → at (list r ns) (i ∷ p) ≡ Some (leaf src (job c)) → t.settled (q ++ (i ∷ p)) ≡ true → (x : Record) × In x (records_of mid) × (x.job ≡ job_at s.0 (q ++ (i ∷ p))))
          → (i : ℕ) (p : Place) (src : List Origin) (c : Binding) → at (list r ns) (i ∷ p) ≡ Some (leaf src (job c)) → t.settled (q ++ (i ∷ p)) ≡ true → (i < length us) ⊎ (i ≡ length us)
          → (x : Record) × In x (records_of new) × (x.job ≡ job_at s.0 (q ++ (i ∷ p)))
      by s r ns n m kept have first i p src c e z (inl lt) = let x = first i p src c lt e z in (x.0, kept x.0 x.1, x.2)
      by s r ns n m kept have first i p src c e z (inr f) =
          let same : (q ++ length us ∷ []) ++ p ≡ q ++ (i ∷ p) = append_assoc q (length us ∷ []) p ∙ ap (λ k. q ++ (k ∷ p)) (sym f) in
          let x = have p src c (ap (option_and_then (λ v. at v p)) (sym (ap (item_at ns) f ∙ m)) ∙ e) (subst (λ y. t.settled y ≡ true) (sym same) z) in
          (x.0, x.1, x.2 ∙ ap (job_at s.0) same)

  pub list-built : (levels n : ℕ) (q : Place) (old mid new : Kept) (us : List Shape) (ps : List Part) (g : Part) (u : Shape) → t.what q ≡ Some (closed n) → AreBuilt t levels q old mid us ps → length us ≡ n → new ≡ with_group ps mid → records_of new ≡ records_of mid → marks_of new.groups g ≡ all_marks mid.groups ps → IsBefore (length new.groups) g → u ≡ list g (trees_of us) → IsBuilt t (suc levels) q old new u
  list-built levels n q old mid new us ps g u f h long is same stands before e = subst (IsBuilt t (suc levels) q old new) (sym e) (record {
    grows = grows-on old.groups mid.groups new.groups h.grows grown;
    grouped = (before, stands ∙ h.parts.marks, items-grow (job_at t.name) mid.groups new.groups grown q 0 (trees_of us) h.grouped);
    told = λ known s it w m a l. by known s it w m a l;
  })
    where
      grown : Grows mid.groups new.groups
      grown = subst (λ (k : Kept). Grows mid.groups k.groups) (sym is) (grows-one ps mid.groups)

      same_count : (i j : ℕ) → Some (closed i) ≡ Some (closed j) → i ≡ j
      same_count i j k = cc

      fewer : (a b c : ℕ) → a ≡ b → b ≤ c → a ≤ c
      fewer a b c e h = omega arith

      within : (i m : ℕ) → i < m → Some (closed m) ≡ Some (closed n) → i < length us
      within i m lt k = subst (λ a. i < a) (same_count m n k ∙ sym long) lt

      -- an item in which something is known
      inside : (known : Origin → Bool) (s : Name × Step) (it : Iteration) → Tells t known s it → (i : ℕ) (p : Place) (m : Iteration) → at it (q ++ i ∷ p) ≡ Some m → known (origin_at (job_at s.0) (q ++ i ∷ p) m) ≡ true → i < length us
      inside known s it w i p m a k = let x = w.told.around q i p m a k in within i x.0 x.2 (sym x.1 ∙ f)

      shows : (known : Origin → Bool) (s : Name × Step) (it : Iteration) → Tells t known s it → (r : List Origin) (ns : Iterations) → at it q ≡ Some (list r ns) → ShowFirst (job_at s.0) known q 0 us ns → (p : Place) → is_whole_at (job_at s.0) known q (list r ns) p ≡ true → ShowsAt (list g (trees_of us)) (list r ns) p
      shows known s it w r ns a x [] whole =
          let parts = and_parts (known (origin_at (job_at s.0) q (list r ns))) (all_whole (job_at s.0) known q 0 ns) whole in
          show-all (job_at s.0) known q 0 us ns x (long ∙ same_count n (count ns) (sym f ∙ w.told.lists q r ns a parts.0)) parts.1
      shows known s it w r ns a x (i ∷ p) whole =
          let y = first-whole (job_at s.0) known ns q i p whole in
          let k = whole-known (job_at s.0) known p y.0 (q ++ i ∷ []) y.2 in
          let there : at it (q ++ i ∷ k.place) ≡ Some k.node = at-after it q (i ∷ k.place) (list r ns) a ∙ ap (option_and_then (λ v. at v k.place)) y.1 ∙ k.there in
          let lt = inside known s it w i k.place k.node there (subst (λ z. known (origin_at (job_at s.0) z k.node) ≡ true) (append_assoc q (i ∷ []) k.place) k.is_known) in
          let z = show-item (job_at s.0) known q 0 us ns x i y.0 lt y.1 in
          subst (λ o. BothHave (λ v m. ShowsAt v m p) o (item_at ns i)) (sym z.1)
          (subst (λ o. BothHave (λ v m. ShowsAt v m p) (Some z.0) o) (sym y.1)
          (z.2 p (subst (λ j. is_whole_at (job_at s.0) known (q ++ j ∷ []) y.0 p ≡ true) (sym (none-more i)) y.2)))

      by : (known : Origin → Bool) (s : Name × Step) (it : Iteration) → Tells t known s it → (m : Iteration) → at it q ≡ Some m → HasLevels m (suc levels) → ShowsKnown (job_at s.0) known q (list g (trees_of us)) m × IsNoted t.settled s it (records_of old) (records_of new) × HaveRecords t.settled s.0 q m (records_of new)
      by known s it w (leaf r (job b)) a l = absurd (more-levels levels l)
      by known s it w (leaf r (passed m d)) a l = absurd (w.told.long q n (leaf r (passed m d)) f a)
      by known s it w (list r ns) a l =
          let x = h.told known s it w r ns a l (fewer (length us) n (count ns) long (w.told.long q n (list r ns) f a)) in (
            shows known s it w r ns a x.0,
            record { only = λ y i. x.1.only y (subst (In y) same i); kept = λ y i. subst (In y) (sym same) (x.1.kept y i) },
            λ p src c k z. own known s it w r ns a (λ i p src c lt k z. let y = x.2 i p src c lt k z in (y.0, subst (In y.0) (sym same) y.1, y.2)) p src c k z,
          )
        where
          own :
              (known : Origin → Bool) (s : Name × Step) (it : Iteration) → Tells t known s it → (r : List Origin) (ns : Iterations) → at it q ≡ Some (list r ns)
              → ((i : ℕ) (p : Place) (src : List Origin) (c : Binding) → i < length us → at (list r ns) (i ∷ p) ≡ Some (leaf src (job c)) → t.settled (q ++ (i ∷ p)) ≡ true → (x : Record) × In x (records_of new) × (x.job ≡ job_at s.0 (q ++ (i ∷ p))))
              → HaveRecords t.settled s.0 q (list r ns) (records_of new)
          own known s it w r ns a rec [] src c k z = absurd (cc)
          own known s it w r ns a rec (i ∷ p) src c k z =
              let there : at it (q ++ i ∷ p) ≡ Some (leaf src (job c)) = at-after it q (i ∷ p) (list r ns) a ∙ k in
              rec i p src c (inside known s it w i p (leaf src (job c)) there (w.told.settled_known (q ++ i ∷ p) src c there z)) k z
