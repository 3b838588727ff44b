use Rattle.std.proofs.Common.{◌≡◌, ◌<◌, ◌++◌, ◌∷◌, [], ap, sym, subst, ◌∙◌, append_assoc, arith, length, map, refl, true}
use Rattle.std.specs.Prelude.{ℕ, List, nat_lt, IsPermutation, ◌&&◌}
use Rattle.std.specs.List.{list_all}
use Rattle.std.proofs.lemmas.List.{length-append}
use Rattle.std.proofs.lemmas.List.Folds.{list_all-append}
use Rattle.std.proofs.lemmas.List.Sorted.{IsPermutation-append_right, IsPermutation-sym, IsPermutation-to_front, IsPermutation-trans}
use Rattle.tv_idle.specs.Heaps.{IsHeap, IsHeapButLast}
use Rattle.tv_idle.specs.Laid.{rises}
use Rattle.tv_idle.specs.Listed.{Listed, with_job}
use Rattle.tv_idle.specs.Orders.{are_within, in_order, is_before, job_at}
use Rattle.tv_idle.proofs.Keeping.{heap-agree, heap-push, new-within, put-listed, rises-agree, rises-more, to-front, within-more, written-back}
use Rattle.tv_idle.proofs.Sorting.{all-same, perm-length}
use Rattle.tv_idle.proofs.ready.Ready.put.Goals as goal

-- one more position at the end
ended-within : (jobs : List (ℕ × List ℕ)) (j : ℕ × List ℕ) (xs : List ℕ) → are_within jobs xs ≡ true → are_within (jobs ++ j ∷ []) (xs ++ length jobs ∷ []) ≡ true
ended-within jobs j xs h =
    list_all-append (λ s. nat_lt s (length (jobs ++ j ∷ []))) xs (length jobs ∷ [])
    ∙ ap (λ b. b && (nat_lt (length jobs) (length (jobs ++ j ∷ [])) && true)) (within-more jobs j xs h)
    ∙ ap (λ b. b && true) (new-within jobs j)

pub comes_last-requires-clause-within : goal.comes_last-requires-clause-within
comes_last-requires-clause-within c =
    let r = c.self.inside in
    ap (λ js. are_within js r.queue.items) c.push.ensures.jobs ∙ within-more r.table.jobs (c.args.number, c.args.place.now) r.queue.items c.self.invariant.queue_within

pub comes_last-requires-clause-rises : goal.comes_last-requires-clause-rises
comes_last-requires-clause-rises c =
    let r = c.self.inside in
    ap (λ js. rises (is_before js) r.queue.items) c.push.ensures.jobs
    ∙ rises-agree r.table.jobs (c.args.number, c.args.place.now) r.queue.items c.self.invariant.queue_within c.self.invariant.queue_rises

pub invariant_of-self : goal.invariant_of-self
invariant_of-self c =
    let r = c.self.inside in
    let i = c.self.invariant in
    let jobs = r.table.jobs in
    let j : ℕ × List ℕ = (c.args.number, c.args.place.now) in
    let n = length jobs in
    let qs = r.queue.items in
    let pushed = c.push.ensures.jobs in
    let at : c.len-at.result ≡ n = c.len-at.ensures in
    let queue : c.push_back_reserved.new.self.items ≡ qs ++ n ∷ [] = c.push_back_reserved.ensures.items ∙ ap (λ m. qs ++ m ∷ []) at in
    let all : list_all (λ s. is_before (jobs ++ j ∷ []) s n) qs ≡ true =
    ap (λ js. list_all (λ s. is_before js s n) qs) (sym pushed) ∙ ap (λ m. list_all (λ s. is_before c.push.new.self.jobs s m) qs) (sym at) ∙ c.if-comes_last.ensures refl
    in
    let many = ap length queue ∙ length-append qs (n ∷ []) in
    let positive : 0 < r.table.room = subst (λ m. 0 < m) (sym (ap (λ (v : Listed). v.room) c.self.view_is)) c.requires.room in
    record {
      queue_within = ap (are_within c.push.new.self.jobs) queue ∙ ap (λ js. are_within js (qs ++ n ∷ [])) pushed ∙ ended-within jobs j qs i.queue_within;
      late_within = ap (λ js. are_within js r.late.items) pushed ∙ within-more jobs j r.late.items i.late_within;
      queue_rises =
          ap (rises (is_before c.push.new.self.jobs)) queue
          ∙ ap (λ js. rises (is_before js) (qs ++ n ∷ [])) pushed
          ∙ rises-more (jobs ++ j ∷ []) qs n (rises-agree jobs j qs i.queue_within i.queue_rises) all;
      late_heap = subst (λ js. IsHeap js r.late.items) (sym pushed) (heap-agree jobs j r.late.items i.late_within i.late_heap);
      queue_room = let a = i.queue_room in let b = c.push_back_reserved.ensures.capacity in let d = c.push.ensures.room in omega (arith, a, b, d, many, positive);
      late_room = let a = i.late_room in let d = c.push.ensures.room in omega (arith, a, d);
    }

pub rise-requires-clause-within : goal.rise-requires-clause-within
rise-requires-clause-within c =
    let r = c.self.inside in
    let jobs = r.table.jobs in
    let j : ℕ × List ℕ = (c.args.number, c.args.place.now) in
    let late : c.as_mut_slice.result.now ≡ r.late.items ++ length jobs ∷ [] = c.as_mut_slice.ensures.value ∙ c.push_reserved.ensures.items ∙ ap (λ m. r.late.items ++ m ∷ []) c.len-at.ensures in
    ap (are_within c.push.new.self.jobs) late ∙ ap (λ js. are_within js (r.late.items ++ length jobs ∷ [])) c.push.ensures.jobs ∙ ended-within jobs j r.late.items c.self.invariant.late_within

pub rise-requires-clause-but_last : goal.rise-requires-clause-but_last
rise-requires-clause-but_last c =
    let r = c.self.inside in
    let jobs = r.table.jobs in
    let j : ℕ × List ℕ = (c.args.number, c.args.place.now) in
    let late : c.as_mut_slice.result.now ≡ r.late.items ++ length jobs ∷ [] = c.as_mut_slice.ensures.value ∙ c.push_reserved.ensures.items ∙ ap (λ m. r.late.items ++ m ∷ []) c.len-at.ensures in
    subst (IsHeapButLast c.push.new.self.jobs) (sym late)
    (subst (λ js. IsHeapButLast js (r.late.items ++ length jobs ∷ [])) (sym c.push.ensures.jobs) (heap-push jobs j r.late.items (length jobs) c.self.invariant.late_within c.self.invariant.late_heap))

pub invariant_of-self-else-comes_last : goal.invariant_of-self-else-comes_last
invariant_of-self-else-comes_last c =
    let r = c.self.inside in
    let i = c.self.invariant in
    let jobs = r.table.jobs in
    let j : ℕ × List ℕ = (c.args.number, c.args.place.now) in
    let n = length jobs in
    let pushed = c.push.ensures.jobs in
    let risen = c.rise.new.jobs in
    let whole : c.push_reserved.new.self.items ≡ r.late.items ++ n ∷ [] = c.push_reserved.ensures.items ∙ ap (λ m. r.late.items ++ m ∷ []) c.len-at.ensures in
    let same = subst (λ ys. IsPermutation ys risen) c.as_mut_slice.ensures.value c.rise.ensures.same in
    let back = written-back risen c.push_reserved.new.self.items c.push_reserved.new.self.len (sym (perm-length c.push_reserved.new.self.items risen same)) (omega (arith, c.push_reserved.new.self.ok.0)) in
    let many = ap length back ∙ sym (perm-length c.push_reserved.new.self.items risen same) ∙ ap length whole ∙ length-append r.late.items (n ∷ []) in
    let positive : 0 < r.table.room = subst (λ m. 0 < m) (sym (ap (λ (v : Listed). v.room) c.self.view_is)) c.requires.room in
    let pushed-within = ap (are_within c.push.new.self.jobs) whole ∙ ap (λ js. are_within js (r.late.items ++ n ∷ [])) pushed ∙ ended-within jobs j r.late.items i.late_within in
    record {
      queue_within = ap (λ js. are_within js r.queue.items) pushed ∙ within-more jobs j r.queue.items i.queue_within;
      late_within = ap (are_within c.push.new.self.jobs) back ∙ all-same (λ s. nat_lt s (length c.push.new.self.jobs)) c.push_reserved.new.self.items risen same pushed-within;
      queue_rises = ap (λ js. rises (is_before js) r.queue.items) pushed ∙ rises-agree jobs j r.queue.items i.queue_within i.queue_rises;
      late_heap = subst (IsHeap c.push.new.self.jobs) (sym back) c.rise.ensures.heap;
      queue_room = let a = i.queue_room in let d = c.push.ensures.room in omega (arith, a, d);
      late_room = let a = i.late_room in let b = c.push_reserved.ensures.capacity in let d = c.push.ensures.room in omega (arith, a, b, d, many, positive);
    }

pub returns-then-comes_last-clause-jobs : goal.returns-then-comes_last-clause-jobs
returns-then-comes_last-clause-jobs c =
    let r = c.self.inside in
    let i = c.self.invariant in
    let jobs = r.table.jobs in
    let j : ℕ × List ℕ = (c.args.number, c.args.place.now) in
    let n = length jobs in
    let qs = r.queue.items in
    let late = r.late.items in
    let queue : c.push_back_reserved.new.self.items ≡ qs ++ n ∷ [] = c.push_back_reserved.ensures.items ∙ ap (λ m. qs ++ m ∷ []) c.len-at.ensures in
    let old : are_within jobs (qs ++ late) ≡ true = list_all-append (λ s. nat_lt s (length jobs)) qs late ∙ ap (λ b. b && are_within jobs late) i.queue_within ∙ i.late_within in
    let moved = subst (λ ss. IsPermutation ss (n ∷ (qs ++ late))) (sym (append_assoc qs (n ∷ []) late)) (to-front qs n late) in
    ap (λ ss. map (job_at c.push.new.self.jobs) (in_order (is_before c.push.new.self.jobs) (ss ++ late))) queue
    ∙ ap (λ js. map (job_at js) (in_order (is_before js) ((qs ++ n ∷ []) ++ late))) c.push.ensures.jobs
    ∙ put-listed jobs j (qs ++ late) ((qs ++ n ∷ []) ++ late) old moved
    ∙ ap (λ (v : Listed). with_job j v.jobs) c.self.view_is

pub returns-else-comes_last-clause-jobs : goal.returns-else-comes_last-clause-jobs
returns-else-comes_last-clause-jobs c =
    let r = c.self.inside in
    let i = c.self.invariant in
    let jobs = r.table.jobs in
    let j : ℕ × List ℕ = (c.args.number, c.args.place.now) in
    let n = length jobs in
    let qs = r.queue.items in
    let late = r.late.items in
    let risen = c.rise.new.jobs in
    let whole : c.push_reserved.new.self.items ≡ late ++ n ∷ [] = c.push_reserved.ensures.items ∙ ap (λ m. late ++ m ∷ []) c.len-at.ensures in
    let same = subst (λ ys. IsPermutation ys risen) c.as_mut_slice.ensures.value c.rise.ensures.same in
    let back = written-back risen c.push_reserved.new.self.items c.push_reserved.new.self.len (sym (perm-length c.push_reserved.new.self.items risen same)) (omega (arith, c.push_reserved.new.self.ok.0)) in
    let old : are_within jobs (qs ++ late) ≡ true = list_all-append (λ s. nat_lt s (length jobs)) qs late ∙ ap (λ b. b && are_within jobs late) i.queue_within ∙ i.late_within in
    let front = IsPermutation-trans risen (late ++ n ∷ []) (n ∷ late) (IsPermutation-sym (late ++ n ∷ []) risen (subst (λ ys. IsPermutation ys risen) whole same)) (IsPermutation-to_front late n) in
    let moved = IsPermutation-trans (qs ++ risen) (qs ++ n ∷ late) (n ∷ (qs ++ late)) (IsPermutation-append_right qs risen (n ∷ late) front) (to-front qs n late) in
    ap (λ ss. map (job_at c.push.new.self.jobs) (in_order (is_before c.push.new.self.jobs) (qs ++ ss))) back
    ∙ ap (λ js. map (job_at js) (in_order (is_before js) (qs ++ risen))) c.push.ensures.jobs
    ∙ put-listed jobs j (qs ++ late) (qs ++ risen) old moved
    ∙ ap (λ (v : Listed). with_job j v.jobs) c.self.view_is
