use Rattle.std.proofs.Common.{◌≡◌, ◌+◌, ◌-◌, ◌*◌, ◌<◌, ◌++◌, ◌∷◌, [], ap, sym, subst, ◌∙◌, length, arith, vec_capacity}
use Rattle.std.specs.Prelude.{nat_le}
use Rattle.std.specs.List.{list_all}
use Rattle.std.proofs.lemmas.List.{length-append}
use Rattle.tv_lemmas.proofs.Numbers.{one_less-times}
use Rattle.tv_idle.specs.declared.table.Slot.{Slot}
use Rattle.tv_idle.specs.Slots.{table_jobs}
use Rattle.tv_idle.specs.Tables.{Rows}
use Rattle.tv_idle.proofs.Laying.{pushed-lies, pushed-shown, room-left}
use Rattle.tv_idle.proofs.table.Table.push.Goals as goal

pub put_indices-requires : goal.put_indices-requires
put_indices-requires c =
    let t = c.self.inside in
    let i = c.self.invariant in
    let long : length c.args.place.now ≡ t.levels = c.requires.levels ∙ sym (ap (λ (v : Rows). v.levels) c.self.view_is) in
    let positive : 0 < t.room = subst (λ m. 0 < m) (sym (ap (λ (v : Rows). v.room) c.self.view_is)) c.requires.room in
    let split = one_less-times t.room t.levels positive in
    let room = i.indices_room in
    omega (arith, long, split, room, t.indices.ok.0)

pub invariant_of-self : goal.invariant_of-self
invariant_of-self c =
    let t = c.self.inside in
    let i = c.self.invariant in
    let place = c.args.place.now in
    let s : Slot = record { start = c.len-start.result; number = c.args.number } in
    let starts : s.start ≡ length t.indices.items = omega (arith, c.len-start.ensures, t.indices.ok.0) in
    let long : length place ≡ t.levels = c.requires.levels ∙ sym (ap (λ (v : Rows). v.levels) c.self.view_is) in
    let positive : 0 < t.room = subst (λ m. 0 < m) (sym (ap (λ (v : Rows). v.room) c.self.view_is)) c.requires.room in
    let slots = c.push_reserved.ensures.items in
    let indices = c.put_indices.ensures.items in
    let more_slots = ap length slots ∙ length-append t.slots.items (s ∷ []) in
    let more_indices = ap length indices ∙ length-append t.indices.items place ∙ ap (λ n. length t.indices.items + n) long in
    record {
      inside =
          ap (λ ss. list_all (λ s. nat_le (s.start + t.levels) (length c.put_indices.new.indices.items)) ss) slots
          ∙ ap (λ is. list_all (λ s. nat_le (s.start + t.levels) (length is)) (t.slots.items ++ s ∷ [])) indices
          ∙ pushed-lies t.levels t.indices.items place long t.slots.items i.inside s starts;
      slots_room = let a = i.slots_room in let b = c.push_reserved.ensures.capacity in omega (arith, a, b, more_slots, positive);
      indices_room =
          room-left (length t.indices.items) (length c.put_indices.new.indices.items) t.levels (vec_capacity t.indices) (vec_capacity c.put_indices.new.indices) ((t.room - 1) * t.levels) (t.room * t.levels)
          (one_less-times t.room t.levels positive) more_indices i.indices_room c.put_indices.ensures.capacity;
    }

pub returns-clause-jobs : goal.returns-clause-jobs
returns-clause-jobs c =
    let t = c.self.inside in
    let place = c.args.place.now in
    let s : Slot = record { start = c.len-start.result; number = c.args.number } in
    let starts : s.start ≡ length t.indices.items = omega (arith, c.len-start.ensures, t.indices.ok.0) in
    let long : length place ≡ t.levels = c.requires.levels ∙ sym (ap (λ (v : Rows). v.levels) c.self.view_is) in
    ap (table_jobs t.levels c.put_indices.new.indices.items) c.push_reserved.ensures.items
    ∙ ap (λ is. table_jobs t.levels is (t.slots.items ++ s ∷ [])) c.put_indices.ensures.items
    ∙ pushed-shown t.levels t.indices.items place long t.slots.items c.self.invariant.inside s starts
    ∙ ap (λ (v : Rows). v.jobs ++ (c.args.number, place) ∷ []) c.self.view_is
