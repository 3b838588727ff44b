use Rattle.std.specs.Prelude.{◌+◌}
use Rattle.std.proofs.Common.{refl, sym, ◌∙◌}
use Rattle.tv_lemmas.proofs.Options.{on-err}
use Rattle.tv_lemmas.proofs.Numbers.{not_zero-positive}
use Rattle.tv_run.proofs.AllBack.{back-then, room-stays}
use Rattle.tv_run.proofs.Recalling.{all-out, nothing-out, recalls-to}
use Rattle.tv_run.proofs.Rooms.{before-entries, before-then, stays-before}
use Rattle.tv_run.proofs.run.OpenRun.recall_all.Goals as goal

pub returns-then-count-eq0-clause-recalled : goal.returns-then-count-eq0-clause-recalled
returns-then-count-eq0-clause-recalled c = λ gives st.
    nothing-out gives c.args.self.now st 0 (sym c.if-count-eq0.true ∙ c.out_count-count.ensures) refl

pub returns-in_err-reserve_all_back-clause-refused : goal.returns-in_err-reserve_all_back-clause-refused
returns-in_err-reserve_all_back-clause-refused c =
    on-err c.from_residual.result (λ gives st.
    stays-before gives c.args.self.now c.reserve_all_back.new.self c.reserve_all_back.ensures.same st)

pub returns-in_err-reserve_all_back-clause-quiet : goal.returns-in_err-reserve_all_back-clause-quiet
returns-in_err-reserve_all_back-clause-quiet c = λ gives st none.
    absurd
    (c.if-count-eq0.false
    (all-out gives c.args.self.now st c.out_count-count.result c.out_count-count.ensures ∙ none))

pub returns-in_err-reserve_entries-clause-refused : goal.returns-in_err-reserve_entries-clause-refused
returns-in_err-reserve_entries-clause-refused c =
    let e = c.reserve_entries.ensures in
    on-err c.from_residual-in_err-reserve_entries.result (λ gives st.
    stays-before gives c.args.self.now c.reserve_entries.new.self
    (before-then c.args.self.now c.reserve_all_back.new.self c.reserve_entries.new.self c.reserve_all_back.ensures.same
    (before-entries c.reserve_all_back.new.self c.reserve_entries.new.self e.rest e.entries e.capacity))
    st)

pub returns-in_err-reserve_entries-clause-quiet : goal.returns-in_err-reserve_entries-clause-quiet
returns-in_err-reserve_entries-clause-quiet c = λ gives st none.
    absurd
    (c.if-count-eq0.false
    (all-out gives c.args.self.now st c.out_count-count.result c.out_count-count.ensures ∙ none))

pub put_all_back-requires : goal.put_all_back-requires
put_all_back-requires c =
    room-stays c.reserve_all_back.new.self c.reserve_entries.new.self c.reserve_entries.ensures.rest.instances
    c.in_ok-reserve_all_back.ensures.rooms

pub returns-clause-recalled : goal.returns-clause-recalled
returns-clause-recalled c = λ gives st.
    let n = c.out_count-count.result in
    let e = c.reserve_entries.ensures in
    recalls-to gives c.args.self.now st n c.out_count-count.ensures c.note.new.self (not_zero-positive n c.if-count-eq0.false)
    (record {
      prepared = c.reserve_entries.new.self;
      before =
          before-then c.args.self.now c.reserve_all_back.new.self c.reserve_entries.new.self
          c.reserve_all_back.ensures.same
          (before-entries c.reserve_all_back.new.self c.reserve_entries.new.self e.rest e.entries e.capacity);
      room = c.in_ok-reserve_entries.ensures.room;
      called = record c.put_all_back.new.self { due = c.put_all_back.new.self.due + n };
      back = back-then c.reserve_entries.new.self c.put_all_back.new.self n c.put_all_back.ensures.back;
      noted = c.note.ensures;
    })
