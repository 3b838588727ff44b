use Rattle.std.proofs.Common.{◌≡◌, refl, ◌≤◌, ◌++◌, map, length, take, ap, ◌∙◌, arith}
use Rattle.tv_value.specs.Views.{strategy_view}
use Rattle.tv_strategy.specs.Conditions.{number_of}
use Rattle.tv_strategy.specs.Measures.{strategy_depth}
use Rattle.tv_match.specs.Entries.{front}
use Rattle.tv_match.specs.Filed.{filed}
use Rattle.tv_match.specs.Seen.{entry_of}
use Rattle.tv_match.specs.Working.{IsDone}
use Rattle.tv_match.proofs.Calls.{first-long, freed-at, back-log, back-out, back-sound_at, listed-long}
use Rattle.tv_match.proofs.Reserves.{held-sound, held-holds, held-count}
use Rattle.tv_match.proofs.Faults.{order-stays}
use Rattle.tv_match.proofs.Fronts.{front-again}
use Rattle.tv_match.proofs.Placing.{placed-back, placed-more}
use Rattle.tv_match.proofs.matchers.Matcher.hold.Goals as goal

pub returns-in-Ok-make-clause-ok : goal.returns-in-Ok-make-clause-ok
returns-in-Ok-make-clause-ok c =
    let m = c.args.self.now in
    let s = strategy_view m.tree in
    let a = c.requires.sound.keeps in
    let mid = c.take_back.new in
    let lg = c.take_back.ensures.log in
    let og = c.take_back.ensures.out in
    let within : m.told ≤ length mid.log = first-long m.told mid.log m.log a.told_within lg in
    let d0 : IsDone (number_of m.mismatch) s (filed mid.root) mid.log mid.out = c.take_back.ensures.done (number_of m.mismatch) s (length m.log) a.told_within (omega arith) a.done.worked a.done.rise in
    let listed : c.work_all.new.log ≡ take m.told m.log ++ map entry_of c.args.told.now = c.in-Ok.ensures.log ∙ ap (λ l. l ++ map entry_of c.as_slice.result.now) lg ∙ ap (λ ts. take m.told m.log ++ map entry_of ts) c.as_slice.ensures in
    let done : IsDone (number_of m.mismatch) s (filed c.work_all.new.root) c.work_all.new.log c.work_all.new.out = c.in-Ok.ensures.done (number_of m.mismatch) s d0 in
    let same = c.work_all.ensures.front m.told within ∙ ap (front m.told) og in
    held-holds s m.mismatch (filed m.root) m.log m.out m.told m.given a c.args.told.now c.requires.leaves c.requires.new (filed c.work_all.new.root) c.work_all.new.log c.work_all.new.out listed done same

pub returns-in-Ok-make-clause-sound : goal.returns-in-Ok-make-clause-sound
returns-in-Ok-make-clause-sound c =
    let m = c.args.self.now in
    let s = strategy_view m.tree in
    let a = c.requires.sound.keeps in
    let mid = c.take_back.new in
    let lg = c.take_back.ensures.log in
    let og = c.take_back.ensures.out in
    let within : m.told ≤ length mid.log = first-long m.told mid.log m.log a.told_within lg in
    let d0 : IsDone (number_of m.mismatch) s (filed mid.root) mid.log mid.out = c.take_back.ensures.done (number_of m.mismatch) s (length m.log) a.told_within (omega arith) a.done.worked a.done.rise in
    let listed : c.work_all.new.log ≡ take m.told m.log ++ map entry_of c.args.told.now = c.in-Ok.ensures.log ∙ ap (λ l. l ++ map entry_of c.as_slice.result.now) lg ∙ ap (λ ts. take m.told m.log ++ map entry_of ts) c.as_slice.ensures in
    let done : IsDone (number_of m.mismatch) s (filed c.work_all.new.root) c.work_all.new.log c.work_all.new.out = c.in-Ok.ensures.done (number_of m.mismatch) s d0 in
    let same = c.work_all.ensures.front m.told within ∙ ap (front m.told) og in
    record {
      keeps = held-sound s m.mismatch (filed m.root) m.log m.out m.told m.given a c.args.told.now c.requires.leaves c.requires.new (filed c.work_all.new.root) c.work_all.new.log c.work_all.new.out listed done same;
      placed = placed-more (strategy_depth (number_of m.mismatch) s) m.places c.make.new.self m.out m.given m.told c.len-before.result c.requires.sound.placed c.make.ensures.deep (c.len-before.ensures ∙ ap length og) c.work_all.new.out (same ∙ front-again m.told m.out) c.in-Ok-make.ensures.ok;
    }

pub returns-in-Ok-make-clause-count : goal.returns-in-Ok-make-clause-count
returns-in-Ok-make-clause-count c =
    let m = c.args.self.now in
    let s = strategy_view m.tree in
    let a = c.requires.sound.keeps in
    let mid = c.take_back.new in
    let lg = c.take_back.ensures.log in
    let og = c.take_back.ensures.out in
    let within : m.told ≤ length mid.log = first-long m.told mid.log m.log a.told_within lg in
    let d0 : IsDone (number_of m.mismatch) s (filed mid.root) mid.log mid.out = c.take_back.ensures.done (number_of m.mismatch) s (length m.log) a.told_within (omega arith) a.done.worked a.done.rise in
    let listed : c.work_all.new.log ≡ take m.told m.log ++ map entry_of c.args.told.now = c.in-Ok.ensures.log ∙ ap (λ l. l ++ map entry_of c.as_slice.result.now) lg ∙ ap (λ ts. take m.told m.log ++ map entry_of ts) c.as_slice.ensures in
    let done : IsDone (number_of m.mismatch) s (filed c.work_all.new.root) c.work_all.new.log c.work_all.new.out = c.in-Ok.ensures.done (number_of m.mismatch) s d0 in
    let same = c.work_all.ensures.front m.told within ∙ ap (front m.told) og in
    let count = held-count s m.mismatch (filed m.root) m.log m.out m.told m.given a c.args.told.now c.requires.leaves c.requires.new (filed c.work_all.new.root) c.work_all.new.log c.work_all.new.out listed done same in
    omega (arith, count, c.len.ensures, c.len-before.ensures, ap length og)

pub returns-in-Ok-make-clause-order : goal.returns-in-Ok-make-clause-order
returns-in-Ok-make-clause-order c =
    let m = c.args.self.now in
    let a = c.requires.sound.keeps in
    let within : m.told ≤ length c.take_back.new.log = first-long m.told c.take_back.new.log m.log a.told_within c.take_back.ensures.log in
    order-stays m.told m.told m.out c.work_all.new.out (omega arith) (c.work_all.ensures.front m.told within ∙ ap (front m.told) c.take_back.ensures.out ∙ front-again m.told m.out)

pub returns-in-Err-clause-refused : goal.returns-in-Err-clause-refused
returns-in-Err-clause-refused c =
    let m = c.args.self.now in
    let s = strategy_view m.tree in
    let a = c.requires.sound.keeps in
    let mid = c.take_back.new in
    let lg = c.take_back.ensures.log in
    let og = c.take_back.ensures.out in
    let within : m.told ≤ length mid.log = first-long m.told mid.log m.log a.told_within lg in
    let logs = c.take_back-in-Err.ensures.log ∙ back-log m.told m.log mid.log c.work_all.new.log a.told_within lg c.work_all.ensures.listed in
    let outs = c.take_back-in-Err.ensures.out ∙ back-out m.told m.out mid.out c.work_all.new.out og (c.work_all.ensures.front m.told within) in
    freed-at s m.mismatch (filed m.root) m.log m.out c.take_back-in-Err.new.log c.take_back-in-Err.new.out m.told m.given a logs outs

pub returns-in-Err-clause-sound : goal.returns-in-Err-clause-sound
returns-in-Err-clause-sound c =
    let m = c.args.self.now in
    let s = strategy_view m.tree in
    let a = c.requires.sound.keeps in
    let mid = c.take_back.new in
    let lg = c.take_back.ensures.log in
    let og = c.take_back.ensures.out in
    let within : m.told ≤ length mid.log = first-long m.told mid.log m.log a.told_within lg in
    let logs = c.take_back-in-Err.ensures.log ∙ back-log m.told m.log mid.log c.work_all.new.log a.told_within lg c.work_all.ensures.listed in
    let outs = c.take_back-in-Err.ensures.out ∙ back-out m.told m.out mid.out c.work_all.new.out og (c.work_all.ensures.front m.told within) in
    let d = strategy_depth (number_of m.mismatch) s in
    let d0 : IsDone (number_of m.mismatch) s (filed mid.root) mid.log mid.out = c.take_back.ensures.done (number_of m.mismatch) s (length m.log) a.told_within (omega arith) a.done.worked a.done.rise in
    let still = c.work_all.ensures.still (number_of m.mismatch) s d0 in
    let done = c.take_back-in-Err.ensures.done (number_of m.mismatch) s (length mid.log) within (listed-long mid.log c.work_all.new.log c.work_all.ensures.listed) still.0 still.1 in
    record {
      keeps = back-sound_at s m.mismatch (filed m.root) (filed c.take_back-in-Err.new.root) m.log m.out c.take_back-in-Err.new.log c.take_back-in-Err.new.out m.told m.given a logs outs done;
      placed = placed-back d m.places m.places m.out m.given m.told (length (front m.told m.out)) c.requires.sound.placed refl refl c.take_back-in-Err.new.out outs (λ h. refl);
    }

pub returns-in-Err-clause-order : goal.returns-in-Err-clause-order
returns-in-Err-clause-order c =
    let m = c.args.self.now in
    let a = c.requires.sound.keeps in
    let within : m.told ≤ length c.take_back.new.log = first-long m.told c.take_back.new.log m.log a.told_within c.take_back.ensures.log in
    order-stays m.told m.told m.out c.take_back-in-Err.new.out (omega arith) (ap (front m.told) c.take_back-in-Err.ensures.out ∙ front-again m.told c.work_all.new.out ∙ c.work_all.ensures.front m.told within ∙ ap (front m.told) c.take_back.ensures.out ∙ front-again m.told m.out)

pub returns-in-Err-make-clause-refused : goal.returns-in-Err-make-clause-refused
returns-in-Err-make-clause-refused c =
    let m = c.args.self.now in
    let s = strategy_view m.tree in
    let a = c.requires.sound.keeps in
    let mid = c.take_back.new in
    let lg = c.take_back.ensures.log in
    let og = c.take_back.ensures.out in
    let within : m.told ≤ length mid.log = first-long m.told mid.log m.log a.told_within lg in
    let logs = c.take_back-in-Err-make.ensures.log ∙ back-log m.told m.log mid.log c.work_all.new.log a.told_within lg c.work_all.ensures.listed in
    let outs = c.take_back-in-Err-make.ensures.out ∙ back-out m.told m.out mid.out c.work_all.new.out og (c.work_all.ensures.front m.told within) in
    freed-at s m.mismatch (filed m.root) m.log m.out c.take_back-in-Err-make.new.log c.take_back-in-Err-make.new.out m.told m.given a logs outs

pub returns-in-Err-make-clause-sound : goal.returns-in-Err-make-clause-sound
returns-in-Err-make-clause-sound c =
    let m = c.args.self.now in
    let s = strategy_view m.tree in
    let a = c.requires.sound.keeps in
    let mid = c.take_back.new in
    let lg = c.take_back.ensures.log in
    let og = c.take_back.ensures.out in
    let within : m.told ≤ length mid.log = first-long m.told mid.log m.log a.told_within lg in
    let logs = c.take_back-in-Err-make.ensures.log ∙ back-log m.told m.log mid.log c.work_all.new.log a.told_within lg c.work_all.ensures.listed in
    let outs = c.take_back-in-Err-make.ensures.out ∙ back-out m.told m.out mid.out c.work_all.new.out og (c.work_all.ensures.front m.told within) in
    let d = strategy_depth (number_of m.mismatch) s in
    let d0 : IsDone (number_of m.mismatch) s (filed mid.root) mid.log mid.out = c.take_back.ensures.done (number_of m.mismatch) s (length m.log) a.told_within (omega arith) a.done.worked a.done.rise in
    let still = c.work_all.ensures.still (number_of m.mismatch) s d0 in
    let done = c.take_back-in-Err-make.ensures.done (number_of m.mismatch) s (length mid.log) within (listed-long mid.log c.work_all.new.log c.work_all.ensures.listed) still.0 still.1 in
    record {
      keeps = back-sound_at s m.mismatch (filed m.root) (filed c.take_back-in-Err-make.new.root) m.log m.out c.take_back-in-Err-make.new.log c.take_back-in-Err-make.new.out m.told m.given a logs outs done;
      placed = placed-back d m.places c.make.new.self m.out m.given m.told c.len-before.result c.requires.sound.placed c.make.ensures.deep (c.len-before.ensures ∙ ap length og) c.take_back-in-Err-make.new.out outs c.make.ensures.first;
    }

pub returns-in-Err-make-clause-order : goal.returns-in-Err-make-clause-order
returns-in-Err-make-clause-order c =
    let m = c.args.self.now in
    let a = c.requires.sound.keeps in
    let within : m.told ≤ length c.take_back.new.log = first-long m.told c.take_back.new.log m.log a.told_within c.take_back.ensures.log in
    order-stays m.told m.told m.out c.take_back-in-Err-make.new.out (omega arith) (ap (front m.told) c.take_back-in-Err-make.ensures.out ∙ front-again m.told c.work_all.new.out ∙ c.work_all.ensures.front m.told within ∙ ap (front m.told) c.take_back.ensures.out ∙ front-again m.told m.out)
