use Rattle.std.proofs.Common.{refl, ◌≡◌, ◌≤◌, ◌+◌, ◌++◌, ◌∷◌, [], map, length, take, sym, ap, subst, ◌∙◌, arith}
use Rattle.tv_value.specs.Views.{strategy_view}
use Rattle.tv_strategy.specs.Conditions.{number_of}
use Rattle.tv_strategy.specs.Measures.{strategy_depth}
use Rattle.tv_matching.specs.Matchers.{IsTold}
use Rattle.tv_match.specs.Entries.{entry, front}
use Rattle.tv_match.specs.Filed.{filed}
use Rattle.tv_match.specs.Seen.{telling_of, tellings_of, outcome_of, seen_as, AreSound}
use Rattle.tv_match.specs.Working.{IsDone}
use Rattle.tv_match.proofs.Calls.{made-sound, made-told, failed-sound, failed-freed, done-at, more-at, listed-at, listed-long, first-long, listed-count}
use Rattle.tv_match.proofs.Faults.{order-stays}
use Rattle.tv_match.proofs.Fronts.{more-late, front-again}
use Rattle.tv_match.proofs.Placing.{placed-back, placed-more}
use Rattle.tv_match.proofs.Putting.{past}
use Rattle.tv_match.proofs.matchers.Matcher.tell_other.Goals as goal

pub returns-in-Ok-make-clause-ok : goal.returns-in-Ok-make-clause-ok
returns-in-Ok-make-clause-ok c =
    let m = c.args.self.now in
    let s = strategy_view m.tree in
    let e = entry c.args.leaf c.args.place.now c.args.kind in
    let a = c.requires.sound.keeps in
    let mid = c.take_back.new in
    let lg = c.take_back.ensures.log in
    let og = c.take_back.ensures.out in
    let d0 : IsDone (number_of m.mismatch) s (filed mid.root) mid.log mid.out = c.take_back.ensures.done (number_of m.mismatch) s (length m.log) a.told_within (omega arith) a.done.worked a.done.rise in
    let d = done-at (number_of m.mismatch) s (filed mid.root) mid.log mid.out (take m.told m.log) (front m.told m.out) lg og d0 in
    let b = more-at mid.log mid.out (take m.told m.log) (front m.told m.out) c.work.new.out lg og c.work.ensures.more in
    let k : c.work.new.log ≡ take m.told m.log ++ e ∷ [] = c.in-Ok.ensures.log ∙ ap (λ l. l ++ e ∷ []) lg in
    let done : IsDone (number_of m.mismatch) s (filed c.work.new.root) c.work.new.log c.work.new.out = c.in-Ok.ensures.done (number_of m.mismatch) s d0 in
    let count = c.len-self.ensures ∙ listed-count m.told m.log c.work.new.log e a.told_within k in
    subst (λ j. IsTold (telling_of s e) (seen_as s m.mismatch m.log m.out m.told m.given) (seen_as s m.mismatch c.work.new.log c.work.new.out j m.given)) (sym count)
    (made-told s m.mismatch (filed m.root) m.log m.out m.told m.given e a c.requires.proper (filed mid.root) d (filed c.work.new.root) c.work.new.log c.work.new.out k b done c.requires.new)

pub returns-in-Ok-make-clause-sound : goal.returns-in-Ok-make-clause-sound
returns-in-Ok-make-clause-sound c =
    let m = c.args.self.now in
    let s = strategy_view m.tree in
    let e = entry c.args.leaf c.args.place.now c.args.kind in
    let a = c.requires.sound.keeps in
    let mid = c.take_back.new in
    let lg = c.take_back.ensures.log in
    let og = c.take_back.ensures.out in
    let d0 : IsDone (number_of m.mismatch) s (filed mid.root) mid.log mid.out = c.take_back.ensures.done (number_of m.mismatch) s (length m.log) a.told_within (omega arith) a.done.worked a.done.rise in
    let d = done-at (number_of m.mismatch) s (filed mid.root) mid.log mid.out (take m.told m.log) (front m.told m.out) lg og d0 in
    let b = more-at mid.log mid.out (take m.told m.log) (front m.told m.out) c.work.new.out lg og c.work.ensures.more in
    let k : c.work.new.log ≡ take m.told m.log ++ e ∷ [] = c.in-Ok.ensures.log ∙ ap (λ l. l ++ e ∷ []) lg in
    let done : IsDone (number_of m.mismatch) s (filed c.work.new.root) c.work.new.log c.work.new.out = c.in-Ok.ensures.done (number_of m.mismatch) s d0 in
    let count = c.len-self.ensures ∙ listed-count m.told m.log c.work.new.log e a.told_within k in
    let late : front m.told c.work.new.out ≡ front m.told m.out = more-late m.told (length mid.log + 1) mid.out c.work.new.out (let l = first-long m.told mid.log m.log a.told_within lg in omega (arith, l)) c.work.ensures.more ∙ ap (front m.told) og ∙ front-again m.told m.out in
    record {
      keeps =
          subst (λ j. AreSound s m.mismatch (filed c.work.new.root) c.work.new.log c.work.new.out j m.given) (sym count)
          (made-sound s m.mismatch (filed m.root) m.log m.out m.told m.given e a c.requires.proper (filed mid.root) d (filed c.work.new.root) c.work.new.log c.work.new.out k b done c.requires.new);
      placed = placed-more (strategy_depth (number_of m.mismatch) s) m.places c.make.new.self m.out m.given m.told c.len-before.result c.requires.sound.placed c.make.ensures.deep (c.len-before.ensures ∙ ap length og) c.work.new.out late c.in-Ok-make.ensures.ok;
    }

pub returns-in-Ok-make-clause-let_go : goal.returns-in-Ok-make-clause-let_go
returns-in-Ok-make-clause-let_go c = ap (tellings_of (strategy_view c.args.self.now.tree)) (past c.work.new.log c.len-self.result (omega (arith, c.len-self.ensures)))

pub returns-in-Err-clause-refused : goal.returns-in-Err-clause-refused
returns-in-Err-clause-refused c =
    let m = c.args.self.now in
    let s = strategy_view m.tree in
    let e = entry c.args.leaf c.args.place.now c.args.kind in
    let a = c.requires.sound.keeps in
    let mid = c.take_back.new in
    let lg = c.take_back.ensures.log in
    let og = c.take_back.ensures.out in
    let d0 : IsDone (number_of m.mismatch) s (filed mid.root) mid.log mid.out = c.take_back.ensures.done (number_of m.mismatch) s (length m.log) a.told_within (omega arith) a.done.worked a.done.rise in
    let d = done-at (number_of m.mismatch) s (filed mid.root) mid.log mid.out (take m.told m.log) (front m.told m.out) lg og d0 in
    let b = more-at mid.log mid.out (take m.told m.log) (front m.told m.out) c.work.new.out lg og c.work.ensures.more in
    let l = listed-at mid.log (take m.told m.log) c.work.new.log lg c.work.ensures.listed in
    let still = c.work.ensures.still (number_of m.mismatch) s d0 in
    let w = c.take_back-in-Err.ensures.done (number_of m.mismatch) s (length mid.log) (first-long m.told mid.log m.log a.told_within lg) (listed-long mid.log c.work.new.log c.work.ensures.listed) still.0 still.1 in
    let late : front m.told c.work.new.out ≡ front m.told m.out = more-late m.told (length mid.log + 1) mid.out c.work.new.out (let l = first-long m.told mid.log m.log a.told_within lg in omega (arith, l)) c.work.ensures.more ∙ ap (front m.told) og ∙ front-again m.told m.out in
    (failed-freed s m.mismatch (filed m.root) m.log m.out m.told m.given e a c.requires.proper (filed mid.root) d (filed c.work.new.root) (filed c.take_back-in-Err.new.root) c.work.new.log c.work.new.out c.take_back-in-Err.new.log c.take_back-in-Err.new.out b l c.take_back-in-Err.ensures.log c.take_back-in-Err.ensures.out w, ap (map outcome_of) (ap (front m.told) c.take_back-in-Err.ensures.out ∙ front-again m.told c.work.new.out ∙ late))

pub returns-in-Err-clause-sound : goal.returns-in-Err-clause-sound
returns-in-Err-clause-sound c =
    let m = c.args.self.now in
    let s = strategy_view m.tree in
    let e = entry c.args.leaf c.args.place.now c.args.kind in
    let a = c.requires.sound.keeps in
    let mid = c.take_back.new in
    let lg = c.take_back.ensures.log in
    let og = c.take_back.ensures.out in
    let d0 : IsDone (number_of m.mismatch) s (filed mid.root) mid.log mid.out = c.take_back.ensures.done (number_of m.mismatch) s (length m.log) a.told_within (omega arith) a.done.worked a.done.rise in
    let d = done-at (number_of m.mismatch) s (filed mid.root) mid.log mid.out (take m.told m.log) (front m.told m.out) lg og d0 in
    let b = more-at mid.log mid.out (take m.told m.log) (front m.told m.out) c.work.new.out lg og c.work.ensures.more in
    let l = listed-at mid.log (take m.told m.log) c.work.new.log lg c.work.ensures.listed in
    let still = c.work.ensures.still (number_of m.mismatch) s d0 in
    let w = c.take_back-in-Err.ensures.done (number_of m.mismatch) s (length mid.log) (first-long m.told mid.log m.log a.told_within lg) (listed-long mid.log c.work.new.log c.work.ensures.listed) still.0 still.1 in
    let late : front m.told c.work.new.out ≡ front m.told m.out = more-late m.told (length mid.log + 1) mid.out c.work.new.out (let l = first-long m.told mid.log m.log a.told_within lg in omega (arith, l)) c.work.ensures.more ∙ ap (front m.told) og ∙ front-again m.told m.out in
    record {
      keeps = failed-sound s m.mismatch (filed m.root) m.log m.out m.told m.given e a c.requires.proper (filed mid.root) d (filed c.work.new.root) (filed c.take_back-in-Err.new.root) c.work.new.log c.work.new.out c.take_back-in-Err.new.log c.take_back-in-Err.new.out b l c.take_back-in-Err.ensures.log c.take_back-in-Err.ensures.out w;
      placed = placed-back (strategy_depth (number_of m.mismatch) s) m.places m.places m.out m.given m.told (length (front m.told m.out)) c.requires.sound.placed refl refl c.take_back-in-Err.new.out (c.take_back-in-Err.ensures.out ∙ late) (λ h. refl);
    }

pub returns-in-Err-clause-order : goal.returns-in-Err-clause-order
returns-in-Err-clause-order c =
    let m = c.args.self.now in
    let a = c.requires.sound.keeps in
    let mid = c.take_back.new in
    let log = c.take_back.ensures.log in
    let long : m.told ≤ length mid.log = first-long m.told mid.log m.log a.told_within log in
    let worked : front m.told c.work.new.out ≡ front m.told m.out = more-late m.told (length mid.log + 1) mid.out c.work.new.out (omega (arith, long)) c.work.ensures.more ∙ ap (front m.told) c.take_back.ensures.out ∙ front-again m.told m.out in
    order-stays m.told m.told m.out c.take_back-in-Err.new.out (omega arith) (ap (front m.told) c.take_back-in-Err.ensures.out ∙ front-again m.told c.work.new.out ∙ worked)

pub returns-in-Err-make-clause-refused : goal.returns-in-Err-make-clause-refused
returns-in-Err-make-clause-refused c =
    let m = c.args.self.now in
    let s = strategy_view m.tree in
    let e = entry c.args.leaf c.args.place.now c.args.kind in
    let a = c.requires.sound.keeps in
    let mid = c.take_back.new in
    let lg = c.take_back.ensures.log in
    let og = c.take_back.ensures.out in
    let d0 : IsDone (number_of m.mismatch) s (filed mid.root) mid.log mid.out = c.take_back.ensures.done (number_of m.mismatch) s (length m.log) a.told_within (omega arith) a.done.worked a.done.rise in
    let d = done-at (number_of m.mismatch) s (filed mid.root) mid.log mid.out (take m.told m.log) (front m.told m.out) lg og d0 in
    let b = more-at mid.log mid.out (take m.told m.log) (front m.told m.out) c.work.new.out lg og c.work.ensures.more in
    let l = listed-at mid.log (take m.told m.log) c.work.new.log lg c.work.ensures.listed in
    let still = c.work.ensures.still (number_of m.mismatch) s d0 in
    let w = c.take_back-in-Err-make.ensures.done (number_of m.mismatch) s (length mid.log) (first-long m.told mid.log m.log a.told_within lg) (listed-long mid.log c.work.new.log c.work.ensures.listed) still.0 still.1 in
    let late : front m.told c.work.new.out ≡ front m.told m.out = more-late m.told (length mid.log + 1) mid.out c.work.new.out (let l = first-long m.told mid.log m.log a.told_within lg in omega (arith, l)) c.work.ensures.more ∙ ap (front m.told) og ∙ front-again m.told m.out in
    (failed-freed s m.mismatch (filed m.root) m.log m.out m.told m.given e a c.requires.proper (filed mid.root) d (filed c.work.new.root) (filed c.take_back-in-Err-make.new.root) c.work.new.log c.work.new.out c.take_back-in-Err-make.new.log c.take_back-in-Err-make.new.out b l c.take_back-in-Err-make.ensures.log c.take_back-in-Err-make.ensures.out w, ap (map outcome_of) (ap (front m.told) c.take_back-in-Err-make.ensures.out ∙ front-again m.told c.work.new.out ∙ late))

pub returns-in-Err-make-clause-sound : goal.returns-in-Err-make-clause-sound
returns-in-Err-make-clause-sound c =
    let m = c.args.self.now in
    let s = strategy_view m.tree in
    let e = entry c.args.leaf c.args.place.now c.args.kind in
    let a = c.requires.sound.keeps in
    let mid = c.take_back.new in
    let lg = c.take_back.ensures.log in
    let og = c.take_back.ensures.out in
    let d0 : IsDone (number_of m.mismatch) s (filed mid.root) mid.log mid.out = c.take_back.ensures.done (number_of m.mismatch) s (length m.log) a.told_within (omega arith) a.done.worked a.done.rise in
    let d = done-at (number_of m.mismatch) s (filed mid.root) mid.log mid.out (take m.told m.log) (front m.told m.out) lg og d0 in
    let b = more-at mid.log mid.out (take m.told m.log) (front m.told m.out) c.work.new.out lg og c.work.ensures.more in
    let l = listed-at mid.log (take m.told m.log) c.work.new.log lg c.work.ensures.listed in
    let still = c.work.ensures.still (number_of m.mismatch) s d0 in
    let w = c.take_back-in-Err-make.ensures.done (number_of m.mismatch) s (length mid.log) (first-long m.told mid.log m.log a.told_within lg) (listed-long mid.log c.work.new.log c.work.ensures.listed) still.0 still.1 in
    let late : front m.told c.work.new.out ≡ front m.told m.out = more-late m.told (length mid.log + 1) mid.out c.work.new.out (let l = first-long m.told mid.log m.log a.told_within lg in omega (arith, l)) c.work.ensures.more ∙ ap (front m.told) og ∙ front-again m.told m.out in
    record {
      keeps = failed-sound s m.mismatch (filed m.root) m.log m.out m.told m.given e a c.requires.proper (filed mid.root) d (filed c.work.new.root) (filed c.take_back-in-Err-make.new.root) c.work.new.log c.work.new.out c.take_back-in-Err-make.new.log c.take_back-in-Err-make.new.out b l c.take_back-in-Err-make.ensures.log c.take_back-in-Err-make.ensures.out w;
      placed = placed-back (strategy_depth (number_of m.mismatch) s) m.places c.make.new.self m.out m.given m.told c.len-before.result c.requires.sound.placed c.make.ensures.deep (c.len-before.ensures ∙ ap length og) c.take_back-in-Err-make.new.out (c.take_back-in-Err-make.ensures.out ∙ late) c.make.ensures.first;
    }

pub returns-in-Err-make-clause-order : goal.returns-in-Err-make-clause-order
returns-in-Err-make-clause-order c =
    let m = c.args.self.now in
    let a = c.requires.sound.keeps in
    let mid = c.take_back.new in
    let log = c.take_back.ensures.log in
    let long : m.told ≤ length mid.log = first-long m.told mid.log m.log a.told_within log in
    let worked : front m.told c.work.new.out ≡ front m.told m.out = more-late m.told (length mid.log + 1) mid.out c.work.new.out (omega (arith, long)) c.work.ensures.more ∙ ap (front m.told) c.take_back.ensures.out ∙ front-again m.told m.out in
    order-stays m.told m.told m.out c.take_back-in-Err-make.new.out (omega arith) (ap (front m.told) c.take_back-in-Err-make.ensures.out ∙ front-again m.told c.work.new.out ∙ worked)
