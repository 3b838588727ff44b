use Rattle.std.proofs.Common.{◌≡◌, refl, map, ◌+◌, ◌++◌, ◌∷◌, [], length, take, sym, ap, subst, ◌∙◌, arith}
use Rattle.tv_value.specs.Views.{strategy_view}
use Rattle.tv_strategy.specs.Conditions.{number_of}
use Rattle.tv_strategy.specs.Measures.{strategy_depth}
use Rattle.tv_matching.specs.Matchers.{IsTold}
use Rattle.tv_match.specs.declared.kinds.Kind.TheVariants.{Job}
use Rattle.tv_match.specs.Entries.{entry, front}
use Rattle.tv_match.specs.Filed.{filed}
use Rattle.tv_match.specs.Seen.{telling_of, tellings_of, outcome_of, seen_as, AreSound}
use Rattle.tv_match.specs.Working.{IsDone}
use Rattle.tv_match.proofs.AllMade.{told-all}
use Rattle.tv_match.proofs.Calls.{made-sound, made-told, done-at, more-at, listed-count, listed-long, back-sound_at}
use Rattle.tv_match.proofs.Fronts.{more-late}
use Rattle.tv_match.proofs.Placing.{placed-back, placed-more}
use Rattle.tv_match.proofs.Putting.{past}
use Rattle.tv_match.proofs.Seeing.{bound-proper}
use Rattle.tv_match.proofs.Undone.{undone-log, undone-out}
use Rattle.tv_match.proofs.matchers.Matcher.tell_bound.Goals as goal

pub returns-in-Ok-make-clause-ok : goal.returns-in-Ok-make-clause-ok
returns-in-Ok-make-clause-ok c =
    let m = c.args.self.now in
    let s = strategy_view m.tree in
    let e = entry c.args.leaf [] (Job c.args.faulty) in
    let a = c.requires.sound.keeps in
    let all = told-all m c.requires.sound c.requires.free in
    let proper = bound-proper s a.suits.leaves_differ c.args.leaf [] c.args.faulty c.requires.leaf in
    let d = done-at (number_of m.mismatch) s (filed m.root) m.log m.out (take m.told m.log) (front m.told m.out) all.0 all.1 a.done in
    let b = more-at m.log m.out (take m.told m.log) (front m.told m.out) c.work.new.out all.0 all.1 c.work.ensures.more in
    let k : c.work.new.log ≡ take m.told m.log ++ e ∷ [] = c.in-Ok.ensures.log ∙ ap (λ l. l ++ e ∷ []) all.0 in
    let done : IsDone (number_of m.mismatch) s (filed c.work.new.root) c.work.new.log c.work.new.out = c.in-Ok.ensures.done (number_of m.mismatch) s a.done in
    let count = c.len-self.ensures ∙ listed-count m.told m.log c.work.new.log e a.told_within k in
    subst (λ j. IsTold (telling_of s e) (seen_as s m.mismatch m.log m.out m.told m.given) (seen_as s m.mismatch c.work.new.log c.work.new.out j m.given)) (sym count)
    (made-told s m.mismatch (filed m.root) m.log m.out m.told m.given e a proper (filed m.root) d (filed c.work.new.root) c.work.new.log c.work.new.out k b done c.requires.new)

pub returns-in-Ok-make-clause-held : goal.returns-in-Ok-make-clause-held
returns-in-Ok-make-clause-held c = ap (tellings_of (strategy_view c.args.self.now.tree)) (past c.work.new.log c.len-self.result (omega (arith, c.len-self.ensures)))

pub returns-in-Ok-make-clause-sound : goal.returns-in-Ok-make-clause-sound
returns-in-Ok-make-clause-sound c =
    let m = c.args.self.now in
    let s = strategy_view m.tree in
    let e = entry c.args.leaf [] (Job c.args.faulty) in
    let a = c.requires.sound.keeps in
    let all = told-all m c.requires.sound c.requires.free in
    let proper = bound-proper s a.suits.leaves_differ c.args.leaf [] c.args.faulty c.requires.leaf in
    let d = done-at (number_of m.mismatch) s (filed m.root) m.log m.out (take m.told m.log) (front m.told m.out) all.0 all.1 a.done in
    let b = more-at m.log m.out (take m.told m.log) (front m.told m.out) c.work.new.out all.0 all.1 c.work.ensures.more in
    let k : c.work.new.log ≡ take m.told m.log ++ e ∷ [] = c.in-Ok.ensures.log ∙ ap (λ l. l ++ e ∷ []) all.0 in
    let done : IsDone (number_of m.mismatch) s (filed c.work.new.root) c.work.new.log c.work.new.out = c.in-Ok.ensures.done (number_of m.mismatch) s a.done in
    let count = c.len-self.ensures ∙ listed-count m.told m.log c.work.new.log e a.told_within k in
    let late : front m.told c.work.new.out ≡ front m.told m.out = more-late m.told (length m.log + 1) m.out c.work.new.out (omega (arith, a.told_within)) c.work.ensures.more in
    record {
      keeps =
          subst (λ j. AreSound s m.mismatch (filed c.work.new.root) c.work.new.log c.work.new.out j m.given) (sym count)
          (made-sound s m.mismatch (filed m.root) m.log m.out m.told m.given e a proper (filed m.root) d (filed c.work.new.root) c.work.new.log c.work.new.out k b done c.requires.new);
      placed = placed-more (strategy_depth (number_of m.mismatch) s) m.places c.make.new.self m.out m.given m.told c.len-before.result c.requires.sound.placed c.make.ensures.deep (c.len-before.ensures ∙ ap length all.1) c.work.new.out late c.in-Ok-make.ensures.ok;
    }

pub returns-in-Err-clause-refused : goal.returns-in-Err-clause-refused
returns-in-Err-clause-refused c =
    let m = c.args.self.now in
    let s = strategy_view m.tree in
    let a = c.requires.sound.keeps in
    let all = told-all m c.requires.sound c.requires.free in
    let logs = undone-log m.told m.log c.work.new.log c.take_back.new.log a.told_within all.0 c.work.ensures.listed c.take_back.ensures.log in
    let outs = undone-out m.told m.log m.out c.work.new.out c.take_back.new.out a.told_within all.1 c.work.ensures.more c.take_back.ensures.out in
    record {
      seen = ap (λ l. seen_as s m.mismatch l c.take_back.new.out m.told m.given) logs ∙ ap (λ o. seen_as s m.mismatch m.log o m.told m.given) outs;
      order = ap (λ o. map outcome_of (front m.told o)) outs;
      ahead = ap (map outcome_of) outs;
    }

pub returns-in-Err-clause-sound : goal.returns-in-Err-clause-sound
returns-in-Err-clause-sound c =
    let m = c.args.self.now in
    let s = strategy_view m.tree in
    let a = c.requires.sound.keeps in
    let all = told-all m c.requires.sound c.requires.free in
    let logs = undone-log m.told m.log c.work.new.log c.take_back.new.log a.told_within all.0 c.work.ensures.listed c.take_back.ensures.log ∙ all.0 in
    let outs = undone-out m.told m.log m.out c.work.new.out c.take_back.new.out a.told_within all.1 c.work.ensures.more c.take_back.ensures.out ∙ all.1 in
    let still = c.work.ensures.still (number_of m.mismatch) s a.done in
    let done = c.take_back.ensures.done (number_of m.mismatch) s (length m.log) a.told_within (listed-long m.log c.work.new.log c.work.ensures.listed) still.0 still.1 in
    record {
      keeps = back-sound_at s m.mismatch (filed m.root) (filed c.take_back.new.root) m.log m.out c.take_back.new.log c.take_back.new.out m.told m.given a logs outs done;
      placed = placed-back (strategy_depth (number_of m.mismatch) s) m.places m.places m.out m.given m.told (length (front m.told m.out)) c.requires.sound.placed refl refl c.take_back.new.out outs (λ h. refl);
    }

pub returns-in-Err-make-clause-refused : goal.returns-in-Err-make-clause-refused
returns-in-Err-make-clause-refused c =
    let m = c.args.self.now in
    let s = strategy_view m.tree in
    let a = c.requires.sound.keeps in
    let all = told-all m c.requires.sound c.requires.free in
    let logs = undone-log m.told m.log c.work.new.log c.take_back-in-Err-make.new.log a.told_within all.0 c.work.ensures.listed c.take_back-in-Err-make.ensures.log in
    let outs = undone-out m.told m.log m.out c.work.new.out c.take_back-in-Err-make.new.out a.told_within all.1 c.work.ensures.more c.take_back-in-Err-make.ensures.out in
    record {
      seen = ap (λ l. seen_as s m.mismatch l c.take_back-in-Err-make.new.out m.told m.given) logs ∙ ap (λ o. seen_as s m.mismatch m.log o m.told m.given) outs;
      order = ap (λ o. map outcome_of (front m.told o)) outs;
      ahead = ap (map outcome_of) outs;
    }

pub returns-in-Err-make-clause-sound : goal.returns-in-Err-make-clause-sound
returns-in-Err-make-clause-sound c =
    let m = c.args.self.now in
    let s = strategy_view m.tree in
    let a = c.requires.sound.keeps in
    let all = told-all m c.requires.sound c.requires.free in
    let logs = undone-log m.told m.log c.work.new.log c.take_back-in-Err-make.new.log a.told_within all.0 c.work.ensures.listed c.take_back-in-Err-make.ensures.log ∙ all.0 in
    let outs = undone-out m.told m.log m.out c.work.new.out c.take_back-in-Err-make.new.out a.told_within all.1 c.work.ensures.more c.take_back-in-Err-make.ensures.out ∙ all.1 in
    let still = c.work.ensures.still (number_of m.mismatch) s a.done in
    let done = c.take_back-in-Err-make.ensures.done (number_of m.mismatch) s (length m.log) a.told_within (listed-long m.log c.work.new.log c.work.ensures.listed) still.0 still.1 in
    record {
      keeps = back-sound_at s m.mismatch (filed m.root) (filed c.take_back-in-Err-make.new.root) m.log m.out c.take_back-in-Err-make.new.log c.take_back-in-Err-make.new.out m.told m.given a logs outs done;
      placed = placed-back (strategy_depth (number_of m.mismatch) s) m.places c.make.new.self m.out m.given m.told c.len-before.result c.requires.sound.placed c.make.ensures.deep (c.len-before.ensures ∙ ap length all.1) c.take_back-in-Err-make.new.out outs c.make.ensures.first;
    }
