use Rattle.std.proofs.Common.{refl, ◌++◌, sym, ap, subst, ◌∙◌}
use Rattle.std.proofs.lemmas.Result.{on_ok_weaker}
use Rattle.tv_matching.specs.Stores.{dot_store, told_by, gain, grown}
use Rattle.tv_match.specs.Entries.{kepts}
use Rattle.tv_match.specs.Filed.{filed, kept_store, news_view, rests_view, Adds}
use Rattle.tv_match.specs.Brief.{briefs, brief_store}
use Rattle.tv_match.proofs.Briefly.{kepts-brief}
use Rattle.tv_match.proofs.Putting.{more-none}
use Rattle.tv_match.proofs.Filing.{filed-is_cross, filed-is_dot, adds-none, cross-adds, dot-adds, fresh-gain, cross-items, dot-items, cross-store, dot-store}
use Rattle.tv_match.proofs.stores.Store.+tell.Goals as goal

pub returns-in_err-tell-in-Cross-clause-adds : goal.returns-in_err-tell-in-Cross-clause-adds
returns-in_err-tell-in-Cross-clause-adds t c =
    cross-adds c.args.news.now.number c.args.self.now c.in-Cross.ends c.in-Cross.rests c.in-Cross.ends c.in-Cross.rests c.in-Cross.fresh c.tell.new.out c.in-Cross.first c.in-Cross.rest _ _ c.in-Cross.is (more-none c.args.news.now.number c.in-Cross.ends) (more-none c.args.news.now.number c.in-Cross.rests) (subst (λ s. Adds c.args.news.now.number (filed s) (filed c.tell.new.self)) c.deref_mut.ensures.value c.tell.ensures.adds) (adds-none c.args.news.now.number (filed c.in-Cross.rest.value))

pub returns-in_err-cross_first-in-Cross-clause-adds : goal.returns-in_err-cross_first-in-Cross-clause-adds
returns-in_err-cross_first-in-Cross-clause-adds t c =
    cross-adds c.args.news.now.number c.args.self.now c.in-Cross.ends c.in-Cross.rests c.cross_first.new.ends c.in-Cross.rests c.in-Cross.fresh c.tell.new.out c.in-Cross.first c.in-Cross.rest _ _ c.in-Cross.is c.cross_first.ensures.more_ends (more-none c.args.news.now.number c.in-Cross.rests) (subst (λ s. Adds c.args.news.now.number (filed s) (filed c.tell.new.self)) c.deref_mut.ensures.value c.tell.ensures.adds) (adds-none c.args.news.now.number (filed c.in-Cross.rest.value))

pub returns-in_err-tell-in-Cross-2-clause-adds : goal.returns-in_err-tell-in-Cross-2-clause-adds
returns-in_err-tell-in-Cross-2-clause-adds t c =
    cross-adds c.args.news.now.number c.args.self.now c.in-Cross.ends c.in-Cross.rests c.cross_first.new.ends c.in-Cross.rests c.in-Cross.fresh c.tell-in-Cross.new.out c.in-Cross.first c.in-Cross.rest _ _ c.in-Cross.is c.cross_first.ensures.more_ends (more-none c.args.news.now.number c.in-Cross.rests) (subst (λ s. Adds c.args.news.now.number (filed s) (filed c.tell.new.self)) c.deref_mut.ensures.value c.tell.ensures.adds) (subst (λ s. Adds c.args.news.now.number (filed s) (filed c.tell-in-Cross.new.self)) c.deref_mut-in-Cross.ensures.value c.tell-in-Cross.ensures.adds)

pub returns-in_ok-tell-in-Cross-2-clause-adds : goal.returns-in_ok-tell-in-Cross-2-clause-adds
returns-in_ok-tell-in-Cross-2-clause-adds t c =
    cross-adds c.args.news.now.number c.args.self.now c.in-Cross.ends c.in-Cross.rests c.cross_first.new.ends c.cross_rest.new.rests c.in-Cross.fresh c.tell-in-Cross.new.out c.in-Cross.first c.in-Cross.rest _ _ c.in-Cross.is c.cross_first.ensures.more_ends c.cross_rest.ensures.more_rests (subst (λ s. Adds c.args.news.now.number (filed s) (filed c.tell.new.self)) c.deref_mut.ensures.value c.tell.ensures.adds) (subst (λ s. Adds c.args.news.now.number (filed s) (filed c.tell-in-Cross.new.self)) c.deref_mut-in-Cross.ensures.value c.tell-in-Cross.ensures.adds)

pub returns-in_ok-tell-in-Cross-2-clause-items : goal.returns-in_ok-tell-in-Cross-2-clause-items
returns-in_ok-tell-in-Cross-2-clause-items t c =
    let new = told_by (news_view c.args.news.now) in
    let x = fresh-gain c.in-Cross.fresh c.truncate.new.self c.tell.new.out _ c.truncate.ensures c.in_ok-tell-in-Cross.ensures.items ∙ ap (λ s. briefs (gain new (kept_store kepts (filed s)))) c.deref_mut.ensures.value in
    let y = fresh-gain c.tell.new.out c.truncate-in-Cross.new.self c.tell-in-Cross.new.out _ c.truncate-in-Cross.ensures c.in_ok-tell-in-Cross-2.ensures.items ∙ ap (λ s. briefs (gain new (kept_store kepts (filed s)))) c.deref_mut-in-Cross.ensures.value in
    let old = ap (kept_store kepts) (ap filed c.in-Cross.is ∙ filed-is_cross c.in-Cross.ends c.in-Cross.rests c.in-Cross.fresh c.in-Cross.first c.in-Cross.rest) in
    on_ok_weaker c.cross_rest.result (λ h. cross-items new (kept_store kepts (filed c.in-Cross.first.value)) (kept_store kepts (filed c.in-Cross.rest.value)) (kept_store kepts (filed c.tell.new.self)) (kept_store kepts (filed c.tell-in-Cross.new.self)) (kepts c.tell.new.out) (kepts c.tell-in-Cross.new.out) x y (kepts c.in-Cross.ends) (kepts c.in-Cross.rests) (kepts c.cross_first.new.ends) (kepts c.args.out.now) (kepts c.cross_first.new.out) (kepts c.cross_rest.new.out) c.in_ok-cross_first-in-Cross.ensures.keeps c.in_ok-cross_first-in-Cross.ensures.items h ∙ ap (λ s. kepts c.args.out.now ++ briefs (gain new s)) (sym old)) c.cross_rest.ensures.items

pub returns-in_ok-tell-in-Cross-2-clause-store : goal.returns-in_ok-tell-in-Cross-2-clause-store
returns-in_ok-tell-in-Cross-2-clause-store t c =
    let new = told_by (news_view c.args.news.now) in
    let x = fresh-gain c.in-Cross.fresh c.truncate.new.self c.tell.new.out _ c.truncate.ensures c.in_ok-tell-in-Cross.ensures.items ∙ ap (λ s. briefs (gain new (kept_store kepts (filed s)))) c.deref_mut.ensures.value in
    let y = fresh-gain c.tell.new.out c.truncate-in-Cross.new.self c.tell-in-Cross.new.out _ c.truncate-in-Cross.ensures c.in_ok-tell-in-Cross-2.ensures.items ∙ ap (λ s. briefs (gain new (kept_store kepts (filed s)))) c.deref_mut-in-Cross.ensures.value in
    let old = ap (kept_store kepts) (ap filed c.in-Cross.is ∙ filed-is_cross c.in-Cross.ends c.in-Cross.rests c.in-Cross.fresh c.in-Cross.first c.in-Cross.rest) in
    on_ok_weaker c.cross_rest.result (λ h. ap (kept_store kepts) (filed-is_cross c.cross_first.new.ends c.cross_rest.new.rests c.tell-in-Cross.new.out _ _) ∙ cross-store new (kept_store kepts (filed c.in-Cross.first.value)) (kept_store kepts (filed c.in-Cross.rest.value)) (kept_store kepts (filed c.tell.new.self)) (kept_store kepts (filed c.tell-in-Cross.new.self)) (kepts c.tell.new.out) (kepts c.tell-in-Cross.new.out) x y (c.in_ok-tell-in-Cross.ensures.store ∙ ap (λ s. brief_store (grown new (kept_store kepts (filed s)))) c.deref_mut.ensures.value) (c.in_ok-tell-in-Cross-2.ensures.store ∙ ap (λ s. brief_store (grown new (kept_store kepts (filed s)))) c.deref_mut-in-Cross.ensures.value) (kepts c.in-Cross.ends) (kepts c.in-Cross.rests) (kepts c.cross_first.new.ends) (kepts c.cross_rest.new.rests) (kepts-brief c.in-Cross.ends) (kepts-brief c.in-Cross.rests) c.in_ok-cross_first-in-Cross.ensures.keeps h ∙ ap (λ s. brief_store (grown new s)) (sym old)) c.cross_rest.ensures.keeps

pub returns-in_err-tell-in-Dot-clause-adds : goal.returns-in_err-tell-in-Dot-clause-adds
returns-in_err-tell-in-Dot-clause-adds t c =
    dot-adds c.args.news.now.number c.args.self.now c.in-Dot.firsts c.in-Dot.firsts c.in-Dot.rests c.in-Dot.rests c.in-Dot.fresh c.tell-in-Dot.new.out c.in-Dot.first c.in-Dot.rest _ _ c.in-Dot.is (more-none c.args.news.now.number c.in-Dot.firsts) (more-none c.args.news.now.number (rests_view c.in-Dot.rests).items) refl (subst (λ s. Adds c.args.news.now.number (filed s) (filed c.tell-in-Dot.new.self)) c.deref_mut-in-Dot.ensures.value c.tell-in-Dot.ensures.adds) (adds-none c.args.news.now.number (filed c.in-Dot.rest.value))

pub returns-in_err-dot_first-in-Dot-clause-adds : goal.returns-in_err-dot_first-in-Dot-clause-adds
returns-in_err-dot_first-in-Dot-clause-adds t c =
    dot-adds c.args.news.now.number c.args.self.now c.in-Dot.firsts c.dot_first.new.firsts c.in-Dot.rests c.in-Dot.rests c.in-Dot.fresh c.tell-in-Dot.new.out c.in-Dot.first c.in-Dot.rest _ _ c.in-Dot.is c.dot_first.ensures.more_firsts (more-none c.args.news.now.number (rests_view c.in-Dot.rests).items) refl (subst (λ s. Adds c.args.news.now.number (filed s) (filed c.tell-in-Dot.new.self)) c.deref_mut-in-Dot.ensures.value c.tell-in-Dot.ensures.adds) (adds-none c.args.news.now.number (filed c.in-Dot.rest.value))

pub returns-in_err-tell-in-Dot-2-clause-adds : goal.returns-in_err-tell-in-Dot-2-clause-adds
returns-in_err-tell-in-Dot-2-clause-adds t c =
    dot-adds c.args.news.now.number c.args.self.now c.in-Dot.firsts c.dot_first.new.firsts c.in-Dot.rests c.in-Dot.rests c.in-Dot.fresh c.tell-in-Dot-2.new.out c.in-Dot.first c.in-Dot.rest _ _ c.in-Dot.is c.dot_first.ensures.more_firsts (more-none c.args.news.now.number (rests_view c.in-Dot.rests).items) refl (subst (λ s. Adds c.args.news.now.number (filed s) (filed c.tell-in-Dot.new.self)) c.deref_mut-in-Dot.ensures.value c.tell-in-Dot.ensures.adds) (subst (λ s. Adds c.args.news.now.number (filed s) (filed c.tell-in-Dot-2.new.self)) c.deref_mut-in-Dot-2.ensures.value c.tell-in-Dot-2.ensures.adds)

pub returns-in_ok-tell-in-Dot-2-clause-adds : goal.returns-in_ok-tell-in-Dot-2-clause-adds
returns-in_ok-tell-in-Dot-2-clause-adds t c =
    dot-adds c.args.news.now.number c.args.self.now c.in-Dot.firsts c.dot_first.new.firsts c.in-Dot.rests c.dot_rest.new.rests c.in-Dot.fresh c.tell-in-Dot-2.new.out c.in-Dot.first c.in-Dot.rest _ _ c.in-Dot.is c.dot_first.ensures.more_firsts c.dot_rest.ensures.more_rests c.dot_rest.ensures.key (subst (λ s. Adds c.args.news.now.number (filed s) (filed c.tell-in-Dot.new.self)) c.deref_mut-in-Dot.ensures.value c.tell-in-Dot.ensures.adds) (subst (λ s. Adds c.args.news.now.number (filed s) (filed c.tell-in-Dot-2.new.self)) c.deref_mut-in-Dot-2.ensures.value c.tell-in-Dot-2.ensures.adds)

pub returns-in_ok-tell-in-Dot-2-clause-items : goal.returns-in_ok-tell-in-Dot-2-clause-items
returns-in_ok-tell-in-Dot-2-clause-items t c =
    let new = told_by (news_view c.args.news.now) in
    let x = fresh-gain c.in-Dot.fresh c.truncate-in-Dot.new.self c.tell-in-Dot.new.out _ c.truncate-in-Dot.ensures c.in_ok-tell-in-Dot.ensures.items ∙ ap (λ s. briefs (gain new (kept_store kepts (filed s)))) c.deref_mut-in-Dot.ensures.value in
    let y = fresh-gain c.tell-in-Dot.new.out c.truncate-in-Dot-2.new.self c.tell-in-Dot-2.new.out _ c.truncate-in-Dot-2.ensures c.in_ok-tell-in-Dot-2.ensures.items ∙ ap (λ s. briefs (gain new (kept_store kepts (filed s)))) c.deref_mut-in-Dot-2.ensures.value in
    let old = ap (kept_store kepts) (ap filed c.in-Dot.is ∙ filed-is_dot c.in-Dot.firsts c.in-Dot.rests c.in-Dot.fresh c.in-Dot.first c.in-Dot.rest) in
    on_ok_weaker c.dot_rest.result (λ h. dot-items new (kept_store kepts (filed c.in-Dot.first.value)) (kept_store kepts (filed c.in-Dot.rest.value)) (kept_store kepts (filed c.tell-in-Dot.new.self)) (kept_store kepts (filed c.tell-in-Dot-2.new.self)) (kepts c.tell-in-Dot.new.out) (kepts c.tell-in-Dot-2.new.out) x y (rests_view c.in-Dot.rests).key (kepts c.in-Dot.firsts) (kepts (rests_view c.in-Dot.rests).items) (kepts c.dot_first.new.firsts) (kepts c.args.out.now) (kepts c.dot_first.new.out) (kepts c.dot_rest.new.out) c.in_ok-dot_first-in-Dot.ensures.keeps c.in_ok-dot_first-in-Dot.ensures.items h ∙ ap (λ s. kepts c.args.out.now ++ briefs (gain new s)) (sym old)) c.dot_rest.ensures.items

pub returns-in_ok-tell-in-Dot-2-clause-store : goal.returns-in_ok-tell-in-Dot-2-clause-store
returns-in_ok-tell-in-Dot-2-clause-store t c =
    let new = told_by (news_view c.args.news.now) in
    let x = fresh-gain c.in-Dot.fresh c.truncate-in-Dot.new.self c.tell-in-Dot.new.out _ c.truncate-in-Dot.ensures c.in_ok-tell-in-Dot.ensures.items ∙ ap (λ s. briefs (gain new (kept_store kepts (filed s)))) c.deref_mut-in-Dot.ensures.value in
    let y = fresh-gain c.tell-in-Dot.new.out c.truncate-in-Dot-2.new.self c.tell-in-Dot-2.new.out _ c.truncate-in-Dot-2.ensures c.in_ok-tell-in-Dot-2.ensures.items ∙ ap (λ s. briefs (gain new (kept_store kepts (filed s)))) c.deref_mut-in-Dot-2.ensures.value in
    let old = ap (kept_store kepts) (ap filed c.in-Dot.is ∙ filed-is_dot c.in-Dot.firsts c.in-Dot.rests c.in-Dot.fresh c.in-Dot.first c.in-Dot.rest) in
    on_ok_weaker c.dot_rest.result (λ h. ap (kept_store kepts) (filed-is_dot c.dot_first.new.firsts c.dot_rest.new.rests c.tell-in-Dot-2.new.out _ _) ∙ ap (λ k. dot_store k (kepts c.dot_first.new.firsts) (kepts (rests_view c.dot_rest.new.rests).items) (kept_store kepts (filed c.tell-in-Dot.new.self)) (kept_store kepts (filed c.tell-in-Dot-2.new.self))) c.dot_rest.ensures.key ∙ dot-store new (kept_store kepts (filed c.in-Dot.first.value)) (kept_store kepts (filed c.in-Dot.rest.value)) (kept_store kepts (filed c.tell-in-Dot.new.self)) (kept_store kepts (filed c.tell-in-Dot-2.new.self)) (kepts c.tell-in-Dot.new.out) (kepts c.tell-in-Dot-2.new.out) x y (c.in_ok-tell-in-Dot.ensures.store ∙ ap (λ s. brief_store (grown new (kept_store kepts (filed s)))) c.deref_mut-in-Dot.ensures.value) (c.in_ok-tell-in-Dot-2.ensures.store ∙ ap (λ s. brief_store (grown new (kept_store kepts (filed s)))) c.deref_mut-in-Dot-2.ensures.value) (rests_view c.in-Dot.rests).key (kepts c.in-Dot.firsts) (kepts (rests_view c.in-Dot.rests).items) (kepts c.dot_first.new.firsts) (kepts (rests_view c.dot_rest.new.rests).items) (kepts-brief c.in-Dot.firsts) (kepts-brief (rests_view c.in-Dot.rests).items) c.in_ok-dot_first-in-Dot.ensures.keeps h ∙ ap (λ s. brief_store (grown new s)) (sym old)) c.dot_rest.ensures.keeps
