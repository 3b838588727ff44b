use Rattle.std.proofs.Common.{ap, sym, ◌∙◌}
use Rattle.tv_flow.specs.PathViews.{at_view}
use Rattle.tv_flow.specs.Views.{each}
use Rattle.tv_flow.specs.Formed.{is_between, are_named}
use Rattle.tv_flow.proofs.Shapes.{named}
use Rattle.tv_flow.proofs.lists.named.Goals as goal

pub returns-in_ok-entries-in-Some-clause-kept : goal.returns-in_ok-entries-in-Some-clause-kept
returns-in_ok-entries-in-Some-clause-kept g c =
    let seen = each g.T.Formed.seen in
    ap (λ xs. are_named g.T.Formed.keeps c.args.least c.args.most (seen xs)) c.of.ensures
    ∙ named (g.T.Formed.form c.args.format) (at_view c.args.at.now) g.T.Formed.keeps c.args.least c.args.most c.in-Some.members.now.entries (seen c.in_ok-entries-in-Some.entries.items)
    c.in_ok-entries-in-Some.ensures.read
    c.member_count.ensures.ordered
    (sym (ap (λ n. is_between c.args.least c.args.most n) c.member_count.ensures.count) ∙ c.in_ok-counted-in-Some.ensures.kept)
    c.in_ok-entries-in-Some.ensures.kept
