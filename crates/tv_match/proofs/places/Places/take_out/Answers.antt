use Rattle.std.proofs.Common.{[]}
use Rattle.std.proofs.lemmas.List.{get_or-set_other, length-set}
use Rattle.tv_match.proofs.places.Places.take_out.Goals as goal

pub returns-then-self-clause-others : goal.returns-then-self-clause-others
returns-then-self-clause-others c =
    let ps = c.args.self.now.made.items in
    let p = c.replace.new.dest in
    record { length_is = length-set ps c.args.at p; stay = λ i h. get_or-set_other ps c.args.at i p [] h }
