use Rattle.std.proofs.Common.{rules, ◌≡◌, ℕ, ◌+◌, ◌*◌, List, ◌++◌, ◌∷◌, [], length, ap, subst, ◌∙◌, arith, append-nil, length-append}
use Rattle.tv_match.specs.Entries.{entry}
use Rattle.tv_match.specs.Linked.{Agree, Leads}
use Rattle.tv_match.proofs.Linking.{pushed-linked}
use Rattle.tv_match.proofs.found.Found.push.Goals as goal

pub invariant_of-self-in-Ok : goal.invariant_of-self-in-Ok
invariant_of-self-in-Ok c =
    let old = c.self.inside.links.items in
    let es = c.self.inside.bag in
    let fours : List ℕ = 18446744073709551615 ∷ 18446744073709551615 ∷ 18446744073709551615 ∷ 18446744073709551615 ∷ [] in
    let e : c.extend_from_slice.new.self.items ≡ old ++ fours = search rules in
    let l : length c.hang.new.links.items ≡ 4 * length es + 4 = omega (arith, c.hang.ensures.long, ap length e, length-append old fours, c.self.invariant.four) in
    let agree : Agree (length es) (old ++ fours) c.hang.new.links.items = subst (λ x. Agree (length es) x c.hang.new.links.items) e (subst (λ n. Agree n c.extend_from_slice.new.self.items c.hang.new.links.items) c.len-count.ensures c.hang.ensures.agree) in
    let lead : Leads c.hang.new.links.items c.args.place.now (length es) 0 0 = subst (λ n. Leads c.hang.new.links.items c.args.place.now n 0 0) c.len-count.ensures c.hang.ensures.lead in
    pushed-linked old es c.self.invariant fours c.hang.new.links.items (entry c.args.number c.args.place.now c.args.kind) c.push.new.self l c.hang.ensures.rising agree lead (c.in-Ok.ensures.ok ∙ ap (λ q. es ++ entry c.args.number q c.args.kind ∷ []) (append-nil c.args.place.now))
