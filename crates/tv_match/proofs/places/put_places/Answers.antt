use Rattle.std.proofs.Common.{rules, ◌≤◌, ◌<◌, ◌++◌, ◌+◌, length, take, drop, ap, ◌∙◌}
use Rattle.tv_match.specs.Entries.{places_of}
use Rattle.tv_match.proofs.Placing.{put-next, put-first, put-end}
use Rattle.tv_match.proofs.places.put_places.Goals as goal

pub loop-at-preserved : goal.loop-at-preserved
loop-at-preserved c =
    let i = c.loop-at.at in
    let v = c.loop-at.invariant in
    let out = c.args.out.now in
    let within : i < length out = search rules in
    record {
      end_is = v.end_is;
      rest =
          ap (λ l. l ++ places_of (drop (i + 1) out)) c.in_ok-push.ensures.items
          ∙ put-next c.loop-at.made.items out i c.in_ok-place.place within (c.in_ok-place.ensures.ok ∙ c.place.ensures)
          ∙ v.rest;
      first = ap (take (length c.args.made.now.items)) c.in_ok-push.ensures.items ∙ put-first c.loop-at.made.items c.args.made.now.items c.in_ok-place.place v.first;
    }

pub returns-clause-ok : goal.returns-clause-ok
returns-clause-ok c =
    let past : length c.args.out.now ≤ c.loop-at.at = search rules in
    put-end c.loop-at.made.items c.args.out.now c.loop-at.at past ∙ c.loop-at.invariant.rest
