use Rattle.std.proofs.Common.{rules, ◌≡◌, ◌&&◌, ◌++◌, ◌∷◌, [], ap, sym, subst, ◌∙◌}
use Rattle.std.proofs.lemmas.List.{map-append}
use Rattle.std.specs.List.{list_all}
use Rattle.std.specs.Map.Iter.{deref_pair}
use Rattle.serde_json.specs.View.{view as json_view, members_view}
use Rattle.tv_flow.specs.Complaints.{Path, key}
use Rattle.tv_flow.specs.PathViews.{at_view}
use Rattle.tv_flow.specs.Views.{each}
use Rattle.tv_flow.specs.Answers.{fault_result}
use Rattle.tv_flow.specs.Forms.{is_name, entries_form}
use Rattle.tv_flow.proofs.Places.{at-Key}
use Rattle.tv_flow.proofs.Growing.{put_before, entries_of, entries-more, entries-unnamed, entries-unread, name-same, all-push}
use Rattle.tv_flow.proofs.lists.entries.Goals as goal

pub loop-key-preserved : goal.loop-key-preserved
loop-key-preserved g c =
    let form = g.T.Formed.form c.args.format in
    let seen = g.T.Formed.seen in
    let here = at_view c.args.at.now in
    let things = c.loop-key.things.items in
    let e = deref_pair (c.in-Some.key, c.in-Some.value) in
    let there = at-Key c.args.at c.as_str.result ∙ ap (key here) c.as_str.ensures.value in
    let named = sym (name-same there c.as_str-in-loop-key.ensures.value) ∙ c.in_ok-name.ensures.read in
    let read = ap (λ (p : Path). form p (json_view c.in-Some.value.now)) (sym there) ∙ c.in_ok-thing.ensures.read in
    let a = seen c.in_ok-thing.thing in
    let grown : each seen c.push.new.self.items ≡ each seen things ++ (c.in_ok-name.name, a) ∷ [] = ap (each seen) c.in_ok-push.ensures.items ∙ map-append (λ p. (p.0, seen p.1)) things ((c.in_ok-name.name, c.in_ok-thing.thing) ∷ []) in
    record {
      read =
          c.loop-key.invariant.read
          ∙ entries-more form here c.loop-key.key-iterator c.next.new.self e (each seen things) c.in_ok-name.name a c.in-Some.ensures.steps named read
          ∙ ap (λ ps. put_before ps (entries_of form here c.next.new.self)) (sym grown);
      kept =
          ap (list_all (λ p. is_name p.0 && g.T.Formed.keeps p.1)) grown
          ∙ all-push (λ p. is_name p.0 && g.T.Formed.keeps p.1) (each seen things) (c.in_ok-name.name, a) c.loop-key.invariant.kept (ap (λ b. b && g.T.Formed.keeps a) c.in_ok-name.ensures.kept ∙ c.in_ok-thing.ensures.kept);
      fits =
          ap (list_all (λ p. g.T.Formed.fits c.args.format p.1)) grown
          ∙ all-push (λ p. g.T.Formed.fits c.args.format p.1) (each seen things) (c.in_ok-name.name, a) c.loop-key.invariant.fits c.in_ok-thing.ensures.fits;
    }

pub returns-in_err-name-clause-read : goal.returns-in_err-name-clause-read
returns-in_err-name-clause-read g c =
    let form = g.T.Formed.form c.args.format in
    let here = at_view c.args.at.now in
    let things = each g.T.Formed.seen c.loop-key.things.items in
    let e = deref_pair (c.in-Some.key, c.in-Some.value) in
    let f = c.in_err-name.field-0.0 in
    let there = at-Key c.args.at c.as_str.result ∙ ap (key here) c.as_str.ensures.value in
    let unnamed = subst (λ r. r ≡ fault_result f r) (name-same there c.as_str-in-loop-key.ensures.value) c.in_err-name.ensures.read in
    let whole = c.loop-key.invariant.read in
    let h : entries_form form here (members_view c.args.members.now.entries) ≡ fault_result f (entries_form form here (members_view c.args.members.now.entries)) =
    whole ∙ entries-unnamed form here c.loop-key.key-iterator c.next.new.self e things f c.in-Some.ensures.steps unnamed ∙ ap (fault_result f) (sym whole) in
    search rules

pub returns-in_err-thing-clause-read : goal.returns-in_err-thing-clause-read
returns-in_err-thing-clause-read g c =
    let form = g.T.Formed.form c.args.format in
    let here = at_view c.args.at.now in
    let things = each g.T.Formed.seen c.loop-key.things.items in
    let e = deref_pair (c.in-Some.key, c.in-Some.value) in
    let f = c.in_err-thing.field-0.0 in
    let there = at-Key c.args.at c.as_str.result ∙ ap (key here) c.as_str.ensures.value in
    let named = sym (name-same there c.as_str-in-loop-key.ensures.value) ∙ c.in_ok-name.ensures.read in
    let unread = subst (λ r. r ≡ fault_result f r) (ap (λ (p : Path). form p (json_view c.in-Some.value.now)) there) c.in_err-thing.ensures.read in
    let whole = c.loop-key.invariant.read in
    let h : entries_form form here (members_view c.args.members.now.entries) ≡ fault_result f (entries_form form here (members_view c.args.members.now.entries)) =
    whole ∙ entries-unread form here c.loop-key.key-iterator c.next.new.self e things c.in_ok-name.name f c.in-Some.ensures.steps named unread ∙ ap (fault_result f) (sym whole) in
    search rules
