use Rattle.std.proofs.Common.{◌≡◌, [], ◌∷◌, ◌+◌, drop, map, Ok, Err, ap, sym, subst, ◌∙◌, arith}
use Rattle.std.proofs.lemmas.List.{map-append}
use Rattle.serde_json.specs.View.{view as json_view, items_view as json_items}
use Rattle.tv_value.specs.Readings.{read, read_items, read_list, ragged}
use Rattle.tv_value.specs.Views.{view}
use Rattle.tv_value.specs.Answers.{IsReading, IsFault}
use Rattle.tv_value.proofs.ItemLemmas.{items_view-each}
use Rattle.tv_value.proofs.ReadingLemmas.{put_before, read_short, read_long, read_step, read_end, fault_through}
use Rattle.tv_value.proofs.reading.+reading.Goals as goal

pub items_of-loop-index-preserved : goal.items_of-loop-index-preserved
items_of-loop-index-preserved t c =
    let xs = c.args.items.now.items in
    let i = c.loop-index.index in
    let vs = map view c.loop-index.values.items in
    c.loop-index.invariant
    ∙ read_step xs i c.index.result.now vs (view c.in-Ok.value) (omega (arith, c.args.items.now.ok.0, c.len-index-end.ensures, c.loop-index-test.true)) (subst (λ j. read (json_view j) ≡ Ok (view c.in-Ok.value)) c.index.ensures c.in-Ok.ensures)
    ∙ ap (λ ys. put_before ys (read_items (i + 1) (json_items (drop (i + 1) xs)))) (sym (ap (map view) c.in_ok-push-in-Ok.ensures.items ∙ map-append view c.loop-index.values.items (c.in-Ok.value ∷ [])))

pub items_of-returns : goal.items_of-returns
items_of-returns t c =
    c.loop-index.invariant
    ∙ read_end c.args.items.now.items c.loop-index.index (map view c.loop-index.values.items) (omega (arith, c.args.items.now.ok.0, c.len-index-end.ensures, c.loop-index-test.false))
    ∙ ap Ok (sym (items_view-each _))

pub list_of-returns-then-len : goal.list_of-returns-then-len
list_of-returns-then-len t c =
    read_long c.args.items.now.items (omega (arith, c.args.items.now.ok.0, c.len.ensures, c.if-len.true)) ∙ ap (λ p. Err (ragged p)) (sym c.top.ensures)

pub list_of-returns-in-Ok : goal.list_of-returns-in-Ok
list_of-returns-in-Ok t c =
    let xs = c.args.items.now.items in
    subst (λ r. IsReading c.with_depth.result r) (sym (read_short xs (omega (arith, c.args.items.now.ok.0, c.len.ensures, c.if-len.false)) ∙ ap read_list c.in-Ok.ensures)) c.with_depth.ensures

pub list_of-returns-in-Err : goal.list_of-returns-in-Err
list_of-returns-in-Err t c =
    let xs = c.args.items.now.items in
    subst (λ r. IsFault c.in-Err.fault r) (sym (read_short xs (omega (arith, c.args.items.now.ok.0, c.len.ensures, c.if-len.false)))) (fault_through c.in-Err.fault (read_items 0 (json_items xs)) c.in-Err.ensures)
