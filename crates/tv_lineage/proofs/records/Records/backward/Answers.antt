use Rattle.std.proofs.Common.{arith, length, map, ◌∙◌, ◌≡◌}
use Rattle.std.specs.BTreeMap.{get}
use Rattle.std.proofs.lemmas.Result.{IfOk-weaker}
use Rattle.tv_value.specs.Orders.{job_name_cmp}
use Rattle.tv_lineage.specs.SearchViews.{search_view}
use Rattle.tv_lineage.specs.Views.{mark_part}
use Rattle.tv_lineage.proofs.Calling.{begun, begun-inside, found-all, next-inside, next-search, next-short}
use Rattle.tv_lineage.proofs.records.Records.backward.Goals as goal

pub see_marks-requires : goal.see_marks-requires
see_marks-requires c =
    let long : c.len.result ≡ length c.self.inside.entries.items = omega (arith, c.self.inside.entries.ok.0, c.len.ensures) in
    record { inside = begun-inside (get job_name_cmp c.self.inside.numbers) c.self.inside.entries.items c.self.invariant c.as_slice.result.now c.len.result long (search_view c.in_ok-search.search) c.in_ok-search.ensures }

pub loop-number-init : goal.loop-number-init
loop-number-init c =
    let long : c.len.result ≡ length c.self.inside.entries.items = omega (arith, c.self.inside.entries.ok.0, c.len.ensures) in
    begun (get job_name_cmp c.self.inside.numbers) c.self.inside.entries.items c.self.invariant c.as_slice.result.now c.args.used.now c.as_slice.ensures c.len.result long (search_view c.in_ok-search.search) (search_view c.see_marks.new.self) c.in_ok-search.ensures c.in_ok-see_marks.ensures

pub index-entry-requires : goal.index-entry-requires
index-entry-requires c =
    let w = next-short (get job_name_cmp c.self.inside.numbers) c.self.inside.entries.items c.self.invariant (map mark_part c.args.used.now) (search_view c.loop-number.search) (search_view c.next.new.self) c.in-Some.number c.in-Some.ensures.some c.next.ensures.others c.loop-number.invariant in
    omega (arith, w, c.self.inside.entries.ok.0)

pub see_parts-requires : goal.see_parts-requires
see_parts-requires c = record { inside = next-inside (get job_name_cmp c.self.inside.numbers) c.self.inside.entries.items c.self.invariant (map mark_part c.args.used.now) (search_view c.loop-number.search) (search_view c.next.new.self) c.in-Some.number c.in-Some.ensures.some c.next.ensures.others c.loop-number.invariant c.index-entry.result.now c.index-entry.ensures c.as_slice-in-Some.result.now c.as_slice-in-Some.ensures }

pub loop-number-preserved : goal.loop-number-preserved
loop-number-preserved c = next-search (get job_name_cmp c.self.inside.numbers) c.self.inside.entries.items c.self.invariant (map mark_part c.args.used.now) (search_view c.loop-number.search) (search_view c.next.new.self) c.in-Some.number c.in-Some.ensures.some c.next.ensures.others c.loop-number.invariant c.index-entry.result.now c.index-entry.ensures c.as_slice-in-Some.result.now c.as_slice-in-Some.ensures (search_view c.see_parts.new.self) c.in_ok-see_parts.ensures

pub returns : goal.returns
returns c = IfOk-weaker c.into_labels.result _ _ (λ ls e. e ∙ found-all (get job_name_cmp c.self.inside.numbers) c.self.inside.entries.items c.self.invariant c.args.used.now (search_view c.loop-number.search) (search_view c.next.new.self) (c.next.ensures.none c.in_default.is) c.next.ensures.others c.loop-number.invariant c.args.self.now c.self.view_is) c.into_labels.ensures
