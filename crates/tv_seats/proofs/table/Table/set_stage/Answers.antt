use Rattle.std.proofs.Common.{◌≡◌, ◌+◌, ◌<◌, Some, refl, ap, arith, length, length-set, subst, sym, slice_get, ◌∙◌}
use Rattle.std.proofs.lemmas.Bool.{le-leb}
use Rattle.std.proofs.lemmas.Option.{slice_get_read}
use Rattle.tv_seats.specs.declared.table.Row.{Row}
use Rattle.tv_seats.specs.Seats.{with_stage}
use Rattle.tv_seats.specs.Tables.{Rows}
use Rattle.tv_seats.proofs.Laying.{lies-at, set-lies, shown-at, shown-long, shown-set}
use Rattle.tv_seats.proofs.Staging.{as-set}
use Rattle.tv_seats.proofs.table.Table.set_stage.Goals as goal

pub invariant_of-self : goal.invariant_of-self
invariant_of-self c =
    let t = c.self.inside in
    let i = c.self.invariant in
    let at = c.args.at in
    let old : Row = c.index_mut.result.now in
    let inside : at < length t.rows.items = subst (λ m. at < m) (ap (λ (v : Rows). length v.seats) (sym c.self.view_is) ∙ shown-long t.indices.items t.rows.items) c.requires in
    let there : slice_get t.rows.items at ≡ Some old = slice_get_read t.rows.items (length t.rows.items) at old refl inside c.index_mut.ensures.value in
    let new : Row = record old { stage = c.args.stage } in
    let many = length-set t.rows.items at new in
    record {
      inside =
          set-lies t.indices.items t.rows.items at new i.inside
          (le-leb (old.start + old.levels) (length t.indices.items) (lies-at t.indices.items t.rows.items at old i.inside there));
      rows_room = let a = i.rows_room in omega (arith, a, many);
      indices_room = i.indices_room;
      numbers = let a = i.numbers in omega (arith, a, many);
    }

pub returns-clause-seats : goal.returns-clause-seats
returns-clause-seats c =
    let t = c.self.inside in
    let at = c.args.at in
    let old : Row = c.index_mut.result.now in
    let inside : at < length t.rows.items = subst (λ m. at < m) (ap (λ (v : Rows). length v.seats) (sym c.self.view_is) ∙ shown-long t.indices.items t.rows.items) c.requires in
    let there : slice_get t.rows.items at ≡ Some old = slice_get_read t.rows.items (length t.rows.items) at old refl inside c.index_mut.ensures.value in
    let new : Row = record old { stage = c.args.stage } in
    shown-set t.indices.items t.rows.items at new
    ∙ sym (as-set _ _ _ _ (shown-at t.indices.items t.rows.items at old there))
    ∙ ap (λ (v : Rows). with_stage at c.args.stage v.seats) c.self.view_is
