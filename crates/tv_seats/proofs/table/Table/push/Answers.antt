use Rattle.std.proofs.Common.{◌≡◌, ◌<◌, ◌≤◌, ◌++◌, ◌∷◌, [], ap, sym, subst, ◌∙◌, length, arith, refl}
use Rattle.std.specs.List.{list_all}
use Rattle.std.proofs.lemmas.List.{length-append}
use Rattle.tv_lemmas.proofs.Numbers.{one_less-times}
use Rattle.tv_seats.specs.declared.stage.Stage.TheVariants as stage
use Rattle.tv_seats.specs.declared.table.Row.{Row}
use Rattle.tv_seats.specs.Laid.{table_seats}
use Rattle.tv_seats.specs.Seats.{new_seat}
use Rattle.tv_seats.specs.Tables.{Rows}
use Rattle.tv_seats.proofs.Laying.{lies, pushed-lies, pushed-shown}
use Rattle.tv_seats.proofs.table.Table.push.Goals as goal

pub invariant_of-self : goal.invariant_of-self
invariant_of-self c =
    let t = c.self.inside in
    let i = c.self.invariant in
    let place = c.args.place.now in
    let r : Row = record { step = c.args.step; start = c.len-start.result; levels = length place; stage = stage.Waiting } in
    let starts : r.start ≡ length t.indices.items = omega (arith, c.len-start.ensures, t.indices.ok.0) in
    let wide : length place ≤ t.widest = subst (λ (v : Rows). length place ≤ v.widest) (sym c.self.view_is) c.requires.width in
    let positive : 0 < t.room = subst (λ (v : Rows). 0 < v.room) (sym c.self.view_is) c.requires.room in
    let rows = c.push_reserved.ensures.items in
    let indices = c.in-Ok.ensures.items in
    let more_rows = ap length rows ∙ length-append t.rows.items (r ∷ []) in
    let more_indices = ap length indices ∙ length-append t.indices.items place in
    record {
      inside =
          ap (list_all (lies c.extend_from_slice.new.self.items)) rows
          ∙ ap (λ is. list_all (lies is) (t.rows.items ++ r ∷ [])) indices
          ∙ pushed-lies t.indices.items place t.rows.items i.inside r starts refl;
      rows_room = let a = i.rows_room in let b = c.push_reserved.ensures.capacity in omega (arith, a, b, more_rows, positive);
      indices_room =
          let a = i.indices_room in
          let b = c.in-Ok.ensures.capacity in
          let e = one_less-times t.room t.widest positive in
          omega (arith, a, b, e, more_indices, wide);
      numbers = let a = i.numbers in omega (arith, a, more_rows, positive);
    }

pub returns-clause-seats : goal.returns-clause-seats
returns-clause-seats c =
    let t = c.self.inside in
    let place = c.args.place.now in
    let r : Row = record { step = c.args.step; start = c.len-start.result; levels = length place; stage = stage.Waiting } in
    let starts : r.start ≡ length t.indices.items = omega (arith, c.len-start.ensures, t.indices.ok.0) in
    ap (table_seats c.extend_from_slice.new.self.items) c.push_reserved.ensures.items
    ∙ ap (λ is. table_seats is (t.rows.items ++ r ∷ [])) c.in-Ok.ensures.items
    ∙ pushed-shown t.indices.items place t.rows.items c.self.invariant.inside r starts refl
    ∙ ap (λ (v : Rows). v.seats ++ new_seat c.args.step place ∷ []) c.self.view_is
