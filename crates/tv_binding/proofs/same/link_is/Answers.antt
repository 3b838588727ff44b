use Rattle.std.proofs.Common.{◌≡◌, ◌<◌, ◌≤◌, ◌^◌, ℕ, Some, is_some, length, sym, ap, ◌∙◌, subst, arith}
use Rattle.std.specs.Prelude.{◌↔◌, IsTrue}
use Rattle.std.proofs.Math.Facts.{Fits-of_lt}
use Rattle.std.proofs.lemmas.List.{length-map}
use Rattle.tv_value.specs.Nested.{at}
use Rattle.tv_value.specs.Views.{view}
use Rattle.tv_cell.specs.PieceValues.{piece_value}
use Rattle.tv_cell.specs.Soundness.{IsSound}
use Rattle.tv_cell.proofs.PieceLemmas.{piece-sound}
use Rattle.tv_outputs.specs.Known.{known, known_of}
use Rattle.tv_outputs.proofs.Comparing.{told-of}
use Rattle.tv_binding.specs.Found.{link_found}
use Rattle.tv_binding.specs.Sourced.{known_by}
use Rattle.tv_binding.proofs.SourceLemmas.{input-within, input-is, output-there}
use Rattle.tv_binding.proofs.same.link_is.Goals as goal

-- ---- an input

pub part_stands_for-requires : goal.part_stands_for-requires
part_stands_for-requires c =
    let s = c.args.sources.now in
    let q = c.args.place.now in
    let n = c.in-Input.number in
    let h = sym (ap (λ l. is_some (link_found (known_by s) l q)) c.in-Input.is) ∙ c.requires.found in
    subst IsSound c.index-sources-number.is (piece-sound s.inputs.now n c.index-sources-number.result (input-within s.inputs.now n q h) c.index-sources-number.is c.requires.stand.sound)

pub returns-in-Input : goal.returns-in-Input
returns-in-Input c =
    let s = c.args.sources.now in
    let q = c.args.place.now in
    let n = c.in-Input.number in
    let x = c.index-sources-number.result in
    let h = sym (ap (λ l. is_some (link_found (known_by s) l q)) c.in-Input.is) ∙ c.requires.found in
    told-of _ (link_found (known_by s) c.args.link.now q) (view c.args.value.now) c.part_stands_for.result c.part_stands_for.ensures
    (ap (λ l. link_found (known_by s) l q) c.in-Input.is ∙ input-is s.inputs.now n q x (input-within s.inputs.now n q h) c.index-sources-number.is ∙ ap (λ y. at (piece_value y) q) c.index-sources-number.is)

-- ---- an output

pub bounds-sources-step : goal.bounds-sources-step
bounds-sources-step c =
    let s = c.args.sources.now in
    let q = c.args.place.now in
    (output-there (known s.pool.now s.outputs.now) s.firsts.now c.in-Output.step c.in-Output.output q (sym (ap (λ l. is_some (link_found (known_by s) l q)) c.in-Output.is) ∙ c.requires.found)).step

pub overflow_add-number : goal.overflow_add-number
overflow_add-number c =
    let s = c.args.sources.now in
    let q = c.args.place.now in
    let h = (output-there (known s.pool.now s.outputs.now) s.firsts.now c.in-Output.step c.in-Output.output q (sym (ap (λ l. is_some (link_found (known_by s) l q)) c.in-Output.is) ∙ c.requires.found)).tree in
    let ts = s.outputs.now.trees in
    Fits-of_lt (small _ (length (known s.pool.now s.outputs.now)) (length ts.items) ts.len ts.cap h (length-map ts.items (known_of s.pool.now)) ts.ok.0 ts.ok.1 ts.small)
  where
    small : (n k m l c : ℕ) → n < k → k ≡ m → l ≡ m → l ≤ c → c < 2 ^ 63 → n < 2 ^ 64
    small n k m l c h e f g i = omega arith

pub stands_at-requires-clause-there : goal.stands_at-requires-clause-there
stands_at-requires-clause-there c =
    let s = c.args.sources.now in
    let q = c.args.place.now in
    (output-there (known s.pool.now s.outputs.now) s.firsts.now c.in-Output.step c.in-Output.output q (sym (ap (λ l. is_some (link_found (known_by s) l q)) c.in-Output.is) ∙ c.requires.found)).tree

pub returns-in-Output : goal.returns-in-Output
returns-in-Output c =
    let s = c.args.sources.now in
    let q = c.args.place.now in
    let trees = known s.pool.now s.outputs.now in
    let h = sym (ap (λ l. is_some (link_found (known_by s) l q)) c.in-Output.is) ∙ c.requires.found in
    let r = output-there trees s.firsts.now c.in-Output.step c.in-Output.output q h in
    subst (λ o. IsTrue c.stands_at.result ↔ (o ≡ Some (view c.args.value.now))) (sym (ap (λ l. link_found (known_by s) l q) c.in-Output.is ∙ r.is)) c.stands_at.ensures
