use Rattle.std.proofs.Common.{◌≡◌, ◌<◌, ◌≤◌, ◌^◌, ℕ, is_some, length, sym, ap, ◌∙◌, subst, arith}
use Rattle.std.proofs.Math.Facts.{Fits-of_lt}
use Rattle.std.proofs.lemmas.Result.{IfOk-weaker}
use Rattle.std.proofs.lemmas.List.{length-map}
use Rattle.tv_cell.specs.declared.piece.Piece.{Piece}
use Rattle.tv_value.specs.Nested.{at}
use Rattle.tv_cell.specs.PieceValues.{piece_value}
use Rattle.tv_cell.specs.Soundness.{IsSound}
use Rattle.tv_cell.proofs.PieceLemmas.{piece-sound}
use Rattle.tv_outputs.specs.Known.{known, known_of}
use Rattle.tv_binding.specs.Found.{link_found}
use Rattle.tv_binding.specs.Sourced.{known_by}
use Rattle.tv_binding.proofs.SourceLemmas.{input-within, input-is, output-there}
use Rattle.tv_binding.proofs.sources.link_piece.Goals as goal

pub bounds-sources-step : goal.bounds-sources-step
bounds-sources-step c =
    let s = c.args.sources.now in
    let q = c.args.place.now in
    (output-there (known s.pool.now s.outputs.now) s.firsts.now c.in-Output.step c.in-Output.output q (sym (ap (λ l. is_some (link_found (known_by s) l q)) c.in-Output.is) ∙ c.requires.found)).step

pub overflow_add-number : goal.overflow_add-number
overflow_add-number c =
    let s = c.args.sources.now in
    let q = c.args.place.now in
    let h = (output-there (known s.pool.now s.outputs.now) s.firsts.now c.in-Output.step c.in-Output.output q (sym (ap (λ l. is_some (link_found (known_by s) l q)) c.in-Output.is) ∙ c.requires.found)).tree in
    let ts = s.outputs.now.trees in
    Fits-of_lt (small _ (length (known s.pool.now s.outputs.now)) (length ts.items) ts.len ts.cap h (length-map ts.items (known_of s.pool.now)) ts.ok.0 ts.ok.1 ts.small)
  where
    small : (n k m l c : ℕ) → n < k → k ≡ m → l ≡ m → l ≤ c → c < 2 ^ 63 → n < 2 ^ 64
    small n k m l c h e f g i = omega arith

pub piece_at-requires-clause-there : goal.piece_at-requires-clause-there
piece_at-requires-clause-there c =
    let s = c.args.sources.now in
    let q = c.args.place.now in
    (output-there (known s.pool.now s.outputs.now) s.firsts.now c.in-Output.step c.in-Output.output q (sym (ap (λ l. is_some (link_found (known_by s) l q)) c.in-Output.is) ∙ c.requires.found)).tree

pub piece_at-requires-clause-found : goal.piece_at-requires-clause-found
piece_at-requires-clause-found c =
    let s = c.args.sources.now in
    let q = c.args.place.now in
    let trees = known s.pool.now s.outputs.now in
    let h = sym (ap (λ l. is_some (link_found (known_by s) l q)) c.in-Output.is) ∙ c.requires.found in
    let r = output-there trees s.firsts.now c.in-Output.step c.in-Output.output q h in
    sym (ap is_some r.is) ∙ h

pub returns-in-Input-clause-value : goal.returns-in-Input-clause-value
returns-in-Input-clause-value c =
    let s = c.args.sources.now in
    let q = c.args.place.now in
    let n = c.in-Input.number in
    let x = c.index-sources-number.result in
    let h = sym (ap (λ l. is_some (link_found (known_by s) l q)) c.in-Input.is) ∙ c.requires.found in
    IfOk-weaker c.part.result _ _ (λ (p : Piece) g. ap (λ l. link_found (known_by s) l q) c.in-Input.is ∙ input-is s.inputs.now n q x (input-within s.inputs.now n q h) c.index-sources-number.is ∙ ap (λ y. at (piece_value y) q) c.index-sources-number.is ∙ g) c.part.ensures.value

pub returns-in-Input-clause-sound : goal.returns-in-Input-clause-sound
returns-in-Input-clause-sound c =
    let s = c.args.sources.now in
    let q = c.args.place.now in
    let n = c.in-Input.number in
    let h = sym (ap (λ l. is_some (link_found (known_by s) l q)) c.in-Input.is) ∙ c.requires.found in
    c.part.ensures.sound (subst IsSound c.index-sources-number.is (piece-sound s.inputs.now n c.index-sources-number.result (input-within s.inputs.now n q h) c.index-sources-number.is c.requires.stand.sound))

pub returns-in-Output-clause-value : goal.returns-in-Output-clause-value
returns-in-Output-clause-value c =
    let s = c.args.sources.now in
    let q = c.args.place.now in
    let trees = known s.pool.now s.outputs.now in
    let h = sym (ap (λ l. is_some (link_found (known_by s) l q)) c.in-Output.is) ∙ c.requires.found in
    let r = output-there trees s.firsts.now c.in-Output.step c.in-Output.output q h in
    IfOk-weaker c.piece_at.result _ _ (λ (p : Piece) g. ap (λ l. link_found (known_by s) l q) c.in-Output.is ∙ r.is ∙ g) c.piece_at.ensures.value
