-- Generated documents are of the form.
use Rattle.std.specs.List.{range_with_len}
use Rattle.std.specs.Prelude.{Bool, List, [], codes, is_some, length, map, nat_lt, refl, suc, true, ℕ, ◌&&◌, ◌+◌, ◌<◌, ◌^◌, ◌≡◌, ◌∷◌}
use Rattle.std.proofs.Common.{ap, arith, sym, ◌∙◌}
use Rattle.std.proofs.lemmas.Bool.{lt-ltb}
use Rattle.std.proofs.lemmas.List.FromFn.{length-map-range_with_len}
use Rattle.tv_value.specs.DepthSets.{common, common_depths, exactly, least_of, one_deeper}
use Rattle.tv_value.specs.Nested.{Trees, count, trees_of}
use Rattle.tv_value.specs.Readings.{length_limit}
use Rattle.tv_value.specs.Values.{Name, Scalar, Text, Value, text_value}
use Rattle.tv_flow.specs.Flows.{Document, Flow}
use Rattle.tv_flow.specs.Formed.{are_values, is_formed, is_value}
use Rattle.tv_model.specs.RowsOfSize.{generated, inner_text, outer_text, texts_to}
use Rattle.tv_model.specs.Writing.{words, x, y}
use Rattle.tv_generator.specs.Parts.{both_flows}
use Rattle.tv_generator.specs.Stated.{AreFormed}

abbrev pub made : Name → List (Name × Flow) → List (Name × Value) → Document
made m fs vs = record { format = 1; main = m; flows = fs; inputs = vs }

abbrev leaves : List Text → Trees (Unit {0}) Scalar
leaves ts = trees_of (map text_value ts)

counted : (ts : List Text) → count (leaves ts) ≡ length ts
counted [] = refl
counted (t ∷ ts) = ap suc (counted ts)

depths-of : (t : Text) (ts : List Text) → common_depths (leaves (t ∷ ts)) ≡ exactly 0
depths-of t [] = refl
depths-of t (u ∷ ts) = ap (common (exactly 0)) (depths-of u ts)

deep : (ts : List Text) → is_some (least_of (one_deeper (common_depths (leaves ts)))) ≡ true
deep [] = refl
deep (t ∷ ts) = ap (λ d. is_some (least_of (one_deeper d))) (depths-of t ts)

well : (ts : List Text) → are_values (leaves ts) ≡ true
well [] = refl
well (t ∷ ts) = well ts

pub words-value : (ts : List Text) → length ts < 2 ^ 32 → is_value (words ts) ≡ true
words-value ts h =
    ap (λ n. nat_lt n length_limit && is_some (least_of (one_deeper (common_depths (leaves ts)))) && are_values (leaves ts)) (counted ts)
    ∙ ap (λ b. b && is_some (least_of (one_deeper (common_depths (leaves ts)))) && are_values (leaves ts)) (lt-ltb (length ts) (2 ^ 32) h)
    ∙ ap (λ b. b && are_values (leaves ts)) (deep ts)
    ∙ well ts

texts-value : (n : ℕ) (f : ℕ → Text) → n < 2 ^ 32 → is_value (texts_to n f) ≡ true
texts-value n f h = words-value (map f (range_with_len 0 n)) (omega (arith, length-map-range_with_len f 0 n, h))

pub are-formed : AreFormed
are-formed n h =
    ap (λ b. b && (is_value (texts_to n inner_text) && true)) (texts-value n outer_text h)
    ∙ ap (λ b. b && true) (texts-value n inner_text h)

-- the document of these flows and lists
pub same-document : (n : ℕ) (m : Name) (fs : List (Name × Flow)) (vs : List (Name × Value)) → m ≡ codes "main" → fs ≡ both_flows → vs ≡ (x, texts_to n outer_text) ∷ (y, texts_to n inner_text) ∷ [] → made m fs vs ≡ generated n
same-document n m fs vs e f g =
    ap (λ k. made k fs vs) e
    ∙ ap (λ gs. made (codes "main") gs vs) f
    ∙ ap (made (codes "main") both_flows) g
