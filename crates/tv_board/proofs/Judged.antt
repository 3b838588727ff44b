-- The test whether what an answer has is what an outcome comes to decides it.
use Rattle.std.specs.Prelude.{◌≡◌, ℕ, Err, List, Ok, Result, map, true}
use Rattle.std.specs.Cmp.Lexicographic.{bytes_decides}
use Rattle.std.proofs.Common.{ap, sym, true≢false, ◌∙◌}
use Rattle.tv_value.specs.Values.{Name, Text, Value}
use Rattle.tv_gate.specs.CallLaws.{same_values-decide}
use Rattle.tv_gate.specs.Outcomes.{Giving, Outcome}
use Rattle.tv_dispatch.specs.Jobs.{judged}
use Rattle.tv_run.specs.Judging.{judged_view}
use Rattle.tv_run.specs.declared.judging.Judgment.{Judgment}
use Rattle.tv_board.specs.Judging.{is_judged, same_judgment}

pub same_judgment-decides : (x y : Result (List Value) Text) → (same_judgment x y ≡ true → x ≡ y) × (x ≡ y → same_judgment x y ≡ true)
same_judgment-decides (Ok vs) (Ok us) = (
  λ h. ap Ok ((same_values-decide vs us).0 h),
  λ q. (let same : vs ≡ us = cc in (same_values-decide vs us).1 same),
)
same_judgment-decides (Ok vs) (Err u) = (λ h. absurd (true≢false (sym h)), λ q. absurd (cc))
same_judgment-decides (Err t) (Ok us) = (λ h. absurd (true≢false (sym h)), λ q. absurd (cc))
same_judgment-decides (Err t) (Err u) = (
  λ h. ap Err ((bytes_decides t u).0 h),
  λ q. (let same : t ≡ u = cc in (bytes_decides t u).1 same),
)

-- what was asked by a name t that is s
pub judged-by : (gives : Giving) (s t : Name) (vs : List Value) (n : ℕ) (o : Outcome) (os : List (Name × ℕ)) (j : Judgment) → t ≡ s → o ≡ gives t vs n
    → judged_view j ≡ judged (map (λ p. p.1) os) o → is_judged os (gives s vs n) j ≡ true
judged-by gives s t vs n o os j e q h =
    (same_judgment-decides (judged (map (λ p. p.1) os) (gives s vs n)) (judged_view j)).1
    (sym (h ∙ ap (judged (map (λ p. p.1) os)) (q ∙ ap (λ x. gives x vs n) e)))
