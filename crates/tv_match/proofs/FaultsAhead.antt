-- What the held tellings will bring tells of faults in bound values what they tell.
use Rattle.std.proofs.Common.{◌≡◌, ℕ, ◌+◌, ◌-◌, ◌<◌, ◌++◌, length, take, drop, sym, ap, subst, ◌∙◌, arith, take_all}
use Rattle.std.proofs.lemmas.List.{take-append-drop, length-map, map-append}
use Rattle.tv_value.specs.Nested.{Place}
use Rattle.tv_value.specs.Views.{strategy_view}
use Rattle.tv_matching.specs.Told.{faulty_at}
use Rattle.tv_matching.specs.Matchers.{CanTellAll}
use Rattle.tv_match.specs.declared.kinds.Kind as kinds
use Rattle.tv_match.specs.declared.matchers.Matcher.{Matcher}
use Rattle.tv_match.specs.Entries.{entry_at, front}
use Rattle.tv_match.specs.Filed.{filed}
use Rattle.tv_match.specs.Seen.{telling_of, tellings_of, outcome_of, matching, AreSound, IsSound, is_faulty}
use Rattle.tv_match.specs.Ahead.{in_order_ahead}
use Rattle.tv_match.proofs.AllMade.{all-made}
use Rattle.tv_match.proofs.Faults.{item-faulty}

pub ahead-faulty : (m : Matcher) → IsSound m → CanTellAll (matching m) (matching m).held → (i : ℕ) → i < length (in_order_ahead m) → (k : kinds.Kind) (q : Place) → k ≡ (entry_at m.out i).kind → q ≡ (entry_at m.out i).place → is_faulty k ≡ faulty_at (matching m).strategy ((matching m).told ++ (matching m).held) q
ahead-faulty m a can i h k q d f =
    let s = strategy_view m.tree in
    let n = length m.log in
    let count : m.told + (n - m.told) ≡ n = omega (arith, a.keeps.told_within) in
    let made : AreSound s m.mismatch (filed m.root) m.log m.out n m.given = all-made s m.mismatch (filed m.root) m.log m.out m.given (n - m.told) m.told count a.keeps can in
    let within : i < length (front n m.out) = subst (λ l. i < length l) (sym a.keeps.done.out_full) (let e = length-map m.out outcome_of in omega (arith, e, h)) in
    let parts : tellings_of s (take n m.log) ≡ tellings_of s (take m.told m.log) ++ tellings_of s (drop m.told m.log) =
    ap (tellings_of s) (take_all n m.log (omega arith) ∙ sym (take-append-drop m.told m.log)) ∙ map-append (telling_of s) (take m.told m.log) (drop m.told m.log) in
    subst (λ ts. is_faulty k ≡ faulty_at s ts q) parts (item-faulty s m.mismatch (filed m.root) m.log m.out n m.given made i within k q d f)
