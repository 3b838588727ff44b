-- Where the same is seen of two matchers, the same is so of them.
use Rattle.std.proofs.Common.{◌≡◌, ℕ, List, [], map, length, sym, ap, subst, ◌∙◌, arith}
use Rattle.tv_value.specs.Values.{Name}
use Rattle.tv_value.specs.Strategies.{Strategy}
use Rattle.tv_value.specs.Views.{strategy_view}
use Rattle.tv_matching.specs.Told.{count_of_added}
use Rattle.tv_matching.specs.Matchers.{Matching, IsFreed}
use Rattle.tv_match.specs.declared.matchers.Matcher.{Matcher}
use Rattle.tv_match.specs.declared.told.Told as code
use Rattle.tv_match.specs.Entries.{Entry}
use Rattle.tv_match.specs.Filed.{Filed}
use Rattle.tv_match.specs.Held.{IsUnchanged}
use Rattle.tv_match.specs.Seen.{tellings_of, told_view, in_order, matching, AreSound, IsSound}
use Rattle.tv_match.proofs.AllMade.{none-ahead}
use Rattle.tv_match.proofs.Putting.{past}

same-seen : (m n : Matching) → n.strategy ≡ m.strategy → n.mismatch ≡ m.mismatch → n.told ≡ m.told → n.held ≡ m.held → n.given ≡ m.given → n ≡ m
same-seen m n a b c d e =
    ap (λ x. record n { strategy = x }) a
    ∙ ap (λ x. record m { mismatch = x; told = n.told; held = n.held; given = n.given }) b
    ∙ ap (λ x. record m { told = x; held = n.held; given = n.given }) c
    ∙ ap (λ x. record m { held = x; given = n.given }) d
    ∙ ap (λ x. record m { given = x }) e

-- where nothing was held, what lets go of it changes nothing
pub none-held : (m : Matcher) → IsSound m → m.told ≡ length m.log → (matching m).held ≡ []
none-held m a e = ap (tellings_of (strategy_view m.tree)) (past m.log m.told (omega (arith, e)))

pub freed-unchanged : (m n : Matcher) → IsSound m → IsSound n → m.told ≡ length m.log → in_order n ≡ in_order m → IsFreed (matching m) (matching n) → IsUnchanged m n
freed-unchanged m n a b e o f =
    let h = none-held m a e in
    record {
      seen = same-seen (matching m) (matching n) f.strategy_is f.mismatch_is f.told_is (f.held_is ∙ sym h) f.given_is;
      order = o;
      ahead = none-ahead n b f.held_is ∙ o ∙ sym (none-ahead m a h);
    }

-- a copy is told the same number of things
pub count-copied : (m o : Matcher) → IsUnchanged m o → (ts : List code.Told) (k : ℕ) → k ≡ count_of_added (matching o).strategy (matching o).told (map (told_view (matching o).strategy) ts) → k ≡ count_of_added (matching m).strategy (matching m).told (map (told_view (matching m).strategy) ts)
count-copied m o u ts k = subst (λ (x : Matching). k ≡ count_of_added x.strategy x.told (map (told_view x.strategy) ts)) u.seen

-- where all that is kept is equal
pub sound-equal : (s : Strategy) (mm : List (Name × ℕ)) (root : Filed) (log out : List Entry) (n g : ℕ) (t : Strategy) (nn : List (Name × ℕ)) (other : Filed) (logs outs : List Entry) → t ≡ s → nn ≡ mm → other ≡ root → logs ≡ log → outs ≡ out → AreSound s mm root log out n g → AreSound t nn other logs outs n g
sound-equal s mm root log out n g t nn other logs outs es em er el eo a =
    subst (λ x. AreSound x nn other logs outs n g) (sym es)
    (subst (λ x. AreSound s x other logs outs n g) (sym em)
    (subst (λ x. AreSound s mm x logs outs n g) (sym er)
    (subst (λ x. AreSound s mm root x outs n g) (sym el) (subst (λ x. AreSound s mm root log x n g) (sym eo) a))))
