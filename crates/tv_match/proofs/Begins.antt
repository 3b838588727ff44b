-- A matcher that was told nothing.
use Rattle.std.proofs.Common.{◌≡◌, refl, ℕ, ◌≤◌, List, [], ◌∷◌, ◌++◌, sym, ap, subst, ◌∙◌, arith, append-nil}
use Rattle.tv_value.specs.Values.{Name}
use Rattle.tv_value.specs.Strategies.{Strategy}
use Rattle.tv_strategy.specs.Conditions.{Suits, number_of}
use Rattle.tv_strategy.specs.Measures.{DotsAgree}
use Rattle.tv_matching.specs.Stores.{store_for, gain, grown, told_by, store_after, worked_items}
use Rattle.tv_match.specs.Entries.{Entry, kepts, front, AreMore}
use Rattle.tv_match.specs.Brief.{briefs, brief_store}
use Rattle.tv_match.specs.Filed.{Filed, kept_store, Adds}
use Rattle.tv_match.specs.Seen.{AreSound}
use Rattle.tv_match.specs.Working.{unit_news, news_to, IsFull, IsDone}
use Rattle.tv_match.proofs.Fronts.{more-early, more-rise}
use Rattle.tv_match.proofs.Working.{adds-full, full-kept}

module _ (s : Strategy) (mm : List (Name × ℕ)) (empty root : Filed) (out : List Entry) (k : kept_store kepts empty ≡ store_for (number_of mm) 0 s) (f : IsFull 0 empty) (a : Adds 0 empty root) (b : AreMore 0 [] out) (g : kept_store kepts root ≡ brief_store (grown (told_by unit_news) (kept_store kepts empty))) (h : kepts out ≡ briefs (gain (told_by unit_news) (kept_store kepts empty))) where
  full : IsFull 0 root
  full = adds-full 0 0 empty root (omega arith) f a

  out-full : front 0 out ≡ out
  out-full = more-early 0 0 [] out (omega arith) refl b

  stored : kept_store (λ es. kepts (front 0 es)) root ≡ brief_store (store_after (store_for (number_of mm) 0 s) (unit_news ∷ []))
  stored = full-kept 0 root full ∙ g ∙ ap (λ st. brief_store (grown (told_by unit_news) st)) k

  put : kepts (front 0 out) ≡ briefs (worked_items (store_for (number_of mm) 0 s) (unit_news ∷ []))
  put = ap kepts out-full ∙ h ∙ ap (λ st. briefs (gain (told_by unit_news) st)) k ∙ ap briefs (sym (append-nil (gain (told_by unit_news) (store_for (number_of mm) 0 s))))

  none : (j : ℕ) → j ≤ 0 → 0 ≡ j
  none j i = omega arith

  begun : IsDone (number_of mm) s root [] out
  begun =
      record {
        worked = record {
          store = λ j i. subst (λ n. kept_store (λ es. kepts (front n es)) root ≡ brief_store (store_after (store_for (number_of mm) 0 s) (news_to n []))) (none j i) stored;
          items = λ j i. subst (λ n. kepts (front n out) ≡ briefs (worked_items (store_for (number_of mm) 0 s) (news_to n []))) (none j i) put;
        };
        full = full;
        out_full = out-full;
        rise = (more-rise 0 [] out tt tt b).0;
        at_most = (more-rise 0 [] out tt tt b).1;
      }

  pub start-sound : Suits mm s → DotsAgree (number_of mm) s → AreSound s mm root [] out 0 0
  start-sound suits agree = record { suits = suits; agree = agree; fit = tt; once = λ p q. omega arith; proper = tt; done = begun; told_within = omega arith; given_within = omega arith }

sound-at : (s t : Strategy) (mm nn : List (Name × ℕ)) (root : Filed) (log out : List Entry) → t ≡ s → nn ≡ mm → log ≡ [] → AreSound s mm root [] out 0 0 → AreSound t nn root log out 0 0
sound-at s t mm nn root log out e f g h =
    subst (λ x. AreSound x nn root log out 0 0) (sym e) (subst (λ x. AreSound s x root log out 0 0) (sym f) (subst (λ x. AreSound s mm root x out 0 0) (sym g) h))

-- what follows from nothing was put behind what stood there
pub record Begun (mm : List (Name × ℕ)) (s : Strategy) (empty root : Filed) (before out : List Entry) : Type 0 where
  pub store : kept_store kepts empty ≡ store_for (number_of mm) 0 s
  pub full : IsFull 0 empty
  pub adds : Adds 0 empty root
  pub more : AreMore 0 before out
  pub grown : kept_store kepts root ≡ brief_store (grown (told_by unit_news) (kept_store kepts empty))
  pub put : kepts out ≡ kepts before ++ briefs (gain (told_by unit_news) (kept_store kepts empty))

-- nothing stood there, and nothing is listed
pub begun-at : (s t : Strategy) (mm nn : List (Name × ℕ)) (empty root : Filed) (before log out : List Entry) → t ≡ s → nn ≡ mm → log ≡ [] → before ≡ [] → Begun mm s empty root before out → Suits mm s → DotsAgree (number_of mm) s → AreSound t nn root log out 0 0
begun-at s t mm nn empty root before log out e f g h b suits agree =
    sound-at s t mm nn root log out e f g
    (start-sound s mm empty root out b.store b.full b.adds
    (subst (λ x. AreMore 0 x out) h b.more)
    b.grown
    (b.put ∙ ap (λ l. kepts l ++ briefs (gain (told_by unit_news) (kept_store kepts empty))) h)
    suits agree)
