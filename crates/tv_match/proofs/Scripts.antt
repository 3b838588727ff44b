-- The scripts of the tests are such that a matcher can be told them.
use Rattle.std.specs.Prelude.{IsPermutation}
use Rattle.std.proofs.Common.{◌≡◌, refl, ℕ, ◌<◌, List, [], ◌∷◌, map, length, subst, sym, ◌∙◌, true, false, arith}
use Rattle.std.proofs.lemmas.List.Sorted.{IsPermutation-refl}
use Rattle.tv_value.specs.Values.{Name}
use Rattle.tv_value.specs.Strategies.{Strategy, port, cross, dot, strategy, no_strategies}
use Rattle.tv_matching.specs.Told.{Told}
use Rattle.tv_matching.specs.Matchers.{Matching, CanTell, CanTellAll, Starts, Holds, IsTold}
use Rattle.tv_matching.proofs.Matchers.{can-tell_all-permutes, can-tell_all-after}
use Rattle.tv_match.specs.declared.told.Told as code
use Rattle.tv_match.specs.Seen.{told_view, leaf_of, NameLeaves}
use Rattle.tv_match.specs.Scripts.{started, IsScript}
use Rattle.tv_strategy.specs.Measures.{leaf_names}

-- what is a script is one however it was made
pub script-of : (s t : Strategy) (mm nn : List (Name × ℕ)) (ts us : List code.Told) → s ≡ t → mm ≡ nn → ts ≡ us → IsScript t nn us → IsScript s mm ts
script-of s t mm nn ts us e f g h = subst (λ x. IsScript x mm ts) (sym e) (subst (λ x. IsScript t x ts) (sym f) (subst (λ x. IsScript t nn x) (sym g) h))

pub one_leaf-is : IsScript (port (97 ∷ [])) ((97 ∷ [], 2) ∷ []) (code.Told.Arrival 0 (2 ∷ 1 ∷ []) false ∷ code.Told.Arrival 0 (0 ∷ 0 ∷ []) false ∷ code.Told.Close 0 [] 3 ∷ code.Told.Close 0 (1 ∷ []) 0 ∷ code.Told.Close 0 (0 ∷ []) 1 ∷ [])
one_leaf-is = record {
  suits = record { leaves_differ = (refl, tt); dots_are_filled = tt; each_has_number = (refl, tt); sum_is_small = omega arith };
  agree = tt;
  leaves = (omega arith, (omega arith, (omega arith, (omega arith, (omega arith, tt)))));
  new = ((refl, refl), ((refl, refl), ((omega arith, refl), ((omega arith, refl), ((omega arith, refl), tt)))));
}

pub no_leaf-is : IsScript (cross no_strategies) [] []
no_leaf-is = record {
  suits = record { leaves_differ = tt; dots_are_filled = tt; each_has_number = tt; sum_is_small = omega arith };
  agree = tt;
  leaves = tt;
  new = tt;
}

pub fault_beside_a_list-is : IsScript (dot (strategy (port (97 ∷ [])) (strategy (port (98 ∷ [])) no_strategies))) ((97 ∷ [], 1) ∷ (98 ∷ [], 1) ∷ []) (code.Told.Close 0 [] 1 ∷ code.Told.Arrival 1 [] true ∷ code.Told.Arrival 0 (0 ∷ []) false ∷ [])
fault_beside_a_list-is = record {
  suits = record { leaves_differ = (refl, (refl, tt)); dots_are_filled = (tt, (tt, tt)); each_has_number = (refl, (refl, tt)); sum_is_small = omega arith };
  agree = ((tt, (tt, tt)), (refl, tt));
  leaves = (omega arith, (omega arith, (omega arith, tt)));
  new = ((omega arith, refl), ((omega arith, refl), ((refl, refl), tt)));
}

pub shorter_beside_longer-is : IsScript (dot (strategy (port (97 ∷ [])) (strategy (port (98 ∷ [])) no_strategies))) ((97 ∷ [], 1) ∷ (98 ∷ [], 1) ∷ []) (code.Told.Arrival 0 (0 ∷ []) false ∷ code.Told.Close 0 [] 2 ∷ code.Told.Faulty 1 (0 ∷ []) ∷ code.Told.Close 1 [] 1 ∷ code.Told.Arrival 0 (1 ∷ []) false ∷ [])
shorter_beside_longer-is = record {
  suits = record { leaves_differ = (refl, (refl, tt)); dots_are_filled = (tt, (tt, tt)); each_has_number = (refl, (refl, tt)); sum_is_small = omega arith };
  agree = ((tt, (tt, tt)), (refl, tt));
  leaves = (omega arith, (omega arith, (omega arith, (omega arith, (omega arith, tt)))));
  new = ((refl, refl), ((omega arith, refl), ((refl, refl), ((omega arith, refl), ((refl, refl), tt)))));
}

-- a matcher that starts can be told the script
pub can-tell : (s : Strategy) (mm : List (Name × ℕ)) (ts : List Told) (m : Matching) → m.mismatch ≡ mm → m.told ≡ [] → CanTellAll (started s mm) ts → CanTellAll m ts
can-tell s mm ts m e f h = can-tell_all-permutes ts (started s mm) m e (subst (λ l. IsPermutation [] l) (sym f) (IsPermutation-refl [])) h

pub can-script : (s : Strategy) (mm : List (Name × ℕ)) (ts : List code.Told) (m : Matching) → IsScript s mm ts → Starts s mm m → CanTellAll m (map (told_view m.strategy) ts)
can-script s mm ts m h e = subst (λ x. CanTellAll m (map (told_view x) ts)) (sym e.strategy_is) (can-tell s mm (map (told_view s) ts) m e.mismatch_is e.told_is h.new)

pub script-names : (s : Strategy) (mm : List (Name × ℕ)) (ts : List code.Told) (m : Matching) → IsScript s mm ts → Starts s mm m → NameLeaves m.strategy ts
script-names s mm ts m h e = subst (λ x. NameLeaves x ts) (sym e.strategy_is) h.leaves

-- what comes out changes nothing of that
pub can-still : (m n : Matching) (ts : List code.Told) → n.strategy ≡ m.strategy → n.mismatch ≡ m.mismatch → n.told ≡ m.told → CanTellAll m (map (told_view m.strategy) ts) → CanTellAll n (map (told_view n.strategy) ts)
can-still m n ts e f g h = subst (λ x. CanTellAll n (map (told_view x) ts)) (sym e) (can-tell_all-permutes (map (told_view m.strategy) ts) m n f (subst (λ l. IsPermutation m.told l) (sym g) (IsPermutation-refl m.told)) h)

-- and nor does the first of them
pub can-next : (m n o : Matching) (t : code.Told) (ts : List code.Told) → IsTold (told_view m.strategy t) m n → o.strategy ≡ n.strategy → o.mismatch ≡ n.mismatch → o.told ≡ n.told → CanTellAll m (map (told_view m.strategy) (t ∷ ts)) → CanTellAll o (map (told_view o.strategy) ts)
can-next m n o t ts e f g k h = can-still n o ts f g k (subst (λ x. CanTellAll n (map (told_view x) ts)) (sym e.strategy_is) (can-tell_all-after (told_view m.strategy t) (map (told_view m.strategy) ts) m n e h))

-- what is held can be told where it could be told before
pub can-held : (m n : Matching) (ts : List code.Told) → Holds (map (told_view m.strategy) ts) m n → CanTellAll m (map (told_view m.strategy) ts) → CanTellAll n n.held
can-held m n ts e h = subst (λ l. CanTellAll n l) (sym e.held_is) (can-tell_all-permutes (map (told_view m.strategy) ts) m n e.mismatch_is (subst (λ l. IsPermutation m.told l) (sym e.told_is) (IsPermutation-refl m.told)) h)

-- ---- tellings in turn

pub first-leaf : (s : Strategy) (ts us : List code.Told) (t : code.Told) → ts ≡ t ∷ us → NameLeaves s ts → leaf_of t < length (leaf_names s)
first-leaf s ts us t e h = (subst (NameLeaves s) e h).0

pub first-new : (m : Matching) (ts us : List code.Told) (t : code.Told) → ts ≡ t ∷ us → CanTellAll m (map (told_view m.strategy) ts) → CanTell m (told_view m.strategy t)
first-new m ts us t e h = (subst (λ x. CanTellAll m (map (told_view m.strategy) x)) e h).0

pub others-leaves : (s r : Strategy) (ts us : List code.Told) (t : code.Told) → ts ≡ t ∷ us → r ≡ s → NameLeaves s ts → NameLeaves r us
others-leaves s r ts us t e f h = subst (λ x. NameLeaves x us) (sym f) (subst (NameLeaves s) e h).1

pub others-new : (m n o : Matching) (ts us : List code.Told) (t : code.Told) → ts ≡ t ∷ us → IsTold (told_view m.strategy t) m n → o.strategy ≡ n.strategy → o.mismatch ≡ n.mismatch → o.told ≡ n.told → CanTellAll m (map (told_view m.strategy) ts) → CanTellAll o (map (told_view o.strategy) us)
others-new m n o ts us t e i f g k h = can-next m n o t us i f g k (subst (λ x. CanTellAll m (map (told_view m.strategy) x)) e h)

pub leaves-still : (s r : Strategy) (ts us : List code.Told) → us ≡ ts → r ≡ s → NameLeaves s ts → NameLeaves r us
leaves-still s r ts us e f h = subst (NameLeaves r) (sym e) (subst (λ x. NameLeaves x ts) (sym f) h)

pub new-still : (m o : Matching) (ts us : List code.Told) → us ≡ ts → o.strategy ≡ m.strategy → o.mismatch ≡ m.mismatch → o.told ≡ m.told → CanTellAll m (map (told_view m.strategy) ts) → CanTellAll o (map (told_view o.strategy) us)
new-still m o ts us e f g k h = subst (λ x. CanTellAll o (map (told_view o.strategy) x)) (sym e) (can-still m o ts f g k h)
