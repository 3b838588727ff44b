-- At the start faults are told truly.
use Rattle.std.specs.List.{list_all, list_any}
use Rattle.std.specs.Prelude.{◌≡◌, refl, ℕ, zero, suc, ◌+◌, ◌-◌, Bool, true, false, ◌||◌, List, [], ◌∷◌, Some, option_and_then}
use Rattle.std.proofs.Common.{arith, sym, ap, ap₂, subst, ◌∙◌, add-zero}
use Rattle.std.proofs.lemmas.Bool.{and_parts, true≢false}
use Rattle.std.proofs.lemmas.List.Folds.{list_any-append}
use Rattle.std.proofs.Math.Bool.{or-false}
use Rattle.tv_value.specs.Nested.{Place, Trees, all_leaves, at, item_at, leaves, no_trees, tree}
use Rattle.tv_value.specs.Values.{Name, Scalar, holds_fault, is_fault, Value}
use Rattle.tv_flow.specs.Flows.{Feed, Link, constant, input, link, merge, output}
use Rattle.tv_strategy.specs.Origins.{Origin, Traced, fixed, plain}
use Rattle.tv_strategy.proofs.Sources.{each-append}
use Rattle.tv_model.specs.instance.Delivered.{Delivered, at_port, wrapped}
use Rattle.tv_matching.specs.Items.{if_so}
use Rattle.tv_matching.specs.Told.{TellsFaults, Told}
use Rattle.tv_telling.specs.ValueTellings.{bound_told}
use Rattle.tv_framing.proofs.starts.Feeds.{FeedStarts, LinkStarts, LinksStart}
use Rattle.tv_framing.proofs.starts.Plain.{plain-traced, same-faults}
use Rattle.tv_framing.specs.starts.Starts.{feed_start, given_faulty, input_faulty, is_given, is_input, link_start, links_start}
use Rattle.tv_framing.proofs.faults.Values.{AreTrue, bound-truly, plain-truly}
use Rattle.tv_lemmas.proofs.Numbers.{is-zero_plus, plus-suc}

-- wrapping makes no fault
pub wrapped-faults : (k : ℕ) (v : Traced) → holds_fault (wrapped k v) ≡ holds_fault v
wrapped-faults zero v = refl
wrapped-faults (suc k) v = list_any-append is_fault (leaves (wrapped k v)) [] ∙ or-false (holds_fault (wrapped k v)) ∙ wrapped-faults k v

module _ (known : Origin → Bool) (fresh : known fixed ≡ true) (inputs : List (Name × Value)) where
  -- ---- a feed that is known holds a fault where it is said to

  link-faulty : (l : Link) (v : Traced) → LinkStarts known fresh inputs l v → is_input l ≡ true → holds_fault v ≡ input_faulty inputs l
  link-faulty (input x) v h k = sym (same-faults (λ o. tt) v) ∙ ap holds_fault h.1
  link-faulty (output t o) v h k = absurd (true≢false (sym k))

  links-faulty : (ls : List Link) (vs : Trees Origin Scalar) → LinksStart known fresh inputs ls vs → list_all is_input ls ≡ true → list_any is_fault (all_leaves vs) ≡ list_any (input_faulty inputs) ls
  links-faulty [] no_trees h k = refl
  links-faulty [] (tree v vs) h k = absurd h
  links-faulty (l ∷ ls) no_trees h k = absurd h
  links-faulty (l ∷ ls) (tree v vs) h k =
      let b = and_parts (is_input l) (list_all is_input ls) k in
      list_any-append is_fault (leaves v) (all_leaves vs) ∙ ap₂ (λ a c. a || c) (link-faulty l v h.0 b.0) (links-faulty ls vs h.1 b.1)

  feed-faulty : (f : Feed) (v : Traced) → FeedStarts known fresh inputs f v → is_given f ≡ true → holds_fault v ≡ given_faulty inputs f
  feed-faulty (link l) v h k = link-faulty l v h k
  feed-faulty (merge ls) v h k = ap holds_fault h.1 ∙ links-faulty ls h.0 h.2 k
  feed-faulty (constant w) v h k = ap holds_fault h ∙ same-faults (λ o. fixed) w

  -- ---- told truly

  module _ (values : Name → Traced) (p : Name) where
    link-truly : (k : ℕ) (q : Place) (l : Link) (v : Traced) → LinkStarts known fresh inputs l v → at (values p) q ≡ Some v → AreTrue values p (link_start inputs p k q l)
    link-truly k q (input x) v h a = plain-truly values p k q v _ a h.1
    link-truly k q (output t o) v h a = tt

    links-truly : (k i : ℕ) (ls : List Link) (vs : Trees Origin Scalar) → LinksStart known fresh inputs ls vs → ((j : ℕ) (u : Traced) → item_at vs j ≡ Some u → at (values p) ((i + j) ∷ []) ≡ Some u) → AreTrue values p (links_start inputs p k i ls)
    links-truly k i [] vs h a = tt
    links-truly k i (l ∷ ls) no_trees h a = absurd h
    links-truly k i (l ∷ ls) (tree v vs) h a =
        each-append (TellsFaults values) (link_start inputs p k (i ∷ []) l) (links_start inputs p k (suc i) ls)
        (link-truly k (i ∷ []) l v h.0 (subst (λ n. at (values p) (n ∷ []) ≡ Some v) (add-zero i) (a 0 v refl)))
        (links-truly k (suc i) ls vs h.1 (λ j u g. subst (λ n. at (values p) (n ∷ []) ≡ Some u) (plus-suc i j) (a (suc j) u g)))

    if-truly : (b : Bool) (t : Told) → (b ≡ true → TellsFaults values t) → AreTrue values p (if_so b t)
    if-truly true t h = (h refl, tt)
    if-truly false t h = tt

    module _ (c : ℕ) (d : Delivered) (f : Feed) (starts : FeedStarts known fresh inputs f d.value) (own : values p ≡ (at_port c d).value) where
      whole-faulty : is_given f ≡ true → holds_fault (values p) ≡ given_faulty inputs f
      whole-faulty k = ap holds_fault own ∙ wrapped-faults (c - d.depth) d.value ∙ feed-faulty f d.value starts k

      -- a port that walks some levels isn't wrapped
      unwrapped : (k : ℕ) → suc k ≡ d.depth - c → values p ≡ d.value
      unwrapped k e = let none : c - d.depth ≡ 0 = omega (arith, e) in own ∙ ap (λ n. wrapped n d.value) none

      walked-truly : (k : ℕ) (g : Feed) (v : Traced) → FeedStarts known fresh inputs g v → values p ≡ v → AreTrue values p (feed_start inputs p (suc k) g)
      walked-truly k (link l) v h e = link-truly (suc k) [] l v h (ap Some e)
      walked-truly k (merge ls) v h e = (tt, links-truly k 0 ls h.0 h.2 (λ j u g. subst (λ n. at (values p) (n ∷ []) ≡ Some u) (is-zero_plus j) (inside j u g)))
        where
          inside : (j : ℕ) (u : Traced) → item_at h.0 j ≡ Some u → at (values p) (j ∷ []) ≡ Some u
          inside j u g = ap (λ w. at w (j ∷ [])) (e ∙ h.1) ∙ ap (λ o. option_and_then (λ x. at x []) o) g
      walked-truly k (constant w) v h e = plain-truly values p (suc k) [] v w (ap Some e) (ap plain h ∙ plain-traced fixed w)

      pub start-truly : (k : ℕ) → k ≡ d.depth - c → AreTrue values p (feed_start inputs p k f)
      start-truly zero e = if-truly (is_given f) (bound_told p [] (given_faulty inputs f)) (λ k. bound-truly values p [] (given_faulty inputs f) (whole-faulty k))
      start-truly (suc k) e = walked-truly k f d.value starts (unwrapped k e)
