-- What a list's counts say once a part was exchanged.
use Rattle.std.proofs.Common.{◌≡◌, ◌≢◌, ℕ, zero, suc, ◌+◌, ◌<◌, ◌≤◌, ◌^◌, ◌==◌, max, nat_lt, arith, Bool, true, false, ◌||◌, if◌then◌else◌, List, ◌∷◌, refl, sym, ap, ◌∙◌, subst, Option, Some, None, ltb-true, inl, inr}
use Rattle.std.specs.Option.{option_map}
use Rattle.std.proofs.lemmas.Bool.{cases_eq, both_ways}
use Rattle.tv_lemmas.proofs.Numbers.{zero-not_suc}
use Rattle.tv_lemmas.proofs.Options.{some-not_none}
use Rattle.tv_parts.specs.Partials.{Partial, wanting, Parts, no_parts, part, part_count, part_of, part_at, whole, one_if, whole_count, holds_some, some_holds}
use Rattle.tv_parts.specs.Changes.{with_part}
use Rattle.tv_parts.proofs.Wholeness.{whole-counts, count-with}
use Rattle.tv_stream.specs.declared.nodes.Entry.{Entry}
use Rattle.tv_stream.specs.nodes.Nodes.{part_in}
use Rattle.tv_stream.specs.declared.held.Held.{Held}
use Rattle.tv_stream.specs.declared.held.Part.{Part}
use Rattle.tv_stream.specs.declared.held.Counts.{Counts}
use Rattle.tv_stream.specs.declared.held.Part.TheVariants.{Wanting, Item, Numbered}
use Rattle.tv_stream.specs.Trees.{Marked, listed, count_of, list_of, optional, parts_by, tree_by, least_whole}
use Rattle.tv_stream.specs.Stands.{is_marked, AreCounted, IsCounted, HasNoParts}
use Rattle.tv_stream.specs.Inside.{counts_with, counts_whole, counts_of, has_index}
use Rattle.tv_stream.proofs.Listed.{cover, cover-max, cover-less, part-listed, count-listed, with-listed, holds-with, stepped}

pub part-with : {A : Type 0} (t : Partial A) (ps : Parts A) (i : ℕ) → part_of (with_part t ps i) i ≡ t
part-with t no_parts zero = refl
part-with t no_parts (suc i) = part-with t no_parts i
part-with t (part p ps) zero = refl
part-with t (part p ps) (suc i) = part-with t ps i

-- where a closed list has an index
abbrev pub LengthHas : Counts → ℕ → Type 0
LengthHas c i = (n : ℕ) → c.length ≡ Some n → i < n

pub count-cover : (c : Counts) (i : ℕ) (w : Bool) → LengthHas c i → count_of (counts_with c i w) ≡ cover (count_of c) i
count-cover c i w h = by c.length refl
  where
    by : (o : Option ℕ) → c.length ≡ o → (elim o [ None ↦ max c.most (i + 1) | Some n ↦ n ]) ≡ cover (elim o [ None ↦ c.most | Some n ↦ n ]) i
    by None is = sym (cover-max c.most i)
    by (Some n) is = sym (cover-less n i (h n is))

pub whole-list : {A : Type 0} (o : Option ℕ) (ps : Parts A) (k : ℕ) → k ≡ whole_count ps → ((n : ℕ) → o ≡ Some n → part_count ps ≡ n) → whole (list_of o ps) ≡ (elim o [ None ↦ false | Some n ↦ k == n ])
whole-list None ps k e h = refl
whole-list (Some n) ps k e h = (whole-counts ps).0 ∙ ap (λ j. j == part_count ps) (sym e) ∙ ap (λ j. k == j) (h n refl)

pub whole-as : {A : Type 0} (c : Counts) (f : ℕ → Partial A) → c.whole ≡ whole_count (listed (count_of c) f) → whole (list_of c.length (listed (count_of c) f)) ≡ counts_whole c
whole-as c f e = whole-list c.length (listed (count_of c) f) c.whole e (λ n is. count-listed (count_of c) f ∙ ap (λ o. elim o [ None ↦ c.most | Some k ↦ k ]) is)

pub list-part : {A : Type 0} (o : Option ℕ) (ps : Parts A) (i : ℕ) → part_at (list_of o ps) i ≡ part_of ps i
list-part None ps i = refl
list-part (Some n) ps i = refl

pub list-holds : {A : Type 0} (test : A → Bool) (o : Option ℕ) (ps : Parts A) → holds_some test (list_of o ps) ≡ some_holds test ps
list-holds test None ps = refl
list-holds test (Some n) ps = refl

more-counted : (c : Counts) (i : ℕ) (w : Bool) → LengthHas c i → c.most ≤ count_of c → max c.most (i + 1) ≤ count_of (counts_with c i w)
more-counted c i w h k = by c.length refl k
  where
    least : (a : ℕ) → a ≤ a
    least a = omega arith

    both : (a i n : ℕ) → a ≤ n → i < n → max a (i + 1) ≤ n
    both a i n h k = omega arith

    by : (o : Option ℕ) → c.length ≡ o → c.most ≤ (elim o [ None ↦ c.most | Some n ↦ n ]) → max c.most (i + 1) ≤ (elim o [ None ↦ max c.most (i + 1) | Some n ↦ n ])
    by None is k = least (max c.most (i + 1))
    by (Some n) is k = both c.most i n k (h n is)

more-few : (c : Counts) (i : ℕ) (w : Bool) → i < 2 ^ 32 → c.most ≤ count_of c → count_of c ≤ 2 ^ 32 → count_of (counts_with c i w) ≤ 2 ^ 32
more-few c i w small counted few = by c.length counted few
  where
    both : (a : ℕ) → a ≤ 2 ^ 32 → max a (i + 1) ≤ 2 ^ 32
    both a h = omega arith

    by : (o : Option ℕ) → c.most ≤ (elim o [ None ↦ c.most | Some n ↦ n ]) → (elim o [ None ↦ c.most | Some n ↦ n ]) ≤ 2 ^ 32 → (elim o [ None ↦ max c.most (i + 1) | Some n ↦ n ]) ≤ 2 ^ 32
    by None counted few = both c.most few
    by (Some n) counted few = few

module _ {T : Type 0} where
  pub length-has : (w : Part T) (i : ℕ) → has_index w i ≡ true → LengthHas (counts_of w) i
  length-has Wanting i h n is = absurd (cc)
  length-has (Item v) i h n is = absurd (cc)
  length-has (Numbered c) i h n is = by c.length h is
    where
      by : (o : Option ℕ) → (elim o [ None ↦ true | Some k ↦ nat_lt i k ]) ≡ true → o ≡ Some n → i < n
      by None h is = absurd (cc)
      by (Some k) h is = subst (λ j. i < j) (same k is) (ltb-true i k h)
        where
          same : (k : ℕ) → Some k ≡ Some n → k ≡ n
          same k h = cc

  -- what stands at a node that may have parts, in the terms of its counts
  pub record ListLike (P : ℕ → Type 0) (f : ℕ → Partial (Marked T)) (m : ℕ → Option (Entry (Held T))) (s i : ℕ) (marked : Bool) (w : Part T) : Type 0 where
    pub counts : AreCounted P f m s marked (counts_of w)
    pub steps : (t : Partial (Marked T)) → stepped t i (tree_by f m s marked w) ≡ list_of (counts_of w).length (with_part t (parts_by f m s (count_of (counts_of w))) i)
    pub holds : holds_some is_marked (tree_by f m s marked w) ≡ some_holds is_marked (parts_by f m s (count_of (counts_of w)))
    pub inner : part_at (tree_by f m s marked w) i ≡ part_of (parts_by f m s (count_of (counts_of w))) i

  some-none : (m : ℕ → Option (Entry (Held T))) (s : ℕ) → HasNoParts m s → (i t : ℕ) → part_in m s i ≡ Some t → ⊥
  some-none m s h i t e = some-not_none (part_in m s i) t e (h i)

  stepped-list : (o : Option ℕ) (t : Partial (Marked T)) (i : ℕ) (ps : Parts (Marked T)) → stepped t i (list_of o ps) ≡ list_of o (with_part t ps i)
  stepped-list None t i ps = refl
  stepped-list (Some n) t i ps = refl

  pub list-like : (P : ℕ → Type 0) (f : ℕ → Partial (Marked T)) (m : ℕ → Option (Entry (Held T))) (s i : ℕ) (marked : Bool) (w : Part T) → has_index w i ≡ true → IsCounted P f m s marked w → ListLike P f m s i marked w
  list-like P f m s i marked Wanting h k = record {
    counts = record {
      whole = refl;
      marks = k.0;
      counted = omega arith;
      few = omega arith;
      within = λ j t e. absurd (some-none m s k.1 j t e);
      last = λ j e. absurd (zero-not_suc j e);
      sound = λ j t e. absurd (some-none m s k.1 j t e);
    };
    steps = λ t. refl;
    holds = refl;
    inner = refl;
  }
  list-like P f m s i marked (Item v) h k = absurd (both_ways false refl h)
  list-like P f m s i marked (Numbered c) h k = record {
    counts = k;
    steps = λ t. stepped-list c.length t i (parts_by f m s (count_of c));
    holds = list-holds is_marked c.length (parts_by f m s (count_of c));
    inner = list-part c.length (parts_by f m s (count_of c)) i;
  }

  -- beyond the last known part nothing stands
  pub beyond : (P : ℕ → Type 0) (f g : ℕ → Partial (Marked T)) (m : ℕ → Option (Entry (Held T))) (s : ℕ) (marked : Bool) (c : Counts) → AreCounted P f m s marked c → (j : ℕ) → count_of c ≤ j → optional g (part_in m s j) ≡ wanting
  beyond P f g m s marked c h j k = by_part (part_in m s j) refl
    where
      less : (j n k : ℕ) → j < n → n ≤ k → k ≤ j → ⊥
      less j n k h l o = omega arith

      by_part : (o : Option ℕ) → part_in m s j ≡ o → optional g o ≡ wanting
      by_part None is = refl
      by_part (Some u) is = absurd (less j c.most (count_of c) (h.within j u is) h.counted k)

  -- a list after a change of the part at an index, by what its counts become
  module _ (P Q : ℕ → Type 0) (f g : ℕ → Partial (Marked T)) (m m' : ℕ → Option (Entry (Held T))) (s i : ℕ) (marked : Bool) (c : Counts) (h : AreCounted P f m s marked c) (has : LengthHas c i) (small : i < 2 ^ 32) (new : Partial (Marked T)) (mark : Bool) (here : optional g (part_in m' s i) ≡ new) (others : (j : ℕ) → j ≢ i → optional g (part_in m' s j) ≡ optional f (part_in m s j)) (open_before : whole (optional f (part_in m s i)) ≡ false) (marks : holds_some is_marked new ≡ (holds_some is_marked (optional f (part_in m s i)) || mark)) where
    abbrev d : Counts
    d = counts_with c i (whole new)

    abbrev ps : Parts (Marked T)
    ps = parts_by f m s (count_of c)

    old-part : part_of ps i ≡ optional f (part_in m s i)
    old-part = part-listed (count_of c) (λ j. optional f (part_in m s j)) i (beyond P f f m s marked c h)

    pub parts-with : parts_by g m' s (count_of d) ≡ with_part new ps i
    parts-with =
        ap (parts_by g m' s) (count-cover c i (whole new) has)
        ∙ sym (with-listed (count_of c) (λ j. optional f (part_in m s j)) (λ j. optional g (part_in m' s j)) i others (beyond P f f m s marked c h))
        ∙ ap (λ t. with_part t ps i) here

    pub whole-with : d.whole ≡ whole_count (parts_by g m' s (count_of d))
    whole-with =
        flip c.whole (one_if (whole new))
        ∙ ap (λ k. one_if (whole new) + k) h.whole
        ∙ sym (count-with new ps i (ap whole old-part ∙ open_before))
        ∙ sym (ap whole_count parts-with)
      where
        flip : (a b : ℕ) → a + b ≡ b + a
        flip a b = omega arith

    pub marks-with : (marked || mark) ≡ some_holds is_marked (parts_by g m' s (count_of d))
    marks-with =
        ap (λ b. b || mark) h.marks
        ∙ sym (holds-with is_marked mark new ps i (marks ∙ ap (λ t. holds_some is_marked t || mark) (sym old-part)))
        ∙ sym (ap (some_holds is_marked) parts-with)

    pub counted-with : new ≢ wanting → ((j t : ℕ) → part_in m' s j ≡ Some t → (j ≡ i → ⊥) → part_in m s j ≡ Some t) → ((j t : ℕ) → part_in m' s j ≡ Some t → Q t) → AreCounted Q g m' s (marked || mark) d
    counted-with there old sounds = record {
      whole = whole-with;
      marks = marks-with;
      counted = more-counted c i (whole new) has h.counted;
      few = more-few c i (whole new) small h.counted h.few;
      within = λ j t e. elim (cases_eq j i) [
        | inl same ↦ at_index j i c.most same
        | inr ne ↦ below j c.most (i + 1) (h.within j t (old j t e ne))
      ];
      last = λ j e. elim (cases_eq j i) [
        | inl same ↦ subst (λ k. optional g (part_in m' s k) ≢ wanting) (sym same) (λ w. there (sym here ∙ w))
        | inr ne ↦ λ w. h.last j (last_before j i c.most ne e) (sym (others j ne) ∙ w)
      ];
      sound = sounds;
    }
      where
        last_before : (j i a : ℕ) → j ≢ i → max a (i + 1) ≡ suc j → a ≡ suc j
        last_before j i a ne h = omega arith

        at_index : (j i a : ℕ) → j ≡ i → j < max a (i + 1)
        at_index j i a h = omega arith

        below : (j a b : ℕ) → j < a → j < max a b
        below j a b h = omega arith

    -- the tree, whether it is whole, and the least prefix that is
    pub tree-with : list_of d.length (parts_by g m' s (count_of d)) ≡ list_of c.length (with_part new ps i)
    tree-with = ap (list_of c.length) parts-with

    pub least-with : (q : List ℕ) (least : Option ℕ) → least_whole q new ≡ least → least_whole (i ∷ q) (list_of c.length (with_part new ps i)) ≡ (if counts_whole d then Some 0 else option_map suc least)
    least-with q least h =
        ap (λ t. if whole t then Some 0 else option_map suc (least_whole q (part_at t i))) (sym tree-with)
        ∙ ap (λ b. if b then Some 0 else option_map suc (least_whole q (part_at (list_of d.length (parts_by g m' s (count_of d))) i))) (whole-as d (λ j. optional g (part_in m' s j)) whole-with)
        ∙ ap (λ o. if counts_whole d then Some 0 else option_map suc o) (ap (least_whole q) (ap (λ t. part_at t i) tree-with ∙ list-part c.length (with_part new ps i) i ∙ part-with new ps i) ∙ h)
