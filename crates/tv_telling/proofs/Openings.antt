-- What is told at the start, feed by feed and link by link.
use Rattle.std.specs.Prelude.{◌≡◌, refl, ℕ, zero, suc, ◌+◌, ◌<◌, List, [], ◌∷◌, ◌++◌, length, take, Result, Ok, Err, OnOk, map}
use Rattle.std.proofs.Common.{arith, get_or, ap, sym, ◌∙◌, append_assoc, append-nil}
use Rattle.tv_lemmas.proofs.Numbers.{none-below}
use Rattle.tv_value.specs.Values.{Name, Value}
use Rattle.tv_check.specs.declared.feeds.NumberedLink.{NumberedLink}
use Rattle.tv_value.specs.Strategies.{Strategy}
use Rattle.tv_matching.specs.Told.{Told}
use Rattle.tv_match.specs.declared.told.Told as code
use Rattle.tv_match.specs.Seen.{told_view}
use Rattle.tv_telling.specs.ValueTellings.{value_told}
use Rattle.tv_telling.specs.Views.{AddsTellings}
use Rattle.tv_check.specs.declared.feeds.NumberedFeed.TheVariants.{Constant, Link, Merge}
use Rattle.tv_check.specs.declared.feeds.NumberedLink.TheVariants.{Input, Output}
use Rattle.tv_telling.specs.Openings.{numbered_feed_start, numbered_link_start, numbered_links_start}

module _ (values : List Value) (p : Name) (k : ℕ) where
  -- one more of them
  suc-link : (i : ℕ) (ls : List NumberedLink) (j : ℕ) (d : NumberedLink) → j < length ls → numbered_links_start values p k i (take (suc j) ls) ≡ numbered_links_start values p k i (take j ls) ++ numbered_link_start values p k ((i + j) ∷ []) (get_or ls j d)
  suc-link i [] j d h = none-below j h
  suc-link i (l ∷ ls) zero d h = append-nil (numbered_link_start values p k (i ∷ []) l) ∙ ap (λ n. numbered_link_start values p k (n ∷ []) l) (here i)
    where
      here : (a : ℕ) → a ≡ a + 0
      here a = omega arith
  suc-link i (l ∷ ls) (suc j) d h =
      ap (λ t. numbered_link_start values p k (i ∷ []) l ++ t) (suc-link (suc i) ls j d (less j (length ls) h) ∙ ap (λ n. numbered_links_start values p k (suc i) (take j ls) ++ numbered_link_start values p k (n ∷ []) (get_or ls j d)) (later i j))
      ∙ sym (append_assoc (numbered_link_start values p k (i ∷ []) l) (numbered_links_start values p k (suc i) (take j ls)) (numbered_link_start values p k ((i + suc j) ∷ []) (get_or ls j d)))
    where
      less : (a b : ℕ) → suc a < suc b → a < b
      less a b g = omega (arith, g)

      later : (a b : ℕ) → suc a + b ≡ a + suc b
      later a b = omega arith

  pub next-link : (ls : List NumberedLink) (j : ℕ) (d : NumberedLink) → j < length ls → numbered_links_start values p k 0 (take (j + 1) ls) ≡ numbered_links_start values p k 0 (take j ls) ++ numbered_link_start values p k (j ∷ []) (get_or ls j d)
  next-link ls j d h =
      ap (λ n. numbered_links_start values p k 0 (take n ls)) (one-more j)
      ∙ suc-link 0 ls j d h
      ∙ ap (λ n. numbered_links_start values p k 0 (take j ls) ++ numbered_link_start values p k (n ∷ []) (get_or ls j d)) (from-zero j)
    where
      one-more : (a : ℕ) → a + 1 ≡ suc a
      one-more a = omega arith

      from-zero : (a : ℕ) → 0 + a ≡ a
      from-zero a = omega arith

-- ---- the constant matters to constants alone

pub link-opens : (values : List Value) (d : Value) (p : Name) (k : ℕ) (l : NumberedLink) → numbered_link_start values p k [] l ≡ numbered_feed_start values d p k (Link l)
link-opens values d p zero (Input x) = refl
link-opens values d p zero (Output s o) = refl
link-opens values d p (suc k) l = refl

module _ (values : List Value) (c d : Value) (p : Name) where
  pub merge-opens : (k : ℕ) (ls : List NumberedLink) → numbered_feed_start values c p k (Merge ls) ≡ numbered_feed_start values d p k (Merge ls)
  merge-opens zero ls = refl
  merge-opens (suc k) ls = refl

pub fixed-opens : (values : List Value) (c : Value) (p : Name) (k : ℕ) → value_told p k [] c ≡ numbered_feed_start values c p k Constant
fixed-opens values c p zero = refl
fixed-opens values c p (suc k) = refl

-- what is told is told the same
pub tells-alike : {E : Type 0} (r : Result Unit E) (before after : List code.Told) (f g : Strategy → List Told) → ((s : Strategy) → f s ≡ g s) → OnOk r (AddsTellings before after f) → OnOk r (AddsTellings before after g)
tells-alike (Ok x) before after f g e h = λ s. h s ∙ ap (λ t. map (told_view s) before ++ t) (e s)
tells-alike (Err x) before after f g e h = h

-- behind what is told, and then what comes next of a list
pub added-next : (after before old x all next : List Told) → after ≡ before ++ x → before ≡ old ++ all → all ++ x ≡ next → after ≡ old ++ next
added-next after before old x all next e f g = e ∙ ap (λ t. t ++ x) f ∙ append_assoc old all x ∙ ap (λ t. old ++ t) g
