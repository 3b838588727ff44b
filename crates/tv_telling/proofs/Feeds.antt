-- Feeds that come to be known, link by link.
use Rattle.std.specs.List.{list_all, list_any}
use Rattle.std.specs.Prelude.{◌≡◌, refl, ℕ, ◌==◌, ◌&&◌, ◌||◌, Bool, true, false, not, List, [], ◌∷◌}
use Rattle.std.proofs.Common.{ap, sym, ◌∙◌}
use Rattle.std.proofs.lemmas.Bool.{eqb-true, true≢false}
use Rattle.tv_check.specs.declared.feeds.NumberedLink.{NumberedLink}
use Rattle.tv_check.specs.declared.feeds.NumberedLink.TheVariants.{Input, Output}
use Rattle.tv_check.specs.declared.feeds.NumberedFeed.TheVariants.{Link, Merge, Constant}
use Rattle.tv_telling.specs.endings.Feeds.{link_from, link_whole, with_step}
use Rattle.tv_telling.specs.endings.FeedLaws.{FeedsTurnWholeOnce}

-- ---- tests

none-new : (a : Bool) → (a && not a) ≡ false
none-new true = refl
none-new false = refl

-- of each of two, and of both
both : (a b c d f g : Bool) → (a && not b) ≡ (f && a) → (c && not d) ≡ (g && c) → (b ≡ true → a ≡ true) → (d ≡ true → c ≡ true) → ((a && c) && not (b && d)) ≡ ((f || g) && (a && c))
both false b c d f g x y u v = no (f || g)
  where
    no : (b : Bool) → false ≡ (b && false)
    no true = refl
    no false = refl
both true b false d f g x y u v = no (f || g)
  where
    no : (b : Bool) → false ≡ (b && false)
    no true = refl
    no false = refl
both true true true true true g x y u v = absurd (true≢false (sym x))
both true true true true false true x y u v = absurd (true≢false (sym y))
both true true true true false false x y u v = refl
both true true true false f true x y u v = or-true f
  where
    or-true : (f : Bool) → true ≡ ((f || true) && true)
    or-true true = refl
    or-true false = refl
both true true true false f false x y u v = absurd (true≢false y)
both true false true d true g x y u v = refl
both true false true d false g x y u v = absurd (true≢false x)

module _ (whole : ℕ → Bool) (s : ℕ) (new : whole s ≡ false) where
  stays : (l : NumberedLink) → link_whole whole l ≡ true → link_whole (with_step whole s) l ≡ true
  stays (Input x) h = refl
  stays (Output t o) h = by (t == s)
    where
      by : (b : Bool) → (b || whole t) ≡ true
      by true = refl
      by false = h

  one : (l : NumberedLink) → (link_whole (with_step whole s) l && not (link_whole whole l)) ≡ (link_from s l && link_whole (with_step whole s) l)
  one (Input x) = refl
  one (Output t o) = by (t == s) refl
    where
      by : (b : Bool) → (t == s) ≡ b → ((b || whole t) && not (whole t)) ≡ (b && (b || whole t))
      by true e = ap not (ap whole (eqb-true t s e) ∙ new)
      by false e = none-new (whole t)

  all-stay : (ls : List NumberedLink) → list_all (link_whole whole) ls ≡ true → list_all (link_whole (with_step whole s)) ls ≡ true
  all-stay [] h = refl
  all-stay (l ∷ ls) h = by (all-stay ls) (link_whole whole l) refl h
    where
      by : (list_all (link_whole whole) ls ≡ true → list_all (link_whole (with_step whole s)) ls ≡ true) → (b : Bool) → link_whole whole l ≡ b → (b && list_all (link_whole whole) ls) ≡ true → list_all (link_whole (with_step whole s)) (l ∷ ls) ≡ true
      by rest true e g = (λ i. stays l e i && rest g i)
      by rest false e g = absurd (true≢false (sym g))

  each : (ls : List NumberedLink) → (list_all (link_whole (with_step whole s)) ls && not (list_all (link_whole whole) ls)) ≡ (list_any (link_from s) ls && list_all (link_whole (with_step whole s)) ls)
  each [] = refl
  each (l ∷ ls) =
      both (link_whole (with_step whole s) l) (link_whole whole l) (list_all (link_whole (with_step whole s)) ls) (list_all (link_whole whole) ls) (link_from s l) (list_any (link_from s) ls) (one l) (each ls) (stays l) (all-stay ls)

pub feeds-once : FeedsTurnWholeOnce
feeds-once whole s new (Link l) = one whole s new l
feeds-once whole s new (Merge ls) = each whole s new ls
feeds-once whole s new Constant = refl
