-- The numbers of a command lie in their ranges.
use Rattle.std.specs.Prelude.{◌≡◌, ◌≤◌, ℕ, List, [], ◌∷◌, Bool, true, false, Option, Some, None, codes, if◌then◌else◌, option_and_then, option_map, unwrap_or}
use Rattle.std.proofs.Common.{ap, arith, refl, subst}
use Rattle.tv_value.specs.Nested.{Place}
use Rattle.tv_value.specs.Orders.{same_name}
use Rattle.tv_value.specs.Values.{Name, Text}
use Rattle.tv_words.specs.elements.Elements.{element_of}
use Rattle.tv_words.specs.Commands.{Command, check, command_in, element_command, forward, gen, lineage, numbered_command, plain_command, run, trace, unless_given, upgrade, workers_of}
use Rattle.tv_words.specs.Numbers.{number_of}
use Rattle.tv_words.specs.Reading.{reading_of}
use Rattle.tv_words.specs.Stated.{CommandsAreBounded, IsBounded, IsCount}
use Rattle.tv_words.proofs.Numbers.{reads-from}

abbrev AllBounded : Option Command → Type 0
AllBounded o = (c : Command) → o ≡ Some c → IsBounded c

none-bounded : AllBounded None
none-bounded c e = absurd cc

some-bounded : (d : Command) → IsBounded d → AllBounded (Some d)
some-bounded d h c e = subst IsBounded (ap (λ o. unwrap_or o d) e) h

if-bounded : (b : Bool) (x y : Option Command) → AllBounded x → AllBounded y → AllBounded (if b then x else y)
if-bounded true x y p q = p
if-bounded false x y p q = q

map-bounded : (f : ℕ → Command) (o : Option ℕ) → ((n : ℕ) → o ≡ Some n → IsBounded (f n)) → AllBounded (option_map f o)
map-bounded f None h = none-bounded
map-bounded f (Some n) h = some-bounded (f n) (h n refl)

then-bounded : {A : Type 0} (f : A → Option Command) (o : Option A) → ((a : A) → o ≡ Some a → AllBounded (f a)) → AllBounded (option_and_then f o)
then-bounded f None h = none-bounded
then-bounded f (Some a) h = h a refl

workers-bounded : (o : Option Text) (n : ℕ) → workers_of o ≡ Some n → IsCount n
workers-bounded None n e = let one : 1 ≡ n = ap (λ o. unwrap_or o n) e in (omega arith, omega arith)
workers-bounded (Some t) n e = let h = (reads-from 1 64 (omega arith) t n).0 e in (h.1, h.2)

number-bounded : (t : Text) (n : ℕ) → number_of t ≡ Some n → (1 ≤ n) × (n ≤ 200)
number-bounded t n e = let h = (reads-from 1 200 (omega arith) t n).0 e in (h.1, h.2)

unless-bounded : (o : Option Text) (d : Command) → IsBounded d → AllBounded (unless_given o d)
unless-bounded None d h = some-bounded d h
unless-bounded (Some t) d h = none-bounded

plain-bounded : (w : Text) (workers : Option Text) → AllBounded (plain_command w workers)
plain-bounded w workers =
    if-bounded (same_name w (codes "run")) _ _ (map-bounded run (workers_of workers) (workers-bounded workers))
    (if-bounded (same_name w (codes "check")) _ _ (unless-bounded workers check tt)
    (if-bounded (same_name w (codes "trace")) _ _ (unless-bounded workers trace tt)
    (if-bounded (same_name w (codes "upgrade")) _ _ (unless-bounded workers upgrade tt) none-bounded)))

element-bounded : (w : Text) (e : Name × Place) → AllBounded (element_command w e)
element-bounded w e =
    if-bounded (same_name w (codes "lineage")) _ _ (some-bounded (lineage e.0 e.1) tt)
    (if-bounded (same_name w (codes "forward")) _ _ (some-bounded (forward e.0 e.1) tt) none-bounded)

numbered-bounded : (w t : Text) (workers : Option Text) → AllBounded (numbered_command w t workers)
numbered-bounded w t workers =
    if-bounded (same_name w (codes "gen")) _ _
    (then-bounded (λ n. option_map (gen n) (workers_of workers)) (number_of t) (λ n e. map-bounded (gen n) (workers_of workers) (λ m f. (number-bounded t n e, workers-bounded workers m f))))
    none-bounded

in-bounded : (words : List Text) (workers of : Option Text) → AllBounded (command_in words workers of)
in-bounded [] None None = none-bounded
in-bounded [] None (Some e) = none-bounded
in-bounded [] (Some t) None = none-bounded
in-bounded [] (Some t) (Some e) = none-bounded
in-bounded (w ∷ []) None None = plain-bounded w None
in-bounded (w ∷ []) (Some t) None = plain-bounded w (Some t)
in-bounded (w ∷ []) None (Some e) = then-bounded (element_command w) (element_of e) (λ p f. element-bounded w p)
in-bounded (w ∷ []) (Some t) (Some e) = none-bounded
in-bounded (w ∷ n ∷ []) None None = numbered-bounded w n None
in-bounded (w ∷ n ∷ []) (Some t) None = numbered-bounded w n (Some t)
in-bounded (w ∷ n ∷ []) None (Some e) = none-bounded
in-bounded (w ∷ n ∷ []) (Some t) (Some e) = none-bounded
in-bounded (w ∷ n ∷ v ∷ ws) None None = none-bounded
in-bounded (w ∷ n ∷ v ∷ ws) None (Some e) = none-bounded
in-bounded (w ∷ n ∷ v ∷ ws) (Some t) None = none-bounded
in-bounded (w ∷ n ∷ v ∷ ws) (Some t) (Some e) = none-bounded

pub commands-are-bounded : CommandsAreBounded
commands-are-bounded words = then-bounded (λ f. command_in f.words f.workers f.of) (reading_of words) (λ f e. in-bounded f.words f.workers f.of)
