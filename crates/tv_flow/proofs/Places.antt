-- The paths of places in the document.
use Rattle.std.specs.Prelude.{◌≡◌, ℕ, List}
use Rattle.std.proofs.Common.{Bor, rules}
use Rattle.tv_flow.specs.declared.at.At.{At, the_lemmas}
use Rattle.tv_flow.specs.declared.at.At.TheVariants.{Key, Index}
use Rattle.tv_flow.specs.Complaints.{key, index}
use Rattle.tv_flow.specs.PathViews.{at_view}

pub at-Key : (outer : Bor At) (k : Bor (List ℕ)) → at_view (Key outer k) ≡ key (at_view outer.now) k.now
at-Key outer k = search (rules, the_lemmas)

pub at-Index : (outer : Bor At) (i : ℕ) → at_view (Index outer i) ≡ index (at_view outer.now) i
at-Index outer i = search (rules, the_lemmas)
