-- What stays of the trees that a call isn't about.
use Rattle.std.proofs.Common.{◌≡◌, ◌≢◌, ℕ, Option, Some, None, ◌⊎◌, inl, inr, sym, ap, ◌∙◌, subst, List, get_or}
use Rattle.std.proofs.lemmas.List.{get_or-set_other}
use Rattle.std.specs.Option.{option_map}
use Rattle.tv_lemmas.proofs.Options.{some-not_none}
use Rattle.tv_pool.specs.Pool.{Pool, item_in, lying_in, stored_in, region_at, regions_with, region_of, slot_of}
use Rattle.tv_stream.specs.declared.nodes.Entry.{Entry}
use Rattle.tv_stream.specs.nodes.Stands.{Spot}
use Rattle.tv_stream.proofs.Apart.{nodes-stay, parts-stay}
use Rattle.tv_stream.specs.declared.held.Held.{Held}
use Rattle.tv_stream.specs.declared.partial.Partial.{Partial as Handle}
use Rattle.tv_stream.specs.Trees.{memory_of}
use Rattle.tv_stream.specs.Stands.{StandsOn, Grows, Starts, Apart, Stays}
use Rattle.tv_stream.proofs.Same.{Agrees, same-tree, same-sound}

module _ {T : Type 0} where
  -- a tree stays where what lies in its slots does
  pub stays-on : (old new : Pool (Entry (Held T))) (q : Handle T) (spots : ℕ → Option Spot) → StandsOn old q spots → ((s : ℕ) (x : Spot) → spots s ≡ Some x → memory_of new q s ≡ memory_of old q s) → Stays old new q spots
  stays-on old new q spots stands same =
      let m = memory_of old q in
      let m' = memory_of new q in
      let agrees : (r : List ℕ) → Agrees m m' spots r = λ r. record {
        bodies = λ u v y known e. ap (option_map (λ (x : Entry (Held T)). x.body)) (same u v known);
        parts = λ u v y i known e. parts-stay m m' spots stands.nodes same u v i known;
      } in
      record {
        stands = record {
          nodes = nodes-stay m m' spots stands.nodes same;
          spot = stands.spot;
          known = stands.known;
          sound = same-sound m m' spots stands.nodes q.depth (slot_of q.root) stands.spot stands.known (agrees stands.spot.place) stands.sound;
          fits = stands.fits;
        };
        tree = same-tree m m' spots stands.nodes q.depth (slot_of q.root) stands.spot stands.known (agrees stands.spot.place);
      }

  lies-there : (pool : Pool (Entry (Held T))) (q : Handle T) (spots : ℕ → Option Spot) → StandsOn pool q spots → (s : ℕ) (x : Spot) → spots s ≡ Some x → memory_of pool q s ≡ None → ⊥
  lies-there pool q spots stands s x known none = let e = stands.nodes.entries s x known in some-not_none (memory_of pool q s) e.entry e.lies none

  pub stays-grown : (old new : Pool (Entry (Held T))) (p q : Handle T) (spots others : ℕ → Option Spot) → region_of p.root ≡ region_of q.root → Apart spots others → StandsOn old q others → (g : Grows old new p spots) → Stays old new q others × Apart g.more others
  stays-grown old new p q spots others region apart stands g = (stays-on old new q others stands same, apart-after)
    where
      by : (s : ℕ) (x : Spot) → others s ≡ Some x → (g.more s ≡ None) ⊎ (memory_of old p s ≡ None) → g.more s ≡ None
      by s x known (inl none) = none
      by s x known (inr none) = absurd (lies-there old q others stands s x known (subst (λ k. item_in old k s ≡ None) region none))

      apart-after : Apart g.more others
      apart-after s x known = by s x known (g.fresh s (apart s x known))

      same : (s : ℕ) (x : Spot) → others s ≡ Some x → memory_of new q s ≡ memory_of old q s
      same s x known = subst (λ k. item_in new k s ≡ item_in old k s) region (g.others s (apart-after s x known))

  pub stays-started : (old new : Pool (Entry (Held T))) (p q : Handle T) (depth number : ℕ) (others : ℕ → Option Spot) → region_of q.root ≡ number → StandsOn old q others → (g : Starts old new p depth number) → Stays old new q others × Apart g.spots others
  stays-started old new p q depth number others region stands g = (stays-on old new q others stands same, λ s x known. (g.alone s (not-root s x known)).0)
    where
      not-root : (s : ℕ) (x : Spot) → others s ≡ Some x → s ≢ slot_of p.root
      not-root s x known is = lies-there old q others stands s x known (subst (λ k. item_in old k s ≡ None) (sym region) (ap (item_in old number) is ∙ g.fresh))

      same : (s : ℕ) (x : Spot) → others s ≡ Some x → memory_of new q s ≡ memory_of old q s
      same s x known = subst (λ k. item_in new k s ≡ item_in old k s) (sym region) (g.alone s (not-root s x known)).1

  pub stays-elsewhere : (old new : Pool (Entry (Held T))) (q : Handle T) (others : ℕ → Option Spot) → region_at new (region_of q.root) ≡ region_at old (region_of q.root) → StandsOn old q others → Stays old new q others
  stays-elsewhere old new q others same stands = stays-on old new q others stands (λ s x known. ap (λ r. lying_in (stored_in r) s) same)

  pub stays-released : (old new : Pool (Entry (Held T))) (q : Handle T) (number : ℕ) (others : ℕ → Option Spot) → region_of q.root ≢ number → new.regions ≡ regions_with old number None → StandsOn old q others → Stays old new q others
  stays-released old new q number others ne released stands =
      stays-elsewhere old new q others (ap (λ rs. get_or rs (region_of q.root) None) released ∙ get_or-set_other old.regions number (region_of q.root) None None ne) stands
