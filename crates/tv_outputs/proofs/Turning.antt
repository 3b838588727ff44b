-- The loops over the trees of a range: what holds in between, what the next call asks for, and what it leaves.
use Rattle.std.proofs.Common.{◌≡◌, ◌≤◌, ◌<◌, ◌+◌, ◌-◌, ℕ, List, [], ◌∷◌, ◌++◌, length, map, inr, refl, sym, ap, ◌∙◌, subst, arith, le_refl}
use Rattle.std.proofs.lemmas.List.{length-map}
use Rattle.tv_value.specs.Nested.{Place}
use Rattle.tv_value.specs.Values.{Value}
use Rattle.tv_parts.specs.Partials.{Partial}
use Rattle.tv_parts.specs.Changes.{arrive, close_at, CanArrive, CanClose}
use Rattle.tv_pool.specs.Pool.{IsLive, number_of}
use Rattle.tv_pool.specs.declared.handles.Region.{Region}
use Rattle.tv_stream.specs.nodes.Calls.{KeepsRegions}
use Rattle.tv_stream.specs.declared.partial.Partial.{Partial as Handle}
use Rattle.tv_cell.specs.declared.piece.Piece.{Piece}
use Rattle.tv_cell.specs.PieceValues.{piece_value}
use Rattle.tv_outputs.specs.Known.{Nodes, known_in, depths_in, tree_in, depth_in, needed}
use Rattle.tv_outputs.specs.Kept.{AreKept}
use Rattle.tv_outputs.specs.Changes.{Arrive, Close, Turns, AllCanArrive, AllCanClose}
use Rattle.tv_outputs.proofs.Lists.{arrive-none, arrive-more, close-none, close-more, needed-more, needed-part, map-more, length-more}

pub keeps-then : (old mid new : Nodes) (number : ℕ) → KeepsRegions old mid number → KeepsRegions mid new number → KeepsRegions old new number
keeps-then old mid new number a b = record { live = λ r h. b.live r (a.live r h); others = λ j ne. b.others j ne ∙ a.others j ne }

pub keeps-same : (pool : Nodes) (number : ℕ) → KeepsRegions pool pool number
keeps-same pool number = record { live = λ r h. h; others = λ j ne. refl }

-- what the call for the next tree asks for
pub record Asks (q : Place) (spare number : ℕ) (ds : List ℕ) (trees : List (Partial Value)) (Short : ℕ → Type 0) (Can : Partial Value → Type 0) : Type 0 where
  pub there : number < length trees
  pub short : Short (depth_in ds number)
  pub can : Can (tree_in trees number)
  pub room : depth_in ds number < spare

-- what it leaves
pub record Leaves (mid new : Nodes) (region : Region) (trees trees' : List (Handle Piece)) (number : ℕ) (tree : Partial Value) : Type 0 where
  pub turns : Turns number tree (known_in mid trees) (known_in new trees')
  pub same : trees' ≡ trees
  pub kept : AreKept new region trees'
  pub regions : KeepsRegions mid new (number_of region)
  pub spare : mid.spare ≤ new.spare + depth_in (depths_in trees) number

room-left : (ds : List ℕ) (first done count old now : ℕ) → done < count → needed ds first count ≤ old → old ≤ now + needed ds first done → depth_in ds (first + done) < now
room-left ds first done count old now h room spare = by (needed ds first done) (needed ds first (done + 1)) (needed ds first count) (depth_in ds (first + done)) (needed-more ds first done) (needed-part ds first (done + 1) count (next done count h)) room spare
  where
    next : (a b : ℕ) → a < b → a + 1 ≤ b
    next a b h = omega arith

    by : (a b c d : ℕ) → b ≡ a + (d + 1) → b ≤ c → c ≤ old → old ≤ now + a → d < now
    by a b c d e k r s = omega arith

spare-left : (ds : List ℕ) (first done old mid now : ℕ) → old ≤ mid + needed ds first done → mid ≤ now + depth_in ds (first + done) → old ≤ now + needed ds first (done + 1)
spare-left ds first done old mid now h k = by (needed ds first done) (needed ds first (done + 1)) (depth_in ds (first + done)) (needed-more ds first done) h k
  where
    by : (a b d : ℕ) → b ≡ a + (d + 1) → old ≤ mid + a → mid ≤ now + d → old ≤ now + b
    by a b d e h k = omega arith

inside : (first done count n m : ℕ) → done < count → first + count ≤ n → m ≡ n → first + done < m
inside first done count n m h k e = omega arith

pub leaves-at : (mid new : Nodes) (region : Region) (trees trees' : List (Handle Piece)) (change : Partial Value → Partial Value) (n m : ℕ) → n ≡ m → Leaves mid new region trees trees' n (change (tree_in (known_in mid trees) n)) → Leaves mid new region trees trees' m (change (tree_in (known_in mid trees) m))
leaves-at mid new region trees trees' change n m e l = subst (λ k. Leaves mid new region trees trees' k (change (tree_in (known_in mid trees) k))) e l

pub within-range : (first number count : ℕ) → first ≤ number → number < first + count → number - first < count
within-range first number count h k = omega arith

pub back : (first number : ℕ) → first ≤ number → first + (number - first) ≡ number
back first number h = omega arith

pub next-number : (first number : ℕ) → first ≤ number → (number - first) + 1 ≡ number + 1 - first
next-number first number h = omega arith

pub last-number : (first number count : ℕ) → first + count ≤ number → number ≤ first + count → number - first ≡ count
last-number first number count h k = omega arith

pub none-yet : (first : ℕ) → 0 ≡ first - first
none-yet first = omega arith

pub need-step : (ds : List ℕ) (first number nodes more d : ℕ) → first ≤ number → nodes ≡ needed ds first (number - first) → more ≡ nodes + (d + 1) → depth_in ds number ≡ d → more ≡ needed ds first (number + 1 - first)
need-step ds first number nodes more d low so_far adds depth =
    adds
    ∙ ap (λ n. n + (d + 1)) so_far
    ∙ ap (λ e. needed ds first (number - first) + (e + 1)) (sym depth ∙ ap (depth_in ds) (sym (back first number low)))
    ∙ sym (needed-more ds first (number - first))
    ∙ ap (needed ds first) (next-number first number low)

-- ---- arrivals

-- so many pieces have arrived
pub record Arriving (old now : Nodes) (region : Region) (trees0 trees : List (Handle Piece)) (first : ℕ) (q : Place) (done : List Piece) : Type 0 where
  pub same : trees ≡ trees0
  pub live : IsLive now region
  pub kept : AreKept now region trees
  pub changed : Arrive first q (map piece_value done) (known_in old trees0) (known_in now trees)
  pub regions : KeepsRegions old now (number_of region)
  pub spare : old.spare ≤ now.spare + needed (depths_in trees0) first (length done)

module _ (old now : Nodes) (region : Region) (trees0 trees : List (Handle Piece)) (first : ℕ) (q : Place) (done : List Piece) (a : Arriving old now region trees0 trees first q done) where
  same-length : length (map piece_value done) ≡ length done
  same-length = length-map done piece_value

  untouched : tree_in (known_in now trees) (first + length done) ≡ tree_in (known_in old trees0) (first + length done)
  untouched = a.changed.others (first + length done) (inr (subst (λ n. first + n ≤ first + length done) (sym same-length) (le_refl (first + length done))))

  pub arriving-asks : (count : ℕ) → AllCanArrive first count q (depths_in trees0) (known_in old trees0) → needed (depths_in trees0) first count ≤ old.spare → length done < count → Asks q now.spare (first + length done) (depths_in trees) (known_in now trees) (λ d. length q ≤ d) (CanArrive q)
  arriving-asks count can room more = record {
    there = inside first (length done) count (length (known_in old trees0)) (length (known_in now trees)) more can.there a.changed.as_many;
    short = subst (λ ts. length q ≤ depth_in (depths_in ts) (first + length done)) (sym a.same) (can.short (length done) more);
    can = subst (CanArrive q) (sym untouched) (can.can (length done) more);
    room = subst (λ ts. depth_in (depths_in ts) (first + length done) < now.spare) (sym a.same) (room-left (depths_in trees0) first (length done) count old.spare now.spare more room a.spare);
  }

  pub arriving-more : (new : Nodes) (trees' : List (Handle Piece)) (piece : Piece) → Leaves now new region trees trees' (first + length done) (arrive q (piece_value piece) (tree_in (known_in now trees) (first + length done))) → Arriving old new region trees0 trees' first q (done ++ piece ∷ [])
  arriving-more new trees' piece l = record {
    same = l.same ∙ a.same;
    live = l.regions.live region a.live;
    kept = l.kept;
    changed = subst (λ vs. Arrive first q vs (known_in old trees0) (known_in new trees')) (sym (map-more piece_value done piece)) (arrive-more first q (map piece_value done) (piece_value piece) (known_in old trees0) (known_in now trees) (known_in new trees') a.changed (subst (λ n. Turns (first + n) (arrive q (piece_value piece) (tree_in (known_in now trees) (first + n))) (known_in now trees) (known_in new trees')) (sym same-length) l.turns));
    regions = keeps-then old now new (number_of region) a.regions l.regions;
    spare = subst (λ n. old.spare ≤ new.spare + needed (depths_in trees0) first n) (sym (length-more done piece)) (spare-left (depths_in trees0) first (length done) old.spare now.spare new.spare a.spare (subst (λ ts. now.spare ≤ new.spare + depth_in (depths_in ts) (first + length done)) a.same l.spare));
  }

pub arriving-none : (pool : Nodes) (region : Region) (trees : List (Handle Piece)) (first : ℕ) (q : Place) → IsLive pool region → AreKept pool region trees → Arriving pool pool region trees trees first q []
arriving-none pool region trees first q live kept = record { same = refl; live = live; kept = kept; changed = arrive-none first q (known_in pool trees); regions = keeps-same pool (number_of region); spare = plus pool.spare }
  where
    plus : (n : ℕ) → n ≤ n + 0
    plus n = omega arith

-- ---- closed lists

-- so many lists are closed
pub record Closing (old now : Nodes) (region : Region) (trees0 trees : List (Handle Piece)) (first : ℕ) (q : Place) (size done : ℕ) : Type 0 where
  pub same : trees ≡ trees0
  pub live : IsLive now region
  pub kept : AreKept now region trees
  pub changed : Close first done q size (known_in old trees0) (known_in now trees)
  pub regions : KeepsRegions old now (number_of region)
  pub spare : old.spare ≤ now.spare + needed (depths_in trees0) first done

module _ (old now : Nodes) (region : Region) (trees0 trees : List (Handle Piece)) (first : ℕ) (q : Place) (size done : ℕ) (a : Closing old now region trees0 trees first q size done) where
  unclosed : tree_in (known_in now trees) (first + done) ≡ tree_in (known_in old trees0) (first + done)
  unclosed = a.changed.others (first + done) (inr (le_refl (first + done)))

  pub closing-asks : (count : ℕ) → AllCanClose first count q size (depths_in trees0) (known_in old trees0) → needed (depths_in trees0) first count ≤ old.spare → done < count → Asks q now.spare (first + done) (depths_in trees) (known_in now trees) (λ d. length q < d) (CanClose q size)
  closing-asks count can room more = record {
    there = inside first done count (length (known_in old trees0)) (length (known_in now trees)) more can.there a.changed.as_many;
    short = subst (λ ts. length q < depth_in (depths_in ts) (first + done)) (sym a.same) (can.short done more);
    can = subst (CanClose q size) (sym unclosed) (can.can done more);
    room = subst (λ ts. depth_in (depths_in ts) (first + done) < now.spare) (sym a.same) (room-left (depths_in trees0) first done count old.spare now.spare more room a.spare);
  }

  pub closing-more : (new : Nodes) (trees' : List (Handle Piece)) → Leaves now new region trees trees' (first + done) (close_at q size (tree_in (known_in now trees) (first + done))) → Closing old new region trees0 trees' first q size (done + 1)
  closing-more new trees' l = record {
    same = l.same ∙ a.same;
    live = l.regions.live region a.live;
    kept = l.kept;
    changed = close-more first done q size (known_in old trees0) (known_in now trees) (known_in new trees') a.changed l.turns;
    regions = keeps-then old now new (number_of region) a.regions l.regions;
    spare = spare-left (depths_in trees0) first done old.spare now.spare new.spare a.spare (subst (λ ts. now.spare ≤ new.spare + depth_in (depths_in ts) (first + done)) a.same l.spare);
  }

pub closing-none : (pool : Nodes) (region : Region) (trees : List (Handle Piece)) (first : ℕ) (q : Place) (size : ℕ) → IsLive pool region → AreKept pool region trees → Closing pool pool region trees trees first q size 0
closing-none pool region trees first q size live kept = record { same = refl; live = live; kept = kept; changed = close-none first q size (known_in pool trees); regions = keeps-same pool (number_of region); spare = plus pool.spare }
  where
    plus : (n : ℕ) → n ≤ n + 0
    plus n = omega arith
