-- A frame whose region is what it was keeps what it kept.
use Rattle.std.specs.Prelude.{List, Some, [], length, refl, slice_get, suc, ℕ, ◌+◌, ◌∷◌, ◌≡◌, ◌≤◌}
use Rattle.std.proofs.Common.{ap, arith, subst, sym}
use Rattle.tv_pool.specs.Pool.{lying_in, number_of, region_at, region_of, slot_of, stored_in}
use Rattle.tv_pool.specs.declared.handles.Region.{Region}
use Rattle.tv_stream.specs.nodes.Calls.{count_in}
use Rattle.tv_stream.specs.declared.partial.Partial.{Partial as Handle}
use Rattle.tv_stream.specs.Stands.{IsIn}
use Rattle.tv_stream.specs.Trees.{tree_at}
use Rattle.tv_stream.proofs.Others.{stays-elsewhere}
use Rattle.tv_cell.specs.declared.piece.Piece.{Piece}
use Rattle.tv_outputs.specs.Known.{Nodes, all_nodes, known, known_in, known_of, value_tree}
use Rattle.tv_outputs.specs.Kept.{AreKept, EachItem, IsNoted}
use Rattle.tv_frame.specs.Kept.{AreTrees}
use Rattle.tv_frame_laws.specs.Beside.{GivenUpKeeps, KeepsBeside, OthersCallsKeep, ReadyBeside, RefusalsKeep, ReleasesKeep, RoomsKeep, SameKeeps, StartsKeep}
use Rattle.tv_frame_laws.proofs.Regions.{given_up-same, live-before, live-same, released-other, rooms-same}

-- ---- trees

module _ (pool after : Nodes) (r : Region) (same : region_at after (number_of r) ≡ region_at pool (number_of r)) where
  -- the region of a tree is the frame's
  its-region : (t : Handle Piece) → IsIn t r → region_at after (region_of t.root) ≡ region_at pool (region_of t.root)
  its-region t within = subst (λ n. region_at after n ≡ region_at pool n) (sym within) same

  one-known : (t : Handle Piece) → IsIn t r → known_of after t ≡ known_of pool t
  one-known t within =
      ap (λ o. value_tree (tree_at t.depth (λ s. lying_in (stored_in o) s) (slot_of t.root))) (its-region t within)

  trees-known : (ts : List (Handle Piece)) → ((k : ℕ) (t : Handle Piece) → slice_get ts k ≡ Some t → IsIn t r)
      → known_in after ts ≡ known_in pool ts
  trees-known [] h = refl
  trees-known (t ∷ ts) h =
      let one = one-known t (h 0 t refl) in
      let rest = trees-known ts (λ k u e. h (suc k) u e) in
      λ i. one i ∷ rest i

  trees-kept : (ts : List (Handle Piece)) → AreKept pool r ts → AreKept after r ts
  trees-kept ts a = record {
    slots = a.slots;
    kept = λ k t e.
        let was = a.kept k t e in
        let stays = stays-elsewhere pool after t (a.slots k) (its-region t was.within) was.stands in
        record {
          stands = stays.stands;
          within = was.within;
          items = subst (EachItem IsNoted) (sym stays.tree) was.items;
        };
    apart = a.apart;
    few =
        subst (λ us. count_in after (number_of r) ≤ 0 + all_nodes us) (sym (trees-known ts (λ k t e. (a.kept k t e).within)))
        (subst (λ o. length (stored_in o) ≤ 0 + all_nodes (known_in pool ts)) (sym same) a.few);
  }

-- ---- frames

pub keeps-beside : KeepsBeside
keeps-beside flows plan pool after f v k same =
    let ts = f.outputs.trees.items in
    let told : known after f.outputs ≡ known pool f.outputs = trees-known pool after f.region same ts (λ n t e. (k.stand.kept n t e).within) in
    record {
      flow_is = k.flow_is;
      frame = k.frame;
      of_depths = k.of_depths;
      inputs_are = k.inputs_are;
      tables_are = k.tables_are;
      live = live-same pool after f.region same k.live;
      stand = trees-kept pool after f.region same ts k.stand;
      deep = k.deep;
      trees_are = subst (AreTrees v) (sym told) k.trees_are;
      endings_are = k.endings_are;
      intaken = k.intaken;
      as_many = k.as_many;
      matchers_are = k.matchers_are;
      jobs_are = k.jobs_are;
      waiting_are = k.waiting_are;
      idle_are = k.idle_are;
      outs_are = k.outs_are;
    }

pub ready-beside : ReadyBeside
ready-beside flows plan pool after f v n s e r same more = record {
  keeps = keeps-beside flows plan pool after f v r.keeps same;
  next = r.next;
  at = r.at;
  named = r.named;
  room = let was = r.room in omega (arith, was, more);
  from = r.from;
  turns = r.turns;
  whole = r.whole;
  counted = r.counted;
  told = r.told;
  show = r.show;
  outs = r.outs;
}

-- ---- calls

pub others-calls_keep : OthersCallsKeep
others-calls_keep pool after f number ne k = k.others (number_of f.region) ne

pub rooms-keep : RoomsKeep
rooms-keep pool after e = rooms-same pool after e

pub same-keeps : SameKeeps
same-keeps pool after number same = record {
  live = λ r h. live-same pool after r (same (number_of r)) h;
  others = λ n ne. same n;
}

pub starts-keep : StartsKeep
starts-keep pool after f live k = k.others (number_of f.region) (live-before pool f.region live)

pub refusals-keep : RefusalsKeep
refusals-keep pool after f same = same (number_of f.region)

pub given_up-keeps : GivenUpKeeps
given_up-keeps pool mid after k e = given_up-same pool mid after k e

pub releases-keep : ReleasesKeep
releases-keep pool after f number ne e = released-other pool after number (number_of f.region) e ne
