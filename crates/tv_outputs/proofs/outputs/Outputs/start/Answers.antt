use Rattle.std.proofs.Common.{◌≤◌, ◌+◌, ◌++◌, ◌∷◌, [], ℕ, length, map, take, sym, ap, ◌∙◌, subst, arith, get_or}
use Rattle.std.proofs.lemmas.List.{take_all, take_more}
use Rattle.tv_parts.specs.Partials.{wanting}
use Rattle.tv_pool.specs.Pool.{number_of}
use Rattle.tv_stream.specs.nodes.Calls.{count_in}
use Rattle.tv_outputs.specs.Known.{known_in, depths_in}
use Rattle.tv_outputs.specs.Kept.{AreKeptBeside}
use Rattle.tv_outputs.proofs.Lists.{map-more}
use Rattle.tv_outputs.proofs.Keeping.{kept-started, known-started, kept-none}
use Rattle.tv_outputs.proofs.Turning.{keeps-then, keeps-same}
use Rattle.tv_outputs.proofs.outputs.Outputs.start.Goals as goal

plus : (n : ℕ) → n ≤ n + 0
plus n = omega arith

pub loop-depth-init : goal.loop-depth-init
loop-depth-init c =
    let pool = c.args.pool.now in
    let region = c.args.region.now in
    let none = c.in_ok-reserve.ensures.items ∙ c.clear.ensures.items in
    record {
      live = c.requires;
      kept = subst (AreKeptBeside (count_in pool (number_of region)) pool region) (sym none) (kept-none pool region);
      known = ap (known_in pool) none;
      depths = ap depths_in none;
      regions = keeps-same pool (number_of region);
      spare = plus pool.spare;
    }

further : (a b d i : ℕ) → a ≤ b + i → b ≤ d + 1 → a ≤ d + (i + 1)
further a b d i h k = omega arith

pub loop-depth-preserved : goal.loop-depth-preserved
loop-depth-preserved c =
    let l = c.loop-depth.invariant in
    let old = c.loop-depth.pool in
    let new = c.start.new.pool in
    let ts = c.loop-depth.self.trees.items in
    let i = c.loop-depth.depth-index in
    let ds = c.args.depths.now in
    let d = get_or ds i 0 in
    let region = c.args.region.now in
    let tree = c.in-Ok.tree in
    let g = c.in-Ok.ensures.ok in
    let more = c.in_ok-push-in-Ok.ensures.items in
    let beside = count_in c.args.pool.now (number_of region) in
    let taken = take_more ds i 0 c.loop-depth-test.true in
    record {
      live = c.start.ensures.kept.live region l.live;
      kept = subst (AreKeptBeside beside new region) (sym more) (kept-started beside old new region ts l.kept tree d g c.in-Ok.ensures.node);
      known = ap (known_in new) more ∙ known-started beside old new region ts l.kept tree d g ∙ ap (λ us. us ++ wanting ∷ []) l.known ∙ sym (map-more (λ e. wanting) (take i ds) d) ∙ ap (map (λ e. wanting)) (sym taken);
      depths = ap depths_in more ∙ map-more (λ t. t.depth) ts tree ∙ ap (λ es. es ++ tree.depth ∷ []) l.depths ∙ ap (λ e. take i ds ++ e ∷ []) g.depth_is ∙ sym taken;
      regions = keeps-then c.args.pool.now old new (number_of region) l.regions c.start.ensures.kept;
      spare = further c.args.pool.now.spare old.spare new.spare i l.spare c.start.ensures.spare;
    }

at-most : (a b i n : ℕ) → a ≤ b + i → i ≤ n → a ≤ b + n
at-most a b i n h k = omega arith

pub returns : goal.returns
returns c =
    let l = c.loop-depth.invariant in
    let i = c.loop-depth.depth-index in
    let ds = c.args.depths.now in
    let all = take_all i ds c.loop-depth-test.false in
    record {
      known = l.known ∙ ap (map (λ d. wanting)) all;
      depths = l.depths ∙ all;
      stand = l.kept;
      kept = l.regions;
      spare = at-most c.args.pool.now.spare c.loop-depth.pool.spare i (length ds) l.spare c.loop-depth.auto.depth-index-end;
    }
