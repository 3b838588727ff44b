use Rattle.std.proofs.Common.{◌≡◌, ◌∙◌, ◌<◌, ℕ, List, Bool, true, false, ◌||◌, eqb, length, get_or, drop, ap, subst, sym, arith, length-set}
use Rattle.std.proofs.Math.ListN.{set}
use mathlib.Core.Path.{fun_ext}
use Rattle.tv_naming.specs.graphs.Graphs.{is_one_of}
use Rattle.tv_naming.specs.graphs.Untaken.{is_taken, IsKept, none}
use Rattle.tv_naming.specs.graphs.Waiting.{waiting_at}
use Rattle.tv_naming.specs.graphs.Free.{has}
use Rattle.tv_naming.proofs.Members.{all-more, member-at, member-cond, rest-but, marked-set}
use Rattle.tv_naming.proofs.Tables.{IsKept-weaken, IsKept-take, waiting_open, ready-least, ready-none}
use Rattle.tv_naming.proofs.graphs.untaken.Untaken.take_least.Goals as goal

pub returns-in_default-clause-table : goal.returns-in_default-clause-table
returns-in_default-clause-table c =
    subst (λ (f : ℕ → Bool). IsKept c.args.graph.now none (is_taken c.args.self.now) f (λ u. is_one_of (waiting_at c.args.self.now.waiting u))) (fun_ext (λ u. sym (c.in_default.ensures.after u))) c.requires.table

pub returns-in_default-clause-value : goal.returns-in_default-clause-value
returns-in_default-clause-value c =
    sym (ready-none c.args.graph.now (is_taken c.args.self.now) (has c.args.self.now.free) (λ u. is_one_of (waiting_at c.args.self.now.waiting u)) c.requires.table c.in_default.ensures.found)

pub loop-other-init : goal.loop-other-init
loop-other-init c =
    let t = c.args.self.now in
    let v : ℕ = c.in-Some.vertex in
    let k = c.requires.table in
    let free_v : has t.free v ≡ true = c.in-Some.ensures.found in
    let below : v < length t.taken.items = omega (arith, (k.free_is v free_v).0, c.requires.places.taken_length) in
    let takes : (u : ℕ) → get_or (set t.taken.items v true) u false ≡ (is_taken t u || eqb u v) = λ u. marked-set t.taken.items v u below in
    let waited : waiting_at t.waiting v ≡ c.deref-other-items.result.now = sym (c.deref-other-items.ensures.value ∙ c.take-waited.ensures.value) in
    record {
      places = record {
        taken_length = length-set t.taken.items v true ∙ c.requires.places.taken_length;
        places_length = c.requires.places.places_length;
        waiting_count = c.take-waited.ensures.count ∙ c.requires.places.waiting_count;
        passed = λ u u_below. all-more (is_taken t) _ (λ w h. takes w ∙ ap (λ b. b || eqb w v) h) _ (c.requires.places.passed u u_below);
      };
      table = IsKept-weaken c.args.graph.now (λ u. get_or (set t.taken.items v true) u false) (is_one_of (waiting_at t.waiting v)) (is_one_of c.deref-other-items.result.now) (has c.take_least.new.self) (λ u. is_one_of (waiting_at c.take-waited.new.self u))
          (IsKept-take c.args.graph.now (is_taken t) (λ u. get_or (set t.taken.items v true) u false) (has t.free) (has c.take_least.new.self) (λ u. is_one_of (waiting_at t.waiting u)) (λ u. is_one_of (waiting_at c.take-waited.new.self u))
          k v free_v takes c.in-Some.ensures.after (λ u w. ap (λ xs. is_one_of xs w) (c.take-waited.ensures.after u) ∙ member-cond (eqb u v) _ w))
          (λ u _ h. ap (λ xs. is_one_of xs u) waited ∙ h);
      taken = takes;
      others = λ u h.
          waiting_open c.args.graph.now (is_taken t) (λ w. get_or (set t.taken.items v true) w false) (has t.free) (has c.take_least.new.self) (λ w. is_one_of (waiting_at t.waiting w)) (λ w. is_one_of (waiting_at c.take-waited.new.self w))
          k v free_v takes u (ap (λ xs. is_one_of xs u) waited ∙ h);
    }

pub settle-requires-clause-vertex : goal.settle-requires-clause-vertex
settle-requires-clause-vertex c = (c.loop-other.invariant.others _ (member-at c.deref-other-items.result.now c.loop-other.other-index c.loop-other-test.true)).0

pub loop-other-preserved : goal.loop-other-preserved
loop-other-preserved c =
    let items : List ℕ = c.deref-other-items.result.now in
    let i : ℕ = c.loop-other.other-index in
    let x_open : is_taken c.loop-other.self (get_or items i 0) ≡ false = (c.loop-other.invariant.others _ (member-at items i c.loop-other-test.true)).1 in
    let same : (u : ℕ) → is_taken c.settle.new.self u ≡ is_taken c.loop-other.self u = λ u. ap (λ (ts : List Bool). get_or ts u false) c.in_ok-settle.ensures.taken in
    record {
      places = c.in_ok-settle.ensures.places;
      table = IsKept-weaken _ _ _ _ _ _ (c.in_ok-settle.ensures.table (is_one_of (drop i items)) c.loop-other.invariant.table x_open) (λ u _ h. rest-but items i u c.loop-other-test.true h);
      taken = λ u. same u ∙ c.loop-other.invariant.taken u;
      others = λ u h. let was = c.loop-other.invariant.others u h in (was.0, same u ∙ was.1);
    }

pub returns-clause-value : goal.returns-clause-value
returns-clause-value c =
    sym (ready-least c.args.graph.now (is_taken c.args.self.now) (has c.args.self.now.free) (λ u. is_one_of (waiting_at c.args.self.now.waiting u)) c.requires.table c.in-Some.vertex c.in-Some.ensures.found c.in-Some.ensures.least)
