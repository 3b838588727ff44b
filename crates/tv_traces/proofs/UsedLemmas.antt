-- What stands in the outputs used what the traces tell.
use Rattle.std.specs.Prelude.{◌≡◌, refl, ℕ, suc, ◌≤◌, ◌<◌, Bool, true, false, if◌then◌else◌, is_some, length, flat_map, List, [], ◌∷◌, ◌++◌, map, take, ◌+◌, Some, None, option_map, slice_get}
use Rattle.std.proofs.Common.{arith, sym, ap, ap₂, subst, ◌∙◌, get_or}
use Rattle.std.proofs.lemmas.List.{length-map, take_all}
use Rattle.std.proofs.lemmas.Option.{same_Some}
use Rattle.tv_lemmas.proofs.Lists.{get-map, get-within, get-map_read, get-read}
use Rattle.tv_value.specs.Nested.{Place, at}
use Rattle.tv_value.specs.Orders.{same_name}
use Rattle.tv_value.specs.Values.{Name, Value}
use Rattle.tv_gate.specs.Outcomes.{Giving}
use Rattle.tv_flow.specs.Flows as spec
use Rattle.tv_flow.specs.Flows.{Document}
use Rattle.tv_flow.specs.Views.{feed_view, flow_view}
use Rattle.tv_strategy.specs.Origins.{Traced, plain}
use Rattle.tv_cell.specs.PieceValues.{piece_value, piece_values}
use Rattle.tv_cell.specs.declared.piece.Piece.{Piece}
use Rattle.tv_naming.specs.Numbers.{position}
use Rattle.tv_check.specs.Feeds.{feed_numbered}
use Rattle.tv_check.specs.declared.feeds.NumberedFeed.{NumberedFeed}
use Rattle.tv_check.specs.declared.wiring.Wiring.{Wiring}
use Rattle.tv_check.specs.declared.plans.FlowPlan.{FlowPlan}
use Rattle.tv_model.specs.Meanings.{meaning}
use Rattle.tv_model.specs.records.Recorded.{leaves, marks_of, output_at}
use Rattle.tv_frame.proofs.TableLemmas.{wiring-is}
use Rattle.tv_lineage.specs.Lineages as lineages
use Rattle.tv_flow.specs.declared.document.Feed.{Feed}
use Rattle.tv_traces.specs.Feeds.{feed_marks}
use Rattle.tv_traces.specs.Leaves.{leaf_places}
use Rattle.tv_traces.proofs.Outputs.{leaves-are, leaves_told, named-output, no-output, output, outputs-are, place-told, value}
use Rattle.tv_traces.specs.Traced.{AreTraces}
use Rattle.tv_traces.specs.Views.{shapes_view}
use Rattle.tv_traces.specs.declared.traces.Traces.{Traces}
use Rattle.tv_naming.proofs.ByPosition.{position-each}

both-at : {A B C : Type 0} (f : B → C) (g : A → B) (xs : List A) (k : ℕ) (x : A) → slice_get xs k ≡ Some x → slice_get (map f (map g xs)) k ≡ Some (f (g x))
both-at f g xs k x e = get-map f (map g xs) k (g x) (get-map g xs k x e)

abbrev pub plain_values : Giving → Document → List Value
plain_values gives d = map (λ (o : Name × Traced). plain o.1) (meaning gives d).outputs

module _ (gives : Giving) (d : Document) (p : FlowPlan) (t : Traces) (a : AreTraces gives d (flow_view p.flow) t) where
  abbrev flow : spec.Flow
  flow = flow_view p.flow

  abbrev plain_of : Name × Traced → Value
  plain_of o = plain o.1

  as-many : length flow.outputs ≡ length p.flow.outputs
  as-many = length-map p.flow.outputs (λ o. (o.0, feed_view o.1))

  -- there are as many feeds, and as many values
  pub feeds-many : length p.wiring.outputs ≡ length p.flow.outputs
  feeds-many = ap (λ (w : Wiring). length w.outputs) (wiring-is p) ∙ length-map flow.outputs (λ o. feed_numbered flow o.1) ∙ as-many

  pub values-many : (outs : List Piece) → piece_values outs ≡ map plain_of (meaning gives d).outputs → length outs ≡ length p.flow.outputs
  values-many outs e =
      sym (length-map outs piece_value) ∙ ap length e ∙ length-map (meaning gives d).outputs plain_of
      ∙ ap length (outputs-are gives d flow a.flow_is) ∙ length-map flow.outputs (output gives d flow a.flow_is) ∙ as-many

  module _ (k : ℕ) (lt : k < length p.flow.outputs) where
    pub here : (o : Name × spec.Feed) × (slice_get flow.outputs k ≡ Some o)
    here = get-within flow.outputs k (subst (λ n. k < n) (sym as-many) lt)

    pub feed-is : (xs : List NumberedFeed) → xs ≡ p.wiring.outputs → (x : NumberedFeed) → k < length xs → x ≡ get_or xs k x → x ≡ feed_numbered flow here.0.1
    feed-is xs e x h is = same_Some x (feed_numbered flow here.0.1) (sym (get-read xs k x h is) ∙ ap (λ l. slice_get l k) (e ∙ ap (λ (w : Wiring). w.outputs) (wiring-is p)) ∙ get-map (λ o. feed_numbered flow o.1) flow.outputs k here.0 here.1)

    pub piece-is : (outs : List Piece) → piece_values outs ≡ map plain_of (meaning gives d).outputs → (y : Piece) → k < length outs → y ≡ get_or outs k y → piece_value y ≡ plain (value gives d flow a.flow_is here.0.1)
    piece-is outs e y h is =
        same_Some (piece_value y) (plain (value gives d flow a.flow_is here.0.1))
        (sym (get-map_read piece_value outs k y h is) ∙ ap (λ l. slice_get l k) (e ∙ ap (map plain_of) (outputs-are gives d flow a.flow_is)) ∙ both-at plain_of (output gives d flow a.flow_is) flow.outputs k here.0 here.1)

  -- no output of that name
  pub none-named : (port : Name) (q : Place) → position port p.flow.outputs ≡ length p.flow.outputs → output_at (meaning gives d) port q ≡ None
  none-named port q e = no-output gives d flow a.flow_is (shapes_view t.shapes.items) a.shapes port (position-each feed_view port p.flow.outputs ∙ e ∙ sym as-many) q

  -- what stands in the output of that number
  pub used-there : (port : Name) (q : Place) (k : ℕ) (lt : k < length p.flow.outputs) → position port p.flow.outputs ≡ k → (xs : List NumberedFeed) → xs ≡ p.wiring.outputs → (x : NumberedFeed) → k < length xs → x ≡ get_or xs k x → (outs : List Piece) → piece_values outs ≡ map plain_of (meaning gives d).outputs → (y : Piece) → k < length outs → y ≡ get_or outs k y → (b : Bool) → b ≡ is_some (at (piece_value y) q) → (if b then Some (feed_marks flow (shapes_view t.shapes.items) x q) else None) ≡ option_map marks_of (output_at (meaning gives d) port q)
  used-there port q k lt e xs f x h is outs g y i js b m =
      let o = here k lt in
      ap (λ z. if b then Some (feed_marks flow (shapes_view t.shapes.items) z q) else None) (feed-is k lt xs f x h is)
      ∙ place-told gives d flow a.flow_is (shapes_view t.shapes.items) a.shapes o.0.1 q b (m ∙ ap (λ v. is_some (at v q)) (piece-is k lt outs g y i js))
      ∙ ap (option_map marks_of) (sym (named-output gives d flow a.flow_is (shapes_view t.shapes.items) a.shapes port k o.0 o.1 (position-each feed_view port p.flow.outputs ∙ e) q))

  -- what is no number of a feed is no number of an output
  pub not-there : (port : Name) (k : ℕ) → k ≡ position port p.flow.outputs → (xs : List NumberedFeed) → xs ≡ p.wiring.outputs → length xs ≤ k → position port p.flow.outputs ≡ length p.flow.outputs
  not-there port k e xs f h = ends (position port p.flow.outputs) (length p.flow.outputs) (within port p.flow.outputs) (at-least k (length xs) (length p.flow.outputs) (position port p.flow.outputs) h e (ap length f ∙ feeds-many))
    where
      ends : (a b : ℕ) → a ≤ b → b ≤ a → a ≡ b
      ends a b h k = omega arith

      at-least : (k n m a : ℕ) → n ≤ k → k ≡ a → n ≡ m → m ≤ a
      at-least k n m a h e f = omega arith

      within : {A : Type 0} (n : Name) (xs : List (Name × A)) → position n xs ≤ length xs
      within n [] = omega arith
      within n (x ∷ xs) = by (same_name n x.0) (within n xs)
        where
          more : (a b : ℕ) → a ≤ b → suc a ≤ suc b
          more a b h = omega arith

          none : (b : ℕ) → 0 ≤ suc b
          none b = omega arith

          by : (b : Bool) → position n xs ≤ length xs → (if b then 0 else suc (position n xs)) ≤ suc (length xs)
          by true h = none (length xs)
          by false h = more (position n xs) (length xs) h

  -- the number of a feed is that of an output, and of a value
  pub in-outputs : (k : ℕ) (xs : List NumberedFeed) → xs ≡ p.wiring.outputs → k < length xs → k < length p.flow.outputs
  in-outputs k xs e h = less k (length xs) (length p.flow.outputs) h (ap length e ∙ feeds-many)
    where
      less : (k n m : ℕ) → k < n → n ≡ m → k < m
      less k n m h e = omega arith

  pub has-value : {A : Type 0} (k : ℕ) (xs : List NumberedFeed) → xs ≡ p.wiring.outputs → k < length xs → (outs : List Piece) → piece_values outs ≡ map plain_of (meaning gives d).outputs → length outs ≤ k → A
  has-value k xs e h outs f le = absurd (no k (length p.flow.outputs) (length outs) (in-outputs k xs e h) (values-many outs f) le)
    where
      no : (k n m : ℕ) → k < n → m ≡ n → m ≤ k → ⊥
      no k n m h e le = omega arith

  -- ---- leaves

  -- those of the first so many outputs
  abbrev pub leaves_until : ℕ → List lineages.Leaf
  leaves_until k = flat_map (leaves_told gives d flow a.flow_is (shapes_view t.shapes.items) a.shapes) (take k flow.outputs)

  pub leaves-none : leaves_until 0 ≡ []
  leaves-none = refl

  pub leaves-next : (outs : List Piece) → piece_values outs ≡ map plain_of (meaning gives d).outputs → (k : ℕ) (lt : k < length p.flow.outputs) (os : List (Name × Feed)) → os ≡ p.flow.outputs → (x : Name × Feed) → x ≡ get_or os k x → (xs : List NumberedFeed) → xs ≡ p.wiring.outputs → (f : NumberedFeed) → k < length xs → f ≡ get_or xs k f → (y : Piece) → k < length outs → y ≡ get_or outs k y → (places : List Place) → places ≡ leaf_places [] (piece_value y) → (old new : List lineages.Leaf) → old ≡ leaves_until k → new ≡ old ++ map (λ q. record { port = x.0; place = q; used = feed_marks flow (shapes_view t.shapes.items) f q }) places → new ≡ leaves_until (k + 1)
  leaves-next outs e k lt os g x xi xs ge f fl fi y yl yi places pe old new h n =
      let o = here k lt in
      let name : x.0 ≡ o.0.0 = ap (λ (z : Name × spec.Feed). z.0) (same_Some (x.0, feed_view x.1) o.0 (sym (get-map_read (λ (z : Name × Feed). (z.0, feed_view z.1)) p.flow.outputs k x lt (xi ∙ ap (λ l. get_or l k x) g)) ∙ o.1)) in
      n ∙ ap₂ (λ a b. a ++ b) h
      (ap (map (λ q. record { port = x.0; place = q; used = feed_marks flow (shapes_view t.shapes.items) f q })) (pe ∙ ap (leaf_places []) (piece-is k lt outs e y yl yi))
      ∙ ap₂ (λ m z. map (λ (q : Place). record { port = m; place = q; used = feed_marks flow (shapes_view t.shapes.items) z q }) (leaf_places [] (plain (value gives d flow a.flow_is o.0.1)))) name (feed-is k lt xs ge f fl fi))
      ∙ sym (flat-next flow.outputs k o.0 o.1)
    where
      flat-next : (os : List (Name × spec.Feed)) (k : ℕ) (o : Name × spec.Feed) → slice_get os k ≡ Some o → flat_map (leaves_told gives d flow a.flow_is (shapes_view t.shapes.items) a.shapes) (take (k + 1) os) ≡ flat_map (leaves_told gives d flow a.flow_is (shapes_view t.shapes.items) a.shapes) (take k os) ++ leaves_told gives d flow a.flow_is (shapes_view t.shapes.items) a.shapes o
      flat-next os k o e = Rattle.tv_frame.proofs.TableLemmas.flat-next (leaves_told gives d flow a.flow_is (shapes_view t.shapes.items) a.shapes) os k o e

  pub leaves-all : (k : ℕ) → length p.flow.outputs ≤ k → leaves_until k ≡ leaves (meaning gives d)
  leaves-all k h = ap (flat_map (leaves_told gives d flow a.flow_is (shapes_view t.shapes.items) a.shapes)) (take_all k flow.outputs (subst (λ n. n ≤ k) (sym as-many) h)) ∙ sym (leaves-are gives d flow a.flow_is (shapes_view t.shapes.items) a.shapes)
