-- What jobs bind and what a flow's outputs are is what is delivered.
use Rattle.std.proofs.Common.{◌≡◌, ℕ, List, [], ◌∷◌, map, drop, Option, Some, None, refl, sym, ap, ◌∙◌}
use Rattle.std.specs.Prelude.{option_map, option_and_then, slice_get}
use Rattle.std.proofs.lemmas.Option.{same_Some, slice_get-map}
use Rattle.tv_value.specs.Nested.{Place, at}
use Rattle.tv_value.specs.Values.{Name, Value}
use Rattle.tv_value.specs.Views.{strategy_view}
use Rattle.tv_strategy.specs.Conditions.{number_of}
use Rattle.tv_strategy.specs.Splits.{split}
use Rattle.tv_naming.specs.Naming.{numbered}
use Rattle.tv_naming.proofs.Told.{get-numbered}
use Rattle.tv_check.specs.declared.feeds.NumberedFeed.{NumberedFeed}
use Rattle.tv_check.specs.declared.feeds.NumberedFeed.TheVariants.{Link, Merge, Constant}
use Rattle.tv_check.specs.declared.ports.Port.{Port}
use Rattle.tv_binding.specs.Binding.{delivered_by, IsBoundBy, JobsBindWhatIsDelivered, OutputsAreDelivered}
use Rattle.tv_binding.specs.Constants.{FlowConstants, constant_of_port, constant_of_output}
use Rattle.tv_binding.specs.Delivered.{FlowValues, IsKnownOf, no_items, wrapped_value}
use Rattle.tv_binding.specs.Found.{Known, all_found, feed_found}
use Rattle.tv_binding.specs.Jobs.{wraps, port_found, output_found}
use Rattle.tv_binding.specs.declared.jobs.StepPorts.{StepPorts}
use Rattle.tv_binding.proofs.Feeding.{found-delivered}

-- all that are found are each found
more-each : (v : Value) (os : List (Option Value)) (vs : List Value) (o : Option (List Value)) → ((us : List Value) → o ≡ Some us → map Some us ≡ os) → option_map (λ us. v ∷ us) o ≡ Some vs → map Some vs ≡ Some v ∷ os
more-each v os vs None k h = absurd (cc)
more-each v os vs (Some us) k h = ap (map Some) (sym (same_Some (v ∷ us) vs h)) ∙ ap (λ xs. Some v ∷ xs) (k us refl)

pub all-each : (os : List (Option Value)) (vs : List Value) → all_found os ≡ Some vs → map Some vs ≡ os
all-each [] vs h = ap (map Some) (sym (same_Some [] vs h))
all-each (None ∷ os) vs h = absurd (cc)
all-each (Some v ∷ os) vs h = more-each v os vs (all_found os) (λ us e. all-each os us e) h

each-of : {A : Type 0} (f : ℕ × A → Option Value) (xs : List A) (vs : List Value) → all_found (map f (numbered 0 xs)) ≡ Some vs → (n : ℕ) (x : A) (v : Value) → slice_get xs n ≡ Some x → slice_get vs n ≡ Some v → f (n, x) ≡ Some v
each-of f xs vs h n x v e g =
    same_Some (f (n, x)) (Some v)
    (sym (slice_get-map f (numbered 0 xs) n ∙ ap (option_map f) (get-numbered xs n x e))
    ∙ ap (λ os. slice_get os n) (sym (all-each (map f (numbered 0 xs)) vs h))
    ∙ slice_get-map Some vs n ∙ ap (option_map Some) g)

module _ (d : FlowValues) (k : Known) (known : IsKnownOf d k) where
  feed-stands : (f : NumberedFeed) (c : Option Value) (q : Place) (w : Value) → feed_found k f c q ≡ Some w → at (delivered_by d f c) q ≡ Some w
  feed-stands f (Some c) q w h = (found-delivered d k known).feed f c q w h
  feed-stands (Link l) None q w h = (found-delivered d k known).feed (Link l) no_items q w h
  feed-stands (Merge ls) None q w h = (found-delivered d k known).feed (Merge ls) no_items q w h
  feed-stands Constant None q w h = absurd (cc)

  module _ (cs : FlowConstants) (s : StepPorts) (q : Place) (n : ℕ) (p : Port) (v : Value) where
    in-lists : (x : Name × Place) → slice_get (split (number_of s.mismatch.now) (strategy_view s.tree.now) q) p.leaf ≡ Some x → (o : Option Value) → feed_found k p.feed (constant_of_port cs s.number n) x.1 ≡ o → option_map (wrapped_value (wraps s.inputs.now s.delivered.now n)) o ≡ Some v → IsBoundBy d cs s q n p v
    in-lists x there None e h = absurd (cc)
    in-lists x there (Some u) e h = record {
      leaf = x;
      at_leaf = there;
      inside = u;
      stands = feed-stands p.feed (constant_of_port cs s.number n) x.1 u e;
      wrapped = sym (same_Some _ v h);
    }

    at-leaf : (o : Option (Name × Place)) → slice_get (split (number_of s.mismatch.now) (strategy_view s.tree.now) q) p.leaf ≡ o → option_and_then (λ x. option_map (wrapped_value (wraps s.inputs.now s.delivered.now n)) (feed_found k p.feed (constant_of_port cs s.number n) x.1)) o ≡ Some v → IsBoundBy d cs s q n p v
    at-leaf None e h = absurd (cc)
    at-leaf (Some x) e h = in-lists x e (feed_found k p.feed (constant_of_port cs s.number n) x.1) refl h

  output-is : (cs : FlowConstants) (n : ℕ) (f : NumberedFeed) (v : Value) → output_found k cs (n, f) ≡ Some v → v ≡ delivered_by d f (constant_of_output cs n)
  output-is cs n f v h = sym (same_Some (delivered_by d f (constant_of_output cs n)) v (feed-stands f (constant_of_output cs n) [] v h))

  outputs-are : (cs : FlowConstants) (xs : List (ℕ × NumberedFeed)) (vs : List Value) → map Some vs ≡ map (output_found k cs) xs → vs ≡ map (λ x. delivered_by d x.1 (constant_of_output cs x.0)) xs
  outputs-are cs [] [] e = refl
  outputs-are cs [] (v ∷ vs) e = absurd (cc)
  outputs-are cs (x ∷ xs) [] e = absurd (cc)
  outputs-are cs ((n, f) ∷ xs) (v ∷ vs) e =
      ap (λ u. u ∷ vs) (output-is cs n f v (sym (same_Some _ _ (ap (λ os. slice_get os 0) e))))
      ∙ ap (λ us. delivered_by d f (constant_of_output cs n) ∷ us) (outputs-are cs xs vs (ap (drop 1) e))

pub jobs-bind : JobsBindWhatIsDelivered
jobs-bind d k known cs s q vs h n p v e g =
    let places = split (number_of s.mismatch.now) (strategy_view s.tree.now) q in
    at-leaf d k known cs s q n p v (slice_get places p.leaf) refl (each-of (port_found k cs s places) s.ports.now vs h n p v e g)

pub outputs-delivered : OutputsAreDelivered
outputs-delivered d k known cs fs vs h = outputs-are d k known cs (numbered 0 fs) vs (all-each (map (output_found k cs) (numbered 0 fs)) vs h)
