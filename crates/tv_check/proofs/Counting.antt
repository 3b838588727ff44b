-- The ports of a document's steps, and their links, are few enough to be counted.
use Rattle.std.specs.Prelude.{◌≡◌, ℕ, ◌+◌, ◌<◌, ◌≤◌, ◌^◌, List, [], ◌∷◌, ◌++◌, length, map, take, true, Bool, ◌&&◌, nat_lt, Some, None, refl}
use Rattle.std.specs.List.{list_all}
use Rattle.std.proofs.Common.{arith, get_or, ap, sym, ◌∙◌, zero, suc}
use Rattle.std.proofs.lemmas.Bool.{lt-ltb, and_parts}
use Rattle.std.proofs.lemmas.List.{length-map, map-append}
use Rattle.tv_value.specs.Values.{Name}
use Rattle.tv_flow.specs.Flows.{Feed, link, merge, constant, StepInput, Step, Flow}
use Rattle.tv_flow.specs.Formed.{is_depth, is_feed, is_flow, is_link, is_step, is_step_input}
use Rattle.tv_flow.specs.Forms.{is_name}
use Rattle.tv_naming.specs.Naming.{numbered}
use Rattle.tv_naming.proofs.Lists.{take-step}
use Rattle.tv_naming.proofs.Kept.{at-most}
use Rattle.tv_naming.proofs.FormedParts.{all-pass, few, flow-steps, step-inputs}
use Rattle.tv_naming.proofs.Told.{length-numbered}
use Rattle.tv_check.specs.Feeds.{feed_numbered, link_numbered}
use Rattle.tv_check.specs.Ports.{port_among, ports_of}
use Rattle.tv_check.specs.Turned.{are_counted, has_counted, links_of}
use Rattle.tv_check.specs.declared.ports.Port.{Port}
use Rattle.tv_check.specs.declared.feeds.NumberedLink.{NumberedLink}

all-images : {X Y : Type 0} (p : X → Bool) (q : Y → Bool) (g : X → Y) (xs : List X) → list_all p xs ≡ true → ((x : X) → p x ≡ true → q (g x) ≡ true) → list_all q (map g xs) ≡ true
all-images p q g [] h k = refl
all-images p q g (x ∷ xs) h k =
    let b = and_parts (p x) (list_all p xs) h in
    ap (λ c. c && list_all q (map g xs)) (k x b.0) ∙ all-images p q g xs b.1 k

small : (n : ℕ) → n ≤ 16 → nat_lt n (2 ^ 32) ≡ true
small n le = lt-ltb n (2 ^ 32) (omega arith)

module _ (f : Flow) where
  links-few : (d : Feed) → is_feed d ≡ true → length (links_of (feed_numbered f d)) ≤ 16
  links-few (link l) h = omega arith
  links-few (merge ls) h =
      let le : length ls ≤ 16 = at-most 1 16 (length ls) (and_parts _ _ h).0 in
      let e : length (links_of (feed_numbered f (merge ls))) ≡ length ls =
      length-map (numbered 0 (map (link_numbered f) ls)) (λ (x : ℕ × NumberedLink). (Some x.0, x.1)) ∙ length-numbered 0 (map (link_numbered f) ls) ∙ length-map ls (link_numbered f)
      in
      omega (arith, le, e)
  links-few (constant v) h = omega arith

  ports-counted : (s : Step) → is_step s ≡ true → are_counted (ports_of f s) ≡ true
  ports-counted s h =
      let many : length (ports_of f s) ≡ length s.inputs = length-map s.inputs _ in
      let le = few is_step_input 0 16 s.inputs (step-inputs s h) in
      ap (λ b. b && list_all has_counted (ports_of f s)) (small (length (ports_of f s)) (omega (arith, many, le)))
      ∙ all-images (λ (e : Name × StepInput). is_name e.0 && is_step_input e.1) has_counted _ s.inputs (all-pass is_step_input 0 16 s.inputs (step-inputs s h))
      (λ i b. small (length (links_of (feed_numbered f i.1.from))) (links-few i.1.from (and_parts (is_depth i.1.depth) (is_feed i.1.from) (and_parts (is_name i.0) (is_step_input i.1) b).1).1))

  pub all-counted : is_flow f ≡ true → list_all are_counted (map (λ s. ports_of f s.1) f.steps) ≡ true
  all-counted h =
      all-images (λ (e : Name × Step). is_name e.0 && is_step e.1) are_counted (λ s. ports_of f s.1) f.steps (all-pass is_step 0 1000 f.steps (flow-steps f h))
      (λ s b. ports-counted s.1 (and_parts (is_name s.0) (is_step s.1) b).1)

-- one more image at the end
pub image-more : {X Y : Type 0} (g : X → Y) (xs : List X) (ys zs : List Y) (i : ℕ) (x : X) (y : Y) → i < length xs → x ≡ get_or xs i x → ys ≡ map g (take i xs) → zs ≡ ys ++ y ∷ [] → y ≡ g x → zs ≡ map g (take (i + 1) xs)
image-more g xs ys zs i x y lt is e more same =
    more
    ∙ ap (λ us. us ++ y ∷ []) e
    ∙ ap (λ u. map g (take i xs) ++ u ∷ []) same
    ∙ sym (map-append g (take i xs) (x ∷ []))
    ∙ ap (map g) (sym (take-step xs i x lt is))

-- what stands in a list of images is the image of what stands there
pub mapped-at : {X Y : Type 0} (g : X → Y) (xs : List X) (i : ℕ) (x : X) (y : Y) → i < length xs → x ≡ get_or xs i x → y ≡ get_or (map g xs) i y → y ≡ g x
mapped-at g [] i x y lt is at = absurd (omega arith)
mapped-at g (z ∷ zs) zero x y lt is at = at ∙ ap g (sym is)
mapped-at g (z ∷ zs) (suc i) x y lt is at = mapped-at g zs i x y (omega arith) is at
