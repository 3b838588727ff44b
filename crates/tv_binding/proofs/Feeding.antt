-- What a feed is found to deliver is what it delivers.
use Rattle.std.specs.Prelude.{◌≡◌, refl, ℕ, zero, suc, List, [], ◌∷◌, map, Option, Some, None, option_map, option_and_then, slice_get, slice_index_or}
use Rattle.std.proofs.Common.{sym, ap, ◌∙◌}
use Rattle.std.proofs.lemmas.Option.{same_Some}
use Rattle.tv_value.specs.Nested.{Place, at, item_at, trees_of}
use Rattle.tv_value.specs.Values.{Value, list_value}
use Rattle.tv_check.specs.declared.feeds.NumberedLink.{NumberedLink}
use Rattle.tv_check.specs.declared.feeds.NumberedLink.TheVariants.{Input, Output}
use Rattle.tv_check.specs.declared.feeds.NumberedFeed.{NumberedFeed}
use Rattle.tv_check.specs.declared.feeds.NumberedFeed.TheVariants.{Link, Merge, Constant}
use Rattle.tv_binding.specs.Found.{Known, link_found, all_found, merge_found, feed_found}
use Rattle.tv_binding.specs.Delivered.{FlowValues, IsKnownOf, no_items, link_value, feed_value, wrapped_value}
use Rattle.tv_binding.specs.Stated.{FoundIsDelivered}
use Rattle.tv_binding.proofs.Finding.{found-there, found-in}

input-there : (vs : List Value) (x : ℕ) (q : Place) (w : Value) → option_and_then (λ v. at v q) (slice_get vs x) ≡ Some w → at (slice_index_or vs x no_items) q ≡ Some w
input-there [] x q w h = absurd (cc)
input-there (v ∷ vs) zero q w h = h
input-there (v ∷ vs) (suc x) q w h = input-there vs x q w h

module _ (d : FlowValues) (k : Known) (known : IsKnownOf d k) where
  link-there : (l : NumberedLink) (q : Place) (w : Value) → link_found k l q ≡ Some w → at (link_value d l) q ≡ Some w
  link-there (Input x) q w h = ap (λ vs. at (slice_index_or vs x no_items) q) (sym known.inputs) ∙ input-there k.inputs x q w h
  link-there (Output s o) q w h = found-there q (k.outputs s o) (d.outputs s o) w (known.outputs s o) h

  more-there : (l : NumberedLink) (ls : List NumberedLink) (vs : List Value) (v : Value) → link_value d l ≡ v → (o : Option (List Value)) → ((us : List Value) → o ≡ Some us → map (link_value d) ls ≡ us) → option_map (λ us. v ∷ us) o ≡ Some vs → map (link_value d) (l ∷ ls) ≡ vs
  more-there l ls vs v e None rest g = absurd (cc)
  more-there l ls vs v e (Some us) rest g = ap (λ x. x ∷ map (link_value d) ls) e ∙ ap (λ xs. v ∷ xs) (rest us refl) ∙ same_Some _ _ g

  next-there : (l : NumberedLink) (ls : List NumberedLink) (vs : List Value) (o : Option Value) → link_found k l [] ≡ o → ((us : List Value) → all_found (map (λ m. link_found k m []) ls) ≡ Some us → map (link_value d) ls ≡ us) → all_found (o ∷ map (λ m. link_found k m []) ls) ≡ Some vs → map (link_value d) (l ∷ ls) ≡ vs
  next-there l ls vs None e rest g = absurd (cc)
  next-there l ls vs (Some v) e rest g = more-there l ls vs v (same_Some _ _ (link-there l [] v e)) (all_found (map (λ m. link_found k m []) ls)) rest g

  all-there : (ls : List NumberedLink) (vs : List Value) → all_found (map (λ l. link_found k l []) ls) ≡ Some vs → map (link_value d) ls ≡ vs
  all-there [] vs h = same_Some _ _ h
  all-there (l ∷ ls) vs h = next-there l ls vs (link_found k l []) refl (λ us f. all-there ls us f) h

  item-there : (ls : List NumberedLink) (i : ℕ) (q : Place) (w : Value) → option_and_then (λ l. link_found k l q) (slice_get ls i) ≡ Some w → option_and_then (λ u. at u q) (item_at (trees_of (map (link_value d) ls)) i) ≡ Some w
  item-there [] i q w h = absurd (cc)
  item-there (l ∷ ls) zero q w h = link-there l q w h
  item-there (l ∷ ls) (suc i) q w h = item-there ls i q w h

  merge-there : (ls : List NumberedLink) (q : Place) (w : Value) → merge_found k ls q ≡ Some w → at (list_value (trees_of (map (link_value d) ls))) q ≡ Some w
  merge-there ls [] w h = by (all_found (map (λ l. link_found k l []) ls)) refl h
    where
      by : (o : Option (List Value)) → all_found (map (λ l. link_found k l []) ls) ≡ o → option_map (λ vs. list_value (trees_of vs)) o ≡ Some w → Some (list_value (trees_of (map (link_value d) ls))) ≡ Some w
      by None e g = absurd (cc)
      by (Some vs) e g = ap (λ us. Some (list_value (trees_of us))) (all-there ls vs e) ∙ g
  merge-there ls (i ∷ q) w h = item-there ls i q w h

  feed-there : (f : NumberedFeed) (c : Value) (q : Place) (w : Value) → feed_found k f (Some c) q ≡ Some w → at (feed_value d f c) q ≡ Some w
  feed-there (Link l) c q w h = link-there l q w h
  feed-there (Merge ls) c q w h = merge-there ls q w h
  feed-there Constant c q w h = h

  pub found-delivered : FoundIsDelivered d k
  found-delivered = record {
    link = link-there;
    feed = feed-there;
    wrapped = λ f c n w h. ap (wrapped_value n) (sym (same_Some _ _ (feed-there f c [] w h)));
  }

-- ---- inside what is found

module _ (k : Known) where
  input-inside : (o : Option Value) (v : Value) (q : Place) → option_and_then (λ w. at w []) o ≡ Some v → option_and_then (λ w. at w q) o ≡ at v q
  input-inside None v q h = absurd (cc)
  input-inside (Some w) v q h = ap (λ x. at x q) (same_Some _ _ h)

  link-inside : (l : NumberedLink) (v : Value) (q : Place) → link_found k l [] ≡ Some v → link_found k l q ≡ at v q
  link-inside (Input x) v q h = input-inside (slice_get k.inputs x) v q h
  link-inside (Output s o) v q h = found-in q (k.outputs s o) v h

  -- the first of all that are found, and the others
  pub record Parted (o : Option Value) (os : List (Option Value)) (vs : List Value) : Type 0 where
    pub head : Value
    pub rest : List Value
    pub first : o ≡ Some head
    pub others : all_found os ≡ Some rest
    pub all : head ∷ rest ≡ vs

  parted : (o : Option Value) (os : List (Option Value)) (vs : List Value) → all_found (o ∷ os) ≡ Some vs → Parted o os vs
  parted None os vs h = absurd (cc)
  parted (Some v) os vs h = by (all_found os) refl h
    where
      by : (x : Option (List Value)) → all_found os ≡ x → option_map (λ us. v ∷ us) x ≡ Some vs → Parted (Some v) os vs
      by None e g = absurd (cc)
      by (Some us) e g = record { head = v; rest = us; first = refl; others = e; all = same_Some _ _ g }

  links-inside : (ls : List NumberedLink) (vs : List Value) (i : ℕ) (q : Place) → all_found (map (λ l. link_found k l []) ls) ≡ Some vs → option_and_then (λ l. link_found k l q) (slice_get ls i) ≡ option_and_then (λ u. at u q) (item_at (trees_of vs) i)
  links-inside [] vs i q h = ap (λ us. option_and_then (λ u. at u q) (item_at (trees_of us) i)) (same_Some _ _ h)
  links-inside (l ∷ ls) vs zero q h =
      let p = parted (link_found k l []) (map (λ m. link_found k m []) ls) vs h in
      link-inside l p.head q p.first ∙ ap (λ us. option_and_then (λ u. at u q) (item_at (trees_of us) 0)) p.all
  links-inside (l ∷ ls) vs (suc i) q h =
      let p = parted (link_found k l []) (map (λ m. link_found k m []) ls) vs h in
      links-inside ls p.rest i q p.others ∙ ap (λ us. option_and_then (λ u. at u q) (item_at (trees_of us) (suc i))) p.all

  merge-inside : (ls : List NumberedLink) (v : Value) (q : Place) → merge_found k ls [] ≡ Some v → merge_found k ls q ≡ at v q
  merge-inside ls v [] h = h
  merge-inside ls v (i ∷ q) h = by (all_found (map (λ l. link_found k l []) ls)) refl h
    where
      by : (o : Option (List Value)) → all_found (map (λ l. link_found k l []) ls) ≡ o → option_map (λ vs. list_value (trees_of vs)) o ≡ Some v → merge_found k ls (i ∷ q) ≡ at v (i ∷ q)
      by None e g = absurd (cc)
      by (Some vs) e g = links-inside ls vs i q e ∙ ap (λ x. at x (i ∷ q)) (same_Some _ _ g)

pub found-inside : (k : Known) (f : NumberedFeed) (c : Option Value) (v : Value) (q : Place) → feed_found k f c [] ≡ Some v → feed_found k f c q ≡ at v q
found-inside k (Link l) c v q h = link-inside k l v q h
found-inside k (Merge ls) c v q h = merge-inside k ls v q h
found-inside k Constant c v q h = input-inside k c v q h
