-- How many nodes a region has after a put, and after a write through a link.
use Rattle.std.proofs.Common.{◌≡◌, ℕ, zero, suc, ◌+◌, [], ◌∷◌, ◌++◌, length, get_or, map, List, Option, Some, None, refl, ap, ◌∙◌}
use Rattle.std.proofs.lemmas.List.{length-append, length-map}
use Rattle.tv_pool.specs.Pool.{Begins, Pool, Contents, IsLive, Puts, contents_written, lies_at, number_of, region_at, stored_in, with_linked, with_lying}
use Rattle.tv_pool.specs.declared.handles.Region.{Region}
use Rattle.tv_pool.specs.declared.handles.Node.{Node}
use Rattle.tv_pool.specs.declared.handles.Link.{Link}
use Rattle.tv_pool.proofs.PoolLemmas.{region_at-put}
use Rattle.tv_stream.specs.declared.nodes.Entry.{Entry}
use Rattle.tv_stream.specs.nodes.Calls.{count_in}

module _ {B : Type 0} where
  -- a region that begins has none
  last-of : (os : List (Option (Contents (Entry B)))) (o : Option (Contents (Entry B))) → get_or (os ++ o ∷ []) (length os) None ≡ o
  last-of [] o = refl
  last-of (x ∷ os) o = last-of os o

  pub count-begun : (old new : Pool (Entry B)) (region : Region) → Begins old new region → count_in new (number_of region) ≡ 0
  count-begun old new region b =
      ap (λ n. count_in new n) b.number
      ∙ ap (λ rs. length (stored_in (get_or rs (length old.regions) None))) b.regions
      ∙ ap (λ o. length (stored_in o)) (last-of old.regions (Some (record { entry = region.entry; stored = [] })))

  -- a put makes it one more
  pub count-put : (old new : Pool (Entry B)) (region : Region) (item : Entry B) (node : Node) → IsLive old region → Puts old new region item node → count_in new (number_of region) ≡ count_in old (number_of region) + 1
  count-put old new region item node live puts =
      ap (λ o. length (stored_in o)) (region_at-put old new region item node live puts)
      ∙ length-append (stored_in (region_at old (number_of region))) (record { item = item; slot = node.slot } ∷ [])

  at-written : (os : List (Option (Contents (Entry B)))) (at : ℕ) (item : Entry B) (number : ℕ) → get_or (map (contents_written at item) os) number None ≡ contents_written at item (get_or os number None)
  at-written [] at item number = refl
  at-written (o ∷ os) at item zero = refl
  at-written (o ∷ os) at item (suc number) = at-written os at item number

  as-many : (o : Option (Contents (Entry B))) (at : ℕ) (item : Entry B) → length (stored_in (contents_written at item o)) ≡ length (stored_in o)
  as-many None at item = refl
  as-many (Some c) at item = length-map c.stored (with_lying at item)

  -- a write leaves it
  pub count-linked : (pool : Pool (Entry B)) (link : Link) (item : Entry B) (number : ℕ) → count_in (with_linked pool link item) number ≡ count_in pool number
  count-linked pool link item number =
      ap (λ o. length (stored_in o)) (at-written pool.regions (lies_at link) item number)
      ∙ as-many (region_at pool number) (lies_at link) item
