-- Matching may be done without bindings but for what a test tells of them.
use Rattle.std.specs.Prelude.{◌≡◌, refl, Bool, true, false, ◌||◌, List, [], ◌∷◌, ◌++◌, map, flat_map}
use Rattle.std.specs.List.{list_any}
use Rattle.std.proofs.Common.{sym, ap, ◌∙◌}
use Rattle.std.proofs.lemmas.Simd.{map-map}
use Rattle.std.proofs.lemmas.List.{map-append}
use Rattle.std.proofs.lemmas.List.Folds.{flat_map-map}
use Rattle.tv_lemmas.specs.Members.{Each}
use Rattle.tv_value.specs.Nested.{Place}
use Rattle.tv_value.specs.Values.{Name, holds_fault}
use Rattle.tv_value.specs.Orders.{same_name}
use Rattle.tv_value.specs.Strategies.{Strategy, port, cross, dot, prefix, Strategies, no_strategies, strategy}
use Rattle.tv_strategy.specs.Splits.{same_place}
use Rattle.tv_strategy.specs.Measures.{leaf_names}
use Rattle.tv_matching.specs.Items.{Kind, ends, closes, passes, Item, item, if_so}
use Rattle.tv_matching.specs.Matched.{bound, below, replaced, replaced_below, crossed_items, below_jobs, meet_kinds, meet, met_by, joined_items, same, reaches, meet_below, prefixed_items, matched, matched_cross, matched_dot, gained, gained_cross, gained_dot}
use Rattle.tv_strategy.specs.Origins.{Traced}
use Rattle.tv_strategy.proofs.Each.{each-all, each-weaken}
use Rattle.tv_matching.specs.Members.{at_place}
use Rattle.tv_matching.specs.Tellings.{Telling, told_of, after}
use Rattle.tv_matching.specs.Told.{Spot, Told, arrival, faulty, close, telling, matched_after, Marked, marked, marked_to, marked_after, map_kind, map_item, binds_some, some_at, TellsFaults, bound_there, stop_there}
use Rattle.tv_matching.specs.Matchers.{bare, bare_bound, bare_kind, kept_item, kept_out, out, leaf_number, KeptIsEnough, KeptGains, MarkedIsMatched, FaultsRide}
use Rattle.tv_matching.proofs.Natural.{matched-maps}
use Rattle.tv_matching.proofs.Lists.{flat-append, map-same, flat-same, map-flat, map-if}

module _ {X F G : Type 0} (test : X → Bool) (g : F → G) where
  bound-bare : (b : List X) (k : Kind X F) → bound (bare_bound test b) (bare_kind test g k) ≡ bare_kind test g (bound b k)
  bound-bare b (ends c) = ap (λ l. ends l) (sym (flat-append (λ x. if_so (test x) tt) b c))
  bound-bare b (closes n) = refl
  bound-bare b (passes e) = refl

  below-bare : (ys : List (Item X F)) (q : Place) (b : List X) → map (below q (bare_bound test b)) (map (bare test g) ys) ≡ map (bare test g) (map (below q b) ys)
  below-bare ys q b = map-map (below q (bare_bound test b)) (bare test g) ys ∙ map-same (λ y. below q (bare_bound test b) (bare test g y)) (λ y. bare test g (below q b y)) (λ y. ap (λ k. item (q ++ y.place) k) (bound-bare b y.kind)) ys ∙ sym (map-map (bare test g) (below q b) ys)

  replaced-bare : (ys : List (Item X F)) (q : Place) (k : Kind X F) → replaced (map (bare test g) ys) q (bare_kind test g k) ≡ map (bare test g) (replaced ys q k)
  replaced-bare ys q (ends b) = below-bare ys q b
  replaced-bare ys q (closes n) = refl
  replaced-bare ys q (passes e) = refl

  below_jobs-bare_kind : (ys : List (Item X F)) (q : Place) (k : Kind X F) → replaced_below (map (bare test g) ys) q (bare_kind test g k) ≡ map (bare test g) (replaced_below ys q k)
  below_jobs-bare_kind ys q (ends b) = below-bare ys q b
  below_jobs-bare_kind ys q (closes n) = refl
  below_jobs-bare_kind ys q (passes e) = refl

  crossed-bare : (xs ys : List (Item X F)) → crossed_items (map (bare test g) xs) (map (bare test g) ys) ≡ map (bare test g) (crossed_items xs ys)
  crossed-bare xs ys =
      flat_map-map (λ x. replaced (map (bare test g) ys) x.place x.kind) (bare test g) xs
      ∙ flat-same (λ x. replaced (map (bare test g) ys) x.place (bare_kind test g x.kind)) (λ x. map (bare test g) (replaced ys x.place x.kind)) (λ x. replaced-bare ys x.place x.kind) xs
      ∙ sym (map-flat (bare test g) (λ x. replaced ys x.place x.kind) xs)

  below_jobs-bare : (xs ys : List (Item X F)) → below_jobs (map (bare test g) xs) (map (bare test g) ys) ≡ map (bare test g) (below_jobs xs ys)
  below_jobs-bare xs ys =
      flat_map-map (λ x. replaced_below (map (bare test g) ys) x.place x.kind) (bare test g) xs
      ∙ flat-same (λ x. replaced_below (map (bare test g) ys) x.place (bare_kind test g x.kind)) (λ x. map (bare test g) (replaced_below ys x.place x.kind)) (λ x. below_jobs-bare_kind ys x.place x.kind) xs
      ∙ sym (map-flat (bare test g) (λ x. replaced_below ys x.place x.kind) xs)

  met-bare : (k l : Kind X F) → meet_kinds (bare_kind test g k) (bare_kind test g l) ≡ bare_kind test g (meet_kinds k l)
  met-bare (ends b) l = bound-bare b l
  met-bare (passes e) l = refl
  met-bare (closes m) (ends c) = refl
  met-bare (closes m) (closes n) = refl
  met-bare (closes m) (passes e) = refl

  meet-bare : (x y : Item X F) → meet same (bare test g x) (bare test g y) ≡ map (bare test g) (meet same x y)
  meet-bare x y =
      ap (λ k. if_so (same_place x.place y.place) (item y.place k)) (met-bare x.kind y.kind) ∙ sym (map-if (bare test g) (same_place x.place y.place) (item y.place (meet_kinds x.kind y.kind)))

  -- a join that is the same without bindings
  module _ (m : Item X F → Item X F → List (Item X F)) (n : Item (Unit {0}) G → Item (Unit {0}) G → List (Item (Unit {0}) G))
      (same_bare : (x y : Item X F) → n (bare test g x) (bare test g y) ≡ map (bare test g) (m x y)) where
    met_by-bare : (xs ys : List (Item X F)) → met_by n (map (bare test g) xs) (map (bare test g) ys) ≡ map (bare test g) (met_by m xs ys)
    met_by-bare xs ys =
        flat_map-map (λ x. flat_map (n x) (map (bare test g) ys)) (bare test g) xs
        ∙ flat-same (λ x. flat_map (n (bare test g x)) (map (bare test g) ys)) (λ x. map (bare test g) (flat_map (m x) ys)) (λ x. flat_map-map (n (bare test g x)) (bare test g) ys ∙ flat-same (λ y. n (bare test g x) (bare test g y)) (λ y. map (bare test g) (m x y)) (same_bare x) ys ∙ sym (map-flat (bare test g) (m x) ys)) xs
        ∙ sym (map-flat (bare test g) (λ x. flat_map (m x) ys) xs)

    met-parts : (xs dx ys dy : List (Item X F)) → met_by n (map (bare test g) dx) (map (bare test g) ys) ++ (met_by n (map (bare test g) xs) (map (bare test g) dy) ++ met_by n (map (bare test g) dx) (map (bare test g) dy)) ≡ map (bare test g) (met_by m dx ys ++ (met_by m xs dy ++ met_by m dx dy))
    met-parts xs dx ys dy =
        ap (λ l. l ++ (met_by n (map (bare test g) xs) (map (bare test g) dy) ++ met_by n (map (bare test g) dx) (map (bare test g) dy))) (met_by-bare dx ys)
        ∙ ap (λ l. map (bare test g) (met_by m dx ys) ++ (l ++ met_by n (map (bare test g) dx) (map (bare test g) dy))) (met_by-bare xs dy)
        ∙ ap (λ l. map (bare test g) (met_by m dx ys) ++ (map (bare test g) (met_by m xs dy) ++ l)) (met_by-bare dx dy)
        ∙ sym (map-append (bare test g) (met_by m dx ys) (met_by m xs dy ++ met_by m dx dy) ∙ ap (λ l. map (bare test g) (met_by m dx ys) ++ l) (map-append (bare test g) (met_by m xs dy) (met_by m dx dy)))

    -- the four lists of a node, each without bindings
    met-four : (xs dx ys dy : List (Item X F)) (us du vs dv : List (Item (Unit {0}) G)) → us ≡ map (bare test g) xs → du ≡ map (bare test g) dx → vs ≡ map (bare test g) ys → dv ≡ map (bare test g) dy → met_by n du vs ++ (met_by n us dv ++ met_by n du dv) ≡ map (bare test g) (met_by m dx ys ++ (met_by m xs dy ++ met_by m dx dy))
    met-four xs dx ys dy us du vs dv a b c d =
        ap (λ l. met_by n du vs ++ (met_by n l dv ++ met_by n du dv)) a
        ∙ ap (λ l. met_by n l vs ++ (met_by n (map (bare test g) xs) dv ++ met_by n l dv)) b
        ∙ ap (λ l. met_by n (map (bare test g) dx) l ++ (met_by n (map (bare test g) xs) dv ++ met_by n (map (bare test g) dx) dv)) c
        ∙ ap (λ l. met_by n (map (bare test g) dx) (map (bare test g) ys) ++ (met_by n (map (bare test g) xs) l ++ met_by n (map (bare test g) dx) l)) d
        ∙ met-parts xs dx ys dy

  reaches-bare : (k : Kind X F) (q r : Place) → reaches (bare_kind test g k) q r ≡ reaches k q r
  reaches-bare (ends b) q r = refl
  reaches-bare (closes n) q r = refl
  reaches-bare (passes e) q r = refl

  meet_below-bare : (x y : Item X F) → meet_below (bare test g x) (bare test g y) ≡ map (bare test g) (meet_below x y)
  meet_below-bare x y =
      ap (λ b. if_so b (item y.place (meet_kinds (bare_kind test g x.kind) (bare_kind test g y.kind)))) (reaches-bare x.kind x.place y.place)
      ∙ ap (λ k. if_so (reaches x.kind x.place y.place) (item y.place k)) (met-bare x.kind y.kind)
      ∙ sym (map-if (bare test g) (reaches x.kind x.place y.place) (item y.place (meet_kinds x.kind y.kind)))

  joined-bare : (xs ys : List (Item X F)) → joined_items same (map (bare test g) xs) (map (bare test g) ys) ≡ map (bare test g) (joined_items same xs ys)
  joined-bare xs ys = met_by-bare (meet same) (meet same) meet-bare xs ys

  module _ (told : Name → List (Item X F)) where
    mutual
      pub matched-bare : (s : Strategy) → matched (λ p. map (bare test g) (told p)) s ≡ map (bare test g) (matched told s)
      matched-bare (port p) = refl
      matched-bare (cross cs) = cross-bare cs
      matched-bare (dot cs) = dot-bare cs
      matched-bare (prefix l r) =
          ap (λ xs. prefixed_items xs (matched (λ p. map (bare test g) (told p)) r)) (matched-bare l)
          ∙ ap (λ ys. prefixed_items (map (bare test g) (matched told l)) ys) (matched-bare r)
          ∙ met_by-bare meet_below meet_below meet_below-bare (matched told l) (matched told r)

      cross-bare : (cs : Strategies) → matched_cross (λ p. map (bare test g) (told p)) cs ≡ map (bare test g) (matched_cross told cs)
      cross-bare no_strategies = refl
      cross-bare (strategy c cs) =
          ap (λ xs. crossed_items xs (matched_cross (λ p. map (bare test g) (told p)) cs)) (matched-bare c)
          ∙ ap (λ ys. crossed_items (map (bare test g) (matched told c)) ys) (cross-bare cs)
          ∙ crossed-bare (matched told c) (matched_cross told cs)

      dot-bare : (cs : Strategies) → matched_dot (λ p. map (bare test g) (told p)) cs ≡ map (bare test g) (matched_dot told cs)
      dot-bare no_strategies = refl
      dot-bare (strategy c no_strategies) = matched-bare c
      dot-bare (strategy c (strategy d ds)) =
          ap (λ xs. joined_items same xs (matched_dot (λ p. map (bare test g) (told p)) (strategy d ds))) (matched-bare c)
          ∙ ap (λ ys. joined_items same (map (bare test g) (matched told c)) ys) (dot-bare (strategy d ds))
          ∙ joined-bare (matched told c) (matched_dot told (strategy d ds))

  three : (a b c : List (Item X F)) → map (bare test g) (a ++ (b ++ c)) ≡ map (bare test g) a ++ (map (bare test g) b ++ map (bare test g) c)
  three a b c = map-append (bare test g) a (b ++ c) ∙ ap (λ l. map (bare test g) a ++ l) (map-append (bare test g) b c)

  module _ (old new : Name → List (Item X F)) where
    abbrev bare_old : Name → List (Item (Unit {0}) G)
    bare_old p = map (bare test g) (old p)

    abbrev bare_new : Name → List (Item (Unit {0}) G)
    bare_new p = map (bare test g) (new p)

    cross-parts : (xs dx ys dy : List (Item X F)) → crossed_items (map (bare test g) dx) (map (bare test g) ys) ++ (below_jobs (map (bare test g) xs) (map (bare test g) dy) ++ below_jobs (map (bare test g) dx) (map (bare test g) dy)) ≡ map (bare test g) (crossed_items dx ys ++ (below_jobs xs dy ++ below_jobs dx dy))
    cross-parts xs dx ys dy =
        ap (λ l. l ++ (below_jobs (map (bare test g) xs) (map (bare test g) dy) ++ below_jobs (map (bare test g) dx) (map (bare test g) dy))) (crossed-bare dx ys)
        ∙ ap (λ l. map (bare test g) (crossed_items dx ys) ++ (l ++ below_jobs (map (bare test g) dx) (map (bare test g) dy))) (below_jobs-bare xs dy)
        ∙ ap (λ l. map (bare test g) (crossed_items dx ys) ++ (map (bare test g) (below_jobs xs dy) ++ l)) (below_jobs-bare dx dy)
        ∙ sym (three (crossed_items dx ys) (below_jobs xs dy) (below_jobs dx dy))

    -- the four lists of a node, each without bindings
    cross-four : (xs dx ys dy : List (Item X F)) (us du vs dv : List (Item (Unit {0}) G)) → us ≡ map (bare test g) xs → du ≡ map (bare test g) dx → vs ≡ map (bare test g) ys → dv ≡ map (bare test g) dy → crossed_items du vs ++ (below_jobs us dv ++ below_jobs du dv) ≡ map (bare test g) (crossed_items dx ys ++ (below_jobs xs dy ++ below_jobs dx dy))
    cross-four xs dx ys dy us du vs dv a b c d =
        ap (λ l. crossed_items du vs ++ (below_jobs l dv ++ below_jobs du dv)) a
        ∙ ap (λ l. crossed_items l vs ++ (below_jobs (map (bare test g) xs) dv ++ below_jobs l dv)) b
        ∙ ap (λ l. crossed_items (map (bare test g) dx) l ++ (below_jobs (map (bare test g) xs) dv ++ below_jobs (map (bare test g) dx) dv)) c
        ∙ ap (λ l. crossed_items (map (bare test g) dx) (map (bare test g) ys) ++ (below_jobs (map (bare test g) xs) l ++ below_jobs (map (bare test g) dx) l)) d
        ∙ cross-parts xs dx ys dy

    mutual
      pub gained-bare : (s : Strategy) → gained bare_old bare_new s ≡ map (bare test g) (gained old new s)
      gained-bare (port p) = refl
      gained-bare (cross cs) = cross-gained cs
      gained-bare (dot cs) = dot-gained cs
      gained-bare (prefix l r) =
          met-four meet_below meet_below meet_below-bare (matched old l) (gained old new l) (matched old r) (gained old new r) (matched bare_old l) (gained bare_old bare_new l) (matched bare_old r) (gained bare_old bare_new r) (matched-bare old l) (gained-bare l) (matched-bare old r) (gained-bare r)

      cross-gained : (cs : Strategies) → gained_cross bare_old bare_new cs ≡ map (bare test g) (gained_cross old new cs)
      cross-gained no_strategies = refl
      cross-gained (strategy c cs) =
          cross-four (matched old c) (gained old new c) (matched_cross old cs) (gained_cross old new cs) (matched bare_old c) (gained bare_old bare_new c) (matched_cross bare_old cs) (gained_cross bare_old bare_new cs) (matched-bare old c) (gained-bare c) (cross-bare old cs) (cross-gained cs)

      dot-gained : (cs : Strategies) → gained_dot bare_old bare_new cs ≡ map (bare test g) (gained_dot old new cs)
      dot-gained no_strategies = refl
      dot-gained (strategy c no_strategies) = gained-bare c
      dot-gained (strategy c (strategy d ds)) =
          met-four (meet same) (meet same) meet-bare (matched old c) (gained old new c) (matched_dot old (strategy d ds)) (gained_dot old new (strategy d ds)) (matched bare_old c) (gained bare_old bare_new c) (matched_dot bare_old (strategy d ds)) (gained_dot bare_old bare_new (strategy d ds)) (matched-bare old c) (gained-bare c) (dot-bare old (strategy d ds)) (dot-gained (strategy d ds))

-- ---- what was told, with and without faults in bound values

module _ {X F Y G : Type 0} (f : X → Y) (g : F → G) (one : Told → Telling X F) (two : Told → Telling Y G) where
  -- one telling is the image of the other
  abbrev pub IsImage : Told → Type 0
  IsImage t = two t ≡ record { leaf = (one t).leaf; item = map_item f g (one t).item }

  told-image : (ts : List Told) → Each IsImage ts → (p : Name) → told_of (map two ts) p ≡ map (map_item f g) (told_of (map one ts) p)
  told-image [] h p = refl
  told-image (t ∷ ts) h p =
      ap (λ (u : Telling Y G). if_so (same_name p u.leaf) u.item ++ told_of (map two ts) p) h.0
      ∙ ap (λ l. if_so (same_name p (one t).leaf) (map_item f g (one t).item) ++ l) (told-image ts h.1 p)
      ∙ ap (λ l. l ++ map (map_item f g) (told_of (map one ts) p)) (sym (map-if (map_item f g) (same_name p (one t).leaf) (one t).item))
      ∙ sym (map-append (map_item f g) (if_so (same_name p (one t).leaf) (one t).item) (told_of (map one ts) p))

  -- so what is matched is the image of what is matched
  pub after-image : (s : Strategy) (ts : List Told) → Each IsImage ts → after s (map two ts) ≡ map (map_item f g) (after s (map one ts))
  after-image s ts h = ap (λ told. matched told s) (λ i p. told-image ts h p i) ∙ matched-maps f g (told_of (map one ts)) s

abbrev pub plain : Item Marked Spot → Item Spot Spot
plain = map_item (λ r. r.0) (λ r. r)

pub marked-is_matched : MarkedIsMatched
marked-is_matched s ts = sym (after-image (λ r. r.0) (λ r. r) marked telling s ts (each-all (IsImage (λ r. r.0) (λ r. r) marked telling) one ts))
  where
    one : (t : Told) → IsImage (λ r. r.0) (λ r. r) marked telling t
    one (arrival p q false) = refl
    one (arrival p q true) = refl
    one (faulty p q) = refl
    one (close p q n) = refl

module _ (values : Name → Traced) where
  abbrev pub holds : Spot → Bool
  holds r = holds_fault (bound_there values r).1

  marked-image : (s : Strategy) (ts : List Told) → Each (TellsFaults values) ts → marked_after s ts ≡ map (map_item (λ r. (r, holds r)) (λ r. r)) (matched_after s ts)
  marked-image s ts h = after-image (λ r. (r, holds r)) (λ r. r) telling marked s ts (each-weaken (TellsFaults values) (IsImage (λ r. (r, holds r)) (λ r. r) telling marked) one ts h)
    where
      one : (t : Told) → TellsFaults values t → IsImage (λ r. (r, holds r)) (λ r. r) telling marked t
      one (arrival p q false) k = ap (λ b. record { leaf = p; item = item q (ends (((p, q), b) ∷ [])) }) (sym k)
      one (arrival p q true) k = refl
      one (faulty p q) k = ap (λ b. record { leaf = p; item = item q (ends (((p, q), b) ∷ [])) }) (sym k)
      one (close p q n) k = refl

some-image : {X F Y G : Type 0} (f : X → Y) (g : F → G) (test : Y → Bool) (q : Place) (xs : List (Item X F)) → some_at test q (map (map_item f g) xs) ≡ some_at (λ x. test (f x)) q xs
some-image {X} {F} f g test q [] = refl
some-image {X} {F} f g test q (x ∷ xs) = by (same_place q x.place) (some-image f g test q xs)
  where
    binds : (k : Kind X F) → binds_some test (map_kind f g k) ≡ binds_some (λ x. test (f x)) k
    binds (ends b) = any-map b
      where
        any-map : (b : List X) → list_any test (map f b) ≡ list_any (λ x. test (f x)) b
        any-map [] = refl
        any-map (x ∷ b) = ap (λ c. test (f x) || c) (any-map b)
    binds (closes n) = refl
    binds (passes e) = refl

    by : (b : Bool) → some_at test q (map (map_item f g) xs) ≡ some_at (λ x. test (f x)) q xs → list_any (λ y. binds_some test y.kind) (if_so b (map_item f g x) ++ at_place q (map (map_item f g) xs)) ≡ list_any (λ y. binds_some (λ x. test (f x)) y.kind) (if_so b x ++ at_place q xs)
    by true r = ap (λ c. c || some_at test q (map (map_item f g) xs)) (binds x.kind) ∙ ap (λ c. binds_some (λ x. test (f x)) x.kind || c) r
    by false r = r

pub faults-ride : FaultsRide
faults-ride values s ts h q =
    ap (some_at (λ (r : Marked). r.1) q) (marked-image values s ts h)
    ∙ some-image (λ r. (r, holds values r)) (λ r. r) (λ r. r.1) q (matched_after s ts)
    ∙ sym (some-image (bound_there values) (stop_there values) (λ v. holds_fault v.1) q (matched_after s ts))

kept-outs : (s : Strategy) (q : Place) (k : Kind Marked Spot) → kept_out (kept_item s (item q k)) ≡ out s (plain (item q k))
kept-outs s q (ends b) = refl
kept-outs s q (closes n) = refl
kept-outs s q (passes r) = refl

pub kept-is_enough : KeptIsEnough
kept-is_enough s ts =
    let e = matched-bare (λ (r : Marked). r.1) (λ (r : Spot). leaf_number (leaf_names s) r.0) (marked_to ts) s in
    (e, ap (map kept_out) e ∙ map-map kept_out (kept_item s) (marked_after s ts) ∙ map-same (λ x. kept_out (kept_item s x)) (λ x. out s (plain x)) (λ x. kept-outs s x.place x.kind) (marked_after s ts) ∙ sym (map-map (out s) plain (marked_after s ts)) ∙ ap (map (out s)) (marked-is_matched s ts))

pub kept-gains : KeptGains
kept-gains s ts more = gained-bare (λ (r : Marked). r.1) (λ (r : Spot). leaf_number (leaf_names s) r.0) (marked_to ts) (marked_to more) s
