-- A search enters one vertex more, leaves one, and is over.
use Rattle.std.proofs.Common.{◌≡◌, ◌⊎◌, ℕ, ◌+◌, ◌<◌, Bool, true, false, ◌&&◌, ◌||◌, eqb, List, [], ◌∷◌, ◌++◌, length, get_or, sym, ap, ◌∙◌, subst, inl, inr, arith}
use Rattle.std.proofs.lemmas.Bool.{eqb-true, or_cases, cases_Bool}
use Rattle.std.proofs.lemmas.Bool.Decides.{nat_tests}
use Rattle.std.specs.List.{list_any}
use Rattle.tv_naming.specs.graphs.Graphs.{Graph, is_graph, before, is_one_of, comes_before}
use Rattle.tv_naming.specs.graphs.Leaving.{alike, IsSettled, IsWalked, IsLeft}
use Rattle.tv_naming.proofs.Members.{any-member}
use Rattle.tv_naming.proofs.Rows.{is_one_of-push}
use Rattle.tv_naming.proofs.Walks.{any-find, walk-closed, before-below}
use Rattle.tv_naming.proofs.Alike.{near, on_from, alike-itself, alike-both, alike-join, alike-before, alike-turned}
use Rattle.tv_naming.proofs.Late.{times-push, times-member, member-times, late-push, late-end, way-push, way-pop, way-top}

module _ (g : Graph) (entered : ℕ → Bool) (left : List ℕ) where
  pub walked-more : (path : List ℕ) (x : ℕ) (entered' : ℕ → Bool) → IsWalked g entered path left → x < length g → entered x ≡ false →
      ((w : ℕ) → is_one_of path w ≡ true → comes_before g (length g) x w ≡ true) → ((u : ℕ) → entered' u ≡ (entered u || eqb u x)) → IsWalked g entered' (path ++ x ∷ []) left
  walked-more path x entered' k below new before_path enters = record {
    each_once = λ u. grind (arith, nat_tests, times-push path x u, k.each_once u, k.each_once x, enters u);
    within = λ u h. elim (or_cases (entered u) (eqb u x) (sym (enters u) ∙ h)) [
      | inl old ↦ k.within u old
      | inr e ↦ subst (λ (y : ℕ). y < length g) (sym (eqb-true u x e)) below
    ];
    way = way-push g path x k.way before_path;
    closed = λ v u h e. grind (arith, enters u, k.closed v u h e);
    settled = λ v h. elim (k.settled v h) [
      | inl on ↦ inl (on.0, is_one_of-push path x on.0 ∙ grind (arith, on.1), on.2)
      | inr is ↦ inr is
    ];
  }

  on-entered : (path : List ℕ) (w : ℕ) → IsWalked g entered path left → is_one_of path w ≡ true → entered w ≡ true
  on-entered path w k on = grind (arith, k.each_once w, times-member path w on)

  pub top-below : (ws path : List ℕ) (x : ℕ) → IsWalked g entered path left → path ≡ ws ++ x ∷ [] → x < length g
  top-below ws path x k is =
      k.within x (on-entered path x k (subst (λ (xs : List ℕ). is_one_of xs x ≡ true) (sym is) (is_one_of-push ws x x ∙ grind (arith, nat_tests))))

  pub walked-first : (path left' : List ℕ) (x : ℕ) (entered' : ℕ → Bool) → IsWalked g entered [] left → path ≡ [] ++ x ∷ [] → left' ≡ left → x < length g → entered x ≡ false →
      ((y : ℕ) → entered' y ≡ (entered y || eqb y x)) → IsWalked g entered' path left'
  walked-first path left' x entered' k is same below new enters =
      subst (λ (xs : List ℕ). IsWalked g entered' path xs) (sym same)
      (subst (λ (xs : List ℕ). IsWalked g entered' xs left) (sym is)
      (walked-more [] x entered' k below new (λ w h. cc) enters))

  pub walked-end : IsWalked g entered [] left → ((u : ℕ) → u < length g → entered u ≡ true) → IsLeft g left
  walked-end k all = record {
    each_once = λ u below. grind (arith, k.each_once u, all u below);
    within = λ u h. k.within u (grind (arith, k.each_once u, times-member left u h));
    settled = λ v below. elim (k.settled v (member-times left v (grind (arith, k.each_once v, all v below)))) [ inl on ↦ (let no : false ≡ true = on.1 in cc) | inr is ↦ is ];
  }

module _ (g : Graph) (ok : is_graph g ≡ true) (entered : ℕ → Bool) (left : List ℕ) where
  module _ (ws : List ℕ) (x : ℕ) (k : IsWalked g entered (ws ++ x ∷ []) left) (all : (y : ℕ) → is_one_of (before g x) y ≡ true → entered y ≡ true) where
    -- an entered vertex is on the path or left
    where_is : (y : ℕ) → entered y ≡ true → (is_one_of ws y ≡ true) ⊎ (is_one_of (left ++ x ∷ []) y ≡ true)
    where_is y h =
        elim (cases_Bool (is_one_of ws y)) [
          | inl on ↦ inl on
          | inr off ↦ inr (member-times (left ++ x ∷ []) y (grind (arith, k.each_once y, times-push ws x y, times-push left x y, member-times ws y)))
        ]

    left-closed : (v u : ℕ) → is_one_of (left ++ x ∷ []) v ≡ true → is_one_of (before g v) u ≡ true → entered u ≡ true
    left-closed v u h e =
        elim (or_cases (is_one_of left v) (eqb v x) (sym (is_one_of-push left x v) ∙ h)) [
          | inl old ↦ k.closed v u old e
          | inr same ↦ all u (subst (λ (y : ℕ). is_one_of (before g y) u ≡ true) (eqb-true v x same) e)
        ]

    -- where nothing on the path is alike to the vertex, all that comes before it is left
    module _ (alone : list_any (λ w. alike g w x) ws ≡ false) where
      not_on_path : (y : ℕ) → is_one_of ws y ≡ true → comes_before g (length g) y x ≡ true → is_one_of (left ++ x ∷ []) y ≡ true
      not_on_path y on h =
          let some : list_any (λ w. alike g w x) ws ≡ true = any-member (λ w. alike g w x) ws y on (alike-both g ok y x h (way-top g ws x y k.way on)) in
          cc

      next_left : (v u : ℕ) → is_one_of (left ++ x ∷ []) v ≡ true → is_one_of (before g v) u ≡ true → comes_before g (length g) u x ≡ true → is_one_of (left ++ x ∷ []) u ≡ true
      next_left v u h e far = elim (where_is u (left-closed v u h e)) [ inl on ↦ not_on_path u on far | inr is ↦ is ]

      before_left : (u : ℕ) → comes_before g (length g) u x ≡ true → is_one_of (left ++ x ∷ []) u ≡ true
      before_left u h =
          let end_left : is_one_of (left ++ x ∷ []) x ≡ true = is_one_of-push left x x ∙ grind (arith, nat_tests) in
          let both : (is_one_of (left ++ x ∷ []) u && comes_before g (length g) u x) ≡ true =
          walk-closed g (λ y. is_one_of (left ++ x ∷ []) y && comes_before g (length g) y x)
          (λ v y p e.
          let far : comes_before g (length g) y x ≡ true = on_from g ok y v x e (grind arith) in
          let is : is_one_of (left ++ x ∷ []) y ≡ true = next_left v y (grind arith) e far in
          grind arith)
          (length g) u x
          (λ y e.
          let far : comes_before g (length g) y x ≡ true = near g ok y x e in
          let is : is_one_of (left ++ x ∷ []) y ≡ true = next_left x y end_left e far in
          grind arith)
          h in
          grind arith

      settled-alike : (v : ℕ) → alike g x v ≡ true → IsSettled g (left ++ x ∷ []) v
      settled-alike v same u h = (x, same, late-end left x u (before_left u (alike-before g ok u v x h (alike-turned g ok x v same))))

    settled-old : (v : ℕ) → IsSettled g left v → IsSettled g (left ++ x ∷ []) v
    settled-old v is u h = let found = is u h in (found.0, found.1, late-push left x u found.0 found.2)

    -- the vertex is alike to one on the path, or it settles those that are alike to it
    settles : (v : ℕ) → alike g x v ≡ true → ((w : ℕ) × (is_one_of ws w ≡ true) × (alike g w v ≡ true)) ⊎ IsSettled g (left ++ x ∷ []) v
    settles v same =
        elim (cases_Bool (list_any (λ w. alike g w x) ws)) [
          | inl some ↦ let found = any-find (λ w. alike g w x) ws some in inl (found.0, found.1, alike-join g ok found.0 x v found.2 same)
          | inr alone ↦ inr (settled-alike alone v same)
        ]

    settled-path : (v w : ℕ) → is_one_of (ws ++ x ∷ []) w ≡ true → alike g w v ≡ true → ((y : ℕ) × (is_one_of ws y ≡ true) × (alike g y v ≡ true)) ⊎ IsSettled g (left ++ x ∷ []) v
    settled-path v w on same =
        elim (or_cases (is_one_of ws w) (eqb w x) (sym (is_one_of-push ws x w) ∙ on)) [
          | inl stays ↦ inl (w, stays, same)
          | inr e ↦ settles v (subst (λ (y : ℕ). alike g y v ≡ true) (eqb-true w x e) same)
        ]

    settled-left : (v : ℕ) → is_one_of left v ≡ true → ((w : ℕ) × (is_one_of ws w ≡ true) × (alike g w v ≡ true)) ⊎ IsSettled g (left ++ x ∷ []) v
    settled-left v h = elim (k.settled v h) [ inl on ↦ settled-path v on.0 on.1 on.2 | inr is ↦ inr (settled-old v is) ]

    pub walked-left : IsWalked g entered ws (left ++ x ∷ [])
    walked-left = record {
      each_once = λ u. omega (arith, times-push ws x u, times-push left x u, k.each_once u);
      within = k.within;
      way = way-pop g ws x k.way;
      closed = left-closed;
      settled = λ v h. elim (or_cases (is_one_of left v) (eqb v x) (sym (is_one_of-push left x v) ∙ h)) [
        | inl old ↦ settled-left v old
        | inr e ↦ settles v (subst (λ (y : ℕ). alike g y v ≡ true) (eqb-true v x e) (alike-itself g ok v))
      ];
    }

  pub path-before : (ws : List ℕ) (x : ℕ) → IsWalked g entered (ws ++ x ∷ []) left → (u : ℕ) → is_one_of (before g x) u ≡ true → (w : ℕ) → is_one_of (ws ++ x ∷ []) w ≡ true → comes_before g (length g) u w ≡ true
  path-before ws x k u e w on =
      elim (or_cases (is_one_of ws w) (eqb w x) (sym (is_one_of-push ws x w) ∙ on)) [
        | inl below ↦ on_from g ok u x w e (way-top g ws x w k.way below)
        | inr same ↦ subst (λ (y : ℕ). comes_before g (length g) u y ≡ true) (sym (eqb-true w x same)) (near g ok u x e)
      ]

  -- the search goes on to u, directly before the vertex at the end of the path
  pub walked-on : (ws path path' left' : List ℕ) (x u : ℕ) (entered' : ℕ → Bool) → IsWalked g entered (ws ++ x ∷ []) left → path ≡ ws ++ x ∷ [] → path' ≡ path ++ u ∷ [] → left' ≡ left →
      is_one_of (before g x) u ≡ true → entered u ≡ false → ((y : ℕ) → entered' y ≡ (entered y || eqb y u)) → IsWalked g entered' path' left'
  walked-on ws path path' left' x u entered' k is is' same e new enters =
      subst (λ (xs : List ℕ). IsWalked g entered' path' xs) (sym same)
      (subst (λ (xs : List ℕ). IsWalked g entered' xs left) (sym (is' ∙ ap (λ xs. xs ++ u ∷ []) is))
      (walked-more g entered left (ws ++ x ∷ []) u entered' k (before-below g ok x u e) new (path-before ws x k u e) enters))

pub walked-off : (g : Graph) → is_graph g ≡ true → (es es' : List Bool) (left left' ws path' : List ℕ) (x : ℕ) → IsWalked g (λ u. get_or es u false) (ws ++ x ∷ []) left →
    ((y : ℕ) → is_one_of (before g x) y ≡ true → get_or es y false ≡ true) → es' ≡ es → path' ≡ ws → left' ≡ left ++ x ∷ [] → IsWalked g (λ u. get_or es' u false) path' left'
walked-off g ok es es' left left' ws path' x k all same is is' =
    subst (λ (ts : List Bool). IsWalked g (λ u. get_or ts u false) path' left') (sym same)
    (subst (λ (xs : List ℕ). IsWalked g (λ u. get_or es u false) xs left') (sym is)
    (subst (λ (xs : List ℕ). IsWalked g (λ u. get_or es u false) ws xs) (sym is')
    (walked-left g ok (λ u. get_or es u false) left ws x k all)))
