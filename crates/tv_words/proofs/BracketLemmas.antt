-- What stands before brackets and between them.
use Rattle.std.specs.Prelude.{Bool, None, Option, Some, [], false, if◌then◌else◌, length, refl, suc, true, ℕ, ◌++◌, ◌<◌, ◌==◌, ◌≡◌, ◌≢◌, ◌⊎◌, ◌∷◌}
use Rattle.std.specs.Option.{option_map}
use Rattle.std.proofs.Common.{ap, arith, get_or, inl, inr, sym, ◌∙◌}
use Rattle.std.proofs.lemmas.Bool.Decides.{eqb_tells}
use Rattle.tv_value.specs.Values.{Text}
use Rattle.tv_words.specs.elements.Elements.{closed, opened}

-- no byte of it is c
abbrev pub Lacks : ℕ → Text → Type 0
Lacks c t = (i : ℕ) → i < length t → get_or t i 0 ≢ c

pub lacks-rest : (c b : ℕ) (bs : Text) → Lacks c (b ∷ bs) → Lacks c bs
lacks-rest c b bs h i p = h (suc i) (omega arith)

other : (b c : ℕ) → b ≢ c → (b == c) ≡ false
other b c n = by (eqb_tells b c)
  where
    by : ((b == c) ≡ true) × (b ≡ c) ⊎ ((b == c) ≡ false) × (b ≢ c) → (b == c) ≡ false
    by (inl h) = absurd (n h.1)
    by (inr h) = h.0

-- ---- the first opening bracket

pub opened-at : (xs ys : Text) → Lacks 91 xs → opened (xs ++ 91 ∷ ys) ≡ Some (xs, ys)
opened-at [] ys h = refl
opened-at (b ∷ xs) ys h =
    ap (λ t. if t then Some ([], xs ++ 91 ∷ ys) else option_map (λ (p : Text × Text). (b ∷ p.0, p.1)) (opened (xs ++ 91 ∷ ys))) (other b 91 (h 0 (omega arith)))
    ∙ ap (option_map (λ (p : Text × Text). (b ∷ p.0, p.1))) (opened-at xs ys (lacks-rest 91 b xs h))

pub opened-none : (xs : Text) → Lacks 91 xs → opened xs ≡ None
opened-none [] h = refl
opened-none (b ∷ xs) h =
    ap (λ t. if t then Some ([], xs) else option_map (λ (p : Text × Text). (b ∷ p.0, p.1)) (opened xs)) (other b 91 (h 0 (omega arith)))
    ∙ ap (option_map (λ (p : Text × Text). (b ∷ p.0, p.1))) (opened-none xs (lacks-rest 91 b xs h))

abbrev OpensTo : Text → Type 0
OpensTo bs = (q : Text × Text) → opened bs ≡ Some q → bs ≡ q.0 ++ 91 ∷ q.1

abbrev on : ℕ → Text → Bool → Option (Text × Text)
on b bs c = if c then Some ([], bs) else option_map (λ (q : Text × Text). (b ∷ q.0, q.1)) (opened bs)

-- what is opened is what stands before and after a bracket
pub opened-is : (t : Text) (p : Text × Text) → opened t ≡ Some p → t ≡ p.0 ++ 91 ∷ p.1
opened-is [] p e = absurd cc
opened-is (b ∷ bs) p e = by (eqb_tells b 91) (λ q f. opened-is bs q f)
  where
    more : OpensTo bs → (o : Option (Text × Text)) → opened bs ≡ o → option_map (λ (q : Text × Text). (b ∷ q.0, q.1)) o ≡ Some p → b ∷ bs ≡ p.0 ++ 91 ∷ p.1
    more rest None f g = absurd cc
    more rest (Some q) f g =
        let k : (b ∷ q.0, q.1) ≡ p = cc in
        ap (λ xs. b ∷ xs) (rest q f) ∙ ap (λ (r : Text × Text). r.0 ++ 91 ∷ r.1) k

    by : ((b == 91) ≡ true) × (b ≡ 91) ⊎ ((b == 91) ≡ false) × (b ≢ 91) → OpensTo bs → b ∷ bs ≡ p.0 ++ 91 ∷ p.1
    by (inl h) rest =
        let f : Some ([], bs) ≡ Some p = sym (ap (on b bs) h.0) ∙ e in
        let k : ([], bs) ≡ p = cc in
        ap (λ c. c ∷ bs) h.1 ∙ ap (λ (r : Text × Text). r.0 ++ 91 ∷ r.1) k
    by (inr h) rest = more rest (opened bs) refl (sym (ap (on b bs) h.0) ∙ e)

-- ---- the closing bracket at the end

pub closed-at : (xs : Text) → closed (xs ++ 93 ∷ []) ≡ Some xs
closed-at [] = refl
closed-at (b ∷ []) = refl
closed-at (b ∷ c ∷ xs) = ap (option_map (λ t. b ∷ t)) (closed-at (c ∷ xs))

pub closed-is : (t x : Text) → closed t ≡ Some x → t ≡ x ++ 93 ∷ []
closed-is [] x e = absurd cc
closed-is (b ∷ []) x e = by (eqb_tells b 93)
  where
    by : ((b == 93) ≡ true) × (b ≡ 93) ⊎ ((b == 93) ≡ false) × (b ≢ 93) → b ∷ [] ≡ x ++ 93 ∷ []
    by (inl h) =
        let f : Some [] ≡ Some x = sym (ap (λ t. if t then Some [] else None) h.0) ∙ e in
        let k : [] ≡ x = cc in
        ap (λ c. c ∷ []) h.1 ∙ ap (λ r. r ++ 93 ∷ []) k
    by (inr h) =
        let f : None ≡ Some x = sym (ap (λ t. if t then Some [] else None) h.0) ∙ e in
        absurd cc
closed-is (b ∷ c ∷ bs) x e = by (closed (c ∷ bs)) refl e (λ y f. closed-is (c ∷ bs) y f)
  where
    by : (o : Option Text) → closed (c ∷ bs) ≡ o → option_map (λ t. b ∷ t) o ≡ Some x → ((y : Text) → closed (c ∷ bs) ≡ Some y → c ∷ bs ≡ y ++ 93 ∷ []) → b ∷ c ∷ bs ≡ x ++ 93 ∷ []
    by None f g rest = absurd cc
    by (Some y) f g rest =
        let k : b ∷ y ≡ x = cc in
        ap (λ t. b ∷ t) (rest y f) ∙ ap (λ r. r ++ 93 ∷ []) k

pub closed-none : (t : Text) → ((front : Text) → t ≢ front ++ 93 ∷ []) → closed t ≡ None
closed-none t h = by (closed t) refl
  where
    by : (o : Option Text) → closed t ≡ o → closed t ≡ None
    by None e = e
    by (Some x) e = absurd (h x (closed-is t x e))
