-- The laws as they are stated.
use Rattle.std.specs.Prelude.{◌≡◌, refl, List, [], ◌∷◌, map, filter_map, Bool, true, false, if◌then◌else◌, Option, Some, None}
use Rattle.std.specs.Cmp.Lexicographic.{bytes_decides}
use Rattle.std.specs.List.{list_any}
use Rattle.std.proofs.Common.{sym, ap, subst, ◌∙◌}
use Rattle.std.proofs.lemmas.Cmp.{nat_list_cmp_total}
use Rattle.std.proofs.lemmas.Map.Lookups.{exact_bytes}
use Rattle.std.proofs.lemmas.Bool.{true≢false}
use Rattle.tv_lemmas.specs.Members.{In}
use Rattle.tv_lemmas.proofs.Members.{in-map, in-options, of-map, of-options}
use Rattle.tv_value.specs.Nested.{Place}
use Rattle.tv_value.specs.Values.{Name, JobName}
use Rattle.tv_value.specs.Orders.{in_order, place_cmp, same_name}
use Rattle.tv_lineage.specs.Touching.{Label, label_cmp, touches}
use Rattle.tv_lineage.specs.Lineages.{Record, backward, by_step, place_at, job_at}
use Rattle.tv_lineage.specs.Kept.{Kept}
use Rattle.tv_lineage.specs.Stated.{BackwardIsClosure, BackwardIsOnlyOne, OrderIsOfNoAccount, ForwardInAnyOrder, ByStepInAnyOrder, MadeFromIsReached, ByStepHasJobs, ByStepInOrder, GroupIsItsParts, SearchBegins, SearchGoesOn, SearchFindsAll, TableMayGrow, TableIsWhole, TableTells}
use Rattle.tv_lineage.specs.Reaching.{Numbers}
use Rattle.tv_lineage.proofs.Rising.{in-order, of-order, rises-order, same-order, only-one}
use Rattle.tv_lineage.proofs.Closing.{label_total, label_same, in-backward, of-backward, rises-backward, backward-same}
use Rattle.tv_lineage.proofs.Keeping.{before-same, last-marks}
use Rattle.tv_lineage.proofs.Searching.{begins, goes-on, finds-all}
use Rattle.tv_lineage.proofs.Tabling.{grows, whole, tells, made-from}

pub backward-closure : BackwardIsClosure
backward-closure rs used = (λ l. (of-backward rs used l, in-backward rs used l), rises-backward rs used)

pub backward-only_one : BackwardIsOnlyOne
backward-only_one rs used ls r h =
    only-one label_cmp label_total label_same ls (backward rs used) r (rises-backward rs used) (λ l. (λ i. in-backward rs used l ((h l).0 i), λ i. (h l).1 (of-backward rs used l i)))

pub order-no_account : OrderIsOfNoAccount
order-no_account rs ts us vs f g = backward-same rs ts us vs f g

pub forward-any_order : ForwardInAnyOrder
forward-any_order rs ts h [] x q = refl
forward-any_order rs ts h (f ∷ fs) x q =
    let e = backward-same rs ts f.used f.used h (λ m. (λ i. i, λ i. i)) in
    λ i. filter_cons (if list_any (touches x q) (e i) then Some (f.port, f.place) else None) (forward-any_order rs ts h fs x q i)
  where
    filter_cons : Option Label → List Label → List Label
    filter_cons None ls = ls
    filter_cons (Some l) ls = l ∷ ls

-- ---- jobs of a step

place-is : (s : Name) (n : JobName) (q : Place) → place_at s n ≡ Some q → n ≡ job_at s q
place-is s [] q e = absurd (true≢false (sym (ap has e)))
  where
    has : Option Place → Bool
    has None = false
    has (Some r) = true
place-is s (k ∷ []) q e = by (same_name s k.0) refl e
  where
    has : Option Place → Bool
    has None = false
    has (Some r) = true

    or_this : Option Place → Place
    or_this None = q
    or_this (Some r) = r

    by : (b : Bool) → same_name s k.0 ≡ b → (if b then Some k.1 else None) ≡ Some q → k ∷ [] ≡ job_at s q
    by true f g = let a = (bytes_decides s k.0).0 f in let b = ap or_this g in λ i. (sym a i, b i) ∷ []
    by false f g = absurd (true≢false (sym (ap has g)))
place-is s (k ∷ j ∷ n) q e = absurd (true≢false (sym (ap has e)))
  where
    has : Option Place → Bool
    has None = false
    has (Some r) = true

place-of : (s : Name) (q : Place) → place_at s (job_at s q) ≡ Some q
place-of s q = ap (λ b. if b then Some q else None) ((bytes_decides s s).1 refl)

module _ (rs : List Record) (s : Name) where
  abbrev places : List Place
  places = filter_map (λ r. place_at s r.job) rs

  in-places : (q : Place) (r : Record) → In r rs → r.job ≡ job_at s q → In q places
  in-places q r i e = in-options (λ (r : Record). place_at s r.job) r q rs i (ap (place_at s) e ∙ place-of s q)

  of-places : (q : Place) → In q places → (r : Record) × In r rs × (r.job ≡ job_at s q)
  of-places q h = let w = of-options (λ (r : Record). place_at s r.job) q rs h in (w.0, w.1, place-is s w.0.job q w.2)

pub by_step-jobs : ByStepHasJobs
by_step-jobs rs s n = (there, back)
  where
    there : In n (by_step rs s) → (q : Place) × (n ≡ job_at s q) × ((r : Record) × In r rs × (r.job ≡ job_at s q))
    there h =
        let w = of-map (job_at s) n (in_order place_cmp (places rs s)) h in
        (w.0, w.2, of-places rs s w.0 (of-order place_cmp nat_list_cmp_total exact_bytes w.0 (places rs s) w.1))

    back : (q : Place) × (n ≡ job_at s q) × ((r : Record) × In r rs × (r.job ≡ job_at s q)) → In n (by_step rs s)
    back h =
        subst (λ m. In m (by_step rs s)) (sym h.1) (in-map (job_at s) h.0 (in_order place_cmp (places rs s)) (in-order place_cmp nat_list_cmp_total exact_bytes h.0 (places rs s) (in-places rs s h.0 h.2.0 h.2.1 h.2.2)))

pub by_step-order : ByStepInOrder
by_step-order rs s = (in_order place_cmp (places rs s), rises-order place_cmp nat_list_cmp_total exact_bytes (places rs s), refl)

pub by_step-any_order : ByStepInAnyOrder
by_step-any_order rs ts h s = ap (map (job_at s)) (same-order place_cmp nat_list_cmp_total exact_bytes (places rs s) (places ts s) (λ q. (over rs ts (λ r. (h r).0) q, over ts rs (λ r. (h r).1) q)))
  where
    over : (us vs : List Record) → ((r : Record) → In r us → In r vs) → (q : Place) → In q (places us s) → In q (places vs s)
    over us vs f q i = let w = of-places us s q i in in-places vs s q w.0 (f w.0 w.1) w.2

-- ---- what is made from an element

pub made_from-reached : MadeFromIsReached
made_from-reached rs x q used = made-from rs x q used

-- ---- what is kept

pub group-parts : GroupIsItsParts
group-parts gs g = (before-same g gs, last-marks g gs)

pub search-begins : (ns : Numbers) (k : Kept) → SearchBegins ns k
search-begins ns k a h = begins ns k a h

pub search-goes_on : (ns : Numbers) (k : Kept) → SearchGoesOn ns k
search-goes_on ns k a h = goes-on ns k a h

pub search-finds : (ns : Numbers) (k : Kept) → SearchFindsAll ns k
search-finds ns k a h = finds-all ns k a h

pub table-grows : (ns : Numbers) (k : Kept) → TableMayGrow ns k
table-grows ns k a h x q bs f i e = grows ns k a h x q bs f i e

pub table-whole : (ns : Numbers) (k : Kept) → TableIsWhole ns k
table-whole ns k a h x q bs w = whole ns k a h x q bs w

pub table-tells : TableTells
table-tells = tells
