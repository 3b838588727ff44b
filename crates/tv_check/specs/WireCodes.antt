-- Codes of wirings, by which equal ones are equal in one way: each of them as tuples and lists of numbers.
use Rattle.std.specs.Prelude.{◌≡◌, ◌⊎◌, ℕ, List, Option, refl}
use Rattle.std.specs.Coded.{Coded, code_by, coded×, coded⊎, coded_ℕ, coded_list, coded_option}
use Rattle.std.proofs.Common.{inl, inr}
use base.Stored.{coded_unit}
use Rattle.tv_check.specs.declared.feeds.NumberedLink.{NumberedLink}
use Rattle.tv_check.specs.declared.feeds.NumberedLink.TheVariants.{Input, Output}
use Rattle.tv_check.specs.declared.feeds.NumberedFeed.{NumberedFeed}
use Rattle.tv_check.specs.declared.feeds.NumberedFeed.TheVariants.{Link, Merge, Constant}
use Rattle.tv_check.specs.declared.ports.Port.{Port}
use Rattle.tv_check.specs.declared.wires.Wire.{Wire}
use Rattle.tv_check.specs.declared.wiring.Wiring.{Wiring}

abbrev pub of_link : NumberedLink → ℕ ⊎ (ℕ × ℕ)
of_link (Input x) = inl x
of_link (Output s o) = inr (s, o)

abbrev pub to_link : ℕ ⊎ (ℕ × ℕ) → NumberedLink
to_link (inl x) = Input x
to_link (inr (s, o)) = Output s o

pub to-of_link : (l : NumberedLink) → to_link (of_link l) ≡ l
to-of_link (Input x) = refl
to-of_link (Output s o) = refl

abbrev pub coded_link : Coded NumberedLink
coded_link = code_by (ℕ ⊎ (ℕ × ℕ)) (coded⊎ coded_ℕ (coded× coded_ℕ coded_ℕ)) of_link to_link
    to-of_link

abbrev pub of_feed : NumberedFeed → NumberedLink ⊎ (List NumberedLink ⊎ Unit {0})
of_feed (Link l) = inl l
of_feed (Merge ls) = inr (inl ls)
of_feed Constant = inr (inr tt)

abbrev pub to_feed : NumberedLink ⊎ (List NumberedLink ⊎ Unit {0}) → NumberedFeed
to_feed (inl l) = Link l
to_feed (inr (inl ls)) = Merge ls
to_feed (inr (inr u)) = Constant

pub to-of_feed : (f : NumberedFeed) → to_feed (of_feed f) ≡ f
to-of_feed (Link l) = refl
to-of_feed (Merge ls) = refl
to-of_feed Constant = refl

abbrev pub coded_feed : Coded NumberedFeed
coded_feed =
    code_by (NumberedLink ⊎ (List NumberedLink ⊎ Unit {0}))
    (coded⊎ coded_link (coded⊎ (coded_list coded_link) coded_unit)) of_feed to_feed to-of_feed

abbrev pub coded_port : Coded Port
coded_port =
    code_by (NumberedFeed × (ℕ × ℕ)) (coded× coded_feed (coded× coded_ℕ coded_ℕ))
    (λ p. (p.feed, (p.levels, p.leaf))) (λ q. record {
      feed = q.0;
      levels = q.1.0;
      leaf = q.1.1;
    }) (λ _. refl)

abbrev pub coded_wire : Coded Wire
coded_wire =
    code_by (ℕ × (ℕ × (Option ℕ × (ℕ × (ℕ × ℕ)))))
    (coded× coded_ℕ
    (coded× coded_ℕ (coded× (coded_option coded_ℕ) (coded× coded_ℕ (coded× coded_ℕ coded_ℕ)))))
    (λ w. (w.step, (w.port, (w.link, (w.output, (w.levels, w.leaf))))))
    (λ q. record {
      step = q.0;
      port = q.1.0;
      link = q.1.1.0;
      output = q.1.1.1.0;
      levels = q.1.1.1.1.0;
      leaf = q.1.1.1.1.1;
    })
    (λ _. refl)

abbrev pub coded_wiring : Coded Wiring
coded_wiring =
    code_by (List (List Port)
    × (List NumberedFeed × (List (List ℕ) × (List (List Wire) × List (List ℕ)))))
    (coded× (coded_list (coded_list coded_port)) (coded× (coded_list coded_feed)
    (coded× (coded_list (coded_list coded_ℕ)) (coded× (coded_list (coded_list coded_wire))
    (coded_list (coded_list coded_ℕ))))))
    (λ w. (w.ports, (w.outputs, (w.after, (w.wires, w.dependents)))))
    (λ q. record {
      ports = q.0;
      outputs = q.1.0;
      after = q.1.1.0;
      wires = q.1.1.1.0;
      dependents = q.1.1.1.1;
    })
    (λ _. refl)
