-- The laws as they are stated.
use Rattle.std.specs.Prelude.{refl, [], map}
use Rattle.std.proofs.Common.{ap, ◌∙◌}
use Rattle.tv_framing.specs.PortTellings.{placed}
use Rattle.tv_framing.specs.Stated.{EndedIsTold, EndingIsTold, FeedsAreKnownWhole, FramesArePossible, FramesGoOn, KnownIsBeforeAndGained, KnownItemsAreLegal, KnownValuesAreToldWhole, LegalIsKnownItem, MatchedIsKnown, PartsAreBelow, PortsAreToldWhatTheyGain, PortsGainOnWay, ResultsAreLegal, TakingMakesNoneKnown, UnknownValuesAreNotTold, WholeIsTold, WrappingIsKnown}
use Rattle.tv_framing.proofs.Arriving.{so-far-below}
use Rattle.tv_framing.proofs.Endings.{all_ended-in_all, ended-in_all, whole-in_all}
use Rattle.tv_framing.proofs.Frames.{frame-comes, known-legal, legal-known, result-legal, taken-gains}
use Rattle.tv_framing.proofs.Gaining.{gained-on_way}
use Rattle.tv_framing.proofs.Matching.{all-told, none-told, step-matches}
use Rattle.tv_framing.proofs.Ports.{feed-known, known-or_gained, steps-outputs, wrapped-known}
use Rattle.tv_framing.proofs.PortTellings.{port-told}
use Rattle.tv_framing.proofs.Possible.{some-possible}
use Rattle.tv_framing.proofs.Tellings.{value-is_told}

pub known-is_before_and_gained : KnownIsBeforeAndGained
known-is_before_and_gained known after more t = known-or_gained known after more t

pub ports-gain_on_way : PortsGainOnWay
ports-gain_on_way named known after p c gives declared port node hit not_yet t k d there =
    gained-on_way named known after c.hits c.known_or_hit p c.at_place gives declared port node hit not_yet t [] p k d refl there

pub known_values-are_told_whole : KnownValuesAreToldWhole
known_values-are_told_whole known values p k declared v all here depth =
    ap (map (placed [])) (all-told known p k v all) ∙ value-is_told known known values p declared k [] v here depth

pub unknown_values-are_not_told : UnknownValuesAreNotTold
unknown_values-are_not_told known p k v h = none-told known p k v h

pub ports-are_told : PortsAreToldWhatTheyGain
ports-are_told instance results fs e es legal tells values p newly given_at whole_now k v f h =
    port-told instance results fs e es legal tells values p newly given_at whole_now k v f h

pub feeds-are_known_whole : FeedsAreKnownWhole
feeds-are_known_whole instance results known fresh given start ss f =
    feed-known instance results known fresh given start _ (steps-outputs instance results given [] ss tt) f

pub wrapping-is_known : WrappingIsKnown
wrapping-is_known known fresh k v = wrapped-known [] (λ s q. []) known fresh [] tt [] tt k v

pub matched-is_known : MatchedIsKnown
matched-is_known known instance results given fs n s levels agree told agrees =
    step-matches known instance results given fs n s levels agree told agrees

pub parts-are_below : PartsAreBelow
parts-are_below instance results f d out es x h = so-far-below instance results f d out es x h

pub known_items-are_legal : KnownItemsAreLegal
known_items-are_legal instance fs f first es e own x w fresh = known-legal instance fs f first es e own x w.item w.place w.kind fresh

pub legal-is_known_item : LegalIsKnownItem
legal-is_known_item instance fs f first es e own h =
    let r = legal-known instance fs f first es e own h in
    (r.0, record { item = r.1; place = r.2; kind = r.3 })

pub frames-go_on : FramesGoOn
frames-go_on v w e new given legal comes = frame-comes v w e new given legal comes

pub results-are_legal : ResultsAreLegal
results-are_legal v w s q vs i n = result-legal v w s q vs i n

pub taking-makes_none_known : TakingMakesNoneKnown
taking-makes_none_known instance s q es fs = taken-gains instance s q es fs

pub frames-are_possible : FramesArePossible
frames-are_possible v w instance = some-possible v instance w.given

pub whole-is_told : WholeIsTold
whole-is_told flows levels v w d = whole-in_all flows v w d.flow d.inputs levels d.levels_are

pub ended-is_told : EndedIsTold
ended-is_told flows levels v w d ns = ended-in_all flows v w d.flow d.inputs levels d.levels_are ns

pub ending-is_told : EndingIsTold
ending-is_told flows levels v w d = all_ended-in_all flows v w d.flow d.inputs levels d.levels_are
