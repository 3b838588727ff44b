use Rattle.std.proofs.Common.{◌≡◌, ◌<◌, length, ap, arith, sym, ◌∙◌, Some, get_or, subst}
use Rattle.std.proofs.lemmas.List.{length-map}
use Rattle.tv_lemmas.proofs.Lists.{get-map_read}
use Rattle.tv_intake.specs.declared.found.Found.{Found}
use Rattle.tv_intake.specs.Intaken.{followed_in, placed, thing_in}
use Rattle.tv_intake.proofs.IntakeLemmas.{each-get, item-there, jobs-there, faulty-there, place-kept, sound-there, step-within, thing-is}
use Rattle.tv_intake.proofs.intakes.Intakes.job.Goals as goal

pub index-requires : goal.index-requires
index-requires c =
    let i = c.args.self.now in
    let ms = i.matchers.items in
    let f = c.index-found.result.now in
    let n : c.args.number < length i.jobs.items = subst (λ k. c.args.number < k) (length-map i.jobs.items (λ f. placed (thing_in ms f))) c.requires.number in
    let here = each-get (λ (f : Found). f.at < length (followed_in ms f.step)) i.jobs.items c.args.number f (jobs-there ms i.jobs.items i.waiting.items c.requires.sound) n c.index-found.ensures in
    omega (arith, step-within ms f.step f.at here, i.matchers.ok.0)

pub item-kind-requires-clause-sound : goal.item-kind-requires-clause-sound
item-kind-requires-clause-sound c =
    let i = c.args.self.now in
    let ms = i.matchers.items in
    let f = c.index-found.result.now in
    let n : c.args.number < length i.jobs.items = subst (λ k. c.args.number < k) (length-map i.jobs.items (λ f. placed (thing_in ms f))) c.requires.number in
    let here = each-get (λ (f : Found). f.at < length (followed_in ms f.step)) i.jobs.items c.args.number f (jobs-there ms i.jobs.items i.waiting.items c.requires.sound) n c.index-found.ensures in
    let x = c.read.result.now in
    let at : x ≡ get_or ms f.step x = c.read.ensures ∙ c.index.ensures ∙ ap (get_or ms f.step) (sym c.read.ensures) in
    sound-there ms f x (step-within ms f.step f.at here) at here c.requires.sound.sound

pub item-kind-requires-clause-within : goal.item-kind-requires-clause-within
item-kind-requires-clause-within c =
    let i = c.args.self.now in
    let ms = i.matchers.items in
    let f = c.index-found.result.now in
    let n : c.args.number < length i.jobs.items = subst (λ k. c.args.number < k) (length-map i.jobs.items (λ f. placed (thing_in ms f))) c.requires.number in
    let here = each-get (λ (f : Found). f.at < length (followed_in ms f.step)) i.jobs.items c.args.number f (jobs-there ms i.jobs.items i.waiting.items c.requires.sound) n c.index-found.ensures in
    let x = c.read.result.now in
    let at : x ≡ get_or ms f.step x = c.read.ensures ∙ c.index.ensures ∙ ap (get_or ms f.step) (sym c.read.ensures) in
    item-there ms f x (step-within ms f.step f.at here) at here

pub returns-clause-job : goal.returns-clause-job
returns-clause-job c =
    let i = c.args.self.now in
    let ms = i.matchers.items in
    let f = c.index-found.result.now in
    let n : c.args.number < length i.jobs.items = subst (λ k. c.args.number < k) (length-map i.jobs.items (λ f. placed (thing_in ms f))) c.requires.number in
    let here = each-get (λ (f : Found). f.at < length (followed_in ms f.step)) i.jobs.items c.args.number f (jobs-there ms i.jobs.items i.waiting.items c.requires.sound) n c.index-found.ensures in
    let x = c.read.result.now in
    let at : x ≡ get_or ms f.step x = c.read.ensures ∙ c.index.ensures ∙ ap (get_or ms f.step) (sym c.read.ensures) in
    get-map_read (λ f. placed (thing_in ms f)) i.jobs.items c.args.number f n c.index-found.ensures
    ∙ ap (λ x. Some (placed x)) (thing-is ms f x (step-within ms f.step f.at here) at here _ c.item-kind.ensures.item)
    ∙ ap (λ q. Some (f.step, q)) (place-kept c.item-kind.result.0.now c.item-kind.result.1)

pub returns-clause-faulty : goal.returns-clause-faulty
returns-clause-faulty c =
    let i = c.args.self.now in
    let ms = i.matchers.items in
    let f = c.index-found.result.now in
    let n : c.args.number < length i.jobs.items = subst (λ k. c.args.number < k) (length-map i.jobs.items (λ f. placed (thing_in ms f))) c.requires.number in
    let here = each-get (λ (f : Found). f.at < length (followed_in ms f.step)) i.jobs.items c.args.number f (jobs-there ms i.jobs.items i.waiting.items c.requires.sound) n c.index-found.ensures in
    let x = c.read.result.now in
    let at : x ≡ get_or ms f.step x = c.read.ensures ∙ c.index.ensures ∙ ap (get_or ms f.step) (sym c.read.ensures) in
    faulty-there ms f x (step-within ms f.step f.at here) at here c.item-kind.result.0.now c.binds_fault.result (c.binds_fault.ensures ∙ c.item-kind.ensures.faulty)
