use Rattle.std.specs.Prelude.{[], ◌++◌, ◌∷◌}
use Rattle.std.proofs.Common.{arith, length, refl, subst, ◌<◌, ◌∙◌}
use Rattle.std.proofs.lemmas.Option.{slice_get_read}
use Rattle.std.proofs.lemmas.Result.{on_ok_weaker}
use Rattle.tv_run.proofs.JobNames.{name-alone, name-behind, opener-less, opener-low}
use Rattle.tv_run.proofs.Steps.{code-low}
use Rattle.tv_run.proofs.run.OpenRun.+push_name.Goals as goal
use Rattle.tv_run.proofs.run.OpenRun.+push_name.Goals.{in-Some+in_ok-push_name, in_default}

pub index-requires : goal.index-requires
index-requires t c =
    let r = c.args.self.now in
    let q = c.requires in
    let h = code-low r q.0 q.1 c.args.job c.known.result c.known.ensures in
    omega (arith, h, r.instances.ok.0)

pub push_name-requires : goal.push_name-requires
push_name-requires t c =
    let r = c.args.self.now in
    let q = c.requires in
    let k = c.args.job in
    let m = c.known.result in
    let itself = c.index.result.now in
    let here =
    slice_get_read r.instances.items (length r.instances.items) m.instance itself refl
    (code-low r q.0 q.1 k m c.known.ensures) c.index.ensures in
    let o = c.in-Some.opener in (
      subst (λ n. o < n) c.decreases (opener-less r q.0 q.1 k m c.known.ensures itself here o c.in-Some.is),
      (q.0, q.1, opener-low r q.0 q.1 k m c.known.ensures itself here o c.in-Some.is),
    )

pub returns : goal.returns
returns t c =
    let r = c.args.self.now in
    let q = c.requires in
    let k = c.args.job in
    let m = c.known.result in
    let itself = c.index.result.now in
    let here =
    slice_get_read r.instances.items (length r.instances.items) m.instance itself refl
    (code-low r q.0 q.1 k m c.known.ensures) c.index.ensures in
    elim c.match-index.branch [
      | in-Some+in_ok-push_name w ↦
          on_ok_weaker c.push_spot.result (λ g n h. name-behind r q.0 q.1 k m c.known.ensures itself here w.in-Some.opener w.in-Some.is
          c.args.parts.now.items c.match-index.parts.items c.push_spot.new.parts.items n h
          (λ a e. (λ i. (w.parts-is i).items) ∙ w.in_ok-push_name.ensures a e) g) c.push_spot.ensures
      | in_default w ↦
          on_ok_weaker c.push_spot.result (λ g n h. name-alone r q.0 q.1 k m c.known.ensures itself here w.in_default.is c.args.parts.now.items
          c.push_spot.new.parts.items n h
          (λ s u e f. g s u e f ∙ (λ i. (w.parts-is i).items ++ (u.0, s.place) ∷ []))) c.push_spot.ensures
    ]
