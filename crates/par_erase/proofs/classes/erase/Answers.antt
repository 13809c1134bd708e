use Rattle.std.proofs.Common.{map, ◌≡◌, ◌∙◌, ap}
use Rattle.par_typed.specs.Shown.{bodies}
use Rattle.par_erase.specs.Shown.{class_bodies, inputs_of}
use Rattle.par_erase.specs.Asked.{asked_in}
use Rattle.par_erase.specs.Erased.{inputs_in, inputs_among, classes_bodies}
use Rattle.par_erase.proofs.Bodies.{same_inputs}
use Rattle.par_erase.proofs.classes.erase.Goals as goal

pub returns-clause-bodies : goal.returns-clause-bodies
returns-clause-bodies c =
    let t = c.args.typed.now.table in
    let ks = c.in_ok-classes.classes in
    let all = c.as_slice-all.result.now in
    let inputs =
    c.in_ok-classes.ensures.inputs
    ∙ ap (map (λ k. inputs_among k.channels)) c.as_slice.ensures in
    let counts : inputs_of (record { classes = ks; main = t.main }) ≡ inputs_in t =
    λ i class. same_inputs ks t.classes inputs class i in
    ap (λ w. class_bodies w 0 ks) counts ∙ c.in_ok-classes.ensures.bodies
    ∙ ap (λ a. classes_bodies t a 0 c.as_slice.result.now (bodies all)) c.in_ok-asked.ensures
    ∙ ap (λ cs. classes_bodies t (asked_in (bodies all)) 0 cs (bodies all)) c.as_slice.ensures
    ∙ ap (λ bs. classes_bodies t (asked_in (bodies bs)) 0 t.classes (bodies bs))
    c.as_slice-all.ensures

pub returns-clause-named : goal.returns-clause-named
returns-clause-named c = record { classes = c.in_ok-classes.ensures.named }
