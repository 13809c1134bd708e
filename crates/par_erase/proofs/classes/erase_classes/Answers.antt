use Rattle.std.proofs.Common.{◌≡◌, ◌+◌, ◌++◌, ◌∷◌, [], ap, sym, ◌∙◌, length, drop}
use Rattle.std.proofs.lemmas.List.{length-append}
use Rattle.par_typed.specs.par_policy.Numbers.{has}
use Rattle.par_typed.specs.Shown.{bodies}
use Rattle.par_erase.specs.Named.{IsNamed}
use Rattle.par_erase.specs.Shown.{class_info, class_bodies}
use Rattle.par_erase.specs.Erased.{inputs_in, inputs_among, erased_class, classes_bodies}
use Rattle.par_erase.proofs.Copies.{whole_behind, copies_step, copies_end}
use Rattle.par_erase.proofs.Names.{named_step}
use Rattle.par_erase.proofs.Bodies.{bodies_step, bodies_drop, no_classes_left}
use Rattle.par_erase.proofs.classes.erase_classes.Goals as goal

pub loop-class-preserved : goal.loop-class-preserved
loop-class-preserved c =
    let t = c.args.table.now in
    let a = has c.args.asked.now in
    let classes = c.args.classes.now in
    let i = c.loop-class.class-index in
    let class = c.class-item.result in
    let k = c.in_ok-made.made in
    let found = c.loop-class.found in
    let left = c.loop-class.left.now in
    let new = c.push.new.self in
    let all = classes_bodies t a 0 classes (bodies c.args.all.now) in
    let push : new ≡ found ++ k ∷ [] = c.in_ok-push.ensures.ok in
    let rest = classes_bodies t a (i + 1) (drop (i + 1) classes) in
    let drops =
    bodies_drop (length class.methods) left
    ∙ ap (λ n. bodies (drop n left)) (sym c.len.ensures) ∙ ap bodies (sym c.behind-left.ensures) in
    record {
      count =
          ap length push ∙ length-append found (k ∷ [])
          ∙ ap (λ n. n + 1) c.loop-class.invariant.count;
      infos =
          copies_step class_info erased_class found new k classes i class push
          c.loop-class-test.true c.class-item.is c.in_ok-made.ensures.info
          c.loop-class.invariant.infos;
      inputs =
          copies_step (λ x. x.inputs) (λ x. inputs_among x.channels) found new k classes i class
          push
          c.loop-class-test.true c.class-item.is c.in_ok-made.ensures.inputs
          c.loop-class.invariant.inputs;
      bodies =
          ap (λ ks. class_bodies (inputs_in t) 0 ks ++ rest (bodies c.behind-left.result.now)) push
          ∙ ap (λ bs. class_bodies (inputs_in t) 0 (found ++ k ∷ []) ++ rest bs) (sym drops)
          ∙ bodies_step t a (inputs_in t) found k i classes class (bodies left) all
          c.loop-class.invariant.count c.loop-class-test.true c.class-item.is
          c.in_ok-made.ensures.bodies c.loop-class.invariant.bodies;
      named =
          named_step class_info IsNamed found new k push c.in_ok-made.ensures.named
          c.loop-class.invariant.named;
    }

pub returns-clause-infos : goal.returns-clause-infos
returns-clause-infos c =
    copies_end class_info erased_class c.loop-class.found c.args.classes.now
    c.loop-class.class-index c.loop-class-test.false c.loop-class.invariant.infos

pub returns-clause-inputs : goal.returns-clause-inputs
returns-clause-inputs c =
    copies_end (λ x. x.inputs) (λ x. inputs_among x.channels) c.loop-class.found
    c.args.classes.now c.loop-class.class-index c.loop-class-test.false
    c.loop-class.invariant.inputs

pub returns-clause-bodies : goal.returns-clause-bodies
returns-clause-bodies c =
    let t = c.args.table.now in
    let a = has c.args.asked.now in
    let classes = c.args.classes.now in
    let i = c.loop-class.class-index in
    let left = bodies c.loop-class.left.now in
    whole_behind (class_bodies (inputs_in t) 0 c.loop-class.found)
    (classes_bodies t a i (drop i classes) left)
    (classes_bodies t a 0 classes (bodies c.args.all.now))
    (no_classes_left t a classes left i c.loop-class-test.false) c.loop-class.invariant.bodies
