use Rattle.std.proofs.Common.{Bool, Some, None, cond, take, length, sym, ap, ◌∙◌, arith}
use Rattle.std.specs.Option.{option_or}
use Rattle.std.specs.List.{position}
use Rattle.std.specs.Borrow.{Bor}
use Rattle.std.proofs.lemmas.List.{take_all}
use Rattle.par_tree.specs.declared.decl.ClassDecl.{ClassDecl}
use Rattle.par_tree.specs.Shown.{class_of}
use Rattle.par_index.proofs.Places.{position-map, position-found, position-push}
use Rattle.par_resolved.specs.Resolved.{has_main}
use Rattle.par_resolved.proofs.Loops.{take_more}
use Rattle.par_table.proofs.classes.main_place.Goals as goal

pub returns-then-has_main : goal.returns-then-has_main
returns-then-has_main c =
    let t : Bor ClassDecl → Bool = λ r. has_main (class_of r.now) in
    sym (position-map has_main (λ (r : Bor ClassDecl). class_of r.now) c.args.classes.now
    ∙ position-found t c.args.classes.now c.loop-place.place c.index-classes-place.result
    (omega arith) c.index-classes-place.is c.loop-place.invariant
    (sym c.has_main.ensures ∙ c.if-has_main.true))

pub loop-place-preserved : goal.loop-place-preserved
loop-place-preserved c =
    let t : Bor ClassDecl → Bool = λ r. has_main (class_of r.now) in
    let i = c.loop-place.place in
    let r = c.index-classes-place.result in
    let done = take i c.args.classes.now in
    ap (position t) (take_more c.args.classes.now i r (omega arith) c.index-classes-place.is)
    ∙ position-push t done r
    ∙ ap (λ o. option_or o (cond (t r) (Some (length done)) None)) c.loop-place.invariant
    ∙ ap (λ b. option_or None (cond b (Some (length done)) None))
    (sym c.has_main.ensures ∙ c.if-has_main.false)

pub returns : goal.returns
returns c =
    let t : Bor ClassDecl → Bool = λ r. has_main (class_of r.now) in
    sym (position-map has_main (λ (r : Bor ClassDecl). class_of r.now) c.args.classes.now
    ∙ ap (position t) (sym (take_all c.loop-place.place c.args.classes.now (omega arith)))
    ∙ c.loop-place.invariant)
