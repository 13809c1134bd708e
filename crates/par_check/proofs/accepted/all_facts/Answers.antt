use Rattle.std.proofs.Common.{List, [], ◌≤◌, length, subst, sym}
use Rattle.std.specs.Prelude.{map}
use Rattle.std.proofs.lemmas.List.{append-nil}
use Rattle.par_typed.specs.declared.program.TBody.{TBody}
use Rattle.par_typed.specs.Plain.{Body}
use Rattle.par_typed.specs.Shown.{bodies}
use Rattle.par_asked.specs.par_program_laws.Lattice.{numbers}
use Rattle.par_asked.specs.par_program_laws.Facts.{Facts}
use Rattle.par_flow.specs.Table.{facts_in}
use Rattle.par_asked.specs.par_check_laws.Right.{AreAllRight}
use Rattle.par_check.proofs.Told.{no_bodies_left}
use Rattle.par_check.proofs.accepted.all_facts.Goals as goal

pub returns-clause-right : goal.returns-clause-right
returns-clause-right c =
    let t = c.args.typed.now.table in
    let bs = c.args.typed.now.bodies in
    let none = no_bodies_left bs c.loop-body.body-index
    (subst (λ (xs : List TBody). length xs ≤ c.loop-body.body-index)
    c.as_slice-body-items.ensures c.loop-body-test.false) in
    subst (λ (fs : List (Facts numbers)). AreAllRight t (bodies bs) fs)
    (append-nil (map facts_in c.loop-body.facts))
    (c.loop-body.invariant.right [] (subst (λ (xs : List Body). AreAllRight t xs []) (sym none) tt))
