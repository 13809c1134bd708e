use Rattle.std.proofs.Common.{Some, sym, ap, ◌∙◌}
use Rattle.par_typed.specs.Shown.{shown, mark_of}
use Rattle.par_typed.proofs.Shown.{shown_mark}
use Rattle.par_program_laws.specs.Body.{exp}
use Rattle.par_program_laws.specs.Declares.{declares}
use Rattle.par_program_laws.specs.Kinds.{normal}
use Rattle.par_ways.specs.Seen.{ways_of}
use Rattle.par_rounds.proofs.Arms.{took_part}
use Rattle.par_rounds.proofs.Walks.{exp_spot}
use Rattle.par_rounds.proofs.stmt.loop_test.Goals as goal

pub returns-clause-head : goal.returns-clause-head
returns-clause-head c =
    let e = c.args.test.now in
    ap Some (sym (exp_spot (declares c.args.table.now) (shown e)
    ∙ ap (λ m. m.point) (shown_mark e.kind (mark_of e))))

pub returns-clause-took : goal.returns-clause-took
returns-clause-took c =
    let u = c.in_ok-take.ensures in let q = c.in_ok-found.ensures in
    let h = ways_of c.args.heads.now in let e = c.args.test.now in
    let n = exp (declares c.args.table.now) (shown e) in
    took_part h normal _ n c.args.so.now
    (record {
      head = Some e.point;
      parts = c.take.new.so.parts;
      found = c.take.new.so.found;
    }) c.in_ok-entry.entry c.in_ok-found.found c.args.notes.now c.visit.new.notes
    (c.in_ok-entry.ensures.way
    ∙ ap h (sym (exp_spot (declares c.args.table.now) (shown e)
    ∙ ap (λ m. m.point) (shown_mark e.kind (mark_of e)))))
    q u.parts u.value u.exits
    (u.locals c.args.notes.now.locals c.requires.so_far.exits q.wide)

pub visit-requires-clause-entry : goal.visit-requires-clause-entry
visit-requires-clause-entry c =
    c.in_ok-entry.ensures.locals c.args.notes.now.locals c.requires.heads.0
