use Rattle.std.proofs.Common.{length, refl, sym, subst}
use Rattle.par_typed.specs.Shown.{shown}
use Rattle.par_program_laws.specs.Body.{exp, past}
use Rattle.par_program_laws.specs.Declares.{declares}
use Rattle.par_program_laws.specs.Kinds.{Next, absorbed}
use Rattle.par_program_laws.specs.Rules.{Entry, Rules, Done, Part, goes_on}
use Rattle.par_nodes.specs.Seen.{assigned}
use Rattle.par_nodes.proofs.Forms.{seen_ends}
use Rattle.par_pass_laws.specs.par_except.Seen.{seen}
use Rattle.par_ways.specs.Seen.{ways_of}
use Rattle.par_rounds.specs.Passes.{GoesOn, ArePassable}
use Rattle.par_rounds.proofs.Needs.{part_needs}
use Rattle.par_rounds.proofs.Walks.{behind_needs, part_walks}
use Rattle.par_rounds.proofs.stmt.ends.Goals as goal

pub operand-requires-clause-range : goal.operand-requires-clause-range
operand-requires-clause-range c =
    let n = c.args.notes.now in let x = exp (declares c.args.table.now) (shown c.args.value.now) in
    let rest = goes_on (assigned c.args.assigned past) Done in
    (part_needs n.locals (length n.heads.items) (Part Entry Next x rest) Entry Next x rest refl
    c.requires.rules).0

pub operand-requires-clause-node : goal.operand-requires-clause-node
operand-requires-clause-node c =
    let n = c.args.notes.now in let x = exp (declares c.args.table.now) (shown c.args.value.now) in
    let rest = goes_on (assigned c.args.assigned past) Done in
    (part_needs n.locals (length n.heads.items) (Part Entry Next x rest) Entry Next x rest refl
    c.requires.rules).1

pub pass_rest-requires-clause-rules : goal.pass_rest-requires-clause-rules
pass_rest-requires-clause-rules c =
    let n = c.args.notes.now in let x = exp (declares c.args.table.now) (shown c.args.value.now) in
    let rest = goes_on (assigned c.args.assigned past) Done in
    let m = c.operand.new.notes in let u = c.in_ok-operand.ensures in
    subst (ArePassable m.locals (length m.heads.items)) (sym (seen_ends _ _))
    (behind_needs (absorbed Next) _ _ c.args.way.now c.args.heads.now c.args.so.now c.operand.new.so
    n m (Part Entry Next x rest) Entry Next x rest refl u.took u.head c.requires.ready
    c.requires.so_far c.requires.rules)

pub returns : goal.returns
returns c =
    let n = c.args.notes.now in let x = exp (declares c.args.table.now) (shown c.args.value.now) in
    let rest = goes_on (assigned c.args.assigned past) Done in
    let m = c.operand.new.notes in let u = c.in_ok-operand.ensures in
    let h = ways_of c.args.heads.now in let w = seen c.args.way.now in
    let to = c.pass_rest.new in
    part_walks h w Next Entry x (Part Entry Next x rest) rest c.args.so.now c.operand.new.so
    to.so.found n m to.notes refl u.head u.took
    (subst (λ (k : Rules). GoesOn h k w c.operand.new.so m to.so.found to.notes) (seen_ends _ _)
    c.in_ok-pass_rest.ensures)
