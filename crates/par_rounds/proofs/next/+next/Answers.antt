use Rattle.std.proofs.Common.{ap, ◌∙◌}
use Rattle.par_program_laws.specs.Kinds.{Normal}
use Rattle.par_program_laws.specs.Numbered.{next_by}
use Rattle.par_nodes.specs.Seen.{seen_kind, seen_origin, seen_worth, seen_absorber, seen_rules}
use Rattle.par_nodes.specs.Seen.{seen_node}
use Rattle.par_rounds.proofs.Trees.{is_done, is_part, is_test, is_heads, is_leaves, is_worths}
use Rattle.par_rounds.proofs.Trees.{is_ends, is_gives, is_joins}
use Rattle.par_rounds.proofs.Nexts.{node_next, done_next, part_next, test_next, heads_next}
use Rattle.par_rounds.proofs.Nexts.{leaves_next, worths_next, ends_next, gives_next}
use Rattle.par_rounds.proofs.Nexts.{joins_next}
use Rattle.par_rounds.proofs.next.+next.Goals as goal

pub next-returns : goal.next-returns
next-returns t c =
    node_next c.args.node.now.point c.next_by.result
    (seen_rules c.args.node.now.rules) c.next_by.ensures

pub next_by-returns-in-Done : goal.next_by-returns-in-Done
next_by-returns-in-Done t c =
    done_next (seen_rules c.args.rules.now) c.args.from (is_done c.args.rules.now c.in-Done.is)

pub next_by-returns-in-Part : goal.next_by-returns-in-Part
next_by-returns-in-Part t c =
    part_next (seen_rules c.args.rules.now) c.args.from (seen_origin c.in-Part.field-0)
    (seen_absorber c.in-Part.field-1) (seen_node c.deref-in-Part.result.now)
    (seen_rules c.deref.result.now) c.next_by.result
    (is_part c.args.rules.now c.in-Part.field-0 c.in-Part.field-1 c.in-Part.part c.in-Part.more
    c.deref-in-Part.result.now c.deref.result.now c.in-Part.is c.deref-in-Part.ensures
    c.deref.ensures)
    (c.next_by.ensures ∙ ap (λ k. next_by k (seen_rules c.deref.result.now)) c.next.ensures)

pub next_by-returns-in-Test : goal.next_by-returns-in-Test
next_by-returns-in-Test t c =
    test_next (seen_rules c.args.rules.now) c.args.from (seen_node c.deref-in-Test-2.result.now)
    (seen_rules c.deref-in-Test.result.now) c.next_by-in-Test.result
    (is_test c.args.rules.now c.in-Test.part c.in-Test.more c.deref-in-Test-2.result.now
    c.deref-in-Test.result.now c.in-Test.is c.deref-in-Test-2.ensures c.deref-in-Test.ensures)
    (c.next_by-in-Test.ensures ∙ ap
    (λ k. next_by k (seen_rules c.deref-in-Test.result.now)) c.next-in-Test.ensures)

pub next_by-returns-in-Heads : goal.next_by-returns-in-Heads
next_by-returns-in-Heads t c =
    heads_next (seen_rules c.args.rules.now) c.args.from (seen_origin c.in-Heads.field-0)
    (seen_rules c.deref-in-Heads.result.now) c.next_by-in-Heads.result
    (is_heads c.args.rules.now c.in-Heads.field-0 c.in-Heads.more c.deref-in-Heads.result.now
    c.in-Heads.is c.deref-in-Heads.ensures) c.next_by-in-Heads.ensures

pub next_by-returns-in-Leaves : goal.next_by-returns-in-Leaves
next_by-returns-in-Leaves t c =
    leaves_next (seen_rules c.args.rules.now) c.args.from (seen_origin c.in-Leaves.field-0)
    (seen_kind c.in-Leaves.field-1)
    (seen_rules c.deref-in-Leaves.result.now) c.next_by-in-Leaves.result
    (is_leaves c.args.rules.now c.in-Leaves.field-0 c.in-Leaves.field-1 c.in-Leaves.more
    c.deref-in-Leaves.result.now c.in-Leaves.is c.deref-in-Leaves.ensures)
    c.next_by-in-Leaves.ensures

pub next_by-returns-in-Worths : goal.next_by-returns-in-Worths
next_by-returns-in-Worths t c =
    worths_next (seen_rules c.args.rules.now) c.args.from (seen_worth c.in-Worths.field-0)
    (seen_rules c.deref-in-Worths.result.now) c.next_by-in-Worths.result
    (is_worths c.args.rules.now c.in-Worths.field-0 c.in-Worths.more c.deref-in-Worths.result.now
    c.in-Worths.is c.deref-in-Worths.ensures) c.next_by-in-Worths.ensures

pub next_by-returns-in-Ends : goal.next_by-returns-in-Ends
next_by-returns-in-Ends t c =
    ends_next (seen_rules c.args.rules.now) c.args.from (seen_origin c.in-Ends.field-0)
    (seen_kind c.in-Ends.field-1)
    (is_ends c.args.rules.now c.in-Ends.field-0 c.in-Ends.field-1 c.in-Ends.is)

pub next_by-returns-in-Gives : goal.next_by-returns-in-Gives
next_by-returns-in-Gives t c =
    gives_next (seen_rules c.args.rules.now) c.args.from (seen_origin c.in-Gives.field-0) Normal
    (seen_worth c.in-Gives.field-1)
    (is_gives c.args.rules.now c.in-Gives.field-0 c.in-Gives.field-1 c.in-Gives.is)

pub next_by-returns-in-Joins : goal.next_by-returns-in-Joins
next_by-returns-in-Joins t c =
    let j = c.in-Joins in
    joins_next (seen_rules c.args.rules.now) c.args.from (seen_origin j.field-0) Normal
    (seen_worth j.field-1) (seen_worth j.field-2)
    (is_joins c.args.rules.now j.field-0 j.field-1 j.field-2 j.is)
