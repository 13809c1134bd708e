use Rattle.std.proofs.Common.{◌∙◌}
use Rattle.std.proofs.lemmas.Result.{on_ok_weaker}
use Rattle.par_nodes.specs.Possible.{among, coming, passed}
use Rattle.par_nodes.proofs.Completing.{part_made, test_made, leaves_made, done_made, heads_made}
use Rattle.par_nodes.proofs.Completing.{ends_made, gives_made, joins_made, worths_made}
use Rattle.par_nodes.proofs.Completing.{leaves_told, heads_told, worths_told}
use Rattle.par_nodes.proofs.possible.+add_rules.Goals as goal

pub returns-in-Done : goal.returns-in-Done
returns-in-Done t c =
    λ h. done_made c.args.rules.now (passed c.args.left c.args.parts.now)
    (among c.args.kinds.now) c.in-Done.is

pub returns-in-Ends : goal.returns-in-Ends
returns-in-Ends t c =
    on_ok_weaker c.leaves.result
    (λ kept h. ends_made c.args.rules.now c.in-Ends.from c.in-Ends.kind
    (passed c.args.left c.args.parts.now) (among c.args.kinds.now) (among c.leaves.new.kinds)
    c.comes.result c.in-Ends.is c.comes.ensures kept)
    c.leaves.ensures

pub returns-in-Gives : goal.returns-in-Gives
returns-in-Gives t c =
    on_ok_weaker c.leaves-in-Gives.result
    (λ kept h. gives_made c.args.rules.now c.in-Gives.from _
    (passed c.args.left c.args.parts.now) (among c.args.kinds.now)
    (among c.leaves-in-Gives.new.kinds) c.comes-in-Gives.result c.in-Gives.is
    c.comes-in-Gives.ensures kept)
    c.leaves-in-Gives.ensures

pub returns-in-Joins : goal.returns-in-Joins
returns-in-Joins t c =
    on_ok_weaker c.leaves-in-Joins.result
    (λ kept h. joins_made c.args.rules.now c.in-Joins.from _ _
    (passed c.args.left c.args.parts.now) (among c.args.kinds.now)
    (among c.leaves-in-Joins.new.kinds) c.comes-in-Joins.result c.in-Joins.is
    c.comes-in-Joins.ensures kept)
    c.leaves-in-Joins.ensures

pub returns-in_ok-rest-in-Part : goal.returns-in_ok-rest-in-Part
returns-in_ok-rest-in-Part t c =
    let rest = c.in_ok-rest-in-Part.rest in
    on_ok_weaker c.add_rules.result
    (part_made c.args.rules.now c.in-Part.from c.in-Part.absorber _ c.in-Part.more
    (coming c.args.left c.args.parts.now) (coming rest c.pass_part.new.parts)
    (passed c.args.left c.args.parts.now) (passed rest c.pass_part.new.parts)
    c.deref.result.now (among c.args.kinds.now) (among c.pass_part.new.kinds)
    (among c.add_rules.new.kinds) c.comes-reached.result c.in-Part.is c.comes-reached.ensures
    c.in_ok-rest-in-Part.ensures.passed c.deref.ensures)
    c.add_rules.ensures

pub returns-in_ok-rest-in-Test : goal.returns-in_ok-rest-in-Test
returns-in_ok-rest-in-Test t c =
    let rest = c.in_ok-rest-in-Test.rest in
    on_ok_weaker c.add_rules-in-Test.result
    (test_made c.args.rules.now _ c.in-Test.more (coming c.args.left c.args.parts.now)
    (coming rest c.pass_part-in-Test.new.parts) (passed c.args.left c.args.parts.now)
    (passed rest c.pass_part-in-Test.new.parts) c.deref-in-Test.result.now
    (among c.args.kinds.now) (among c.pass_part-in-Test.new.kinds)
    (among c.add_rules-in-Test.new.kinds) c.in-Test.is c.in_ok-rest-in-Test.ensures.passed
    c.deref-in-Test.ensures)
    c.add_rules-in-Test.ensures

pub returns-in_ok-leaves-in-Leaves : goal.returns-in_ok-leaves-in-Leaves
returns-in_ok-leaves-in-Leaves t c =
    on_ok_weaker c.add_rules-in-Leaves.result
    (λ more h. leaves_made c.args.rules.now c.in-Leaves.from c.in-Leaves.kind c.in-Leaves.more
    (passed c.args.left c.args.parts.now) c.deref-in-Leaves.result.now
    (among c.args.kinds.now) (among c.leaves-in-Leaves.new.kinds)
    (among c.add_rules-in-Leaves.new.kinds)
    c.comes-reached-in-Leaves.result c.in-Leaves.is c.comes-reached-in-Leaves.ensures
    c.in_ok-leaves-in-Leaves.ensures c.deref-in-Leaves.ensures
    (more (h ∙ leaves_told _ _ _ _ _ c.in-Leaves.is c.deref-in-Leaves.ensures)))
    c.add_rules-in-Leaves.ensures

pub returns-in-Heads : goal.returns-in-Heads
returns-in-Heads t c =
    on_ok_weaker c.add_rules-in-Heads.result
    (λ more h. heads_made c.args.rules.now _ c.in-Heads.more (passed c.args.left c.args.parts.now)
    c.deref-in-Heads.result.now (among c.args.kinds.now) (among c.add_rules-in-Heads.new.kinds)
    c.in-Heads.is c.deref-in-Heads.ensures
    (more (h ∙ heads_told _ _ _ _ c.in-Heads.is c.deref-in-Heads.ensures)))
    c.add_rules-in-Heads.ensures

pub returns-in-Worths : goal.returns-in-Worths
returns-in-Worths t c =
    on_ok_weaker c.add_rules-in-Worths.result
    (λ more h. worths_made c.args.rules.now _ c.in-Worths.more
    (passed c.args.left c.args.parts.now) c.deref-in-Worths.result.now (among c.args.kinds.now)
    (among c.add_rules-in-Worths.new.kinds) c.in-Worths.is c.deref-in-Worths.ensures
    (more (h ∙ worths_told _ _ _ _ c.in-Worths.is c.deref-in-Worths.ensures)))
    c.add_rules-in-Worths.ensures
