use Rattle.par_resolved.specs.Seen.{known_seen}
use Rattle.par_resolved.proofs.Behind.{read_more, read_all}
use Rattle.par_resolved.proofs.scope.read_declared.Goals as goal

pub loop-decl-preserved : goal.loop-decl-preserved
loop-decl-preserved c =
    read_more c.args.decls.now c.loop-decl.decl-index c.decl-item.result
    (known_seen c.loop-decl.read) (known_seen c.read_next.new.known) _ c.loop-decl-test.true
    c.decl-item.is c.in_ok-read_next.ensures c.loop-decl.invariant

pub returns : goal.returns
returns c =
    read_all c.args.decls.now c.loop-decl.decl-index
    (known_seen c.loop-decl.read) _ c.loop-decl-test.false c.loop-decl.invariant
