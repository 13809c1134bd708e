use Rattle.std.proofs.Common.{refl, sym, subst}
use Rattle.par_pass_laws.specs.par_except.Seen.{seen}
use Rattle.par_ways.specs.Seen.{AreWide}
use Rattle.par_rounds.proofs.Arms.{finish_goes}
use Rattle.par_rounds.proofs.pass.finish.Goals as goal

pub row-requires-clause-exits : goal.row-requires-clause-exits
row-requires-clause-exits c =
    let n = c.args.notes.now.locals in
    subst (AreWide n) (sym c.deref.ensures.value) (c.restore.ensures.locals n c.requires.exits)

pub returns : goal.returns
returns c =
    finish_goes c.args.point (seen c.args.way.now) c.args.found _ c.deref.result.now
    c.args.notes.now c.row.new.self
    refl c.restore.ensures.exits c.restore.ensures.locals c.deref.ensures.value c.in_ok-row.ensures
