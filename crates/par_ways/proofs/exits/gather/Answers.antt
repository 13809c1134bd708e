use Rattle.std.proofs.Common.{◌≡◌, sym, subst, length}
use Rattle.par_pass_laws.specs.par_except.Seen.{HasLocals}
use Rattle.par_ways.specs.Seen.{AreWide}
use Rattle.par_ways.proofs.exits.gather.Goals as goal

pub add_left-requires : goal.add_left-requires
add_left-requires c =
    let n = c.requires.0 in
    let w : length c.exit-item.result.way.env ≡ n =
    subst (λ x. HasLocals n x.way) (sym c.exit-item.is)
    (c.requires.2 c.loop-exit.exit-index c.exit-item.result c.loop-exit-test.true) in
    subst (λ k. AreWide k c.loop-exit.exits.items) (sym w)
    (c.loop-exit.invariant.wide n c.requires.1 c.requires.2)
