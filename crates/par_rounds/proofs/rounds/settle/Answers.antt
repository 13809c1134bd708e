use Rattle.std.proofs.Common.{length, subst, sym}
use Rattle.std.proofs.lemmas.Bool.{not-true}
use Rattle.par_typed.specs.Shown.{does}
use Rattle.par_program_laws.specs.Body.{sta}
use Rattle.par_program_laws.specs.Declares.{declares}
use Rattle.par_pass_laws.specs.par_except.Seen.{seen}
use Rattle.par_pass_laws.specs.Pass.{pass}
use Rattle.par_ways.specs.Seen.{ways_of, AreHeadsWide}
use Rattle.par_rounds.specs.Rounds.{IsRound}
use Rattle.par_rounds.proofs.Ends.{first_after, first_settled}
use Rattle.par_rounds.proofs.rounds.settle.Goals as goal

pub round-requires-clause-heads : goal.round-requires-clause-heads
round-requires-clause-heads c =
    let k = length c.args.way.now.env in
    subst (AreHeadsWide k) (sym c.deref.ensures.value) (c.in_ok-unreached.ensures.locals k)

pub returns-then-not-first-clause-rows : goal.returns-then-not-first-clause-rows
returns-then-not-first-clause-rows c =
    let k = length c.args.way.now.env in
    let n = sta (declares c.args.table.now) (does c.args.stmt.now) in
    let w = seen c.args.way.now in let u = c.in_ok-unreached.ensures in
    let first = c.in_ok-first.first in
    first_settled k c.args.points n w c.in_ok-unreached.unreached.items u.way (u.locals k) u.size
    first
    (subst (λ z. IsRound k c.args.points z (pass (ways_of z) n w).events first)
    c.deref.ensures.value c.in_ok-first.ensures)
    (not-true first.rose c.if-not-first.true)

pub quiet-requires-clause-after : goal.quiet-requires-clause-after
quiet-requires-clause-after c =
    let k = length c.args.way.now.env in
    let n = sta (declares c.args.table.now) (does c.args.stmt.now) in
    let w = seen c.args.way.now in let u = c.in_ok-unreached.ensures in
    let first = c.in_ok-first.first in
    first_after k c.args.points n w c.in_ok-unreached.unreached.items u.way (u.locals k) u.size
    first
    (subst (λ z. IsRound k c.args.points z (pass (ways_of z) n w).events first)
    c.deref.ensures.value c.in_ok-first.ensures)
