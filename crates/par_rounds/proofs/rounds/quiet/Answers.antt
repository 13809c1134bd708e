use Rattle.std.proofs.Common.{length, subst}
use Rattle.std.proofs.lemmas.Bool.{not-false}
use Rattle.par_typed.specs.Shown.{does}
use Rattle.par_program_laws.specs.Body.{sta}
use Rattle.par_program_laws.specs.Declares.{declares}
use Rattle.par_pass_laws.specs.par_except.Seen.{seen}
use Rattle.par_pass_laws.specs.Pass.{pass}
use Rattle.par_ways.specs.Seen.{ways_of}
use Rattle.par_rounds.specs.Rounds.{IsRound}
use Rattle.par_rounds.proofs.Ends.{after_next, after_falls}
use Rattle.par_rounds.proofs.rounds.quiet.Goals as goal

pub loop-heads-smaller : goal.loop-heads-smaller
loop-heads-smaller c =
    let k = length c.args.way.now.env in
    let n = sta (declares c.args.table.now) (does c.args.stmt.now) in
    let w = seen c.args.way.now in
    after_falls k c.args.points n w c.loop-heads.heads.items c.loop-heads.invariant 0
    c.in_ok-notes.notes
    (subst (λ z. IsRound k 0 z (pass (ways_of z) n w).events c.in_ok-notes.notes)
    c.deref.ensures.value c.in_ok-notes.ensures) c.requires.node c.requires.small
    (not-false c.in_ok-notes.notes.rose c.if-not-notes.false)

pub loop-heads-preserved : goal.loop-heads-preserved
loop-heads-preserved c =
    let k = length c.args.way.now.env in
    let n = sta (declares c.args.table.now) (does c.args.stmt.now) in
    let w = seen c.args.way.now in
    after_next k c.args.points n w c.loop-heads.heads.items c.loop-heads.invariant 0
    c.in_ok-notes.notes
    (subst (λ z. IsRound k 0 z (pass (ways_of z) n w).events c.in_ok-notes.notes)
    c.deref.ensures.value c.in_ok-notes.ensures)
