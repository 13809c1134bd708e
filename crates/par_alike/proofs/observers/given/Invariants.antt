use Rattle.std.proofs.Common.{◌≡◌, drop}
use Rattle.par_run_laws.specs.par_secrecy.Subject.{given}
use Rattle.par_alike.proofs.observers.given.Given as goal

-- the lines so far are not for this channel
abbrev pub invariant-loop-line : goal.invariant-loop-line
invariant-loop-line l =
    given l.inputs.channels l.class l.channel
    ≡ given (drop l.line-index l.line-items) l.class l.channel
