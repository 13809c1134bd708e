use Rattle.std.proofs.Common.{◌≡◌, drop}
use Rattle.clap.specs.Words.{app_of}
use Rattle.par_words.specs.Commands.{with_flags}
use Rattle.par_words.proofs.commands.with_flags.Given as goal

-- with those that are left it is the whole command
abbrev pub invariant-loop-own : goal.invariant-loop-own
invariant-loop-own l =
    with_flags (app_of l.command) (drop l.own-index l.flags)
    ≡ with_flags (app_of l.fn.command) l.flags
