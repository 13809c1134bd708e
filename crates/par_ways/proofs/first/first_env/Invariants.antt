use Rattle.std.proofs.Common.{◌≡◌, ℕ, ◌<◌, length}
use Rattle.par_program_laws.specs.Lattice.{numbers}
use Rattle.par_program_laws.specs.Declares.{params_of}
use Rattle.par_program_laws.specs.Closed.{locals as entering}
use Rattle.par_pass_laws.specs.par_except.Seen.{locals}
use Rattle.par_ways.proofs.first.first_env.Given as goal

abbrev pub invariant-loop-local : goal.invariant-loop-local
invariant-loop-local l =
    (length l.env ≡ l.local)
    × ((i : ℕ) → i < l.local → locals l.env i
    ≡ entering numbers l.method.is_static (params_of l.method.params) i)
