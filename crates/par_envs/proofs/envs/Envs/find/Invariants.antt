use Rattle.std.proofs.Common.{◌≡◌, drop}
use Rattle.par_envs.specs.Numbered.{reached}
use Rattle.par_envs.proofs.envs.Envs.find.Given as goal

abbrev pub invariant-loop-later : goal.invariant-loop-later
invariant-loop-later l =
    reached (drop l.later l.self.entries.items) l.later l.env l.number
    ≡ reached l.self.entries.items 0 l.env 0
