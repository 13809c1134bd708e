use Rattle.std.proofs.Common.{ap, ◌∙◌}
use Rattle.std.proofs.lemmas.Bool.{le-ltb}
use Rattle.par_policy.specs.par_bits.Sets.{has}
use Rattle.par_atoms.proofs.Listed.{has_below, has_not_above}
use Rattle.par_atoms.proofs.opened.OpenedOpenLocks.is_open.Goals as goal

pub returns-then-lock-lt-LOCKS : goal.returns-then-lock-lt-LOCKS
returns-then-lock-lt-LOCKS c =
    c.has.ensures ∙ ap (has c.args.self.now.locks.now) c.from.ensures
    ∙ has_below c.args.self.now.locks.now c.args.lock c.if-lock-lt-LOCKS.true

pub returns-else-lock-lt-LOCKS : goal.returns-else-lock-lt-LOCKS
returns-else-lock-lt-LOCKS c =
    le-ltb c.args.lock 256 c.if-lock-lt-LOCKS.false
    ∙ has_not_above c.args.self.now.locks.now c.args.lock c.if-lock-lt-LOCKS.false
