use Rattle.std.proofs.Common.{◌≡◌, ◌-◌}
use Rattle.par_pool.specs.Reading.{items}
use Rattle.par_pool.specs.Constants.{constant_at}
use Rattle.par_pool.proofs.Items.{with_front}
use Rattle.par_pool.proofs.reader.constants_of.Given as goal

abbrev pub invariant-loop-index : goal.invariant-loop-index
invariant-loop-index l =
    with_front l.constants.items (items (constant_at l.short) (l.number - l.index) l.index l.rest)
    ≡ items (constant_at l.short) (l.number - 1) 1 l.bytes
