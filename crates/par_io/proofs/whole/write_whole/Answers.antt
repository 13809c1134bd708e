use Rattle.std.proofs.Common.{◌++◌, take}
use Rattle.par_io.proofs.Taken.{appended_kept, both_pieces, rest_behind}
use Rattle.par_io.proofs.whole.write_whole.Goals as goal

pub loop-rest-preserved : goal.loop-rest-preserved
loop-rest-preserved g c =
    let (front, split, taken) = c.loop-rest.invariant in
    let rest = c.loop-rest.rest.now in
    let count = c.in-Ok.count in (
      front ++ take count rest,
      rest_behind front rest _ count split,
      both_pieces _ _ _ front (take count rest) taken c.in-Ok.ensures.taken,
    )

-- what was taken before
pub returns-in-Err-clause-front : goal.returns-in-Err-clause-front
returns-in-Err-clause-front g c =
    let (front, split, taken) = c.loop-rest.invariant in (
      front,
      c.loop-rest.rest.now,
      split,
      appended_kept _ _ _ front taken c.in-Err.ensures.kept,
    )
