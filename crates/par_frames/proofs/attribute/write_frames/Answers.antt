use Rattle.std.proofs.Common.{arith}
use Rattle.par_frames.proofs.Said.{same_length, few_placed, placed_ascend, attribute}
use Rattle.par_frames.proofs.attribute.write_frames.Goals as goal

pub list_start-requires : goal.list_start-requires
list_start-requires c =
    same_length _ _ _ _ _ _ c.as_slice.ensures c.as_slice-2.ensures c.as_slice-3.ensures
    c.in_ok-placed.ensures.indexed

pub overflow_cast-len : goal.overflow_cast-len
overflow_cast-len c =
    omega (
      arith,
      c.len.ensures,
      few_placed c.place_frames.new.pool c.as_slice.result.now c.args.frames.now.at
          c.in_ok-placed.placed c.as_slice.ensures c.in_ok-placed.ensures.indexed
          c.requires.ascend,
    )

pub put_frames-requires-clause-ascend : goal.put_frames-requires-clause-ascend
put_frames-requires-clause-ascend c =
    placed_ascend _ _ _ _ _ c.as_slice.ensures c.as_slice-5.ensures
    c.in_ok-placed.ensures.indexed c.requires.ascend

pub returns-clause-attribute : goal.returns-clause-attribute
returns-clause-attribute c =
    attribute c.place_frames.new.pool _ _ _ _ _ _ _ _ _ _ _ _ _ c.as_slice.ensures
    c.as_slice-2.ensures c.as_slice-3.ensures c.as_slice-5.ensures c.as_slice-4.ensures
    c.in_ok-placed.ensures.indexed c.in_ok-placed.ensures.fit c.requires.ascend
    (c.in_ok-listed.ensures c.place_frames.new.pool) c.len.ensures c.new-out.ensures.items
    c.in_ok-put_u2.ensures c.in_ok-put_frames.ensures
