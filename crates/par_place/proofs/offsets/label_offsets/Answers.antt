use Rattle.std.proofs.Common.{◌<◌, length, sym, arith}
use Rattle.std.specs.Prelude.{slice_index}
use Rattle.std.proofs.lemmas.List.{get_or_default}
use Rattle.par_place.proofs.Marking.{marked_last, marked_more, sized_more, sized_within}
use Rattle.par_place.proofs.offsets.label_offsets.Goals as goal

pub overflow_add-at : goal.overflow_add-at
overflow_add-at c =
    let within =
    sized_within c.args.items.now c.loop-i.i c.loop-i.at c.size.result c.index-items-i.result
    c.loop-i-test.true (sym c.index-items-i.is) c.loop-i.invariant.short c.size.ensures.few in
    omega (arith, within, c.requires.short)

pub loop-i-preserved : goal.loop-i-preserved
loop-i-preserved c =
    let n = slice_index c.args.indices.now c.loop-i.i in
    let within : c.loop-i.i < length c.args.indices.now = omega arith in
    record {
      marked =
          marked_more c.args.items.now c.args.indices.now c.loop-i.i c.loop-i.at c.size.result
          c.index-items-i.result n c.loop-i.offsets.items c.mark_item.new.offsets.items
          c.loop-i-test.true within (sym c.index-items-i.is)
          (get_or_default c.args.indices.now c.loop-i.i n 0 within) c.size.ensures.exact
          c.in_ok-mark_item.ensures.marked c.loop-i.invariant.marked;
      small = c.in_ok-mark_item.ensures.small;
      short =
          sized_more c.args.items.now c.loop-i.i c.loop-i.at c.size.result c.index-items-i.result
          c.loop-i-test.true (sym c.index-items-i.is) c.loop-i.invariant.short c.size.ensures.few;
    }

pub returns-clause-offsets : goal.returns-clause-offsets
returns-clause-offsets c =
    marked_last c.args.items.now c.args.indices.now c.loop-i.i c.loop-i.at c.loop-i.offsets.items
    c.loop-i-test.false c.loop-i.invariant.marked
