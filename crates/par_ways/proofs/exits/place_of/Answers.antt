use Rattle.std.proofs.Common.{◌∙◌, sym, arith}
use Rattle.par_nodes.specs.Seen.{seen_kind}
use Rattle.par_ways.proofs.Lists.{none_step, one_step, one_here}
use Rattle.par_ways.proofs.exits.place_of.Goals as goal

pub returns-then-is_same : goal.returns-then-is_same
returns-then-is_same c =
    one_here (seen_kind c.args.kind) c.args.exits.now c.loop-place.place c.index-exits-place.result
    (omega arith) c.index-exits-place.is
    (sym c.is_same.ensures ∙ c.if-is_same.true) c.loop-place.invariant.one

pub loop-place-preserved : goal.loop-place-preserved
loop-place-preserved c = record {
  none =
      none_step (seen_kind c.args.kind) c.args.exits.now c.loop-place.place
      c.index-exits-place.result (omega arith) c.index-exits-place.is
      (sym c.is_same.ensures ∙ c.if-is_same.false) c.loop-place.invariant.none;
  one =
      one_step (seen_kind c.args.kind) c.args.exits.now c.loop-place.place
      c.index-exits-place.result (omega arith) c.index-exits-place.is
      (sym c.is_same.ensures ∙ c.if-is_same.false) c.loop-place.invariant.one;
}
