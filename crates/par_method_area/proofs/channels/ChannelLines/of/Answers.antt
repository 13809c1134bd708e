use Rattle.par_method_area.proofs.Lining.{lined}
use Rattle.par_method_area.proofs.channels.ChannelLines.of.Goals as goal

pub invariant_of-result : goal.invariant_of-result
invariant_of-result c =
    record {
      short = c.in_ok-channels.ensures.short;
      places =
          lined c.in_ok-channels.channels.items c.as_slice.result.now c.in_ok-firsts.firsts
          c.in_ok-firsts.ensures c.as_slice.ensures.value;
    }
