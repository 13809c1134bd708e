use Rattle.std.proofs.Common.{◌≤◌, take}
use Rattle.std.specs.Prelude.{sum_by}
use Rattle.par_code_form.specs.Placeable.{most_bytes}
use Rattle.par_place.specs.Offsets.{AreSmall}
use Rattle.par_place.proofs.Marking.{AreMarked}
use Rattle.par_place.proofs.offsets.label_offsets.Given as goal

abbrev pub invariant-loop-i : goal.invariant-loop-i
invariant-loop-i l = record {
  marked : AreMarked l.items l.indices l.i l.at l.offsets.items;
  small : AreSmall l.offsets.items;
  short : l.at ≤ sum_by most_bytes (take l.i l.items);
}
