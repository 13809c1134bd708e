use Rattle.std.proofs.Common.{map, take, drop}
use Rattle.par_compile.specs.Own.{method_in, methods_entries, methods_classes}
use Rattle.par_framing.specs.par_frames.Room.{HasRoom}
use Rattle.par_compile.specs.Drafts.{Puts}
use Rattle.par_compile.proofs.methods.put_methods.Given as goal

abbrev pub invariant-loop-method : goal.invariant-loop-method
invariant-loop-method l = record {
  puts :
      Puts l.frames (map (method_in l.plain) (take l.method-index l.methods)) l.initial.draft
      l.draft;
  room : HasRoom l.draft.pool (methods_entries l.frames l.plain (drop l.method-index l.methods))
      (methods_classes l.frames l.plain (drop l.method-index l.methods));
}
