use Rattle.std.proofs.Common.{Bool, ◌+◌, ◌*◌, ◌≤◌, length, map, take}
use Rattle.par_compile.specs.Own.{channel_in}
use Rattle.par_compile.specs.Drafts.{Puts}
use Rattle.par_compile.proofs.channels.put_channels.Given as goal

abbrev pub invariant-loop-name : goal.invariant-loop-name
invariant-loop-name l = record {
  puts : (frames : Bool)
      → Puts frames (map (channel_in l.is_input) (take l.name-index l.names)) l.initial.draft
      l.draft;
  few : length l.draft.pool ≤ length l.initial.draft.pool + 2 * l.name-index;
}
