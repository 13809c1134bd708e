use Rattle.std.proofs.Common.{ℕ, take}
use Rattle.par_envs.specs.Numbered.{envs, AreFound, Extends}
use Rattle.par_rounds.specs.par_ways.Seen.{seen_exits, AreWide}
use Rattle.par_flow.specs.Kept.{AddsOnly, AreLong, AreOnce, ShowThrows, Throws}
use Rattle.par_flow.proofs.keep.keep_throws.Given as goal

abbrev pub invariant-loop-exit : goal.invariant-loop-exit
invariant-loop-exit l = record {
  found : AreFound l.numbered.entries.items;
  more : Extends (envs l.initial.numbered.entries.items) (envs l.numbered.entries.items);
  throws : ShowThrows (envs l.numbered.entries.items) l.throws
      (seen_exits (take l.exit-index l.exits));
  once : AreOnce l.throws;
  adds : AddsOnly (envs l.initial.numbered.entries.items) (envs l.numbered.entries.items)
      (λ n. Throws n l.throws);
  long : (n : ℕ) → AreWide n l.exits → AreLong n (envs l.initial.numbered.entries.items)
      → AreLong n (envs l.numbered.entries.items);
}
