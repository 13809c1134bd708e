use Rattle.std.proofs.Common.{◌≡◌, ℕ, drop}
use Rattle.par_program_laws.specs.Kinds.{absorbed}
use Rattle.par_nodes.specs.Seen.{seen_absorber}
use Rattle.par_pass_laws.specs.Exits.{all, leaving}
use Rattle.par_ways.specs.Seen.{seen_exits, AreWide}
use Rattle.par_ways.proofs.exits.gather.Given as goal

abbrev pub invariant-loop-exit : goal.invariant-loop-exit
invariant-loop-exit l = record {
  rest : all (leaving (absorbed (seen_absorber l.absorber)) (seen_exits (drop l.exit-index l.from)))
      (seen_exits l.exits.items)
      ≡ all (leaving (absorbed (seen_absorber l.absorber)) (seen_exits l.from))
      (seen_exits l.initial.exits.items);
  wide : (n : ℕ) → AreWide n l.initial.exits.items → AreWide n l.from → AreWide n l.exits.items;
}
