use Rattle.std.proofs.Common.{◌≡◌, ℕ, ◌<◌, length, take}
use Rattle.std.specs.Prelude.{slice_get}
use Rattle.par_envs.specs.Numbered.{envs, AreFound}
use Rattle.par_rounds.specs.par_ways.Seen.{seen_facts, AreRowsWide}
use Rattle.par_flow.specs.Kept.{AreLong}
use Rattle.par_flow.specs.Table.{flags, AllShow, IsNamedAt}
use Rattle.par_flow.proofs.table.keep_rows.Given as goal

abbrev pub invariant-loop-place : goal.invariant-loop-place
invariant-loop-place l = record {
  found : AreFound l.numbered.entries.items;
  facts : AllShow (envs l.numbered.entries.items) l.rows.items (seen_facts (take l.place l.facts));
  statements : flags l.rows.items ≡ take l.place l.statements;
  used : (n : ℕ) → n < length (envs l.numbered.entries.items)
      → (p : ℕ) × IsNamedAt n (slice_get l.rows.items p);
  long : (n : ℕ) → AreRowsWide n l.facts → AreLong n (envs l.numbered.entries.items);
}
