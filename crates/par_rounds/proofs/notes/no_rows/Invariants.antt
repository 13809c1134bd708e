use Rattle.std.proofs.Common.{◌≡◌, ℕ}
use Rattle.par_pass_laws.specs.Written.{blanks}
use Rattle.par_ways.specs.Seen.{seen_facts, AreRowsWide}
use Rattle.par_rounds.proofs.notes.no_rows.Given as goal

abbrev pub invariant-loop : goal.invariant-loop
invariant-loop l = record {
  rows : seen_facts l.rows.items ≡ blanks l.counter;
  wide : (n : ℕ) → AreRowsWide n l.rows.items;
}
