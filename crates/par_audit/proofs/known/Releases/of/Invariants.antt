use Rattle.std.proofs.Common.{◌≡◌, length}
use Rattle.std.specs.List.{All}
use Rattle.par_audit.proofs.Rows.{IsUnknown}
use Rattle.par_audit.proofs.known.Releases.of.Given as goal

abbrev pub invariant-loop : goal.invariant-loop
invariant-loop l = (length l.rows.items ≡ l.counter) × All IsUnknown l.rows.items
