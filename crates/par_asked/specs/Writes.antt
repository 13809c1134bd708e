-- What is asked where a value goes out or into a field, and where a lock is closed.
use Rattle.std.specs.Prelude.{ℕ, List, [], ◌∷◌, slice_get}
use Rattle.par_bits.specs.Sets.{adding, none}
use Rattle.par_typed.specs.declared.table.Table.{Table}
use Rattle.par_typed.specs.Plain.{TExp, mark}
use Rattle.par_nodes.specs.par_program_laws.Declares.{Method}
use Rattle.par_check_laws.specs.Asked.{Released, Worth, Among, Spot, Check}
use Rattle.par_check_laws.specs.Checks.{ask, behind, entry_of, learns, lock_written, locked}
use Rattle.par_check_laws.specs.Checks.{written_past}

-- behind a value and the object before it
abbrev pub field_spot : TExp → TExp → ℕ → Spot
field_spot o e p = record {
  point = p;
  parts = (mark e).point ∷ (mark o).point ∷ [];
  from = written_past o;
}

module _ (table : Table) (own : Method) where
  abbrev pub closed : ℕ → ℕ → ℕ → List Check
  closed lock at p =
      ask 302 at (entry_of p) (Among (adding none lock) own.closes)
      ∷ locked table own (lock_written (slice_get table.locks lock)) at p

  abbrev pub output : ℕ → TExp → ℕ → ℕ → List Check
  output policy e at p =
      ask 403 at (behind p e) (Released (mark e).point policy)
      ∷ learns table own at (behind p e) policy

  abbrev pub static_written : ℕ → TExp → ℕ → ℕ → List Check
  static_written policy e at p =
      ask 401 at (behind p e) (Released (mark e).point policy)
      ∷ learns table own at (behind p e) policy

  abbrev pub field_written : TExp → ℕ → TExp → ℕ → ℕ → List Check
  field_written o policy e at p =
      ask 402 at (field_spot o e p) (Released (mark e).point policy)
      ∷ ask 408 at (field_spot o e p) (Worth (mark o).point policy)
      ∷ learns table own at (field_spot o e p) policy
