-- The classes of a program that fits a table have room in it.
use Rattle.std.proofs.Common.{◌≡◌, ℕ, length, arith}
use Rattle.par_tree.specs.Plain.{Source}
use Rattle.par_names.specs.Declarations.{classes}
use Rattle.par_resolved.specs.Policies.{known}
use Rattle.par_resolved.specs.Numbered.{shared_policies}
use Rattle.par_table.specs.Room.{FitsTable, HaveRoom}
use Rattle.par_table.proofs.Inferred.{numbered_count}

pub have_room : (s : Source) (first : ℕ) → FitsTable s
    → first ≡ length (shared_policies (known s) s) → HaveRoom first (classes s)
have_room s first fits is = record {
  few_classes = fits.few_classes;
  few_fields = omega (arith, fits.few_policies, numbered_count (known s) s, is);
  few_nodes = fits.few_nodes;
}
