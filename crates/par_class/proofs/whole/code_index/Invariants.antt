use Rattle.std.proofs.Common.{◌≡◌, false, Some}
use Rattle.std.specs.Prelude.{codes}
use Rattle.std.specs.List.{AllWithin}
use Rattle.par_class.specs.Spelling.{is_named}
use Rattle.par_class.proofs.whole.code_index.Given as goal

abbrev pub invariant-loop-place : goal.invariant-loop-place
invariant-loop-place l =
    AllWithin (λ constant. is_named (codes "Code") (Some constant) ≡ false) l.entries 0 l.place
