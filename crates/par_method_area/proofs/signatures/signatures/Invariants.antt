use Rattle.std.proofs.Common.{◌≡◌, map, take}
use Rattle.par_step_laws.specs.par_link.Placed.{pool_texts}
use Rattle.par_method_area.specs.Signatures.{told, said_by}
use Rattle.par_method_area.proofs.signatures.signatures.Given as goal

abbrev pub invariant-loop-constant : goal.invariant-loop-constant
invariant-loop-constant l =
    map told l.all ≡ map (said_by l.numbers) (pool_texts (take l.constant-index l.entries))
