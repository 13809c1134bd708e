use Rattle.std.proofs.Common.{◌≡◌, ◌++◌, take}
use Rattle.par_index.specs.Texts.{texts}
use Rattle.par_references.specs.Placed.{texts_in}
use Rattle.par_references.proofs.texts.put_texts.Given as goal

abbrev pub invariant-loop-constant : goal.invariant-loop-constant
invariant-loop-constant l =
    texts l.all.items ≡ texts l.fn.all.items ++ texts_in (take l.constant-index l.entries)
