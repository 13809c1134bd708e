use Rattle.std.proofs.Common.{◌≡◌, map, take}
use Rattle.par_references.specs.Placed.{pool_texts, facts_of}
use Rattle.par_references.proofs.texts.TextIndex.all_facts.Given as goal

abbrev pub invariant-loop-constant : goal.invariant-loop-constant
invariant-loop-constant l =
    l.all ≡ map (facts_of l.self.classes.now.files.now)
    (pool_texts (take l.constant-index l.entries))
