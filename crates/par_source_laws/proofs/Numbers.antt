-- The numbers in the tree of a source are those of its tokens.
use Rattle.par_names.specs.par_tree.Values.{paragon}
use Rattle.par_names.proofs.par_span_laws.Steps.{holds}
use Rattle.par_source_laws.specs.Laws.{TreesHaveNumbers}
use Rattle.par_source_laws.proofs.Tokens.{HasNumber, tokens_have_numbers}
use Rattle.par_source_laws.proofs.Numbered.{ValueHas, built_has}

pub trees_have_numbers : TreesHaveNumbers
trees_have_numbers bytes tokens tree cut comes =
    let kept = tokens_have_numbers bytes tokens cut in
    (holds paragon ValueHas HasNumber (λ x h. h) built_has comes.1 tt kept).0
