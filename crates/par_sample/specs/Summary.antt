-- The line that says what a sample has in it.
use Rattle.std.specs.Prelude.{◌++◌, codes}
use Rattle.std.specs.Fmt.{decimal}
use Rattle.par_sample.specs.Source.{Text}
use Rattle.par_sample.specs.declared.summary.Summary.{Summary}

abbrev pub summary_line : Summary → Text
summary_line s =
    codes "sample "
    ++ (decimal s.number ++ (codes " classes "
    ++ (decimal s.classes ++ (codes " methods "
    ++ (decimal s.methods ++ (codes " nodes "
    ++ (decimal s.nodes ++ (codes " accepted "
    ++ (decimal s.files ++ codes "\n")))))))))
