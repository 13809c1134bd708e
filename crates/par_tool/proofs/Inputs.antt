-- What the lines of an input file say.
use Rattle.std.proofs.Common.{◌≡◌, ℕ, ◌-◌, ◌<◌, length, Some, None, sym, ◌∙◌, arith}
use Rattle.std.proofs.lemmas.Bool.{false≢true}
use Rattle.par_inputs.specs.Lines.{lines_of}
use Rattle.par_inputs.specs.Rules.{entries, IsRight}
use Rattle.par_tool.specs.Outside.{Text}
use Rattle.par_tool.specs.Given.{Misfits, IsBad, broken, misfit}

-- no line is wrong where all are right and each has its channel
pub right_or_bad : (misfits : Misfits) (text : Text) (number : ℕ) → IsRight text
    → misfits (entries (lines_of text)) ≡ None → IsBad misfits text number → ⊥
right_or_bad misfits text number right fit (broken h) =
    let inside : number - 1 < length (lines_of text) =
    let c = h.counted in let s = h.stands in omega arith in
    false≢true (sym (right.right (number - 1) inside) ∙ h.broken)
right_or_bad misfits text number right fit (misfit h) =
    let e : None ≡ Some h.place = sym fit ∙ h.first in cc
