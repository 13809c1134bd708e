-- Which frames of labelled code can be placed.
use Rattle.std.specs.Prelude.{ℕ, ◌≤◌, ◌==◌, length, All, count_by}
use Rattle.par_code_form.specs.declared.labelled.Labelled.{Labelled}
use Rattle.par_code_form.specs.declared.labelled.LabelFrame.{LabelFrame}
use Rattle.par_code_form.specs.Placeable.{StandsOnce, Leads}

-- at a label that stands once, with an instruction behind it, and within the method's locals and
-- operands
pub record FitsFrame (code : Labelled) (f : LabelFrame) : Type 0 where
  pub once : StandsOnce code.items f.label
  pub leads : Leads code.items f.label
  pub few_locals : length f.locals ≤ code.max_locals
  pub few_operands : length f.stack ≤ code.max_stack

-- each frame fits, and no label has two
pub record AreFramesPlaceable (code : Labelled) : Type 0 where
  pub fit : All (FitsFrame code) code.frames
  pub apart : (l : ℕ) → count_by (λ f. f.label == l) code.frames ≤ 1
