-- What is said of the policies that are inferred for sources.
use Rattle.std.specs.Prelude.{◌≡◌, ℕ, ◌≤◌, List, length, Option}
use Rattle.par_io.specs.Causes.{FolderCounts, Files}
use Rattle.par_lexer.specs.declared.cut.TheConstants.{LONGEST_SOURCE}
use Rattle.par_typed.specs.declared.program.Typed.{Typed}
use Rattle.par_refusals.specs.declared.refusal.Refusal.{Refusal}
use Rattle.par_typed.specs.Shown.{bodies}
use Rattle.par_program_laws.specs.Lattice.{numbers}
use Rattle.par_program_laws.specs.Facts.{Facts}
use Rattle.par_program_laws.specs.Inferred.{inferred}
use Rattle.par_reached.specs.Reached.{AreLeastSets, set_at}
use Rattle.par_check_laws.specs.Right.{AreAllRight}
use Rattle.par_infer.specs.Bounds.{bounds}
use Rattle.par_observer.specs.Trees.{BreaksTyping}
use Rattle.par_observer.specs.Judgements.{BreaksAs, IsTypedAs}
use Rattle.par_infer.specs.declared.filling.FilledField.{FilledField}
use Rattle.par_infer.specs.declared.error.InferError.{InferError}
use Rattle.par_infer.specs.declared.error.InferError.TheVariants as inferred_as
use Rattle.par_infer.specs.Filled.{filled_in}
use Rattle.par_infer.specs.Inferred.{AreLeastAccepted, IsBrokenFirst}
use Rattle.par_filling_lines.specs.par_told.Told.{told}
use Rattle.par_filling_lines.specs.Texts.{filling_lines}
use Rattle.par_tool.specs.declared.answer.Answer.{Answer}
use Rattle.par_tool.specs.declared.answer.Answer.TheVariants.{Refused}
use Rattle.par_tool.specs.declared.reads.Failure.{Failure}
use Rattle.par_tool.specs.declared.reads.Failure.TheVariants.{Answered, Memory}
use Rattle.par_tool.specs.Outside.{Text, NotRead}
use Rattle.par_tool.specs.Sources.{IsRefusedFor, ReadSource, refused_at}

-- These are the lines of the inferred fields of a source. Their sets are the least ones that meet
-- the bounds over closed and least facts of the bodies. For each field its line tells the policies
-- of its set that are below no other, and the joins of what is told are a filling that is accepted
-- and below each that is, field by field.
pub record IsFilledAs (source : Text) (lines : List Text) : Type 0 where
  pub typed : Typed
  pub facts : List (Facts numbers)
  pub sets : List ℕ
  pub fields : List FilledField
  pub is_typed : IsTypedAs source typed
  pub right : AreAllRight typed.table (bodies typed.bodies) facts
  pub exact : AreLeastSets (inferred typed.table) (bounds typed.table (bodies typed.bodies) facts)
      (set_at sets)
  pub filled : fields ≡ filled_in sets 0 typed.table.classes
  pub least : AreLeastAccepted typed.table (bodies typed.bodies)
      (λ i. told typed.table.policies (set_at sets i))
  pub lines_are : lines ≡ filling_lines typed.table fields

-- Why a source has no such lines: a rule up to types is broken, or no filling is accepted.
pub data IsUnfilledBy (source : Text) (f : Refusal) : Type 0 where
  is_untyped : BreaksAs BreaksTyping source f → IsUnfilledBy source f
  is_unfilled : (typed : Typed) → IsTypedAs source typed → IsBrokenFirst typed f
      → IsUnfilledBy source f

-- what is said of such a source
abbrev pub IsUnfilled : Text → Answer → Type 0
IsUnfilled source (Refused rule line column limit count) =
    IsRefusedFor (IsUnfilledBy source) source rule line column limit count
IsUnfilled source _ = ⊥

-- a rule that no policies keep stands in the source, or behind its last byte
abbrev pub BreaksWithin : Text → InferError → Type 0
BreaksWithin source (inferred_as.Broken f) = f.at ≤ length source
BreaksWithin source inferred_as.Memory = Unit {0}

-- what is answered where no policies are found
abbrev pub unfilled : Text → InferError → Failure
unfilled source (inferred_as.Broken f) = Answered (refused_at source f)
unfilled source inferred_as.Memory = Memory

-- the source in a file was read, and these are its lines
abbrev pub IsFillingOf : Option Files → (file : Text) → List Text → Type 0
IsFillingOf files file lines = ReadSource files file (λ source. IsFilledAs source lines)

-- Why no policies are inferred for a source in a file.
module _ (files : Option Files) (before after : FolderCounts) (file : Text) where
  abbrev pub Unfilled : Answer → Type 0
  Unfilled (Refused rule line column limit count) =
      ReadSource files file
      (λ source. IsUnfilled source (Refused rule line column limit count))
  Unfilled answer = NotRead files before after LONGEST_SOURCE file answer
