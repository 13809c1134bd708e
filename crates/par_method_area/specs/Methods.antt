-- Methods as they are told once.
use Rattle.std.specs.Prelude.{◌≡◌, ℕ, Bool, false, List, Option, None, slice_index_or}
use Rattle.par_class.specs.declared.file.CodeAttr.{CodeAttr}
use Rattle.par_class.specs.declared.file.MethodFile.{MethodFile}
use Rattle.par_class.specs.declared.file.ClassFile.{ClassFile}
use Rattle.par_single.specs.declared.descriptor.Signature.{Signature}
use Rattle.par_single.specs.Members.{text_at, own_name, is_initializer}
use Rattle.par_single.specs.Described.{method_named}
use Rattle.par_single.specs.Links.{signature_said}
use Rattle.par_single.specs.Walk.{starts_at}
use Rattle.par_starts.specs.Standing.{IsStanding}
use Rattle.par_starts.specs.declared.instructions.Standing.{Standing}
use Rattle.par_step_laws.specs.Methods.{code_or_none}
use Rattle.par_method_area.specs.declared.methods.MethodRow.{MethodRow}
use Rattle.par_actions.specs.par_lines.Lines.{Channel, line_of}
use Rattle.par_method_area.specs.Signatures.{Said, signature_in}

-- it is told of each offset whether an instruction of the code starts there
abbrev pub StartAt : Option CodeAttr → List Bool → Type 0
StartAt code starts =
    (at : ℕ) → slice_index_or starts at false ≡ starts_at (code_or_none code).code at

-- it is told of each offset which instruction of the code stands there
abbrev pub StandIn : Option CodeAttr → List (Option Standing) → Type 0
StandIn code rows =
    (at : ℕ) → IsStanding (code_or_none code).code at (slice_index_or rows at None)

-- what the descriptor of a method of a file says
abbrev pub signature_of : ClassFile → MethodFile → Signature
signature_of file m = signature_said (text_at file.pool.entries m.descriptor)

-- The row is that of a method of a file, whose descriptors say this.
pub record IsMethodRow (signatures : List Said) (file : ClassFile) (place : ℕ) (m : MethodFile)
    (row : MethodRow) : Type 0 where
  pub is_initializer : row.is_initializer ≡ is_initializer (method_named file.pool.entries m)
  pub gives : row.gives ≡ (signature_in signatures m.descriptor).1
  pub starts : StartAt m.code row.starts
  pub instructions : StandIn m.code row.instructions

abbrev pub line_in : MethodRow → Option ℕ
line_in row = row.line

-- the place of the line of a channel of the name of a method
abbrev pub line_row : List Channel → ClassFile → MethodFile → Option ℕ
line_row channels file m = line_of channels (own_name file) (text_at file.pool.entries m.name)
