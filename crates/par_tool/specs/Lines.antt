-- The bytes of lines.
use Rattle.std.specs.Prelude.{ℕ, List, map, string_bytes, Vec}
use Rattle.std.specs.declared.alloc.Global.{Global}
use Rattle.par_tool.specs.declared.answer.Line.{Line}
use Rattle.par_tool.specs.declared.answer.Line.TheVariants.{Fixed, Made}

abbrev pub bytes_of : Line → List ℕ
bytes_of (Fixed bytes) = bytes.now
bytes_of (Made text) = string_bytes text

-- those of lines that are made one after another
abbrev pub texts_of : List (Vec ℕ Global) → List (List ℕ)
texts_of lines = map (λ line. line.items) lines
