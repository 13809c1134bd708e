-- The code of each method of a plain program.
use Rattle.std.specs.Prelude.{ℕ, Option, Some, None, slice_get}
use Rattle.par_code_form.specs.declared.labelled.Labelled.{Labelled}
use Rattle.par_code_form.specs.Method.{labelled}
use Rattle.par_code_form.specs.Named.{words_of}
use Rattle.par_erase.specs.declared.program.Plain.{Plain}
use Rattle.par_erase.specs.declared.program.PlainClass.{PlainClass}
use Rattle.par_erase.specs.declared.program.PlainMethod.{PlainMethod}
use Rattle.par_erase.specs.Shown.{does, method_info, table_of, inputs_of}

abbrev pub code_in : Plain → Option PlainMethod → Option Labelled
code_in p None = None
code_in p (Some m) =
    Some (labelled (words_of (table_of p)) (method_info m) (does (inputs_of p) m.body))

-- of a method of this class
abbrev pub code_of_class : Plain → Option PlainClass → ℕ → Option Labelled
code_of_class p None i = None
code_of_class p (Some k) i = code_in p (slice_get k.methods i)

-- by the numbers of the class and the method; none where there is none
abbrev pub code_at : Plain → (class method : ℕ) → Option Labelled
code_at p c i = code_of_class p (slice_get p.classes c) i
