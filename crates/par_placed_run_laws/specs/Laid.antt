-- Class files whose code is labelled code at offsets.
use Rattle.std.specs.Prelude.{◌≡◌, ℕ, true, List, [], ◌∷◌, Some, slice_get}
use Rattle.std.specs.List.{All}
use Rattle.par_class.specs.declared.file.CodeAttr.{CodeAttr}
use Rattle.par_class.specs.declared.file.ClassFile.{ClassFile}
use Rattle.par_values.specs.declared.link.ClassLink.{ClassLink}
use Rattle.par_values.specs.declared.link.Link.TheVariants as link
use Rattle.par_values.specs.declared.inputs.Inputs.{Inputs}
use Rattle.par_values.specs.Areas.{first_locals}
use Rattle.par_step_laws.specs.par_secrecy.Shows.{IsFine}
use Rattle.par_step_laws.specs.Methods.{class_pool, method_code, method_name}
use Rattle.par_step_laws.specs.State.{State, entered, start, main_place}
use Rattle.par_step_laws.specs.Run as files_run
use Rattle.par_match_laws.specs.Engine.{Program, run}
use Rattle.par_place.specs.par_code_form.declared.labelled.Labelled.{Labelled}
use Rattle.par_place.specs.par_code_form.declared.labelled.Handler.{Handler}
use Rattle.par_match_laws.specs.Labelled.{of_labelled}
use Rattle.par_place.specs.par_code_form.Placed.{IsPlaced}
use Rattle.par_place.specs.par_code_form.Placeable.{FitsItem}
use Rattle.par_match_laws.specs.Naming.{class_of_name, naming_of, to_run}

-- code without its attributes
abbrev pub bare : CodeAttr → CodeAttr
bare attr = record attr { attributes = [] }

module _ (files : List ClassFile) where
  -- the handler names a class of which objects are made
  abbrev pub IsOfMade : Handler → Type 0
  IsOfMade h =
      (c : ClassLink) × (class_of_name files h.class ≡ link.Class c) × (c.is_made ≡ true)

  -- A method has this code, whatever the attributes of the code; one without code has no items.
  pub record IsLaid (class method : ℕ) (code : Labelled) : Type 0 where
    pub placed : IsPlaced (class_pool files class) code (bare (method_code files class method))
    pub items : All FitsItem code.items
    pub handlers : All IsOfMade code.handlers

  module _ (code : ℕ → ℕ → Labelled) where
    abbrev pub program : Program
    program = of_labelled (naming_of files) (to_run files code) (method_name files)

    -- before the first instruction of a method that takes nothing
    abbrev pub begun : (class method : ℕ) → Inputs → State
    begun class method inputs =
        let many = (code class method).max_locals in
        let first = record (entered class method (first_locals many [])) {
          at = program.entry class method;
        } in
        record (start files class inputs) { frames = first ∷ [] }

-- The files run from `main` of a class as the labelled code, where that is never bad code.
abbrev pub PlacedCodeRuns : Type 0
PlacedCodeRuns =
    (files : List ClassFile) (code : ℕ → ℕ → Labelled)
    (laid : (class method : ℕ) → IsLaid files class method (code class method))
    (class method : ℕ) (main : main_place (slice_get files class) ≡ Some method)
    (inputs : Inputs) (m : ℕ)
    → IsFine (run (program files code) m (begun files code class method inputs)).ending
    → files_run.run files m (start files class inputs)
    ≡ run (program files code) m (begun files code class method inputs)
