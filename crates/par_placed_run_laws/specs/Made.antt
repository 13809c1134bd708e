-- What handlers of linked class files name.
use Rattle.std.specs.Prelude.{◌≡◌, ℕ, ◌==◌, Bool, true, false, List}
use Rattle.std.specs.List.{All, list_any}
use Rattle.par_pool.specs.Entries.{IsClassAt}
use Rattle.par_class.specs.declared.file.ClassFile.{ClassFile}
use Rattle.par_values.specs.declared.link.ClassLink.{ClassLink}
use Rattle.par_values.specs.declared.link.Link.TheVariants as link
use Rattle.par_values.specs.Areas.{Name}
use Rattle.par_step_laws.specs.par_link.Linked.{AreLinked}
use Rattle.par_step_laws.specs.Methods.{class_pool, method_code}
use Rattle.par_place.specs.par_code_form.declared.labelled.Labelled.{Labelled}
use Rattle.par_place.specs.par_code_form.declared.labelled.Handler.{Handler}
use Rattle.par_place.specs.par_code_form.PoolNames.{full_name}
use Rattle.par_place.specs.par_code_form.Placed.{IsPlaced}
use Rattle.par_place.specs.par_code_form.Placeable.{FitsItem}
use Rattle.par_match_laws.specs.Naming.{class_of_name}
use Rattle.par_placed_run_laws.specs.Laid.{bare, IsLaid}

-- whether a byte is `/`, which no simple name has
abbrev pub has_slash : Name → Bool
has_slash name = list_any (λ byte. byte == 47) name

-- objects are made of the class of a name
abbrev pub IsMade : List ClassFile → Name → Type 0
IsMade files class =
    (c : ClassLink) × (class_of_name files class ≡ link.Class c) × (c.is_made ≡ true)

-- a class that a constant of linked files names, where its name in programs is a simple one
abbrev pub HandlersNameMade : Type 0
HandlersNameMade =
    (files : List ClassFile) → AreLinked files → (c index : ℕ) (class : Name)
    → IsClassAt (class_pool files c) index (full_name class) → has_slash class ≡ false
    → IsMade files class

-- the class of a handler has a simple name
abbrev pub IsSimple : Handler → Type 0
IsSimple h = has_slash h.class ≡ false

-- so placed code of linked class files is laid, where its handlers name simple classes
abbrev pub PlacedCodeIsLaid : Type 0
PlacedCodeIsLaid =
    (files : List ClassFile) → AreLinked files → (class method : ℕ) (code : Labelled)
    → IsPlaced (class_pool files class) code (bare (method_code files class method))
    → All FitsItem code.items → All IsSimple code.handlers → IsLaid files class method code
