-- The objects of a heap as a program with so many classes has them.
use Rattle.std.specs.Prelude.{◌≡◌, ℕ, zero, suc, ◌+◌, ◌≤◌, List, [], ◌∷◌, length, slice_get}
use Rattle.std.specs.List.{All}
use Rattle.par_class.specs.declared.file.ClassFile.{ClassFile}
use Rattle.par_values.specs.Areas.{Objects}
use Rattle.par_heap.specs.Heap as heap
use Rattle.par_method_area.specs.par_step_laws.Fields.{kinds_in}

unfoldable pub objects_in : ℕ → heap.Objects → Objects
objects_in zero held = []
objects_in (suc many) [] = [] ∷ objects_in many []
objects_in (suc many) (objects ∷ held) = objects ∷ objects_in many held

-- the classes of the files, and the two exceptions that every program has
abbrev pub count_classes : List ClassFile → ℕ
count_classes files = length files + 2

-- how many fields an object of a class has; one of those two has none
abbrev pub width : List ClassFile → ℕ → ℕ
width files class = length (kinds_in (slice_get files class))

-- Objects are of the classes of the files or of those two, and have the fields of their classes.
pub record AreObjects (files : List ClassFile) (held : heap.Objects) : Type 0 where
  pub none : (class : ℕ) → count_classes files ≤ class → length (heap.objects_of held class) ≡ 0
  pub wide : (class : ℕ) →
      All (λ object. length object ≡ width files class) (heap.objects_of held class)
