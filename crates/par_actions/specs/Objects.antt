-- Objects as a heap shows them.
use Rattle.std.specs.Prelude.{◌≡◌, ℕ, List, map}
use Rattle.par_values.specs.declared.link.FieldLink.{FieldLink}
use Rattle.par_values.specs.declared.link.ClassLink.{ClassLink}
use Rattle.par_values.specs.Areas.{Name, Areas, objects_of, first_value}
use Rattle.par_values.specs.Operations.{PutField, Create}
use Rattle.par_values.specs.Reasons.{Spot}
use Rattle.par_stack.specs.Frames.{Frame, running}
use Rattle.par_heap.specs.Heap as heap
use Rattle.par_actions.specs.declared.done.Done.{Done}
use Rattle.par_actions.specs.declared.births.Class.{Class}
use Rattle.par_actions.specs.Done.{areas_in, ComesTo}

-- the objects of a program are those of a heap
abbrev pub AreShown : heap.Objects → Areas → Type 0
AreShown shown program = (class : ℕ) → objects_of class program ≡ heap.objects_of shown class

-- A write to a field came to this, and the heap shows the objects after it.
pub record Writes (done : Done) (classes : List Name) (spot : Spot) (f : FieldLink)
    (program : Areas) (old new : List Frame) (held : heap.Objects) : Type 0 where
  pub after : Areas
  pub shown : AreShown held after
  pub comes :
      ComesTo done classes spot (PutField f) (areas_in program (running old))
      (areas_in after (running new))

-- The numbers are those of a class.
pub record IsClass (c : ClassLink) (class : Class) : Type 0 where
  pub number : c.number ≡ class.number
  pub first : map first_value c.fields ≡ class.first.now
  pub is_exception : c.is_exception ≡ class.is_exception
  pub is_made : c.is_made ≡ class.is_made

-- A birth came to this, and the heap shows the objects after it.
pub record Creates (done : Done) (classes : List Name) (spot : Spot) (c : ClassLink)
    (program : Areas) (old new : List Frame) (held : heap.Objects) : Type 0 where
  pub after : Areas
  pub shown : AreShown held after
  pub comes :
      ComesTo done classes spot (Create c) (areas_in program (running old))
      (areas_in after (running new))
