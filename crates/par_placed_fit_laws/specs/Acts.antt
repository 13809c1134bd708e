-- What items of labelled code take and leave among linked class files.
use Rattle.std.specs.Prelude.{pos, ◌==◌, ◌||◌, nat_lt, if◌then◌else◌, List, Option}
use Rattle.par_class.specs.declared.file.ClassFile.{ClassFile}
use Rattle.par_values.specs.declared.kind.Kind.{Kind}
use Rattle.par_values.specs.declared.link.Link.TheVariants as link
use Rattle.par_values.specs.Operations.{Operation, Push, Leave, operation, of_class}
use Rattle.par_link.specs.entry.Named.{Named}
use Rattle.par_link.specs.entry.Named.TheVariants as named
use Rattle.par_link.specs.Named.{method_declared}
use Rattle.par_kinds.specs.par_step_laws.Links.{lock_link}
use Rattle.par_code_form.specs.declared.item.Item.{Item}
use Rattle.par_code_form.specs.declared.item.Item.TheVariants.{Label, Op, Const, Jump, Member}
use Rattle.par_code_form.specs.declared.item.Item.TheVariants.{ClassOp, LockOp}
use Rattle.par_code_form.specs.Opcodes.{INVOKEVIRTUAL, INVOKESPECIAL}
use Rattle.par_evaluation_laws.specs.par_match_laws.Labelled.{branch, on_field, on_method}
use Rattle.par_evaluation_laws.specs.par_match_laws.Naming.{member, class_of_name, field_of_name}
use Rattle.par_evaluation_laws.specs.par_match_laws.Naming.{method_of_name}
use Rattle.par_kinds.specs.Acts.{Act}
use Rattle.par_kinds.specs.Linked.{acted}

module _ (files : List ClassFile) where
  -- what an item does, with distance 0 where it branches; a label does nothing
  abbrev pub operation_of : Item → Operation
  operation_of (Label l) = Leave
  operation_of (Op i) = operation (λ n. link.Other) i
  operation_of (Const v) = Push v
  operation_of (Jump opcode l) = branch opcode (pos 0)
  operation_of (Member opcode class name descriptor) =
      if nat_lt opcode INVOKEVIRTUAL
      then on_field opcode (field_of_name files class name descriptor)
      else on_method opcode (method_of_name files class name descriptor)
  operation_of (ClassOp opcode class) = of_class (class_of_name files class)
  operation_of (LockOp opcode lock) = on_field opcode (lock_link files lock)

  -- what an item names, if it calls on an object
  abbrev pub called_by : Item → Named
  called_by (Member opcode class name descriptor) =
      if opcode == INVOKEVIRTUAL || opcode == INVOKESPECIAL
      then method_declared files (member class name descriptor)
      else named.Nothing
  called_by _ = named.Nothing

  -- in a method that gives this
  abbrev pub item_act : Option Kind → Item → Act
  item_act gives item = acted files gives (called_by item) (operation_of item)
