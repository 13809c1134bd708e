-- The typed program of a source.
use Rattle.std.specs.Prelude.{◌≡◌, [], List}
use Rattle.par_tree.specs.Plain.{Source}
use Rattle.par_typed.specs.declared.program.Typed.{Typed}
use Rattle.par_typed.specs.declared.table.Table.{Table}
use Rattle.par_refusals.specs.declared.refusal.Refusal.{Refusal}
use Rattle.par_refusals.specs.First.{IsFirst}
use Rattle.par_typed.specs.Shown.{bodies}
use Rattle.par_type_rules.specs.Program.{type_faults}
use Rattle.par_annotation.specs.par_type_rules.TypedStmts.{Written}
use Rattle.par_annotation.specs.par_type_rules.TypedBodies.{typed_program}
use Rattle.par_resolved.specs.Numbers.{lock_number}
use Rattle.par_resolved.specs.Resolved.{resolved, expression_number}
use Rattle.par_typing.specs.declared.error.TypeError.{TypeError}
use Rattle.par_typing.specs.declared.error.TypeError.TheVariants.{Broken, Memory}

-- the numbers of written locks and policies in the table of a source
abbrev pub written : Source → Written
written source = record {
  lock = lock_number (resolved source).known.numbers;
  policy = λ e. expression_number (resolved source) e;
}

-- No rule on types is broken, and the bodies are those of the source over this table.
pub record IsTyped (table : Table) (source : Source) (typed : Typed) : Type 0 where
  pub right : type_faults table source ≡ []
  pub table_is : typed.table ≡ table
  pub bodies_are : bodies typed.bodies ≡ typed_program (written source) table source

-- why there is no typed program: the first of these broken rules, or want of memory
abbrev pub IsRefused : List Refusal → TypeError → Type 0
IsRefused faults (Broken f) = IsFirst faults f
IsRefused faults Memory = Unit {0}
