-- What is asked of the class files of a program that are loaded, and what a machine begins with.
use Rattle.std.specs.Prelude.{◌≡◌, ℕ, ◌<◌, ◌≤◌, true, false, List, [], map, length, Some, slice_get}
use Rattle.std.specs.Prelude.{codes}
use Rattle.std.specs.List.{AllByRecursion}
use Rattle.par_base.specs.Names.{IsName}
use Rattle.par_typed.specs.declared.table.ClassInfo.{ClassInfo}
use Rattle.par_typed.specs.declared.table.FieldInfo.{FieldInfo}
use Rattle.par_typed.specs.declared.table.MethodInfo.{MethodInfo}
use Rattle.par_typed.specs.declared.table.Table.{Table}
use Rattle.par_typed.specs.Plain.{Body}
use Rattle.par_program_laws.specs.Locals.{arrivals}
use Rattle.par_program_laws.specs.TableNames.{AreApart}
use Rattle.par_class.specs.declared.file.ClassFile.{ClassFile}
use Rattle.par_values.specs.declared.inputs.ChannelInput.{ChannelInput}
use Rattle.par_values.specs.Areas.{Name, Areas}
use Rattle.par_pool.specs.Entries.{IsClassAt}
use Rattle.par_single.specs.Members.{own_name}
use Rattle.par_match_laws.specs.par_link.Linked.{AreLinked}
use Rattle.par_match_laws.specs.par_link.Named.{class_named}
use Rattle.par_match_laws.specs.par_link.Rules.{is_nothing}
use Rattle.par_match_laws.specs.par_step_laws.Fields.{all_statics}
use Rattle.par_match_laws.specs.par_step_laws.State.{no_objects, whole_inputs}
use Rattle.par_code_form.specs.declared.item.Item.{Item}
use Rattle.par_code_form.specs.declared.item.Item.TheVariants.{Label, Op, Const, Jump, Member}
use Rattle.par_code_form.specs.declared.item.Item.TheVariants.{ClassOp, LockOp}
use Rattle.par_code_form.specs.Code.{body_code}
use Rattle.par_code_form.specs.Named.{class_word, words_of}
use Rattle.par_source_code_laws.specs.par_evaluation_laws.Laid.{Meth}
use Rattle.par_compile_laws.specs.DescriptorLaws.{IsValueType, HasValueTypes}
use Rattle.par_compile_laws.specs.Files.{FIRST_DECLARED, IsFileOf}
use Rattle.par_source_code_laws.specs.Methods.{meth_at}
use Rattle.par_file_run_laws.specs.Layout.{LOCKS}

-- the file is that of the class of this number
pub record IsOf (table : Table) (bodies : List Body) (c : ℕ) (file : ClassFile) : Type 0 where
  pub class : ClassInfo
  pub there : slice_get table.classes c ≡ Some class
  pub declared : FIRST_DECLARED ≤ c
  pub is : IsFileOf table bodies c class file

-- what is known of the members of a class
pub record IsKnownClass (table : Table) (class : ClassInfo) : Type 0 where
  pub named : IsName class.name
  pub bare : class.exception ≡ true
      → (class.fields ≡ []) × (class.channels ≡ []) × (class.methods ≡ [])
  pub fields : (f : ℕ) (info : FieldInfo) → slice_get class.fields f ≡ Some info
      → IsValueType table info.ty
  pub channels : AreApart (map (λ k. k.name) class.channels)
  pub methods : (i : ℕ) (m : MethodInfo) → slice_get class.methods i ≡ Some m
      → IsName m.name × HasValueTypes table m × (arrivals m ≤ length m.locals)

-- a lock that an item names is one of those that a machine has
abbrev pub NamesLock : Item → Type 0
NamesLock (Label l) = Unit {0}
NamesLock (Op i) = Unit {0}
NamesLock (Const v) = Unit {0}
NamesLock (Jump opcode l) = Unit {0}
NamesLock (Member opcode class name descriptor) = Unit {0}
NamesLock (ClassOp opcode class) = Unit {0}
NamesLock (LockOp opcode l) = l < LOCKS

-- the files of classes of a program, which link; the names of its classes differ, and the two
-- exceptions that every program has come first
pub record Known (table : Table) (bodies : List Body) (files : List ClassFile) : Type 0 where
  pub each : (n : ℕ) (file : ClassFile) → slice_get files n ≡ Some file
      → (c : ℕ) × IsOf table bodies c file
  pub linked : AreLinked files
  -- each class that one of their constants names is there
  pub closed : (n : ℕ) (file : ClassFile) → slice_get files n ≡ Some file
      → (index : ℕ) (name : Name) → IsClassAt file.pool.entries index name
      → is_nothing (class_named files name) ≡ false
  pub apart : AreApart (map (λ c. c.name) table.classes)
  pub first : (class : ClassInfo) × (slice_get table.classes 0 ≡ Some class)
      × (class.name ≡ codes "ArithmeticException") × (class.exception ≡ true)
  pub second : (class : ClassInfo) × (slice_get table.classes 1 ≡ Some class)
      × (class.name ≡ codes "NullPointerException") × (class.exception ≡ true)
  pub classes : (c : ℕ) (class : ClassInfo) → slice_get table.classes c ≡ Some class
      → IsKnownClass table class
  pub locks : (c i : ℕ) (me : Meth) → meth_at table bodies c i ≡ Some me
      → AllByRecursion NamesLock (body_code (words_of table) me.body)
  -- the class with which the program begins comes first
  pub main : (file : ClassFile) × (slice_get files 0 ≡ Some file)
      × (own_name file ≡ class_word table table.main)

-- what a machine that runs these files begins with
abbrev pub first_areas : List ClassFile → List ChannelInput → Areas
first_areas files lines = record {
  locals = [];
  operands = [];
  statics = all_statics files;
  objects = no_objects files;
  inputs = whole_inputs lines;
}
