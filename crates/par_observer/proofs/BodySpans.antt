-- The places in the typed bodies of a source are those of its tree.
use Rattle.std.proofs.Common.{ℕ, List, [], ◌∷◌, Option, Some, None}
use Rattle.std.specs.List.{AllByRecursion}
use Rattle.par_tree.specs.Plain as plain
use Rattle.par_tree.specs.Plain.{Method, Class, Declaration, Source}
use Rattle.par_typed.specs.declared.table.Table.{Table}
use Rattle.par_typed.specs.Plain.{Body}
use Rattle.par_span_laws.specs.Within.{MethodIn, ClassIn, DeclarationIn, IsWithin}
use Rattle.par_span_laws.proofs.Broken.{both}
use Rattle.par_scope.specs.Names.{Names, names_of}
use Rattle.par_scope.specs.Home.{class_named}
use Rattle.par_type_rules.specs.TypedStmts.{Written}
use Rattle.par_type_rules.specs.TypedBodies.{typed_methods, typed_class, typed_declaration}
use Rattle.par_type_rules.specs.TypedBodies.{typed_declarations, typed_program}
use Rattle.par_observer.specs.Spans.{BodyIn}
use Rattle.par_observer.proofs.StmtSpans.{typed_braces_in}

module _ (m : ℕ) (w : Written) (table : Table) (names : Names) where
  abbrev BodiesIn : List Body → Type 0
  BodiesIn bodies = AllByRecursion (BodyIn m) bodies

  methods_in : (class : ℕ) (ms : List Method) → AllByRecursion (MethodIn m) ms
      → BodiesIn (typed_methods w table names class ms)
  unfolding typed_methods
  methods_in class [] h = tt
  methods_in class (f ∷ fs) h =
      (typed_braces_in m w _ _ 0 f.body h.0.body, methods_in class fs h.1)

  class_in : (o : Option ℕ) (c : Class) → ClassIn m c → BodiesIn (typed_class w table names o c)
  unfolding typed_class
  class_in None c h = tt
  class_in (Some class) c h = methods_in class c.methods h.methods

  declaration_in : (d : Declaration) → DeclarationIn m d
      → BodiesIn (typed_declaration w table names d)
  unfolding typed_declaration
  declaration_in (plain.Actors ids) h = tt
  declaration_in (plain.Lock lock) h = tt
  declaration_in (plain.Policy policy) h = tt
  declaration_in (plain.Declared class) h =
      class_in (class_named names class.id.name) class h

  declarations_in : (ds : List Declaration) → IsWithin m ds
      → BodiesIn (typed_declarations w table names ds)
  unfolding typed_declarations
  declarations_in [] h = tt
  declarations_in (d ∷ ds) h =
      both (BodyIn m) (typed_declaration w table names d) (typed_declarations w table names ds)
      (declaration_in d h.0) (declarations_in ds h.1)

module _ (m : ℕ) (w : Written) (table : Table) where
  pub program_in : (tree : Source) → IsWithin m tree
      → AllByRecursion (BodyIn m) (typed_program w table tree)
  program_in tree h = declarations_in m w table (names_of table) tree h
