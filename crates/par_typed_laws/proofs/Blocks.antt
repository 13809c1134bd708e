-- The body of each catch in a typed body is a block.
use Rattle.std.proofs.Common.{◌≡◌, ℕ, ◌+◌, true, List, [], ◌∷◌, Option, Some, None, refl}
use Rattle.std.specs.List.{AllByRecursion}
use Rattle.par_program_laws.specs.par_tree.Plain.{Sta, Block, If, While, Try, Return, Break}
use Rattle.par_program_laws.specs.par_tree.Plain.{Continue}
use Rattle.par_program_laws.specs.par_tree.Plain.{Throw, Open}
use Rattle.par_program_laws.specs.par_tree.Plain.{Close}
use Rattle.par_program_laws.specs.par_tree.Plain.{Declare, Assign, Do, When, Braces, In, MayBraces}
use Rattle.par_program_laws.specs.par_tree.Plain.{NoBraces}
use Rattle.par_program_laws.specs.par_tree.Plain.{Else, NoElse, Otherwise, Stas, End, Then, Catches}
use Rattle.par_program_laws.specs.par_tree.Plain.{NoCatch, Catch}
use Rattle.par_program_laws.specs.par_tree.Plain.{Handler, On, Method, Class, Declaration, Source}
use Rattle.par_program_laws.specs.par_tree.Plain as plain
use Rattle.par_program_laws.specs.par_typed.declared.table.Table.{Table}
use Rattle.par_program_laws.specs.par_typed.Nodes.{nodes, stmt_nodes}
use Rattle.par_program_laws.specs.par_typed.Plain.{TExp, Body}
use Rattle.par_type_rules.specs.par_scope.Names.{Names, names_of}
use Rattle.par_type_rules.specs.par_scope.Home.{Home, class_named}
use Rattle.par_type_rules.specs.Frames.{Frame, further}
use Rattle.par_type_rules.specs.TypedExprs.{typed_exp}
use Rattle.par_type_rules.specs.TypedStmts.{Written, Target, Nowhere, ToLocal, ToStatic, ToField}
use Rattle.par_type_rules.specs.TypedStmts.{target}
use Rattle.par_type_rules.specs.TypedStmts.{target_nodes, assignment, behind}
use Rattle.par_type_rules.specs.par_scope.Own.{braces_locals, handler_locals}
use Rattle.par_type_rules.specs.TypedStmts.{typed_sta, typed_braces, typed_may_braces, typed_else}
use Rattle.par_type_rules.specs.TypedStmts.{typed_stas, typed_catches, typed_handler}
use Rattle.par_type_rules.specs.TypedBodies.{no_frame, with_params, typed_methods}
use Rattle.par_type_rules.specs.TypedBodies.{typed_class, typed_declaration, typed_declarations}
use Rattle.par_type_rules.specs.Methods.{home_of}
use Rattle.par_type_rules.specs.par_scope.Home.{result_written}
use Rattle.par_faults.specs.par_resolved.Resolved.{table_of}
use Rattle.par_typed_laws.specs.Blocks.{is_block, HasBlocks, ElseHasBlocks, AllHaveBlocks}
use Rattle.par_typed_laws.specs.Blocks.{CatchesHaveBlocks}
use Rattle.par_typed_laws.specs.WellTyped.{CatchesInBlocks}
use Rattle.par_typed_laws.specs.Typed.{written_in, bodies_of}
use Rattle.par_typed_laws.proofs.Lists.{of_both}

assigned : (x : Target) (value : TExp) (at p : ℕ) → HasBlocks (assignment x value at p)
unfolding HasBlocks
assigned Nowhere value at p = tt
assigned (ToLocal x) value at p = tt
assigned (ToStatic f) value at p = tt
assigned (ToField e f) value at p = tt

module _ (w : Written) (home : Home) where
  handler_is_block : (frame : Frame) (p : ℕ) (c : Handler)
      → is_block (typed_handler w home frame p c) ≡ true
  unfolding typed_sta
  handler_is_block frame p (On class name (In ss at)) = refl

  mutual
    unfolding typed_sta HasBlocks

    sta_blocks : (frame : Frame) (p : ℕ) (s : Sta) → HasBlocks (typed_sta w home frame p s)
    sta_blocks frame p (Block b at) = braces_blocks frame p b
    sta_blocks frame p (If e b o at) =
        let q = p + 1 + nodes (typed_exp home frame (p + 1) e) in (
          braces_blocks frame q b,
          else_blocks (further frame (braces_locals b))
              (q + stmt_nodes (typed_braces w home frame q b)) o,
        )
    sta_blocks frame p (While e b at) =
        braces_blocks frame (p + 1 + nodes (typed_exp home frame (p + 1) e)) b
    sta_blocks frame p (Try b cs at) = (
      braces_blocks frame (p + 1) b,
      catches_blocks (further frame (braces_locals b))
          (p + 1 + stmt_nodes (typed_braces w home frame (p + 1) b)) cs,
    )
    sta_blocks frame p (Return e at) = tt
    sta_blocks frame p (Break at) = tt
    sta_blocks frame p (Continue at) = tt
    sta_blocks frame p (Throw class at) = tt
    sta_blocks frame p (Open lock at) = tt
    sta_blocks frame p (Close lock at) = tt
    sta_blocks frame p (Declare local at) = tt
    sta_blocks frame p (Assign e value at) =
        let to = target home frame (p + 1) e in
        assigned to (typed_exp home frame (p + 1 + target_nodes to) value) at p
    sta_blocks frame p (Do call at) = tt
    sta_blocks frame p (When lock b o at) = (
      braces_blocks frame (p + 1) b,
      may_braces_blocks (further frame (braces_locals b))
          (p + 1 + stmt_nodes (typed_braces w home frame (p + 1) b)) o,
    )

    pub braces_blocks : (frame : Frame) (p : ℕ) (b : Braces)
        → HasBlocks (typed_braces w home frame p b)
    braces_blocks frame p (In ss at) = stas_blocks frame (p + 1) ss

    may_braces_blocks : (frame : Frame) (p : ℕ) (b : MayBraces)
        → ElseHasBlocks (typed_may_braces w home frame p b)
    may_braces_blocks frame p NoBraces = tt
    may_braces_blocks frame p (plain.Some b) = braces_blocks frame p b

    else_blocks : (frame : Frame) (p : ℕ) (o : Else) → ElseHasBlocks (typed_else w home frame p o)
    else_blocks frame p NoElse = tt
    else_blocks frame p (Otherwise s) = sta_blocks frame p s

    stas_blocks : (frame : Frame) (p : ℕ) (ss : Stas)
        → AllHaveBlocks (typed_stas w home frame p ss)
    stas_blocks frame p End = tt
    stas_blocks frame p (Then s ss) = (
      sta_blocks frame p s,
      stas_blocks (behind w home s frame) (p + stmt_nodes (typed_sta w home frame p s)) ss,
    )

    catches_blocks : (frame : Frame) (p : ℕ) (cs : Catches)
        → CatchesHaveBlocks (typed_catches w home frame p cs)
    catches_blocks frame p NoCatch = tt
    catches_blocks frame p (Catch c cs) = (
      handler_is_block frame p c,
      handler_blocks frame p c,
      catches_blocks (further frame (handler_locals c))
          (p + stmt_nodes (typed_handler w home frame p c)) cs,
    )

    handler_blocks : (frame : Frame) (p : ℕ) (c : Handler)
        → HasBlocks (typed_handler w home frame p c)
    handler_blocks frame p (On class name b) = braces_blocks frame p b

module _ (w : Written) (t : Table) (names : Names) where
  abbrev Have : List Body → Type 0
  Have = AllByRecursion CatchesInBlocks

  methods_blocks : (class : ℕ) (ms : List Method) → Have (typed_methods w t names class ms)
  unfolding typed_methods
  methods_blocks class [] = tt
  methods_blocks class (m ∷ ms) =
      let home = home_of t names class (result_written names m.result) in (
        braces_blocks w home (with_params home (no_frame m.is_static) m.params) 0 m.body,
        methods_blocks class ms,
      )

  class_blocks : (o : Option ℕ) (c : Class) → Have (typed_class w t names o c)
  unfolding typed_class
  class_blocks None c = tt
  class_blocks (Some class) c = methods_blocks class c.methods

  declarations_blocks : (ds : List Declaration) → Have (typed_declarations w t names ds)
  unfolding typed_declarations typed_declaration
  declarations_blocks [] = tt
  declarations_blocks (plain.Actors ids ∷ ds) = declarations_blocks ds
  declarations_blocks (plain.Lock lock ∷ ds) = declarations_blocks ds
  declarations_blocks (plain.Policy policy ∷ ds) = declarations_blocks ds
  declarations_blocks (plain.Declared c ∷ ds) =
      of_both CatchesInBlocks (typed_class w t names (class_named names c.id.name) c)
      (typed_declarations w t names ds) (class_blocks (class_named names c.id.name) c)
      (declarations_blocks ds)

pub bodies_have_blocks : (source : Source) → AllByRecursion CatchesInBlocks (bodies_of source)
bodies_have_blocks source =
    declarations_blocks (written_in source) (table_of source) (names_of (table_of source)) source
