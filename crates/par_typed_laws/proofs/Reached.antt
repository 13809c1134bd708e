-- Statements in the bodies of a source are reached, breaks stand in loops, and nothing comes to the
-- end of a body that has a result.
use Rattle.std.proofs.Common.{◌≡◌, ℕ, ◌+◌, Bool, true, false, not, ◌||◌, List, [], ◌∷◌, ◌++◌}
use Rattle.std.proofs.Common.{length, Option, Some, None, refl, sym, ap, subst, ◌∙◌, append_assoc}
use Rattle.std.proofs.Common.{map}
use Rattle.std.specs.Prelude.{flat_map, slice_get}
use Rattle.std.specs.List.{AllByRecursion}
use Rattle.par_program_laws.specs.par_tree.Plain.{Sta, Block, If, While, Try, Return, Break}
use Rattle.par_program_laws.specs.par_tree.Plain.{Continue}
use Rattle.par_program_laws.specs.par_tree.Plain.{Throw, Open}
use Rattle.par_program_laws.specs.par_tree.Plain.{Close}
use Rattle.par_program_laws.specs.par_tree.Plain.{Declare, Assign, Do, When, Braces, In, MayBraces}
use Rattle.par_program_laws.specs.par_tree.Plain.{NoBraces}
use Rattle.par_program_laws.specs.par_tree.Plain.{Else, NoElse, Otherwise, Stas, End, Then, Catches}
use Rattle.par_program_laws.specs.par_tree.Plain.{NoCatch, Catch}
use Rattle.par_program_laws.specs.par_tree.Plain.{On}
use Rattle.par_program_laws.specs.par_tree.Plain as plain
use Rattle.par_program_laws.specs.par_tree.Plain.{Class, Method, Declaration, Source}
use Rattle.par_program_laws.specs.par_typed.declared.ty.Ty.{Ty}
use Rattle.par_program_laws.specs.par_typed.declared.ty.Ty.TheVariants as ty
use Rattle.par_program_laws.specs.par_typed.declared.table.Table.{Table}
use Rattle.par_refusals.specs.First.{when, broken}
use Rattle.par_program_laws.specs.par_typed.Plain.{TExp}
use Rattle.par_program_laws.specs.par_completes.Completes.{completes, braces_complete}
use Rattle.par_program_laws.specs.par_completes.Typed as ends
use Rattle.par_source_laws.specs.par_names.Declarations.{classes, builtins, classes_in}
use Rattle.par_source_laws.specs.par_names.Program.{view_behind, name_faults}
use Rattle.par_type_rules.specs.par_scope.Names.{names_of}
use Rattle.par_type_rules.specs.par_scope.Locals.{no_locals}
use Rattle.par_type_rules.specs.par_scope.Home.{Home, class_named, result_written}
use Rattle.par_type_rules.specs.Fits.{is_void}
use Rattle.par_type_rules.specs.Stmts as types
use Rattle.par_type_rules.specs.Stmts.{throw_fault, test_faults, declares}
use Rattle.par_type_rules.specs.Stmts.{stmt_faults}
use Rattle.par_type_rules.specs.Stmts.{braces_faults}
use Rattle.par_type_rules.specs.Stmts.{may_braces_faults, else_faults}
use Rattle.par_type_rules.specs.Stmts.{stmts_faults}
use Rattle.par_type_rules.specs.Stmts.{catches_faults}
use Rattle.par_type_rules.specs.Stmts.{handler_faults}
use Rattle.par_type_rules.specs.Methods as rules
use Rattle.par_type_rules.specs.Methods.{home_of, result_fault, params_faults}
use Rattle.par_type_rules.specs.Methods.{throws_faults, end_fault}
use Rattle.par_type_rules.specs.Methods.{fields_faults, method_faults}
use Rattle.par_type_rules.specs.Methods.{methods_faults}
use Rattle.par_type_rules.specs.Methods.{class_faults}
use Rattle.par_type_rules.specs.Program.{declaration_faults}
use Rattle.par_type_rules.specs.Program.{declarations_faults}
use Rattle.par_type_rules.specs.Program.{type_faults}
use Rattle.par_type_rules.specs.Frames.{Frame, further}
use Rattle.par_type_rules.specs.TypedStmts.{Written, Target, Nowhere, ToLocal, ToStatic, ToField}
use Rattle.par_type_rules.specs.TypedStmts.{target}
use Rattle.par_type_rules.specs.TypedStmts.{assignment, behind}
use Rattle.par_type_rules.specs.par_scope.Own.{braces_locals, handler_locals}
use Rattle.par_type_rules.specs.TypedStmts.{typed_sta, typed_braces, typed_may_braces, typed_else}
use Rattle.par_type_rules.specs.TypedStmts.{typed_stas, typed_catches}
use Rattle.par_type_rules.specs.TypedBodies.{no_frame, with_params, typed_body, typed_methods}
use Rattle.par_type_rules.specs.TypedBodies.{typed_class}
use Rattle.par_type_rules.specs.TypedBodies.{typed_declaration, typed_declarations}
use Rattle.par_faults.specs.par_resolved.Numbers.{result_of}
use Rattle.par_faults.specs.par_resolved.Resolved.{Resolved, resolved, class_info, method_info}
use Rattle.par_faults.specs.par_resolved.Resolved.{table_of}
use Rattle.par_faults.specs.Faults.{all_faults}
use Rattle.par_source_laws.specs.Order.{Ascend, IsInOrder}
use Rattle.par_program_laws.specs.par_typed.Members.{method_at}
use Rattle.par_typed_laws.specs.Control.{StaReached, ElseReached, AllReached, CatchesReached}
use Rattle.par_program_laws.specs.Types.{IsEnded}
use Rattle.par_typed_laws.specs.Control.{IsControlled}
use Rattle.par_typed_laws.specs.Typed.{written_in, bodies_of}
use Rattle.par_typed_laws.proofs.Lists.{none_left, none_right, of_both}
use Rattle.par_typed_laws.proofs.Places.{Differ}
use Rattle.par_typed_laws.proofs.Programs.{class_number, class_stands, method_names_differ}
use Rattle.par_typed_laws.proofs.Programs.{method_number, method_stands}
use Rattle.par_typed_laws.proofs.Unbroken.{is_kept, IsKept, IsKeptClass, IsKeptMethod, kept}
use Rattle.par_typed_laws.proofs.Unbroken.{methods_kept, head_kept, names_kept}
use Rattle.par_typed_laws.proofs.NamedStatements.{scope-behind, scope-params}
use Rattle.par_typed_laws.proofs.Completing.{sta_completes, braces_completes}
use Rattle.par_typed_laws.proofs.Fitted.{head_types, result_by}

-- ---- statements

module _ (w : Written) (home : Home) where
  assignment_reached : (looped : Bool) (x : Target) (e : TExp) (at p : ℕ)
      → StaReached looped (assignment x e at p)
  unfolding StaReached
  assignment_reached looped Nowhere e at p = tt
  assignment_reached looped (ToLocal x) e at p = tt
  assignment_reached looped (ToStatic f) e at p = tt
  assignment_reached looped (ToField o f) e at p = tt

  mutual
    unfolding StaReached typed_sta stmt_faults

    sta_reached : (frame : Frame) (p : ℕ) (looped : Bool) (s : Sta)
        → stmt_faults home looped frame.scope s ≡ []
        → StaReached looped (typed_sta w home frame p s)
    sta_reached frame p looped (Block b at) none = braces_reached frame p looped b none
    sta_reached frame p looped (If e b o at) none =
        let test = test_faults home frame.scope e in
        let body = braces_faults home looped frame.scope b in
        let other = else_faults home looped frame.scope o in (
          braces_reached frame _ looped b
              (none_right test body (none_left (test ++ body) other none)),
          else_reached (further frame (braces_locals b)) _ looped o
              (none_right (test ++ body) other none),
        )
    sta_reached frame p looped (While e b at) none =
        braces_reached frame _ true b
        (none_right (test_faults home frame.scope e) (braces_faults home true frame.scope b) none)
    sta_reached frame p looped (Try b cs at) none =
        let body = braces_faults home looped frame.scope b in
        let catches = catches_faults home looped frame.scope cs in (
          braces_reached frame _ looped b (none_left body catches none),
          catches_reached (further frame (braces_locals b)) _ looped cs
              (none_right body catches none),
        )
    sta_reached frame p looped (Return e at) none = tt
    sta_reached frame p looped (Break at) none = is_kept looped _ none
    sta_reached frame p looped (Continue at) none = is_kept looped _ none
    sta_reached frame p looped (Throw id at) none = tt
    sta_reached frame p looped (Open lock at) none = tt
    sta_reached frame p looped (Close lock at) none = tt
    sta_reached frame p looped (Declare local at) none = tt
    sta_reached frame p looped (Assign e value at) none =
        assignment_reached looped (target home frame (p + 1) e) _ at p
    sta_reached frame p looped (Do call at) none = tt
    sta_reached frame p looped (When lock b o at) none =
        let body = braces_faults home looped frame.scope b in
        let other = may_braces_faults home looped frame.scope o in (
          braces_reached frame _ looped b (none_left body other none),
          may_braces_reached (further frame (braces_locals b)) _ looped o
              (none_right body other none),
        )

    pub braces_reached : (frame : Frame) (p : ℕ) (looped : Bool) (b : Braces)
        → braces_faults home looped frame.scope b ≡ []
        → StaReached looped (typed_braces w home frame p b)
    braces_reached frame p looped (In ss at) none =
        stas_reached frame (p + 1) looped true true ss refl none

    may_braces_reached : (frame : Frame) (p : ℕ) (looped : Bool) (b : MayBraces)
        → may_braces_faults home looped frame.scope b ≡ []
        → ElseReached looped (typed_may_braces w home frame p b)
    may_braces_reached frame p looped NoBraces none = tt
    may_braces_reached frame p looped (plain.Some b) none = braces_reached frame p looped b none

    else_reached : (frame : Frame) (p : ℕ) (looped : Bool) (o : Else)
        → else_faults home looped frame.scope o ≡ []
        → ElseReached looped (typed_else w home frame p o)
    else_reached frame p looped NoElse none = tt
    else_reached frame p looped (Otherwise s) none = sta_reached frame p looped s none

    stas_reached : (frame : Frame) (p : ℕ) (looped reached comes : Bool) (ss : Stas)
        → comes ≡ reached → stmts_faults home looped frame.scope reached ss ≡ []
        → AllReached looped comes (typed_stas w home frame p ss)
    stas_reached frame p looped reached comes End same none = tt
    stas_reached frame p looped reached comes (Then s ss) same none =
        let late = when (not reached) (broken 204 (types.stmt_place s)) in
        let one = stmt_faults home looped frame.scope s in
        let more = stmts_faults home looped (declares home s frame.scope) (completes s) ss in
        let front = none_left (late ++ one) more none in (
          same ∙ is_kept reached _ (none_left late one front),
          sta_reached frame p looped s (none_right late one front),
          stas_reached (behind w home s frame) _ looped (completes s)
              (ends.completes (typed_sta w home frame p s)) ss (sta_completes w home frame p s)
              (ap (λ scope. stmts_faults home looped scope (completes s) ss)
              (scope-behind w home s frame) ∙ none_right (late ++ one) more none),
        )

    catches_reached : (frame : Frame) (p : ℕ) (looped : Bool) (cs : Catches)
        → catches_faults home looped frame.scope cs ≡ []
        → CatchesReached looped (typed_catches w home frame p cs)
    catches_reached frame p looped NoCatch none = tt
    catches_reached frame p looped (Catch (On id name b) cs) none =
        let one = handler_faults home looped frame.scope (On id name b) in
        let more = catches_faults home looped frame.scope cs in (
          braces_reached frame p looped b
              (none_right (throw_fault home id) (braces_faults home looped frame.scope b)
              (none_left one more none)),
          catches_reached (further frame (handler_locals (On id name b))) _ looped cs
              (none_right one more none),
        )

-- ---- the end of a body

not_both : (b : Bool) → (false || not b) ≡ true → b ≡ false
not_both true is = absurd (cc is)
not_both false is = refl

is_ended : (gives : Ty) (comes : Bool) → (is_void (Some gives) || not comes) ≡ true
    → IsEnded gives comes
is_ended ty.Int comes is = not_both comes is
is_ended ty.Boolean comes is = not_both comes is
is_ended (ty.Class k) comes is = not_both comes is
is_ended ty.Null comes is = not_both comes is
is_ended ty.Void comes is = tt

-- ---- whole sources

module _ (source : Source) (ordered : IsInOrder source) (none : all_faults source ≡ []) where
  abbrev t : Table
  t = table_of source

  abbrev r : Resolved
  r = resolved source

  abbrev w : Written
  w = written_in source

  abbrev names : name_faults source ≡ []
  names = names_kept source none

  module _ (class n : ℕ) (c : Class) (m : Method)
      (stands : slice_get t.classes class ≡ Some (class_info r class n c))
      (keeps : IsKeptMethod source c m) (types : method_faults t (names_of t) class m ≡ []) where
    abbrev result : Option Ty
    result = result_written (names_of t) m.result

    abbrev home : Home
    home = home_of t (names_of t) class result

    abbrev frame : Frame
    frame = with_params home (no_frame m.is_static) m.params

    method_reached : StaReached false (typed_body w home m).body
    method_reached =
        let body = braces_faults home false (rules.with_params home no_locals m.params) m.body in
        braces_reached w home frame 0 false m.body
        (ap (λ scope. braces_faults home false scope m.body)
        (scope-params home (no_frame m.is_static) m.params)
        ∙ none_right _ body (none_left _ (end_fault home m) types))

    method_ended : IsEnded (result_of r.classes m.result)
        (ends.completes (typed_body w home m).body)
    method_ended =
        let gives = result_of r.classes m.result in
        let past = keeps.0 in
        let heads = head_types (view_behind source past) m (head_kept source past c m keeps.1) in
        let is : result ≡ Some gives =
        result_by source ordered none class n c m stands past m.result heads.result in
        let same = braces_completes w home frame 0 m.body in
        let head = result_fault home m.result ++ params_faults home m.params
        ++ throws_faults home m.throws ++ braces_faults home false
        (rules.with_params home no_locals m.params) m.body in
        let right = is_kept (is_void result || not (braces_complete m.body)) _
        (none_right head (end_fault home m) types) in
        is_ended gives (ends.completes (typed_body w home m).body)
        (ap (λ b. is_void (Some gives) || not b) same
        ∙ ap (λ o. is_void o || not (braces_complete m.body)) (sym is) ∙ right)

  methods_controlled : (class n : ℕ) (c : Class) (before ms : List Method)
      → slice_get t.classes class ≡ Some (class_info r class n c)
      → c.methods ≡ before ++ ms → Differ (map (λ k. k.id.name) c.methods)
      → AllByRecursion (IsKeptMethod source c) ms → methods_faults t (names_of t) class ms ≡ []
      → AllByRecursion (IsControlled t) (typed_methods w t (names_of t) class ms)
  unfolding typed_methods methods_faults
  methods_controlled class n c before [] stands is apart_names keeps types = tt
  methods_controlled class n c before (m ∷ ms) stands is apart_names keeps types =
      let one = method_faults t (names_of t) class m in
      let more = methods_faults t (names_of t) class ms in
      let right = none_left one more types in
      let number =
      method_number source ordered names class n c before ms m stands is apart_names in (
        (
          method_info r class m,
          record {
            method =
                ap (method_at t class) number
                ∙ method_stands source ordered names class n c before ms m stands is;
            reached = method_reached class n c m stands keeps.0 right;
            ended = method_ended class n c m stands keeps.0 right;
          },
        ),
        methods_controlled class n c (before ++ m ∷ []) ms stands
            (is ∙ sym (append_assoc before (m ∷ []) ms)) apart_names keeps.1
            (none_right one more types),
      )

  class_controlled : (before rest : List Class) (c : Class) → classes source ≡ before ++ c ∷ rest
      → IsKeptClass source c → Ascend 0 (map (λ m. m.id.at) c.methods)
      → class_faults t (names_of t) (class_named (names_of t) c.id.name) c ≡ []
      → AllByRecursion (IsControlled t) (typed_class w t (names_of t) (class_named (names_of t)
      c.id.name) c)
  unfolding typed_class class_faults
  class_controlled before rest c is keeps up types =
      let number = class_number source ordered names before rest c is in
      let stands = class_stands source ordered names before rest c is in
      let numbered : class_faults t (names_of t) (Some (length before)) c ≡ [] =
      ap (λ o. class_faults t (names_of t) o c) (sym number) ∙ types in
      subst (λ o. AllByRecursion (IsControlled t) (typed_class w t (names_of t) o c)) (sym number)
      (methods_controlled (length before) stands.0 c [] c.methods stands.1 refl
      (method_names_differ source ordered names c keeps up) (methods_kept source c keeps)
      (none_right (fields_faults (home_of t (names_of t) (length before) None) c.fields)
      (methods_faults t (names_of t) (length before) c.methods) numbered))

  declarations_controlled : (before : List Class) (ds : List Declaration)
      → classes source ≡ before ++ flat_map classes_in ds
      → AllByRecursion (IsKept source) ds
      → AllByRecursion (λ c. Ascend 0 (map (λ m. m.id.at) c.methods)) (flat_map classes_in ds)
      → declarations_faults t (names_of t) ds ≡ []
      → AllByRecursion (IsControlled t) (typed_declarations w t (names_of t) ds)
  unfolding typed_declarations typed_declaration declarations_faults declaration_faults
  declarations_controlled before [] is keeps up types = tt
  declarations_controlled before (plain.Actors ids ∷ ds) is keeps up types =
      declarations_controlled before ds is keeps.1 up types
  declarations_controlled before (plain.Lock lock ∷ ds) is keeps up types =
      declarations_controlled before ds is keeps.1 up types
  declarations_controlled before (plain.Policy policy ∷ ds) is keeps up types =
      declarations_controlled before ds is keeps.1 up types
  declarations_controlled before (plain.Declared c ∷ ds) is keeps up types =
      let one = class_faults t (names_of t) (class_named (names_of t) c.id.name) c in
      let more = declarations_faults t (names_of t) ds in
      of_both (IsControlled t) _ _
      (class_controlled before (flat_map classes_in ds) c is keeps.0 up.0
      (none_left one more types))
      (declarations_controlled (before ++ c ∷ []) ds
      (is ∙ sym (append_assoc before (c ∷ []) (flat_map classes_in ds))) keeps.1 up.1
      (none_right one more types))

  pub bodies_are_controlled : type_faults t source ≡ []
      → AllByRecursion (IsControlled t) (bodies_of source)
  bodies_are_controlled types =
      declarations_controlled builtins source refl (kept source names) ordered.methods types
