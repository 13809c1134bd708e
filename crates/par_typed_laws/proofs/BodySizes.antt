-- Typed statements have at most as many nodes as those of the source.
use Rattle.std.proofs.Common.{◌≡◌, ℕ, ◌+◌, ◌≤◌, Bool, true, false, not, List, [], ◌++◌, Option}
use Rattle.std.proofs.Common.{Some, None, ap, ◌∙◌, arith, cond}
use Rattle.par_program_laws.specs.par_tree.Plain.{Exp, Int, True, False, Null, This, New, Name}
use Rattle.par_program_laws.specs.par_tree.Plain.{Field}
use Rattle.par_program_laws.specs.par_tree.Plain.{Call, Neg}
use Rattle.par_program_laws.specs.par_tree.Plain.{Not, Binary}
use Rattle.par_program_laws.specs.par_tree.Plain.{MayExp, Absent, Present, Method}
use Rattle.par_program_laws.specs.par_tree.Plain.{Sta, Block, If, While, Try, Return, Break}
use Rattle.par_program_laws.specs.par_tree.Plain.{Continue}
use Rattle.par_program_laws.specs.par_tree.Plain.{Throw, Open}
use Rattle.par_program_laws.specs.par_tree.Plain.{Close}
use Rattle.par_program_laws.specs.par_tree.Plain.{Declare, Assign, Do, When, Braces, In, MayBraces}
use Rattle.par_program_laws.specs.par_tree.Plain.{NoBraces}
use Rattle.par_program_laws.specs.par_tree.Plain.{Else, NoElse, Otherwise, Stas, End, Then, Catches}
use Rattle.par_program_laws.specs.par_tree.Plain.{NoCatch, Catch}
use Rattle.par_program_laws.specs.par_tree.Plain.{On}
use Rattle.par_program_laws.specs.par_tree.Plain as plain
use Rattle.par_program_laws.specs.par_tree.Nodes as source
use Rattle.par_program_laws.specs.par_typed.declared.table.Table.{Table}
use Rattle.par_refusals.specs.declared.refusal.Refusal.{Refusal}
use Rattle.par_refusals.specs.First.{when, broken}
use Rattle.par_program_laws.specs.par_typed.Plain.{TExp}
use Rattle.par_program_laws.specs.par_typed.Nodes.{nodes, stmt_nodes}
use Rattle.par_type_rules.specs.par_scope.declared.members.Place.{Place}
use Rattle.par_type_rules.specs.par_scope.declared.meaning.Receiver as meaning
use Rattle.par_type_rules.specs.par_scope.declared.meaning.Receiver.TheVariants as receiver
use Rattle.par_type_rules.specs.par_scope.Names.{names_of}
use Rattle.par_type_rules.specs.par_scope.Locals.{Scope, no_locals}
use Rattle.par_type_rules.specs.par_scope.Home.{Home, result_written}
use Rattle.par_type_rules.specs.par_scope.Members.{field_at, field_is_static, any_value}
use Rattle.par_type_rules.specs.par_scope.Meaning.{selected, type_of, receiver_of}
use Rattle.par_program_laws.specs.par_completes.Completes.{completes}
use Rattle.par_type_rules.specs.Fits.{is_void}
use Rattle.par_type_rules.specs.Exprs.{expr_faults, misfit, value_faults}
use Rattle.par_type_rules.specs.Stmts as types
use Rattle.par_type_rules.specs.Stmts.{throw_fault, test_faults, slot_of}
use Rattle.par_type_rules.specs.Stmts.{target_slot}
use Rattle.par_type_rules.specs.Stmts.{result_faults}
use Rattle.par_type_rules.specs.Stmts.{declares, stmt_faults, braces_faults}
use Rattle.par_type_rules.specs.Stmts.{may_braces_faults}
use Rattle.par_type_rules.specs.Stmts.{else_faults, stmts_faults}
use Rattle.par_type_rules.specs.Stmts.{catches_faults}
use Rattle.par_type_rules.specs.Stmts.{handler_faults}
use Rattle.par_type_rules.specs.Methods as types_methods
use Rattle.par_type_rules.specs.Methods.{home_of, end_fault, method_faults}
use Rattle.par_type_rules.specs.Frames.{Frame, Var, var_named, further}
use Rattle.par_type_rules.specs.TypedExprs.{own_this, typed_exp, typed_may}
use Rattle.par_type_rules.specs.TypedStmts.{Written, Target, Nowhere, ToLocal, ToStatic, ToField}
use Rattle.par_type_rules.specs.TypedStmts.{target}
use Rattle.par_type_rules.specs.TypedStmts.{target_nodes, assignment}
use Rattle.par_type_rules.specs.TypedStmts.{own_target, name_target, selected_target, behind}
use Rattle.par_type_rules.specs.par_scope.Own.{braces_locals, handler_locals}
use Rattle.par_type_rules.specs.TypedStmts.{typed_sta, typed_braces, typed_may_braces, typed_else}
use Rattle.par_type_rules.specs.TypedStmts.{typed_stas, typed_catches, typed_handler}
use Rattle.par_type_rules.specs.TypedBodies.{no_frame, with_params, typed_method}
use Rattle.par_typed_laws.specs.Sizes.{is_this, size, may_size, stmt_size, else_size, all_size}
use Rattle.par_typed_laws.specs.Sizes.{catches_size}
use Rattle.par_typed_laws.proofs.Lists.{none_left, none_right}
use Rattle.par_typed_laws.proofs.NamedStatements.{scope-behind, scope-params}
use Rattle.par_typed_laws.proofs.Sizes.{not_more, exp_size}

module _ (w : Written) (home : Home) where
  -- what is assigned to counts at most as much as the target of the source
  abbrev target_size : Target → ℕ
  target_size Nowhere = 0
  target_size (ToLocal x) = 0
  target_size (ToStatic f) = 0
  target_size (ToField e f) = cond (is_this e) 0 (size e)

  own_target_size : (b : Bool) (at p n : ℕ) (f : Place)
      → target_size (own_target b (own_this home at p) f) ≤ n
  own_target_size true at p n f = omega arith
  own_target_size false at p n f = omega arith

  name_target_size : (at p n : ℕ) (x : Option Var) (f : Option Place)
      → target_size (name_target home x f (own_this home at p)) ≤ n
  name_target_size at p n (Some x) f = omega arith
  name_target_size at p n None None = omega arith
  name_target_size at p n None (Some f) =
      own_target_size (field_is_static (field_at home.table f)) at p n f

  selected_size : (r : meaning.Receiver) (f : Option Place) (e : TExp) (n : ℕ) → size e ≤ n
      → target_size (selected_target r f e) ≤ n
  selected_size r None e n h = omega arith
  selected_size receiver.Own (Some f) e n h = omega arith
  selected_size (receiver.Class c) (Some f) e n h = omega arith
  selected_size (receiver.Object t) (Some f) e n h = not_more (is_this e) (size e) n h

  target_small : (frame : Frame) (p : ℕ) (e : Exp) → expr_faults home frame.scope e ≡ []
      → target_size (target home frame p e) ≤ source.nodes e
  unfolding target expr_faults source.nodes
  target_small frame p (Int n at) none = omega arith
  target_small frame p (True at) none = omega arith
  target_small frame p (False at) none = omega arith
  target_small frame p (Null at) none = omega arith
  target_small frame p (This at) none = omega arith
  target_small frame p (New c at) none = omega arith
  target_small frame p (Name x at) none =
      name_target_size at p 1 (var_named frame x) (selected home receiver.Own x)
  target_small frame p (Field e f at) none =
      let one = selected_size (receiver_of home frame.scope e (type_of home frame.scope e))
      (selected home (receiver_of home frame.scope e (type_of home frame.scope e)) f.name)
      (typed_exp home frame p e) (source.nodes e)
      (exp_size home frame p e
      (none_left (expr_faults home frame.scope e) (misfit home frame.scope any_value e)
      (none_left (expr_faults home frame.scope e ++ misfit home frame.scope any_value e) _ none)))
      in
      omega (arith, one)
  target_small frame p (Call o x es at) none = omega arith
  target_small frame p (Neg e at) none = omega arith
  target_small frame p (Not e at) none = omega arith
  target_small frame p (Binary op a b at) none = omega arith

  assignment_size : (x : Target) (v : TExp) (at p n k : ℕ) → target_size x ≤ n → size v ≤ k
      → stmt_size (assignment x v at p) ≤ 1 + n + k
  unfolding stmt_size
  assignment_size Nowhere v at p n k to value = omega (arith, value)
  assignment_size (ToLocal x) v at p n k to value = omega (arith, value)
  assignment_size (ToStatic f) v at p n k to value = omega (arith, value)
  assignment_size (ToField e f) v at p n k to value = omega (arith, to, value)

  value_kept : (scope : Scope) (e : Exp) (rest : List Refusal)
      → expr_faults home scope e ++ rest ≡ [] → expr_faults home scope e ≡ []
  value_kept scope e rest none = none_left (expr_faults home scope e) rest none

  returned : (frame : Frame) (p : ℕ) (o : MayExp) (at : ℕ)
      → result_faults home frame.scope o at ≡ []
      → may_size (typed_may home frame p o) ≤ source.may_nodes o
  unfolding result_faults typed_may source.nodes
  returned frame p Absent at none = omega arith
  returned frame p (Present e) at none =
      exp_size home frame p e (value_kept frame.scope e _
      (none_left (value_faults home frame.scope (types.result_slot (is_void home.result)
      home.result) e) _ none))

  mutual
    unfolding stmt_size source.stmt_nodes typed_sta stmt_faults

    sta_size : (frame : Frame) (p : ℕ) (looped : Bool) (s : Sta)
        → stmt_faults home looped frame.scope s ≡ []
        → stmt_size (typed_sta w home frame p s) ≤ source.stmt_nodes s
    sta_size frame p looped (Block b at) none = braces_size frame p looped b none
    sta_size frame p looped (If e b o at) none =
        let front = none_left (test_faults home frame.scope e ++ braces_faults home looped
        frame.scope b) (else_faults home looped frame.scope o) none in
        let q = p + 1 + nodes (typed_exp home frame (p + 1) e) in
        let test = exp_size home frame (p + 1) e (value_kept frame.scope e _
        (none_left (test_faults home frame.scope e) (braces_faults home looped frame.scope b)
        front)) in
        let body = braces_size frame q looped b (none_right (test_faults home frame.scope e)
        (braces_faults home looped frame.scope b) front) in
        let other = else_sizes (further frame (braces_locals b))
        (q + stmt_nodes (typed_braces w home frame q b)) looped o
        (none_right (test_faults home frame.scope e ++ braces_faults home looped frame.scope b)
        (else_faults home looped frame.scope o) none) in
        omega (arith, test, body, other)
    sta_size frame p looped (While e b at) none =
        let q = p + 1 + nodes (typed_exp home frame (p + 1) e) in
        let test = exp_size home frame (p + 1) e (value_kept frame.scope e _
        (none_left (test_faults home frame.scope e) (braces_faults home true frame.scope b)
        none)) in
        let body = braces_size frame q true b (none_right (test_faults home frame.scope e)
        (braces_faults home true frame.scope b) none) in
        omega (arith, test, body)
    sta_size frame p looped (Try b cs at) none =
        let body = braces_size frame (p + 1) looped b
        (none_left (braces_faults home looped frame.scope b) (catches_faults home looped
        frame.scope cs) none) in
        let rest = catches_sizes (further frame (braces_locals b))
        (p + 1 + stmt_nodes (typed_braces w home frame (p + 1) b)) looped cs
        (none_right (braces_faults home looped frame.scope b) (catches_faults home looped
        frame.scope cs) none) in
        omega (arith, body, rest)
    sta_size frame p looped (Return e at) none = let one = returned frame (p + 1) e at none in omega
        (arith, one)
    sta_size frame p looped (Break at) none = omega arith
    sta_size frame p looped (Continue at) none = omega arith
    sta_size frame p looped (Throw id at) none = omega arith
    sta_size frame p looped (Open lock at) none = omega arith
    sta_size frame p looped (Close lock at) none = omega arith
    sta_size frame p looped (Declare local at) none =
        let one = exp_size home frame (p + 1) local.value
        (value_kept frame.scope local.value _ (none_right (types.type_fault home local.ty)
        (value_faults home frame.scope (slot_of home local) local.value) none)) in
        omega (arith, one)
    sta_size frame p looped (Assign e value at) none =
        assignment_size (target home frame (p + 1) e)
        (typed_exp home frame (p + 1 + target_nodes (target home frame (p + 1) e)) value) at p
        (source.nodes e) (source.nodes value)
        (target_small frame (p + 1) e (none_left (expr_faults home frame.scope e)
        (value_faults home frame.scope (target_slot home frame.scope e) value) none))
        (exp_size home frame (p + 1 + target_nodes (target home frame (p + 1) e)) value
        (value_kept frame.scope value _ (none_right (expr_faults home frame.scope e)
        (value_faults home frame.scope (target_slot home frame.scope e) value) none)))
    sta_size frame p looped (Do call at) none = let one = exp_size home frame (p + 1) call none in
        omega (arith, one)
    sta_size frame p looped (When lock b o at) none =
        let body = braces_size frame (p + 1) looped b
        (none_left (braces_faults home looped frame.scope b) (may_braces_faults home looped
        frame.scope o) none) in
        let other = may_braces_size (further frame (braces_locals b))
        (p + 1 + stmt_nodes (typed_braces w home frame (p + 1) b)) looped o
        (none_right (braces_faults home looped frame.scope b) (may_braces_faults home looped
        frame.scope o) none) in
        omega (arith, body, other)

    pub braces_size : (frame : Frame) (p : ℕ) (looped : Bool) (b : Braces)
        → braces_faults home looped frame.scope b ≡ []
        → stmt_size (typed_braces w home frame p b) ≤ source.braces_nodes b
    braces_size frame p looped (In ss at) none = let rest = stas_size frame (p + 1) looped true ss
        none in omega (arith, rest)

    may_braces_size : (frame : Frame) (p : ℕ) (looped : Bool) (b : MayBraces)
        → may_braces_faults home looped frame.scope b ≡ []
        → else_size (typed_may_braces w home frame p b) ≤ source.may_braces_nodes b
    may_braces_size frame p looped NoBraces none = omega arith
    may_braces_size frame p looped (plain.Some b) none = braces_size frame p looped b none

    else_sizes : (frame : Frame) (p : ℕ) (looped : Bool) (o : Else)
        → else_faults home looped frame.scope o ≡ []
        → else_size (typed_else w home frame p o) ≤ source.else_nodes o
    else_sizes frame p looped NoElse none = omega arith
    else_sizes frame p looped (Otherwise s) none = sta_size frame p looped s none

    stas_size : (frame : Frame) (p : ℕ) (looped reached : Bool) (ss : Stas)
        → stmts_faults home looped frame.scope reached ss ≡ []
        → all_size (typed_stas w home frame p ss) ≤ source.all_nodes ss
    stas_size frame p looped reached End none = omega arith
    stas_size frame p looped reached (Then s ss) none =
        let front = none_left (when (not reached) (broken 204 (types.stmt_place s)) ++ stmt_faults
        home looped frame.scope s) (stmts_faults home looped (declares home s frame.scope)
        (completes s) ss) none in
        let behind_none = none_right (when (not reached) (broken 204 (types.stmt_place s))
        ++ stmt_faults home looped frame.scope s) (stmts_faults home looped
        (declares home s frame.scope) (completes s) ss) none in
        let one = sta_size frame p looped s
        (none_right (when (not reached) (broken 204 (types.stmt_place s)))
        (stmt_faults home looped frame.scope s) front) in
        let rest = stas_size (behind w home s frame) (p + stmt_nodes (typed_sta w home frame p s))
        looped (completes s) ss
        (ap (λ scope. stmts_faults home looped scope (completes s) ss) (scope-behind w home s frame)
        ∙ behind_none) in
        omega (arith, one, rest)

    catches_sizes : (frame : Frame) (p : ℕ) (looped : Bool) (cs : Catches)
        → catches_faults home looped frame.scope cs ≡ []
        → catches_size (typed_catches w home frame p cs) ≤ source.catch_nodes cs
    catches_sizes frame p looped NoCatch none = omega arith
    catches_sizes frame p looped (Catch (On id name b) cs) none =
        let here = none_left (handler_faults home looped frame.scope (On id name b))
        (catches_faults home looped frame.scope cs) none in
        let one = braces_size frame p looped b (none_right (throw_fault home id)
        (braces_faults home looped frame.scope b) here) in
        let rest = catches_sizes (further frame (handler_locals (On id name b)))
        (p + stmt_nodes (typed_handler w home frame p (On id name b))) looped cs
        (none_right (handler_faults home looped frame.scope (On id name b))
        (catches_faults home looped frame.scope cs) none) in
        omega (arith, one, rest)

-- of a whole method
pub method_size : (w : Written) (table : Table) (class : ℕ) (m : Method)
    → method_faults table (names_of table) class m ≡ []
    → stmt_size (typed_method w table (names_of table) class m).body ≤ source.method_nodes m
method_size w table class m none =
    let home = home_of table (names_of table) class (result_written (names_of table) m.result) in
    let body = braces_faults home false (types_methods.with_params home no_locals m.params) m.body
    in
    let kept : body ≡ [] = none_right _ body (none_left _ (end_fault home m) none) in
    braces_size w home (with_params home (no_frame m.is_static) m.params) 0 false m.body
    (ap (λ scope. braces_faults home false scope m.body) (scope-params home (no_frame m.is_static)
    m.params) ∙ kept)
