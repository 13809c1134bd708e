-- Where no rule on types is broken, numbers are ints where they stand.
use Rattle.std.proofs.Common.{◌≡◌, ℕ, ◌+◌, Bool, true, false, not, nat_lt, [], ◌++◌}
use Rattle.std.proofs.Common.{refl, arith}
use Rattle.std.specs.Option.{is_some}
use Rattle.par_tree.specs.Plain as plain
use Rattle.par_tree.specs.Plain.{Exp, Exps, MayExp, Sta, Stas, Braces, In, MayBraces, Else, Catches}
use Rattle.par_tree.specs.Plain.{Catch, NoCatch, Handler, On, Local}
use Rattle.par_typed.specs.declared.ty.Ty.TheVariants as ty
use Rattle.par_refusals.specs.declared.refusal.Refusal.{Refusal}
use Rattle.par_refusals.specs.First.{when, broken}
use Rattle.par_typed_laws.proofs.par_faults.Within.{left_none, right_none}
use Rattle.par_completes.specs.Completes.{completes}
use Rattle.par_scope.specs.declared.meaning.Callee.{Callee}
use Rattle.par_scope.specs.Locals.{Scope}
use Rattle.par_scope.specs.Home.{Home}
use Rattle.par_scope.specs.Members.{any_value, value_of}
use Rattle.par_scope.specs.Meaning.{type_of, called_on, receiver_of, selected, called, arity}
use Rattle.par_scope.specs.Meaning.{param_at}
use Rattle.par_type_rules.specs.Fits.{is_void, operand, suits}
use Rattle.par_type_rules.specs.Exprs.{is_number, unless_number, member_fault, count_fault}
use Rattle.par_type_rules.specs.Exprs.{is_known}
use Rattle.par_type_rules.specs.Exprs.{how_many, misfit, expr_faults, receiver_faults}
use Rattle.par_type_rules.specs.Exprs.{args_faults}
use Rattle.par_type_rules.specs.Exprs.{value_faults}
use Rattle.par_type_rules.specs.Stmts.{stmt_place, type_fault, throw_fault, test_faults}
use Rattle.par_type_rules.specs.Stmts.{slot_of}
use Rattle.par_type_rules.specs.Stmts.{target_slot, result_slot, local_faults}
use Rattle.par_type_rules.specs.Stmts.{assign_faults}
use Rattle.par_type_rules.specs.Stmts.{result_faults, declares, stmt_faults, braces_faults}
use Rattle.par_type_rules.specs.Stmts.{may_braces_faults, else_faults, stmts_faults}
use Rattle.par_type_rules.specs.Stmts.{catches_faults}
use Rattle.par_type_rules.specs.Stmts.{handler_faults}
use Rattle.par_annotation.specs.par_type_rules.TypedExprs.{number_of}
use Rattle.par_annotation.specs.Ints.{one_unless, no_ints, may_no_ints, args_no_ints, stmt_no_ints}
use Rattle.par_annotation.specs.Ints.{braces_no_ints, may_braces_no_ints, else_no_ints, all_no_ints}
use Rattle.par_annotation.specs.Ints.{catches_no_ints, handler_no_ints}
use Rattle.par_source_laws.specs.Numbers.{too_great, may_too_great, args_too_great, stmt_too_great}
use Rattle.par_source_laws.specs.Numbers.{braces_too_great, may_braces_too_great, else_too_great}
use Rattle.par_source_laws.specs.Numbers.{all_too_great, catches_too_great, handler_too_great}

-- ---- parts

left_zero : (m n : ℕ) → m + n ≡ 0 → m ≡ 0
left_zero m n h = omega (arith, h)

right_zero : (m n : ℕ) → m + n ≡ 0 → n ≡ 0
right_zero m n h = omega (arith, h)

both_zero : (m n : ℕ) → m ≡ 0 → n ≡ 0 → m + n ≡ 0
both_zero m n h k = omega (arith, h, k)

int_fits : (b : Bool) (f : Refusal) → when (not b) f ≡ [] → one_unless b ≡ 0
unfolding when
int_fits true f h = refl
int_fits false f h = absurd (cc h)

-- ---- expressions

mutual
  unfolding expr_faults too_great no_ints number_of is_number unless_number

  exp_ints : (home : Home) (scope : Scope) (e : Exp) → too_great e ≡ 0
      → expr_faults home scope e ≡ [] → no_ints e ≡ 0
  exp_ints home scope (plain.Int n at) k h = int_fits (nat_lt n 2147483648) (broken 208 at) h
  exp_ints home scope (plain.True at) k h = refl
  exp_ints home scope (plain.False at) k h = refl
  exp_ints home scope (plain.Null at) k h = refl
  exp_ints home scope (plain.This at) k h = refl
  exp_ints home scope (plain.New class at) k h = refl
  exp_ints home scope (plain.Name name at) k h = refl
  exp_ints home scope (plain.Field e f at) k h =
      let receiver = receiver_of home scope e (type_of home scope e) in
      let value = left_none (value_faults home scope any_value e)
      (member_fault receiver (is_some (selected home receiver f.name)) f.at) h in
      exp_ints home scope e k (left_none (expr_faults home scope e) (misfit home scope any_value e)
      value)
  exp_ints home scope (plain.Call o f es at) k h =
      let callee = called home (called_on home scope o) f.name in
      let one = receiver_faults home scope o in
      let two = member_fault (called_on home scope o) (is_known callee) f.at in
      let three = args_faults home scope callee 0 es in
      let front = left_none (one ++ two ++ three) (count_fault (arity home.table callee)
      (how_many es) f.at) h in
      let first = left_none one two (left_none (one ++ two) three front) in
      both_zero (may_no_ints o) (args_no_ints es)
      (receiver_ints home scope o (left_zero (may_too_great o) (args_too_great es) k) first)
      (args_ints home scope callee 0 es (right_zero (may_too_great o) (args_too_great es) k)
      (right_none (one ++ two) three front))
  exp_ints home scope (plain.Neg (plain.Int n from) at) k h = k
  exp_ints home scope (plain.Neg e at) k h =
      exp_ints home scope e k (left_none (expr_faults home scope e)
      (misfit home scope (value_of ty.Int) e) h)
  exp_ints home scope (plain.Not e at) k h =
      exp_ints home scope e k (left_none (expr_faults home scope e)
      (misfit home scope (value_of ty.Boolean) e) h)
  exp_ints home scope (plain.Binary op a b at) k h =
      let one = value_faults home scope (operand op) a in
      let other = value_faults home scope (operand op) b in
      let front = left_none (one ++ other)
      (when (not (suits op (type_of home scope a) (type_of home scope b))) (broken 201 at)) h in
      both_zero (no_ints a) (no_ints b)
      (exp_ints home scope a (left_zero (too_great a) (too_great b) k)
      (left_none (expr_faults home scope a) (misfit home scope (operand op) a)
      (left_none one other front)))
      (exp_ints home scope b (right_zero (too_great a) (too_great b) k)
      (left_none (expr_faults home scope b) (misfit home scope (operand op) b)
      (right_none one other front)))

  receiver_ints : (home : Home) (scope : Scope) (o : MayExp) → may_too_great o ≡ 0
      → receiver_faults home scope o ≡ [] → may_no_ints o ≡ 0
  receiver_ints home scope plain.Absent k h = refl
  receiver_ints home scope (plain.Present e) k h =
      exp_ints home scope e k (left_none (expr_faults home scope e) (misfit home scope any_value e)
      h)

  args_ints : (home : Home) (scope : Scope) (callee : Callee) (i : ℕ) (es : Exps)
      → args_too_great es ≡ 0
      → args_faults home scope callee i es ≡ [] → args_no_ints es ≡ 0
  args_ints home scope callee i plain.NoExps k h = refl
  args_ints home scope callee i (plain.More e es) k h =
      let one = value_faults home scope (param_at home.table callee i) e in
      let more = args_faults home scope callee (i + 1) es in
      both_zero (no_ints e) (args_no_ints es)
      (exp_ints home scope e (left_zero (too_great e) (args_too_great es) k)
      (left_none (expr_faults home scope e) (misfit home scope (param_at home.table callee i) e)
      (left_none one more h)))
      (args_ints home scope callee (i + 1) es (right_zero (too_great e) (args_too_great es) k)
      (right_none one more h))

-- ---- statements

test_ints : (home : Home) (scope : Scope) (e : Exp) → too_great e ≡ 0
    → test_faults home scope e ≡ [] → no_ints e ≡ 0
test_ints home scope e k h =
    exp_ints home scope e k (left_none (expr_faults home scope e)
    (misfit home scope (value_of ty.Boolean) e) h)

result_ints : (home : Home) (scope : Scope) (o : MayExp) (at : ℕ) → may_too_great o ≡ 0
    → result_faults home scope o at ≡ [] → may_no_ints o ≡ 0
unfolding result_faults too_great no_ints
result_ints home scope plain.Absent at k h = refl
result_ints home scope (plain.Present e) at k h =
    let wanted = result_slot (is_void home.result) home.result in
    let value = left_none (value_faults home scope wanted e) (when (not (not (is_void home.result)))
    (broken 201 at)) h in
    exp_ints home scope e k (left_none (expr_faults home scope e) (misfit home scope wanted e)
    value)

local_ints : (home : Home) (scope : Scope) (l : Local) → too_great l.value ≡ 0
    → local_faults home scope l ≡ [] → no_ints l.value ≡ 0
local_ints home scope l k h =
    let value = right_none (type_fault home l.ty) (value_faults home scope (slot_of home l) l.value)
    h in
    exp_ints home scope l.value k (left_none (expr_faults home scope l.value)
    (misfit home scope (slot_of home l) l.value) value)

assign_ints : (home : Home) (scope : Scope) (target value : Exp)
    → too_great target + too_great value ≡ 0
    → assign_faults home scope target value ≡ [] → no_ints target + no_ints value ≡ 0
assign_ints home scope target value k h =
    let one = expr_faults home scope target in
    let wanted = target_slot home scope target in
    both_zero (no_ints target) (no_ints value)
    (exp_ints home scope target (left_zero (too_great target) (too_great value) k)
    (left_none one (value_faults home scope wanted value) h))
    (exp_ints home scope value (right_zero (too_great target) (too_great value) k)
    (left_none (expr_faults home scope value) (misfit home scope wanted value)
    (right_none one (value_faults home scope wanted value) h)))

mutual
  unfolding stmt_faults stmt_too_great stmt_no_ints

  stmt_ints : (home : Home) (looped : Bool) (scope : Scope) (s : Sta) → stmt_too_great s ≡ 0
      → stmt_faults home looped scope s ≡ [] → stmt_no_ints s ≡ 0
  stmt_ints home looped scope (plain.Block b at) k h = braces_ints home looped scope b k h
  stmt_ints home looped scope (plain.If e b o at) k h =
      let one = test_faults home scope e in
      let two = braces_faults home looped scope b in
      let three = else_faults home looped scope o in
      let front = left_none (one ++ two) three h in
      let great = left_zero (too_great e + braces_too_great b) (else_too_great o) k in
      both_zero (no_ints e + braces_no_ints b) (else_no_ints o)
      (both_zero (no_ints e) (braces_no_ints b)
      (test_ints home scope e (left_zero (too_great e) (braces_too_great b) great)
      (left_none one two front))
      (braces_ints home looped scope b (right_zero (too_great e) (braces_too_great b) great)
      (right_none one two front)))
      (else_ints home looped scope o (right_zero (too_great e + braces_too_great b)
      (else_too_great o) k) (right_none (one ++ two) three h))
  stmt_ints home looped scope (plain.While e b at) k h =
      let one = test_faults home scope e in
      let two = braces_faults home true scope b in
      both_zero (no_ints e) (braces_no_ints b)
      (test_ints home scope e (left_zero (too_great e) (braces_too_great b) k)
      (left_none one two h))
      (braces_ints home true scope b (right_zero (too_great e) (braces_too_great b) k)
      (right_none one two h))
  stmt_ints home looped scope (plain.Try b cs at) k h =
      let one = braces_faults home looped scope b in
      let two = catches_faults home looped scope cs in
      both_zero (braces_no_ints b) (catches_no_ints cs)
      (braces_ints home looped scope b (left_zero (braces_too_great b) (catches_too_great cs) k)
      (left_none one two h))
      (catches_ints home looped scope cs (right_zero (braces_too_great b) (catches_too_great cs) k)
      (right_none one two h))
  stmt_ints home looped scope (plain.Return o at) k h = result_ints home scope o at k h
  stmt_ints home looped scope (plain.Break at) k h = refl
  stmt_ints home looped scope (plain.Continue at) k h = refl
  stmt_ints home looped scope (plain.Throw class at) k h = refl
  stmt_ints home looped scope (plain.Open lock at) k h = refl
  stmt_ints home looped scope (plain.Close lock at) k h = refl
  stmt_ints home looped scope (plain.Declare l at) k h = local_ints home scope l k h
  stmt_ints home looped scope (plain.Assign target value at) k h =
      assign_ints home scope target value k h
  stmt_ints home looped scope (plain.Do call at) k h = exp_ints home scope call k h
  stmt_ints home looped scope (plain.When lock b o at) k h =
      let one = braces_faults home looped scope b in
      let two = may_braces_faults home looped scope o in
      both_zero (braces_no_ints b) (may_braces_no_ints o)
      (braces_ints home looped scope b (left_zero (braces_too_great b) (may_braces_too_great o) k)
      (left_none one two h))
      (may_braces_ints home looped scope o (right_zero (braces_too_great b) (may_braces_too_great o)
      k) (right_none one two h))

  pub braces_ints : (home : Home) (looped : Bool) (scope : Scope) (b : Braces)
      → braces_too_great b ≡ 0
      → braces_faults home looped scope b ≡ [] → braces_no_ints b ≡ 0
  braces_ints home looped scope (In ss at) k h = stmts_ints home looped scope true ss k h

  may_braces_ints : (home : Home) (looped : Bool) (scope : Scope) (o : MayBraces)
      → may_braces_too_great o ≡ 0
      → may_braces_faults home looped scope o ≡ [] → may_braces_no_ints o ≡ 0
  may_braces_ints home looped scope plain.NoBraces k h = refl
  may_braces_ints home looped scope (plain.Some b) k h = braces_ints home looped scope b k h

  else_ints : (home : Home) (looped : Bool) (scope : Scope) (o : Else) → else_too_great o ≡ 0
      → else_faults home looped scope o ≡ [] → else_no_ints o ≡ 0
  else_ints home looped scope plain.NoElse k h = refl
  else_ints home looped scope (plain.Otherwise s) k h = stmt_ints home looped scope s k h

  stmts_ints : (home : Home) (looped : Bool) (scope : Scope) (reached : Bool) (ss : Stas)
      → all_too_great ss ≡ 0
      → stmts_faults home looped scope reached ss ≡ [] → all_no_ints ss ≡ 0
  stmts_ints home looped scope reached plain.End k h = refl
  stmts_ints home looped scope reached (plain.Then s ss) k h =
      let one = when (not reached) (broken 204 (stmt_place s)) in
      let two = stmt_faults home looped scope s in
      let three = stmts_faults home looped (declares home s scope) (completes s) ss in
      both_zero (stmt_no_ints s) (all_no_ints ss)
      (stmt_ints home looped scope s (left_zero (stmt_too_great s) (all_too_great ss) k)
      (right_none one two (left_none (one ++ two) three h)))
      (stmts_ints home looped (declares home s scope) (completes s) ss
      (right_zero (stmt_too_great s) (all_too_great ss) k) (right_none (one ++ two) three h))

  catches_ints : (home : Home) (looped : Bool) (scope : Scope) (cs : Catches)
      → catches_too_great cs ≡ 0
      → catches_faults home looped scope cs ≡ [] → catches_no_ints cs ≡ 0
  catches_ints home looped scope NoCatch k h = refl
  catches_ints home looped scope (Catch c cs) k h =
      let one = handler_faults home looped scope c in
      let two = catches_faults home looped scope cs in
      both_zero (handler_no_ints c) (catches_no_ints cs)
      (handler_ints home looped scope c (left_zero (handler_too_great c) (catches_too_great cs) k)
      (left_none one two h))
      (catches_ints home looped scope cs (right_zero (handler_too_great c) (catches_too_great cs) k)
      (right_none one two h))

  handler_ints : (home : Home) (looped : Bool) (scope : Scope) (c : Handler)
      → handler_too_great c ≡ 0
      → handler_faults home looped scope c ≡ [] → handler_no_ints c ≡ 0
  handler_ints home looped scope (On class name b) k h =
      braces_ints home looped scope b k (right_none (throw_fault home class)
      (braces_faults home looped scope b) h)
