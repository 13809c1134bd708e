-- Each builder keeps what holds of the numbers of what it puts together.
use Rattle.std.proofs.Common.{◌≡◌, ℕ, ◌+◌, ◌≤◌, Bool, true, false, ◌∷◌, refl, arith}
use Rattle.std.specs.Prelude.{nat_le}
use Rattle.std.specs.List.{AllByRecursion}
use Rattle.std.proofs.lemmas.Bool.Decides.{nat_tests}
use Rattle.par_lexer.specs.declared.operator.BinOp.{BinOp}
use Rattle.par_names.specs.par_tree.Plain.{Exp, Exps, NoExps, More, Braces, In, Sta, Stas, End}
use Rattle.par_names.specs.par_tree.Plain.{Then, Catches}
use Rattle.par_names.specs.par_tree.Plain.{NoCatch, Catch, Handler, with_exp, with_sta, with_catch}
use Rattle.par_names.specs.par_tree.Plain as plain
use Rattle.par_names.specs.par_tree.Grammar.{Builders}
use Rattle.par_names.specs.par_tree.Grammar as g
use Rattle.par_names.specs.par_tree.Values.{Value, Values, tok, exp, exps, may, braces, may_braces}
use Rattle.par_names.specs.par_tree.Values.{sta, stas}
use Rattle.par_names.specs.par_tree.Values.{other, handler, catches, term, whole, may_whole, clause}
use Rattle.par_names.specs.par_tree.Values.{clauses}
use Rattle.par_names.specs.par_tree.Values.{lock, needs, idents, typed, gives, flag, many, param}
use Rattle.par_names.specs.par_tree.Values.{listed}
use Rattle.par_names.specs.par_tree.Values.{says, members, decl, source}
use Rattle.par_names.specs.par_tree.Values.{number, built, ident, as_stmt, channel, binary}
use Rattle.par_names.specs.par_tree.Values.{next_method}
use Rattle.par_names.specs.par_tree.Values.{next_decl, actors_decl, lock_decl, policy_decl}
use Rattle.par_names.specs.par_tree.Values.{exception_decl}
use Rattle.par_names.specs.par_tree.Values.{class_decl, next_ident, inferred_field, field}
use Rattle.par_names.specs.par_tree.Values.{some_result}
use Rattle.par_names.specs.par_tree.Values.{one_param, next_param, next_write, next_expect}
use Rattle.par_names.specs.par_tree.Values.{next_open}
use Rattle.par_names.specs.par_tree.Values.{next_close, next_throw, int_type, boolean_type}
use Rattle.par_names.specs.par_tree.Values.{class_type}
use Rattle.par_names.specs.par_tree.Values.{some_policy, first_term, next_term, clauses_term}
use Rattle.par_names.specs.par_tree.Values.{named_term}
use Rattle.par_names.specs.par_tree.Values.{bottom_term, top_term, one_clause, next_clause}
use Rattle.par_names.specs.par_tree.Values.{one_lock}
use Rattle.par_names.specs.par_tree.Values.{next_lock, next_stmt, whole_block, block_stmt, if_stmt}
use Rattle.par_names.specs.par_tree.Values.{some_else}
use Rattle.par_names.specs.par_tree.Values.{while_stmt, one_catch, next_catch, try_stmt, some_value}
use Rattle.par_names.specs.par_tree.Values.{return_stmt, break_stmt, continue_stmt, throw_stmt}
use Rattle.par_names.specs.par_tree.Values.{open_stmt}
use Rattle.par_names.specs.par_tree.Values.{close_stmt, when_stmt, some_block, local_stmt}
use Rattle.par_names.specs.par_tree.Values.{class_local}
use Rattle.par_names.specs.par_tree.Values.{assign_stmt, call_stmt, constant, true_expr, false_expr}
use Rattle.par_names.specs.par_tree.Values.{null_expr, this_expr, create, variable, select}
use Rattle.par_names.specs.par_tree.Values.{call_own, call_on}
use Rattle.par_names.specs.par_tree.Values.{negate, invert, next_arg}
use Rattle.par_names.proofs.par_span_laws.Lists.{pushed}
use Rattle.par_source_laws.specs.Numbers.{GREATEST, one_unless, HasNumbers, DeclarationHasNumbers}
use Rattle.par_source_laws.specs.Numbers.{SourceHasNumbers}
use Rattle.par_source_laws.specs.Numbers.{too_great, may_too_great, args_too_great, stmt_too_great}
use Rattle.par_source_laws.specs.Numbers.{braces_too_great, may_braces_too_great, else_too_great}
use Rattle.par_source_laws.specs.Numbers.{all_too_great, catches_too_great, handler_too_great}
use Rattle.par_source_laws.proofs.Tokens.{HasNumber}

-- ---- sums

both_zero : (m n : ℕ) → m ≡ 0 → n ≡ 0 → m + n ≡ 0
both_zero m n h k = omega (arith, h, k)

three_zero : (m n k : ℕ) → m ≡ 0 → n ≡ 0 → k ≡ 0 → m + n + k ≡ 0
three_zero m n k h i j = omega (arith, h, i, j)

small : (n : ℕ) → n ≤ GREATEST → one_unless (nat_le n GREATEST) ≡ 0
small n h = in_case (nat_le n GREATEST) (λ e. grind (arith, nat_tests)) where
  in_case : (b : Bool) → (b ≡ false → ⊥) → one_unless b ≡ 0
  in_case true never = refl
  in_case false never = absurd (never refl)

one_more_exp : (es : Exps) (e : Exp) → args_too_great es ≡ 0 → too_great e ≡ 0
    → args_too_great (with_exp es e) ≡ 0
unfolding with_exp too_great
one_more_exp NoExps e h k = both_zero (too_great e) 0 k refl
one_more_exp (More x es) e h k =
    let rest = one_more_exp es e (omega (arith, h)) k in omega (arith, h, rest)

one_more_sta : (ss : Stas) (s : Sta) → all_too_great ss ≡ 0 → stmt_too_great s ≡ 0
    → all_too_great (with_sta ss s) ≡ 0
unfolding with_sta stmt_too_great
one_more_sta End s h k = both_zero (stmt_too_great s) 0 k refl
one_more_sta (Then x ss) s h k =
    let rest = one_more_sta ss s (omega (arith, h)) k in omega (arith, h, rest)

one_more_catch : (cs : Catches) (c : Handler) → catches_too_great cs ≡ 0 → handler_too_great c ≡ 0
    → catches_too_great (with_catch cs c) ≡ 0
unfolding with_catch stmt_too_great
one_more_catch NoCatch c h k = both_zero (handler_too_great c) 0 k refl
one_more_catch (Catch x cs) c h k =
    let rest = one_more_catch cs c (omega (arith, h)) k in omega (arith, h, rest)

-- ---- values

-- no number in a value is too great
abbrev pub ValueHas : Value → Type 0
ValueHas (tok x) = HasNumber x
ValueHas (exp e) = too_great e ≡ 0
ValueHas (exps es) = args_too_great es ≡ 0
ValueHas (may o) = may_too_great o ≡ 0
ValueHas (braces b) = braces_too_great b ≡ 0
ValueHas (may_braces o) = may_braces_too_great o ≡ 0
ValueHas (sta s) = stmt_too_great s ≡ 0
ValueHas (stas ss) = all_too_great ss ≡ 0
ValueHas (other o) = else_too_great o ≡ 0
ValueHas (handler c) = handler_too_great c ≡ 0
ValueHas (catches cs) = catches_too_great cs ≡ 0
ValueHas (members ms) = AllByRecursion HasNumbers ms.methods
ValueHas (decl d) = DeclarationHasNumbers d
ValueHas (source ds) = SourceHasNumbers ds
ValueHas _ = Unit {0}

abbrev pub AllHave : Values → Type 0
AllHave vs = AllByRecursion ValueHas vs

block_has : (b : Braces) → braces_too_great b ≡ 0 → stmt_too_great (as_stmt b) ≡ 0
unfolding stmt_too_great
block_has (In ss at) h = h

-- ---- builders

next_decl_has : (vs : Values) → AllHave vs → AllHave (next_decl vs)
next_decl_has (decl d ∷ source ds ∷ vs) h = (pushed DeclarationHasNumbers ds d h.1.0 h.0, h.1.1)
next_decl_has vs h = h

actors_decl_has : (vs : Values) → AllHave vs → AllHave (actors_decl vs)
actors_decl_has (idents ids ∷ vs) h = (tt, h.1)
actors_decl_has vs h = h

lock_decl_has : (vs : Values) → AllHave vs → AllHave (lock_decl vs)
lock_decl_has (may_whole p ∷ many n ∷ tok x ∷ vs) h = (tt, h.1.1.1)
lock_decl_has vs h = h

policy_decl_has : (vs : Values) → AllHave vs → AllHave (policy_decl vs)
policy_decl_has (whole p ∷ tok x ∷ vs) h = (tt, h.1.1)
policy_decl_has vs h = h

exception_decl_has : (vs : Values) → AllHave vs → AllHave (exception_decl vs)
exception_decl_has (tok x ∷ vs) h = (tt, h.1)
exception_decl_has vs h = h

class_decl_has : (vs : Values) → AllHave vs → AllHave (class_decl vs)
class_decl_has (members ms ∷ may_whole p ∷ tok x ∷ vs) h = (h.0, h.1.1.1)
class_decl_has vs h = h

next_ident_has : (vs : Values) → AllHave vs → AllHave (next_ident vs)
next_ident_has (tok x ∷ idents ids ∷ vs) h = (tt, h.1.1)
next_ident_has vs h = h

inferred_field_has : (vs : Values) → AllHave vs → AllHave (inferred_field vs)
inferred_field_has (tok x ∷ typed t ∷ flag s ∷ members ms ∷ vs) h = (h.1.1.1.0, h.1.1.1.1)
inferred_field_has vs h = h

field_has : (vs : Values) → AllHave vs → AllHave (field vs)
field_has (tok x ∷ typed t ∷ flag s ∷ may_whole p ∷ members ms ∷ vs) h = (h.1.1.1.1.0, h.1.1.1.1.1)
field_has vs h = h

some_result_has : (vs : Values) → AllHave vs → AllHave (some_result vs)
some_result_has (tok x ∷ typed t ∷ vs) h = h
some_result_has vs h = h

one_param_has : (vs : Values) → AllHave vs → AllHave (one_param vs)
one_param_has (tok x ∷ typed t ∷ flag n ∷ may_whole p ∷ vs) h = (tt, h.1.1.1.1)
one_param_has vs h = h

next_param_has : (vs : Values) → AllHave vs → AllHave (next_param vs)
next_param_has (param p ∷ listed ps ∷ vs) h = (tt, h.1.1)
next_param_has vs h = h

next_write_has : (vs : Values) → AllHave vs → AllHave (next_write vs)
next_write_has (whole p ∷ says e ∷ vs) h = (tt, h.1.1)
next_write_has vs h = h

next_expect_has : (vs : Values) → AllHave vs → AllHave (next_expect vs)
next_expect_has (lock l ∷ says e ∷ vs) h = (tt, h.1.1)
next_expect_has vs h = h

next_open_has : (vs : Values) → AllHave vs → AllHave (next_open vs)
next_open_has (lock l ∷ says e ∷ vs) h = (tt, h.1.1)
next_open_has vs h = h

next_close_has : (vs : Values) → AllHave vs → AllHave (next_close vs)
next_close_has (lock l ∷ says e ∷ vs) h = (tt, h.1.1)
next_close_has vs h = h

next_throw_has : (vs : Values) → AllHave vs → AllHave (next_throw vs)
next_throw_has (whole p ∷ tok x ∷ says e ∷ vs) h = (tt, h.1.1.1)
next_throw_has vs h = h

int_type_has : (vs : Values) → AllHave vs → AllHave (int_type vs)
int_type_has (tok x ∷ vs) h = (tt, h.1)
int_type_has vs h = h

boolean_type_has : (vs : Values) → AllHave vs → AllHave (boolean_type vs)
boolean_type_has (tok x ∷ vs) h = (tt, h.1)
boolean_type_has vs h = h

class_type_has : (vs : Values) → AllHave vs → AllHave (class_type vs)
class_type_has (tok x ∷ vs) h = (tt, h.1)
class_type_has vs h = h

some_policy_has : (vs : Values) → AllHave vs → AllHave (some_policy vs)
some_policy_has (whole p ∷ vs) h = h
some_policy_has vs h = h

first_term_has : (vs : Values) → AllHave vs → AllHave (first_term vs)
first_term_has (term t at ∷ vs) h = h
first_term_has vs h = h

next_term_has : (vs : Values) → AllHave vs → AllHave (next_term vs)
next_term_has (term t at ∷ whole p ∷ vs) h = (tt, h.1.1)
next_term_has vs h = h

clauses_term_has : (vs : Values) → AllHave vs → AllHave (clauses_term vs)
clauses_term_has (clauses cs ∷ tok x ∷ vs) h = (tt, h.1.1)
clauses_term_has vs h = h

named_term_has : (vs : Values) → AllHave vs → AllHave (named_term vs)
named_term_has (tok x ∷ vs) h = (tt, h.1)
named_term_has vs h = h

bottom_term_has : (vs : Values) → AllHave vs → AllHave (bottom_term vs)
bottom_term_has (tok x ∷ vs) h = (tt, h.1)
bottom_term_has vs h = h

top_term_has : (vs : Values) → AllHave vs → AllHave (top_term vs)
top_term_has (tok x ∷ vs) h = (tt, h.1)
top_term_has vs h = h

one_clause_has : (vs : Values) → AllHave vs → AllHave (one_clause vs)
one_clause_has (needs ls ∷ tok x ∷ vs) h = (tt, h.1.1)
one_clause_has vs h = h

next_clause_has : (vs : Values) → AllHave vs → AllHave (next_clause vs)
next_clause_has (clause c ∷ clauses cs ∷ vs) h = (tt, h.1.1)
next_clause_has vs h = h

one_lock_has : (vs : Values) → AllHave vs → AllHave (one_lock vs)
one_lock_has (idents ids ∷ tok x ∷ vs) h = (tt, h.1.1)
one_lock_has vs h = h

next_lock_has : (vs : Values) → AllHave vs → AllHave (next_lock vs)
next_lock_has (lock l ∷ needs ls ∷ vs) h = (tt, h.1.1)
next_lock_has vs h = h

next_stmt_has : (vs : Values) → AllHave vs → AllHave (next_stmt vs)
unfolding too_great stmt_too_great
next_stmt_has (sta s ∷ stas ss ∷ vs) h = (one_more_sta ss s h.1.0 h.0, h.1.1)
next_stmt_has vs h = h

whole_block_has : (vs : Values) → AllHave vs → AllHave (whole_block vs)
unfolding too_great stmt_too_great
whole_block_has (stas ss ∷ tok x ∷ vs) h = (h.0, h.1.1)
whole_block_has vs h = h

block_stmt_has : (vs : Values) → AllHave vs → AllHave (block_stmt vs)
unfolding too_great stmt_too_great
block_stmt_has (braces b ∷ vs) h = (block_has b h.0, h.1)
block_stmt_has vs h = h

if_stmt_has : (vs : Values) → AllHave vs → AllHave (if_stmt vs)
unfolding too_great stmt_too_great
if_stmt_has (other o ∷ braces b ∷ exp e ∷ tok x ∷ vs) h =
    (three_zero (too_great e) (braces_too_great b) (else_too_great o) h.1.1.0 h.1.0 h.0, h.1.1.1.1)
if_stmt_has vs h = h

some_else_has : (vs : Values) → AllHave vs → AllHave (some_else vs)
unfolding too_great stmt_too_great
some_else_has (sta s ∷ vs) h = h
some_else_has vs h = h

while_stmt_has : (vs : Values) → AllHave vs → AllHave (while_stmt vs)
unfolding too_great stmt_too_great
while_stmt_has (braces b ∷ exp e ∷ tok x ∷ vs) h =
    (both_zero (too_great e) (braces_too_great b) h.1.0 h.0, h.1.1.1)
while_stmt_has vs h = h

one_catch_has : (vs : Values) → AllHave vs → AllHave (one_catch vs)
unfolding too_great stmt_too_great
one_catch_has (braces b ∷ tok y ∷ tok x ∷ vs) h = (h.0, h.1.1.1)
one_catch_has vs h = h

next_catch_has : (vs : Values) → AllHave vs → AllHave (next_catch vs)
unfolding too_great stmt_too_great
next_catch_has (handler c ∷ catches cs ∷ vs) h = (one_more_catch cs c h.1.0 h.0, h.1.1)
next_catch_has vs h = h

try_stmt_has : (vs : Values) → AllHave vs → AllHave (try_stmt vs)
unfolding too_great stmt_too_great
try_stmt_has (catches cs ∷ braces b ∷ tok x ∷ vs) h =
    (both_zero (braces_too_great b) (catches_too_great cs) h.1.0 h.0, h.1.1.1)
try_stmt_has vs h = h

some_value_has : (vs : Values) → AllHave vs → AllHave (some_value vs)
unfolding too_great stmt_too_great
some_value_has (exp e ∷ vs) h = h
some_value_has vs h = h

return_stmt_has : (vs : Values) → AllHave vs → AllHave (return_stmt vs)
unfolding too_great stmt_too_great
return_stmt_has (may e ∷ tok x ∷ vs) h = (h.0, h.1.1)
return_stmt_has vs h = h

break_stmt_has : (vs : Values) → AllHave vs → AllHave (break_stmt vs)
unfolding too_great stmt_too_great
break_stmt_has (tok x ∷ vs) h = (refl, h.1)
break_stmt_has vs h = h

continue_stmt_has : (vs : Values) → AllHave vs → AllHave (continue_stmt vs)
unfolding too_great stmt_too_great
continue_stmt_has (tok x ∷ vs) h = (refl, h.1)
continue_stmt_has vs h = h

throw_stmt_has : (vs : Values) → AllHave vs → AllHave (throw_stmt vs)
unfolding too_great stmt_too_great
throw_stmt_has (tok y ∷ tok x ∷ vs) h = (refl, h.1.1)
throw_stmt_has vs h = h

open_stmt_has : (vs : Values) → AllHave vs → AllHave (open_stmt vs)
unfolding too_great stmt_too_great
open_stmt_has (lock l ∷ tok x ∷ vs) h = (refl, h.1.1)
open_stmt_has vs h = h

close_stmt_has : (vs : Values) → AllHave vs → AllHave (close_stmt vs)
unfolding too_great stmt_too_great
close_stmt_has (lock l ∷ tok x ∷ vs) h = (refl, h.1.1)
close_stmt_has vs h = h

when_stmt_has : (vs : Values) → AllHave vs → AllHave (when_stmt vs)
unfolding too_great stmt_too_great
when_stmt_has (may_braces o ∷ braces b ∷ lock l ∷ tok x ∷ vs) h =
    (both_zero (braces_too_great b) (may_braces_too_great o) h.1.0 h.0, h.1.1.1.1)
when_stmt_has vs h = h

some_block_has : (vs : Values) → AllHave vs → AllHave (some_block vs)
unfolding too_great stmt_too_great
some_block_has (braces b ∷ vs) h = h
some_block_has vs h = h

local_stmt_has : (vs : Values) → AllHave vs → AllHave (local_stmt vs)
unfolding too_great stmt_too_great
local_stmt_has (exp e ∷ tok x ∷ typed t ∷ flag n ∷ may_whole p ∷ vs) h = (h.0, h.1.1.1.1.1)
local_stmt_has vs h = h

class_local_has : (vs : Values) → AllHave vs → AllHave (class_local vs)
unfolding too_great stmt_too_great
class_local_has (exp e ∷ tok y ∷ tok x ∷ vs) h = (h.0, h.1.1.1)
class_local_has vs h = h

assign_stmt_has : (vs : Values) → AllHave vs → AllHave (assign_stmt vs)
unfolding too_great stmt_too_great
assign_stmt_has (exp e ∷ tok x ∷ exp target ∷ vs) h =
    (both_zero (too_great target) (too_great e) h.1.1.0 h.0, h.1.1.1)
assign_stmt_has vs h = h

call_stmt_has : (vs : Values) → AllHave vs → AllHave (call_stmt vs)
unfolding too_great stmt_too_great
call_stmt_has (tok x ∷ exp e ∷ vs) h = h.1
call_stmt_has vs h = h

constant_has : (vs : Values) → AllHave vs → AllHave (constant vs)
unfolding too_great stmt_too_great
constant_has (tok x ∷ vs) h = (small (number x.kind) h.0, h.1)
constant_has vs h = h

true_expr_has : (vs : Values) → AllHave vs → AllHave (true_expr vs)
unfolding too_great stmt_too_great
true_expr_has (tok x ∷ vs) h = (refl, h.1)
true_expr_has vs h = h

false_expr_has : (vs : Values) → AllHave vs → AllHave (false_expr vs)
unfolding too_great stmt_too_great
false_expr_has (tok x ∷ vs) h = (refl, h.1)
false_expr_has vs h = h

null_expr_has : (vs : Values) → AllHave vs → AllHave (null_expr vs)
unfolding too_great stmt_too_great
null_expr_has (tok x ∷ vs) h = (refl, h.1)
null_expr_has vs h = h

this_expr_has : (vs : Values) → AllHave vs → AllHave (this_expr vs)
unfolding too_great stmt_too_great
this_expr_has (tok x ∷ vs) h = (refl, h.1)
this_expr_has vs h = h

create_has : (vs : Values) → AllHave vs → AllHave (create vs)
unfolding too_great stmt_too_great
create_has (tok y ∷ tok x ∷ vs) h = (refl, h.1.1)
create_has vs h = h

variable_has : (vs : Values) → AllHave vs → AllHave (variable vs)
unfolding too_great stmt_too_great
variable_has (tok x ∷ vs) h = (refl, h.1)
variable_has vs h = h

select_has : (vs : Values) → AllHave vs → AllHave (select vs)
unfolding too_great stmt_too_great
select_has (tok x ∷ exp e ∷ vs) h = h.1
select_has vs h = h

call_own_has : (vs : Values) → AllHave vs → AllHave (call_own vs)
unfolding too_great stmt_too_great
call_own_has (exps es ∷ tok x ∷ vs) h = (both_zero 0 (args_too_great es) refl h.0, h.1.1)
call_own_has vs h = h

call_on_has : (vs : Values) → AllHave vs → AllHave (call_on vs)
unfolding too_great stmt_too_great
call_on_has (exps es ∷ tok x ∷ exp e ∷ vs) h =
    (both_zero (too_great e) (args_too_great es) h.1.1.0 h.0, h.1.1.1)
call_on_has vs h = h

negate_has : (vs : Values) → AllHave vs → AllHave (negate vs)
unfolding too_great stmt_too_great
negate_has (exp e ∷ tok x ∷ vs) h = (h.0, h.1.1)
negate_has vs h = h

invert_has : (vs : Values) → AllHave vs → AllHave (invert vs)
unfolding too_great stmt_too_great
invert_has (exp e ∷ tok x ∷ vs) h = (h.0, h.1.1)
invert_has vs h = h

next_arg_has : (vs : Values) → AllHave vs → AllHave (next_arg vs)
unfolding too_great stmt_too_great
next_arg_has (exp e ∷ exps es ∷ vs) h = (one_more_exp es e h.1.0 h.0, h.1.1)
next_arg_has vs h = h

channel_has : (i : Bool) (vs : Values) → AllHave vs → AllHave (channel i vs)
channel_has i (tok x ∷ may_whole p ∷ members ms ∷ vs) h = (h.1.1.0, h.1.1.1)
channel_has i vs h = h

binary_has : (op : BinOp) (vs : Values) → AllHave vs → AllHave (binary op vs)
unfolding too_great
binary_has op (exp b ∷ tok x ∷ exp a ∷ vs) h =
    (both_zero (too_great a) (too_great b) h.1.1.0 h.0, h.1.1.1)
binary_has op vs h = h

next_method_has : (vs : Values) → AllHave vs → AllHave (next_method vs)
next_method_has
    (braces b ∷ says e ∷ listed ps ∷ tok x ∷ gives r ∷ flag s ∷ may_whole p ∷ members ms ∷ vs) h =
    let method : plain.Method = record {
      id = ident x;
      is_static = s;
      result = r;
      policy = p;
      params = ps;
      effects = e.writes;
      expects = e.expects;
      opens = e.opens;
      closes = e.closes;
      throws = e.throws;
      body = b;
    } in
    (pushed HasNumbers ms.methods method h.1.1.1.1.1.1.1.0 h.0, h.1.1.1.1.1.1.1.1)
next_method_has vs h = h

pub built_has : (b : Builders) (vs : Values) → AllHave vs → AllHave (built b vs)
unfolding too_great stmt_too_great
built_has g.NoDecls vs h = (tt, h)
built_has g.NextDecl vs h = next_decl_has vs h
built_has g.ActorsDecl vs h = actors_decl_has vs h
built_has g.LockDecl vs h = lock_decl_has vs h
built_has g.PolicyDecl vs h = policy_decl_has vs h
built_has g.ExceptionDecl vs h = exception_decl_has vs h
built_has g.ClassDecl vs h = class_decl_has vs h
built_has g.NoIdents vs h = (tt, h)
built_has g.NextIdent vs h = next_ident_has vs h
built_has (g.OfArity n) vs h = (tt, h)
built_has g.NoMembers vs h = (tt, h)
built_has g.InferredField vs h = inferred_field_has vs h
built_has g.InputChannel vs h = channel_has true vs h
built_has g.OutputChannel vs h = channel_has false vs h
built_has g.Field vs h = field_has vs h
built_has g.NextMethod vs h = next_method_has vs h
built_has g.IsStatic vs h = (tt, h)
built_has g.IsInstance vs h = (tt, h)
built_has g.NoResult vs h = (tt, h)
built_has g.SomeResult vs h = some_result_has vs h
built_has g.NoParams vs h = (tt, h)
built_has g.OneParam vs h = one_param_has vs h
built_has g.NextParam vs h = next_param_has vs h
built_has g.IsNotnull vs h = (tt, h)
built_has g.MayBeNull vs h = (tt, h)
built_has g.NoEffects vs h = (tt, h)
built_has g.NextWrite vs h = next_write_has vs h
built_has g.NextExpect vs h = next_expect_has vs h
built_has g.NextOpen vs h = next_open_has vs h
built_has g.NextClose vs h = next_close_has vs h
built_has g.NextThrow vs h = next_throw_has vs h
built_has g.IntType vs h = int_type_has vs h
built_has g.BooleanType vs h = boolean_type_has vs h
built_has g.ClassType vs h = class_type_has vs h
built_has g.NoPolicy vs h = (tt, h)
built_has g.SomePolicy vs h = some_policy_has vs h
built_has g.FirstTerm vs h = first_term_has vs h
built_has g.NextTerm vs h = next_term_has vs h
built_has g.ClausesTerm vs h = clauses_term_has vs h
built_has g.NamedTerm vs h = named_term_has vs h
built_has g.BottomTerm vs h = bottom_term_has vs h
built_has g.TopTerm vs h = top_term_has vs h
built_has g.NoClauses vs h = (tt, h)
built_has g.OneClause vs h = one_clause_has vs h
built_has g.NextClause vs h = next_clause_has vs h
built_has g.NoLocks vs h = (tt, h)
built_has g.NextLock vs h = next_lock_has vs h
built_has g.OneLock vs h = one_lock_has vs h
built_has g.NoStmts vs h = (refl, h)
built_has g.NextStmt vs h = next_stmt_has vs h
built_has g.WholeBlock vs h = whole_block_has vs h
built_has g.BlockStmt vs h = block_stmt_has vs h
built_has g.IfStmt vs h = if_stmt_has vs h
built_has g.NoElse vs h = (refl, h)
built_has g.SomeElse vs h = some_else_has vs h
built_has g.WhileStmt vs h = while_stmt_has vs h
built_has g.NoCatches vs h = (refl, h)
built_has g.OneCatch vs h = one_catch_has vs h
built_has g.NextCatch vs h = next_catch_has vs h
built_has g.TryStmt vs h = try_stmt_has vs h
built_has g.NoValue vs h = (refl, h)
built_has g.SomeValue vs h = some_value_has vs h
built_has g.ReturnStmt vs h = return_stmt_has vs h
built_has g.BreakStmt vs h = break_stmt_has vs h
built_has g.ContinueStmt vs h = continue_stmt_has vs h
built_has g.ThrowStmt vs h = throw_stmt_has vs h
built_has g.OpenStmt vs h = open_stmt_has vs h
built_has g.CloseStmt vs h = close_stmt_has vs h
built_has g.WhenStmt vs h = when_stmt_has vs h
built_has g.NoBlock vs h = (refl, h)
built_has g.SomeBlock vs h = some_block_has vs h
built_has g.LocalStmt vs h = local_stmt_has vs h
built_has g.ClassLocal vs h = class_local_has vs h
built_has g.AssignStmt vs h = assign_stmt_has vs h
built_has g.CallStmt vs h = call_stmt_has vs h
built_has g.Constant vs h = constant_has vs h
built_has g.TrueExpr vs h = true_expr_has vs h
built_has g.FalseExpr vs h = false_expr_has vs h
built_has g.NullExpr vs h = null_expr_has vs h
built_has g.ThisExpr vs h = this_expr_has vs h
built_has g.Create vs h = create_has vs h
built_has g.Variable vs h = variable_has vs h
built_has g.Select vs h = select_has vs h
built_has g.CallOwn vs h = call_own_has vs h
built_has g.CallOn vs h = call_on_has vs h
built_has g.Negate vs h = negate_has vs h
built_has g.Invert vs h = invert_has vs h
built_has (g.Binary op) vs h = binary_has op vs h
built_has g.NoArgs vs h = (refl, h)
built_has g.NextArg vs h = next_arg_has vs h
