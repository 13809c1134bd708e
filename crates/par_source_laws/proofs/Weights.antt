-- What each builder makes has hardly more bytes of names and descriptors than what it is made of.
use Rattle.std.proofs.Common.{ℕ, ◌+◌, ◌-◌, ◌≤◌, ◌≡◌, Bool, true, false, cond, List, [], ◌∷◌, ◌++◌}
use Rattle.std.proofs.Common.{length, Option, Some, None, arith}
use Rattle.std.specs.List.{AllByRecursion}
use Rattle.par_lexer.specs.declared.operator.BinOp.{BinOp}
use Rattle.par_names.specs.par_tree.declared.types.TypeTree.{TypeTree}
use Rattle.par_names.specs.par_tree.declared.types.TypeTree.TheVariants as type
use Rattle.par_names.specs.par_tree.declared.decl.FieldDecl.{FieldDecl}
use Rattle.par_names.specs.par_tree.declared.decl.ChannelDecl.{ChannelDecl}
use Rattle.par_names.specs.par_tree.declared.decl.ParamDecl.{ParamDecl}
use Rattle.par_names.specs.par_tree.Plain.{Method, Declaration, Source}
use Rattle.par_names.specs.par_tree.Grammar.{Builders}
use Rattle.par_names.specs.par_tree.Grammar as g
use Rattle.par_names.specs.par_tree.Values.{Value, Values, Members, tok, exp, exps, may, braces}
use Rattle.par_names.specs.par_tree.Values.{may_braces}
use Rattle.par_names.specs.par_tree.Values.{sta, stas, other, handler, catches, term, whole}
use Rattle.par_names.specs.par_tree.Values.{may_whole}
use Rattle.par_names.specs.par_tree.Values.{clause, clauses, lock, needs, idents, typed, gives}
use Rattle.par_names.specs.par_tree.Values.{flag, many}
use Rattle.par_names.specs.par_tree.Values.{param, listed, says, members, decl, source}
use Rattle.par_names.specs.par_tree.Values.{built, ident, channel, binary, next_method}
use Rattle.par_names.specs.par_tree.Values.{next_decl, actors_decl, lock_decl, policy_decl}
use Rattle.par_names.specs.par_tree.Values.{exception_decl}
use Rattle.par_names.specs.par_tree.Values.{class_decl, next_ident, inferred_field, field}
use Rattle.par_names.specs.par_tree.Values.{some_result}
use Rattle.par_names.specs.par_tree.Values.{one_param, next_param, next_write, next_expect}
use Rattle.par_names.specs.par_tree.Values.{next_open}
use Rattle.par_names.specs.par_tree.Values.{next_close, next_throw, int_type, boolean_type}
use Rattle.par_names.specs.par_tree.Values.{class_type}
use Rattle.par_names.specs.par_tree.Values.{some_policy, first_term, next_term, clauses_term}
use Rattle.par_names.specs.par_tree.Values.{named_term}
use Rattle.par_names.specs.par_tree.Values.{bottom_term, top_term, one_clause, next_clause}
use Rattle.par_names.specs.par_tree.Values.{one_lock}
use Rattle.par_names.specs.par_tree.Values.{next_lock, next_stmt, whole_block, block_stmt, if_stmt}
use Rattle.par_names.specs.par_tree.Values.{some_else}
use Rattle.par_names.specs.par_tree.Values.{while_stmt, one_catch, next_catch, try_stmt, some_value}
use Rattle.par_names.specs.par_tree.Values.{return_stmt, break_stmt, continue_stmt, throw_stmt}
use Rattle.par_names.specs.par_tree.Values.{open_stmt}
use Rattle.par_names.specs.par_tree.Values.{close_stmt, when_stmt, some_block, local_stmt}
use Rattle.par_names.specs.par_tree.Values.{class_local}
use Rattle.par_names.specs.par_tree.Values.{assign_stmt, call_stmt, constant, true_expr, false_expr}
use Rattle.par_names.specs.par_tree.Values.{null_expr, this_expr, create, variable, select}
use Rattle.par_names.specs.par_tree.Values.{call_own, call_on}
use Rattle.par_names.specs.par_tree.Values.{negate, invert, next_arg}
use Rattle.par_source_laws.specs.Sizes.{type_size, result_size, params_size, field_size}
use Rattle.par_source_laws.specs.Sizes.{channel_size}
use Rattle.par_source_laws.specs.Sizes.{method_size, fields_size, channels_size, methods_size}
use Rattle.par_source_laws.specs.Sizes.{declaration_size, source_texts}
use Rattle.par_source_laws.proofs.Gaps.{IsSized}
use Rattle.par_source_laws.proofs.Costs.{cost}

-- ---- weights

-- the bytes of the name of a type
abbrev pub written : TypeTree → ℕ
written (type.Int at) = 0
written (type.Boolean at) = 0
written (type.Class id) = length id.name

abbrev pub written_result : Option TypeTree → ℕ
written_result None = 0
written_result (Some t) = written t

abbrev pub members_size : Members → ℕ
members_size ms = fields_size ms.fields + channels_size ms.channels + methods_size ms.methods

-- how many of the bytes that are taken a value stands for
abbrev pub weight : Value → ℕ
weight (tok x) = x.to - x.from
weight (braces b) = 1
weight (typed t) = written t
weight (gives r) = written_result r
weight (param p) = type_size p.ty
weight (listed ps) = params_size ps
weight (members ms) = members_size ms
weight (decl d) = declaration_size d
weight (source ds) = source_texts ds
weight _ = 0

abbrev pub weights : Values → ℕ
weights [] = 0
weights (v ∷ vs) = weight v + weights vs

abbrev pub IsFine : Value → Type 0
IsFine (tok x) = IsSized x
IsFine _ = Unit {0}

abbrev pub Fine : Values → Type 0
Fine vs = AllByRecursion IsFine vs

abbrev pub Pays : ℕ → Values → Values → Type 0
Pays most vs ws = (weights ws ≤ weights vs + most) × Fine ws

-- values that stay pay for themselves
same : (most : ℕ) (vs : Values) → Fine vs → Pays most vs vs
same most vs h = (omega arith, h)

-- ---- lists with one more item

params_more : (ps : List ParamDecl) (p : ParamDecl)
    → params_size (ps ++ p ∷ []) ≡ params_size ps + type_size p.ty
params_more [] p = omega arith
params_more (q ∷ ps) p = let rest = params_more ps p in omega (arith, rest)

fields_more : (fs : List FieldDecl) (f : FieldDecl)
    → fields_size (fs ++ f ∷ []) ≡ fields_size fs + field_size f
fields_more [] f = omega arith
fields_more (q ∷ fs) f = let rest = fields_more fs f in omega (arith, rest)

channels_more : (cs : List ChannelDecl) (c : ChannelDecl)
    → channels_size (cs ++ c ∷ []) ≡ channels_size cs + channel_size c
channels_more [] c = omega arith
channels_more (q ∷ cs) c = let rest = channels_more cs c in omega (arith, rest)

methods_more : (ms : List Method) (m : Method)
    → methods_size (ms ++ m ∷ []) ≡ methods_size ms + method_size m
methods_more [] m = omega arith
methods_more (q ∷ ms) m = let rest = methods_more ms m in omega (arith, rest)

source_more : (ds : Source) (d : Declaration)
    → source_texts (ds ++ d ∷ []) ≡ source_texts ds + declaration_size d
source_more [] d = omega arith
source_more (e ∷ ds) d = let rest = source_more ds d in omega (arith, rest)

-- ---- types

type_within : (t : TypeTree) → type_size t ≤ written t + 2
type_within (type.Int at) = omega arith
type_within (type.Boolean at) = omega arith
type_within (type.Class id) = omega arith

result_within : (r : Option TypeTree) → result_size r ≤ written_result r + 2
result_within None = omega arith
result_within (Some t) = type_within t

-- ---- builders of declarations

next_decl_pays : (vs : Values) → Fine vs → Pays 0 vs (next_decl vs)
next_decl_pays (decl d ∷ source ds ∷ vs) h =
    let more = source_more ds d in (omega (arith, more), (tt, h.1.1))
next_decl_pays vs h = same 0 vs h

exception_decl_pays : (vs : Values) → Fine vs → Pays 0 vs (exception_decl vs)
exception_decl_pays (tok x ∷ vs) h = (omega (arith, h.0.0, h.0.1), (tt, h.1))
exception_decl_pays vs h = same 0 vs h

class_decl_pays : (vs : Values) → Fine vs → Pays 0 vs (class_decl vs)
class_decl_pays (members ms ∷ may_whole p ∷ tok x ∷ vs) h =
    let name = h.1.1.0 in (omega (arith, name.0, name.1), (tt, h.1.1.1))
class_decl_pays vs h = same 0 vs h

inferred_field_pays : (vs : Values) → Fine vs → Pays 2 vs (inferred_field vs)
inferred_field_pays (tok x ∷ typed t ∷ flag s ∷ members ms ∷ vs) h =
    let more = fields_more ms.fields (record {
      id = ident x;
      is_static = s;
      ty = t;
      policy = None;
      inferred = true;
    }) in
    let two = type_within t in
    (omega (arith, h.0.0, h.0.1, more, two), (tt, h.1.1.1.1))
inferred_field_pays vs h = same 2 vs h

field_pays : (vs : Values) → Fine vs → Pays 2 vs (field vs)
field_pays (tok x ∷ typed t ∷ flag s ∷ may_whole p ∷ members ms ∷ vs) h =
    let more = fields_more ms.fields (record {
      id = ident x;
      is_static = s;
      ty = t;
      policy = p;
      inferred = false;
    }) in
    let two = type_within t in
    (omega (arith, h.0.0, h.0.1, more, two), (tt, h.1.1.1.1.1))
field_pays vs h = same 2 vs h

channel_pays : (i : Bool) (n : ℕ) → cond i 3 4 ≤ n → (vs : Values) → Fine vs
    → Pays n vs (channel i vs)
channel_pays i n most (tok x ∷ may_whole p ∷ members ms ∷ vs) h =
    let more = channels_more ms.channels (record { id = ident x; is_input = i; policy = p }) in
    (omega (arith, h.0.0, h.0.1, more, most), (tt, h.1.1.1))
channel_pays i n most vs h = same n vs h

some_result_pays : (vs : Values) → Fine vs → Pays 0 vs (some_result vs)
some_result_pays (tok x ∷ typed t ∷ vs) h = (omega arith, (h.0, (tt, h.1.1)))
some_result_pays vs h = same 0 vs h

next_method_pays : (vs : Values) → Fine vs → Pays 3 vs (next_method vs)
next_method_pays
    (braces b ∷ says e ∷ listed ps ∷ tok x ∷ gives r ∷ flag s ∷ may_whole p ∷ members ms ∷ vs) h =
    let name = h.1.1.1.0 in
    let two = result_within r in
    let more = methods_more ms.methods (record {
      id = ident x;
      is_static = s;
      result = r;
      policy = p;
      params = ps;
      effects = e.writes;
      expects = e.expects;
      opens = e.opens;
      closes = e.closes;
      throws = e.throws;
      body = b;
    }) in
    (omega (arith, name.0, name.1, more, two), (tt, h.1.1.1.1.1.1.1.1))
next_method_pays vs h = same 3 vs h

one_param_pays : (vs : Values) → Fine vs → Pays 1 vs (one_param vs)
one_param_pays (tok x ∷ typed t ∷ flag n ∷ may_whole p ∷ vs) h =
    let two = type_within t in (omega (arith, h.0.0, two), (tt, h.1.1.1.1))
one_param_pays vs h = same 1 vs h

next_param_pays : (vs : Values) → Fine vs → Pays 0 vs (next_param vs)
next_param_pays (param p ∷ listed ps ∷ vs) h =
    let more = params_more ps p in (omega (arith, more), (tt, h.1.1))
next_param_pays vs h = same 0 vs h

class_type_pays : (vs : Values) → Fine vs → Pays 0 vs (class_type vs)
class_type_pays (tok x ∷ vs) h = (omega (arith, h.0.0, h.0.1), (tt, h.1))
class_type_pays vs h = same 0 vs h

whole_block_pays : (vs : Values) → Fine vs → Pays 0 vs (whole_block vs)
whole_block_pays (stas ss ∷ tok x ∷ vs) h = let name = h.1.0 in (omega (arith, name.0), (tt, h.1.1))
whole_block_pays vs h = same 0 vs h

-- ---- other builders

actors_decl_pays : (vs : Values) → Fine vs → Pays 0 vs (actors_decl vs)
actors_decl_pays (idents ids ∷ vs) h = (omega arith, (tt, h.1))
actors_decl_pays vs h = same 0 vs h

lock_decl_pays : (vs : Values) → Fine vs → Pays 0 vs (lock_decl vs)
lock_decl_pays (may_whole p ∷ many n ∷ tok x ∷ vs) h = (omega arith, (tt, h.1.1.1))
lock_decl_pays vs h = same 0 vs h

policy_decl_pays : (vs : Values) → Fine vs → Pays 0 vs (policy_decl vs)
policy_decl_pays (whole p ∷ tok x ∷ vs) h = (omega arith, (tt, h.1.1))
policy_decl_pays vs h = same 0 vs h

next_ident_pays : (vs : Values) → Fine vs → Pays 0 vs (next_ident vs)
next_ident_pays (tok x ∷ idents ids ∷ vs) h = (omega arith, (tt, h.1.1))
next_ident_pays vs h = same 0 vs h

next_write_pays : (vs : Values) → Fine vs → Pays 0 vs (next_write vs)
next_write_pays (whole p ∷ says e ∷ vs) h = (omega arith, (tt, h.1.1))
next_write_pays vs h = same 0 vs h

next_expect_pays : (vs : Values) → Fine vs → Pays 0 vs (next_expect vs)
next_expect_pays (lock l ∷ says e ∷ vs) h = (omega arith, (tt, h.1.1))
next_expect_pays vs h = same 0 vs h

next_open_pays : (vs : Values) → Fine vs → Pays 0 vs (next_open vs)
next_open_pays (lock l ∷ says e ∷ vs) h = (omega arith, (tt, h.1.1))
next_open_pays vs h = same 0 vs h

next_close_pays : (vs : Values) → Fine vs → Pays 0 vs (next_close vs)
next_close_pays (lock l ∷ says e ∷ vs) h = (omega arith, (tt, h.1.1))
next_close_pays vs h = same 0 vs h

next_throw_pays : (vs : Values) → Fine vs → Pays 0 vs (next_throw vs)
next_throw_pays (whole p ∷ tok x ∷ says e ∷ vs) h = (omega arith, (tt, h.1.1.1))
next_throw_pays vs h = same 0 vs h

int_type_pays : (vs : Values) → Fine vs → Pays 0 vs (int_type vs)
int_type_pays (tok x ∷ vs) h = (omega arith, (tt, h.1))
int_type_pays vs h = same 0 vs h

boolean_type_pays : (vs : Values) → Fine vs → Pays 0 vs (boolean_type vs)
boolean_type_pays (tok x ∷ vs) h = (omega arith, (tt, h.1))
boolean_type_pays vs h = same 0 vs h

some_policy_pays : (vs : Values) → Fine vs → Pays 0 vs (some_policy vs)
some_policy_pays (whole p ∷ vs) h = (omega arith, (tt, h.1))
some_policy_pays vs h = same 0 vs h

first_term_pays : (vs : Values) → Fine vs → Pays 0 vs (first_term vs)
first_term_pays (term t at ∷ vs) h = (omega arith, (tt, h.1))
first_term_pays vs h = same 0 vs h

next_term_pays : (vs : Values) → Fine vs → Pays 0 vs (next_term vs)
next_term_pays (term t at ∷ whole p ∷ vs) h = (omega arith, (tt, h.1.1))
next_term_pays vs h = same 0 vs h

clauses_term_pays : (vs : Values) → Fine vs → Pays 0 vs (clauses_term vs)
clauses_term_pays (clauses cs ∷ tok x ∷ vs) h = (omega arith, (tt, h.1.1))
clauses_term_pays vs h = same 0 vs h

named_term_pays : (vs : Values) → Fine vs → Pays 0 vs (named_term vs)
named_term_pays (tok x ∷ vs) h = (omega arith, (tt, h.1))
named_term_pays vs h = same 0 vs h

bottom_term_pays : (vs : Values) → Fine vs → Pays 0 vs (bottom_term vs)
bottom_term_pays (tok x ∷ vs) h = (omega arith, (tt, h.1))
bottom_term_pays vs h = same 0 vs h

top_term_pays : (vs : Values) → Fine vs → Pays 0 vs (top_term vs)
top_term_pays (tok x ∷ vs) h = (omega arith, (tt, h.1))
top_term_pays vs h = same 0 vs h

one_clause_pays : (vs : Values) → Fine vs → Pays 0 vs (one_clause vs)
one_clause_pays (needs ls ∷ tok x ∷ vs) h = (omega arith, (tt, h.1.1))
one_clause_pays vs h = same 0 vs h

next_clause_pays : (vs : Values) → Fine vs → Pays 0 vs (next_clause vs)
next_clause_pays (clause c ∷ clauses cs ∷ vs) h = (omega arith, (tt, h.1.1))
next_clause_pays vs h = same 0 vs h

one_lock_pays : (vs : Values) → Fine vs → Pays 0 vs (one_lock vs)
one_lock_pays (idents ids ∷ tok x ∷ vs) h = (omega arith, (tt, h.1.1))
one_lock_pays vs h = same 0 vs h

next_lock_pays : (vs : Values) → Fine vs → Pays 0 vs (next_lock vs)
next_lock_pays (lock l ∷ needs ls ∷ vs) h = (omega arith, (tt, h.1.1))
next_lock_pays vs h = same 0 vs h

next_stmt_pays : (vs : Values) → Fine vs → Pays 0 vs (next_stmt vs)
next_stmt_pays (sta s ∷ stas ss ∷ vs) h = (omega arith, (tt, h.1.1))
next_stmt_pays vs h = same 0 vs h

block_stmt_pays : (vs : Values) → Fine vs → Pays 0 vs (block_stmt vs)
block_stmt_pays (braces b ∷ vs) h = (omega arith, (tt, h.1))
block_stmt_pays vs h = same 0 vs h

if_stmt_pays : (vs : Values) → Fine vs → Pays 0 vs (if_stmt vs)
if_stmt_pays (other o ∷ braces b ∷ exp e ∷ tok x ∷ vs) h = (omega arith, (tt, h.1.1.1.1))
if_stmt_pays vs h = same 0 vs h

some_else_pays : (vs : Values) → Fine vs → Pays 0 vs (some_else vs)
some_else_pays (sta s ∷ vs) h = (omega arith, (tt, h.1))
some_else_pays vs h = same 0 vs h

while_stmt_pays : (vs : Values) → Fine vs → Pays 0 vs (while_stmt vs)
while_stmt_pays (braces b ∷ exp e ∷ tok x ∷ vs) h = (omega arith, (tt, h.1.1.1))
while_stmt_pays vs h = same 0 vs h

one_catch_pays : (vs : Values) → Fine vs → Pays 0 vs (one_catch vs)
one_catch_pays (braces b ∷ tok y ∷ tok x ∷ vs) h = (omega arith, (tt, h.1.1.1))
one_catch_pays vs h = same 0 vs h

next_catch_pays : (vs : Values) → Fine vs → Pays 0 vs (next_catch vs)
next_catch_pays (handler c ∷ catches cs ∷ vs) h = (omega arith, (tt, h.1.1))
next_catch_pays vs h = same 0 vs h

try_stmt_pays : (vs : Values) → Fine vs → Pays 0 vs (try_stmt vs)
try_stmt_pays (catches cs ∷ braces b ∷ tok x ∷ vs) h = (omega arith, (tt, h.1.1.1))
try_stmt_pays vs h = same 0 vs h

some_value_pays : (vs : Values) → Fine vs → Pays 0 vs (some_value vs)
some_value_pays (exp e ∷ vs) h = (omega arith, (tt, h.1))
some_value_pays vs h = same 0 vs h

return_stmt_pays : (vs : Values) → Fine vs → Pays 0 vs (return_stmt vs)
return_stmt_pays (may e ∷ tok x ∷ vs) h = (omega arith, (tt, h.1.1))
return_stmt_pays vs h = same 0 vs h

break_stmt_pays : (vs : Values) → Fine vs → Pays 0 vs (break_stmt vs)
break_stmt_pays (tok x ∷ vs) h = (omega arith, (tt, h.1))
break_stmt_pays vs h = same 0 vs h

continue_stmt_pays : (vs : Values) → Fine vs → Pays 0 vs (continue_stmt vs)
continue_stmt_pays (tok x ∷ vs) h = (omega arith, (tt, h.1))
continue_stmt_pays vs h = same 0 vs h

throw_stmt_pays : (vs : Values) → Fine vs → Pays 0 vs (throw_stmt vs)
throw_stmt_pays (tok y ∷ tok x ∷ vs) h = (omega arith, (tt, h.1.1))
throw_stmt_pays vs h = same 0 vs h

open_stmt_pays : (vs : Values) → Fine vs → Pays 0 vs (open_stmt vs)
open_stmt_pays (lock l ∷ tok x ∷ vs) h = (omega arith, (tt, h.1.1))
open_stmt_pays vs h = same 0 vs h

close_stmt_pays : (vs : Values) → Fine vs → Pays 0 vs (close_stmt vs)
close_stmt_pays (lock l ∷ tok x ∷ vs) h = (omega arith, (tt, h.1.1))
close_stmt_pays vs h = same 0 vs h

when_stmt_pays : (vs : Values) → Fine vs → Pays 0 vs (when_stmt vs)
when_stmt_pays (may_braces o ∷ braces b ∷ lock l ∷ tok x ∷ vs) h = (omega arith, (tt, h.1.1.1.1))
when_stmt_pays vs h = same 0 vs h

some_block_pays : (vs : Values) → Fine vs → Pays 0 vs (some_block vs)
some_block_pays (braces b ∷ vs) h = (omega arith, (tt, h.1))
some_block_pays vs h = same 0 vs h

local_stmt_pays : (vs : Values) → Fine vs → Pays 0 vs (local_stmt vs)
local_stmt_pays (exp e ∷ tok x ∷ typed t ∷ flag n ∷ may_whole p ∷ vs) h =
    (omega arith, (tt, h.1.1.1.1.1))
local_stmt_pays vs h = same 0 vs h

class_local_pays : (vs : Values) → Fine vs → Pays 0 vs (class_local vs)
class_local_pays (exp e ∷ tok y ∷ tok x ∷ vs) h = (omega arith, (tt, h.1.1.1))
class_local_pays vs h = same 0 vs h

assign_stmt_pays : (vs : Values) → Fine vs → Pays 0 vs (assign_stmt vs)
assign_stmt_pays (exp e ∷ tok x ∷ exp target ∷ vs) h = (omega arith, (tt, h.1.1.1))
assign_stmt_pays vs h = same 0 vs h

call_stmt_pays : (vs : Values) → Fine vs → Pays 0 vs (call_stmt vs)
call_stmt_pays (tok x ∷ exp e ∷ vs) h = (omega arith, (tt, h.1.1))
call_stmt_pays vs h = same 0 vs h

constant_pays : (vs : Values) → Fine vs → Pays 0 vs (constant vs)
constant_pays (tok x ∷ vs) h = (omega arith, (tt, h.1))
constant_pays vs h = same 0 vs h

true_expr_pays : (vs : Values) → Fine vs → Pays 0 vs (true_expr vs)
true_expr_pays (tok x ∷ vs) h = (omega arith, (tt, h.1))
true_expr_pays vs h = same 0 vs h

false_expr_pays : (vs : Values) → Fine vs → Pays 0 vs (false_expr vs)
false_expr_pays (tok x ∷ vs) h = (omega arith, (tt, h.1))
false_expr_pays vs h = same 0 vs h

null_expr_pays : (vs : Values) → Fine vs → Pays 0 vs (null_expr vs)
null_expr_pays (tok x ∷ vs) h = (omega arith, (tt, h.1))
null_expr_pays vs h = same 0 vs h

this_expr_pays : (vs : Values) → Fine vs → Pays 0 vs (this_expr vs)
this_expr_pays (tok x ∷ vs) h = (omega arith, (tt, h.1))
this_expr_pays vs h = same 0 vs h

create_pays : (vs : Values) → Fine vs → Pays 0 vs (create vs)
create_pays (tok y ∷ tok x ∷ vs) h = (omega arith, (tt, h.1.1))
create_pays vs h = same 0 vs h

variable_pays : (vs : Values) → Fine vs → Pays 0 vs (variable vs)
variable_pays (tok x ∷ vs) h = (omega arith, (tt, h.1))
variable_pays vs h = same 0 vs h

select_pays : (vs : Values) → Fine vs → Pays 0 vs (select vs)
select_pays (tok x ∷ exp e ∷ vs) h = (omega arith, (tt, h.1.1))
select_pays vs h = same 0 vs h

call_own_pays : (vs : Values) → Fine vs → Pays 0 vs (call_own vs)
call_own_pays (exps es ∷ tok x ∷ vs) h = (omega arith, (tt, h.1.1))
call_own_pays vs h = same 0 vs h

call_on_pays : (vs : Values) → Fine vs → Pays 0 vs (call_on vs)
call_on_pays (exps es ∷ tok x ∷ exp e ∷ vs) h = (omega arith, (tt, h.1.1.1))
call_on_pays vs h = same 0 vs h

negate_pays : (vs : Values) → Fine vs → Pays 0 vs (negate vs)
negate_pays (exp e ∷ tok x ∷ vs) h = (omega arith, (tt, h.1.1))
negate_pays vs h = same 0 vs h

invert_pays : (vs : Values) → Fine vs → Pays 0 vs (invert vs)
invert_pays (exp e ∷ tok x ∷ vs) h = (omega arith, (tt, h.1.1))
invert_pays vs h = same 0 vs h

binary_pays : (op : BinOp) (vs : Values) → Fine vs → Pays 0 vs (binary op vs)
binary_pays op (exp b ∷ tok x ∷ exp a ∷ vs) h = (omega arith, (tt, h.1.1.1))
binary_pays op vs h = same 0 vs h

next_arg_pays : (vs : Values) → Fine vs → Pays 0 vs (next_arg vs)
next_arg_pays (exp e ∷ exps es ∷ vs) h = (omega arith, (tt, h.1.1))
next_arg_pays vs h = same 0 vs h

-- ---- all builders

pub built_pays : (b : Builders) (vs : Values) → Fine vs → Pays (cost b) vs (built b vs)
built_pays g.NoDecls vs h = (omega arith, (tt, h))
built_pays g.NextDecl vs h = next_decl_pays vs h
built_pays g.ActorsDecl vs h = actors_decl_pays vs h
built_pays g.LockDecl vs h = lock_decl_pays vs h
built_pays g.PolicyDecl vs h = policy_decl_pays vs h
built_pays g.ExceptionDecl vs h = exception_decl_pays vs h
built_pays g.ClassDecl vs h = class_decl_pays vs h
built_pays g.NoIdents vs h = (omega arith, (tt, h))
built_pays g.NextIdent vs h = next_ident_pays vs h
built_pays (g.OfArity n) vs h = (omega arith, (tt, h))
built_pays g.NoMembers vs h = (omega arith, (tt, h))
built_pays g.InferredField vs h = inferred_field_pays vs h
built_pays g.InputChannel vs h = channel_pays true 3 (omega arith) vs h
built_pays g.OutputChannel vs h = channel_pays false 4 (omega arith) vs h
built_pays g.Field vs h = field_pays vs h
built_pays g.NextMethod vs h = next_method_pays vs h
built_pays g.IsStatic vs h = (omega arith, (tt, h))
built_pays g.IsInstance vs h = (omega arith, (tt, h))
built_pays g.NoResult vs h = (omega arith, (tt, h))
built_pays g.SomeResult vs h = some_result_pays vs h
built_pays g.NoParams vs h = (omega arith, (tt, h))
built_pays g.OneParam vs h = one_param_pays vs h
built_pays g.NextParam vs h = next_param_pays vs h
built_pays g.IsNotnull vs h = (omega arith, (tt, h))
built_pays g.MayBeNull vs h = (omega arith, (tt, h))
built_pays g.NoEffects vs h = (omega arith, (tt, h))
built_pays g.NextWrite vs h = next_write_pays vs h
built_pays g.NextExpect vs h = next_expect_pays vs h
built_pays g.NextOpen vs h = next_open_pays vs h
built_pays g.NextClose vs h = next_close_pays vs h
built_pays g.NextThrow vs h = next_throw_pays vs h
built_pays g.IntType vs h = int_type_pays vs h
built_pays g.BooleanType vs h = boolean_type_pays vs h
built_pays g.ClassType vs h = class_type_pays vs h
built_pays g.NoPolicy vs h = (omega arith, (tt, h))
built_pays g.SomePolicy vs h = some_policy_pays vs h
built_pays g.FirstTerm vs h = first_term_pays vs h
built_pays g.NextTerm vs h = next_term_pays vs h
built_pays g.ClausesTerm vs h = clauses_term_pays vs h
built_pays g.NamedTerm vs h = named_term_pays vs h
built_pays g.BottomTerm vs h = bottom_term_pays vs h
built_pays g.TopTerm vs h = top_term_pays vs h
built_pays g.NoClauses vs h = (omega arith, (tt, h))
built_pays g.OneClause vs h = one_clause_pays vs h
built_pays g.NextClause vs h = next_clause_pays vs h
built_pays g.NoLocks vs h = (omega arith, (tt, h))
built_pays g.NextLock vs h = next_lock_pays vs h
built_pays g.OneLock vs h = one_lock_pays vs h
built_pays g.NoStmts vs h = (omega arith, (tt, h))
built_pays g.NextStmt vs h = next_stmt_pays vs h
built_pays g.WholeBlock vs h = whole_block_pays vs h
built_pays g.BlockStmt vs h = block_stmt_pays vs h
built_pays g.IfStmt vs h = if_stmt_pays vs h
built_pays g.NoElse vs h = (omega arith, (tt, h))
built_pays g.SomeElse vs h = some_else_pays vs h
built_pays g.WhileStmt vs h = while_stmt_pays vs h
built_pays g.NoCatches vs h = (omega arith, (tt, h))
built_pays g.OneCatch vs h = one_catch_pays vs h
built_pays g.NextCatch vs h = next_catch_pays vs h
built_pays g.TryStmt vs h = try_stmt_pays vs h
built_pays g.NoValue vs h = (omega arith, (tt, h))
built_pays g.SomeValue vs h = some_value_pays vs h
built_pays g.ReturnStmt vs h = return_stmt_pays vs h
built_pays g.BreakStmt vs h = break_stmt_pays vs h
built_pays g.ContinueStmt vs h = continue_stmt_pays vs h
built_pays g.ThrowStmt vs h = throw_stmt_pays vs h
built_pays g.OpenStmt vs h = open_stmt_pays vs h
built_pays g.CloseStmt vs h = close_stmt_pays vs h
built_pays g.WhenStmt vs h = when_stmt_pays vs h
built_pays g.NoBlock vs h = (omega arith, (tt, h))
built_pays g.SomeBlock vs h = some_block_pays vs h
built_pays g.LocalStmt vs h = local_stmt_pays vs h
built_pays g.ClassLocal vs h = class_local_pays vs h
built_pays g.AssignStmt vs h = assign_stmt_pays vs h
built_pays g.CallStmt vs h = call_stmt_pays vs h
built_pays g.Constant vs h = constant_pays vs h
built_pays g.TrueExpr vs h = true_expr_pays vs h
built_pays g.FalseExpr vs h = false_expr_pays vs h
built_pays g.NullExpr vs h = null_expr_pays vs h
built_pays g.ThisExpr vs h = this_expr_pays vs h
built_pays g.Create vs h = create_pays vs h
built_pays g.Variable vs h = variable_pays vs h
built_pays g.Select vs h = select_pays vs h
built_pays g.CallOwn vs h = call_own_pays vs h
built_pays g.CallOn vs h = call_on_pays vs h
built_pays g.Negate vs h = negate_pays vs h
built_pays g.Invert vs h = invert_pays vs h
built_pays (g.Binary op) vs h = binary_pays op vs h
built_pays g.NoArgs vs h = (omega arith, (tt, h))
built_pays g.NextArg vs h = next_arg_pays vs h
