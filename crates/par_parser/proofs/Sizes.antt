-- A source has at most as many nodes of bodies and parameters as there are tokens.
use Rattle.std.proofs.Common.{◌≡◌, ℕ, ◌+◌, ◌≤◌, Bool, true, false, [], ◌∷◌, length, arith, refl}
use Rattle.std.proofs.Math.Nat.{le_refl}
use Rattle.std.proofs.lemmas.List.{length-append}
use Rattle.std.proofs.lemmas.List.Sums.{sum_by_push}
use Rattle.par_lexer.specs.declared.operator.BinOp.{BinOp}
use Rattle.par_stmts.proofs.par_reader.Sizes as sizes
use Rattle.par_tree.specs.Plain.{Exp, Exps, NoExps, More, Sta, Braces, In, Stas, End, Then, Catches}
use Rattle.par_tree.specs.Plain.{NoCatch, Catch, Handler, with_exp, with_sta, with_catch}
use Rattle.par_tree.specs.Nodes.{nodes, may_nodes, args_nodes, stmt_nodes, braces_nodes}
use Rattle.par_tree.specs.Nodes.{may_braces_nodes, else_nodes, all_nodes, catch_nodes}
use Rattle.par_tree.specs.Nodes.{handler_nodes}
use Rattle.par_tree.specs.Grammar.{Builders}
use Rattle.par_tree.specs.Grammar as g
use Rattle.par_tree.specs.Values.{Value, Values, tok, exp, exps, may, braces, may_braces, sta, stas}
use Rattle.par_tree.specs.Values.{other, handler, catches, term, whole, may_whole, clause, clauses}
use Rattle.par_tree.specs.Values.{lock, needs, idents, typed, gives, flag, many, param, listed}
use Rattle.par_tree.specs.Values.{says, members, decl, source}
use Rattle.par_tree.specs.Values.{paragon, built, ident, as_stmt}
use Rattle.par_tree.specs.Values.{next_decl, actors_decl, lock_decl, policy_decl, exception_decl}
use Rattle.par_tree.specs.Values.{class_decl, next_ident, inferred_field, field}
use Rattle.par_tree.specs.Values.{channel, some_result, next_method, one_param, next_param}
use Rattle.par_tree.specs.Values.{next_write, next_expect, next_open, next_close}
use Rattle.par_tree.specs.Values.{next_throw, int_type, boolean_type, class_type, some_policy}
use Rattle.par_tree.specs.Values.{first_term, next_term, clauses_term, named_term}
use Rattle.par_tree.specs.Values.{bottom_term, top_term, one_clause, next_clause, one_lock}
use Rattle.par_tree.specs.Values.{next_lock, next_stmt, whole_block, block_stmt}
use Rattle.par_tree.specs.Values.{if_stmt, some_else, while_stmt, one_catch, next_catch, try_stmt}
use Rattle.par_tree.specs.Values.{some_value, return_stmt, break_stmt}
use Rattle.par_tree.specs.Values.{continue_stmt, throw_stmt, open_stmt, close_stmt, when_stmt}
use Rattle.par_tree.specs.Values.{some_block, local_stmt, class_local, assign_stmt}
use Rattle.par_tree.specs.Values.{call_stmt, constant, true_expr, false_expr, null_expr, this_expr}
use Rattle.par_tree.specs.Values.{create, variable, select}
use Rattle.par_tree.specs.Values.{call_own, call_on, negate, invert, binary, next_arg}
use Rattle.par_parser.specs.Bodies.{method_size, methods_size, declaration_size, source_size}

-- the nodes in a value; a token that is kept counts as one
abbrev pub weight : Value → ℕ
weight (tok x) = 1
weight (exp e) = nodes e
weight (exps es) = args_nodes es
weight (may o) = may_nodes o
weight (braces b) = braces_nodes b
weight (may_braces o) = may_braces_nodes o
weight (sta s) = stmt_nodes s
weight (stas ss) = all_nodes ss
weight (other o) = else_nodes o
weight (handler h) = handler_nodes h
weight (catches cs) = catch_nodes cs
weight (param p) = 1
weight (listed ps) = length ps
weight (members m) = methods_size m.methods
weight (decl d) = declaration_size d
weight (source ds) = source_size ds
weight _ = 0

abbrev total : Values → ℕ
total vs = sizes.total paragon weight vs

more_exps : (es : Exps) (e : Exp) → args_nodes (with_exp es e) ≡ args_nodes es + nodes e
unfolding with_exp args_nodes
more_exps NoExps e = omega arith
more_exps (More x es) e = omega (arith, more_exps es e)

more_stas : (ss : Stas) (s : Sta) → all_nodes (with_sta ss s) ≡ all_nodes ss + stmt_nodes s
unfolding with_sta all_nodes
more_stas End s = omega arith
more_stas (Then x ss) s = omega (arith, more_stas ss s)

more_catches : (cs : Catches) (h : Handler)
    → catch_nodes (with_catch cs h) ≡ catch_nodes cs + handler_nodes h
unfolding with_catch catch_nodes
more_catches NoCatch h = omega arith
more_catches (Catch x cs) h = omega (arith, more_catches cs h)

as_stmt_size : (b : Braces) → stmt_nodes (as_stmt b) ≡ braces_nodes b
unfolding stmt_nodes
as_stmt_size (In ss at) = refl

-- No builder adds.
next_decl_size : (vs : Values) → total (next_decl vs) ≤ total vs
next_decl_size (decl d ∷ source ds ∷ vs) = omega (arith, sum_by_push declaration_size ds d)
next_decl_size vs = le_refl (total vs)

actors_decl_size : (vs : Values) → total (actors_decl vs) ≤ total vs
actors_decl_size (idents ids ∷ vs) = omega arith
actors_decl_size vs = le_refl (total vs)

lock_decl_size : (vs : Values) → total (lock_decl vs) ≤ total vs
lock_decl_size (may_whole p ∷ many n ∷ tok x ∷ vs) = omega arith
lock_decl_size vs = le_refl (total vs)

policy_decl_size : (vs : Values) → total (policy_decl vs) ≤ total vs
policy_decl_size (whole p ∷ tok x ∷ vs) = omega arith
policy_decl_size vs = le_refl (total vs)

exception_decl_size : (vs : Values) → total (exception_decl vs) ≤ total vs
exception_decl_size (tok x ∷ vs) = omega arith
exception_decl_size vs = le_refl (total vs)

class_decl_size : (vs : Values) → total (class_decl vs) ≤ total vs
class_decl_size (members m ∷ may_whole p ∷ tok x ∷ vs) = omega arith
class_decl_size vs = le_refl (total vs)

next_ident_size : (vs : Values) → total (next_ident vs) ≤ total vs
next_ident_size (tok x ∷ idents ids ∷ vs) = omega arith
next_ident_size vs = le_refl (total vs)

inferred_field_size : (vs : Values) → total (inferred_field vs) ≤ total vs
inferred_field_size (tok x ∷ typed t ∷ flag s ∷ members m ∷ vs) = omega arith
inferred_field_size vs = le_refl (total vs)

field_size : (vs : Values) → total (field vs) ≤ total vs
field_size (tok x ∷ typed t ∷ flag s ∷ may_whole p ∷ members m ∷ vs) = omega arith
field_size vs = le_refl (total vs)

channel_size : (is_input : Bool) (vs : Values) → total (channel is_input vs) ≤ total vs
channel_size is_input (tok x ∷ may_whole p ∷ members m ∷ vs) = omega arith
channel_size is_input vs = le_refl (total vs)

some_result_size : (vs : Values) → total (some_result vs) ≤ total vs
some_result_size (tok x ∷ typed t ∷ vs) = omega arith
some_result_size vs = le_refl (total vs)

next_method_size : (vs : Values) → total (next_method vs) ≤ total vs
next_method_size (braces b ∷ says e ∷ listed ps ∷ tok x ∷ gives r ∷ flag s ∷ may_whole p ∷ members m
    ∷ vs) = omega (
      arith,
      sum_by_push method_size m.methods (record {
        id = ident x;
        is_static = s;
        result = r;
        policy = p;
        params = ps;
        effects = e.writes;
        expects = e.expects;
        opens = e.opens;
        closes = e.closes;
        throws = e.throws;
        body = b;
      }),
    )
next_method_size vs = le_refl (total vs)

one_param_size : (vs : Values) → total (one_param vs) ≤ total vs
one_param_size (tok x ∷ typed t ∷ flag n ∷ may_whole p ∷ vs) = omega arith
one_param_size vs = le_refl (total vs)

next_param_size : (vs : Values) → total (next_param vs) ≤ total vs
next_param_size (param p ∷ listed ps ∷ vs) = omega (arith, length-append ps (p ∷ []))
next_param_size vs = le_refl (total vs)

next_write_size : (vs : Values) → total (next_write vs) ≤ total vs
next_write_size (whole p ∷ says e ∷ vs) = omega arith
next_write_size vs = le_refl (total vs)

next_expect_size : (vs : Values) → total (next_expect vs) ≤ total vs
next_expect_size (lock l ∷ says e ∷ vs) = omega arith
next_expect_size vs = le_refl (total vs)

next_open_size : (vs : Values) → total (next_open vs) ≤ total vs
next_open_size (lock l ∷ says e ∷ vs) = omega arith
next_open_size vs = le_refl (total vs)

next_close_size : (vs : Values) → total (next_close vs) ≤ total vs
next_close_size (lock l ∷ says e ∷ vs) = omega arith
next_close_size vs = le_refl (total vs)

next_throw_size : (vs : Values) → total (next_throw vs) ≤ total vs
next_throw_size (whole p ∷ tok x ∷ says e ∷ vs) = omega arith
next_throw_size vs = le_refl (total vs)

int_type_size : (vs : Values) → total (int_type vs) ≤ total vs
int_type_size (tok x ∷ vs) = omega arith
int_type_size vs = le_refl (total vs)

boolean_type_size : (vs : Values) → total (boolean_type vs) ≤ total vs
boolean_type_size (tok x ∷ vs) = omega arith
boolean_type_size vs = le_refl (total vs)

class_type_size : (vs : Values) → total (class_type vs) ≤ total vs
class_type_size (tok x ∷ vs) = omega arith
class_type_size vs = le_refl (total vs)

some_policy_size : (vs : Values) → total (some_policy vs) ≤ total vs
some_policy_size (whole p ∷ vs) = omega arith
some_policy_size vs = le_refl (total vs)

first_term_size : (vs : Values) → total (first_term vs) ≤ total vs
first_term_size (term t at ∷ vs) = omega arith
first_term_size vs = le_refl (total vs)

next_term_size : (vs : Values) → total (next_term vs) ≤ total vs
next_term_size (term t at ∷ whole p ∷ vs) = omega arith
next_term_size vs = le_refl (total vs)

clauses_term_size : (vs : Values) → total (clauses_term vs) ≤ total vs
clauses_term_size (clauses cs ∷ tok x ∷ vs) = omega arith
clauses_term_size vs = le_refl (total vs)

named_term_size : (vs : Values) → total (named_term vs) ≤ total vs
named_term_size (tok x ∷ vs) = omega arith
named_term_size vs = le_refl (total vs)

bottom_term_size : (vs : Values) → total (bottom_term vs) ≤ total vs
bottom_term_size (tok x ∷ vs) = omega arith
bottom_term_size vs = le_refl (total vs)

top_term_size : (vs : Values) → total (top_term vs) ≤ total vs
top_term_size (tok x ∷ vs) = omega arith
top_term_size vs = le_refl (total vs)

one_clause_size : (vs : Values) → total (one_clause vs) ≤ total vs
one_clause_size (needs ls ∷ tok x ∷ vs) = omega arith
one_clause_size vs = le_refl (total vs)

next_clause_size : (vs : Values) → total (next_clause vs) ≤ total vs
next_clause_size (clause c ∷ clauses cs ∷ vs) = omega arith
next_clause_size vs = le_refl (total vs)

one_lock_size : (vs : Values) → total (one_lock vs) ≤ total vs
one_lock_size (idents ids ∷ tok x ∷ vs) = omega arith
one_lock_size vs = le_refl (total vs)

next_lock_size : (vs : Values) → total (next_lock vs) ≤ total vs
next_lock_size (lock l ∷ needs ls ∷ vs) = omega arith
next_lock_size vs = le_refl (total vs)

next_stmt_size : (vs : Values) → total (next_stmt vs) ≤ total vs
next_stmt_size (sta s ∷ stas ss ∷ vs) = omega (arith, more_stas ss s)
next_stmt_size vs = le_refl (total vs)

whole_block_size : (vs : Values) → total (whole_block vs) ≤ total vs
unfolding braces_nodes
whole_block_size (stas ss ∷ tok x ∷ vs) = omega arith
whole_block_size vs = le_refl (total vs)

block_stmt_size : (vs : Values) → total (block_stmt vs) ≤ total vs
block_stmt_size (braces b ∷ vs) = omega (arith, as_stmt_size b)
block_stmt_size vs = le_refl (total vs)

if_stmt_size : (vs : Values) → total (if_stmt vs) ≤ total vs
unfolding stmt_nodes
if_stmt_size (other o ∷ braces b ∷ exp e ∷ tok x ∷ vs) = omega arith
if_stmt_size vs = le_refl (total vs)

some_else_size : (vs : Values) → total (some_else vs) ≤ total vs
unfolding else_nodes
some_else_size (sta s ∷ vs) = omega arith
some_else_size vs = le_refl (total vs)

while_stmt_size : (vs : Values) → total (while_stmt vs) ≤ total vs
unfolding stmt_nodes
while_stmt_size (braces b ∷ exp e ∷ tok x ∷ vs) = omega arith
while_stmt_size vs = le_refl (total vs)

one_catch_size : (vs : Values) → total (one_catch vs) ≤ total vs
unfolding handler_nodes
one_catch_size (braces b ∷ tok y ∷ tok x ∷ vs) = omega arith
one_catch_size vs = le_refl (total vs)

next_catch_size : (vs : Values) → total (next_catch vs) ≤ total vs
next_catch_size (handler h ∷ catches cs ∷ vs) = omega (arith, more_catches cs h)
next_catch_size vs = le_refl (total vs)

try_stmt_size : (vs : Values) → total (try_stmt vs) ≤ total vs
unfolding stmt_nodes
try_stmt_size (catches cs ∷ braces b ∷ tok x ∷ vs) = omega arith
try_stmt_size vs = le_refl (total vs)

some_value_size : (vs : Values) → total (some_value vs) ≤ total vs
unfolding may_nodes
some_value_size (exp e ∷ vs) = omega arith
some_value_size vs = le_refl (total vs)

return_stmt_size : (vs : Values) → total (return_stmt vs) ≤ total vs
unfolding stmt_nodes
return_stmt_size (may e ∷ tok x ∷ vs) = omega arith
return_stmt_size vs = le_refl (total vs)

break_stmt_size : (vs : Values) → total (break_stmt vs) ≤ total vs
unfolding stmt_nodes
break_stmt_size (tok x ∷ vs) = omega arith
break_stmt_size vs = le_refl (total vs)

continue_stmt_size : (vs : Values) → total (continue_stmt vs) ≤ total vs
unfolding stmt_nodes
continue_stmt_size (tok x ∷ vs) = omega arith
continue_stmt_size vs = le_refl (total vs)

throw_stmt_size : (vs : Values) → total (throw_stmt vs) ≤ total vs
unfolding stmt_nodes
throw_stmt_size (tok y ∷ tok x ∷ vs) = omega arith
throw_stmt_size vs = le_refl (total vs)

open_stmt_size : (vs : Values) → total (open_stmt vs) ≤ total vs
unfolding stmt_nodes
open_stmt_size (lock l ∷ tok x ∷ vs) = omega arith
open_stmt_size vs = le_refl (total vs)

close_stmt_size : (vs : Values) → total (close_stmt vs) ≤ total vs
unfolding stmt_nodes
close_stmt_size (lock l ∷ tok x ∷ vs) = omega arith
close_stmt_size vs = le_refl (total vs)

when_stmt_size : (vs : Values) → total (when_stmt vs) ≤ total vs
unfolding stmt_nodes
when_stmt_size (may_braces o ∷ braces b ∷ lock l ∷ tok x ∷ vs) = omega arith
when_stmt_size vs = le_refl (total vs)

some_block_size : (vs : Values) → total (some_block vs) ≤ total vs
unfolding may_braces_nodes
some_block_size (braces b ∷ vs) = omega arith
some_block_size vs = le_refl (total vs)

local_stmt_size : (vs : Values) → total (local_stmt vs) ≤ total vs
unfolding stmt_nodes
local_stmt_size (exp e ∷ tok x ∷ typed t ∷ flag n ∷ may_whole p ∷ vs) = omega arith
local_stmt_size vs = le_refl (total vs)

class_local_size : (vs : Values) → total (class_local vs) ≤ total vs
unfolding stmt_nodes
class_local_size (exp e ∷ tok y ∷ tok x ∷ vs) = omega arith
class_local_size vs = le_refl (total vs)

assign_stmt_size : (vs : Values) → total (assign_stmt vs) ≤ total vs
unfolding stmt_nodes
assign_stmt_size (exp e ∷ tok x ∷ exp target ∷ vs) = omega arith
assign_stmt_size vs = le_refl (total vs)

call_stmt_size : (vs : Values) → total (call_stmt vs) ≤ total vs
unfolding stmt_nodes
call_stmt_size (tok x ∷ exp e ∷ vs) = omega arith
call_stmt_size vs = le_refl (total vs)

constant_size : (vs : Values) → total (constant vs) ≤ total vs
unfolding nodes
constant_size (tok x ∷ vs) = omega arith
constant_size vs = le_refl (total vs)

true_expr_size : (vs : Values) → total (true_expr vs) ≤ total vs
unfolding nodes
true_expr_size (tok x ∷ vs) = omega arith
true_expr_size vs = le_refl (total vs)

false_expr_size : (vs : Values) → total (false_expr vs) ≤ total vs
unfolding nodes
false_expr_size (tok x ∷ vs) = omega arith
false_expr_size vs = le_refl (total vs)

null_expr_size : (vs : Values) → total (null_expr vs) ≤ total vs
unfolding nodes
null_expr_size (tok x ∷ vs) = omega arith
null_expr_size vs = le_refl (total vs)

this_expr_size : (vs : Values) → total (this_expr vs) ≤ total vs
unfolding nodes
this_expr_size (tok x ∷ vs) = omega arith
this_expr_size vs = le_refl (total vs)

create_size : (vs : Values) → total (create vs) ≤ total vs
unfolding nodes
create_size (tok y ∷ tok x ∷ vs) = omega arith
create_size vs = le_refl (total vs)

variable_size : (vs : Values) → total (variable vs) ≤ total vs
unfolding nodes
variable_size (tok x ∷ vs) = omega arith
variable_size vs = le_refl (total vs)

select_size : (vs : Values) → total (select vs) ≤ total vs
unfolding nodes
select_size (tok x ∷ exp e ∷ vs) = omega arith
select_size vs = le_refl (total vs)

call_own_size : (vs : Values) → total (call_own vs) ≤ total vs
unfolding nodes may_nodes
call_own_size (exps es ∷ tok x ∷ vs) = omega arith
call_own_size vs = le_refl (total vs)

call_on_size : (vs : Values) → total (call_on vs) ≤ total vs
unfolding nodes may_nodes
call_on_size (exps es ∷ tok x ∷ exp e ∷ vs) = omega arith
call_on_size vs = le_refl (total vs)

negate_size : (vs : Values) → total (negate vs) ≤ total vs
unfolding nodes
negate_size (exp e ∷ tok x ∷ vs) = omega arith
negate_size vs = le_refl (total vs)

invert_size : (vs : Values) → total (invert vs) ≤ total vs
unfolding nodes
invert_size (exp e ∷ tok x ∷ vs) = omega arith
invert_size vs = le_refl (total vs)

binary_size : (op : BinOp) (vs : Values) → total (binary op vs) ≤ total vs
unfolding nodes
binary_size op (exp b ∷ tok x ∷ exp a ∷ vs) = omega arith
binary_size op vs = le_refl (total vs)

next_arg_size : (vs : Values) → total (next_arg vs) ≤ total vs
next_arg_size (exp e ∷ exps es ∷ vs) = omega (arith, more_exps es e)
next_arg_size vs = le_refl (total vs)

pub built_size : (b : Builders) (vs : Values) → total (built b vs) ≤ total vs
unfolding args_nodes all_nodes else_nodes catch_nodes may_nodes may_braces_nodes
built_size g.NoDecls vs = omega arith
built_size g.NextDecl vs = next_decl_size vs
built_size g.ActorsDecl vs = actors_decl_size vs
built_size g.LockDecl vs = lock_decl_size vs
built_size g.PolicyDecl vs = policy_decl_size vs
built_size g.ExceptionDecl vs = exception_decl_size vs
built_size g.ClassDecl vs = class_decl_size vs
built_size g.NoIdents vs = omega arith
built_size g.NextIdent vs = next_ident_size vs
built_size (g.OfArity n) vs = omega arith
built_size g.NoMembers vs = omega arith
built_size g.InferredField vs = inferred_field_size vs
built_size g.InputChannel vs = channel_size true vs
built_size g.OutputChannel vs = channel_size false vs
built_size g.Field vs = field_size vs
built_size g.NextMethod vs = next_method_size vs
built_size g.IsStatic vs = omega arith
built_size g.IsInstance vs = omega arith
built_size g.NoResult vs = omega arith
built_size g.SomeResult vs = some_result_size vs
built_size g.NoParams vs = omega arith
built_size g.OneParam vs = one_param_size vs
built_size g.NextParam vs = next_param_size vs
built_size g.IsNotnull vs = omega arith
built_size g.MayBeNull vs = omega arith
built_size g.NoEffects vs = omega arith
built_size g.NextWrite vs = next_write_size vs
built_size g.NextExpect vs = next_expect_size vs
built_size g.NextOpen vs = next_open_size vs
built_size g.NextClose vs = next_close_size vs
built_size g.NextThrow vs = next_throw_size vs
built_size g.IntType vs = int_type_size vs
built_size g.BooleanType vs = boolean_type_size vs
built_size g.ClassType vs = class_type_size vs
built_size g.NoPolicy vs = omega arith
built_size g.SomePolicy vs = some_policy_size vs
built_size g.FirstTerm vs = first_term_size vs
built_size g.NextTerm vs = next_term_size vs
built_size g.ClausesTerm vs = clauses_term_size vs
built_size g.NamedTerm vs = named_term_size vs
built_size g.BottomTerm vs = bottom_term_size vs
built_size g.TopTerm vs = top_term_size vs
built_size g.NoClauses vs = omega arith
built_size g.OneClause vs = one_clause_size vs
built_size g.NextClause vs = next_clause_size vs
built_size g.NoLocks vs = omega arith
built_size g.NextLock vs = next_lock_size vs
built_size g.OneLock vs = one_lock_size vs
built_size g.NoStmts vs = omega arith
built_size g.NextStmt vs = next_stmt_size vs
built_size g.WholeBlock vs = whole_block_size vs
built_size g.BlockStmt vs = block_stmt_size vs
built_size g.IfStmt vs = if_stmt_size vs
built_size g.NoElse vs = omega arith
built_size g.SomeElse vs = some_else_size vs
built_size g.WhileStmt vs = while_stmt_size vs
built_size g.NoCatches vs = omega arith
built_size g.OneCatch vs = one_catch_size vs
built_size g.NextCatch vs = next_catch_size vs
built_size g.TryStmt vs = try_stmt_size vs
built_size g.NoValue vs = omega arith
built_size g.SomeValue vs = some_value_size vs
built_size g.ReturnStmt vs = return_stmt_size vs
built_size g.BreakStmt vs = break_stmt_size vs
built_size g.ContinueStmt vs = continue_stmt_size vs
built_size g.ThrowStmt vs = throw_stmt_size vs
built_size g.OpenStmt vs = open_stmt_size vs
built_size g.CloseStmt vs = close_stmt_size vs
built_size g.WhenStmt vs = when_stmt_size vs
built_size g.NoBlock vs = omega arith
built_size g.SomeBlock vs = some_block_size vs
built_size g.LocalStmt vs = local_stmt_size vs
built_size g.ClassLocal vs = class_local_size vs
built_size g.AssignStmt vs = assign_stmt_size vs
built_size g.CallStmt vs = call_stmt_size vs
built_size g.Constant vs = constant_size vs
built_size g.TrueExpr vs = true_expr_size vs
built_size g.FalseExpr vs = false_expr_size vs
built_size g.NullExpr vs = null_expr_size vs
built_size g.ThisExpr vs = this_expr_size vs
built_size g.Create vs = create_size vs
built_size g.Variable vs = variable_size vs
built_size g.Select vs = select_size vs
built_size g.CallOwn vs = call_own_size vs
built_size g.CallOn vs = call_on_size vs
built_size g.Negate vs = negate_size vs
built_size g.Invert vs = invert_size vs
built_size (g.Binary op) vs = binary_size op vs
built_size g.NoArgs vs = omega arith
built_size g.NextArg vs = next_arg_size vs
