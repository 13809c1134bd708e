-- What a derivation builds: the tree of a source.
use Rattle.std.specs.Prelude.{ℕ, Bool, true, false, List, [], ◌∷◌, ◌++◌, Option, Some, None}
use Rattle.par_grammar.specs.par_lexer.declared.token.Token.{Token}
use Rattle.par_grammar.specs.par_lexer.declared.token.Kind.{Kind}
use Rattle.par_grammar.specs.par_lexer.declared.token.Kind.TheVariants as kind
use Rattle.par_grammar.specs.par_lexer.declared.operator.BinOp.{BinOp}
use Rattle.par_grammar.specs.Grammar.{Grammar}
use Rattle.par_tree.specs.declared.ident.Ident.{Ident}
use Rattle.par_tree.specs.declared.types.TypeTree.{TypeTree}
use Rattle.par_tree.specs.declared.types.TypeTree.TheVariants as type_tree
use Rattle.par_tree.specs.declared.policy.LockTree.{LockTree}
use Rattle.par_tree.specs.declared.policy.ClauseTree.{ClauseTree}
use Rattle.par_tree.specs.declared.policy.PolicyTerm.{PolicyTerm}
use Rattle.par_tree.specs.declared.policy.PolicyTerm.TheVariants as policy_term
use Rattle.par_tree.specs.declared.policy.PolicyExpr.{PolicyExpr}
use Rattle.par_tree.specs.declared.decl.FieldDecl.{FieldDecl}
use Rattle.par_tree.specs.declared.decl.ChannelDecl.{ChannelDecl}
use Rattle.par_tree.specs.declared.decl.ParamDecl.{ParamDecl}
use Rattle.par_tree.specs.declared.decl.ThrowDecl.{ThrowDecl}
use Rattle.par_tree.specs.Plain as plain
use Rattle.par_tree.specs.Plain.{Exp, Exps, MayExp, Sta, Stas, Braces, In, MayBraces, Else, Catches}
use Rattle.par_tree.specs.Plain.{Handler}
use Rattle.par_tree.specs.Plain.{Method, Class, Declaration, Source, place, with_exp}
use Rattle.par_tree.specs.Plain.{with_sta, with_catch}
use Rattle.par_tree.specs.Grammar.{Names, Builders, choices, otherwise}
use Rattle.par_tree.specs.Grammar as g

-- what the head of a method says behind its parameters
pub record Effects : Type 0 where
  pub writes : List PolicyExpr
  pub expects : List LockTree
  pub opens : List LockTree
  pub closes : List LockTree
  pub throws : List ThrowDecl

-- what stands in a class
pub record Members : Type 0 where
  pub fields : List FieldDecl
  pub channels : List ChannelDecl
  pub methods : List Method

pub data Value : Type 0 where
  tok : Token → Value
  exp : Exp → Value
  exps : Exps → Value
  may : MayExp → Value
  braces : Braces → Value
  may_braces : MayBraces → Value
  sta : Sta → Value
  stas : Stas → Value
  other : Else → Value
  handler : Handler → Value
  catches : Catches → Value
  -- a term of a policy, with its place
  term : PolicyTerm → ℕ → Value
  whole : PolicyExpr → Value
  may_whole : Option PolicyExpr → Value
  clause : ClauseTree → Value
  clauses : List ClauseTree → Value
  lock : LockTree → Value
  needs : List LockTree → Value
  idents : List Ident → Value
  typed : TypeTree → Value
  gives : Option TypeTree → Value
  flag : Bool → Value
  many : ℕ → Value
  param : ParamDecl → Value
  listed : List ParamDecl → Value
  says : Effects → Value
  members : Members → Value
  decl : Declaration → Value
  source : Source → Value

abbrev pub Values : Type 0
Values = List Value

-- the text of a name, the value of a number
abbrev pub text : Kind → List ℕ
text (kind.Name name) = name
text _ = []

abbrev pub number : Kind → ℕ
number (kind.Number n) = n
number _ = 0

abbrev pub ident : Token → Ident
ident x = record { name = text x.kind; at = x.from }

-- The last value is the first of the list. A builder leaves values that it does not fit.

-- declarations
abbrev pub next_decl : Values → Values
next_decl (decl d ∷ source ds ∷ vs) = source (ds ++ d ∷ []) ∷ vs
next_decl vs = vs

abbrev pub actors_decl : Values → Values
actors_decl (idents ids ∷ vs) = decl (plain.Actors ids) ∷ vs
actors_decl vs = vs

abbrev pub lock_decl : Values → Values
lock_decl (may_whole p ∷ many n ∷ tok x ∷ vs) =
    decl (plain.Lock (record { id = ident x; arity = n; policy = p })) ∷ vs
lock_decl vs = vs

abbrev pub policy_decl : Values → Values
policy_decl (whole p ∷ tok x ∷ vs) = decl (plain.Policy (record { id = ident x; policy = p })) ∷ vs
policy_decl vs = vs

abbrev pub exception_decl : Values → Values
exception_decl (tok x ∷ vs) =
    decl (plain.Declared (record {
      id = ident x;
      exception = true;
      birth = None;
      fields = [];
      channels = [];
      methods = [];
    })) ∷ vs
exception_decl vs = vs

abbrev pub class_decl : Values → Values
class_decl (members m ∷ may_whole p ∷ tok x ∷ vs) =
    decl (plain.Declared (record {
      id = ident x;
      exception = false;
      birth = p;
      fields = m.fields;
      channels = m.channels;
      methods = m.methods;
    })) ∷ vs
class_decl vs = vs

abbrev pub next_ident : Values → Values
next_ident (tok x ∷ idents ids ∷ vs) = idents (ids ++ ident x ∷ []) ∷ vs
next_ident vs = vs

-- members
abbrev pub no_members : Members
no_members = record { fields = []; channels = []; methods = [] }

abbrev pub with_field : Members → FieldDecl → Members
with_field m f = record m { fields = m.fields ++ f ∷ [] }

abbrev pub with_channel : Members → ChannelDecl → Members
with_channel m c = record m { channels = m.channels ++ c ∷ [] }

abbrev pub with_method : Members → Method → Members
with_method m x = record m { methods = m.methods ++ x ∷ [] }

abbrev pub inferred_field : Values → Values
inferred_field (tok x ∷ typed t ∷ flag s ∷ members m ∷ vs) =
    members (with_field m (record {
      id = ident x;
      is_static = s;
      ty = t;
      policy = None;
      inferred = true;
    })) ∷ vs
inferred_field vs = vs

abbrev pub field : Values → Values
field (tok x ∷ typed t ∷ flag s ∷ may_whole p ∷ members m ∷ vs) =
    members (with_field m (record {
      id = ident x;
      is_static = s;
      ty = t;
      policy = p;
      inferred = false;
    })) ∷ vs
field vs = vs

abbrev pub channel : Bool → Values → Values
channel is_input (tok x ∷ may_whole p ∷ members m ∷ vs) =
    members (with_channel m (record { id = ident x; is_input = is_input; policy = p })) ∷ vs
channel is_input vs = vs

abbrev pub some_result : Values → Values
some_result (tok x ∷ typed t ∷ vs) = tok x ∷ gives (Some t) ∷ vs
some_result vs = vs

abbrev pub next_method : Values → Values
next_method
    (braces b ∷ says e ∷ listed ps ∷ tok x ∷ gives r ∷ flag s ∷ may_whole p ∷ members m ∷ vs) =
    members (with_method m (record {
      id = ident x;
      is_static = s;
      result = r;
      policy = p;
      params = ps;
      effects = e.writes;
      expects = e.expects;
      opens = e.opens;
      closes = e.closes;
      throws = e.throws;
      body = b;
    })) ∷ vs
next_method vs = vs

abbrev pub one_param : Values → Values
one_param (tok x ∷ typed t ∷ flag n ∷ may_whole p ∷ vs) =
    param (record { id = ident x; ty = t; policy = p; notnull = n }) ∷ vs
one_param vs = vs

abbrev pub next_param : Values → Values
next_param (param p ∷ listed ps ∷ vs) = listed (ps ++ p ∷ []) ∷ vs
next_param vs = vs

-- effects
abbrev pub no_effects : Effects
no_effects = record { writes = []; expects = []; opens = []; closes = []; throws = [] }

abbrev pub next_write : Values → Values
next_write (whole p ∷ says e ∷ vs) = says (record e { writes = e.writes ++ p ∷ [] }) ∷ vs
next_write vs = vs

abbrev pub next_expect : Values → Values
next_expect (lock l ∷ says e ∷ vs) = says (record e { expects = e.expects ++ l ∷ [] }) ∷ vs
next_expect vs = vs

abbrev pub next_open : Values → Values
next_open (lock l ∷ says e ∷ vs) = says (record e { opens = e.opens ++ l ∷ [] }) ∷ vs
next_open vs = vs

abbrev pub next_close : Values → Values
next_close (lock l ∷ says e ∷ vs) = says (record e { closes = e.closes ++ l ∷ [] }) ∷ vs
next_close vs = vs

abbrev pub next_throw : Values → Values
next_throw (whole p ∷ tok x ∷ says e ∷ vs) =
    says (record e { throws = e.throws ++ record { class = ident x; policy = p } ∷ [] }) ∷ vs
next_throw vs = vs

-- types
abbrev pub int_type : Values → Values
int_type (tok x ∷ vs) = typed (type_tree.Int x.from) ∷ vs
int_type vs = vs

abbrev pub boolean_type : Values → Values
boolean_type (tok x ∷ vs) = typed (type_tree.Boolean x.from) ∷ vs
boolean_type vs = vs

abbrev pub class_type : Values → Values
class_type (tok x ∷ vs) = typed (type_tree.Class (ident x)) ∷ vs
class_type vs = vs

-- policies and locks
abbrev pub some_policy : Values → Values
some_policy (whole p ∷ vs) = may_whole (Some p) ∷ vs
some_policy vs = vs

abbrev pub first_term : Values → Values
first_term (term t at ∷ vs) = whole (record { terms = t ∷ []; at = at }) ∷ vs
first_term vs = vs

abbrev pub next_term : Values → Values
next_term (term t at ∷ whole p ∷ vs) = whole (record p { terms = p.terms ++ t ∷ [] }) ∷ vs
next_term vs = vs

abbrev pub clauses_term : Values → Values
clauses_term (clauses cs ∷ tok x ∷ vs) = term (policy_term.Clauses cs) x.from ∷ vs
clauses_term vs = vs

abbrev pub named_term : Values → Values
named_term (tok x ∷ vs) = term (policy_term.Named (ident x)) x.from ∷ vs
named_term vs = vs

abbrev pub bottom_term : Values → Values
bottom_term (tok x ∷ vs) = term policy_term.Bottom x.from ∷ vs
bottom_term vs = vs

abbrev pub top_term : Values → Values
top_term (tok x ∷ vs) = term policy_term.Top x.from ∷ vs
top_term vs = vs

abbrev pub one_clause : Values → Values
one_clause (needs ls ∷ tok x ∷ vs) = clause (record { actor = ident x; locks = ls }) ∷ vs
one_clause vs = vs

abbrev pub next_clause : Values → Values
next_clause (clause c ∷ clauses cs ∷ vs) = clauses (cs ++ c ∷ []) ∷ vs
next_clause vs = vs

abbrev pub one_lock : Values → Values
one_lock (idents ids ∷ tok x ∷ vs) = lock (record { id = ident x; actors = ids }) ∷ vs
one_lock vs = vs

abbrev pub next_lock : Values → Values
next_lock (lock l ∷ needs ls ∷ vs) = needs (ls ++ l ∷ []) ∷ vs
next_lock vs = vs

-- statements
abbrev pub next_stmt : Values → Values
next_stmt (sta s ∷ stas ss ∷ vs) = stas (with_sta ss s) ∷ vs
next_stmt vs = vs

abbrev pub whole_block : Values → Values
whole_block (stas ss ∷ tok x ∷ vs) = braces (In ss x.from) ∷ vs
whole_block vs = vs

abbrev pub as_stmt : Braces → Sta
as_stmt (In ss at) = plain.Block (In ss at) at

abbrev pub block_stmt : Values → Values
block_stmt (braces b ∷ vs) = sta (as_stmt b) ∷ vs
block_stmt vs = vs

abbrev pub if_stmt : Values → Values
if_stmt (other o ∷ braces b ∷ exp e ∷ tok x ∷ vs) = sta (plain.If e b o x.from) ∷ vs
if_stmt vs = vs

abbrev pub some_else : Values → Values
some_else (sta s ∷ vs) = other (plain.Otherwise s) ∷ vs
some_else vs = vs

abbrev pub while_stmt : Values → Values
while_stmt (braces b ∷ exp e ∷ tok x ∷ vs) = sta (plain.While e b x.from) ∷ vs
while_stmt vs = vs

abbrev pub one_catch : Values → Values
one_catch (braces b ∷ tok y ∷ tok x ∷ vs) = handler (plain.On (ident x) (ident y) b) ∷ vs
one_catch vs = vs

abbrev pub next_catch : Values → Values
next_catch (handler h ∷ catches cs ∷ vs) = catches (with_catch cs h) ∷ vs
next_catch vs = vs

abbrev pub try_stmt : Values → Values
try_stmt (catches cs ∷ braces b ∷ tok x ∷ vs) = sta (plain.Try b cs x.from) ∷ vs
try_stmt vs = vs

abbrev pub some_value : Values → Values
some_value (exp e ∷ vs) = may (plain.Present e) ∷ vs
some_value vs = vs

abbrev pub return_stmt : Values → Values
return_stmt (may e ∷ tok x ∷ vs) = sta (plain.Return e x.from) ∷ vs
return_stmt vs = vs

abbrev pub break_stmt : Values → Values
break_stmt (tok x ∷ vs) = sta (plain.Break x.from) ∷ vs
break_stmt vs = vs

abbrev pub continue_stmt : Values → Values
continue_stmt (tok x ∷ vs) = sta (plain.Continue x.from) ∷ vs
continue_stmt vs = vs

abbrev pub throw_stmt : Values → Values
throw_stmt (tok y ∷ tok x ∷ vs) = sta (plain.Throw (ident y) x.from) ∷ vs
throw_stmt vs = vs

abbrev pub open_stmt : Values → Values
open_stmt (lock l ∷ tok x ∷ vs) = sta (plain.Open l x.from) ∷ vs
open_stmt vs = vs

abbrev pub close_stmt : Values → Values
close_stmt (lock l ∷ tok x ∷ vs) = sta (plain.Close l x.from) ∷ vs
close_stmt vs = vs

abbrev pub when_stmt : Values → Values
when_stmt (may_braces o ∷ braces b ∷ lock l ∷ tok x ∷ vs) = sta (plain.When l b o x.from) ∷ vs
when_stmt vs = vs

abbrev pub some_block : Values → Values
some_block (braces b ∷ vs) = may_braces (plain.Some b) ∷ vs
some_block vs = vs

-- a local, declared at its name
abbrev pub declared : Token → TypeTree → Option PolicyExpr → Bool → Exp → Sta
declared x t p n e =
    plain.Declare (record { id = ident x; ty = t; policy = p; notnull = n; value = e }) x.from

abbrev pub local_stmt : Values → Values
local_stmt (exp e ∷ tok x ∷ typed t ∷ flag n ∷ may_whole p ∷ vs) = sta (declared x t p n e) ∷ vs
local_stmt vs = vs

-- a local of a class, with no policy and no `notnull`
abbrev pub class_local : Values → Values
class_local (exp e ∷ tok y ∷ tok x ∷ vs) =
    sta (declared y (type_tree.Class (ident x)) None false e) ∷ vs
class_local vs = vs

abbrev pub assign_stmt : Values → Values
assign_stmt (exp e ∷ tok x ∷ exp target ∷ vs) = sta (plain.Assign target e (place target)) ∷ vs
assign_stmt vs = vs

abbrev pub call_stmt : Values → Values
call_stmt (tok x ∷ exp e ∷ vs) = sta (plain.Do e (place e)) ∷ vs
call_stmt vs = vs

-- expressions
abbrev pub constant : Values → Values
constant (tok x ∷ vs) = exp (plain.Int (number x.kind) x.from) ∷ vs
constant vs = vs

abbrev pub true_expr : Values → Values
true_expr (tok x ∷ vs) = exp (plain.True x.from) ∷ vs
true_expr vs = vs

abbrev pub false_expr : Values → Values
false_expr (tok x ∷ vs) = exp (plain.False x.from) ∷ vs
false_expr vs = vs

abbrev pub null_expr : Values → Values
null_expr (tok x ∷ vs) = exp (plain.Null x.from) ∷ vs
null_expr vs = vs

abbrev pub this_expr : Values → Values
this_expr (tok x ∷ vs) = exp (plain.This x.from) ∷ vs
this_expr vs = vs

abbrev pub create : Values → Values
create (tok y ∷ tok x ∷ vs) = exp (plain.New (ident y) x.from) ∷ vs
create vs = vs

abbrev pub variable : Values → Values
variable (tok x ∷ vs) = exp (plain.Name (text x.kind) x.from) ∷ vs
variable vs = vs

abbrev pub select : Values → Values
select (tok x ∷ exp e ∷ vs) = exp (plain.Field e (ident x) x.from) ∷ vs
select vs = vs

abbrev pub call_own : Values → Values
call_own (exps es ∷ tok x ∷ vs) = exp (plain.Call plain.Absent (ident x) es x.from) ∷ vs
call_own vs = vs

abbrev pub call_on : Values → Values
call_on (exps es ∷ tok x ∷ exp e ∷ vs) = exp (plain.Call (plain.Present e) (ident x) es x.from) ∷ vs
call_on vs = vs

abbrev pub negate : Values → Values
negate (exp e ∷ tok x ∷ vs) = exp (plain.Neg e x.from) ∷ vs
negate vs = vs

abbrev pub invert : Values → Values
invert (exp e ∷ tok x ∷ vs) = exp (plain.Not e x.from) ∷ vs
invert vs = vs

abbrev pub binary : BinOp → Values → Values
binary op (exp b ∷ tok x ∷ exp a ∷ vs) = exp (plain.Binary op a b x.from) ∷ vs
binary op vs = vs

abbrev pub next_arg : Values → Values
next_arg (exp e ∷ exps es ∷ vs) = exps (with_exp es e) ∷ vs
next_arg vs = vs

abbrev pub built : Builders → Values → Values
built g.NoDecls vs = source [] ∷ vs
built g.NextDecl vs = next_decl vs
built g.ActorsDecl vs = actors_decl vs
built g.LockDecl vs = lock_decl vs
built g.PolicyDecl vs = policy_decl vs
built g.ExceptionDecl vs = exception_decl vs
built g.ClassDecl vs = class_decl vs
built g.NoIdents vs = idents [] ∷ vs
built g.NextIdent vs = next_ident vs
built (g.OfArity n) vs = many n ∷ vs
built g.NoMembers vs = members no_members ∷ vs
built g.InferredField vs = inferred_field vs
built g.InputChannel vs = channel true vs
built g.OutputChannel vs = channel false vs
built g.Field vs = field vs
built g.NextMethod vs = next_method vs
built g.IsStatic vs = flag true ∷ vs
built g.IsInstance vs = flag false ∷ vs
built g.NoResult vs = gives None ∷ vs
built g.SomeResult vs = some_result vs
built g.NoParams vs = listed [] ∷ vs
built g.OneParam vs = one_param vs
built g.NextParam vs = next_param vs
built g.IsNotnull vs = flag true ∷ vs
built g.MayBeNull vs = flag false ∷ vs
built g.NoEffects vs = says no_effects ∷ vs
built g.NextWrite vs = next_write vs
built g.NextExpect vs = next_expect vs
built g.NextOpen vs = next_open vs
built g.NextClose vs = next_close vs
built g.NextThrow vs = next_throw vs
built g.IntType vs = int_type vs
built g.BooleanType vs = boolean_type vs
built g.ClassType vs = class_type vs
built g.NoPolicy vs = may_whole None ∷ vs
built g.SomePolicy vs = some_policy vs
built g.FirstTerm vs = first_term vs
built g.NextTerm vs = next_term vs
built g.ClausesTerm vs = clauses_term vs
built g.NamedTerm vs = named_term vs
built g.BottomTerm vs = bottom_term vs
built g.TopTerm vs = top_term vs
built g.NoClauses vs = clauses [] ∷ vs
built g.OneClause vs = one_clause vs
built g.NextClause vs = next_clause vs
built g.NoLocks vs = needs [] ∷ vs
built g.NextLock vs = next_lock vs
built g.OneLock vs = one_lock vs
built g.NoStmts vs = stas plain.End ∷ vs
built g.NextStmt vs = next_stmt vs
built g.WholeBlock vs = whole_block vs
built g.BlockStmt vs = block_stmt vs
built g.IfStmt vs = if_stmt vs
built g.NoElse vs = other plain.NoElse ∷ vs
built g.SomeElse vs = some_else vs
built g.WhileStmt vs = while_stmt vs
built g.NoCatches vs = catches plain.NoCatch ∷ vs
built g.OneCatch vs = one_catch vs
built g.NextCatch vs = next_catch vs
built g.TryStmt vs = try_stmt vs
built g.NoValue vs = may plain.Absent ∷ vs
built g.SomeValue vs = some_value vs
built g.ReturnStmt vs = return_stmt vs
built g.BreakStmt vs = break_stmt vs
built g.ContinueStmt vs = continue_stmt vs
built g.ThrowStmt vs = throw_stmt vs
built g.OpenStmt vs = open_stmt vs
built g.CloseStmt vs = close_stmt vs
built g.WhenStmt vs = when_stmt vs
built g.NoBlock vs = may_braces plain.NoBraces ∷ vs
built g.SomeBlock vs = some_block vs
built g.LocalStmt vs = local_stmt vs
built g.ClassLocal vs = class_local vs
built g.AssignStmt vs = assign_stmt vs
built g.CallStmt vs = call_stmt vs
built g.Constant vs = constant vs
built g.TrueExpr vs = true_expr vs
built g.FalseExpr vs = false_expr vs
built g.NullExpr vs = null_expr vs
built g.ThisExpr vs = this_expr vs
built g.Create vs = create vs
built g.Variable vs = variable vs
built g.Select vs = select vs
built g.CallOwn vs = call_own vs
built g.CallOn vs = call_on vs
built g.Negate vs = negate vs
built g.Invert vs = invert vs
built (g.Binary op) vs = binary op vs
built g.NoArgs vs = exps plain.NoExps ∷ vs
built g.NextArg vs = next_arg vs

-- the grammar of Paragon
abbrev pub paragon : Grammar Names Builders Value
paragon = record { choices = choices; otherwise = otherwise; read = tok; built = built }
