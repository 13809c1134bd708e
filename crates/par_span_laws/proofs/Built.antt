-- Each builder keeps the places of what it puts together.
use Rattle.std.proofs.Common.{ℕ, ◌≤◌, Bool, true, false, ◌∷◌, None}
use Rattle.std.specs.List.{AllByRecursion}
use Rattle.par_typed.specs.par_lexer.declared.operator.BinOp.{BinOp}
use Rattle.par_tree.specs.Plain.{Exp, Braces, In, place}
use Rattle.par_tree.specs.Plain as plain
use Rattle.par_tree.specs.Grammar.{Builders}
use Rattle.par_tree.specs.Grammar as g
use Rattle.par_tree.specs.Values.{Value, Values, Effects, Members, tok, exp, exps, may, braces}
use Rattle.par_tree.specs.Values.{may_braces, sta, stas, other, handler, catches, term, whole}
use Rattle.par_tree.specs.Values.{may_whole, clause, clauses, lock, needs, idents, typed, gives}
use Rattle.par_tree.specs.Values.{flag, many, param, listed, says, members, decl, source}
use Rattle.par_tree.specs.Values.{built, ident, as_stmt, channel, binary, next_method}
use Rattle.par_tree.specs.Values.{next_decl, actors_decl, lock_decl, policy_decl, exception_decl}
use Rattle.par_tree.specs.Values.{class_decl}
use Rattle.par_tree.specs.Values.{next_ident, inferred_field, field, some_result, one_param}
use Rattle.par_tree.specs.Values.{next_param, next_write}
use Rattle.par_tree.specs.Values.{next_expect, next_open, next_close, next_throw, int_type}
use Rattle.par_tree.specs.Values.{boolean_type, class_type}
use Rattle.par_tree.specs.Values.{some_policy, first_term, next_term, clauses_term, named_term}
use Rattle.par_tree.specs.Values.{bottom_term}
use Rattle.par_tree.specs.Values.{top_term, one_clause, next_clause, one_lock, next_lock, next_stmt}
use Rattle.par_tree.specs.Values.{whole_block}
use Rattle.par_tree.specs.Values.{block_stmt, if_stmt, some_else, while_stmt, one_catch, next_catch}
use Rattle.par_tree.specs.Values.{try_stmt}
use Rattle.par_tree.specs.Values.{some_value, return_stmt, break_stmt, continue_stmt, throw_stmt}
use Rattle.par_tree.specs.Values.{open_stmt}
use Rattle.par_tree.specs.Values.{close_stmt, when_stmt, some_block, local_stmt, class_local}
use Rattle.par_tree.specs.Values.{assign_stmt}
use Rattle.par_tree.specs.Values.{call_stmt, constant, true_expr, false_expr, null_expr, this_expr}
use Rattle.par_tree.specs.Values.{create}
use Rattle.par_tree.specs.Values.{variable, select, call_own, call_on, negate, invert, next_arg}
use Rattle.par_span_laws.specs.Within.{AreIn, TypeIn, ResultIn, LockIn, LocksIn, ClauseIn}
use Rattle.par_span_laws.specs.Within.{TermIn, PolicyIn, MayPolicyIn, ExpIn, MayExpIn, ExpsIn}
use Rattle.par_span_laws.specs.Within.{StaIn}
use Rattle.par_span_laws.specs.Within.{BracesIn, MayBracesIn, ElseIn, StasIn, CatchesIn, HandlerIn}
use Rattle.par_span_laws.specs.Within.{FieldIn, ChannelIn, ParamIn, ThrowIn, MethodIn}
use Rattle.par_span_laws.specs.Within.{DeclarationIn, IsWithin}
use Rattle.par_span_laws.proofs.Lists.{pushed, one_more_exp, one_more_sta, one_more_catch}

module _ (m : ℕ) where
  pub record EffectsIn (e : Effects) : Type 0 where
    pub writes : AllByRecursion (PolicyIn m) e.writes
    pub expects : LocksIn m e.expects
    pub opens : LocksIn m e.opens
    pub closes : LocksIn m e.closes
    pub throws : AllByRecursion (ThrowIn m) e.throws

  pub record MembersIn (ms : Members) : Type 0 where
    pub fields : AllByRecursion (FieldIn m) ms.fields
    pub channels : AllByRecursion (ChannelIn m) ms.channels
    pub methods : AllByRecursion (MethodIn m) ms.methods

  -- the places in a value
  abbrev pub ValueIn : Value → Type 0
  ValueIn (tok x) = x.from ≤ m
  ValueIn (exp e) = ExpIn m e
  ValueIn (exps es) = ExpsIn m es
  ValueIn (may o) = MayExpIn m o
  ValueIn (braces b) = BracesIn m b
  ValueIn (may_braces o) = MayBracesIn m o
  ValueIn (sta s) = StaIn m s
  ValueIn (stas ss) = StasIn m ss
  ValueIn (other o) = ElseIn m o
  ValueIn (handler c) = HandlerIn m c
  ValueIn (catches cs) = CatchesIn m cs
  ValueIn (term t at) = TermIn m t × (at ≤ m)
  ValueIn (whole p) = PolicyIn m p
  ValueIn (may_whole o) = MayPolicyIn m o
  ValueIn (clause c) = ClauseIn m c
  ValueIn (clauses cs) = AllByRecursion (ClauseIn m) cs
  ValueIn (lock l) = LockIn m l
  ValueIn (needs ls) = LocksIn m ls
  ValueIn (idents ids) = AreIn m ids
  ValueIn (typed t) = TypeIn m t
  ValueIn (gives o) = ResultIn m o
  ValueIn (flag b) = Unit {0}
  ValueIn (many n) = Unit {0}
  ValueIn (param p) = ParamIn m p
  ValueIn (listed ps) = AllByRecursion (ParamIn m) ps
  ValueIn (says e) = EffectsIn e
  ValueIn (members ms) = MembersIn ms
  ValueIn (decl d) = DeclarationIn m d
  ValueIn (source ds) = IsWithin m ds

  abbrev pub AllIn : Values → Type 0
  AllIn vs = AllByRecursion ValueIn vs

  block_in : (b : Braces) → BracesIn m b → StaIn m (as_stmt b)
  unfolding StaIn
  block_in (In ss at) h = (h, h.1)

  -- the place of an expression is one in it
  pub place_in : (e : Exp) → ExpIn m e → place e ≤ m
  unfolding ExpIn place
  place_in (plain.Int n at) h = h
  place_in (plain.True at) h = h
  place_in (plain.False at) h = h
  place_in (plain.Null at) h = h
  place_in (plain.This at) h = h
  place_in (plain.New class at) h = h.1
  place_in (plain.Name name at) h = h
  place_in (plain.Field e f at) h = h.2
  place_in (plain.Call o f es at) h = h.3
  place_in (plain.Neg e at) h = h.1
  place_in (plain.Not e at) h = h.1
  place_in (plain.Binary op a b at) h = h.2

  next_decl_in : (vs : Values) → AllIn vs → AllIn (next_decl vs)
  unfolding ExpIn StaIn
  next_decl_in (decl d ∷ source ds ∷ vs) h = (pushed _ ds d h.1.0 h.0, h.1.1)
  next_decl_in vs h = h

  actors_decl_in : (vs : Values) → AllIn vs → AllIn (actors_decl vs)
  unfolding ExpIn StaIn
  actors_decl_in (idents ids ∷ vs) h = (h.0, h.1)
  actors_decl_in vs h = h

  lock_decl_in : (vs : Values) → AllIn vs → AllIn (lock_decl vs)
  unfolding ExpIn StaIn
  lock_decl_in (may_whole p ∷ many n ∷ tok x ∷ vs) h = ((h.1.1.0, h.0), h.1.1.1)
  lock_decl_in vs h = h

  policy_decl_in : (vs : Values) → AllIn vs → AllIn (policy_decl vs)
  unfolding ExpIn StaIn
  policy_decl_in (whole p ∷ tok x ∷ vs) h = ((h.1.0, h.0), h.1.1)
  policy_decl_in vs h = h

  exception_decl_in : (vs : Values) → AllIn vs → AllIn (exception_decl vs)
  unfolding ExpIn StaIn
  exception_decl_in (tok x ∷ vs) h =
      (record { id = h.0; birth = tt; fields = tt; channels = tt; methods = tt }, h.1)
  exception_decl_in vs h = h

  class_decl_in : (vs : Values) → AllIn vs → AllIn (class_decl vs)
  unfolding ExpIn StaIn
  class_decl_in (members ms ∷ may_whole p ∷ tok x ∷ vs) h = (
    record {
      id = h.1.1.0;
      birth = h.1.0;
      fields = h.0.fields;
      channels = h.0.channels;
      methods = h.0.methods;
    },
    h.1.1.1,
  )
  class_decl_in vs h = h

  next_ident_in : (vs : Values) → AllIn vs → AllIn (next_ident vs)
  unfolding ExpIn StaIn
  next_ident_in (tok x ∷ idents ids ∷ vs) h = (pushed _ ids (ident x) h.1.0 h.0, h.1.1)
  next_ident_in vs h = h

  inferred_field_in : (vs : Values) → AllIn vs → AllIn (inferred_field vs)
  unfolding ExpIn StaIn
  inferred_field_in (tok x ∷ typed t ∷ flag s ∷ members ms ∷ vs) h = (
    record {
      fields =
          pushed _ ms.fields (record {
            id = ident x;
            is_static = s;
            ty = t;
            policy = None;
            inferred = true;
          }) h.1.1.1.0.fields (h.0, h.1.0, tt);
      channels = h.1.1.1.0.channels;
      methods = h.1.1.1.0.methods;
    },
    h.1.1.1.1,
  )
  inferred_field_in vs h = h

  field_in : (vs : Values) → AllIn vs → AllIn (field vs)
  unfolding ExpIn StaIn
  field_in (tok x ∷ typed t ∷ flag s ∷ may_whole p ∷ members ms ∷ vs) h = (
    record {
      fields =
          pushed _ ms.fields (record {
            id = ident x;
            is_static = s;
            ty = t;
            policy = p;
            inferred = false;
          }) h.1.1.1.1.0.fields (h.0, h.1.0, h.1.1.1.0);
      channels = h.1.1.1.1.0.channels;
      methods = h.1.1.1.1.0.methods;
    },
    h.1.1.1.1.1,
  )
  field_in vs h = h

  some_result_in : (vs : Values) → AllIn vs → AllIn (some_result vs)
  unfolding ExpIn StaIn
  some_result_in (tok x ∷ typed t ∷ vs) h = (h.0, (h.1.0, h.1.1))
  some_result_in vs h = h

  one_param_in : (vs : Values) → AllIn vs → AllIn (one_param vs)
  unfolding ExpIn StaIn
  one_param_in (tok x ∷ typed t ∷ flag n ∷ may_whole p ∷ vs) h =
      ((h.0, h.1.0, h.1.1.1.0), h.1.1.1.1)
  one_param_in vs h = h

  next_param_in : (vs : Values) → AllIn vs → AllIn (next_param vs)
  unfolding ExpIn StaIn
  next_param_in (param p ∷ listed ps ∷ vs) h = (pushed _ ps p h.1.0 h.0, h.1.1)
  next_param_in vs h = h

  next_write_in : (vs : Values) → AllIn vs → AllIn (next_write vs)
  unfolding ExpIn StaIn
  next_write_in (whole p ∷ says e ∷ vs) h = (
    record {
      writes = pushed _ e.writes p h.1.0.writes h.0;
      expects = h.1.0.expects;
      opens = h.1.0.opens;
      closes = h.1.0.closes;
      throws = h.1.0.throws;
    },
    h.1.1,
  )
  next_write_in vs h = h

  next_expect_in : (vs : Values) → AllIn vs → AllIn (next_expect vs)
  unfolding ExpIn StaIn
  next_expect_in (lock l ∷ says e ∷ vs) h = (
    record {
      writes = h.1.0.writes;
      expects = pushed _ e.expects l h.1.0.expects h.0;
      opens = h.1.0.opens;
      closes = h.1.0.closes;
      throws = h.1.0.throws;
    },
    h.1.1,
  )
  next_expect_in vs h = h

  next_open_in : (vs : Values) → AllIn vs → AllIn (next_open vs)
  unfolding ExpIn StaIn
  next_open_in (lock l ∷ says e ∷ vs) h = (
    record {
      writes = h.1.0.writes;
      expects = h.1.0.expects;
      opens =
          pushed _ e.opens l h.1.0.opens h.0;
      closes = h.1.0.closes;
      throws = h.1.0.throws;
    },
    h.1.1,
  )
  next_open_in vs h = h

  next_close_in : (vs : Values) → AllIn vs → AllIn (next_close vs)
  unfolding ExpIn StaIn
  next_close_in (lock l ∷ says e ∷ vs) h = (
    record {
      writes = h.1.0.writes;
      expects = h.1.0.expects;
      opens = h.1.0.opens;
      closes = pushed _ e.closes l h.1.0.closes h.0;
      throws = h.1.0.throws;
    },
    h.1.1,
  )
  next_close_in vs h = h

  next_throw_in : (vs : Values) → AllIn vs → AllIn (next_throw vs)
  unfolding ExpIn StaIn
  next_throw_in (whole p ∷ tok x ∷ says e ∷ vs) h = (
    record {
      writes = h.1.1.0.writes;
      expects = h.1.1.0.expects;
      opens = h.1.1.0.opens;
      closes = h.1.1.0.closes;
      throws =
          pushed _ e.throws (record { class = ident x; policy = p }) h.1.1.0.throws (h.1.0, h.0);
    },
    h.1.1.1,
  )
  next_throw_in vs h = h

  int_type_in : (vs : Values) → AllIn vs → AllIn (int_type vs)
  unfolding ExpIn StaIn
  int_type_in (tok x ∷ vs) h = h
  int_type_in vs h = h

  boolean_type_in : (vs : Values) → AllIn vs → AllIn (boolean_type vs)
  unfolding ExpIn StaIn
  boolean_type_in (tok x ∷ vs) h = h
  boolean_type_in vs h = h

  class_type_in : (vs : Values) → AllIn vs → AllIn (class_type vs)
  unfolding ExpIn StaIn
  class_type_in (tok x ∷ vs) h = h
  class_type_in vs h = h

  some_policy_in : (vs : Values) → AllIn vs → AllIn (some_policy vs)
  unfolding ExpIn StaIn
  some_policy_in (whole p ∷ vs) h = h
  some_policy_in vs h = h

  first_term_in : (vs : Values) → AllIn vs → AllIn (first_term vs)
  unfolding ExpIn StaIn
  first_term_in (term t at ∷ vs) h = ((h.0.1, (h.0.0, tt)), h.1)
  first_term_in vs h = h

  next_term_in : (vs : Values) → AllIn vs → AllIn (next_term vs)
  unfolding ExpIn StaIn
  next_term_in (term t at ∷ whole p ∷ vs) h = ((h.1.0.0, pushed _ p.terms t h.1.0.1 h.0.0), h.1.1)
  next_term_in vs h = h

  clauses_term_in : (vs : Values) → AllIn vs → AllIn (clauses_term vs)
  unfolding ExpIn StaIn
  clauses_term_in (clauses cs ∷ tok x ∷ vs) h = ((h.0, h.1.0), h.1.1)
  clauses_term_in vs h = h

  named_term_in : (vs : Values) → AllIn vs → AllIn (named_term vs)
  unfolding ExpIn StaIn
  named_term_in (tok x ∷ vs) h = ((h.0, h.0), h.1)
  named_term_in vs h = h

  bottom_term_in : (vs : Values) → AllIn vs → AllIn (bottom_term vs)
  unfolding ExpIn StaIn
  bottom_term_in (tok x ∷ vs) h = ((tt, h.0), h.1)
  bottom_term_in vs h = h

  top_term_in : (vs : Values) → AllIn vs → AllIn (top_term vs)
  unfolding ExpIn StaIn
  top_term_in (tok x ∷ vs) h = ((tt, h.0), h.1)
  top_term_in vs h = h

  one_clause_in : (vs : Values) → AllIn vs → AllIn (one_clause vs)
  unfolding ExpIn StaIn
  one_clause_in (needs ls ∷ tok x ∷ vs) h = ((h.1.0, h.0), h.1.1)
  one_clause_in vs h = h

  next_clause_in : (vs : Values) → AllIn vs → AllIn (next_clause vs)
  unfolding ExpIn StaIn
  next_clause_in (clause c ∷ clauses cs ∷ vs) h = (pushed _ cs c h.1.0 h.0, h.1.1)
  next_clause_in vs h = h

  one_lock_in : (vs : Values) → AllIn vs → AllIn (one_lock vs)
  unfolding ExpIn StaIn
  one_lock_in (idents ids ∷ tok x ∷ vs) h = ((h.1.0, h.0), h.1.1)
  one_lock_in vs h = h

  next_lock_in : (vs : Values) → AllIn vs → AllIn (next_lock vs)
  unfolding ExpIn StaIn
  next_lock_in (lock l ∷ needs ls ∷ vs) h = (pushed _ ls l h.1.0 h.0, h.1.1)
  next_lock_in vs h = h

  next_stmt_in : (vs : Values) → AllIn vs → AllIn (next_stmt vs)
  unfolding ExpIn StaIn
  next_stmt_in (sta s ∷ stas ss ∷ vs) h = (one_more_sta m ss s h.1.0 h.0, h.1.1)
  next_stmt_in vs h = h

  whole_block_in : (vs : Values) → AllIn vs → AllIn (whole_block vs)
  unfolding ExpIn StaIn
  whole_block_in (stas ss ∷ tok x ∷ vs) h = ((h.0, h.1.0), h.1.1)
  whole_block_in vs h = h

  block_stmt_in : (vs : Values) → AllIn vs → AllIn (block_stmt vs)
  unfolding ExpIn StaIn
  block_stmt_in (braces b ∷ vs) h = (block_in b h.0, h.1)
  block_stmt_in vs h = h

  if_stmt_in : (vs : Values) → AllIn vs → AllIn (if_stmt vs)
  unfolding ExpIn StaIn
  if_stmt_in (other o ∷ braces b ∷ exp e ∷ tok x ∷ vs) h =
      ((h.1.1.0, h.1.0, h.0, h.1.1.1.0), h.1.1.1.1)
  if_stmt_in vs h = h

  some_else_in : (vs : Values) → AllIn vs → AllIn (some_else vs)
  unfolding ExpIn StaIn
  some_else_in (sta s ∷ vs) h = h
  some_else_in vs h = h

  while_stmt_in : (vs : Values) → AllIn vs → AllIn (while_stmt vs)
  unfolding ExpIn StaIn
  while_stmt_in (braces b ∷ exp e ∷ tok x ∷ vs) h = ((h.1.0, h.0, h.1.1.0), h.1.1.1)
  while_stmt_in vs h = h

  one_catch_in : (vs : Values) → AllIn vs → AllIn (one_catch vs)
  unfolding ExpIn StaIn
  one_catch_in (braces b ∷ tok y ∷ tok x ∷ vs) h = ((h.1.1.0, h.1.0, h.0), h.1.1.1)
  one_catch_in vs h = h

  next_catch_in : (vs : Values) → AllIn vs → AllIn (next_catch vs)
  unfolding ExpIn StaIn
  next_catch_in (handler c ∷ catches cs ∷ vs) h = (one_more_catch m cs c h.1.0 h.0, h.1.1)
  next_catch_in vs h = h

  try_stmt_in : (vs : Values) → AllIn vs → AllIn (try_stmt vs)
  unfolding ExpIn StaIn
  try_stmt_in (catches cs ∷ braces b ∷ tok x ∷ vs) h = ((h.1.0, h.0, h.1.1.0), h.1.1.1)
  try_stmt_in vs h = h

  some_value_in : (vs : Values) → AllIn vs → AllIn (some_value vs)
  unfolding ExpIn StaIn
  some_value_in (exp e ∷ vs) h = h
  some_value_in vs h = h

  return_stmt_in : (vs : Values) → AllIn vs → AllIn (return_stmt vs)
  unfolding ExpIn StaIn
  return_stmt_in (may e ∷ tok x ∷ vs) h = ((h.0, h.1.0), h.1.1)
  return_stmt_in vs h = h

  break_stmt_in : (vs : Values) → AllIn vs → AllIn (break_stmt vs)
  unfolding ExpIn StaIn
  break_stmt_in (tok x ∷ vs) h = h
  break_stmt_in vs h = h

  continue_stmt_in : (vs : Values) → AllIn vs → AllIn (continue_stmt vs)
  unfolding ExpIn StaIn
  continue_stmt_in (tok x ∷ vs) h = h
  continue_stmt_in vs h = h

  throw_stmt_in : (vs : Values) → AllIn vs → AllIn (throw_stmt vs)
  unfolding ExpIn StaIn
  throw_stmt_in (tok y ∷ tok x ∷ vs) h = ((h.0, h.1.0), h.1.1)
  throw_stmt_in vs h = h

  open_stmt_in : (vs : Values) → AllIn vs → AllIn (open_stmt vs)
  unfolding ExpIn StaIn
  open_stmt_in (lock l ∷ tok x ∷ vs) h = ((h.0, h.1.0), h.1.1)
  open_stmt_in vs h = h

  close_stmt_in : (vs : Values) → AllIn vs → AllIn (close_stmt vs)
  unfolding ExpIn StaIn
  close_stmt_in (lock l ∷ tok x ∷ vs) h = ((h.0, h.1.0), h.1.1)
  close_stmt_in vs h = h

  when_stmt_in : (vs : Values) → AllIn vs → AllIn (when_stmt vs)
  unfolding ExpIn StaIn
  when_stmt_in (may_braces o ∷ braces b ∷ lock l ∷ tok x ∷ vs) h =
      ((h.1.1.0, h.1.0, h.0, h.1.1.1.0), h.1.1.1.1)
  when_stmt_in vs h = h

  some_block_in : (vs : Values) → AllIn vs → AllIn (some_block vs)
  unfolding ExpIn StaIn
  some_block_in (braces b ∷ vs) h = h
  some_block_in vs h = h

  local_stmt_in : (vs : Values) → AllIn vs → AllIn (local_stmt vs)
  unfolding ExpIn StaIn
  local_stmt_in (exp e ∷ tok x ∷ typed t ∷ flag n ∷ may_whole p ∷ vs) h =
      (((h.1.0, h.1.1.0, h.1.1.1.1.0, h.0), h.1.0), h.1.1.1.1.1)
  local_stmt_in vs h = h

  class_local_in : (vs : Values) → AllIn vs → AllIn (class_local vs)
  unfolding ExpIn StaIn
  class_local_in (exp e ∷ tok y ∷ tok x ∷ vs) h = (((h.1.0, h.1.1.0, tt, h.0), h.1.0), h.1.1.1)
  class_local_in vs h = h

  assign_stmt_in : (vs : Values) → AllIn vs → AllIn (assign_stmt vs)
  unfolding ExpIn StaIn
  assign_stmt_in (exp e ∷ tok x ∷ exp target ∷ vs) h =
      ((h.1.1.0, h.0, place_in target h.1.1.0), h.1.1.1)
  assign_stmt_in vs h = h

  call_stmt_in : (vs : Values) → AllIn vs → AllIn (call_stmt vs)
  unfolding ExpIn StaIn
  call_stmt_in (tok x ∷ exp e ∷ vs) h = ((h.1.0, place_in e h.1.0), h.1.1)
  call_stmt_in vs h = h

  constant_in : (vs : Values) → AllIn vs → AllIn (constant vs)
  unfolding ExpIn StaIn
  constant_in (tok x ∷ vs) h = h
  constant_in vs h = h

  true_expr_in : (vs : Values) → AllIn vs → AllIn (true_expr vs)
  unfolding ExpIn StaIn
  true_expr_in (tok x ∷ vs) h = h
  true_expr_in vs h = h

  false_expr_in : (vs : Values) → AllIn vs → AllIn (false_expr vs)
  unfolding ExpIn StaIn
  false_expr_in (tok x ∷ vs) h = h
  false_expr_in vs h = h

  null_expr_in : (vs : Values) → AllIn vs → AllIn (null_expr vs)
  unfolding ExpIn StaIn
  null_expr_in (tok x ∷ vs) h = h
  null_expr_in vs h = h

  this_expr_in : (vs : Values) → AllIn vs → AllIn (this_expr vs)
  unfolding ExpIn StaIn
  this_expr_in (tok x ∷ vs) h = h
  this_expr_in vs h = h

  create_in : (vs : Values) → AllIn vs → AllIn (create vs)
  unfolding ExpIn StaIn
  create_in (tok y ∷ tok x ∷ vs) h = ((h.0, h.1.0), h.1.1)
  create_in vs h = h

  variable_in : (vs : Values) → AllIn vs → AllIn (variable vs)
  unfolding ExpIn StaIn
  variable_in (tok x ∷ vs) h = h
  variable_in vs h = h

  select_in : (vs : Values) → AllIn vs → AllIn (select vs)
  unfolding ExpIn StaIn
  select_in (tok x ∷ exp e ∷ vs) h = ((h.1.0, h.0, h.0), h.1.1)
  select_in vs h = h

  call_own_in : (vs : Values) → AllIn vs → AllIn (call_own vs)
  unfolding ExpIn StaIn
  call_own_in (exps es ∷ tok x ∷ vs) h = ((tt, h.1.0, h.0, h.1.0), h.1.1)
  call_own_in vs h = h

  call_on_in : (vs : Values) → AllIn vs → AllIn (call_on vs)
  unfolding ExpIn StaIn
  call_on_in (exps es ∷ tok x ∷ exp e ∷ vs) h = ((h.1.1.0, h.1.0, h.0, h.1.0), h.1.1.1)
  call_on_in vs h = h

  negate_in : (vs : Values) → AllIn vs → AllIn (negate vs)
  unfolding ExpIn StaIn
  negate_in (exp e ∷ tok x ∷ vs) h = ((h.0, h.1.0), h.1.1)
  negate_in vs h = h

  invert_in : (vs : Values) → AllIn vs → AllIn (invert vs)
  unfolding ExpIn StaIn
  invert_in (exp e ∷ tok x ∷ vs) h = ((h.0, h.1.0), h.1.1)
  invert_in vs h = h

  next_arg_in : (vs : Values) → AllIn vs → AllIn (next_arg vs)
  unfolding ExpIn StaIn
  next_arg_in (exp e ∷ exps es ∷ vs) h = (one_more_exp m es e h.1.0 h.0, h.1.1)
  next_arg_in vs h = h

  channel_in : (i : Bool) (vs : Values) → AllIn vs → AllIn (channel i vs)
  channel_in i (tok x ∷ may_whole p ∷ members ms ∷ vs) h = (
    record {
      fields = h.1.1.0.fields;
      channels =
          pushed _ ms.channels (record { id = ident x; is_input = i; policy = p }) h.1.1.0.channels
          (h.0, h.1.0);
      methods = h.1.1.0.methods;
    },
    h.1.1.1,
  )
  channel_in i vs h = h

  binary_in : (op : BinOp) (vs : Values) → AllIn vs → AllIn (binary op vs)
  unfolding ExpIn
  binary_in op (exp b ∷ tok x ∷ exp a ∷ vs) h = ((h.1.1.0, h.0, h.1.0), h.1.1.1)
  binary_in op vs h = h

  next_method_in : (vs : Values) → AllIn vs → AllIn (next_method vs)
  next_method_in (braces b ∷ says e ∷ listed ps ∷ tok x ∷ gives r ∷ flag s ∷ may_whole p
      ∷ members ms ∷ vs) h =
      let rest = h.1.1.1.1.1.1 in
      let method : plain.Method = record {
        id = ident x;
        is_static = s;
        result = r;
        policy = p;
        params = ps;
        effects = e.writes;
        expects = e.expects;
        opens = e.opens;
        closes = e.closes;
        throws = e.throws;
        body = b;
      } in
      let method_in : MethodIn m method = record {
        id = h.1.1.1.0;
        result = h.1.1.1.1.0;
        policy = rest.0;
        params = h.1.1.0;
        effects = h.1.0.writes;
        expects = h.1.0.expects;
        opens = h.1.0.opens;
        closes = h.1.0.closes;
        throws = h.1.0.throws;
        body = h.0;
      } in (
        record {
          fields = rest.1.0.fields;
          channels = rest.1.0.channels;
          methods = pushed _ ms.methods method rest.1.0.methods method_in;
        },
        rest.1.1,
      )
  next_method_in vs h = h

  pub built_in : (b : Builders) (vs : Values) → AllIn vs → AllIn (built b vs)
  unfolding ExpIn StaIn
  built_in g.NoDecls vs h = (tt, h)
  built_in g.NextDecl vs h = next_decl_in vs h
  built_in g.ActorsDecl vs h = actors_decl_in vs h
  built_in g.LockDecl vs h = lock_decl_in vs h
  built_in g.PolicyDecl vs h = policy_decl_in vs h
  built_in g.ExceptionDecl vs h = exception_decl_in vs h
  built_in g.ClassDecl vs h = class_decl_in vs h
  built_in g.NoIdents vs h = (tt, h)
  built_in g.NextIdent vs h = next_ident_in vs h
  built_in (g.OfArity n) vs h = (tt, h)
  built_in g.NoMembers vs h = (record { fields = tt; channels = tt; methods = tt }, h)
  built_in g.InferredField vs h = inferred_field_in vs h
  built_in g.InputChannel vs h = channel_in true vs h
  built_in g.OutputChannel vs h = channel_in false vs h
  built_in g.Field vs h = field_in vs h
  built_in g.NextMethod vs h = next_method_in vs h
  built_in g.IsStatic vs h = (tt, h)
  built_in g.IsInstance vs h = (tt, h)
  built_in g.NoResult vs h = (tt, h)
  built_in g.SomeResult vs h = some_result_in vs h
  built_in g.NoParams vs h = (tt, h)
  built_in g.OneParam vs h = one_param_in vs h
  built_in g.NextParam vs h = next_param_in vs h
  built_in g.IsNotnull vs h = (tt, h)
  built_in g.MayBeNull vs h = (tt, h)
  built_in g.NoEffects vs h =
      (record { writes = tt; expects = tt; opens = tt; closes = tt; throws = tt }, h)
  built_in g.NextWrite vs h = next_write_in vs h
  built_in g.NextExpect vs h = next_expect_in vs h
  built_in g.NextOpen vs h = next_open_in vs h
  built_in g.NextClose vs h = next_close_in vs h
  built_in g.NextThrow vs h = next_throw_in vs h
  built_in g.IntType vs h = int_type_in vs h
  built_in g.BooleanType vs h = boolean_type_in vs h
  built_in g.ClassType vs h = class_type_in vs h
  built_in g.NoPolicy vs h = (tt, h)
  built_in g.SomePolicy vs h = some_policy_in vs h
  built_in g.FirstTerm vs h = first_term_in vs h
  built_in g.NextTerm vs h = next_term_in vs h
  built_in g.ClausesTerm vs h = clauses_term_in vs h
  built_in g.NamedTerm vs h = named_term_in vs h
  built_in g.BottomTerm vs h = bottom_term_in vs h
  built_in g.TopTerm vs h = top_term_in vs h
  built_in g.NoClauses vs h = (tt, h)
  built_in g.OneClause vs h = one_clause_in vs h
  built_in g.NextClause vs h = next_clause_in vs h
  built_in g.NoLocks vs h = (tt, h)
  built_in g.NextLock vs h = next_lock_in vs h
  built_in g.OneLock vs h = one_lock_in vs h
  built_in g.NoStmts vs h = (tt, h)
  built_in g.NextStmt vs h = next_stmt_in vs h
  built_in g.WholeBlock vs h = whole_block_in vs h
  built_in g.BlockStmt vs h = block_stmt_in vs h
  built_in g.IfStmt vs h = if_stmt_in vs h
  built_in g.NoElse vs h = (tt, h)
  built_in g.SomeElse vs h = some_else_in vs h
  built_in g.WhileStmt vs h = while_stmt_in vs h
  built_in g.NoCatches vs h = (tt, h)
  built_in g.OneCatch vs h = one_catch_in vs h
  built_in g.NextCatch vs h = next_catch_in vs h
  built_in g.TryStmt vs h = try_stmt_in vs h
  built_in g.NoValue vs h = (tt, h)
  built_in g.SomeValue vs h = some_value_in vs h
  built_in g.ReturnStmt vs h = return_stmt_in vs h
  built_in g.BreakStmt vs h = break_stmt_in vs h
  built_in g.ContinueStmt vs h = continue_stmt_in vs h
  built_in g.ThrowStmt vs h = throw_stmt_in vs h
  built_in g.OpenStmt vs h = open_stmt_in vs h
  built_in g.CloseStmt vs h = close_stmt_in vs h
  built_in g.WhenStmt vs h = when_stmt_in vs h
  built_in g.NoBlock vs h = (tt, h)
  built_in g.SomeBlock vs h = some_block_in vs h
  built_in g.LocalStmt vs h = local_stmt_in vs h
  built_in g.ClassLocal vs h = class_local_in vs h
  built_in g.AssignStmt vs h = assign_stmt_in vs h
  built_in g.CallStmt vs h = call_stmt_in vs h
  built_in g.Constant vs h = constant_in vs h
  built_in g.TrueExpr vs h = true_expr_in vs h
  built_in g.FalseExpr vs h = false_expr_in vs h
  built_in g.NullExpr vs h = null_expr_in vs h
  built_in g.ThisExpr vs h = this_expr_in vs h
  built_in g.Create vs h = create_in vs h
  built_in g.Variable vs h = variable_in vs h
  built_in g.Select vs h = select_in vs h
  built_in g.CallOwn vs h = call_own_in vs h
  built_in g.CallOn vs h = call_on_in vs h
  built_in g.Negate vs h = negate_in vs h
  built_in g.Invert vs h = invert_in vs h
  built_in (g.Binary op) vs h = binary_in op vs h
  built_in g.NoArgs vs h = (tt, h)
  built_in g.NextArg vs h = next_arg_in vs h
