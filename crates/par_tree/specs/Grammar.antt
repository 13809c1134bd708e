-- The grammar of Paragon, a line a name.
use Rattle.std.specs.Prelude.{ℕ, ◌+◌, nat_lt, nat_eq, if◌then◌else◌, List, [], ◌∷◌, Option, Some}
use Rattle.std.specs.Prelude.{None}
use Rattle.par_grammar.specs.declared.sort.Sort.{Sort}
use Rattle.par_grammar.specs.declared.sort.Sort.TheVariants as sort
use Rattle.par_grammar.specs.Grammar.{Symbol, Choice, token, kept, finish, counts, restarts, enters}
use Rattle.par_grammar.specs.Grammar.{leaves, name, builds}
use Rattle.par_grammar.specs.par_lexer.declared.word.TheConstants as word
use Rattle.par_grammar.specs.par_lexer.declared.sign.TheConstants as sign
use Rattle.par_grammar.specs.par_lexer.declared.operator.BinOp.{BinOp}
use Rattle.par_grammar.specs.par_lexer.declared.operator.BinOp.TheVariants as op

-- The names of the grammar. More is what may follow the first of several.
pub data Names : Type 0 where
  -- declarations
  Program : Names
  Decls : Names
  MoreDecls : Names
  Decl : Names
  Idents : Names
  MoreIdents : Names
  Arity : Names
  SecondActor : Names
  ClassTail : Names
  Members : Names
  MoreMembers : Names
  Member : Names
  MarkedMember : Names
  PlainMember : Names
  MayStatic : Names
  StaticMember : Names
  TypedTail : Names
  Method : Names
  Params : Names
  MoreParams : Names
  Param : Names
  MayNotnull : Names
  Effects : Names
  MoreEffects : Names
  AnyType : Names
  -- policies and locks
  MayPolicy : Names
  Policy : Names
  MoreTerms : Names
  Term : Names
  Clauses : Names
  MoreClauses : Names
  Clause : Names
  Needs : Names
  MoreNeeds : Names
  Lock : Names
  LockActors : Names
  SecondIdent : Names
  -- statements
  Block : Names
  Stmts : Names
  MoreStmts : Names
  Stmt : Names
  If : Names
  ElsePart : Names
  Else : Names
  WhenElse : Names
  ElseBlock : Names
  Catches : Names
  MoreCatches : Names
  Catch : Names
  MayValue : Names
  LocalTail : Names
  NameTail : Names
  AfterThis : Names
  Chain : Names
  CallTail : Names
  -- expressions: a binary expression of a line of operators, and what may follow its first part
  Level : ℕ → Names
  More : ℕ → Names
  Unary : Names
  Primary : Names
  Tail : Names
  Selected : Names
  Callee : Names
  Created : Names
  Args : Names
  ArgList : Names
  MoreArgs : Names

-- what makes a value of the last values
pub data Builders : Type 0 where
  NoDecls : Builders
  NextDecl : Builders
  ActorsDecl : Builders
  LockDecl : Builders
  PolicyDecl : Builders
  ExceptionDecl : Builders
  ClassDecl : Builders
  NoIdents : Builders
  NextIdent : Builders
  OfArity : ℕ → Builders
  NoMembers : Builders
  InferredField : Builders
  InputChannel : Builders
  OutputChannel : Builders
  Field : Builders
  NextMethod : Builders
  IsStatic : Builders
  IsInstance : Builders
  NoResult : Builders
  SomeResult : Builders
  NoParams : Builders
  OneParam : Builders
  NextParam : Builders
  IsNotnull : Builders
  MayBeNull : Builders
  NoEffects : Builders
  NextWrite : Builders
  NextExpect : Builders
  NextOpen : Builders
  NextClose : Builders
  NextThrow : Builders
  IntType : Builders
  BooleanType : Builders
  ClassType : Builders
  NoPolicy : Builders
  SomePolicy : Builders
  FirstTerm : Builders
  NextTerm : Builders
  ClausesTerm : Builders
  NamedTerm : Builders
  BottomTerm : Builders
  TopTerm : Builders
  NoClauses : Builders
  OneClause : Builders
  NextClause : Builders
  NoLocks : Builders
  NextLock : Builders
  OneLock : Builders
  NoStmts : Builders
  NextStmt : Builders
  WholeBlock : Builders
  BlockStmt : Builders
  IfStmt : Builders
  NoElse : Builders
  SomeElse : Builders
  WhileStmt : Builders
  NoCatches : Builders
  OneCatch : Builders
  NextCatch : Builders
  TryStmt : Builders
  NoValue : Builders
  SomeValue : Builders
  ReturnStmt : Builders
  BreakStmt : Builders
  ContinueStmt : Builders
  ThrowStmt : Builders
  OpenStmt : Builders
  CloseStmt : Builders
  WhenStmt : Builders
  NoBlock : Builders
  SomeBlock : Builders
  LocalStmt : Builders
  ClassLocal : Builders
  AssignStmt : Builders
  CallStmt : Builders
  Constant : Builders
  TrueExpr : Builders
  FalseExpr : Builders
  NullExpr : Builders
  ThisExpr : Builders
  Create : Builders
  Variable : Builders
  Select : Builders
  CallOwn : Builders
  CallOn : Builders
  Negate : Builders
  Invert : Builders
  Binary : BinOp → Builders
  NoArgs : Builders
  NextArg : Builders

abbrev pub Symbols : Type 0
Symbols = List (Symbol Names Builders)

abbrev pub word_ : ℕ → Symbol Names Builders
word_ w = token (sort.Word w)

abbrev pub sign_ : ℕ → Symbol Names Builders
sign_ s = token (sort.Sign s)

-- a word or a sign whose place is the place of a node
abbrev pub the_word : ℕ → Symbol Names Builders
the_word w = kept (sort.Word w)

abbrev pub the_sign : ℕ → Symbol Names Builders
the_sign s = kept (sort.Sign s)

abbrev pub ident : Symbol Names Builders
ident = kept sort.Name

abbrev pub on : Sort → Symbols → Choice Names Builders
on first symbols = record { first = first; symbols = symbols }

abbrev pub on_word : ℕ → Symbols → Choice Names Builders
on_word w symbols = on (sort.Word w) symbols

abbrev pub on_sign : ℕ → Symbols → Choice Names Builders
on_sign s symbols = on (sort.Sign s) symbols

-- The lines of operators, each with its signs. Line 0 binds least, and each line groups to the
-- left.
abbrev pub operators : ℕ → List (ℕ × BinOp)
operators line =
    if nat_eq line 0 then (sign.OR_ELSE, op.Or) ∷ []
    else if nat_eq line 1 then (sign.AND_ALSO, op.And) ∷ []
    else if nat_eq line 2 then (sign.OR, op.BitOr) ∷ []
    else if nat_eq line 3 then (sign.XOR, op.BitXor) ∷ []
    else if nat_eq line 4 then (sign.AND, op.BitAnd) ∷ []
    else if nat_eq line 5 then (sign.EQUAL, op.Eq) ∷ (sign.NOT_EQUAL, op.Ne) ∷ []
    else if nat_eq line 6 then
    (sign.LESS, op.Lt) ∷ (sign.AT_MOST, op.Le) ∷ (sign.GREATER, op.Gt) ∷ (sign.AT_LEAST, op.Ge) ∷ []
    else if nat_eq line 7 then
    (sign.SHIFT_LEFT, op.Shl) ∷ (sign.SHIFT_RIGHT, op.Shr) ∷ (sign.SHIFT_RIGHT_ZERO, op.Ushr) ∷ []
    else if nat_eq line 8 then (sign.PLUS, op.Add) ∷ (sign.MINUS, op.Sub) ∷ []
    else if nat_eq line 9 then
    (sign.STAR, op.Mul) ∷ (sign.SLASH, op.Div) ∷ (sign.PERCENT, op.Rem) ∷ [] else []

-- how many lines there are
abbrev pub lines : ℕ
lines = 10

abbrev pub operation : ℕ → ℕ × BinOp → Symbols
operation line row =
    counts ∷ the_sign row.0 ∷ name (Level (line + 1)) ∷ builds (Binary row.1)
    ∷ name (More line) ∷ []

abbrev pub operations : ℕ → List (ℕ × BinOp) → List (Choice Names Builders)
operations line [] = []
operations line (row ∷ rows) = on_sign row.0 (operation line row) ∷ operations line rows

abbrev pub level : ℕ → Symbols
level line =
    if nat_lt line lines then name (Level (line + 1)) ∷ name (More line) ∷ [] else name Unary ∷ []

abbrev pub expr : Symbol Names Builders
expr = name (Level 0)

-- '.' and what it selects: a name, and then what follows
abbrev pub selecting : Names → Symbols
selecting follows = counts ∷ sign_ sign.DOT ∷ ident ∷ name follows ∷ []

-- the choices of a name, by the token that each begins with
abbrev pub choices : Names → List (Choice Names Builders)
choices MoreDecls = on sort.End [] ∷ []
choices Decl =
    on_word word.ACTOR (word_ word.ACTOR ∷ name Idents ∷ sign_ sign.SEMICOLON
    ∷ builds ActorsDecl ∷ [])
    ∷ on_word word.LOCK
    (word_ word.LOCK ∷ ident ∷ name Arity ∷ name MayPolicy ∷ sign_ sign.SEMICOLON
    ∷ builds LockDecl ∷ [])
    ∷ on_word word.POLICY
    (word_ word.POLICY ∷ ident ∷ sign_ sign.ASSIGN ∷ name Policy ∷ sign_ sign.SEMICOLON
    ∷ builds PolicyDecl ∷ [])
    ∷ on_word word.CLASS (word_ word.CLASS ∷ ident ∷ name ClassTail ∷ []) ∷ []
choices MoreIdents =
    on_sign sign.COMMA (sign_ sign.COMMA ∷ ident ∷ builds NextIdent ∷ name MoreIdents ∷ []) ∷ []
choices Arity =
    on_sign sign.LEFT_PAREN
    (sign_ sign.LEFT_PAREN ∷ word_ word.ACTOR ∷ name SecondActor ∷ sign_ sign.RIGHT_PAREN ∷ []) ∷ []
choices SecondActor =
    on_sign sign.COMMA (sign_ sign.COMMA ∷ word_ word.ACTOR ∷ builds (OfArity 2) ∷ []) ∷ []
choices ClassTail =
    on_word word.EXTENDS
    (word_ word.EXTENDS ∷ word_ word.EXCEPTION ∷ sign_ sign.LEFT_BRACE ∷ sign_ sign.RIGHT_BRACE
    ∷ builds ExceptionDecl ∷ []) ∷ []
choices MoreMembers = on_sign sign.RIGHT_BRACE [] ∷ []
choices Member = on_sign sign.QUESTION (sign_ sign.QUESTION ∷ name MarkedMember ∷ []) ∷ []
choices MarkedMember =
    on_word word.UNDERSCORE
    (word_ word.UNDERSCORE ∷ name MayStatic ∷ name AnyType ∷ ident ∷ sign_ sign.SEMICOLON
    ∷ builds InferredField ∷ []) ∷ []
choices PlainMember =
    on_word word.INPUT
    (word_ word.INPUT ∷ word_ word.INT ∷ ident ∷ sign_ sign.LEFT_PAREN ∷ sign_ sign.RIGHT_PAREN
    ∷ sign_ sign.SEMICOLON ∷ builds InputChannel ∷ [])
    ∷ on_word word.OUTPUT
    (word_ word.OUTPUT ∷ word_ word.VOID ∷ ident ∷ sign_ sign.LEFT_PAREN ∷ word_ word.INT
    ∷ token sort.Name
    ∷ sign_ sign.RIGHT_PAREN ∷ sign_ sign.SEMICOLON ∷ builds OutputChannel ∷ []) ∷ []
choices MayStatic = on_word word.STATIC (word_ word.STATIC ∷ builds IsStatic ∷ []) ∷ []
choices StaticMember =
    on_word word.VOID (word_ word.VOID ∷ builds NoResult ∷ ident ∷ name Method ∷ []) ∷ []
choices TypedTail = on_sign sign.SEMICOLON (sign_ sign.SEMICOLON ∷ builds Field ∷ []) ∷ []
choices Params = on_sign sign.RIGHT_PAREN (builds NoParams ∷ []) ∷ []
choices MoreParams =
    on_sign sign.COMMA (sign_ sign.COMMA ∷ name Param ∷ builds NextParam ∷ name MoreParams ∷ [])
    ∷ []
choices MayNotnull = on_word word.NOTNULL (word_ word.NOTNULL ∷ builds IsNotnull ∷ []) ∷ []
choices MoreEffects =
    on_sign sign.BANG (sign_ sign.BANG ∷ name Policy ∷ builds NextWrite ∷ name MoreEffects ∷ [])
    ∷ on_sign sign.TILDE (sign_ sign.TILDE ∷ name Lock ∷ builds NextExpect ∷ name MoreEffects ∷ [])
    ∷ on_sign sign.PLUS (sign_ sign.PLUS ∷ name Lock ∷ builds NextOpen ∷ name MoreEffects ∷ [])
    ∷ on_sign sign.MINUS (sign_ sign.MINUS ∷ name Lock ∷ builds NextClose ∷ name MoreEffects ∷ [])
    ∷ on_word word.THROWS
    (word_ word.THROWS ∷ ident ∷ name Policy ∷ builds NextThrow ∷ name MoreEffects ∷ []) ∷ []
choices AnyType =
    on_word word.INT (the_word word.INT ∷ builds IntType ∷ [])
    ∷ on_word word.BOOLEAN (the_word word.BOOLEAN ∷ builds BooleanType ∷ [])
    ∷ on sort.Name (ident ∷ builds ClassType ∷ []) ∷ []
choices MayPolicy =
    on_sign sign.QUESTION (sign_ sign.QUESTION ∷ name Policy ∷ builds SomePolicy ∷ []) ∷ []
choices MoreTerms =
    on_sign sign.STAR (sign_ sign.STAR ∷ name Term ∷ builds NextTerm ∷ name MoreTerms ∷ []) ∷ []
choices Term =
    on_sign sign.LEFT_BRACE
    (the_sign sign.LEFT_BRACE ∷ name Clauses ∷ sign_ sign.RIGHT_BRACE ∷ builds ClausesTerm ∷ [])
    ∷ on sort.Name (ident ∷ builds NamedTerm ∷ [])
    ∷ on_word word.BOTTOM (the_word word.BOTTOM ∷ builds BottomTerm ∷ [])
    ∷ on_word word.TOP (the_word word.TOP ∷ builds TopTerm ∷ []) ∷ []
choices Clauses =
    on sort.Name (builds NoClauses ∷ name Clause ∷ builds NextClause ∷ name MoreClauses ∷ []) ∷ []
choices MoreClauses =
    on_sign sign.SEMICOLON
    (sign_ sign.SEMICOLON ∷ name Clause ∷ builds NextClause ∷ name MoreClauses ∷ []) ∷ []
choices Needs =
    on sort.Name (builds NoLocks ∷ name Lock ∷ builds NextLock ∷ name MoreNeeds ∷ []) ∷ []
choices MoreNeeds =
    on_sign sign.COMMA (sign_ sign.COMMA ∷ name Lock ∷ builds NextLock ∷ name MoreNeeds ∷ []) ∷ []
choices LockActors =
    on_sign sign.LEFT_PAREN
    (sign_ sign.LEFT_PAREN ∷ builds NoIdents ∷ ident ∷ builds NextIdent ∷ name SecondIdent
    ∷ sign_ sign.RIGHT_PAREN ∷ []) ∷ []
choices SecondIdent = on_sign sign.COMMA (sign_ sign.COMMA ∷ ident ∷ builds NextIdent ∷ []) ∷ []
choices Block =
    on_sign sign.LEFT_BRACE
    (restarts ∷ enters ∷ the_sign sign.LEFT_BRACE ∷ name Stmts ∷ sign_ sign.RIGHT_BRACE ∷ leaves
    ∷ builds WholeBlock ∷ []) ∷ []
choices MoreStmts = on_sign sign.RIGHT_BRACE [] ∷ []
choices Stmt =
    on_sign sign.LEFT_BRACE (name Block ∷ builds BlockStmt ∷ [])
    ∷ on_word word.IF (name If ∷ [])
    ∷ on_word word.WHILE
    (the_word word.WHILE ∷ sign_ sign.LEFT_PAREN ∷ restarts ∷ expr ∷ sign_ sign.RIGHT_PAREN
    ∷ name Block
    ∷ builds WhileStmt ∷ [])
    ∷ on_word word.TRY (the_word word.TRY ∷ name Block ∷ name Catches ∷ builds TryStmt ∷ [])
    ∷ on_word word.WHEN
    (the_word word.WHEN ∷ sign_ sign.LEFT_PAREN ∷ name Lock ∷ sign_ sign.RIGHT_PAREN ∷ name Block
    ∷ name WhenElse ∷ builds WhenStmt ∷ [])
    ∷ on_word word.RETURN
    (the_word word.RETURN ∷ restarts ∷ name MayValue ∷ sign_ sign.SEMICOLON
    ∷ builds ReturnStmt ∷ [])
    ∷ on_word word.BREAK (the_word word.BREAK ∷ sign_ sign.SEMICOLON ∷ builds BreakStmt ∷ [])
    ∷ on_word word.CONTINUE (the_word word.CONTINUE ∷ sign_ sign.SEMICOLON
    ∷ builds ContinueStmt ∷ [])
    ∷ on_word word.THROW
    (the_word word.THROW ∷ word_ word.NEW ∷ ident ∷ sign_ sign.LEFT_PAREN ∷ sign_ sign.RIGHT_PAREN
    ∷ sign_ sign.SEMICOLON ∷ builds ThrowStmt ∷ [])
    ∷ on_word word.OPEN (the_word word.OPEN ∷ name Lock ∷ sign_ sign.SEMICOLON
    ∷ builds OpenStmt ∷ [])
    ∷ on_word word.CLOSE (the_word word.CLOSE ∷ name Lock ∷ sign_ sign.SEMICOLON
    ∷ builds CloseStmt ∷ [])
    ∷ on_sign sign.QUESTION (name MayPolicy ∷ name MayNotnull ∷ name AnyType ∷ name LocalTail ∷ [])
    ∷ on_word word.NOTNULL (builds NoPolicy ∷ name MayNotnull ∷ name AnyType ∷ name LocalTail ∷ [])
    ∷ on_word word.INT (builds NoPolicy ∷ builds MayBeNull ∷ name AnyType ∷ name LocalTail ∷ [])
    ∷ on_word word.BOOLEAN (builds NoPolicy ∷ builds MayBeNull ∷ name AnyType ∷ name LocalTail ∷ [])
    ∷ on sort.Name (restarts ∷ ident ∷ name NameTail ∷ [])
    ∷ on_word word.THIS (restarts ∷ the_word word.THIS ∷ builds ThisExpr ∷ name AfterThis ∷ []) ∷ []
choices If =
    on_word word.IF
    (the_word word.IF ∷ sign_ sign.LEFT_PAREN ∷ restarts ∷ expr ∷ sign_ sign.RIGHT_PAREN
    ∷ name Block
    ∷ name ElsePart ∷ builds IfStmt ∷ []) ∷ []
choices ElsePart = on_word word.ELSE (word_ word.ELSE ∷ name Else ∷ builds SomeElse ∷ []) ∷ []
choices Else =
    on_sign sign.LEFT_BRACE (restarts ∷ enters ∷ name Block ∷ leaves ∷ builds BlockStmt ∷ [])
    ∷ on_word word.IF (restarts ∷ enters ∷ name If ∷ leaves ∷ []) ∷ []
choices WhenElse = on_word word.ELSE (word_ word.ELSE ∷ name ElseBlock ∷ builds SomeBlock ∷ []) ∷ []
choices ElseBlock = on_sign sign.LEFT_BRACE (restarts ∷ enters ∷ name Block ∷ leaves ∷ []) ∷ []
choices MoreCatches =
    on_word word.CATCH (name Catch ∷ builds NextCatch ∷ name MoreCatches ∷ []) ∷ []
choices MayValue = on_sign sign.SEMICOLON (builds NoValue ∷ []) ∷ []
choices NameTail =
    on sort.Name
    (ident ∷ sign_ sign.ASSIGN ∷ expr ∷ sign_ sign.SEMICOLON ∷ builds ClassLocal ∷ [])
    ∷ on_sign sign.ASSIGN
    (builds Variable ∷ the_sign sign.ASSIGN ∷ expr ∷ sign_ sign.SEMICOLON ∷ builds AssignStmt ∷ [])
    ∷ on_sign sign.DOT (builds Variable ∷ selecting Chain)
    ∷ on_sign sign.LEFT_PAREN (name Args ∷ builds CallOwn ∷ name CallTail ∷ []) ∷ []
choices AfterThis = on_sign sign.DOT (selecting Chain) ∷ []
choices Chain =
    on_sign sign.ASSIGN
    (builds Select ∷ the_sign sign.ASSIGN ∷ expr ∷ sign_ sign.SEMICOLON ∷ builds AssignStmt ∷ [])
    ∷ on_sign sign.DOT (builds Select ∷ selecting Chain)
    ∷ on_sign sign.LEFT_PAREN (name Args ∷ builds CallOn ∷ name CallTail ∷ []) ∷ []
choices CallTail = on_sign sign.DOT (selecting Chain) ∷ []
choices (More line) = operations line (operators line)
choices Unary =
    on_sign sign.MINUS (counts ∷ the_sign sign.MINUS ∷ name Unary ∷ builds Negate ∷ [])
    ∷ on_sign sign.BANG (counts ∷ the_sign sign.BANG ∷ name Unary ∷ builds Invert ∷ []) ∷ []
choices Primary =
    on sort.Number (kept sort.Number ∷ builds Constant ∷ [])
    ∷ on_word word.TRUE (the_word word.TRUE ∷ builds TrueExpr ∷ [])
    ∷ on_word word.FALSE (the_word word.FALSE ∷ builds FalseExpr ∷ [])
    ∷ on_word word.NULL (the_word word.NULL ∷ builds NullExpr ∷ [])
    ∷ on_word word.THIS (the_word word.THIS ∷ builds ThisExpr ∷ [])
    ∷ on_word word.NEW (the_word word.NEW ∷ ident ∷ name Created ∷ [])
    ∷ on sort.Name (ident ∷ name Callee ∷ [])
    ∷ on_sign sign.LEFT_PAREN
    (counts ∷ sign_ sign.LEFT_PAREN ∷ expr ∷ sign_ sign.RIGHT_PAREN ∷ []) ∷ []
choices Tail =
    on_sign sign.DOT (counts ∷ sign_ sign.DOT ∷ ident ∷ name Selected ∷ name Tail ∷ []) ∷ []
choices Selected = on_sign sign.LEFT_PAREN (name Args ∷ builds CallOn ∷ []) ∷ []
choices Callee = on_sign sign.LEFT_PAREN (name Args ∷ builds CallOwn ∷ []) ∷ []
choices Created =
    on_sign sign.LEFT_PAREN
    (counts ∷ sign_ sign.LEFT_PAREN ∷ sign_ sign.RIGHT_PAREN ∷ builds Create ∷ []) ∷ []
choices Args =
    on_sign sign.LEFT_PAREN
    (counts ∷ sign_ sign.LEFT_PAREN ∷ name ArgList ∷ sign_ sign.RIGHT_PAREN ∷ []) ∷ []
choices ArgList = on_sign sign.RIGHT_PAREN (builds NoArgs ∷ []) ∷ []
choices MoreArgs =
    on_sign sign.COMMA (sign_ sign.COMMA ∷ expr ∷ builds NextArg ∷ name MoreArgs ∷ []) ∷ []
choices _ = []

-- what a name is replaced by where the next token chooses none of its choices
abbrev pub otherwise : Names → Option Symbols
otherwise Program = Some (name Decls ∷ finish ∷ [])
otherwise Decls = Some (builds NoDecls ∷ name MoreDecls ∷ [])
otherwise MoreDecls = Some (name Decl ∷ builds NextDecl ∷ name MoreDecls ∷ [])
otherwise Idents = Some (builds NoIdents ∷ ident ∷ builds NextIdent ∷ name MoreIdents ∷ [])
otherwise MoreIdents = Some []
otherwise Arity = Some (builds (OfArity 0) ∷ [])
otherwise SecondActor = Some (builds (OfArity 1) ∷ [])
otherwise ClassTail =
    Some (name MayPolicy ∷ sign_ sign.LEFT_BRACE ∷ name Members ∷ sign_ sign.RIGHT_BRACE
    ∷ builds ClassDecl ∷ [])
otherwise Members = Some (builds NoMembers ∷ name MoreMembers ∷ [])
otherwise MoreMembers = Some (name Member ∷ name MoreMembers ∷ [])
otherwise Member = Some (builds NoPolicy ∷ name PlainMember ∷ [])
otherwise MarkedMember = Some (name Policy ∷ builds SomePolicy ∷ name PlainMember ∷ [])
otherwise PlainMember = Some (name MayStatic ∷ name StaticMember ∷ [])
otherwise MayStatic = Some (builds IsInstance ∷ [])
otherwise StaticMember = Some (name AnyType ∷ ident ∷ name TypedTail ∷ [])
otherwise TypedTail = Some (builds SomeResult ∷ name Method ∷ [])
otherwise Method =
    Some (sign_ sign.LEFT_PAREN ∷ name Params ∷ sign_ sign.RIGHT_PAREN ∷ name Effects ∷ name Block
    ∷ builds NextMethod ∷ [])
otherwise Params = Some (builds NoParams ∷ name Param ∷ builds NextParam ∷ name MoreParams ∷ [])
otherwise MoreParams = Some []
otherwise Param =
    Some (name MayPolicy ∷ name MayNotnull ∷ name AnyType ∷ ident ∷ builds OneParam ∷ [])
otherwise MayNotnull = Some (builds MayBeNull ∷ [])
otherwise Effects = Some (builds NoEffects ∷ name MoreEffects ∷ [])
otherwise MoreEffects = Some []
otherwise MayPolicy = Some (builds NoPolicy ∷ [])
otherwise Policy = Some (name Term ∷ builds FirstTerm ∷ name MoreTerms ∷ [])
otherwise MoreTerms = Some []
otherwise Clauses = Some (builds NoClauses ∷ [])
otherwise MoreClauses = Some []
otherwise Clause = Some (ident ∷ sign_ sign.COLON ∷ name Needs ∷ builds OneClause ∷ [])
otherwise Needs = Some (builds NoLocks ∷ [])
otherwise MoreNeeds = Some []
otherwise Lock = Some (ident ∷ name LockActors ∷ builds OneLock ∷ [])
otherwise LockActors = Some (builds NoIdents ∷ [])
otherwise SecondIdent = Some []
otherwise Stmts = Some (builds NoStmts ∷ name MoreStmts ∷ [])
otherwise MoreStmts = Some (name Stmt ∷ builds NextStmt ∷ name MoreStmts ∷ [])
otherwise ElsePart = Some (builds NoElse ∷ [])
otherwise WhenElse = Some (builds NoBlock ∷ [])
otherwise Catches = Some (builds NoCatches ∷ name Catch ∷ builds NextCatch ∷ name MoreCatches ∷ [])
otherwise MoreCatches = Some []
otherwise Catch =
    Some (word_ word.CATCH ∷ sign_ sign.LEFT_PAREN ∷ ident ∷ ident ∷ sign_ sign.RIGHT_PAREN
    ∷ name Block
    ∷ builds OneCatch ∷ [])
otherwise MayValue = Some (expr ∷ builds SomeValue ∷ [])
otherwise LocalTail =
    Some (ident ∷ sign_ sign.ASSIGN ∷ restarts ∷ expr ∷ sign_ sign.SEMICOLON
    ∷ builds LocalStmt ∷ [])
otherwise CallTail = Some (the_sign sign.SEMICOLON ∷ builds CallStmt ∷ [])
otherwise (Level line) = Some (level line)
otherwise (More line) = Some []
otherwise Unary = Some (name Primary ∷ name Tail ∷ [])
otherwise Tail = Some []
otherwise Selected = Some (builds Select ∷ [])
otherwise Callee = Some (builds Variable ∷ [])
otherwise ArgList = Some (builds NoArgs ∷ expr ∷ builds NextArg ∷ name MoreArgs ∷ [])
otherwise MoreArgs = Some []
otherwise _ = None
