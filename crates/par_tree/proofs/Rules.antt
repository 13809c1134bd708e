-- What a builder changes, and what the names of one alternative are replaced by.
use Rattle.std.proofs.Common.{◌≡◌, ◌∷◌, refl}
use Rattle.par_grammar.specs.Grammar.{builds, finish, name, restarts}
use Rattle.par_grammar.specs.Derivation.{Input}
use Rattle.par_grammar.proofs.Run.{run, run_builds, run_name}
use Rattle.par_grammar.specs.par_lexer.declared.word.TheConstants as word
use Rattle.par_grammar.specs.par_lexer.declared.sign.TheConstants as sign
use Rattle.par_tree.specs.Grammar.{Builders, Symbols}
use Rattle.par_tree.specs.Grammar as g
use Rattle.par_tree.specs.Values.{Values, paragon, built}
use Rattle.par_tree.proofs.Founded.{founded}

pub run_built : (s : Symbols) (i : Input) (vs : Values) (b : Builders)
    → run paragon founded (builds b ∷ s) i vs ≡ run paragon founded s i (built b vs)
run_built s i vs b = run_builds paragon founded s i vs b

pub program_opens : (s : Symbols) (i : Input) (vs : Values)
    → run paragon founded (name g.Program ∷ s) i vs ≡ run paragon founded (
    name g.Decls ∷ finish ∷ s) i vs
program_opens s i vs = run_name paragon founded s i vs g.Program _ refl

pub idents_opens : (s : Symbols) (i : Input) (vs : Values)
    → run paragon founded (name g.Idents ∷ s) i vs ≡ run paragon founded (
    builds g.NoIdents ∷ g.ident ∷ builds g.NextIdent ∷ name g.MoreIdents ∷ s) i vs
idents_opens s i vs = run_name paragon founded s i vs g.Idents _ refl

pub members_opens : (s : Symbols) (i : Input) (vs : Values)
    → run paragon founded (name g.Members ∷ s) i vs ≡ run paragon founded (
    builds g.NoMembers ∷ name g.MoreMembers ∷ s) i vs
members_opens s i vs = run_name paragon founded s i vs g.Members _ refl

pub method_opens : (s : Symbols) (i : Input) (vs : Values)
    → run paragon founded (name g.Method ∷ s) i vs ≡ run paragon founded (
    g.sign_ sign.LEFT_PAREN ∷ name g.Params ∷ g.sign_ sign.RIGHT_PAREN ∷ name g.Effects ∷
    name g.Block ∷ builds g.NextMethod ∷ s) i vs
method_opens s i vs = run_name paragon founded s i vs g.Method _ refl

pub param_opens : (s : Symbols) (i : Input) (vs : Values)
    → run paragon founded (name g.Param ∷ s) i vs ≡ run paragon founded (
    name g.MayPolicy ∷ name g.MayNotnull ∷ name g.AnyType ∷ g.ident ∷ builds g.OneParam ∷ s) i vs
param_opens s i vs = run_name paragon founded s i vs g.Param _ refl

pub policy_opens : (s : Symbols) (i : Input) (vs : Values)
    → run paragon founded (name g.Policy ∷ s) i vs ≡ run paragon founded (
    name g.Term ∷ builds g.FirstTerm ∷ name g.MoreTerms ∷ s) i vs
policy_opens s i vs = run_name paragon founded s i vs g.Policy _ refl

pub clause_opens : (s : Symbols) (i : Input) (vs : Values)
    → run paragon founded (name g.Clause ∷ s) i vs ≡ run paragon founded (
    g.ident ∷ g.sign_ sign.COLON ∷ name g.Needs ∷ builds g.OneClause ∷ s) i vs
clause_opens s i vs = run_name paragon founded s i vs g.Clause _ refl

pub lock_opens : (s : Symbols) (i : Input) (vs : Values)
    → run paragon founded (name g.Lock ∷ s) i vs ≡ run paragon founded (
    g.ident ∷ name g.LockActors ∷ builds g.OneLock ∷ s) i vs
lock_opens s i vs = run_name paragon founded s i vs g.Lock _ refl

pub stmts_opens : (s : Symbols) (i : Input) (vs : Values)
    → run paragon founded (name g.Stmts ∷ s) i vs ≡ run paragon founded (
    builds g.NoStmts ∷ name g.MoreStmts ∷ s) i vs
stmts_opens s i vs = run_name paragon founded s i vs g.Stmts _ refl

pub catches_opens : (s : Symbols) (i : Input) (vs : Values)
    → run paragon founded (name g.Catches ∷ s) i vs ≡ run paragon founded (
    builds g.NoCatches ∷ name g.Catch ∷ builds g.NextCatch ∷ name g.MoreCatches ∷ s) i vs
catches_opens s i vs = run_name paragon founded s i vs g.Catches _ refl

pub catch_opens : (s : Symbols) (i : Input) (vs : Values)
    → run paragon founded (name g.Catch ∷ s) i vs ≡ run paragon founded (
    g.word_ word.CATCH ∷ g.sign_ sign.LEFT_PAREN ∷ g.ident ∷ g.ident ∷
    g.sign_ sign.RIGHT_PAREN ∷ name g.Block ∷ builds g.OneCatch ∷ s) i vs
catch_opens s i vs = run_name paragon founded s i vs g.Catch _ refl

pub local_opens : (s : Symbols) (i : Input) (vs : Values)
    → run paragon founded (name g.LocalTail ∷ s) i vs ≡ run paragon founded (
    g.ident ∷ g.sign_ sign.ASSIGN ∷ restarts ∷ g.expr ∷ g.sign_ sign.SEMICOLON ∷
    builds g.LocalStmt ∷ s) i vs
local_opens s i vs = run_name paragon founded s i vs g.LocalTail _ refl
