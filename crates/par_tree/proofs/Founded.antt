-- The grammar of Paragon is founded: no name is replaced for ever before a token is taken.
use Rattle.std.proofs.Common.{◌≡◌, ◌+◌, ◌-◌, ℕ, Bool, true, false, refl, lit<, arith, if◌then◌else◌}
use Rattle.std.proofs.Common.{List, [], ◌∷◌, nat_lt}
use Rattle.std.proofs.lemmas.Bool.Decides.{nat_tests}
use Rattle.par_grammar.specs.par_lexer.declared.operator.BinOp.{BinOp}
use Rattle.par_grammar.specs.Grammar.{name}
use Rattle.par_grammar.proofs.Total.{Founded, AllLight, LightIfAny, Lighter}
use Rattle.par_tree.specs.Grammar.{Names, Builders, lines, operations, operators}
use Rattle.par_tree.specs.Grammar as g
use Rattle.par_tree.specs.Values.{paragon}

-- A name weighs more than what stands in its alternatives before a token.
abbrev weight : Names → ℕ
weight g.Program = 6
weight g.Decls = 4
weight g.MoreDecls = 2
weight g.Decl = 1
weight g.Idents = 2
weight g.MoreIdents = 1
weight g.Arity = 2
weight g.SecondActor = 2
weight g.ClassTail = 3
weight g.Members = 10
weight g.MoreMembers = 8
weight g.Member = 7
weight g.MarkedMember = 3
weight g.PlainMember = 5
weight g.MayStatic = 2
weight g.StaticMember = 2
weight g.TypedTail = 3
weight g.Method = 1
weight g.Params = 8
weight g.MoreParams = 1
weight g.Param = 6
weight g.MayNotnull = 2
weight g.Effects = 3
weight g.MoreEffects = 1
weight g.AnyType = 1
weight g.MayPolicy = 2
weight g.Policy = 2
weight g.MoreTerms = 1
weight g.Term = 1
weight g.Clauses = 3
weight g.MoreClauses = 1
weight g.Clause = 1
weight g.Needs = 3
weight g.MoreNeeds = 1
weight g.Lock = 1
weight g.LockActors = 2
weight g.SecondIdent = 1
weight g.Block = 3
weight g.Stmts = 9
weight g.MoreStmts = 7
weight g.Stmt = 6
weight g.If = 1
weight g.ElsePart = 2
weight g.Else = 6
weight g.WhenElse = 2
weight g.ElseBlock = 6
weight g.Catches = 3
weight g.MoreCatches = 2
weight g.Catch = 1
weight g.MayValue = 15
weight g.LocalTail = 1
weight g.NameTail = 3
weight g.AfterThis = 2
weight g.Chain = 3
weight g.CallTail = 2
weight (g.Level line) = 4 + (lines - line)
weight (g.More line) = 2
weight g.Unary = 3
weight g.Primary = 2
weight g.Tail = 2
weight g.Selected = 3
weight g.Callee = 3
weight g.Created = 2
weight g.Args = 2
weight g.ArgList = 16
weight g.MoreArgs = 1

-- These have a token in each alternative.
abbrev solid : Names → Bool
solid g.Decl = true
solid g.Idents = true
solid g.ClassTail = true
solid g.Member = true
solid g.MarkedMember = true
solid g.PlainMember = true
solid g.StaticMember = true
solid g.TypedTail = true
solid g.Method = true
solid g.Param = true
solid g.AnyType = true
solid g.Policy = true
solid g.Term = true
solid g.Clause = true
solid g.Lock = true
solid g.Block = true
solid g.Stmt = true
solid g.If = true
solid g.Else = true
solid g.ElseBlock = true
solid g.Catches = true
solid g.Catch = true
solid g.LocalTail = true
solid g.NameTail = true
solid g.AfterThis = true
solid g.Chain = true
solid g.CallTail = true
solid (g.Level line) = true
solid g.Unary = true
solid g.Primary = true
solid g.Created = true
solid g.Args = true
solid _ = false

operations_light : (line : ℕ) (rows : List (ℕ × BinOp))
    → AllLight weight solid {Builders = Builders} false 2 (operations line rows)
operations_light line [] = tt
operations_light line (row ∷ rows) = (lit< tt, operations_light line rows)

level_light : (line : ℕ) (b : Bool) → nat_lt line lines ≡ b
    → Lighter weight solid {Builders = Builders} true (4 + (lines - line))
    (if b then name (g.Level (line + 1)) ∷ name (g.More line) ∷ [] else name g.Unary ∷ [])
level_light line true e = (grind (arith, nat_tests), refl)
level_light line false e = (omega arith, refl)

choices_light : (n : Names) → AllLight weight solid (solid n) (weight n) (g.choices n)
choices_light g.Program = tt
choices_light g.Decls = tt
choices_light g.MoreDecls = (lit< tt, tt)
choices_light g.Decl =
    ((lit< tt, refl), ((lit< tt, refl), ((lit< tt, refl), ((lit< tt, refl), tt))))
choices_light g.Idents = tt
choices_light g.MoreIdents = (lit< tt, tt)
choices_light g.Arity = (lit< tt, tt)
choices_light g.SecondActor = (lit< tt, tt)
choices_light g.ClassTail = ((lit< tt, refl), tt)
choices_light g.Members = tt
choices_light g.MoreMembers = (lit< tt, tt)
choices_light g.Member = ((lit< tt, refl), tt)
choices_light g.MarkedMember = ((lit< tt, refl), tt)
choices_light g.PlainMember = ((lit< tt, refl), ((lit< tt, refl), tt))
choices_light g.MayStatic = (lit< tt, tt)
choices_light g.StaticMember = ((lit< tt, refl), tt)
choices_light g.TypedTail = ((lit< tt, refl), tt)
choices_light g.Method = tt
choices_light g.Params = (lit< tt, tt)
choices_light g.MoreParams = (lit< tt, tt)
choices_light g.Param = tt
choices_light g.MayNotnull = (lit< tt, tt)
choices_light g.Effects = tt
choices_light g.MoreEffects = (lit< tt, (lit< tt, (lit< tt, (lit< tt, (lit< tt, tt)))))
choices_light g.AnyType = ((lit< tt, refl), ((lit< tt, refl), ((lit< tt, refl), tt)))
choices_light g.MayPolicy = (lit< tt, tt)
choices_light g.Policy = tt
choices_light g.MoreTerms = (lit< tt, tt)
choices_light g.Term =
    ((lit< tt, refl), ((lit< tt, refl), ((lit< tt, refl), ((lit< tt, refl), tt))))
choices_light g.Clauses = (lit< tt, tt)
choices_light g.MoreClauses = (lit< tt, tt)
choices_light g.Clause = tt
choices_light g.Needs = (lit< tt, tt)
choices_light g.MoreNeeds = (lit< tt, tt)
choices_light g.Lock = tt
choices_light g.LockActors = (lit< tt, tt)
choices_light g.SecondIdent = (lit< tt, tt)
choices_light g.Block = ((lit< tt, refl), tt)
choices_light g.Stmts = tt
choices_light g.MoreStmts = (lit< tt, tt)
choices_light g.Stmt = (
  (lit< tt, refl),
  (
    (lit< tt, refl),
    (
      (lit< tt, refl),
      (
        (lit< tt, refl),
        (
          (lit< tt, refl),
          (
            (lit< tt, refl),
            (
              (lit< tt, refl),
              (
                (lit< tt, refl),
                (
                  (lit< tt, refl),
                  (
                    (lit< tt, refl),
                    (
                      (lit< tt, refl),
                      (
                        (lit< tt, refl),
                        (
                          (lit< tt, refl),
                          (
                            (lit< tt, refl),
                            ((lit< tt, refl), ((lit< tt, refl), ((lit< tt, refl), tt))),
                          ),
                        ),
                      ),
                    ),
                  ),
                ),
              ),
            ),
          ),
        ),
      ),
    ),
  ),
)
choices_light g.If = ((lit< tt, refl), tt)
choices_light g.ElsePart = (lit< tt, tt)
choices_light g.Else = ((lit< tt, refl), ((lit< tt, refl), tt))
choices_light g.WhenElse = (lit< tt, tt)
choices_light g.ElseBlock = ((lit< tt, refl), tt)
choices_light g.Catches = tt
choices_light g.MoreCatches = (lit< tt, tt)
choices_light g.Catch = tt
choices_light g.MayValue = (lit< tt, tt)
choices_light g.LocalTail = tt
choices_light g.NameTail =
    ((lit< tt, refl), ((lit< tt, refl), ((lit< tt, refl), ((lit< tt, refl), tt))))
choices_light g.AfterThis = ((lit< tt, refl), tt)
choices_light g.Chain = ((lit< tt, refl), ((lit< tt, refl), ((lit< tt, refl), tt)))
choices_light g.CallTail = ((lit< tt, refl), tt)
choices_light (g.Level line) = tt
choices_light (g.More line) = operations_light line (operators line)
choices_light g.Unary = ((lit< tt, refl), ((lit< tt, refl), tt))
choices_light g.Primary = (
  (lit< tt, refl),
  (
    (lit< tt, refl),
    (
      (lit< tt, refl),
      (
        (lit< tt, refl),
        ((lit< tt, refl), ((lit< tt, refl), ((lit< tt, refl), ((lit< tt, refl), tt)))),
      ),
    ),
  ),
)
choices_light g.Tail = (lit< tt, tt)
choices_light g.Selected = (lit< tt, tt)
choices_light g.Callee = (lit< tt, tt)
choices_light g.Created = ((lit< tt, refl), tt)
choices_light g.Args = ((lit< tt, refl), tt)
choices_light g.ArgList = (lit< tt, tt)
choices_light g.MoreArgs = (lit< tt, tt)

otherwise_light : (n : Names) → LightIfAny weight solid (solid n) (weight n) (g.otherwise n)
otherwise_light g.Program = lit< tt
otherwise_light g.Decls = lit< tt
otherwise_light g.MoreDecls = lit< tt
otherwise_light g.Decl = tt
otherwise_light g.Idents = (lit< tt, refl)
otherwise_light g.MoreIdents = lit< tt
otherwise_light g.Arity = lit< tt
otherwise_light g.SecondActor = lit< tt
otherwise_light g.ClassTail = (lit< tt, refl)
otherwise_light g.Members = lit< tt
otherwise_light g.MoreMembers = lit< tt
otherwise_light g.Member = (lit< tt, refl)
otherwise_light g.MarkedMember = (lit< tt, refl)
otherwise_light g.PlainMember = (lit< tt, refl)
otherwise_light g.MayStatic = lit< tt
otherwise_light g.StaticMember = (lit< tt, refl)
otherwise_light g.TypedTail = (lit< tt, refl)
otherwise_light g.Method = (lit< tt, refl)
otherwise_light g.Params = lit< tt
otherwise_light g.MoreParams = lit< tt
otherwise_light g.Param = (lit< tt, refl)
otherwise_light g.MayNotnull = lit< tt
otherwise_light g.Effects = lit< tt
otherwise_light g.MoreEffects = lit< tt
otherwise_light g.AnyType = tt
otherwise_light g.MayPolicy = lit< tt
otherwise_light g.Policy = (lit< tt, refl)
otherwise_light g.MoreTerms = lit< tt
otherwise_light g.Term = tt
otherwise_light g.Clauses = lit< tt
otherwise_light g.MoreClauses = lit< tt
otherwise_light g.Clause = (lit< tt, refl)
otherwise_light g.Needs = lit< tt
otherwise_light g.MoreNeeds = lit< tt
otherwise_light g.Lock = (lit< tt, refl)
otherwise_light g.LockActors = lit< tt
otherwise_light g.SecondIdent = lit< tt
otherwise_light g.Block = tt
otherwise_light g.Stmts = lit< tt
otherwise_light g.MoreStmts = lit< tt
otherwise_light g.Stmt = tt
otherwise_light g.If = tt
otherwise_light g.ElsePart = lit< tt
otherwise_light g.Else = tt
otherwise_light g.WhenElse = lit< tt
otherwise_light g.ElseBlock = tt
otherwise_light g.Catches = (lit< tt, refl)
otherwise_light g.MoreCatches = lit< tt
otherwise_light g.Catch = (lit< tt, refl)
otherwise_light g.MayValue = lit< tt
otherwise_light g.LocalTail = (lit< tt, refl)
otherwise_light g.NameTail = tt
otherwise_light g.AfterThis = tt
otherwise_light g.Chain = tt
otherwise_light g.CallTail = (lit< tt, refl)
otherwise_light (g.Level line) = level_light line (nat_lt line lines) refl
otherwise_light (g.More line) = lit< tt
otherwise_light g.Unary = (lit< tt, refl)
otherwise_light g.Primary = tt
otherwise_light g.Tail = lit< tt
otherwise_light g.Selected = lit< tt
otherwise_light g.Callee = lit< tt
otherwise_light g.Created = tt
otherwise_light g.Args = tt
otherwise_light g.ArgList = lit< tt
otherwise_light g.MoreArgs = lit< tt

pub founded : Founded paragon
founded = record {
  weight = weight;
  solid = solid;
  choices = choices_light;
  otherwise = otherwise_light;
}
