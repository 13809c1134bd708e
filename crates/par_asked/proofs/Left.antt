-- What is left of a list, one by one.
use Rattle.std.proofs.Common.{◌≡◌, ℕ, ◌+◌, ◌<◌, ◌≤◌, List, [], ◌∷◌}
use Rattle.std.proofs.Common.{length, get_or, drop, ap, sym, ◌∙◌}
use Rattle.std.proofs.lemmas.List.{at_drop_more, at_drop_all}
use Rattle.par_typed.specs.declared.expr.TExpr.{TExpr}
use Rattle.par_typed.specs.declared.stmt.TStmt.{TStmt}
use Rattle.par_typed.specs.declared.stmt.TCatch.{TCatch}
use Rattle.par_typed.specs.Plain.{More, NoExps, Then, End, Catch, NoCatch}
use Rattle.par_typed.specs.Shown.{shown, all_shown, does, all_do, all_catch}

-- of any list
pub left_more : {X : Type 0} (xs : List X) (i : ℕ) (x : X) → i < length xs → x ≡ get_or xs i x
    → drop i xs ≡ x ∷ drop (i + 1) xs
left_more xs i x lt is =
    at_drop_more (λ ys. ys) xs i x lt ∙ ap (λ y. y ∷ drop (i + 1) xs) (sym is)

pub left_none : {X : Type 0} (xs : List X) (i : ℕ) → length xs ≤ i → drop i xs ≡ []
left_none xs i le = at_drop_all (λ ys. ys) xs i le

-- of arguments
pub args_left : (es : List TExpr) (i : ℕ) (e : TExpr) → i < length es → e ≡ get_or es i e
    → all_shown (drop i es) ≡ More (shown e) (all_shown (drop (i + 1) es))
args_left es i e lt is = ap all_shown (left_more es i e lt is)

pub no_args_left : (es : List TExpr) (i : ℕ) → length es ≤ i → all_shown (drop i es) ≡ NoExps
no_args_left es i le = ap all_shown (left_none es i le)

-- of statements
pub stmts_left : (ss : List TStmt) (i : ℕ) (s : TStmt) → i < length ss → s ≡ get_or ss i s
    → all_do (drop i ss) ≡ Then (does s) (all_do (drop (i + 1) ss))
stmts_left ss i s lt is = ap all_do (left_more ss i s lt is)

pub no_stmts_left : (ss : List TStmt) (i : ℕ) → length ss ≤ i → all_do (drop i ss) ≡ End
no_stmts_left ss i le = ap all_do (left_none ss i le)

-- of catches
pub catches_left : (cs : List TCatch) (i : ℕ) (c : TCatch) → i < length cs → c ≡ get_or cs i c
    → all_catch (drop i cs) ≡ Catch c.class (does c.body) (all_catch (drop (i + 1) cs))
catches_left cs i c lt is = ap all_catch (left_more cs i c lt is)

pub no_catches_left : (cs : List TCatch) (i : ℕ) → length cs ≤ i → all_catch (drop i cs) ≡ NoCatch
no_catches_left cs i le = ap all_catch (left_none cs i le)
