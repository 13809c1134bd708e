-- What is left of a list, one by one.
use Rattle.std.proofs.Common.{◌≡◌, ℕ, ◌+◌, ◌<◌, ◌≤◌, List, [], ◌∷◌, length, get_or, drop, ap, sym}
use Rattle.std.proofs.Common.{◌∙◌}
use Rattle.std.proofs.lemmas.List.{at_drop_more, at_drop_all}
use Rattle.par_tree.specs.declared.expr.Expr.{Expr}
use Rattle.par_tree.specs.declared.stmt.Stmt.{Stmt}
use Rattle.par_tree.specs.declared.stmt.CatchTree.{CatchTree}
use Rattle.par_tree.specs.Plain.{Then, End, Catch, NoCatch, More, NoExps}
use Rattle.par_tree.specs.Shown.{shown, all_shown, does, all_do, handler, all_catch}

-- of any list
pub left_more : {X : Type 0} (xs : List X) (i : ℕ) (x : X) → i < length xs → x ≡ get_or xs i x
    → drop i xs ≡ x ∷ drop (i + 1) xs
left_more xs i x lt is =
    at_drop_more (λ ys. ys) xs i x lt ∙ ap (λ y. y ∷ drop (i + 1) xs) (sym is)

pub left_none : {X : Type 0} (xs : List X) (i : ℕ) → length xs ≤ i → drop i xs ≡ []
left_none xs i le = at_drop_all (λ ys. ys) xs i le

-- of statements
pub does_more : (ss : List Stmt) (i : ℕ) (s : Stmt) → i < length ss → s ≡ get_or ss i s
    → all_do (drop i ss) ≡ Then (does s) (all_do (drop (i + 1) ss))
does_more ss i s lt is = ap all_do (left_more ss i s lt is)

pub does_end : (ss : List Stmt) (i : ℕ) → length ss ≤ i → all_do (drop i ss) ≡ End
does_end ss i le = ap all_do (left_none ss i le)

-- of catches
pub catch_more : (cs : List CatchTree) (i : ℕ) (c : CatchTree) → i < length cs → c ≡ get_or cs i c
    → all_catch (drop i cs) ≡ Catch (handler c) (all_catch (drop (i + 1) cs))
catch_more cs i c lt is = ap all_catch (left_more cs i c lt is)

pub catch_end : (cs : List CatchTree) (i : ℕ) → length cs ≤ i → all_catch (drop i cs) ≡ NoCatch
catch_end cs i le = ap all_catch (left_none cs i le)

-- of arguments
pub shown_more : (es : List Expr) (i : ℕ) (e : Expr) → i < length es → e ≡ get_or es i e
    → all_shown (drop i es) ≡ More (shown e) (all_shown (drop (i + 1) es))
shown_more es i e lt is = ap all_shown (left_more es i e lt is)

pub shown_end : (es : List Expr) (i : ℕ) → length es ≤ i → all_shown (drop i es) ≡ NoExps
shown_end es i le = ap all_shown (left_none es i le)
