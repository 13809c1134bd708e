-- What is left of the items of a list, as one more is gone over.
use Rattle.std.proofs.Common.{◌≡◌, ℕ, suc, ◌+◌, ◌<◌, ◌≤◌, List, [], ◌∷◌, ◌++◌, length, take, drop}
use Rattle.std.proofs.Common.{get_or, refl, sym, ap, ◌∙◌, arith, drop-cons}
use Rattle.std.proofs.lemmas.List.{drop_all}
use Rattle.par_tree.specs.declared.expr.Expr.{Expr}
use Rattle.par_tree.specs.declared.stmt.Stmt.{Stmt}
use Rattle.par_tree.specs.declared.stmt.CatchTree.{CatchTree, out-CatchTree}
use Rattle.par_tree.specs.Plain.{More, NoExps, Then, End, Catch, NoCatch}
use Rattle.par_tree.specs.Shown.{shown, all_shown, does, all_do, handler, all_catch}
use Rattle.par_tree.proofs.Shown.{handler_is}
use Rattle.par_names.specs.Stmts.{all_caught, caught}
use Rattle.par_names.proofs.Noted.{more}

pub dropped : {A : Type 0} (xs : List A) (i : ℕ) (x : A) → i < length xs → x ≡ get_or xs i x
    → drop i xs ≡ x ∷ drop (i + 1) xs
dropped xs i x within is =
    let next : suc i ≡ i + 1 = omega arith in
    drop-cons xs i x within ∙ ap (λ y. y ∷ drop (suc i) xs) (sym is) ∙ ap (λ k. x ∷ drop k xs) next

pub more_args : (es : List Expr) (i : ℕ) (e : Expr) → i < length es → e ≡ get_or es i e
    → all_shown (drop i es) ≡ More (shown e) (all_shown (drop (i + 1) es))
more_args es i e within is = ap all_shown (dropped es i e within is)

pub no_args : (es : List Expr) (i : ℕ) → length es ≤ i → all_shown (drop i es) ≡ NoExps
no_args es i past = ap all_shown (drop_all i es past)

pub more_stmts : (ss : List Stmt) (i : ℕ) (s : Stmt) → i < length ss → s ≡ get_or ss i s
    → all_do (drop i ss) ≡ Then (does s) (all_do (drop (i + 1) ss))
more_stmts ss i s within is = ap all_do (dropped ss i s within is)

pub no_stmts : (ss : List Stmt) (i : ℕ) → length ss ≤ i → all_do (drop i ss) ≡ End
no_stmts ss i past = ap all_do (drop_all i ss past)

pub more_catches : (cs : List CatchTree) (i : ℕ) (c : CatchTree) → i < length cs → c ≡ get_or cs i c
    → all_catch (drop i cs) ≡ Catch (handler c) (all_catch (drop (i + 1) cs))
more_catches cs i c within is = ap all_catch (dropped cs i c within is)

pub no_catches : (cs : List CatchTree) (i : ℕ) → length cs ≤ i → all_catch (drop i cs) ≡ NoCatch
no_catches cs i past = ap all_catch (drop_all i cs past)

pub no_more_caught : all_caught NoCatch ≡ []
unfolding all_caught
no_more_caught = refl

caught_with : (cs : List CatchTree) (c : CatchTree)
    → all_caught (all_catch (cs ++ c ∷ []))
    ≡ all_caught (all_catch cs) ++ (out-CatchTree c).class ∷ []
unfolding all_caught
caught_with [] c = ap (λ h. caught h ∷ []) (handler_is c)
caught_with (x ∷ cs) c = ap (λ ids. caught (handler x) ∷ ids) (caught_with cs c)

pub one_more_caught : (cs : List CatchTree) (i : ℕ) (c : CatchTree) → i < length cs
    → c ≡ get_or cs i c
    → all_caught (all_catch (take (i + 1) cs))
    ≡ all_caught (all_catch (take i cs)) ++ (out-CatchTree c).class ∷ []
one_more_caught cs i c within is =
    ap (λ xs. all_caught (all_catch xs)) (more cs i c within is) ∙ caught_with (take i cs) c
