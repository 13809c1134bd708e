-- One statement more behind those that were found.
use Rattle.std.proofs.Common.{◌≡◌, List, [], ◌∷◌, ◌++◌, refl, ap, append_assoc, append-nil}
use Rattle.std.specs.Borrow.{Bor}
use Rattle.par_tree.specs.declared.stmt.Stmt.{Stmt}
use Rattle.par_tree.specs.Shown.{does}
use Rattle.par_tree.proofs.Shown.{doings}
use Rattle.par_parts.specs.Gathered.{statements_of}

pub one_found : (found : List (Bor Stmt)) (s : Bor Stmt)
    → statements_of (found ++ s ∷ []) ≡ statements_of found ++ does s.now ∷ []
one_found [] s = refl
one_found (f ∷ found) s = ap (λ ss. does f.now ∷ ss) (one_found found s)

pub ruleset gathers = (doings, one_found, append_assoc, append-nil)
