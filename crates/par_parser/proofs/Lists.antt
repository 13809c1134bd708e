-- One more behind the last, as plain data.
use Rattle.std.proofs.Common.{◌≡◌, List, [], ◌∷◌, ◌++◌, ap, refl}
use Rattle.par_tree.specs.declared.decl.Decl.{Decl}
use Rattle.par_tree.specs.declared.decl.MethodDecl.{MethodDecl}
use Rattle.par_tree.proofs.Rules.{method_opens, run_built}
use Rattle.par_tree.specs.Shown.{all_declared, declared, method, methods}

pub methods_with : (ms : List MethodDecl) (m : MethodDecl)
    → methods (ms ++ m ∷ []) ≡ methods ms ++ method m ∷ []
methods_with [] m = refl
methods_with (x ∷ ms) m = ap (λ xs. method x ∷ xs) (methods_with ms m)

pub declared_with : (ds : List Decl) (d : Decl)
    → all_declared (ds ++ d ∷ []) ≡ all_declared ds ++ declared d ∷ []
declared_with [] d = refl
declared_with (x ∷ ds) d = ap (λ xs. declared x ∷ xs) (declared_with ds d)

-- what reading a method changes
pub ruleset a_method = (run_built, method_opens, methods_with)
