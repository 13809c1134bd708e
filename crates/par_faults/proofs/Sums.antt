-- What the first of some methods or declarations adds.
use Rattle.std.proofs.Common.{◌≡◌, ◌+◌, List, ◌∷◌}
use Rattle.std.proofs.lemmas.List.Sums.{sum_by-cons}
use Rattle.par_tree.specs.declared.decl.Decl.{Decl}
use Rattle.par_tree.specs.declared.decl.MethodDecl.{MethodDecl}
use Rattle.par_tree.specs.Shown.{method, methods, declared, all_declared}
use Rattle.par_parser.specs.Bodies.{method_size, methods_size, declaration_size, source_size}

pub sizes_more : (m : MethodDecl) (ms : List MethodDecl)
    → methods_size (methods (m ∷ ms)) ≡ method_size (method m) + methods_size (methods ms)
sizes_more m ms = sum_by-cons method_size (method m) (methods ms)

pub source_more : (d : Decl) (ds : List Decl)
    → source_size (all_declared (d ∷ ds))
    ≡ declaration_size (declared d) + source_size (all_declared ds)
source_more d ds = sum_by-cons declaration_size (declared d) (all_declared ds)
