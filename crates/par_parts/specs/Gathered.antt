-- What references to parts of a tree refer to.
use Rattle.std.specs.Prelude.{List, map}
use Rattle.std.specs.Borrow.{Bor}
use Rattle.par_tree.specs.declared.stmt.Stmt.{Stmt}
use Rattle.par_tree.specs.declared.decl.ClassDecl.{ClassDecl}
use Rattle.par_tree.specs.Plain.{Sta, Class}
use Rattle.par_tree.specs.Shown.{does, class_of}

abbrev pub statements_of : List (Bor Stmt) → List Sta
statements_of refs = map (λ s. does s.now) refs

abbrev pub all_of : {A : Type 0} → List (Bor A) → List A
all_of refs = map (λ r. r.now) refs

abbrev pub classes_of : List (Bor ClassDecl) → List Class
classes_of refs = map (λ c. class_of c.now) refs
