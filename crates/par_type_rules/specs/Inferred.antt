-- Fields whose policy is left to be inferred.
use Rattle.std.specs.Prelude.{not, List, [], ◌∷◌, ◌++◌}
use Rattle.par_tree.specs.declared.decl.FieldDecl.{FieldDecl}
use Rattle.par_tree.specs.Plain.{Declaration, Source, Actors, Lock, Policy, Declared}
use Rattle.par_refusals.specs.declared.refusal.Refusal.{Refusal}
use Rattle.par_refusals.specs.First.{when, broken}

-- 109: an inferred field, at its name
unfoldable pub fields_inferred : List FieldDecl → List Refusal
fields_inferred [] = []
fields_inferred (f ∷ fs) =
    when (not (not f.inferred)) (broken 109 f.id.at) ++ fields_inferred fs

unfoldable pub declaration_inferred : Declaration → List Refusal
declaration_inferred (Actors ids) = []
declaration_inferred (Lock lock) = []
declaration_inferred (Policy policy) = []
declaration_inferred (Declared class) = fields_inferred class.fields

-- all of them
unfoldable pub all_inferred : Source → List Refusal
all_inferred [] = []
all_inferred (d ∷ ds) = declaration_inferred d ++ all_inferred ds
