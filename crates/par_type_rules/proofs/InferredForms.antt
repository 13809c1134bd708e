-- The inferred fields of each list, as a pass finds them.
use Rattle.std.proofs.Common.{◌≡◌, ◌++◌, List, [], ◌∷◌, not, refl}
use Rattle.par_tree.specs.declared.ident.Ident.{Ident}
use Rattle.par_tree.specs.declared.decl.LockDecl.{LockDecl}
use Rattle.par_tree.specs.declared.decl.PolicyDecl.{PolicyDecl}
use Rattle.par_tree.specs.declared.decl.FieldDecl.{FieldDecl}
use Rattle.par_tree.specs.Plain.{Class, Declaration, Source, Actors, Lock, Policy, Declared}
use Rattle.par_refusals.specs.First.{when, broken}
use Rattle.par_refusals.proofs.First.{firsts}
use Rattle.par_type_rules.specs.Inferred.{fields_inferred, declaration_inferred, all_inferred}

pub fields_inferred_end :
    fields_inferred []
    ≡ ([])
unfolding fields_inferred
fields_inferred_end = refl

pub fields_inferred_more : (f : FieldDecl) (fs : List FieldDecl) →
    fields_inferred (f ∷ fs)
    ≡ (when (not (not f.inferred)) (broken 109 f.id.at) ++ fields_inferred fs)
unfolding fields_inferred
fields_inferred_more f fs = refl

pub declaration_inferred_actors : (ids : List Ident) →
    declaration_inferred (Actors ids)
    ≡ ([])
unfolding declaration_inferred
declaration_inferred_actors ids = refl

pub declaration_inferred_lock : (lock : LockDecl) →
    declaration_inferred (Lock lock)
    ≡ ([])
unfolding declaration_inferred
declaration_inferred_lock lock = refl

pub declaration_inferred_policy : (policy : PolicyDecl) →
    declaration_inferred (Policy policy)
    ≡ ([])
unfolding declaration_inferred
declaration_inferred_policy policy = refl

pub declaration_inferred_declared : (class : Class) →
    declaration_inferred (Declared class)
    ≡ (fields_inferred class.fields)
unfolding declaration_inferred
declaration_inferred_declared class = refl

pub all_inferred_end :
    all_inferred []
    ≡ ([])
unfolding all_inferred
all_inferred_end = refl

pub all_inferred_more : (d : Declaration) (ds : Source) →
    all_inferred (d ∷ ds)
    ≡ (declaration_inferred d ++ all_inferred ds)
unfolding all_inferred
all_inferred_more d ds = refl

pub ruleset finds = (
  fields_inferred_end,
  fields_inferred_more,
  declaration_inferred_actors,
  declaration_inferred_lock,
  declaration_inferred_policy,
  declaration_inferred_declared,
  all_inferred_end,
  all_inferred_more,
  firsts,
)
