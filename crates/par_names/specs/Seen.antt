-- What the code holds of a program, as definitions see it.
use Rattle.std.specs.Prelude.{◌≡◌, ◌++◌, List, map, take}
use Rattle.par_index.specs.Texts.{texts}
use Rattle.par_tree.specs.declared.decl.LockDecl.{LockDecl}
use Rattle.par_tree.specs.Plain.{Class, Source}
use Rattle.par_tree.specs.Shown.{class_of}
use Rattle.par_names.specs.declared.lookup.Locks.{Locks}
use Rattle.par_names.specs.declared.lookup.ClassNames.{ClassNames}
use Rattle.par_names.specs.declared.lookup.Classes.{Classes}
use Rattle.par_names.specs.declared.view.Declared.{Declared}
use Rattle.par_names.specs.declared.view.View as code
use Rattle.par_names.specs.declared.view.Home as code_home
use Rattle.par_names.specs.Declarations.{actors, locks, policies, declared_classes}
use Rattle.par_names.specs.Policies.{View}
use Rattle.par_names.specs.Exprs.{Home}

abbrev pub locks_seen : Locks → List LockDecl
locks_seen locks = map (λ decl. decl.now) locks.decls

abbrev pub class_seen : ClassNames → Class
class_seen class = class_of class.decl.now

abbrev pub classes_seen : Classes → List Class
classes_seen classes = map class_seen classes.members

abbrev pub seen : code.View → View
seen v = record {
  actors = texts v.declared.now.actors.names.items;
  locks = locks_seen v.declared.now.locks;
  classes = classes_seen v.declared.now.classes;
  policies = take v.policies (texts v.declared.now.policies.names.items);
}

abbrev pub home_seen : code_home.Home → Home
home_seen home = record { own = class_seen home.own.now; is_static = home.is_static }

-- all that a program declares, its classes behind the built-in ones
pub record ShowsProgram (builtins : List Class) (source : Source) (shown : Declared) : Type 0 where
  pub actors : texts shown.actors.names.items ≡ map (λ id. id.name) (actors source)
  pub locks : locks_seen shown.locks ≡ locks source
  pub policies : texts shown.policies.names.items ≡ map (λ p. p.id.name) (policies source)
  pub classes : classes_seen shown.classes ≡ builtins ++ declared_classes source
