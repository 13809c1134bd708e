-- The rules on names of a whole program.
use Rattle.std.specs.Prelude.{ℕ, true, not, ◌&&◌, nat_eq, List, [], ◌∷◌, ◌++◌, flat_map, map}
use Rattle.std.specs.Prelude.{length, drop, codes}
use Rattle.std.specs.Option.{is_none}
use Rattle.std.specs.List.{filter}
use Rattle.std.specs.Str.{bytes_eq}
use Rattle.par_tree.specs.Plain.{Method, Declaration, Source, Actors, Lock, Policy}
use Rattle.par_tree.specs.Plain.{Declared}
use Rattle.par_refusals.specs.declared.refusal.Refusal.{Refusal}
use Rattle.par_refusals.specs.First.{when, broken}
use Rattle.par_names.specs.Declarations.{actors, locks, policies, policies_in, classes, doubles}
use Rattle.par_names.specs.Policies.{View, policy_faults, may_policy_faults}
use Rattle.par_names.specs.Methods.{class_faults}

-- what the program shows behind the declarations of these policies
abbrev pub view_behind : Source → List (List ℕ) → View
view_behind source policies = record {
  actors = map (λ a. a.name) (actors source);
  locks = locks source;
  classes = classes source;
  policies = policies;
}

abbrev pub declaration_faults : View → Declaration → List Refusal
declaration_faults v (Actors ids) = []
declaration_faults v (Lock lock) = may_policy_faults v lock.policy
declaration_faults v (Policy policy) = policy_faults v policy.policy
declaration_faults v (Declared class) = class_faults v class

-- the declarations behind those of these policies
unfoldable pub declarations_faults : Source → List (List ℕ) → List Declaration → List Refusal
declarations_faults source before [] = []
declarations_faults source before (d ∷ ds) =
    declaration_faults (view_behind source before) d
    ++ declarations_faults source (before ++ map (λ p. p.id.name) (policies_in d)) ds

-- ---- main

abbrev pub mains : Source → List Method
mains source =
    filter (λ m. bytes_eq m.id.name (codes "main")) (flat_map (λ c. c.methods) (classes source))

-- 105: a method `main` that is not static, gives a result, has parameters or expects a lock
abbrev pub main_fault : Method → List Refusal
main_fault m =
    when (not (m.is_static && is_none m.result && nat_eq (length m.params) 0
    && nat_eq (length m.expects) 0)) (broken 105 m.id.at)

-- 105: no method is named `main`, or one more is behind the first
abbrev pub mains_faults : List Method → List Refusal
mains_faults ms =
    when (nat_eq (length ms) 0) (broken 105 0) ++ flat_map main_fault ms
    ++ flat_map (λ m. when true (broken 105 m.id.at)) (drop 1 ms)

-- ---- all

-- 102: a second actor, lock, policy or class of a name
abbrev pub program_doubles : Source → List Refusal
program_doubles source =
    doubles (actors source) ++ doubles (map (λ l. l.id) (locks source))
    ++ doubles (map (λ p. p.id) (policies source)) ++ doubles (map (λ c. c.id) (classes source))

-- all broken rules on names
abbrev pub name_faults : Source → List Refusal
name_faults source =
    program_doubles source ++ declarations_faults source [] source ++ mains_faults (mains source)
