use Rattle.std.proofs.Common.{◌≡◌, ◌++◌, drop, map}
use Rattle.std.specs.List.{AllByRecursion}
use Rattle.par_base.specs.Names.{IsName}
use Rattle.par_typed.specs.par_policy.Numbers.{has}
use Rattle.par_typed.specs.Shown.{bodies}
use Rattle.par_erase.specs.Shown.{does, method_info}
use Rattle.par_erase.specs.Erased.{inputs_in, erased_method, handed}
use Rattle.par_erase.proofs.classes.erase_methods.Given as goal

-- what is found, in front of what is left
abbrev pub invariant-loop-place : goal.invariant-loop-place
invariant-loop-place l = record {
  infos : map method_info l.found ++ map erased_method (drop l.place l.methods)
      ≡ map erased_method l.methods;
  bodies : map (λ m. does (inputs_in l.table) m.body) l.found
      ++ handed l.table (has l.asked) (drop l.place l.methods) (bodies (drop l.place l.all))
      ≡ handed l.table (has l.asked) l.methods (bodies l.all);
  named : AllByRecursion (λ m. IsName m.name) (map method_info l.found);
}
