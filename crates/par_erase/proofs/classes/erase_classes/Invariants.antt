use Rattle.std.proofs.Common.{◌≡◌, ◌++◌, drop, length, map}
use Rattle.std.specs.List.{AllByRecursion}
use Rattle.par_typed.specs.par_policy.Numbers.{has}
use Rattle.par_typed.specs.Shown.{bodies}
use Rattle.par_erase.specs.Named.{IsNamed}
use Rattle.par_erase.specs.Shown.{class_info, class_bodies}
use Rattle.par_erase.specs.Erased.{inputs_in, inputs_among, erased_class, classes_bodies}
use Rattle.par_erase.proofs.classes.erase_classes.Given as goal

-- what is found, in front of what is left
abbrev pub invariant-loop-class : goal.invariant-loop-class
invariant-loop-class l = record {
  count : length l.found ≡ l.class-index;
  infos : map class_info l.found ++ map erased_class (drop l.class-index l.classes)
      ≡ map erased_class l.classes;
  inputs : map (λ k. k.inputs) l.found
      ++ map (λ c. inputs_among c.channels) (drop l.class-index l.classes)
      ≡ map (λ c. inputs_among c.channels) l.classes;
  bodies : class_bodies (inputs_in l.table) 0 l.found
      ++ classes_bodies l.table (has l.asked) l.class-index (drop l.class-index l.classes)
      (bodies l.left)
      ≡ classes_bodies l.table (has l.asked) 0 l.classes (bodies l.all);
  named : AllByRecursion IsNamed (map class_info l.found);
}
