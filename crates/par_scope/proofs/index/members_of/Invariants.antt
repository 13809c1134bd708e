use Rattle.std.proofs.Common.{◌≡◌, take, map}
use Rattle.par_scope.specs.Names.{member_names}
use Rattle.par_scope.specs.Indexed.{members_indexed}
use Rattle.par_scope.proofs.index.members_of.Given as goal

abbrev pub invariant-loop-class : goal.invariant-loop-class
invariant-loop-class l =
    map members_indexed l.members.items ≡ map member_names (take l.class-index l.classes)
