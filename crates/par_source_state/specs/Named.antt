-- Names as references.
use Rattle.std.specs.Prelude.{ℕ, List, Option, Some, None}
use Rattle.std.specs.Borrow.{Bor}
use Rattle.par_run_laws.specs.Names as names
use Rattle.par_source_state.specs.declared.names.Member.{Member}

abbrev pub name_of : Option (Bor (List ℕ)) → Option names.Name
name_of None = None
name_of (Some name) = Some name.now

abbrev pub member_is : Member → names.Member
member_is m = record { class = m.class.now; name = m.name.now }

abbrev pub member : Option Member → Option names.Member
member None = None
member (Some m) = Some (member_is m)
