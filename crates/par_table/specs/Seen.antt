-- What the code keeps, as the definitions have it.
use Rattle.par_index.specs.Texts.{texts}
use Rattle.par_resolved.specs.Seen.{known_seen}
use Rattle.par_resolved.specs.Resolved.{Resolved}
use Rattle.par_table.specs.declared.resolved.Resolved as code

abbrev pub resolved_seen : code.Resolved → Resolved
resolved_seen r = record {
  known = known_seen r.known.now;
  classes = texts r.classes.names.items;
  policies = r.policies.items;
}
