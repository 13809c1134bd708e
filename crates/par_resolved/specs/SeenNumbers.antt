-- What the code keeps of numbers, as the definitions have it.
use Rattle.par_names.specs.par_index.Texts.{texts}
use Rattle.par_resolved.specs.declared.numbers.Numbers as code
use Rattle.par_resolved.specs.Numbers.{Numbers}

abbrev pub seen : code.Numbers → Numbers
seen n = record {
  actors = texts n.actors.names.items;
  locks = texts n.locks.names.items;
  firsts = n.firsts.items;
}
