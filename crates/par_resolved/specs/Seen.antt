-- What the code keeps, as the definitions have it.
use Rattle.par_names.specs.par_index.Texts.{texts}
use Rattle.par_resolved.specs.declared.known.Known as known
pub use Rattle.par_resolved.specs.SeenNumbers.{seen}
use Rattle.par_resolved.specs.Policies.{Known}

abbrev pub known_seen : known.Known → Known
known_seen k = record {
  numbers = seen k.numbers;
  names = texts k.names.names.items;
  values = k.values.items;
}
