-- Joins of ways whose policies are sets of numbers.
use Rattle.std.specs.Prelude.{Option, Some, None}
use Rattle.par_bits.specs.Sets.{union, meet}
use Rattle.par_program_laws.specs.Lattice.{numbers}
use Rattle.par_program_laws.specs.Ways.{Way}

-- the least way that both flow into
abbrev pub join : Way numbers → Way numbers → Way numbers
join w x = record {
  context = union w.context x.context;
  env = λ i. union (w.env i) (x.env i);
  locks = meet w.locks x.locks;
}

abbrev pub may_join : Option (Way numbers) → Option (Way numbers) → Option (Way numbers)
may_join None o = o
may_join (Some w) None = Some w
may_join (Some w) (Some x) = Some (join w x)
