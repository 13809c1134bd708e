use Rattle.std.proofs.Common.{◌≡◌, ◌≤◌, ◌++◌, length, drop, map}
use Rattle.par_faults.specs.Limits.{in_order}
use Rattle.par_faults.proofs.places.member_places.Given as goal

abbrev pub invariant-loop-field : goal.invariant-loop-field
invariant-loop-field l = record {
  within : l.next ≤ length l.channels;
  found : l.places.items ++ in_order (map (λ f. f.id.at) (drop l.field-index l.class.fields))
      (map (λ c. c.id.at) (drop l.next l.channels))
      ≡ in_order (map (λ f. f.id.at) l.class.fields) (map (λ c. c.id.at) l.class.channels);
}
