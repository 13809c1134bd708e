use Rattle.std.proofs.Common.{◌≡◌, ◌+◌, drop, map}
use Rattle.par_faults.specs.Limits as place
use Rattle.par_faults.proofs.places.earlier.Given as goal

abbrev pub invariant-loop-channel : goal.invariant-loop-channel
invariant-loop-channel l = record {
  index : l.earlier ≡ l.channel-index;
  found : l.earlier + place.earlier (map (λ c. c.id.at) (drop l.channel-index l.channels)) l.at
      ≡ place.earlier (map (λ c. c.id.at) l.channels) l.at;
}
