use Rattle.std.proofs.Common.{◌≡◌, ◌*◌, string_bytes}
use Rattle.std.specs.List.{flat_map}
use Rattle.par_sample.specs.Numbers.{number}
use Rattle.par_sample.specs.Source.{line, method_count}
use Rattle.par_sample.proofs.Lines.{source_begun}
use Rattle.par_sample.proofs.source.sample.Given as goal

abbrev pub invariant-loop-class : goal.invariant-loop-class
invariant-loop-class l = record {
  numbers : l.numbers.last ≡ number l.n (3 * (method_count * l.class));
  text : string_bytes l.text ≡ flat_map line (source_begun l.n l.class);
}
