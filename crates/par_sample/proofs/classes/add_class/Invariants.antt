use Rattle.std.proofs.Common.{◌≡◌, ℕ, ◌+◌, ◌*◌, ◌++◌, string_bytes}
use Rattle.std.specs.List.{flat_map}
use Rattle.par_sample.specs.Numbers.{number}
use Rattle.par_sample.specs.Source.{line, method_count}
use Rattle.par_sample.proofs.Lines.{class_begun}
use Rattle.par_sample.proofs.classes.add_class.Given as goal

abbrev pub invariant-loop-method : goal.invariant-loop-method
invariant-loop-method l =
    (first : ℕ) → l.fn.numbers.last ≡ number first (3 * (method_count * l.class))
    → (l.numbers.last ≡ number first (3 * (method_count * l.class + l.method)))
    × (string_bytes l.text
    ≡ string_bytes l.fn.text ++ flat_map line (class_begun first l.class l.method))
