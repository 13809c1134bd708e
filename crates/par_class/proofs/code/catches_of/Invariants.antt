use Rattle.par_pool.specs.Reading.{items}
use Rattle.par_class.specs.Reading.{catch_at}
use Rattle.par_class.proofs.Lists.{Reads}
use Rattle.par_class.proofs.code.catches_of.Given as goal

abbrev pub invariant-loop : goal.invariant-loop
invariant-loop l =
    Reads (catch_at l.entries l.short l.end l.len) l.catches l.count l.counter l.rest
    (items (λ _. catch_at l.entries l.short l.end l.len) l.count 0 l.initial.rest)
