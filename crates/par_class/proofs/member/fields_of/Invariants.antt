use Rattle.par_pool.specs.Reading.{items}
use Rattle.par_class.specs.Reading.{field_at}
use Rattle.par_class.proofs.Lists.{Reads}
use Rattle.par_class.proofs.member.fields_of.Given as goal

abbrev pub invariant-loop : goal.invariant-loop
invariant-loop l =
    Reads (field_at l.entries l.short l.end) l.fields l.count l.counter l.rest
    (items (λ _. field_at l.entries l.short l.end) l.count 0 l.initial.rest)
