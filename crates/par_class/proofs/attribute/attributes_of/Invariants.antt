use Rattle.par_pool.specs.Reading.{items}
use Rattle.par_class.specs.Reading.{attribute_at}
use Rattle.par_class.proofs.Lists.{Reads}
use Rattle.par_class.proofs.attribute.attributes_of.Given as goal

abbrev pub invariant-loop : goal.invariant-loop
invariant-loop l =
    Reads (attribute_at l.entries l.short l.end) l.attributes l.count l.counter l.rest
    (items (λ _. attribute_at l.entries l.short l.end) l.count 0 l.initial.rest)
