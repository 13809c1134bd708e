use Rattle.par_pool.specs.Reading.{items, made}
use Rattle.par_class.specs.Layout as layout
use Rattle.par_class.specs.Reading.{method_at}
use Rattle.par_class.proofs.Lists.{Reads}
use Rattle.par_class.proofs.member.each_method.Given as goal

abbrev pub invariant-loop : goal.invariant-loop
invariant-loop l =
    Reads (made layout.method_of (method_at l.entries l.short l.end)) l.methods l.count l.counter
    l.rest (items (λ _. made layout.method_of (method_at l.entries l.short l.end)) l.count 0
    l.initial.rest)
