use Rattle.std.proofs.Common.{◌∙◌, ap, sym, map}
use Rattle.std.proofs.lemmas.List.{take_all}
use Rattle.par_resolved.specs.Policies.{term_value}
use Rattle.par_resolved.specs.Seen.{known_seen}
use Rattle.par_resolved.proofs.Made.{missing_at, there}
use Rattle.par_resolved.proofs.known.Known.terms.Goals as goal

pub returns-in-None : goal.returns-in-None
returns-in-None c =
    let f = term_value (known_seen c.args.self.now) in
    sym (missing_at f c.args.terms.now c.loop-term.term-index c.term-item.result
    c.loop-term-test.true c.term-item.is
    (sym c.in_ok-term.ensures ∙ c.in-None.is))

pub returns : goal.returns
returns c =
    let f = term_value (known_seen c.args.self.now) in
    let all = take_all c.loop-term.term-index c.args.terms.now c.loop-term-test.false in
    sym (there f c.args.terms.now c.loop-term.found.items
    (ap (map f) (sym all) ∙ c.loop-term.invariant))
