use Rattle.std.proofs.Common.{arith, ap, sym, ◌∙◌, None}
use Rattle.std.proofs.lemmas.List.{get_or_past}
use Rattle.par_pass_laws.specs.par_except.Seen.{may_see}
use Rattle.par_ways.specs.Seen.{ways_of}
use Rattle.par_rounds.proofs.Heads.{read_none}
use Rattle.par_rounds.proofs.pass.head_at.Goals as goal

pub returns-in_ok-way-clause-way : goal.returns-in_ok-way-clause-way
unfolding ways_of
returns-in_ok-way-clause-way c =
    ap may_see (c.in_ok-way.ensures
    ∙ read_none c.args.heads.now c.args.point c.index-heads-place.result c.if-place-heads.true
    c.index-heads-place.is)

pub returns-else-place-heads-clause-way : goal.returns-else-place-heads-clause-way
unfolding ways_of
returns-else-place-heads-clause-way c =
    ap may_see (sym (get_or_past c.args.heads.now c.args.point None (omega arith)))
