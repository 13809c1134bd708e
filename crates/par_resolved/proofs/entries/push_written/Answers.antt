use Rattle.std.proofs.Common.{List, [], ◌∷◌, ◌+◌, map, drop, refl, sym, ap}
use Rattle.std.specs.Borrow.{Bor}
use Rattle.par_tree.specs.declared.policy.PolicyExpr.{PolicyExpr}
use Rattle.par_typed.specs.par_policy.declared.clauses.Clause.{Clause}
use Rattle.par_names.proofs.Gone.{one_fewer, none_left}
use Rattle.par_parts.specs.Gathered.{all_of}
use Rattle.par_resolved.specs.declared.entries.Entry.{Entry}
use Rattle.par_resolved.specs.Numbered.{written_entry}
use Rattle.par_resolved.specs.Policies.{Known}
use Rattle.par_resolved.specs.Seen.{known_seen}
use Rattle.par_resolved.proofs.entries.push_written.Goals as goal

abbrev made : Known → List (Bor PolicyExpr) → List Entry
made known es = map (written_entry known) (all_of es)

pub loop-e-preserved : goal.loop-e-preserved
loop-e-preserved c =
    let known = known_seen c.args.known.now in
    let at = c.e-item.result.now.at in
    let left = made known (drop (c.loop-e.e-index + 1) c.args.exprs.now) in
    let entry = λ (p : List Clause). record { at = at; policy = p } ∷ left in
    one_fewer (made known) c.args.exprs.now c.loop-e.e-index c.e-item.result
    c.loop-e.found.items c.push.new.self.items _
    (record { at = at; policy = c.in_ok-policy.policy } ∷ []) c.loop-e-test.true c.e-item.is
    c.in_ok-push.ensures.items (ap entry (sym c.in_ok-policy.ensures)) c.loop-e.invariant

pub returns : goal.returns
returns c =
    none_left (made (known_seen c.args.known.now)) c.args.exprs.now c.loop-e.e-index
    c.loop-e.found.items _ c.loop-e-test.false refl c.loop-e.invariant
