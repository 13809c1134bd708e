use Rattle.std.proofs.Common.{◌≡◌, map, ap, subst, ◌∙◌, IfOk}
use Rattle.par_tree.specs.Shown.{source}
use Rattle.par_names.specs.Declarations.{locks}
use Rattle.par_resolved.specs.Sets.{set_of}
use Rattle.par_parts.specs.Gathered.{all_of}
use Rattle.par_resolved.specs.Numbers.{lock_number}
use Rattle.par_resolved.specs.Resolved.{query_numbers, ground_locks_from}
use Rattle.par_table.specs.Seen.{resolved_seen}
use Rattle.par_table.proofs.Asked.{by_set}
use Rattle.par_table.proofs.locks.ground_locks.Goals as goal

pub returns : goal.returns
returns c =
    let s = source c.args.program.now in
    let r = resolved_seen c.args.resolved.now in
    let asked = ap all_of c.as_slice.ensures.value ∙ c.in_ok-asked.ensures in
    let queries =
    c.in_ok-queries.ensures ∙ ap (λ qs. set_of (map (lock_number r.known.numbers) qs)) asked in
    let decls = ap all_of c.as_slice-2.ensures.value ∙ c.in_ok-decls.ensures in
    subst (λ x. IfOk c.families.result (λ found. found ≡ x))
    (ap (λ qs. ground_locks_from r qs 0 (all_of c.as_slice-2.result.now)) queries
    ∙ ap (ground_locks_from r (set_of (query_numbers r.known.numbers s)) 0) decls
    ∙ by_set r (query_numbers r.known.numbers s) 0 (locks s))
    c.families.ensures
