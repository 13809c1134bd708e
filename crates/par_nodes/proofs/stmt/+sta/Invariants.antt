use Rattle.std.proofs.Common.{◌≡◌, drop}
use Rattle.par_typed.specs.Shown.{all_do, all_catch}
use Rattle.par_program_laws.specs.Declares.{declares}
use Rattle.par_program_laws.specs.Rules.{Entry, goes_on}
use Rattle.par_program_laws.specs.Body.{past, stas, catches}
use Rattle.par_nodes.specs.Seen.{seen_rules, seen_node}
use Rattle.par_nodes.specs.Starts.{start_at}
use Rattle.par_nodes.proofs.stmt.+sta.Given as goal

abbrev pub invariant-stas-loop-place : goal.invariant-stas-loop-place
invariant-stas-loop-place l =
    seen_rules l.rules.rules
    ≡ stas (declares l.table) (start_at l.place Entry) (all_do (drop l.place l.stmts))

abbrev pub invariant-catches-loop-place : goal.invariant-catches-loop-place
invariant-catches-loop-place l =
    seen_rules l.rules.rules
    ≡ goes_on past (catches (declares l.table) (seen_node l.block.node.value)
    (all_catch (drop l.place l.catches)) l.place)
