use Rattle.std.proofs.Common.{◌≡◌, ◌++◌, drop}
use Rattle.par_typed.specs.Shown.{all_do, all_catch}
use Rattle.par_check_laws.specs.Checks.{stas_checks, catches_checks}
use Rattle.par_asked.specs.Seen.{seen_checks, own, table}
use Rattle.par_asked.proofs.stmt.+stmt.Given as goal

-- what was asked so far, and what is asked of the statements that are left
abbrev pub invariant-stmts-loop-s : goal.invariant-stmts-loop-s
invariant-stmts-loop-s l =
    seen_checks l.checks ++ stas_checks (table l.home) (own l.home) (all_do (drop l.s-index l.body))
    ≡ seen_checks l.fn.checks ++ stas_checks (table l.home) (own l.home) (all_do l.body)

abbrev pub invariant-all_catches-loop-catch : goal.invariant-all_catches-loop-catch
invariant-all_catches-loop-catch l =
    seen_checks l.checks ++ catches_checks (table l.home) (own l.home)
    (all_catch (drop l.catch-index l.catches))
    ≡ seen_checks l.fn.checks ++ catches_checks (table l.home) (own l.home) (all_catch l.catches)
