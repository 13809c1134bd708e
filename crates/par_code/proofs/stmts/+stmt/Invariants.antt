use Rattle.std.proofs.Common.{◌≡◌, ◌+◌, drop}
use Rattle.par_code_form.specs.Named.{words_of}
use Rattle.par_erase.specs.Shown.{all_do, all_catch, table_of, inputs_of}
use Rattle.par_code.specs.Drafts.{seen}
use Rattle.par_code.specs.Statements.{loop_of, with_all, with_catches}
use Rattle.par_code.proofs.stmts.+stmt.Given as goal

-- what the statements that are left add to what is there is what all of them add
abbrev pub invariant-put_all-loop-stmt : goal.invariant-put_all-loop-stmt
invariant-put_all-loop-stmt l =
    with_all (words_of (table_of l.plain)) l.declared l.inner.items (loop_of l.targets)
    (all_do (inputs_of l.plain) (drop l.stmt-index l.stmts)) (seen l.draft)
    ≡ with_all (words_of (table_of l.plain)) l.declared l.scope (loop_of l.targets)
    (all_do (inputs_of l.plain) l.stmts) (seen l.fn.draft)

-- what the catches that are left add to what is there is what all of them add
abbrev pub invariant-put_catches-loop-catch : goal.invariant-put_catches-loop-catch
invariant-put_catches-loop-catch l =
    with_catches (words_of (table_of l.plain)) l.declared l.scope (loop_of l.targets) l.from
    (l.from + 2) (all_catch (inputs_of l.plain) (drop l.catch-index l.catches)) (seen l.draft)
    ≡ with_catches (words_of (table_of l.plain)) l.declared l.scope (loop_of l.targets) l.from
    (l.from + 2) (all_catch (inputs_of l.plain) l.catches) (seen l.fn.draft)
