use Rattle.std.proofs.Common.{◌≡◌, drop}
use Rattle.par_code_form.specs.Named.{words_of}
use Rattle.par_erase.specs.Shown.{all_shown, table_of, inputs_of}
use Rattle.par_code.specs.Drafts.{seen, with_args}
use Rattle.par_code.proofs.exprs.+expr.Given as goal

-- what the arguments that are left add to what is there is what all of them add
abbrev pub invariant-put_args-loop-arg : goal.invariant-put_args-loop-arg
invariant-put_args-loop-arg l =
    with_args (words_of (table_of l.plain)) l.scope l.below.items
    (all_shown (inputs_of l.plain) (drop l.arg-index l.args)) (seen l.draft)
    ≡ with_args (words_of (table_of l.plain)) l.scope l.fn.below.items
    (all_shown (inputs_of l.plain) l.args) (seen l.fn.draft)
