use Rattle.std.proofs.Common.{◌≡◌, false, length, None, sym, subst, ◌∙◌}
use Rattle.std.proofs.lemmas.Bool.{le-ltb}
use Rattle.std.proofs.lemmas.Result.{on_ok_weaker, IfErr-weaker}
use Rattle.par_link.proofs.Ordering.{broken-repeated, broken-within}
use Rattle.par_link.specs.Order.{first_in, first_broken}
use Rattle.par_link.specs.Rules.{are_too_many}
use Rattle.par_link.specs.Told.{Tells}
use Rattle.par_link.proofs.linker.linked_by.Goals as goal

-- no class stands twice, so that the files decide
pub returns-in-None-clause-unbroken : goal.returns-in-None-clause-unbroken
returns-in-None-clause-unbroken c =
    let files = c.args.tables.now.files.now in
    let not_many : are_too_many files ≡ false = le-ltb 128 (length files) c.requires in
    let within = broken-within files not_many (sym c.in-None.ensures) in
    on_ok_weaker c.linked_files.result (λ (none : first_in files 0 files ≡ None). within ∙ none)
    c.linked_files.ensures.unbroken

pub returns-in-None-clause-broken : goal.returns-in-None-clause-broken
returns-in-None-clause-broken c =
    let files = c.args.tables.now.files.now in
    let not_many : are_too_many files ≡ false = le-ltb 128 (length files) c.requires in
    let same : first_in files 0 files ≡ first_broken files =
    sym (broken-within files not_many (sym c.in-None.ensures)) in
    IfErr-weaker c.linked_files.result (Tells (first_in files 0 files))
    (Tells (first_broken files))
    (λ e told. subst (λ o. Tells o e) same told) c.linked_files.ensures.broken

pub returns-in-Some-clause-broken : goal.returns-in-Some-clause-broken
returns-in-Some-clause-broken c =
    let files = c.args.tables.now.files.now in
    let not_many : are_too_many files ≡ false = le-ltb 128 (length files) c.requires in
    broken-repeated files c.in-Some.class not_many (sym c.in-Some.ensures)
