use Rattle.std.proofs.Common.{List, subst, sym, ◌∙◌, ◌≡◌}
use Rattle.par_class.specs.declared.file.Attribute.{Attribute}
use Rattle.par_given_frames.specs.Named.{forms_given}
use Rattle.par_given_frames.specs.Reads.{Gives}
use Rattle.par_given_frames.proofs.Parted.{parted, behind_first}
use Rattle.par_given_frames.proofs.Tables.{alone, second}
use Rattle.par_given_frames.proofs.methods.forms_given.Goals as goal

pub returns-then-has_table-clause-forms : goal.returns-then-has_table-clause-forms
returns-then-has_table-clause-forms c =
    let rest = c.loop-rest.rest.now in
    let a = c.a-item.result in
    let so_far =
    subst (λ (as_ : List Attribute). forms_given c.args.entries.now as_
    ≡ forms_given c.args.entries.now c.args.attributes.now)
    (parted rest a c.in-len1-up.len_at_least c.a-item.is) c.loop-rest.invariant in
    sym so_far ∙ second c.args.entries.now a (behind_first rest)
    (sym c.is_table.ensures ∙ c.if-is_table.true) (sym c.has_table.ensures ∙ c.if-has_table.true)

pub returns-then-is_table-clause-forms : goal.returns-then-is_table-clause-forms
returns-then-is_table-clause-forms c =
    let rest = c.loop-rest.rest.now in
    let a = c.a-item.result in
    let so_far =
    subst (λ (as_ : List Attribute). forms_given c.args.entries.now as_
    ≡ forms_given c.args.entries.now c.args.attributes.now)
    (parted rest a c.in-len1-up.len_at_least c.a-item.is) c.loop-rest.invariant in
    subst (λ o. Gives (λ forms. forms) c.forms_in.result o)
    (sym (alone c.args.entries.now a (behind_first rest)
    (sym c.is_table.ensures ∙ c.if-is_table.true)
    (sym c.has_table.ensures ∙ c.if-has_table.false)) ∙ so_far)
    (rw c.as_slice.ensures at c.forms_in.ensures.forms)
