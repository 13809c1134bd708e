use Rattle.std.proofs.Common.{◌≡◌, ◌∙◌, ap, sym, subst, replicate, rules, IfSome, None}
use Rattle.std.proofs.lemmas.List.{take_at}
use Rattle.par_given_frames.specs.par_frames.Given.{frames_said}
use Rattle.par_frame_steps.specs.Marks.{kinds_of}
use Rattle.par_frame_passes.specs.Tables.{table_of}
use Rattle.par_verify_laws.specs.par_kinds.Passes.{start_table}
use Rattle.par_verify.specs.Starts.{told_of}
use Rattle.par_verify.proofs.begun.told_table.Goals as goal

pub tell_forms-requires-clause-blank : goal.tell_forms-requires-clause-blank
tell_forms-requires-clause-blank c =
    c.as_mut_slice.ensures.value ∙ c.in_ok-table.ensures
    ∙ ap (λ n. replicate n None) c.len.ensures

pub returns-in-Ok-clause-told : goal.returns-in-Ok-clause-told
returns-in-Ok-clause-told c =
    let code = c.args.code.now in
    subst (λ t. IfSome (frames_said c.args.entries.now 0 (kinds_of c.args.start.now)
    c.args.forms.now)
    (λ frames. table_of t ≡ start_table (told_of code.max_locals frames) 0 code.code))
    (sym (take_at c.tell_forms.new.table _ c.in_ok-table.table.len (search rules))) c.in-Ok.ensures
