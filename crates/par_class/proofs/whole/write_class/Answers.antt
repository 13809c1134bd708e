use Rattle.std.proofs.Common.{◌≡◌, ◌∙◌, ◌++◌}
use Rattle.std.proofs.lemmas.Result.{IfOk-weaker}
use Rattle.par_class.specs.Spelling.{front, layout, Spells}
use Rattle.par_class.specs.Writing.{least_code, layout_of, back_with}
use Rattle.par_class.proofs.Written.{laid_is, file_sized, written_spells}
use Rattle.par_class.proofs.whole.write_class.Goals as goal

pub written-requires : goal.written-requires
written-requires c = file_sized c.requires.0 c.args.file.now c.requires.1

pub returns-clause-spelled : goal.returns-clause-spelled
returns-clause-spelled c =
    IfOk-weaker c.written.result
    (λ bytes. bytes.items ≡ front (layout_of c.args.file.now)
    ++ back_with (least_code c.args.file.now.pool.entries) c.args.file.now)
    (λ bytes. Spells bytes.items c.args.file.now)
    (λ bytes e. written_spells c.requires.0 c.args.file.now bytes.items c.requires.1
    (e ∙ laid_is c.args.file.now)) c.written.ensures

pub returns-clause-laid : goal.returns-clause-laid
returns-clause-laid c =
    IfOk-weaker c.written.result
    (λ bytes. bytes.items ≡ front (layout_of c.args.file.now)
    ++ back_with (least_code c.args.file.now.pool.entries) c.args.file.now)
    (λ bytes. bytes.items ≡ layout (layout_of c.args.file.now))
    (λ bytes e. e ∙ laid_is c.args.file.now) c.written.ensures
