use Rattle.std.proofs.Common.{codes, sym, ◌∙◌}
use Rattle.std.specs.Str.{bytes_eq}
use Rattle.par_table.proofs.Mains.{found, passed, ended}
use Rattle.par_table.proofs.classes.have_main.Goals as goal

pub returns-then-is_main : goal.returns-then-is_main
returns-then-is_main c =
    found (λ m. bytes_eq m.id.name (codes "main")) c.args.methods.now c.loop-method.method-index
    c.method-item.result _ c.loop-method-test.true c.method-item.is
    (sym c.is_main.ensures ∙ c.if-is_main.true) c.loop-method.invariant

pub loop-method-preserved : goal.loop-method-preserved
loop-method-preserved c =
    passed (λ m. bytes_eq m.id.name (codes "main")) c.args.methods.now c.loop-method.method-index
    c.method-item.result _ c.loop-method-test.true c.method-item.is
    (sym c.is_main.ensures ∙ c.if-is_main.false) c.loop-method.invariant

pub returns : goal.returns
returns c =
    ended (λ m. bytes_eq m.id.name (codes "main")) c.args.methods.now c.loop-method.method-index _
    c.loop-method-test.false c.loop-method.invariant
