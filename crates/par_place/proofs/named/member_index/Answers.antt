use Rattle.std.proofs.Common.{refl, sym, ◌∙◌}
use Rattle.std.proofs.lemmas.Bool.{lt-ltb, le-ltb}
use Rattle.par_pool.specs.declared.constant.Constant.TheVariants.{Field, Method}
use Rattle.par_code_form.specs.PoolNames.{full_name, member_form}
use Rattle.par_place.proofs.Growth.{field_form, method_form, member_renamed}
use Rattle.par_place.proofs.named.member_index.Goals as goal

pub returns-then-opcode-lt-INVOKEVIRTUAL-clause-added :
    goal.returns-then-opcode-lt-INVOKEVIRTUAL-clause-added
returns-then-opcode-lt-INVOKEVIRTUAL-clause-added c =
    member_renamed c.args.pool.now c.field.new.self Field (member_form c.args.opcode)
    c.deref.result.now (full_name c.args.class.now) c.args.name.now c.args.name.now
    c.args.descriptor.now c.args.descriptor.now
    (sym (field_form c.args.opcode
    (lt-ltb c.args.opcode 182 c.if-opcode-lt-INVOKEVIRTUAL.true)))
    (c.deref.ensures.value ∙ c.in_ok-class.ensures) refl refl c.field.ensures.added

pub returns-clause-added : goal.returns-clause-added
returns-clause-added c =
    member_renamed c.args.pool.now c.method.new.self Method (member_form c.args.opcode)
    c.deref-else-opcode-lt-INVOKEVIRTUAL.result.now (full_name c.args.class.now) c.args.name.now
    c.args.name.now c.args.descriptor.now c.args.descriptor.now
    (sym (method_form c.args.opcode
    (le-ltb c.args.opcode 182 c.if-opcode-lt-INVOKEVIRTUAL.false)))
    (c.deref-else-opcode-lt-INVOKEVIRTUAL.ensures.value ∙ c.in_ok-class.ensures) refl refl
    c.method.ensures.added
