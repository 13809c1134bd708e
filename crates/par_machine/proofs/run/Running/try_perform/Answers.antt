use Rattle.std.proofs.Common.{◌≡◌, refl, rules, subst, to_z, of_z, w8, w16, w32}
use Rattle.par_instr.specs.declared.instr.Instr.TheVariants as instr
use Rattle.par_values.specs.Operations.{Push, Increase}
use Rattle.par_method_area.specs.par_actions.Done.{Comes}
use Rattle.par_machine.proofs.Worked.{worked}
use Rattle.par_machine.proofs.run.Running.try_perform.Goals as goal

pub returns-in-AconstNull : goal.returns-in-AconstNull
returns-in-AconstNull c =
    worked c.args.area.now c.args.self.now c.args.site c.push_null.result c.push_null.new.stack
    instr.AconstNull c.requires.sound c.requires.there c.in-AconstNull.is refl
    c.push_null.ensures.done c.push_null.ensures.kept c.push_null.ensures.still

pub returns-in-Iconst : goal.returns-in-Iconst
returns-in-Iconst c =
    let e : to_z w32 (of_z w32 (to_z w8 (of_z w8 c.in-Iconst.number))) ≡ c.in-Iconst.number =
    search rules in
    worked c.args.area.now c.args.self.now c.args.site c.push_number.result
    c.push_number.new.stack (instr.Iconst c.in-Iconst.number) c.requires.sound c.requires.there
    c.in-Iconst.is refl (λ classes spot program at. subst (λ n. Comes c.push_number.result
    classes spot (Push n) program c.args.self.now.stack c.push_number.new.stack) e
    (c.push_number.ensures.done classes spot program at)) c.push_number.ensures.kept
    c.push_number.ensures.still

pub returns-in-Bipush : goal.returns-in-Bipush
returns-in-Bipush c =
    let e : to_z w32 (of_z w32 (to_z w8 (of_z w8 c.in-Bipush.number))) ≡ c.in-Bipush.number =
    search rules in
    worked c.args.area.now c.args.self.now c.args.site c.push_number-in-Bipush.result
    c.push_number-in-Bipush.new.stack (instr.Bipush c.in-Bipush.number) c.requires.sound
    c.requires.there c.in-Bipush.is refl (λ classes spot program at. subst (λ n. Comes
    c.push_number-in-Bipush.result classes spot (Push n) program c.args.self.now.stack
    c.push_number-in-Bipush.new.stack) e (c.push_number-in-Bipush.ensures.done classes spot
    program at)) c.push_number-in-Bipush.ensures.kept c.push_number-in-Bipush.ensures.still

pub returns-in-Sipush : goal.returns-in-Sipush
returns-in-Sipush c =
    let e : to_z w32 (of_z w32 (to_z w16 (of_z w16 c.in-Sipush.number))) ≡ c.in-Sipush.number =
    search rules in
    worked c.args.area.now c.args.self.now c.args.site c.push_number-in-Sipush.result
    c.push_number-in-Sipush.new.stack (instr.Sipush c.in-Sipush.number) c.requires.sound
    c.requires.there c.in-Sipush.is refl (λ classes spot program at. subst (λ n. Comes
    c.push_number-in-Sipush.result classes spot (Push n) program c.args.self.now.stack
    c.push_number-in-Sipush.new.stack) e (c.push_number-in-Sipush.ensures.done classes spot
    program at)) c.push_number-in-Sipush.ensures.kept c.push_number-in-Sipush.ensures.still

pub returns-in-Iload : goal.returns-in-Iload
returns-in-Iload c =
    worked c.args.area.now c.args.self.now c.args.site c.load_number.result
    c.load_number.new.stack (instr.Iload c.in-Iload.place) c.requires.sound c.requires.there
    c.in-Iload.is refl c.load_number.ensures.done c.load_number.ensures.kept
    c.load_number.ensures.still

pub returns-in-Aload : goal.returns-in-Aload
returns-in-Aload c =
    worked c.args.area.now c.args.self.now c.args.site c.load_object.result
    c.load_object.new.stack (instr.Aload c.in-Aload.place) c.requires.sound c.requires.there
    c.in-Aload.is refl c.load_object.ensures.done c.load_object.ensures.kept
    c.load_object.ensures.still

pub returns-in-IloadShort : goal.returns-in-IloadShort
returns-in-IloadShort c =
    worked c.args.area.now c.args.self.now c.args.site c.load_number-in-IloadShort.result
    c.load_number-in-IloadShort.new.stack (instr.IloadShort c.in-IloadShort.place)
    c.requires.sound c.requires.there c.in-IloadShort.is refl
    c.load_number-in-IloadShort.ensures.done c.load_number-in-IloadShort.ensures.kept
    c.load_number-in-IloadShort.ensures.still

pub returns-in-AloadShort : goal.returns-in-AloadShort
returns-in-AloadShort c =
    worked c.args.area.now c.args.self.now c.args.site c.load_object-in-AloadShort.result
    c.load_object-in-AloadShort.new.stack (instr.AloadShort c.in-AloadShort.place)
    c.requires.sound c.requires.there c.in-AloadShort.is refl
    c.load_object-in-AloadShort.ensures.done c.load_object-in-AloadShort.ensures.kept
    c.load_object-in-AloadShort.ensures.still

pub returns-in-Istore : goal.returns-in-Istore
returns-in-Istore c =
    worked c.args.area.now c.args.self.now c.args.site c.store_number.result
    c.store_number.new.stack (instr.Istore c.in-Istore.place) c.requires.sound c.requires.there
    c.in-Istore.is refl c.store_number.ensures.done c.store_number.ensures.kept
    c.store_number.ensures.still

pub returns-in-Astore : goal.returns-in-Astore
returns-in-Astore c =
    worked c.args.area.now c.args.self.now c.args.site c.store_object.result
    c.store_object.new.stack (instr.Astore c.in-Astore.place) c.requires.sound c.requires.there
    c.in-Astore.is refl c.store_object.ensures.done c.store_object.ensures.kept
    c.store_object.ensures.still

pub returns-in-IstoreShort : goal.returns-in-IstoreShort
returns-in-IstoreShort c =
    worked c.args.area.now c.args.self.now c.args.site c.store_number-in-IstoreShort.result
    c.store_number-in-IstoreShort.new.stack (instr.IstoreShort c.in-IstoreShort.place)
    c.requires.sound c.requires.there c.in-IstoreShort.is refl
    c.store_number-in-IstoreShort.ensures.done c.store_number-in-IstoreShort.ensures.kept
    c.store_number-in-IstoreShort.ensures.still

pub returns-in-AstoreShort : goal.returns-in-AstoreShort
returns-in-AstoreShort c =
    worked c.args.area.now c.args.self.now c.args.site c.store_object-in-AstoreShort.result
    c.store_object-in-AstoreShort.new.stack (instr.AstoreShort c.in-AstoreShort.place)
    c.requires.sound c.requires.there c.in-AstoreShort.is refl
    c.store_object-in-AstoreShort.ensures.done c.store_object-in-AstoreShort.ensures.kept
    c.store_object-in-AstoreShort.ensures.still

pub returns-in-Pop : goal.returns-in-Pop
returns-in-Pop c =
    worked c.args.area.now c.args.self.now c.args.site c.discard.result c.discard.new.stack
    instr.Pop c.requires.sound c.requires.there c.in-Pop.is refl c.discard.ensures.done
    c.discard.ensures.kept c.discard.ensures.still

pub returns-in-Dup : goal.returns-in-Dup
returns-in-Dup c =
    worked c.args.area.now c.args.self.now c.args.site c.copy.result c.copy.new.stack instr.Dup
    c.requires.sound c.requires.there c.in-Dup.is refl c.copy.ensures.done c.copy.ensures.kept
    c.copy.ensures.still

pub returns-in-Ineg : goal.returns-in-Ineg
returns-in-Ineg c =
    worked c.args.area.now c.args.self.now c.args.site c.negate.result c.negate.new.stack
    instr.Ineg c.requires.sound c.requires.there c.in-Ineg.is refl c.negate.ensures.done
    c.negate.ensures.kept c.negate.ensures.still

pub returns-in-Iinc : goal.returns-in-Iinc
returns-in-Iinc c =
    let e : to_z w8 (of_z w8 c.in-Iinc.by) ≡ c.in-Iinc.by = search rules in
    worked c.args.area.now c.args.self.now c.args.site c.increase.result c.increase.new.stack
    (instr.Iinc c.in-Iinc.place c.in-Iinc.by) c.requires.sound c.requires.there c.in-Iinc.is
    refl (λ classes spot program at. subst (λ n. Comes c.increase.result classes spot (Increase
    c.in-Iinc.place n) program c.args.self.now.stack c.increase.new.stack) e
    (c.increase.ensures.done classes spot program at)) c.increase.ensures.kept
    c.increase.ensures.still

pub returns-in-Iadd : goal.returns-in-Iadd
returns-in-Iadd c =
    worked c.args.area.now c.args.self.now c.args.site c.combine.result c.combine.new.stack
    instr.Iadd c.requires.sound c.requires.there c.in-Iadd.is refl c.combine.ensures.done
    c.combine.ensures.kept c.combine.ensures.still

pub returns-in-Isub : goal.returns-in-Isub
returns-in-Isub c =
    worked c.args.area.now c.args.self.now c.args.site c.combine-in-Isub.result
    c.combine-in-Isub.new.stack instr.Isub c.requires.sound c.requires.there c.in-Isub.is refl
    c.combine-in-Isub.ensures.done c.combine-in-Isub.ensures.kept
    c.combine-in-Isub.ensures.still

pub returns-in-Imul : goal.returns-in-Imul
returns-in-Imul c =
    worked c.args.area.now c.args.self.now c.args.site c.combine-in-Imul.result
    c.combine-in-Imul.new.stack instr.Imul c.requires.sound c.requires.there c.in-Imul.is refl
    c.combine-in-Imul.ensures.done c.combine-in-Imul.ensures.kept
    c.combine-in-Imul.ensures.still

pub returns-in-Idiv : goal.returns-in-Idiv
returns-in-Idiv c =
    worked c.args.area.now c.args.self.now c.args.site c.combine-in-Idiv.result
    c.combine-in-Idiv.new.stack instr.Idiv c.requires.sound c.requires.there c.in-Idiv.is refl
    c.combine-in-Idiv.ensures.done c.combine-in-Idiv.ensures.kept
    c.combine-in-Idiv.ensures.still

pub returns-in-Irem : goal.returns-in-Irem
returns-in-Irem c =
    worked c.args.area.now c.args.self.now c.args.site c.combine-in-Irem.result
    c.combine-in-Irem.new.stack instr.Irem c.requires.sound c.requires.there c.in-Irem.is refl
    c.combine-in-Irem.ensures.done c.combine-in-Irem.ensures.kept
    c.combine-in-Irem.ensures.still

pub returns-in-Ishl : goal.returns-in-Ishl
returns-in-Ishl c =
    worked c.args.area.now c.args.self.now c.args.site c.combine-in-Ishl.result
    c.combine-in-Ishl.new.stack instr.Ishl c.requires.sound c.requires.there c.in-Ishl.is refl
    c.combine-in-Ishl.ensures.done c.combine-in-Ishl.ensures.kept
    c.combine-in-Ishl.ensures.still

pub returns-in-Ishr : goal.returns-in-Ishr
returns-in-Ishr c =
    worked c.args.area.now c.args.self.now c.args.site c.combine-in-Ishr.result
    c.combine-in-Ishr.new.stack instr.Ishr c.requires.sound c.requires.there c.in-Ishr.is refl
    c.combine-in-Ishr.ensures.done c.combine-in-Ishr.ensures.kept
    c.combine-in-Ishr.ensures.still

pub returns-in-Iushr : goal.returns-in-Iushr
returns-in-Iushr c =
    worked c.args.area.now c.args.self.now c.args.site c.combine-in-Iushr.result
    c.combine-in-Iushr.new.stack instr.Iushr c.requires.sound c.requires.there c.in-Iushr.is
    refl c.combine-in-Iushr.ensures.done c.combine-in-Iushr.ensures.kept
    c.combine-in-Iushr.ensures.still

pub returns-in-Iand : goal.returns-in-Iand
returns-in-Iand c =
    worked c.args.area.now c.args.self.now c.args.site c.combine-in-Iand.result
    c.combine-in-Iand.new.stack instr.Iand c.requires.sound c.requires.there c.in-Iand.is refl
    c.combine-in-Iand.ensures.done c.combine-in-Iand.ensures.kept
    c.combine-in-Iand.ensures.still

pub returns-in-Ior : goal.returns-in-Ior
returns-in-Ior c =
    worked c.args.area.now c.args.self.now c.args.site c.combine-in-Ior.result
    c.combine-in-Ior.new.stack instr.Ior c.requires.sound c.requires.there c.in-Ior.is refl
    c.combine-in-Ior.ensures.done c.combine-in-Ior.ensures.kept c.combine-in-Ior.ensures.still

pub returns-in-Ixor : goal.returns-in-Ixor
returns-in-Ixor c =
    worked c.args.area.now c.args.self.now c.args.site c.combine-in-Ixor.result
    c.combine-in-Ixor.new.stack instr.Ixor c.requires.sound c.requires.there c.in-Ixor.is refl
    c.combine-in-Ixor.ensures.done c.combine-in-Ixor.ensures.kept
    c.combine-in-Ixor.ensures.still
