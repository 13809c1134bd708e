use Rattle.std.proofs.Common.{refl}
use Rattle.par_pool.specs.Entries.{IsUtf8At}
use Rattle.par_class.specs.declared.file.MethodFile.{MethodFile}
use Rattle.par_compile.specs.Growing.{IsOneText}
use Rattle.par_compile.proofs.Growing.{extends, stays_later}
use Rattle.par_compile.proofs.FieldFiles.{both_grow}
use Rattle.par_compile.proofs.draft.Draft.put.Goals as goal

pub returns-clause-puts : goal.returns-clause-puts
returns-clause-puts c =
    let file : MethodFile = record {
      access = c.args.access;
      name = c.in_ok-name.name;
      descriptor = c.in_ok-descriptor.descriptor;
      code = c.args.code;
      attributes = c.new.result;
    } in
    record {
      file = file;
      behind = c.in_ok-push.ensures.ok;
      grows =
          both_grow c.args.name.now c.args.descriptor.now c.args.self.now.pool c.text.new.pool
          c.text-2.new.pool c.in_ok-name.ensures.grows c.in_ok-descriptor.ensures.grows;
      access_is = refl;
      named =
          stays_later c.text.new.pool c.text-2.new.pool
          (λ q. IsUtf8At q c.in_ok-name.name c.args.name.now)
          (extends (IsOneText c.args.descriptor.now) c.text.new.pool c.text-2.new.pool
          c.in_ok-descriptor.ensures.grows) c.in_ok-name.ensures.named;
      described = c.in_ok-descriptor.ensures.named;
      code_is = refl;
      attributes = c.new.ensures;
    }
