use Rattle.std.proofs.Common.{arith}
use Rattle.std.proofs.lemmas.Result.{IfOk-weaker}
use Rattle.par_pool.specs.Entries.{IsAt, IsNameTypeAt}
use Rattle.par_pool.specs.declared.constant.Constant.TheVariants.{NameType}
use Rattle.par_pool.proofs.Parts.{texts_added, name_type_added, texts_refer, name_type_named}
use Rattle.par_pool.proofs.builder.PoolBuilder.name_type.Goals as goal

pub returns-in_err-second-clause-added : goal.returns-in_err-second-clause-added
returns-in_err-second-clause-added c =
    texts_added c.args.self.now c.utf8-2.new.self c.utf8-2-2.new.self 3 c.args.name.now
    c.args.descriptor.now (omega arith) c.utf8-2.ensures.added c.utf8-2-2.ensures.added

pub put-requires-clause-refer : goal.put-requires-clause-refer
put-requires-clause-refer c =
    texts_refer c.utf8-2.new.self c.utf8-2-2.new.self c.in_ok-first.first c.in_ok-second.second
    c.args.name.now c.args.descriptor.now c.in_ok-first.ensures.named c.utf8-2-2.ensures.added
    c.in_ok-second.ensures.named

pub returns-clause-named : goal.returns-clause-named
returns-clause-named c =
    IfOk-weaker c.put.result (λ index.
    IsAt c.put.new.self index (NameType c.in_ok-first.first c.in_ok-second.second))
    (λ index. IsNameTypeAt c.put.new.self index c.args.name.now c.args.descriptor.now)
    (λ index is. name_type_named c.utf8-2.new.self c.utf8-2-2.new.self c.put.new.self index
    c.in_ok-first.first c.in_ok-second.second c.args.name.now c.args.descriptor.now
    c.in_ok-first.ensures.named c.utf8-2-2.ensures.added c.in_ok-second.ensures.named
    c.put.ensures.added is) c.put.ensures.named

pub returns-clause-added : goal.returns-clause-added
returns-clause-added c =
    name_type_added c.args.self.now c.utf8-2.new.self c.utf8-2-2.new.self c.put.new.self
    c.in_ok-first.first c.in_ok-second.second c.args.name.now c.args.descriptor.now
    c.utf8-2.ensures.added c.in_ok-first.ensures.named c.utf8-2-2.ensures.added
    c.in_ok-second.ensures.named c.put.ensures.added
