use Rattle.std.proofs.Common.{refl}
use Rattle.par_erase.specs.Shown.{class_info}
use Rattle.par_compile.specs.declared.draft.Draft.{Draft}
use Rattle.par_compile.proofs.Initializers.{puts_initializer}
use Rattle.par_compile.proofs.initializer.put_initializer.Goals as goal

pub returns-clause-puts : goal.returns-clause-puts
returns-clause-puts c = λ frames.
    let mid : Draft = record {
      pool = c.super_initializer.new.pool;
      methods = c.args.draft.now.methods;
    } in
    puts_initializer frames (class_info c.args.class.now) c.in_ok-code.code c.in_ok-index.index
    c.args.draft.now mid c.put.new.self c.in_ok-code.ensures.is refl c.in_ok-index.ensures.grows
    c.in_ok-code.ensures.writable c.in_ok-index.ensures.named c.in_ok-put.ensures.puts
