use Rattle.par_class.specs.Layout as layout
use Rattle.par_class.specs.Reading.{method_at, methods_at}
use Rattle.par_class.proofs.Lists.{list_made}
use Rattle.par_class.proofs.member.methods_of.Goals as goal

pub returns : goal.returns
unfolding methods_at
returns c =
    rw (← (list_made layout.method_of c.args.short
    (method_at c.args.entries.now c.args.short c.args.end) c.args.bytes.now)) c.each_method.ensures
