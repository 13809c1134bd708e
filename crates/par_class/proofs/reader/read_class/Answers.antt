use Rattle.std.proofs.Common.{arith}
use Rattle.par_class.proofs.Files.{file_found, file_only}
use Rattle.par_class.proofs.reader.read_class.Goals as goal

pub returns-clause-found : goal.returns-clause-found
returns-clause-found c =
    file_found c.args.bytes.now c.whole.result
    (λ i. omega (arith, c.type_inv.bytes i)) c.whole.ensures

pub returns-clause-only : goal.returns-clause-only
returns-clause-only c = λ file there. rw (← (file_only c.args.bytes.now file there)) c.whole.ensures
