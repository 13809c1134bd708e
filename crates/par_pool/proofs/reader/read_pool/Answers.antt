use Rattle.std.proofs.Common.{drop, length, arith}
use Rattle.par_pool.specs.declared.error.ClassError.TheVariants.{Cut}
use Rattle.par_pool.proofs.Offsets.{pool_found, pool_only, pool_bytes}
use Rattle.par_pool.proofs.reader.read_pool.Goals as goal

pub returns-clause-found : goal.returns-clause-found
returns-clause-found c =
    pool_found (λ read. read.0.entries) (λ read. drop read.1 c.args.bytes.now)
    (Cut (length c.args.bytes.now)) (drop c.args.from c.args.bytes.now) c.located.result
    (pool_bytes c.args.bytes.now c.args.from (λ i. omega (arith, c.type_inv.bytes i)))
    c.located.ensures.exact

pub returns-clause-only : goal.returns-clause-only
returns-clause-only c =
    λ entries rest there.
    rw (← (pool_only (Cut (length c.args.bytes.now))
    (drop c.args.from c.args.bytes.now) entries rest there)) c.located.ensures.exact
