use Rattle.std.proofs.Common.{List, ℕ, drop, length, arith}
use Rattle.par_pool.specs.declared.constant.Constant.{Constant}
use Rattle.par_pool.specs.declared.error.ClassError.TheVariants.{Cut}
use Rattle.par_pool.specs.Spelling.{pool}
use Rattle.par_pool.proofs.Pools.{exact_pool}
use Rattle.par_pool.proofs.Offsets.{offset_of, pool_bytes}
use Rattle.par_pool.proofs.reader.located.Goals as goal

pub overflow_sub-result : goal.overflow_sub-result
overflow_sub-result c =
    let read : List Constant × List ℕ = (c.in_ok-entries.entries.items, c.in_ok-entries.rest.now) in
    let given = rw c.split_at.ensures.back at c.in_ok-entries.ensures in
    let taken =
    (exact_pool (Cut (length c.args.bytes.now))).takes (drop c.args.from c.args.bytes.now) read
    (pool_bytes c.args.bytes.now c.args.from (λ i. omega (arith, c.type_inv.bytes i))) given in
    (offset_of c.args.bytes.now (pool c.in_ok-entries.entries.items) c.in_ok-entries.rest.now
    c.args.from taken.0.parts).0

pub returns-clause-exact : goal.returns-clause-exact
returns-clause-exact c =
    let read : List Constant × List ℕ = (c.in_ok-entries.entries.items, c.in_ok-entries.rest.now) in
    let given = rw c.split_at.ensures.back at c.in_ok-entries.ensures in
    let taken =
    (exact_pool (Cut (length c.args.bytes.now))).takes (drop c.args.from c.args.bytes.now) read
    (pool_bytes c.args.bytes.now c.args.from (λ i. omega (arith, c.type_inv.bytes i))) given in
    let place =
    offset_of c.args.bytes.now (pool c.in_ok-entries.entries.items) c.in_ok-entries.rest.now
    c.args.from taken.0.parts in
    rw (c.wrap.ensures, place.1) given
