use Rattle.std.proofs.Common.{refl}
use Rattle.par_code_form.specs.PoolNames.{full_name, member_form}
use Rattle.par_place.proofs.Growth.{member_renamed}
use Rattle.par_place.proofs.named.index_of.Goals as goal

pub returns-in-Member-clause-added : goal.returns-in-Member-clause-added
returns-in-Member-clause-added c =
    rw c.in-Member.is
    (member_renamed c.args.pool.now c.member_index.new.pool (member_form c.in-Member.opcode)
    (member_form c.in-Member.opcode) (full_name c.in-Member.class) (full_name c.in-Member.class)
    c.as_slice.result.now c.in-Member.name c.as_slice-in-Member.result.now c.in-Member.descriptor
    refl refl c.as_slice.ensures c.as_slice-in-Member.ensures c.member_index.ensures.added)

pub returns-in-LockOp-clause-added : goal.returns-in-LockOp-clause-added
returns-in-LockOp-clause-added c = rw c.in-LockOp.is c.lock_index.ensures.added
