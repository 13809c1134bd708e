use Rattle.std.proofs.lemmas.Result.{IfOk-weaker}
use Rattle.par_pool.specs.Entries.{IsAt, IsMemberAt}
use Rattle.par_pool.specs.declared.constant.Constant.TheVariants.{Field}
use Rattle.par_pool.proofs.Parts.{member_named, member_again, member_added}
use Rattle.par_pool.proofs.builder.PoolBuilder.field.Goals as goal

pub returns-clause-named : goal.returns-clause-named
returns-clause-named c =
    IfOk-weaker c.put.result (λ index.
    IsAt c.put.new.self index (Field c.in_ok-owner.owner c.in_ok-owner.member))
    (λ index. IsMemberAt Field c.put.new.self index c.args.class.now c.args.name.now
    c.args.descriptor.now)
    (λ index is. member_named Field c.naming.new.self c.put.new.self index c.in_ok-owner.owner
    c.in_ok-owner.member c.args.class.now c.args.name.now c.args.descriptor.now
    c.in_ok-owner.ensures.owner c.in_ok-owner.ensures.member c.put.ensures.added is)
    c.put.ensures.named

pub returns-clause-again : goal.returns-clause-again
returns-clause-again c = λ i there.
    member_again Field c.args.self.now c.naming.new.self c.put.new.self i c.in_ok-owner.owner
    c.in_ok-owner.member c.args.class.now c.args.name.now c.args.descriptor.now c.put.result there
    (c.in_ok-owner.ensures.again there.owner there.member there.is_class there.is_member)
    (λ h. c.put.ensures.again i h)

pub returns-clause-added : goal.returns-clause-added
returns-clause-added c =
    member_added Field c.args.self.now c.naming.new.self c.put.new.self c.in_ok-owner.owner
    c.in_ok-owner.member c.args.class.now c.args.name.now c.args.descriptor.now
    c.naming.ensures.added c.in_ok-owner.ensures.owner c.in_ok-owner.ensures.member
    c.put.ensures.added
