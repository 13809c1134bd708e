use Rattle.par_pool.proofs.Growth.{class_kept}
use Rattle.par_pool.specs.Growth.{IsNameTypePart}
use Rattle.par_pool.proofs.Parts.{naming_added, naming_again}
use Rattle.par_pool.proofs.builder.PoolBuilder.naming.Goals as goal

pub returns-in_err-member-clause-added : goal.returns-in_err-member-clause-added
returns-in_err-member-clause-added c =
    naming_added c.args.self.now c.class.new.self c.name_type.new.self c.args.class.now
    c.args.name.now c.args.descriptor.now c.class.ensures.added c.name_type.ensures.added

pub returns-clause-owner : goal.returns-clause-owner
returns-clause-owner c =
    class_kept c.class.new.self c.name_type.new.self 3
    (IsNameTypePart c.name_type.new.self c.args.name.now c.args.descriptor.now)
    c.name_type.ensures.added c.in_ok-owner.owner c.args.class.now c.in_ok-owner.ensures.named

pub returns-clause-again : goal.returns-clause-again
returns-clause-again c = λ i j is-class is-member.
    naming_again c.in_ok-owner.owner c.in_ok-member.member i j c.args.class.now c.args.name.now
    c.args.descriptor.now (λ h. c.in_ok-owner.ensures.again i h)
    (λ h. c.in_ok-member.ensures.again j h) is-class is-member

pub returns-clause-added : goal.returns-clause-added
returns-clause-added c =
    naming_added c.args.self.now c.class.new.self c.name_type.new.self c.args.class.now
    c.args.name.now c.args.descriptor.now c.class.ensures.added c.name_type.ensures.added
