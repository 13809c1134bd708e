use Rattle.par_resolved.specs.Births.{birth_faults}
use Rattle.par_resolved.specs.Seen.{known_seen}
use Rattle.par_limits.proofs.Noted.{note_class, noted_classes}
use Rattle.par_limits.proofs.policies.check_births.Goals as goal

pub loop-class-preserved : goal.loop-class-preserved
loop-class-preserved c =
    note_class (λ d. birth_faults (known_seen c.args.known.now) d d.birth) c.args.classes.now
    c.loop-class.class-index c.class-item.result c.loop-class.findings
    c.check_birth.new.findings _ c.loop-class-test.true c.class-item.is c.in_ok-check_birth.ensures
    c.loop-class.invariant

pub returns : goal.returns
returns c =
    noted_classes (λ d. birth_faults (known_seen c.args.known.now) d d.birth) c.args.classes.now
    c.loop-class.class-index c.loop-class.findings _ c.loop-class-test.false
    c.loop-class.invariant
