use Rattle.std.proofs.Common.{subst}
use Rattle.par_link.specs.Linked.{AreLinked}
use Rattle.par_link.proofs.Few.{few}
use Rattle.par_link.proofs.linked.Linked.count.Goals as goal

pub returns-clause-linked : goal.returns-clause-linked
returns-clause-linked c =
    let known = c.self.invariant in
    subst AreLinked (cc (c.self.view_is))
    (record {
      few = few c.self.inside.files known.unbroken;
      small = known.small;
      spelled = known.spelled;
      unbroken = known.unbroken;
    })
