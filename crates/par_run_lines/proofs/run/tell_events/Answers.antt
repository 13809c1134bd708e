use Rattle.std.proofs.Common.{◌≡◌, suc, ◌+◌, ◌-◌, arith}
use Rattle.par_run_lines.proofs.Loop.{went_on, keeps, cuts, closes}
use Rattle.par_run_lines.proofs.run.tell_events.Goals as goal

pub loop-left-preserved : goal.loop-left-preserved
loop-left-preserved g c =
    let rest = c.loop-left.left - 1 - c.go_on-left.result in
    let some = c.loop-left-test.true in
    let most = c.go_on-left.ensures.most in
    let parts : c.loop-left.left ≡ c.go_on-left.result + suc rest = omega (arith, some, most) in
    let way =
    went_on _ _ _ _ _ c.loop-left.left c.loop-left.machine _ _ c.loop-left.invariant
    c.go_on-left.result (suc rest) c.go_on-left.new.self parts c.go_on-left.ensures.files
    c.go_on-left.ensures.goes c.go_on-left.ensures.steps in
    let on = rw c.in-Ok-None.field-0-is at c.in-Ok-None.ensures.told in
    keeps _ _ _ _ _ rest c.go_on-left.new.self _ _ way c.advance.new.machine _ _
    c.in-Ok-None.ensures.counted c.in-Ok-None.ensures.faults_never_fall
    c.in-Ok-None.ensures.faults_stand on

pub returns-in-Ok-Some-clause-told : goal.returns-in-Ok-Some-clause-told
returns-in-Ok-Some-clause-told g c =
    let rest = c.loop-left.left - 1 - c.go_on-left.result in
    let some = c.loop-left-test.true in
    let most = c.go_on-left.ensures.most in
    let parts : c.loop-left.left ≡ c.go_on-left.result + suc rest = omega (arith, some, most) in
    let way =
    went_on _ _ _ _ _ c.loop-left.left c.loop-left.machine _ _ c.loop-left.invariant
    c.go_on-left.result (suc rest) c.go_on-left.new.self parts c.go_on-left.ensures.files
    c.go_on-left.ensures.goes c.go_on-left.ensures.steps in
    let by = rw c.in-Ok-Some.field-0-is at c.in-Ok-Some.ensures.told in
    closes _ _ _ _ _ rest c.go_on-left.new.self _ _ way c.in-Ok-Some.closing _ _ by

pub returns-in-Err-clause-cut : goal.returns-in-Err-clause-cut
returns-in-Err-clause-cut g c =
    let rest = c.loop-left.left - 1 - c.go_on-left.result in
    let some = c.loop-left-test.true in
    let most = c.go_on-left.ensures.most in
    let parts : c.loop-left.left ≡ c.go_on-left.result + suc rest = omega (arith, some, most) in
    let way =
    went_on _ _ _ _ _ c.loop-left.left c.loop-left.machine _ _ c.loop-left.invariant
    c.go_on-left.result (suc rest) c.go_on-left.new.self parts c.go_on-left.ensures.files
    c.go_on-left.ensures.goes c.go_on-left.ensures.steps in
    cuts _ _ _ _ _ rest c.go_on-left.new.self _ _ way c.in-Err.untold _ _ c.in-Err.ensures.untold
