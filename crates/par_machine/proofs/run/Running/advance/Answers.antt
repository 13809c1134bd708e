use Rattle.std.proofs.Common.{sym, arith}
use Rattle.par_machine.proofs.Found.{point_stands, coded, finds_nothing, finds}
use Rattle.par_machine.proofs.Sound.{first_stands}
use Rattle.par_machine.proofs.run.Running.advance.Goals as goal

pub stuck-requires : goal.stuck-requires
stuck-requires c =
    let files = c.args.area.now.files in
    let there = point_stands files c.args.self.now.stack c.point-point.result
    c.point-point.ensures.is c.point-point.ensures.some c.requires.sound.frames in
    omega (arith, there.0)

pub returns-in_default : goal.returns-in_default
returns-in_default c =
    finds_nothing c.args.area.now c.args.self.now c.stuck.result c.point-point.result
    c.point-point.ensures.is c.requires.sound c.in_default.ensures c.stuck.ensures

pub run-requires-clause-coded : goal.run-requires-clause-coded
run-requires-clause-coded c =
    let p = c.point-point.result in
    coded c.args.area.now.files p.class p.method p.at _ c.in-Some.ensures.1.is

pub run-requires-clause-there : goal.run-requires-clause-there
run-requires-clause-there c = record {
  point = sym c.point-point.ensures.is;
  stands = first_stands c.args.area.now.files c.args.self.now.stack c.point-point.ensures.some
      c.requires.sound.frames;
  forward = c.in-Some.ensures.1.forward;
  is_ahead = sym c.in-Some.ensures.1.ahead;
  is_aside = sym c.in-Some.ensures.1.aside;
}

pub run-requires-clause-small : goal.run-requires-clause-small
run-requires-clause-small c =
    let row = c.in-Some.ensures in omega (arith, row.0, row.1.forward, row.1.within)

pub returns : goal.returns
returns c =
    finds c.args.area.now c.args.self.now c.run.result c.point-point.result
    c.point-point.ensures.is
    (record {
      point = c.point-point.result;
      instr = c.in-Some.row.instr;
      next = c.in-Some.row.next;
      aside = c.in-Some.row.aside;
    })
    c.run.new.self c.in-Some.ensures.1.is c.run.ensures
