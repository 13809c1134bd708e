use Rattle.std.proofs.Common.{sym, ◌∙◌, arith}
use Rattle.std.proofs.lemmas.Bool.{not-false}
use Rattle.par_stack.specs.declared.point.Point.{Point}
use Rattle.par_stack.specs.Frames.{running}
use Rattle.par_machine.proofs.QuietSteps.{same_point, row_stands, tried_found}
use Rattle.par_machine.proofs.Sound.{first_stands}
use Rattle.par_machine.proofs.run.Running.try_advance.Goals as goal

pub try_run-requires-clause-there : goal.try_run-requires-clause-there
try_run-requires-clause-there c =
    let first = c.args.first in
    let at = c.at-at.result in
    let p : Point = record { class = first.class; method = first.method; at = at } in
    let row = row_stands c.args.area.now.files c.args.rows.now p c.in-Some.row c.requires.rows
    c.in-Some.ensures in
    let there = same_point first (running c.args.self.now.stack).point at c.requires.same
    c.at-at.ensures.is in
    record {
      point = sym there;
      stands = first_stands c.args.area.now.files c.args.self.now.stack c.at-at.ensures.some
          c.requires.sound.frames;
      forward = row.1.forward;
      is_ahead = sym row.1.ahead ∙ not-false _ c.if-not-row.false;
      is_aside = sym row.1.aside;
    }

pub try_run-requires-clause-small : goal.try_run-requires-clause-small
try_run-requires-clause-small c =
    let first = c.args.first in
    let at = c.at-at.result in
    let p : Point = record { class = first.class; method = first.method; at = at } in
    let row = row_stands c.args.area.now.files c.args.rows.now p c.in-Some.row c.requires.rows
    c.in-Some.ensures in
    omega (arith, row.0, row.1.forward, row.1.within)

pub try_run-requires-clause-within : goal.try_run-requires-clause-within
try_run-requires-clause-within c =
    let first = c.args.first in
    let at = c.at-at.result in
    let p : Point = record { class = first.class; method = first.method; at = at } in
    let row = row_stands c.args.area.now.files c.args.rows.now p c.in-Some.row c.requires.rows
    c.in-Some.ensures in
    row.1.within

pub returns : goal.returns
returns c =
    let first = c.args.first in
    let at = c.at-at.result in
    let p : Point = record { class = first.class; method = first.method; at = at } in
    let row = row_stands c.args.area.now.files c.args.rows.now p c.in-Some.row c.requires.rows
    c.in-Some.ensures in
    let there = same_point first (running c.args.self.now.stack).point at c.requires.same
    c.at-at.ensures.is in
    tried_found c.args.area.now c.args.self.now p
    (record {
      point = p;
      instr = c.in-Some.row.instr;
      next = c.in-Some.row.next;
      aside = c.in-Some.row.aside;
    })
    c.try_run.result c.try_run.new.self there row.1.is c.try_run.ensures
