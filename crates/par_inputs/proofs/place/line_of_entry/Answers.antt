use Rattle.std.proofs.Common.{◌≡◌, ◌+◌, ◌-◌, ◌<◌, [], length, subst, sym, ◌∙◌, arith}
use Rattle.std.specs.List.{before_first}
use Rattle.std.proofs.lemmas.Bool.Decides.{nat_tests}
use Rattle.std.proofs.lemmas.List.{nil_from_length}
use Rattle.par_inputs.specs.Lines.{Text}
use Rattle.par_inputs.proofs.FileLines.{is_end}
use Rattle.par_inputs.proofs.Counting.{Counted, none_counted, over_empty, over_line, found}
use Rattle.par_inputs.proofs.Counting.{none_left}
use Rattle.par_inputs.proofs.place.line_of_entry.Goals as goal

pub lines-init : goal.lines-init
lines-init c = (c.requires, none_counted c.args.bytes.now c.args.entry)

pub returns-then-left-eq0 : goal.returns-then-left-eq0
returns-then-left-eq0 c =
    let some : 0 < length c.lines.rest.now = grind (arith, nat_tests) in
    let filled : 0 < length (before_first is_end c.lines.rest.now) =
    grind (arith, nat_tests, c.first_line.ensures.line) in
    sym (found _ _ _ _ _ c.lines.invariant.1 some filled c.if-left-eq0.true)

pub lines-preserved-then-not-is_empty : goal.lines-preserved-then-not-is_empty
lines-preserved-then-not-is_empty c =
    let some : 0 < length c.lines.rest.now = grind (arith, nat_tests) in
    let filled : 0 < length (before_first is_end c.lines.rest.now) =
    grind (arith, nat_tests, c.first_line.ensures.line) in
    let others : 0 < c.lines.left = omega arith in
    let Left : Text → Type 0 =
    λ rest. Counted c.args.bytes.now rest c.args.entry (c.lines.number + 1) (c.lines.left - 1) in (
      c.lines.invariant.0,
      subst Left (sym c.first_line.ensures.behind)
          (over_line _ _ _ _ _ c.lines.invariant.1 some filled others),
    )

pub lines-preserved : goal.lines-preserved
lines-preserved c =
    let some : 0 < length c.lines.rest.now = grind (arith, nat_tests) in
    let empty : before_first is_end c.lines.rest.now ≡ [] =
    sym c.first_line.ensures.line ∙ nil_from_length _ (grind (arith, nat_tests)) in
    let Left : Text → Type 0 =
    λ rest. Counted c.args.bytes.now rest c.args.entry (c.lines.number + 1) c.lines.left in (
      c.lines.invariant.0,
      subst Left (sym c.first_line.ensures.behind)
          (over_empty _ _ _ _ _ c.lines.invariant.1 some empty),
    )

pub returns : goal.returns
returns c =
    let empty : c.lines.rest.now ≡ [] = nil_from_length _ (grind (arith, nat_tests)) in
    sym (none_left _ _ _ _ _ c.lines.invariant.1 empty)
