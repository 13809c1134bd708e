use Rattle.std.proofs.Common.{◌≡◌, ◌+◌, ◌<◌, ◌||◌, List, ◌++◌, ◌∷◌, [], Some, None, false, true}
use Rattle.std.proofs.Common.{length, take, subst, sym, ap, ◌∙◌, arith}
use Rattle.std.specs.List.{All, before_first}
use Rattle.std.specs.Str.{bytes_eq}
use Rattle.std.proofs.lemmas.Bool.Decides.{nat_tests}
use Rattle.std.proofs.lemmas.List.{nil_from_length}
use Rattle.par_values.specs.declared.inputs.ChannelInput.{ChannelInput}
use Rattle.par_inputs.specs.Lines.{Text, lines_of}
use Rattle.par_inputs.specs.Entries.{line_of}
use Rattle.par_inputs.specs.Rules.{IsEntry, IsOnce}
use Rattle.par_inputs.specs.Seen.{has}
use Rattle.par_inputs.proofs.FileLines.{is_end}
use Rattle.par_inputs.proofs.RightEntries.{All-entries, IsOnce-right}
use Rattle.par_inputs.proofs.Progress.{SoFar, is_colon, passed, taken_in, no_entry, again}
use Rattle.par_inputs.proofs.Progress.{all_right, all_given, was_known, was_new}
use Rattle.par_inputs.proofs.read.read_inputs.Goals as goal

pub lines-preserved-then-is_empty : goal.lines-preserved-then-is_empty
lines-preserved-then-is_empty c =
    let some : 0 < length c.lines.rest.now = grind (arith, nat_tests) in
    let empty : before_first is_end c.lines.rest.now ≡ [] =
    sym c.first_line.ensures.line ∙ nil_from_length _ (grind (arith, nat_tests)) in
    let Left : Text → Type 0 =
    λ rest. SoFar c.args.bytes.now rest c.lines.channels (c.lines.number + 1) c.lines.seen in (
      c.lines.invariant.0,
      subst Left (sym c.first_line.ensures.behind)
          (passed _ _ _ _ _ c.lines.invariant.1 some empty),
    )

pub returns-in_default-clause-refused : goal.returns-in_default-clause-refused
returns-in_default-clause-refused c =
    let some : 0 < length c.lines.rest.now = grind (arith, nat_tests) in
    let filled : 0 < length (before_first is_end c.lines.rest.now) =
    grind (arith, nat_tests, c.first_line.ensures.line) in
    let none : line_of (before_first is_end c.lines.rest.now) ≡ None =
    ap line_of (sym c.first_line.ensures.line) ∙ sym c.in_ok-entry.ensures ∙ c.in_default.is in
    no_entry _ _ _ _ _ c.lines.invariant.1 some filled none

pub returns-then-not-branch-clause-refused : goal.returns-then-not-branch-clause-refused
returns-then-not-branch-clause-refused c =
    let some : 0 < length c.lines.rest.now = grind (arith, nat_tests) in
    let filled : 0 < length (before_first is_end c.lines.rest.now) =
    grind (arith, nat_tests, c.first_line.ensures.line) in
    let entry : line_of (before_first is_end c.lines.rest.now) ≡ Some c.in-Some.entry =
    ap line_of (sym c.first_line.ensures.line) ∙ sym c.in_ok-entry.ensures ∙ c.in-Some.is in
    let names : c.split_at.result.0.now
    ≡ before_first is_colon (before_first is_end c.lines.rest.now) =
    c.split_at.ensures.front ∙ ap (λ n. take n c.first_line.result.0.now)
    c.length_before.ensures.length ∙ ap (before_first is_colon) c.first_line.ensures.line in
    let known : has c.lines.seen c.split_at.result.0.now ≡ true =
    was_known _ (sym c.in_ok-take_in.ensures.fresh ∙ c.if-not-branch.true) in
    again _ _ _ _ _ _ c.lines.invariant.1 some filled entry
    (ap (has c.lines.seen) (sym names) ∙ known)

pub lines-preserved : goal.lines-preserved
lines-preserved c =
    let some : 0 < length c.lines.rest.now = grind (arith, nat_tests) in
    let filled : 0 < length (before_first is_end c.lines.rest.now) =
    grind (arith, nat_tests, c.first_line.ensures.line) in
    let entry : line_of (before_first is_end c.lines.rest.now) ≡ Some c.in-Some.entry =
    ap line_of (sym c.first_line.ensures.line) ∙ sym c.in_ok-entry.ensures ∙ c.in-Some.is in
    let names : c.split_at.result.0.now
    ≡ before_first is_colon (before_first is_end c.lines.rest.now) =
    c.split_at.ensures.front ∙ ap (λ n. take n c.first_line.result.0.now)
    c.length_before.ensures.length ∙ ap (before_first is_colon) c.first_line.ensures.line in
    let fresh : has c.lines.seen c.split_at.result.0.now ≡ false =
    was_new _ (sym c.in_ok-take_in.ensures.fresh ∙ c.if-not-branch.false) in
    let grown : (other : Text) → has c.take_in.new.seen other
    ≡ (bytes_eq other (before_first is_colon (before_first is_end c.lines.rest.now))
    || has c.lines.seen other) = λ other. c.in_ok-take_in.ensures.taken other
    ∙ ap (λ text. bytes_eq other text || has c.lines.seen other) names in
    let read =
    taken_in _ _ _ _ _ c.take_in.new.seen _ c.lines.invariant.1 some filled entry
    (ap (has c.lines.seen) (sym names) ∙ fresh) grown in
    let Left : Text → Type 0 =
    λ rest. SoFar c.args.bytes.now rest (c.lines.channels ++ c.in-Some.entry ∷ [])
    (c.lines.number + 1) c.take_in.new.seen in
    let Read : List ChannelInput
    → Type 0 =
    λ channels. SoFar c.args.bytes.now c.first_line.result.1.now channels
    (c.lines.number + 1) c.take_in.new.seen in (
      c.lines.invariant.0,
      subst Read (sym c.in_ok-push.ensures.ok) (subst Left (sym c.first_line.ensures.behind) read),
    )

pub returns-clause-right : goal.returns-clause-right
returns-clause-right c =
    let empty : c.lines.rest.now ≡ [] = nil_from_length _ (grind (arith, nat_tests)) in
    all_right _ _ _ _ _ c.lines.invariant.1 empty

pub returns-clause-entries : goal.returns-clause-entries
returns-clause-entries c =
    let empty : c.lines.rest.now ≡ [] = nil_from_length _ (grind (arith, nat_tests)) in
    all_given _ _ _ _ _ c.lines.invariant.1 empty

pub returns-clause-each : goal.returns-clause-each
returns-clause-each c =
    let Each : List ChannelInput → Type 0 = λ channels. All IsEntry channels in
    subst Each (sym (returns-clause-entries c)) (All-entries (lines_of c.args.bytes.now))

pub returns-clause-once : goal.returns-clause-once
returns-clause-once c =
    subst IsOnce (sym (returns-clause-entries c)) (IsOnce-right _ (returns-clause-right c))
