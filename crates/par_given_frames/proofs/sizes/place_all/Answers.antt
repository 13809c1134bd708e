use Rattle.std.proofs.Common.{Bool, false, List, length, sym, ap, subst, ◌∙◌, arith}
use Rattle.std.proofs.lemmas.Bool.{OnTrue_at}
use Rattle.std.proofs.lemmas.List.{length-replicate}
use Rattle.par_frame_forms.specs.declared.form.FrameForm.{FrameForm}
use Rattle.par_given_frames.proofs.Parted.{parted, empty, behind_first}
use Rattle.par_given_frames.proofs.Placing.{Placing, there, unsaid, unplaced, goes_on, all-placed}
use Rattle.par_given_frames.proofs.Placing.{all-framed}
use Rattle.par_given_frames.proofs.sizes.place_all.Goals as goal

pub returns-in_default-size_said-clause-placed : goal.returns-in_default-size_said-clause-placed
returns-in_default-size_said-clause-placed c =
    let rest = c.loop-rest.rest.now in
    let f = c.form-item.result in
    let so_far =
    subst (λ (fs : List FrameForm). Placing c.args.code.now c.args.entries.now c.args.listed
    c.args.forms.now c.loop-rest.flags c.loop-rest.from c.loop-rest.locals fs)
    (parted rest f c.in-len1-up.len_at_least c.form-item.is) c.loop-rest.invariant in
    sym (unsaid c.args.code.now c.args.entries.now c.args.listed c.args.forms.now
    c.loop-rest.flags c.loop-rest.from c.loop-rest.locals f (behind_first rest) so_far
    (sym c.size_said.ensures ∙ c.in_default-size_said.is))

pub returns-then-not-is_placed-clause-placed : goal.returns-then-not-is_placed-clause-placed
returns-then-not-is_placed-clause-placed c =
    let rest = c.loop-rest.rest.now in
    let f = c.form-item.result in
    let so_far =
    subst (λ (fs : List FrameForm). Placing c.args.code.now c.args.entries.now c.args.listed
    c.args.forms.now c.loop-rest.flags c.loop-rest.from c.loop-rest.locals fs)
    (parted rest f c.in-len1-up.len_at_least c.form-item.is) c.loop-rest.invariant in
    sym (unplaced c.args.code.now c.args.entries.now c.args.listed c.args.forms.now
    c.loop-rest.flags c.loop-rest.from c.loop-rest.locals f (behind_first rest) so_far
    c.in-Some.size (sym c.size_said.ensures ∙ c.in-Some.is)
    (sym c.is_placed.ensures.placed ∙ c.if-not-is_placed.true))

pub bounds-flags-size : goal.bounds-flags-size
bounds-flags-size c =
    omega (
      arith,
      there c.args.code.now c.in-Some.size
          (sym c.is_placed.ensures.placed ∙ c.if-not-is_placed.false),
      c.loop-rest.auto.flags,
      ap (λ (flags : List Bool). length flags) c.requires.blank,
      length-replicate (length c.args.code.now.code) false,
    )

pub overflow_add-from : goal.overflow_add-from
overflow_add-from c =
    omega (
      arith,
      there c.args.code.now c.in-Some.size
          (sym c.is_placed.ensures.placed ∙ c.if-not-is_placed.false),
      c.requires.short,
    )

pub loop-rest-preserved : goal.loop-rest-preserved
loop-rest-preserved c =
    let rest = c.loop-rest.rest.now in
    let f = c.form-item.result in
    let so_far =
    subst (λ (fs : List FrameForm). Placing c.args.code.now c.args.entries.now c.args.listed
    c.args.forms.now c.loop-rest.flags c.loop-rest.from c.loop-rest.locals fs)
    (parted rest f c.in-len1-up.len_at_least c.form-item.is) c.loop-rest.invariant in
    goes_on c.args.code.now c.args.entries.now c.args.listed c.args.forms.now
    c.loop-rest.flags c.loop-rest.from c.loop-rest.locals f (behind_first rest) so_far
    c.in-Some.size (sym c.size_said.ensures ∙ c.in-Some.is)
    (omega (
      arith,
      c.loop-rest.auto.flags,
      ap (λ (flags : List Bool). length flags) c.requires.blank,
      length-replicate (length c.args.code.now.code) false,
    )) c.requires.short (OnTrue_at c.if-not-is_placed.false c.is_placed.ensures.few)
    (sym c.is_placed.ensures.placed ∙ c.if-not-is_placed.false)

pub returns-clause-placed : goal.returns-clause-placed
returns-clause-placed c =
    let so_far =
    subst (λ (fs : List FrameForm). Placing c.args.code.now c.args.entries.now c.args.listed
    c.args.forms.now c.loop-rest.flags c.loop-rest.from c.loop-rest.locals fs)
    (empty c.loop-rest.rest.now c.in_default.len_below) c.loop-rest.invariant in
    all-placed c.args.code.now c.args.entries.now c.args.listed c.args.forms.now
    c.loop-rest.flags c.loop-rest.from c.loop-rest.locals so_far

pub returns-clause-framed : goal.returns-clause-framed
returns-clause-framed c =
    let so_far =
    subst (λ (fs : List FrameForm). Placing c.args.code.now c.args.entries.now c.args.listed
    c.args.forms.now c.loop-rest.flags c.loop-rest.from c.loop-rest.locals fs)
    (empty c.loop-rest.rest.now c.in_default.len_below) c.loop-rest.invariant in
    all-framed c.args.code.now c.args.entries.now c.args.listed c.args.forms.now
    c.loop-rest.flags c.loop-rest.from c.loop-rest.locals so_far
