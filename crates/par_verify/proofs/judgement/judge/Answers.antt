use Rattle.std.proofs.Common.{◌≡◌, true, Some, map, set, is_some, option_map, refl}
use Rattle.std.proofs.Common.{sym, ap, subst, ◌∙◌, arith}
use Rattle.std.proofs.lemmas.Result.{IfOk-weaker}
use Rattle.par_single.specs.Descriptors.{kind_of}
use Rattle.par_single.specs.Walk.{starts_at}
use Rattle.par_kinds.specs.Linked.{caught_kind}
use Rattle.par_kinds.specs.Shapes.{act_of, shape_at}
use Rattle.par_verify_laws.specs.par_kinds.Passes.{from_start, start_table, begins_as}
use Rattle.par_frame_steps.specs.Marks.{names, frame_of}
use Rattle.par_frame_passes.specs.Tables.{table_of}
use Rattle.par_verify.proofs.Starting.{first_put, put-many}
use Rattle.par_verify.proofs.Judged.{first-held, unbegun, misbegun, judged, is-told, inside}
use Rattle.par_verify.proofs.judgement.judge.Goals.{then-not-has-via-then-not-has}
use Rattle.par_verify.proofs.judgement.judge.Goals.{then-not-has-via-else-not-has+then-not-begins}
use Rattle.par_verify.proofs.judgement.judge.Goals as goal

pub settle-requires : goal.settle-requires
settle-requires c =
    let same = put-many c.args.told.now c.put.new.table 0 _ c.put.ensures in
    let many = c.requires.many in
    let short = c.requires.small in
    record { small = short; many = omega (arith, same, many, short) }

pub returns-then-not-has : goal.returns-then-not-has
returns-then-not-has c = λ told same within.
    let site = c.args.site in
    let code = site.code.now in
    let exc = names site.exceptions.now in
    let act = act_of (option_map kind_of site.gives) (shape_at site.linked.now site.class) in
    let handler = caught_kind site.linked.now site.class in
    let first = frame_of c.args.first.now in
    let starts = ap (λ b. starts_at b 0) (sym c.as_slice.ensures)
    ∙ sym (c.in_ok-starts.ensures 0) ∙ sym c.has.ensures in
    elim c.then-not-has.branch [
      | then-not-has-via-then-not-has w ↦
          unbegun exc act handler code first told (starts ∙ w.if-not-has.true)
      | then-not-has-via-else-not-has+then-not-begins w ↦
          let begins : starts_at code.code 0 ≡ true = starts ∙ w.if-not-has.false in
          let held = first-held told code.code (table_of c.args.told.now) begins same in
          misbegun exc act handler code first told begins
          (ap (begins_as exc first) (sym held) ∙ sym w.begins.ensures
          ∙ w.if-not-begins.true)
    ]

pub returns : goal.returns
returns c =
    let site = c.args.site in
    let code = site.code.now in
    let exc = names site.exceptions.now in
    let first = frame_of c.args.first.now in
    let begins : starts_at code.code 0 ≡ true =
    ap (λ b. starts_at b 0) (sym c.as_slice.ensures) ∙ sym (c.in_ok-starts.ensures 0)
    ∙ sym c.has.ensures ∙ c.if-not-has.false in
    IfOk-weaker c.settle.result _ _
    (λ found is. λ told same within.
    let held = first-held told code.code (table_of c.args.told.now) begins same in
    let fits : begins_as exc first (told 0) ≡ true =
    ap (begins_as exc first) (sym held) ∙ sym c.begins.ensures ∙ c.if-not-begins.false in
    let table : table_of c.put.new.table
    ≡ start_table (from_start first told) 0 code.code =
    c.put.ensures ∙ ap (λ k. set (table_of c.args.told.now) 0 (Some k)) c.in_ok-frame.ensures
    ∙ ap (λ t. set t 0 (Some first)) same
    ∙ sym (first_put first told code.code) in
    let fixed : c.as_slice-2.result.now
    ≡ map is_some (start_table (from_start first told) 0 code.code) =
    c.as_slice-2.ensures.value ∙ c.in_ok-fixed.ensures ∙ ap (map is_some) table in
    judged exc (act_of (option_map kind_of site.gives) (shape_at site.linked.now site.class))
    (caught_kind site.linked.now site.class) code first told
    (table_of c.put.new.table) found begins fits table
    (is (from_start first told) first
    (is-told _ first told
    (λ at. c.in_ok-starts.ensures at ∙ ap (λ b. starts_at b at) c.as_slice.ensures) fixed begins
    within)
    refl (inside first told code.code begins within) table))
    c.settle.ensures
