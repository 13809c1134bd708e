use Rattle.std.proofs.Common.{◌≡◌, ◌<◌, ℕ, length, sym, ap, ◌∙◌, arith, rules, SFits}
use Rattle.std.specs.Prelude.{ℤ, slice_index}
use Rattle.std.specs.Int.{w16}
use Rattle.std.proofs.lemmas.Int.{to_z-of_z}
use Rattle.std.proofs.lemmas.List.{get_or_default}
use Rattle.par_code_form.specs.Instructions.{instruction}
use Rattle.par_code_form.specs.Placed.{distance}
use Rattle.par_place.proofs.Written.{written_more}
use Rattle.par_place.proofs.code_bytes.write.Goals as goal

pub loop-i-preserved : goal.loop-i-preserved
loop-i-preserved c =
    let n = slice_index c.args.indices.now c.loop-i.i in
    let within : c.loop-i.i < length c.args.indices.now = omega arith in
    let at-is : c.len.result ≡ length c.loop-i.code.items = omega arith in
    let fits : SFits w16 c.distance-to.result = search rules in
    let same = to_z-of_z w16 c.distance-to.result fits in
    written_more (slice_index c.args.offsets.now) c.args.items.now c.args.indices.now c.loop-i.i
    c.index-items-i.result n c.distance-to.result c.instruction.result c.loop-i.code.items
    c.append.new.code.items c.loop-i-test.true within (sym c.index-items-i.is)
    (get_or_default c.args.indices.now c.loop-i.i n 0 within)
    (c.distance-to.ensures ∙ ap (λ (at : ℕ). distance (slice_index c.args.offsets.now) at
    c.index-items-i.result) at-is)
    (c.instruction.ensures.is ∙ ap (λ (z : ℤ). instruction n z c.index-items-i.result) same)
    c.in_ok-append.ensures.writable c.in_ok-append.ensures.code c.loop-i.invariant
