use Rattle.std.proofs.Common.{◌≡◌, ◌<◌, ◌+◌, ◌-◌, ℕ, List, Option, Some, length, map, slice_get}
use Rattle.std.proofs.Common.{get_or, reverse, ap, ◌∙◌, sym, arith}
use Rattle.std.specs.Option.{option_map}
use Rattle.par_stack.specs.declared.point.Extent.{Extent}
use Rattle.par_stack.specs.Frames.{Frame}
use Rattle.par_stack.specs.Layout.{Places, frame_at}
use Rattle.par_stack.proofs.Rows.{read_later, read_from_last}
use Rattle.par_stack.proofs.stack.Stack.point_below.Goals as goal

pub returns : goal.returns
returns c =
    let places : Places = c.self.inside.places.items in
    let waiting : List Extent = c.self.inside.waiting.items in
    let some : 0 < c.args.above = omega (arith, c.if-above-eq0.false) in
    let place : ℕ = c.len-2.result - c.args.above in
    let many : c.args.above - 1 + 1 + place ≡ length waiting =
    omega (arith, some, c.if-above-len.false, c.len.ensures, c.len-2.ensures) in
    let frame : Option Frame = Some (frame_at places (get_or waiting place c.index.result.now)) in
    sym (
    ap (λ (frames : List Frame). option_map (λ f. f.point) (slice_get frames c.args.above))
    (sym c.self.view_is)
    ∙ ap (λ (found : Option Frame). option_map (λ f. f.point) found) (
    read_later (frame_at places c.self.inside.running)
    (map (frame_at places) (reverse waiting)) c.args.above some
    ∙ read_from_last (frame_at places) waiting (c.args.above - 1) place c.index.result.now many)
    ∙ ap (λ (e : Extent). Some e.point) (sym c.index.ensures))
