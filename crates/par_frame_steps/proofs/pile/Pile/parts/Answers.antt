use Rattle.std.proofs.Common.{◌≡◌, ◌+◌, ◌*◌, ◌∙◌, List, length, ap, sym, arith}
use Rattle.par_place_kinds.specs.declared.kind.PlaceKind.{PlaceKind}
use Rattle.par_frame_steps.specs.declared.pile.TheConstants.{PIECE}
use Rattle.par_frame_steps.proofs.Piled.{many_piled}
use Rattle.par_frame_steps.proofs.pile.Pile.parts.Goals as goal

pub returns : goal.returns
returns c =
    let pieces = c.self.inside.pieces in
    let rest = c.self.inside.rest in
    let short = c.self.invariant.short in
    let all : length pieces * PIECE + length rest.items ≡ length c.args.self.now =
    sym (many_piled pieces rest.items c.self.invariant.whole)
    ∙ ap (λ (ks : List PlaceKind). length ks) c.self.view_is in
    omega (arith, all, short, c.len.ensures)
