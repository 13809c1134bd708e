use Rattle.std.proofs.Common.{◌≡◌, ◌+◌, ◌*◌, ◌++◌, ◌∙◌, List, length, ap, arith}
use Rattle.par_place_kinds.specs.declared.kind.PlaceKind.{PlaceKind}
use Rattle.par_frame_steps.specs.Piled.{joined}
use Rattle.par_frame_steps.proofs.Piled.{many_piled}
use Rattle.par_frame_steps.proofs.pile.Pile.len.Goals as goal

pub returns : goal.returns
returns c =
    let pieces = c.self.inside.pieces in
    let rest = c.self.inside.rest in
    let many = many_piled pieces rest.items c.self.invariant.whole in
    let all : c.len.result * 256 + c.len-2.result ≡ length (joined pieces ++ rest.items) =
    omega (arith, many, c.len.ensures, c.len-2.ensures, rest.ok.0) in
    all ∙ ap (λ (ks : List PlaceKind). length ks) c.self.view_is
