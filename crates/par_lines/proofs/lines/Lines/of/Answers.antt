use Rattle.std.proofs.Common.{◌≡◌, ℕ, ◌-◌, ◌++◌, List, [], length, take, replicate, ap, ◌∙◌, arith}
use Rattle.std.specs.Vec.{vec_len}
use Rattle.std.proofs.lemmas.List.{take_all}
use Rattle.par_lines.specs.Lines.{left_of}
use Rattle.par_lines.proofs.Taking.{none_taken}
use Rattle.par_lines.proofs.lines.Lines.of.Goals as goal

pub returns : goal.returns
returns c =
    let many : c.len.result - vec_len c.new-taken.result ≡ length c.args.inputs.channels =
    omega (arith, c.new-taken.ensures.len, c.len.ensures) in
    let first : take c.len.result c.new-taken.result.items ≡ [] =
    ap (take c.len.result) c.new-taken.ensures.items ∙ take_all c.len.result [] (omega arith) in
    let zeros : c.resize.new.self.items ≡ replicate (length c.args.inputs.channels) 0 =
    c.in_ok-resize.ensures.items
    ∙ ap (λ (xs : List ℕ). xs ++ replicate (c.len.result - vec_len c.new-taken.result) 0) first
    ∙ ap (λ (n : ℕ). replicate n 0) many in
    ap (left_of c.args.inputs.channels) zeros ∙ none_taken c.args.inputs.channels
