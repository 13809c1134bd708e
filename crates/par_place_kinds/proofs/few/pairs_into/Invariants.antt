use Rattle.std.proofs.Common.{◌≡◌, take, true}
use Rattle.std.specs.Prelude.{IfSome}
use Rattle.par_kinds.specs.Kinds.{into, kind_at}
use Rattle.par_kinds.specs.Passes.{all_into}
use Rattle.par_place_kinds.specs.Marks.{names, kinds_of}
use Rattle.par_place_kinds.specs.Numbered.{numbered}
use Rattle.par_place_kinds.proofs.few.pairs_into.Given as goal

-- the pairs that are kept fit, and so do those so far
abbrev pub invariant-loop-place : goal.invariant-loop-place
invariant-loop-place l =
    IfSome l.last (λ p. into (names l.exceptions) (kind_at (kinds_of l.mine) p.mine)
    (kind_at (kinds_of l.its) p.its) ≡ true)
    × IfSome l.before (λ p. into (names l.exceptions) (kind_at (kinds_of l.mine) p.mine)
    (kind_at (kinds_of l.its) p.its) ≡ true)
    × (all_into (names l.exceptions) (numbered (kinds_of l.mine) (take l.place l.numbers))
    (numbered (kinds_of l.its) (take l.place l.others)) ≡ true)
