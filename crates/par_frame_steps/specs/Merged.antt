-- Pieces that were merged before, and kinds that fitted.
use Rattle.std.specs.Prelude.{◌≡◌, true, List, [], ◌∷◌}
use Rattle.par_values.specs.Areas.{Name}
use Rattle.par_kinds.specs.Passes.{all_into, merge_all}
use Rattle.par_frame_steps.specs.declared.fits.Fit.{Fit}
use Rattle.par_frame_steps.specs.declared.merges.Merge.{Merge}
use Rattle.par_frame_steps.specs.Marks.{kinds_of}

-- each has the least kinds into which those of both pieces fit
abbrev pub AreMerges : List Name → List Merge → Type 0
AreMerges exc [] = Unit {0}
AreMerges exc (m ∷ ms) =
    (kinds_of m.least ≡ merge_all exc (kinds_of m.one) (kinds_of m.other)) × AreMerges exc ms

-- all of one fit into those of the other
abbrev pub AreFits : List Name → List Fit → Type 0
AreFits exc [] = Unit {0}
AreFits exc (f ∷ fs) = (all_into exc f.one f.other ≡ true) × AreFits exc fs
