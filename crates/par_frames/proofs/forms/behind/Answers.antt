use Rattle.std.proofs.Common.{◌≡◌, ◌<◌, ◌++◌, List, [], ◌∷◌, length, sym, arith}
use Rattle.par_frame_forms.specs.declared.form.PlaceType.{PlaceType}
use Rattle.par_frame_forms.specs.Written.{behind}
use Rattle.par_frame_forms.proofs.Shortest.{append_behind}
use Rattle.par_frames.proofs.forms.behind.Goals as goal

at-end : (front rest listed locals : List PlaceType) → length front < 1
    → behind front rest ≡ behind listed locals → locals ≡ listed ++ rest
unfolding behind
at-end [] rest listed locals lt h = append_behind listed locals rest (sym h)
at-end (t ∷ front) rest listed locals lt h = absurd (omega (arith, lt))

pub returns-clause-whole : goal.returns-clause-whole
returns-clause-whole c =
    at-end c.loop-front.front.now c.loop-front.rest.now c.args.listed.now c.args.locals.now
    c.in_default.len_below c.loop-front.invariant
