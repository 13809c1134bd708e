use Rattle.std.proofs.Common.{◌≡◌, ◌<◌, List, length, ap, arith}
use Rattle.std.specs.Prelude.{◌^◌}
use Rattle.par_frame_forms.specs.declared.form.PlaceType.{PlaceType}
use Rattle.par_frame_forms.specs.Written.{known}
use Rattle.par_frame_forms.proofs.Known.{known-few}
use Rattle.par_frames.proofs.forms.put_frame.Goals as goal

still-few : (ts us : List PlaceType) → us ≡ known ts → length ts < 2 ^ 16 → length us < 2 ^ 16
still-few ts us is few =
    let same : length us ≡ length (known ts) = ap length is in
    omega (arith, same, known-few ts, few)

pub put_bare-requires : goal.put_bare-requires
put_bare-requires c =
    still-few c.args.locals.now c.known-own.result.now c.known-own.ensures c.requires.few

pub put_single-requires-clause-few : goal.put_single-requires-clause-few
put_single-requires-clause-few c =
    still-few c.args.locals.now c.known-own.result.now c.known-own.ensures c.requires.few

pub put_full-requires-clause-few : goal.put_full-requires-clause-few
put_full-requires-clause-few c =
    still-few c.args.locals.now c.known-own.result.now c.known-own.ensures c.requires.few
