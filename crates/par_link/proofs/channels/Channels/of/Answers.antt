use Rattle.std.proofs.Common.{◌≡◌, ◌<◌, length, slice_get, Some, refl, arith}
use Rattle.std.proofs.lemmas.Option.{slice_get_read}
use Rattle.par_link.proofs.Spread.{all-in-more, all-spread}
use Rattle.par_link.proofs.channels.Channels.of.Goals as goal

pub loop-class-init : goal.loop-class-init
loop-class-init c = λ class file less is. absurd (omega arith)

pub loop-class-preserved : goal.loop-class-preserved
loop-class-preserved c =
    let i = c.loop-class.class in
    let x = c.index-files-class.result in
    let within : i < length c.args.files.now = omega (arith, c.loop-class-test.true) in
    let there : slice_get c.args.files.now i ≡ Some x =
    slice_get_read c.args.files.now
    (length c.args.files.now) i x refl within c.index-files-class.is in
    all-in-more c.args.files.now c.loop-class.channels.buckets.items
    c.add_all.new.self.buckets.items i x c.in_ok-add_all.ensures.keeps c.loop-class.invariant there
    c.in_ok-add_all.ensures.added

pub returns : goal.returns
returns c =
    all-spread c.args.files.now c.loop-class.channels.buckets.items c.loop-class.class
    (omega (arith, c.loop-class-test.false)) c.loop-class.invariant
