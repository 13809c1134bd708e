use Rattle.std.proofs.Common.{◌+◌, List, drop, sym, subst, arith}
use Rattle.par_erase.specs.declared.program.PlainMethod.{PlainMethod}
use Rattle.par_compile.specs.Own.{method_in, methods_entries, methods_classes, code_entries}
use Rattle.par_compile.specs.Own.{code_classes}
use Rattle.par_framing.specs.par_frames.Room.{HasRoom, SPARE}
use Rattle.par_compile.proofs.Files.{spare_stays}
use Rattle.par_compile.proofs.Growing.{room_less}
use Rattle.par_compile.proofs.Lists.{drop_more}
use Rattle.par_compile.proofs.Members.{puts_nothing, puts_more, puts_done}
use Rattle.par_compile.proofs.methods.put_methods.Goals as goal

pub loop-method-init : goal.loop-method-init
loop-method-init c =
    record { puts = puts_nothing c.args.frames c.args.draft.now; room = c.requires.room }

pub put_method-requires-clause-room : goal.put_method-requires-clause-room
put_method-requires-clause-room c =
    let f = c.args.frames in
    let p = c.args.plain.now in
    let ms = c.args.methods.now in
    let i = c.loop-method.method-index in
    let m = c.method-item.result in
    let rest = drop (i + 1) ms in
    room_less (code_entries f p m + 2) SPARE (methods_entries f p rest) (code_classes f p m)
    (methods_classes f p rest) c.loop-method.draft.pool (spare_stays f p rest)
    (subst (λ (xs : List PlainMethod).
    HasRoom c.loop-method.draft.pool (methods_entries f p xs) (methods_classes f p xs))
    (drop_more ms i m c.loop-method-test.true (sym c.method-item.is))
    c.loop-method.invariant.room)

pub loop-method-preserved : goal.loop-method-preserved
loop-method-preserved c =
    let f = c.args.frames in
    let p = c.args.plain.now in
    let ms = c.args.methods.now in
    let i = c.loop-method.method-index in
    let m = c.method-item.result in
    let rest = drop (i + 1) ms in
    record {
      puts =
          puts_more f (method_in p) ms i m c.args.draft.now c.loop-method.draft
          c.put_method.new.draft c.loop-method-test.true (sym c.method-item.is)
          c.loop-method.invariant.puts c.in_ok-put_method.ensures.puts;
      room =
          c.in_ok-put_method.ensures.left (methods_entries f p rest) (methods_classes f p rest)
          (subst (λ (xs : List PlainMethod).
          HasRoom c.loop-method.draft.pool (methods_entries f p xs) (methods_classes f p xs))
          (drop_more ms i m c.loop-method-test.true (sym c.method-item.is))
          c.loop-method.invariant.room);
    }

pub returns : goal.returns
returns c =
    puts_done c.args.frames (method_in c.args.plain.now) c.args.methods.now
    c.loop-method.method-index
    c.args.draft.now c.loop-method.draft
    (omega (arith, c.loop-method-test.false, c.loop-method.auto.method-index-end))
    c.loop-method.invariant.puts
