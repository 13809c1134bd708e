use Rattle.std.proofs.Common.{List, [], ◌∷◌, sym, subst, length-append, arith}
use Rattle.std.specs.List.{All}
use Rattle.par_erase.specs.declared.program.PlainClass.{PlainClass}
use Rattle.par_compile.specs.Own.{IsReady}
use Rattle.par_compile.proofs.Each.{each_more, all_compiled}
use Rattle.par_compile.proofs.program.compile_plain.Goals as goal

pub compiled-requires-clause-ready : goal.compiled-requires-clause-ready
compiled-requires-clause-ready c =
    let ready = subst (λ (ks : List PlainClass). All (IsReady c.args.plain.now) ks)
    (sym c.declared-classes.ensures) c.requires.ready in
    subst (IsReady c.args.plain.now) (sym c.class-item.is)
    (ready c.loop-class.class-index c.class-item.result c.loop-class-test.true)

pub loop-class-preserved : goal.loop-class-preserved
loop-class-preserved c = record {
  many =
      rw c.in_ok-push.ensures.ok
      (omega (
        arith,
        length-append c.loop-class.files (c.in_ok-file.file ∷ []),
        c.loop-class.invariant.many,
      ));
  each =
      rw c.in_ok-push.ensures.ok
      (each_more c.args.plain.now c.declared-classes.result.now c.loop-class.files
      c.loop-class.class-index c.class-item.result c.in_ok-file.file c.declared-classes.ensures
      c.loop-class-test.true (sym c.class-item.is) c.loop-class.invariant.many
      c.in_ok-file.ensures c.loop-class.invariant.each);
}

pub returns : goal.returns
returns c =
    all_compiled c.args.plain.now c.declared-classes.result.now c.loop-class.files
    c.declared-classes.ensures
    (omega (
      arith,
      c.loop-class.invariant.many,
      c.loop-class-test.false,
      c.loop-class.auto.class-index-end,
    ))
    c.loop-class.invariant.each
