use Rattle.std.proofs.Common.{eq-eqb, ne_eqb}
use Rattle.std.proofs.lemmas.Result.{IfOk-weaker}
use Rattle.par_given_frames.proofs.Having.{has-none-wanted, has-none-native, has-given}
use Rattle.par_given_frames.proofs.methods.has_frames.Goals as goal

pub returns-then-file-ne-FRAMED : goal.returns-then-file-ne-FRAMED
returns-then-file-ne-FRAMED c =
    has-none-wanted c.args.file.now c.args.m.now
    (ne_eqb c.args.file.now.major 51 c.if-file-ne-FRAMED.true)

pub returns-in-Some : goal.returns-in-Some
returns-in-Some c =
    IfOk-weaker c.gives_frames.result _ _
    (λ b. has-given c.args.file.now c.args.m.now
    (eq-eqb c.args.file.now.major 51 c.if-file-ne-FRAMED.false) c.in-Some.code c.in-Some.is b)
    c.gives_frames.ensures

pub returns-in-None : goal.returns-in-None
returns-in-None c =
    has-none-native c.args.file.now c.args.m.now
    (eq-eqb c.args.file.now.major 51 c.if-file-ne-FRAMED.false) c.in-None.is
