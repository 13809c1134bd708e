use Rattle.std.proofs.Common.{List, ℕ, Option, subst}
use Rattle.par_erase.specs.Shown.{class_info, table_of}
use Rattle.par_compile.specs.Own.{own_members}
use Rattle.par_compile.specs.Whole.{AreOwnBytes}
use Rattle.par_compile.proofs.Files.{is_compiled}
use Rattle.par_compile.proofs.program.compiled.Goals as goal

pub returns : goal.returns
returns c = λ number there. record {
  name = c.in_ok-copy.ensures;
  is = is_compiled c.args.plain.now c.args.class.now c.in-Some.bytes number there
      (subst (λ (made : Option (List ℕ)).
      AreOwnBytes (table_of c.args.plain.now) (class_info c.args.class.now)
      (own_members c.args.plain.now c.args.class.now) made)
      c.in-Some.is c.in_ok-bytes.ensures);
}
