-- What an instruction without an index asks and leaves, whatever indices are.
use Rattle.std.proofs.Common.{◌≡◌, ℕ, false, [], Option, Result, Ok, Err, refl, ◌∙◌}
use Rattle.std.specs.Prelude.{IfOk}
use Rattle.par_base.specs.declared.memory.NoMemory.{NoMemory}
use Rattle.par_instr.specs.declared.instr.Instr.{Instr}
use Rattle.par_instr.specs.declared.instr.Instr.TheVariants as instr
use Rattle.par_values.specs.declared.kind.Kind.{Kind}
use Rattle.par_values.specs.declared.link.Link.TheVariants as link
use Rattle.par_values.specs.Operations.{operation}
use Rattle.par_link.specs.entry.Named.TheVariants as named
use Rattle.par_frame_steps.specs.par_kinds.Linked.{acted}
use Rattle.par_frame_steps.specs.par_kinds.Shapes as shapes
use Rattle.par_frame_steps.specs.par_kinds.Shapes.{Shape}
use Rattle.par_frame_steps.specs.declared.act.Act.{Act}
use Rattle.par_frame_steps.specs.Marks.{act_of}
use Rattle.par_frame_acts.specs.Indexed.{is_indexed}

plain : (gives : Option Kind) (indices : ℕ → Shape) (i : Instr) → is_indexed i ≡ false
    → acted [] gives named.Nothing (operation (λ n. link.Other) i) ≡ shapes.act_of gives indices i
plain gives indices (instr.Ldc n) e = absurd (cc e)
plain gives indices (instr.LdcW n) e = absurd (cc e)
plain gives indices (instr.Getstatic n) e = absurd (cc e)
plain gives indices (instr.Putstatic n) e = absurd (cc e)
plain gives indices (instr.Getfield n) e = absurd (cc e)
plain gives indices (instr.Putfield n) e = absurd (cc e)
plain gives indices (instr.Invokestatic n) e = absurd (cc e)
plain gives indices (instr.Invokespecial n) e = absurd (cc e)
plain gives indices (instr.Invokevirtual n) e = absurd (cc e)
plain gives indices (instr.New n) e = absurd (cc e)
plain gives indices i e = refl

-- what works on the frame alone
pub plain-made : (r : Result Act NoMemory) (gives : Option Kind) (i : Instr)
    → is_indexed i ≡ false
    → IfOk r (λ m. (g : Option Kind) → act_of m
    ≡ acted [] g named.Nothing (operation (λ n. link.Other) i))
    → IfOk r (λ m. (indices : ℕ → Shape) → act_of m ≡ shapes.act_of gives indices i)
plain-made (Ok m) gives i e made = λ indices. made gives ∙ plain gives indices i e
plain-made (Err x) gives i e made = tt

-- at some indices
pub made-at : (r : Result Act NoMemory) (gives : Option Kind) (i : Instr) (indices : ℕ → Shape)
    → IfOk r (λ m. (others : ℕ → Shape) → act_of m ≡ shapes.act_of gives others i)
    → IfOk r (λ m. act_of m ≡ shapes.act_of gives indices i)
made-at (Ok m) gives i indices made = made indices
made-at (Err x) gives i indices made = tt
