-- Instructions that name nothing.
use Rattle.std.proofs.Common.{◌≡◌, ℕ, pos, ◌+ℤ◌, Bool, true, false, List, None, is_none, refl, sym}
use Rattle.std.proofs.Common.{ap, ◌∙◌}
use Rattle.std.proofs.lemmas.Bool.{false≢true}
use Rattle.par_instr.specs.declared.instr.Instr.{Instr}
use Rattle.par_instr.specs.declared.instr.Instr.TheVariants as instr
use Rattle.par_class.specs.declared.file.ClassFile.{ClassFile}
use Rattle.par_values.specs.declared.link.Link.{Link}
use Rattle.par_values.specs.Operations.{operation}
use Rattle.par_method_area.specs.par_step_laws.Links.{link_at}
use Rattle.par_method_area.specs.par_step_laws.Step.{called_on_object}
use Rattle.par_method_area.specs.par_step_laws.Classes.{class_names}
use Rattle.par_method_area.specs.par_step_laws.Methods.{method_descriptor}
use Rattle.par_single.specs.Links.{kind_or_any, signature_said}
use Rattle.par_single.specs.Walk.{stands_at}
use Rattle.par_stack.specs.declared.point.Point.{Point}
use Rattle.par_stack.specs.Frames.{running}
use Rattle.par_method_area.specs.par_actions.Done.{distance}
use Rattle.par_method_area.specs.par_actions.Leaving.{HasResult}
use Rattle.par_method_area.specs.par_actions.declared.departures.Gives.{Gives}
use Rattle.par_method_area.specs.Known.{GivesAsSaid, signature_at}
use Rattle.par_machine.specs.Frames.{code_of}
use Rattle.par_starts.specs.Standing.{reach_of}
use Rattle.par_machine.specs.Instructions.{is_work, is_branch, is_departure}
use Rattle.par_machine.specs.Running.{here}
use Rattle.par_machine.specs.Site.{operation_at, spot_of}
use Rattle.par_machine.specs.declared.run.Running.{Running}
use Rattle.par_machine.specs.declared.site.Site.{Site}
use Rattle.par_machine.proofs.Knowing.{is_write}
use Rattle.par_machine.proofs.Standing.{may_put, distance_is}

-- an instruction that writes no field and calls on no object
pub record IsOwn (names : ℕ → Link) (i : Instr) : Type 0 where
  pub unput : may_put i ≡ false
  pub uncalled : called_on_object i ≡ None
  pub unwritten : is_write (operation names i) ≡ false

-- work on the frame is its own
pub work_own : (names : ℕ → Link) (i : Instr) → is_work i ≡ true → IsOwn names i
work_own names (instr.Ldc n) is = absurd (false≢true is)
work_own names (instr.LdcW n) is = absurd (false≢true is)
work_own names (instr.Getstatic n) is = absurd (false≢true is)
work_own names (instr.Putstatic n) is = absurd (false≢true is)
work_own names (instr.Getfield n) is = absurd (false≢true is)
work_own names (instr.Putfield n) is = absurd (false≢true is)
work_own names (instr.Invokevirtual n) is = absurd (false≢true is)
work_own names (instr.Invokespecial n) is = absurd (false≢true is)
work_own names (instr.Invokestatic n) is = absurd (false≢true is)
work_own names (instr.New n) is = absurd (false≢true is)
work_own names _ is = record { unput = refl; uncalled = refl; unwritten = refl }

-- a branch is
pub branch_own : (names : ℕ → Link) (i : Instr) → is_branch i ≡ true → IsOwn names i
branch_own names (instr.If test to) is = record { unput = refl; uncalled = refl; unwritten = refl }
branch_own names (instr.IfIcmp test to) is = record
    { unput = refl; uncalled = refl; unwritten = refl }
branch_own names (instr.IfAcmpeq to) is = record { unput = refl; uncalled = refl; unwritten = refl }
branch_own names (instr.IfAcmpne to) is = record { unput = refl; uncalled = refl; unwritten = refl }
branch_own names (instr.Goto to) is = record { unput = refl; uncalled = refl; unwritten = refl }
branch_own names (instr.Ifnull to) is = record { unput = refl; uncalled = refl; unwritten = refl }
branch_own names (instr.Ifnonnull to) is = record
    { unput = refl; uncalled = refl; unwritten = refl }
branch_own names _ is = absurd (false≢true is)

-- and so is a departure
pub departure_own : (names : ℕ → Link) (i : Instr) → is_departure i ≡ true → IsOwn names i
departure_own names instr.Ireturn is = record { unput = refl; uncalled = refl; unwritten = refl }
departure_own names instr.Areturn is = record { unput = refl; uncalled = refl; unwritten = refl }
departure_own names instr.Return is = record { unput = refl; uncalled = refl; unwritten = refl }
departure_own names instr.Athrow is = record { unput = refl; uncalled = refl; unwritten = refl }
departure_own names _ is = absurd (false≢true is)

-- work is no branch
pub work_unbranched : (i : Instr) → is_work i ≡ true → is_branch i ≡ false
work_unbranched (instr.If test to) is = absurd (false≢true is)
work_unbranched (instr.IfIcmp test to) is = absurd (false≢true is)
work_unbranched (instr.IfAcmpeq to) is = absurd (false≢true is)
work_unbranched (instr.IfAcmpne to) is = absurd (false≢true is)
work_unbranched (instr.Goto to) is = absurd (false≢true is)
work_unbranched (instr.Ifnull to) is = absurd (false≢true is)
work_unbranched (instr.Ifnonnull to) is = absurd (false≢true is)
work_unbranched _ is = refl

-- the way at the distance of an instruction, from its point
pub aside_is : (files : List ClassFile) (old : Running) (s : Site) (aside : Bool)
    → (running old.stack).point ≡ s.point
    → aside ≡ stands_at (code_of files s.point).code (pos s.point.at +ℤ reach_of s.instr)
    → stands_at (code_of files (running old.stack).point).code
    (pos (running old.stack).point.at +ℤ distance (operation_at files old s)) ≡ aside
aside_is files old s aside point is =
    ap (λ d. stands_at (code_of files (running old.stack).point).code
    (pos (running old.stack).point.at +ℤ d)) (distance_is (link_at files (here old).class) s.instr)
    ∙ ap (λ (p : Point). stands_at (code_of files p).code (pos p.at +ℤ reach_of s.instr)) point
    ∙ sym is

-- what the method at a point gives
pub has_result : (files : List ClassFile) (old : Running) (s : Site) (gives : Gives)
    → (running old.stack).point ≡ s.point
    → GivesAsSaid (class_names files) (signature_at files s.point.class s.point.method) gives
    → HasResult (class_names files) (spot_of files old s) gives
has_result files old s gives point said =
    said (spot_of files old s)
    (ap (λ (p : Point). is_none (signature_said (method_descriptor files p.class p.method)).gives)
    point)
    (ap (λ (p : Point). kind_or_any (signature_said
    (method_descriptor files p.class p.method)).gives) point)
