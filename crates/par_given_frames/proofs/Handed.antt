-- What is handed on of what was read.
use Rattle.std.proofs.Common.{◌≡◌, ◌↔◌, ℕ, Bool, true, false, Option, Some, refl}
use Rattle.std.specs.Prelude.{slice_get, Result, Ok, Err, IfOk, IfSome, MatchResult}
use Rattle.par_class.specs.declared.file.MethodFile.{MethodFile}
use Rattle.par_class.specs.declared.file.ClassFile.{ClassFile}
use Rattle.par_kinds.specs.declared.frame.MethodFrames.{MethodFrames}
use Rattle.par_frames.specs.Broken.{AreFrames}
use Rattle.par_given_frames.specs.declared.error.Unread.{Unread}
use Rattle.par_given_frames.specs.declared.error.Unread.TheVariants.{Refused, Memory}
use Rattle.par_given_frames.specs.Reads.{Gives, read_or}
use Rattle.par_given_frames.specs.Answers.{Tells, AnswersFor, FramesOf, told_as}
use Rattle.par_given_frames.proofs.Firsts.{AreFramedBelow, broken_here}

-- what holds of what was read, and of what stands for what was refused
pub either : {T : Type 0} (P : T → Type 0) (read : Result T Unread) (otherwise : T)
    → IfOk read P → P otherwise → IfOk (read_or read otherwise) P
either P (Ok x) otherwise of_read of_other = of_read
either P (Err Refused) otherwise of_read of_other = of_other
either P (Err Memory) otherwise of_read of_other = tt

-- what reading gives, where it gives something
pub given : {T : Type 0} (read : Result T Unread) (otherwise : T) (gives : Option T)
    → Gives (λ x. x) read gives
    → IfOk (read_or read otherwise) (λ x. IfSome gives (λ y. x ≡ y))
given (Ok x) otherwise gives some = rw some refl
given (Err Refused) otherwise gives none = rw none tt
given (Err Memory) otherwise gives wanting = tt

-- where reading is refused, the fact does not hold
pub decided : (Fact : Type 0) (read : Result Bool Unread) → Tells Fact read
    → IfOk (read_or read false) (λ b. (b ≡ true) ↔ Fact)
decided Fact (Ok b) tells = tells
decided Fact (Err Refused) refused = (λ t. absurd (cc t), λ fact. absurd (refused fact))
decided Fact (Err Memory) wanting = tt

-- what is told of the method at a place, where all before it have frames
pub told : (file : ClassFile) (place : ℕ) (m : MethodFile) (read : Result MethodFrames Unread)
    → AreFramedBelow file place → slice_get file.methods place ≡ Some m → AnswersFor file m read
    → MatchResult (told_as place read) (AreFrames file m) (λ e. FramesOf file (Err e))
told file place m (Ok fs) before there are = are
told file place m (Err Refused) before there none = broken_here file place m before there none
told file place m (Err Memory) before there wanting = tt
