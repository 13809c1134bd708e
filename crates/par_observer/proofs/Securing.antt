-- What is accepted is secure.
use Rattle.std.proofs.Common.{List, Result, Ok, Err}
use Rattle.std.specs.Result.{IfOk}
use Rattle.par_typed.specs.declared.program.Typed.{Typed}
use Rattle.par_program_laws.specs.Lattice.{numbers}
use Rattle.par_program_laws.specs.Facts.{Facts}
use Rattle.par_check_laws.specs.Accepted.{IsAcceptedBy}
use Rattle.par_secrecy.specs.Secure.{Secure}
use Rattle.par_alike.specs.Subject.{subject}
use Rattle.par_secure_laws.proofs.Secure.{accepted_is_secure}
use Rattle.par_observer.specs.declared.error.JudgeError.{JudgeError}
use Rattle.par_observer.specs.Trees.{IsKeptBySome, IsWellFormed}

pub secures : {A : Type 0} (of : A → Typed) (facts : A → List (Facts numbers))
    (r : Result A JudgeError) → IfOk r (λ a. IsWellFormed (of a))
    → IfOk r (λ a. IsAcceptedBy (of a) (facts a)) → IfOk r (λ a. Secure (subject (of a)))
secures of facts (Ok a) formed kept =
    accepted_is_secure (of a) (facts a) formed.typed_well formed.declared_well formed.written kept
secures of facts (Err e) formed kept = tt

-- a program for whose bodies there are some facts
pub some_secure : (r : Result Typed JudgeError) → IfOk r IsWellFormed → IfOk r IsKeptBySome
    → IfOk r (λ typed. Secure (subject typed))
some_secure (Ok typed) formed kept =
    accepted_is_secure typed kept.0 formed.typed_well formed.declared_well formed.written kept.1
some_secure (Err e) formed kept = tt
