-- The laws of two runs.
use Rattle.std.specs.Prelude.{List}
use Rattle.par_typed.specs.declared.program.Typed.{Typed}
use Rattle.par_typed.specs.Shown.{bodies}
use Rattle.par_program_laws.specs.Lattice.{numbers}
use Rattle.par_program_laws.specs.Facts.{Facts}
use Rattle.par_program_laws.specs.Births.{AreFieldsWritten}
use Rattle.par_program_laws.specs.WellDeclared.{IsWellDeclared}
use Rattle.par_typed_laws.specs.WellTyped.{IsWellTyped}
use Rattle.par_check_laws.specs.Accepted.{IsAcceptedBy}
use Rattle.par_secrecy.specs.Secure.{Secure}
use Rattle.par_alike.specs.Subject.{subject}
use Rattle.par_secure_laws.specs.Explained.{Explains, IsExplained}

-- A first difference of what an observer is shown of an accepted program is explained: where the
-- first k events that it is shown are equal and the next ones are not, the program has a node under
-- a rule on releases such that the observer sees the policy of the target and does not see the
-- value, and the locks of the node are open at both events.
abbrev pub DifferencesAreExplained : Type 0
DifferencesAreExplained =
    (typed : Typed) (fs : List (Facts numbers)) → IsWellTyped typed.table (bodies typed.bodies)
    → IsWellDeclared typed.table → AreFieldsWritten typed.table → IsAcceptedBy typed fs
    → IsExplained (subject typed) (Explains typed.table (bodies typed.bodies) fs)

-- An accepted program is secure.
abbrev pub AcceptedProgramsAreSecure : Type 0
AcceptedProgramsAreSecure =
    (typed : Typed) (fs : List (Facts numbers)) → IsWellTyped typed.table (bodies typed.bodies)
    → IsWellDeclared typed.table → AreFieldsWritten typed.table → IsAcceptedBy typed fs
    → Secure (subject typed)
