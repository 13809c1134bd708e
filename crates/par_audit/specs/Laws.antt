-- The laws of releases.
use Rattle.std.specs.Prelude.{◌≡◌, ◌↔◌, ℕ, IsTrue, List, []}
use Rattle.par_policy.specs.declared.clauses.Clause.{Clause}
use Rattle.par_bits.specs.Sets.{Set}
use Rattle.par_typed.specs.declared.program.Typed.{Typed}
use Rattle.par_typed.specs.Shown.{bodies}
use Rattle.par_program_laws.specs.Lattice.{numbers}
use Rattle.par_program_laws.specs.Facts.{Facts}
use Rattle.par_program_laws.specs.Births.{AreFieldsWritten}
use Rattle.par_program_laws.specs.WellDeclared.{IsWellDeclared}
use Rattle.par_secure_laws.specs.par_typed_laws.WellTyped.{IsWellTyped}
use Rattle.par_check_laws.specs.Accepted.{IsAcceptedBy}
use Rattle.par_secrecy.specs.Subject.{Subject}
use Rattle.par_secrecy.specs.Target.{Target}
use Rattle.par_secrecy.specs.Shows.{Shows}
use Rattle.par_secrecy.specs.SecureFiles.{SecureFiles}
use Rattle.par_alike.specs.Subject.{subject}
use Rattle.par_audit.specs.Released.{IsReleased, is_released}
use Rattle.par_audit.specs.Release.{all_releases}
use Rattle.par_audit.specs.SecureFor.{SecureFor, SecureFilesFor}

-- the clauses of the actor tell whether something is a release for it
abbrev pub ClausesDecide : Type 0
ClausesDecide =
    (ps : List (List Clause)) (v : Set) (q : List Clause) (actor : ℕ)
    → IsTrue (is_released ps v q actor) ↔ IsReleased ps v q actor

-- where nothing of an accepted program is a release for the actor, it is secure for that actor,
-- whatever locks are open
abbrev pub NoReleaseIsSecure : Type 0
NoReleaseIsSecure =
    (typed : Typed) (fs : List (Facts numbers)) (actor : ℕ)
    → IsWellTyped typed.table (bodies typed.bodies) → IsWellDeclared typed.table
    → AreFieldsWritten typed.table → IsAcceptedBy typed fs
    → all_releases typed.table actor (bodies typed.bodies) fs ≡ []
    → SecureFor (subject typed) actor

-- and so are files that show the program
abbrev pub ShownFilesAreSecureFor : Type 0
ShownFilesAreSecureFor =
    (target : Target) (subject : Subject) (actor : ℕ) → Shows target subject
    → SecureFiles target subject → SecureFor subject actor → SecureFilesFor target subject actor
