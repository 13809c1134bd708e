-- What is said of the audits of sources.
use Rattle.std.specs.Prelude.{◌≡◌, ℕ, List, [], ◌∷◌, ◌++◌, length, map, Option, Some, None, codes}
use Rattle.std.specs.Fmt.{decimal}
use Rattle.std.specs.List.{position}
use Rattle.std.specs.Str.{bytes_eq}
use Rattle.par_io.specs.Causes.{FolderCounts, Files}
use Rattle.par_lexer.specs.Places.{line_at, column_at}
use Rattle.par_typed.specs.declared.table.Table.{Table}
use Rattle.par_typed.specs.declared.program.Typed.{Typed}
use Rattle.par_typed.specs.Shown.{bodies}
use Rattle.par_program_laws.specs.Lattice.{numbers}
use Rattle.par_program_laws.specs.Facts.{Facts}
use Rattle.par_check_laws.specs.Accepted.{IsAcceptedBy}
use Rattle.par_secrecy.specs.Subject.{Subject}
use Rattle.par_secrecy.specs.Target.{Target}
use Rattle.par_secrecy.specs.Shows.{Shows}
use Rattle.par_alike.specs.Subject.{subject}
use Rattle.par_audit.specs.declared.release.Release.{Release}
use Rattle.par_audit.specs.Release.{AreReleases, all_releases}
use Rattle.par_audit.specs.SecureFor.{SecureFor, SecureFilesFor}
use Rattle.par_tool.specs.declared.answer.Answer.{Answer}
use Rattle.par_tool.specs.declared.answer.Answer.TheVariants.{Refused, NoActor}
use Rattle.par_tool.specs.Outside.{Text}
use Rattle.par_tool.specs.Sources.{IsSecureAs, IsBroken, ReadSource, Rejected}

-- the number of the actor of a name, where it is declared
abbrev pub actor_of : Table → Text → Option ℕ
actor_of table name = position (λ actor. bytes_eq actor name) table.actors

-- ---- the lines

-- the rule that a release is listed under, and a line and a column
abbrev pub told_at : (rule line column : ℕ) → Text
told_at rule line column =
    codes "release " ++ (decimal rule ++ (codes " at " ++ (decimal line
    ++ (codes ":" ++ (decimal column ++ codes "\n")))))

-- the same at its place
abbrev pub release_text : (source : Text) → Release → Text
release_text source r = told_at r.rule (line_at source r.at) (column_at source r.at)

-- the number of releases
abbrev pub audited_text : ℕ → Text
audited_text number = codes "audited " ++ (decimal number ++ codes "\n")

abbrev pub audit_lines : (source : Text) → List Release → List Text
audit_lines source found =
    map (release_text source) found ++ audited_text (length found) ∷ []

-- ---- what they say

-- Whichever locks are open, the actor is shown the same; and so it is by all files that show the
-- program.
pub record IsSecureFor (subject : Subject) (actor : ℕ) : Type 0 where
  pub program : SecureFor subject actor
  pub files : (target : Target) → Shows target subject → SecureFilesFor target subject actor

-- These are the lines of the releases of an accepted source for an actor, by the facts that the
-- judgement found; where there is none, the program is secure for the actor.
pub record IsAuditedAs (source actor : Text) (lines : List Text) : Type 0 where
  pub typed : Typed
  pub facts : List (Facts numbers)
  pub number : ℕ
  pub found : List Release
  pub accepted : IsSecureAs source typed
  pub kept : IsAcceptedBy typed facts
  pub declared : actor_of typed.table actor ≡ Some number
  pub releases : AreReleases (all_releases typed.table number (bodies typed.bodies) facts) found
  pub lines_are : lines ≡ audit_lines source found
  pub promise : found ≡ [] → IsSecureFor (subject typed) number

-- the source is accepted, and declares no such actor
pub record LacksActor (source actor : Text) : Type 0 where
  pub typed : Typed
  pub accepted : IsSecureAs source typed
  pub undeclared : actor_of typed.table actor ≡ None

-- what is said of a source that is not audited
abbrev pub IsUnaudited : (source actor : Text) → Answer → Type 0
IsUnaudited source actor (Refused rule line column limit count) =
    IsBroken source rule line column limit count
IsUnaudited source actor NoActor = LacksActor source actor
IsUnaudited source actor _ = ⊥

-- the source in a file was read, and these are the lines of its audit
abbrev pub IsAuditOf : Option Files → (actor file : Text) → List Text → Type 0
IsAuditOf files actor file lines = ReadSource files file (λ source. IsAuditedAs source actor lines)

-- Why a source in a file is not audited.
module _ (files : Option Files) (before after : FolderCounts) (actor file : Text) where
  abbrev pub Unaudited : Answer → Type 0
  Unaudited NoActor = ReadSource files file (λ source. LacksActor source actor)
  Unaudited answer = Rejected files before after file answer
