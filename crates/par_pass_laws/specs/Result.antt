-- What the rounds leave: the facts of a pass that raises no head, over heads that are low.
use Rattle.std.specs.Prelude.{◌≡◌, ◌↔◌, ℕ, List}
use Rattle.par_except.specs.par_typed.Plain.{Body}
use Rattle.par_except.specs.par_program_laws.Lattice.{Lattice, numbers}
use Rattle.par_except.specs.par_program_laws.Kinds.{Kind}
use Rattle.par_except.specs.par_program_laws.Facts.{Fact, Facts}
use Rattle.par_except.specs.par_program_laws.Declares.{Declares}
use Rattle.par_except.specs.par_program_laws.Body.{sta}
use Rattle.par_except.specs.par_program_laws.Closed.{IsClosed, IsThere, IsReached, IsPossible}
use Rattle.par_except.specs.par_program_laws.Closed.{first}
use Rattle.par_pass_laws.specs.Low.{Stands, IsLow}
use Rattle.par_pass_laws.specs.Pass.{HeadWays, pass}
use Rattle.par_pass_laws.specs.Written.{blanks, written, AllFit}

-- at or below every closed assignment over the lattice
abbrev pub AreLeast : (Q : Lattice) → Stands Q → Declares → Body → Facts numbers → Type 0
AreLeast Q S declared b f =
    (a : Facts Q) → IsClosed Q declared b a → (point : ℕ) → IsLow Q S (f point) (a point)

pub record IsSettled (declared : Declares) (b : Body) (h : HeadWays) (points : ℕ)
    (t : List (Fact numbers)) : Type 0 where
  pub fits : AllFit h (pass h (sta declared b.body)
      (first numbers (declared.method b.class b.method))).events
  pub facts : t ≡ written (pass h (sta declared b.body)
      (first numbers (declared.method b.class b.method))).events (blanks points)

-- exactly the points that are reached have an entering way, and exactly the possible completions a
-- way
pub record AreExact (declared : Declares) (b : Body) (f : Facts numbers) : Type 0 where
  pub entries : (p : ℕ) → IsThere numbers (f p).entry ↔ IsReached numbers declared b p
  pub exits : (p : ℕ) (k : Kind)
      → IsThere numbers ((f p).exit k) ↔ IsPossible numbers declared b p k
