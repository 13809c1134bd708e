-- Where the methods have their bodies.
use Rattle.std.specs.Prelude.{◌≡◌, ℕ, List, map, Option, Some, None}
use Rattle.std.specs.Borrow.{Bor}
use Rattle.std.specs.List.{position}
use Rattle.std.specs.HashMap.{get}
use Rattle.par_index.specs.declared.firsts.Firsts.{Firsts}
use Rattle.par_typed.specs.declared.program.TBody.{TBody}
use Rattle.par_typed.specs.declared.program.Typed.{Typed}
use Rattle.par_typed.specs.declared.stmt.TStmt.{TStmt}
use Rattle.par_typed.specs.Plain.{TSta}
use Rattle.par_typed.specs.Shown.{does, bodies}
use Rattle.par_run_laws.specs.Names.{body_of, main_of}
use Rattle.par_source_state.specs.Held.{same_member}

-- the methods of bodies, each by its class and its number there
abbrev pub methods : List TBody → List (ℕ × ℕ)
methods all = map (λ body. (body.class, body.method)) all

-- Each method has its first body at this place.
abbrev pub ArePlaced : List TBody → Firsts (ℕ × ℕ) → Type 0
ArePlaced all firsts =
    (method : ℕ × ℕ) → get same_member firsts.places method
    ≡ position (same_member method) (methods all)

abbrev pub body_at : Option TBody → Option TSta
body_at None = None
body_at (Some body) = Some (does body.body)

abbrev pub body_shown : Option (Bor TStmt) → Option TSta
body_shown None = None
body_shown (Some body) = Some (does body.now)

-- the body of the method `main`
abbrev pub main_body : Typed → Option TSta
main_body typed = body_of (bodies typed.bodies) typed.table.main (main_of typed.table)
