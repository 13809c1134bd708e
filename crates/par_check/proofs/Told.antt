-- Broken rules noted one after the other.
use Rattle.std.proofs.Common.{◌≡◌, ◌↔◌, ℕ, suc, ◌+◌, ◌<◌, ◌≤◌, Bool, not, Option, List, [], ◌∷◌}
use Rattle.std.proofs.Common.{◌++◌}
use Rattle.std.proofs.Common.{length, get_or, drop, refl, sym, ap, subst, ◌∙◌}
use Rattle.std.specs.Prelude.{IsTrue, map}
use Rattle.par_typed.specs.declared.table.Table.{Table}
use Rattle.par_typed.specs.declared.program.TBody.{TBody}
use Rattle.par_refusals.specs.declared.refusal.Refusal.{Refusal}
use Rattle.par_refusals.specs.First.{when, broken, first_of}
use Rattle.par_typed.specs.Plain.{Body}
use Rattle.par_typed.specs.Shown.{body, bodies}
use Rattle.par_refusals.proofs.First.{first_of_append, first_of_none}
use Rattle.par_asked.specs.par_program_laws.Lattice.{numbers}
use Rattle.par_asked.specs.par_program_laws.Facts.{Facts}
use Rattle.par_asked.specs.par_check_laws.Asked.{Check}
use Rattle.par_asked.specs.par_check_laws.Checks.{checks}
use Rattle.par_asked.specs.par_check_laws.Verdict.{KeepsNumbered}
use Rattle.par_asked.specs.declared.check.Check as code
use Rattle.par_asked.specs.Seen.{seen_check, seen_checks}
use Rattle.par_asked.proofs.Left.{left_more, left_none}
use Rattle.par_asked.specs.par_check_laws.Right.{AreAllRight}
use Rattle.par_check.specs.Told.{AreBroken, AreAllBroken, HasTold, HaveTold}

-- what is noted of a list
pub record Noted (Told : List Refusal → Type 0) (old now : Option Refusal) : Type 0 where
  pub told : List Refusal
  pub are : Told told
  pub is : now ≡ first_of old told

-- what was noted so far and the broken rules of those that are left are those of all
abbrev pub Goes : (List Refusal → Type 0) → (List Refusal → Type 0) → Option Refusal
    → Option Refusal → Type 0
Goes All Left old now = (rest : List Refusal) → Left rest → Noted All old (first_of now rest)

pub starts : (All : List Refusal → Type 0) (o : Option Refusal) → Goes All All o o
starts All o rest h = record { told = rest; are = h; is = refl }

-- one rule more
pub goes_on : (All : List Refusal → Type 0) (Keeps : Check → Type 0) (c : Check) (cs : List Check)
    (kept : Bool) (old now new : Option Refusal)
    → (IsTrue kept ↔ Keeps c) → new ≡ first_of now (when (not kept) (broken c.rule c.at))
    → Goes All (AreBroken Keeps (c ∷ cs)) old now → Goes All (AreBroken Keeps cs) old new
unfolding AreBroken
goes_on All Keeps c cs kept old now new decides e goes rest h =
    let told = when (not kept) (broken c.rule c.at) ++ rest in
    let noted = goes told (kept, decides, (rest, h, refl)) in
    subst (Noted All old)
    (first_of_append now (when (not kept) (broken c.rule c.at)) rest
    ∙ ap (λ o. first_of o rest) (sym e)) noted

-- none is left
pub ends : (All : List Refusal → Type 0) (Keeps : Check → Type 0) (old now : Option Refusal)
    → Goes All (AreBroken Keeps []) old now → Noted All old now
unfolding AreBroken
ends All Keeps old now goes = subst (Noted All old) (first_of_none now) (goes [] refl)

pub ends_all : (All : List Refusal → Type 0) (table : Table) (fs : List (Facts numbers))
    (old now : Option Refusal) → Goes All (AreAllBroken table [] fs) old now → Noted All old now
unfolding AreAllBroken
ends_all All table fs old now goes = subst (Noted All old) (first_of_none now) (goes [] refl)

-- one body more
pub goes_on_all : (All : List Refusal → Type 0) (table : Table) (b : Body) (bs : List Body)
    (f : Facts numbers) (fs : List (Facts numbers)) (old now new : Option Refusal)
    → Noted (AreBroken (KeepsNumbered table f) (checks table b)) now new
    → Goes All (AreAllBroken table (b ∷ bs) (f ∷ fs)) old now
    → Goes All (AreAllBroken table bs fs) old new
unfolding AreAllBroken
goes_on_all All table b bs f fs old now new own goes rest h =
    let noted = goes (own.told ++ rest) (own.told, own.are, (rest, h, refl)) in
    subst (Noted All old)
    (first_of_append now own.told rest ∙ ap (λ o. first_of o rest) (sym own.is)) noted

-- what is left of a list of rules
pub checks_left : (cs : List code.Check) (i : ℕ) (c : code.Check) → i < length cs
    → c ≡ get_or cs i c
    → seen_checks (drop i cs) ≡ seen_check c ∷ seen_checks (drop (i + 1) cs)
unfolding seen_checks
checks_left cs i c lt is = ap seen_checks (left_more cs i c lt is)

pub no_checks_left : (cs : List code.Check) (i : ℕ) → length cs ≤ i → seen_checks (drop i cs) ≡ []
unfolding seen_checks
no_checks_left cs i le = ap seen_checks (left_none cs i le)

-- and of bodies
pub bodies_left : (bs : List TBody) (i : ℕ) (b : TBody) → i < length bs → b ≡ get_or bs i b
    → bodies (drop i bs) ≡ body b ∷ bodies (drop (i + 1) bs)
bodies_left bs i b lt is = ap bodies (left_more bs i b lt is)

pub no_bodies_left : (bs : List TBody) (i : ℕ) → length bs ≤ i → bodies (drop i bs) ≡ []
no_bodies_left bs i le = ap bodies (left_none bs i le)

pub facts_left : {F : Type 0} (facts : F → Facts numbers) (fs : List F) (i : ℕ) (f : F)
    → i < length fs → f ≡ get_or fs i f
    → map facts (drop i fs) ≡ facts f ∷ map facts (drop (i + 1) fs)
facts_left facts fs i f lt is = ap (map facts) (left_more fs i f lt is)

-- with facts of the bodies that are left, and what is broken of them, all is told
abbrev pub Tells : Table → List Body → List Body → Option Refusal → Option Refusal → Type 0
Tells table all left old now =
    (fs : List (Facts numbers)) (rest : List Refusal) → length fs ≡ length left
    → AreAllRight table left fs → AreAllBroken table left fs rest
    → HaveTold table all old (first_of now rest)

pub tells_first : (table : Table) (bs : List Body) (o : Option Refusal) → Tells table bs bs o o
tells_first table bs o fs rest many right broken =
    record { facts = fs; many = many; right = right; told = rest; are = broken; is = refl }

-- one body more
pub tells_on : (table : Table) (all : List Body) (b : Body) (bs : List Body)
    (old now new : Option Refusal) → HasTold table b now new
    → Tells table all (b ∷ bs) old now → Tells table all bs old new
unfolding AreAllBroken
tells_on table all b bs old now new own tells fs rest many right broken =
    let told = tells (own.facts ∷ fs) (own.told ++ rest) (ap suc many) (own.right, right)
    (own.told, own.are, (rest, broken, refl)) in
    subst (HaveTold table all old)
    (first_of_append now own.told rest ∙ ap (λ o. first_of o rest) (sym own.is)) told

-- none is left
pub tells_all : (table : Table) (all : List Body) (old now : Option Refusal)
    → Tells table all [] old now → HaveTold table all old now
unfolding AreAllBroken
tells_all table all old now tells =
    subst (HaveTold table all old) (first_of_none now) (tells [] [] refl tt refl)
