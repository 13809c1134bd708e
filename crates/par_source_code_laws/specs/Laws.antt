-- The code of a well-typed program is code of typed bodies.
use Rattle.std.specs.Prelude.{◌≡◌, ℕ, Bool, List, [], map, Some}
use Rattle.std.specs.List.{AllByRecursion}
use Rattle.par_typed.specs.declared.ty.Ty.TheVariants as ty
use Rattle.par_typed.specs.declared.table.MethodInfo.{MethodInfo}
use Rattle.par_typed.specs.declared.table.Table.{Table}
use Rattle.par_typed.specs.Plain.{TSta, Body}
use Rattle.par_typed.specs.Members.{method_at}
use Rattle.par_typed_laws.specs.par_program_laws.Proper.{IsProper}
use Rattle.par_typed_laws.specs.par_completes.Typed.{completes}
use Rattle.par_erase.specs.Asked.{Locks, asked_in}
use Rattle.par_erase.specs.Erased.{erased_table, erased_method, erased_sta, erased_bodies}
use Rattle.par_typed_laws.specs.Bodied.{AreBodiesOf}
use Rattle.par_typed_laws.specs.Beginning.{HasMain}
use Rattle.par_evaluation_laws.specs.par_run_laws.Names.{main_of}
use Rattle.par_values.specs.Areas.{Name}
use Rattle.par_evaluation_laws.specs.par_code_form.Code.{Words, body_code, body_handlers}
use Rattle.par_evaluation_laws.specs.par_match_laws.Labelled.{Labelled}
use Rattle.par_evaluation_laws.specs.Laid.{Layout, Meth, given_types}
use Rattle.par_evaluation_laws.specs.Programs.{Coded}
use Rattle.par_source_code_laws.specs.Named.{EachInSta}
use Rattle.par_source_code_laws.specs.Items.{ItemPasses, HandlerPasses, NamedPasses, LockPasses}
use Rattle.par_source_code_laws.specs.Items.{ItemLockPasses}
use Rattle.par_source_code_laws.specs.Methods.{meth, meth_at, IsLaid, IsCodeOf}

-- the body of a method, without what goes when a program is erased
abbrev pub erased_body : Table → Locks → Body → Body
erased_body t asked b =
    record { class = b.class; method = b.method; body = erased_sta t asked b.body }

-- where the bodies stand in the order of the methods, so do the erased ones
abbrev pub BodiesAreErased : Type 0
BodiesAreErased =
    (t : Table) (bodies : List Body) → AreBodiesOf t bodies
    → erased_bodies t bodies ≡ map (erased_body t (asked_in bodies)) bodies

-- control comes behind an erased statement where it comes behind its source
abbrev pub ErasedBodiesComplete : Type 0
ErasedBodiesComplete =
    (t : Table) (asked : Locks) (s : TSta) → completes (erased_sta t asked s) ≡ completes s

-- each method of the table is one of the erased program, with a body
abbrev pub MethodsAreKept : Type 0
MethodsAreKept =
    (t : Table) (bodies : List Body) (c i : ℕ) (m : MethodInfo) → method_at t c i ≡ Some m
    → (s : TSta)
    × (meth_at (erased_table t) (erased_bodies t bodies) c i ≡ Some (meth (erased_method m) s))

-- the method where the program begins is one of the erased program: it takes and gives nothing
abbrev pub MainIsKept : Type 0
MainIsKept =
    (t : Table) (bodies : List Body) → HasMain t
    → (me : Meth)
    × (meth_at (erased_table t) (erased_bodies t bodies) t.main (main_of (erased_table t))
    ≡ Some me)
    × (given_types t.main me ≡ []) × (me.result ≡ ty.Void)

-- The code of a method of a well-typed program is what a run asks of it, wherever a layout says of
-- what the body names what the program does. The names are of no matter.
abbrev pub WellTypedBodiesAreCoded : Type 0
WellTypedBodiesAreCoded =
    (t : Table) (bodies : List Body) → AreBodiesOf t bodies → AllByRecursion (IsProper t) bodies
    → (labelled : ℕ → ℕ → Labelled) (w : Words) (lay : Layout) (c i : ℕ) (me : Meth)
    → meth_at (erased_table t) (erased_bodies t bodies) c i ≡ Some me
    → IsCodeOf (labelled (lay.number c) (lay.method_at c i)) w me
    → EachInSta (IsLaid lay (erased_table t) (erased_bodies t bodies)) me.body
    → Coded labelled w lay (erased_bodies t bodies) c i me

-- The classes and locks that a body names are named by its code: where those pass a test, so do
-- these.
abbrev pub CodeNamesEach : Type 0
CodeNamesEach =
    (test : Name → Bool) (locks : ℕ → Bool) (w : Words) (s : TSta)
    → AllByRecursion (ItemPasses test locks) (body_code w s)
    → AllByRecursion (HandlerPasses test) (body_handlers w s)
    → EachInSta (NamedPasses test locks w) s

-- Each lock that a body of the erased program opens, closes or asks for is one that some `when` of
-- its source asks for.
abbrev pub ErasedBodiesUseAskedLocks : Type 0
ErasedBodiesUseAskedLocks =
    (t : Table) (bodies : List Body) → AreBodiesOf t bodies
    → AllByRecursion (λ b. EachInSta (LockPasses (asked_in bodies)) b.body)
    (erased_bodies t bodies)

-- and code names the locks of its body alone
abbrev pub CodeUsesItsLocks : Type 0
CodeUsesItsLocks =
    (locks : ℕ → Bool) (w : Words) (s : TSta) → EachInSta (LockPasses locks) s
    → AllByRecursion (ItemLockPasses locks) (body_code w s)
