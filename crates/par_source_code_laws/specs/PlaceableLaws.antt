-- What holds of the labelled code of well-typed bodies, whatever names stand for numbers.
use Rattle.std.specs.Prelude.{◌≡◌, ℕ, ◌≤◌, ◌*◌, List, length, Some}
use Rattle.std.specs.List.{AllByRecursion}
use Rattle.par_typed.specs.declared.table.MethodInfo.{MethodInfo}
use Rattle.par_typed.specs.declared.table.Table.{Table}
use Rattle.par_typed.specs.Plain.{Body}
use Rattle.par_typed.specs.Members.{method_at}
use Rattle.par_code_form.specs.declared.labelled.Labelled.{Labelled}
use Rattle.par_code_form.specs.Code.{Words}
use Rattle.par_code_form.specs.Method.{labelled}
use Rattle.par_code_form.specs.Named.{words_of}
use Rattle.par_erase.specs.Asked.{Locks}
use Rattle.par_erase.specs.Erased.{erased_table, erased_method, erased_sta}
use Rattle.par_erase.specs.Named.{AreNamed}
use Rattle.par_code_form.specs.PoolNames.{entry_count}
use Rattle.par_code_form.specs.Placeable.{IsPlaceable}
use Rattle.par_code_form.specs.PlaceableFrames.{AreFramesPlaceable}
use Rattle.par_typed_laws.specs.Sizes.{stmt_size}
use Rattle.par_typed_laws.specs.WellTyped.{IsWellTyped}
use Rattle.par_source_code_laws.specs.Texts.{AreTexts}
use Rattle.par_typed_laws.specs.Limits.{HasFewParams}
use Rattle.par_source_code_laws.specs.Slots.{IsOfClasses}

-- The code can be placed, with its frames and without, and needs at most eight entries of a pool
-- for each of so many nodes.
pub record IsReady (code : Labelled) (nodes : ℕ) : Type 0 where
  pub placeable : IsPlaceable code
  pub framed : AreFramesPlaceable code
  pub few : entry_count code ≤ 8 * nodes

-- the body without its policies, as the code of any method
abbrev pub IsReadyBody : Table → Words → Locks → MethodInfo → Body → Type 0
IsReadyBody t w asked m b = IsReady (labelled w m (erased_sta t asked b.body)) (stmt_size b.body)

abbrev pub LabelledCodeIsPlaceable : Type 0
LabelledCodeIsPlaceable =
    (t : Table) (bodies : List Body) → IsWellTyped t bodies → (w : Words) → AreTexts w
    → (asked : Locks) (m : MethodInfo) → AllByRecursion (IsReadyBody t w asked m) bodies

-- what a program without policies is called
abbrev pub WordsAreTexts : Type 0
WordsAreTexts =
    (t : Table) → AreNamed (erased_table t) → HasFewParams t → AreTexts (words_of (erased_table t))

-- the frames of its method name classes of the table alone
abbrev pub NamesClasses : Table → Words → Locks → Body → Type 0
NamesClasses t w asked b =
    (m : MethodInfo) → method_at t b.class b.method ≡ Some m
    → AllByRecursion (IsOfClasses w (length t.classes))
    (labelled w (erased_method m) (erased_sta t asked b.body)).frames

abbrev pub FramesNameClasses : Type 0
FramesNameClasses =
    (t : Table) (bodies : List Body) → IsWellTyped t bodies → (w : Words) (asked : Locks)
    → AllByRecursion (NamesClasses t w asked) bodies
