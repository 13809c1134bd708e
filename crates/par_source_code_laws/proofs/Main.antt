-- The method where a program begins is one of its erased program.
use Rattle.std.proofs.Common.{◌≡◌, ℕ, suc, Bool, true, false, cond, List, [], ◌∷◌, map, Option}
use Rattle.std.proofs.Common.{Some, None, refl, ap, ◌∙◌}
use Rattle.std.specs.Prelude.{if◌then◌else◌, slice_get, codes}
use Rattle.std.specs.Str.{bytes_eq}
use Rattle.std.specs.Option.{option_map}
use Rattle.std.proofs.lemmas.Option.{slice_get-map}
use Rattle.par_typed.specs.declared.ty.Ty.{Ty}
use Rattle.par_typed.specs.declared.ty.Ty.TheVariants as ty
use Rattle.par_typed.specs.declared.table.ClassInfo.{ClassInfo}
use Rattle.par_typed.specs.declared.table.MethodInfo.{MethodInfo}
use Rattle.par_typed.specs.declared.table.ParamInfo.{ParamInfo}
use Rattle.par_typed.specs.Members.{methods_in, method_at}
use Rattle.par_typed_laws.specs.Beginning.{mains}
use Rattle.par_evaluation_laws.specs.par_run_laws.Names.{place_of, main_in, main_of}
use Rattle.par_erase.specs.Erased.{erased_class, erased_method, erased_param, erased_table}
use Rattle.par_erase.specs.Erased.{erased_bodies}
use Rattle.par_source_code_laws.specs.Methods.{meth, meth_at}
use Rattle.par_source_code_laws.specs.Laws.{MainIsKept}
use Rattle.par_source_code_laws.proofs.Kept.{methods_are_kept}

abbrev name : List ℕ
name = codes "main"

-- the only method of a name stands at the place of that name
placed : (b : Bool) (m k : MethodInfo) (ms more : List MethodInfo) (place : ℕ)
    → (more ≡ m ∷ [] → slice_get ms place ≡ Some m) → cond b (k ∷ more) more ≡ m ∷ []
    → slice_get (k ∷ ms) (if b then 0 else suc place) ≡ Some m
placed true m k ms more place later h = cc
placed false m k ms more place later h = later h

main_placed : (ms : List MethodInfo) (m : MethodInfo) → mains ms ≡ m ∷ []
    → slice_get ms (place_of name ms) ≡ Some m
main_placed [] m h = absurd (cc)
main_placed (k ∷ ms) m h =
    placed (bytes_eq k.name name) m k ms (mains ms) (place_of name ms) (main_placed ms m) h

same_place : (ms : List MethodInfo) → place_of name (map erased_method ms) ≡ place_of name ms
same_place [] = refl
same_place (m ∷ ms) = ap (λ n. if bytes_eq m.name name then 0 else suc n) (same_place ms)

main_kept : (o : Option ClassInfo) → main_in (option_map erased_class o) ≡ main_in o
main_kept None = refl
main_kept (Some class) = same_place class.methods

main_at : (o : Option ClassInfo) (m : MethodInfo) → mains (methods_in o) ≡ m ∷ []
    → slice_get (methods_in o) (main_in o) ≡ Some m
main_at None m h = absurd (cc)
main_at (Some class) m h = main_placed class.methods m h

nothing_given : (c : ℕ) (is_static : Bool) (us : List Ty) → is_static ≡ true → us ≡ []
    → (if is_static then us else ty.Class c ∷ us) ≡ []
nothing_given c true us is none = none
nothing_given c false us is none = absurd (cc)

pub main_is_kept : MainIsKept
main_is_kept t bodies (m, h) =
    let there : method_at t t.main (main_of t) ≡ Some m =
    main_at (slice_get t.classes t.main) m h.in_class in
    let same : main_of (erased_table t) ≡ main_of t =
    ap main_in (slice_get-map erased_class t.classes t.main)
    ∙ main_kept (slice_get t.classes t.main) in
    let kept = methods_are_kept t bodies t.main (main_of t) m there in (
      meth (erased_method m) kept.0,
      ap (meth_at (erased_table t) (erased_bodies t bodies) t.main) same ∙ kept.1,
      nothing_given t.main m.is_static (map (λ (p : ParamInfo). p.ty) (map erased_param m.params))
          h.is_static (ap (λ ps. map (λ (p : ParamInfo). p.ty) (map erased_param ps)) h.params),
      h.result,
    )
