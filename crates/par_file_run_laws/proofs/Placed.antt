-- The code of each method of loaded files stands there as its labelled code.
use Rattle.std.proofs.Common.{◌≡◌, ℕ, zero, suc, List, [], ◌∷◌, Option, Some, None, slice_get, refl}
use Rattle.std.proofs.Common.{sym, subst}
use Rattle.std.specs.List.{AllZip}
use Rattle.par_typed.specs.declared.table.Table.{Table}
use Rattle.par_typed.specs.Plain.{Body}
use Rattle.par_pool.specs.declared.constant.Constant.{Constant}
use Rattle.par_class.specs.declared.file.ClassFile.{ClassFile}
use Rattle.par_class.specs.declared.file.CodeAttr.{CodeAttr}
use Rattle.par_class.specs.declared.file.MethodFile.{MethodFile}
use Rattle.par_match_laws.specs.par_step_laws.Methods as steps
use Rattle.par_match_laws.specs.par_step_laws.Methods.{pool_of, methods_of, code_in}
use Rattle.par_code_form.specs.declared.labelled.Labelled.{Labelled}
use Rattle.par_match_laws.specs.par_code_form.Placed.{IsPlaced}
use Rattle.par_compile_laws.specs.Files.{IsCode, IsMethodOf}
use Rattle.par_compile_laws.specs.Members.{Member, members}
use Rattle.par_file_run_laws.specs.Code.{no_code, code_or_none, code_of, members_in}
use Rattle.par_file_run_laws.specs.LayoutLaws.{CodeIsPlaced}
use Rattle.par_file_run_laws.specs.Parts.{Known}
use Rattle.par_file_run_laws.proofs.Known.{Stands}
use Rattle.par_file_run_laws.proofs.Callees.{there}
use Rattle.par_file_run_laws.proofs.Codes.{stands-there, class-members}

abbrev bare : CodeAttr → CodeAttr
bare attr = record attr { attributes = [] }

-- where there is no code none stands
nothing : (pool : List Constant) → IsPlaced pool no_code (bare steps.no_code)
nothing pool = record {
  indices = [];
  named = tt;
  writable = tt;
  bytes = refl;
  catches = tt;
  max_stack = refl;
  max_locals = refl;
  attributes = refl;
}

code-placed : (pool : List Constant) (code : Option Labelled) (attr : Option CodeAttr)
    → IsCode pool code attr → IsPlaced pool (code_or_none code) (bare (steps.code_or_none attr))
code-placed pool None None is = nothing pool
code-placed pool None (Some attr) is = absurd is
code-placed pool (Some code) None is = absurd is
code-placed pool (Some code) (Some attr) is = is

none-right : {A B : Type 0} (R : A → B → Type 0) (xs : List A) (ys : List B) → AllZip R xs ys
    → (n : ℕ) → slice_get xs n ≡ None → slice_get ys n ≡ None
none-right R [] [] all n none = refl
none-right R [] (y ∷ ys) all n none = absurd all
none-right R (x ∷ xs) [] all n none = absurd all
none-right R (x ∷ xs) (y ∷ ys) all zero none = absurd (cc none)
none-right R (x ∷ xs) (y ∷ ys) all (suc n) none = none-right R xs ys all.1 n none

module _ (table : Table) (bodies : List Body) (files : List ClassFile)
    (known : Known table bodies files) (at : ℕ) where
  abbrev PlacedIn : Option ClassFile → Type 0
  PlacedIn o =
      IsPlaced (pool_of o) (code_of (slice_get (members_in table bodies o) at))
      (bare (code_in (slice_get (methods_of o) at)))

  module _ (c n : ℕ) (s : Stands table bodies files c n) where
    of-member : (o : Option Member) → slice_get (members table bodies c s.class) at ≡ o
        → IsPlaced s.file.pool.entries (code_of o) (bare (code_in (slice_get s.file.methods at)))
    of-member (Some m) has =
        let here = there table bodies files known c n s at m has in
        subst (λ (f : Option MethodFile). IsPlaced s.file.pool.entries (code_or_none m.code)
        (bare (code_in f))) (sym here.stands)
        (code-placed s.file.pool.entries m.code here.item.code here.related.code)
    of-member None none =
        subst (λ (f : Option MethodFile). IsPlaced s.file.pool.entries no_code (bare (code_in f)))
        (sym (none-right (IsMethodOf s.file.pool.entries) (members table bodies c s.class)
        s.file.methods s.is.methods at none))
        (nothing s.file.pool.entries)

    of-file : PlacedIn (Some s.file)
    of-file =
        subst (λ (ms : List Member). IsPlaced s.file.pool.entries (code_of (slice_get ms at))
        (bare (code_in (slice_get s.file.methods at))))
        (sym (class-members table bodies files known c n s))
        (of-member (slice_get (members table bodies c s.class) at) refl)

  in-files : (n : ℕ) → PlacedIn (slice_get files n)
  in-files n = in_case (slice_get files n) refl where
    in_case : (o : Option ClassFile) → slice_get files n ≡ o → PlacedIn (slice_get files n)
    in_case None none = subst PlacedIn (sym none) (nothing [])
    in_case (Some file) listed =
        let of = stands-there table bodies files known n file listed in
        subst PlacedIn (sym of.1.listed) (of-file of.0 n of.1)

pub code_is_placed : CodeIsPlaced
code_is_placed table bodies files known class method =
    in-files table bodies files known method class
