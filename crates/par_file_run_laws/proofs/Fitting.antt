-- The code of each method of loaded files can stand at offsets, and its handlers name simple
-- classes.
use Rattle.std.proofs.Common.{◌≡◌, ℕ, suc, ◌+◌, Bool, true, false, List, [], ◌∷◌, ◌++◌, map, Option}
use Rattle.std.proofs.Common.{Some, None, slice_get, refl, sym, ap, ◌∙◌, arith, codes}
use Rattle.std.specs.List.{All, AllByRecursion}
use Rattle.std.proofs.lemmas.List.Elements.{All-nil, All-from_recursion}
use Rattle.par_typed.specs.declared.table.ChannelInfo.{ChannelInfo}
use Rattle.par_typed.specs.declared.table.ClassInfo.{ClassInfo}
use Rattle.par_typed.specs.declared.table.MethodInfo.{MethodInfo}
use Rattle.par_typed.specs.declared.table.Table.{Table}
use Rattle.par_typed.specs.Plain.{TSta, Body}
use Rattle.par_typed.specs.Members.{methods_in, method_at}
use Rattle.par_class.specs.declared.file.ClassFile.{ClassFile}
use Rattle.par_pool.specs.Spelling.{IsText}
use Rattle.par_run_laws.specs.Names.{body_of}
use Rattle.par_single.specs.Members.{own_name}
use Rattle.par_code_form.specs.declared.labelled.Handler.{Handler}
use Rattle.par_code_form.specs.declared.labelled.Labelled.{Labelled}
use Rattle.par_code_form.specs.Code.{body_handlers, initializer_code}
use Rattle.par_code_form.specs.Method.{labelled}
use Rattle.par_code_form.specs.Named.{words_of}
use Rattle.par_source_code_laws.specs.par_code_form.PoolNames.{full_name}
use Rattle.par_source_code_laws.specs.par_code_form.Placeable.{FitsItem}
use Rattle.par_compile_laws.specs.Members.{Member, above, channel, method}
use Rattle.par_compile_laws.specs.Members.{methods_from, members}
use Rattle.par_compile_laws.specs.Members.{initializer_of}
use Rattle.par_link_laws.specs.Linkable.{IsLinkable, IsClassWord}
use Rattle.par_placed_run_laws.specs.Made.{IsSimple}
use Rattle.par_file_run_laws.specs.Code.{class_of, no_code, code_or_none, code_of}
use Rattle.par_file_run_laws.specs.Code.{members_of}
use Rattle.par_file_run_laws.specs.Code.{members_in, code_at}
use Rattle.par_file_run_laws.proofs.Lists.{each-item}
use Rattle.par_file_run_laws.proofs.Simple.{each, said_simple}

pub record IsFit (code : Labelled) : Type 0 where
  pub items : All FitsItem code.items
  pub simple : All IsSimple code.handlers

none_fits : IsFit no_code
none_fits = record { items = All-nil FitsItem; simple = All-nil IsSimple }

-- ---- initializers

init_text : IsText (codes "<init>")
init_text = record { short = omega arith; plain = refl }

init_type : IsText (codes "()V")
init_type = record { short = omega arith; plain = refl }

above_text : (exception : Bool) → IsText (full_name (above exception))
above_text true = record { short = omega arith; plain = refl }
above_text false = record { short = omega arith; plain = refl }

pub initializer_fits : (class : ClassInfo) → IsFit (initializer_of class)
initializer_fits class = record {
  items =
      All-from_recursion FitsItem (initializer_code (above class.exception)) (
        (refl, refl),
        ((refl, above_text class.exception, init_text, init_type), ((refl, refl), tt)),
      );
  simple = All-nil IsSimple;
}

-- ---- methods

-- what is known of the bodies of a program as code of any of its methods
abbrev pub BodiesFit : Table → List Body → Type 0
BodiesFit table bodies =
    (c i : ℕ) (m : MethodInfo) (body : TSta) → method_at table c i ≡ Some m
    → body_of bodies c i ≡ Some body → All FitsItem (labelled (words_of table) m body).items

module _ (table : Table) (bodies : List Body) (linkable : IsLinkable table bodies)
    (fit : BodiesFit table bodies) where
  abbrev IsFitMember : Member → Type 0
  IsFitMember m = IsFit (code_or_none m.code)

  method_fits : (c i : ℕ) (m : MethodInfo) → method_at table c i ≡ Some m
      → IsFitMember (method table bodies m (body_of bodies c i))
  method_fits c i m there = in_case (body_of bodies c i) refl where
    in_case : (o : Option TSta) → body_of bodies c i ≡ o → IsFitMember (method table bodies m o)
    in_case None none = none_fits
    in_case (Some body) has =
        let w = words_of table in
        let named = (linkable.code c i m body there has).handlers in
        record {
          items = fit c i m body there has;
          simple =
              All-from_recursion IsSimple (body_handlers w body)
              (each (λ (h : Handler). IsClassWord table h.class) IsSimple
              (λ h word. said_simple table bodies linkable h.class word) (body_handlers w body)
              named);
        }

  -- methods from a number on
  methods_fit : (c i : ℕ) (ms : List MethodInfo)
      → ((k : ℕ) (m : MethodInfo) → slice_get ms k ≡ Some m → method_at table c (i + k) ≡ Some m)
      → AllByRecursion IsFitMember (methods_from table bodies c i ms)
  methods_fit c i [] there = tt
  methods_fit c i (m ∷ ms) there =
      let first : i + 0 ≡ i = omega arith in (
        method_fits c i m (ap (method_at table c) (sym first) ∙ there 0 m refl),
        methods_fit c (suc i) ms (λ k x at.
            let later : suc i + k ≡ i + suc k = omega arith in
            ap (method_at table c) later ∙ there (suc k) x at),
      )

  channels_fit : (cs : List ChannelInfo) (ms : List Member) → AllByRecursion IsFitMember ms
      → AllByRecursion IsFitMember (map channel cs ++ ms)
  channels_fit [] ms rest = rest
  channels_fit (k ∷ cs) ms rest = (none_fits, channels_fit cs ms rest)

  members_fit : (c : ℕ) (class : ClassInfo) → slice_get table.classes c ≡ Some class
      → AllByRecursion IsFitMember (members table bodies c class)
  members_fit c class there = (
    initializer_fits class,
    channels_fit class.channels (methods_from table bodies c 0 class.methods)
        (methods_fit c 0 class.methods (λ k m at.
        let same : 0 + k ≡ k = omega arith in
        ap (method_at table c) same
        ∙ ap (λ (o : Option ClassInfo). slice_get (methods_in o) k) there ∙ at)),
  )

  -- ---- in files

  in_class : (c : ℕ) → AllByRecursion IsFitMember (members_of table bodies c
      (slice_get table.classes c))
  in_class c = in_case (slice_get table.classes c) refl where
    in_case : (o : Option ClassInfo) → slice_get table.classes c ≡ o
        → AllByRecursion IsFitMember (members_of table bodies c o)
    in_case None none = tt
    in_case (Some class) there = members_fit c class there

  in_file : (o : Option ClassFile) → AllByRecursion IsFitMember (members_in table bodies o)
  in_file None = tt
  in_file (Some file) = in_class (class_of table (own_name file))

  at_place : (ms : List Member) → AllByRecursion IsFitMember ms → (at : ℕ)
      → IsFit (code_of (slice_get ms at))
  at_place ms fits at = in_case (slice_get ms at) refl where
    in_case : (o : Option Member) → slice_get ms at ≡ o → IsFit (code_of o)
    in_case None none = none_fits
    in_case (Some m) has = each-item IsFitMember ms fits at m has

  pub code_fits : (files : List ClassFile) (n at : ℕ) → IsFit (code_at table bodies files n at)
  code_fits files n at =
      at_place (members_in table bodies (slice_get files n)) (in_file (slice_get files n)) at
