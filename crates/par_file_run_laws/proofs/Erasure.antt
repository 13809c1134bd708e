-- The erased table of a well-typed program has what a layout asks for.
use Rattle.std.proofs.Common.{◌≡◌, ℕ, zero, suc, ◌<◌, ◌≤◌, true, cond, List, [], ◌∷◌, length}
use Rattle.std.proofs.Common.{map, take, Option, Some, None, slice_get, refl, sym, ap, subst, ◌∙◌}
use Rattle.std.proofs.Common.{arith, codes}
use Rattle.std.proofs.lemmas.List.{length-map}
use Rattle.par_typed.specs.declared.table.ClassInfo.{ClassInfo}
use Rattle.par_typed.specs.declared.table.MethodInfo.{MethodInfo}
use Rattle.par_typed.specs.declared.table.Table.{Table}
use Rattle.par_typed.specs.Members.{methods_in}
use Rattle.par_program_laws.specs.Locals.{arrivals}
use Rattle.par_source_code_laws.specs.par_typed_laws.Signatures.{kind_of, HasBuiltIns, AreSigned}
use Rattle.par_source_code_laws.specs.par_typed_laws.Signatures.{HasSignatures}
use Rattle.par_source_code_laws.specs.par_typed_laws.Tables.{IsInRange, ClassInRange, MethodInRange}
use Rattle.par_erase.specs.Erased.{erased_field, erased_param, erased_channels, erased_method}
use Rattle.par_erase.specs.Erased.{erased_class, erased_table}
use Rattle.par_file_run_laws.specs.LoadedLaws.{HasKinds, ErasedTablesHaveKinds}
use Rattle.par_file_run_laws.proofs.Lists.{each-item, mapped-from}

-- the first two are exceptions
first-exceptions : (cs : List ClassInfo) → map kind_of (take 2 cs)
    ≡ (codes "ArithmeticException", true) ∷ (codes "NullPointerException", true) ∷ []
    → (c : ℕ) (class : ClassInfo) → c < 2 → slice_get cs c ≡ Some class → class.exception ≡ true
first-exceptions [] kinds c class less at = absurd (cc at)
first-exceptions (a ∷ []) kinds c class less at = absurd (cc kinds)
first-exceptions (a ∷ b ∷ cs) kinds zero class less at =
    let same : a ≡ class = cc at in
    let kind : kind_of a ≡ (codes "ArithmeticException", true) = cc kinds in
    ap (λ (x : ClassInfo). x.exception) (sym same) ∙ ap (λ p. p.1) kind
first-exceptions (a ∷ b ∷ cs) kinds (suc zero) class less at =
    let same : b ≡ class = cc at in
    let kind : kind_of b ≡ (codes "NullPointerException", true) = cc kinds in
    ap (λ (x : ClassInfo). x.exception) (sym same) ∙ ap (λ p. p.1) kind
first-exceptions (a ∷ b ∷ cs) kinds (suc (suc c)) class less at = absurd (omega arith)

-- as many come with a call
same-arrivals : (m : MethodInfo) → arrivals (erased_method m) ≡ arrivals m
same-arrivals m =
    ap (λ (l : ℕ). cond m.is_static l (suc l)) (length-map m.params erased_param)

module _ (t : Table) (built_in : HasBuiltIns t) (signed : AreSigned t)
    (in_range : IsInRange t) where
  -- a class of the erased table is an erased one
  exceptions : (c : ℕ) (class : ClassInfo) → c < 2
      → slice_get (erased_table t).classes c ≡ Some class → class.exception ≡ true
  exceptions c class less at =
      let from = mapped-from erased_class t.classes c class at in
      ap (λ (x : ClassInfo). x.exception) (sym from.gives)
      ∙ first-exceptions t.classes built_in c from.item less from.stands

  bare : (c : ℕ) (class : ClassInfo) → slice_get (erased_table t).classes c ≡ Some class
      → class.exception ≡ true
      → (class.fields ≡ []) × (class.channels ≡ []) × (class.methods ≡ [])
  bare c class at is =
      let from = mapped-from erased_class t.classes c class at in
      let none =
      (each-item (HasSignatures t) t.classes signed c from.item from.stands).bare
      (ap (λ (x : ClassInfo). x.exception) from.gives ∙ is) in (
        ap (λ (x : ClassInfo). x.fields) (sym from.gives)
            ∙ ap (λ fs. map erased_field fs) none.fields,
        ap (λ (x : ClassInfo). x.channels) (sym from.gives) ∙ ap erased_channels none.channels,
        ap (λ (x : ClassInfo). x.methods) (sym from.gives)
            ∙ ap (λ ms. map erased_method ms) none.methods,
      )

  room-in : (c i : ℕ) (m : MethodInfo) (o : Option ClassInfo)
      → slice_get (erased_table t).classes c ≡ o → slice_get (methods_in o) i ≡ Some m
      → arrivals m ≤ length m.locals
  room-in c i m None none at = absurd (cc at)
  room-in c i m (Some class) there at =
      let from = mapped-from erased_class t.classes c class there in
      let method =
      mapped-from erased_method from.item.methods i m
      (ap (λ (x : ClassInfo). slice_get x.methods i) from.gives ∙ at) in
      let class_fits =
      each-item (ClassInRange t) t.classes in_range.classes c from.item from.stands in
      let fits =
      each-item (MethodInRange t) from.item.methods class_fits.methods i method.item
      method.stands in
      let few : arrivals method.item ≤ length method.item.locals = fits.arrive in
      let same = same-arrivals method.item in
      let erased : arrivals (erased_method method.item) ≤ length method.item.locals =
      omega (arith, same, few) in
      subst (λ (x : MethodInfo). arrivals x ≤ length x.locals) method.gives erased

  pub has-kinds : HasKinds (erased_table t)
  has-kinds = record {
    exceptions = exceptions;
    bare = bare;
    room = λ c i m at. room-in c i m (slice_get (erased_table t).classes c) refl at;
  }

pub erased_tables_have_kinds : ErasedTablesHaveKinds
erased_tables_have_kinds t built_in signed in_range = has-kinds t built_in signed in_range
