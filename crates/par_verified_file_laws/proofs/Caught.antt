-- What a handler of linked class files takes is the class that it names.
use Rattle.std.proofs.Common.{◌≡◌, ℕ, zero, suc, ◌<◌, Bool, true, false, List, [], ◌∷◌, ◌++◌}
use Rattle.std.proofs.Common.{length, arith, Option, Some}
use Rattle.std.proofs.Common.{None, slice_get, refl, sym, ap, subst, ◌∙◌, inl, inr, codes}
use Rattle.std.specs.Prelude.{◌==◌, ◌⊎◌, if◌then◌else◌}
use Rattle.std.specs.List.{AllByRecursion, AllZip}
use Rattle.std.specs.Str.{bytes_eq}
use Rattle.std.proofs.lemmas.Bool.{or_cases}
use Rattle.std.proofs.lemmas.Bool.Decides.{nat_tests}
use Rattle.par_base.specs.Names.{IsName}
use Rattle.par_pool.specs.declared.constant.Constant.{Constant}
use Rattle.par_pool.specs.Entries.{IsClassAt}
use Rattle.par_typed.specs.declared.table.ClassInfo.{ClassInfo}
use Rattle.par_typed.specs.declared.table.Table.{Table}
use Rattle.par_typed.specs.Plain.{Body}
use Rattle.par_class.specs.declared.file.Catch.{Catch}
use Rattle.par_class.specs.declared.file.ClassFile.{ClassFile}
use Rattle.par_values.specs.Areas.{Name, name_or_none}
use Rattle.par_single.specs.Members.{own_names}
use Rattle.par_link.specs.Linked.{named_at}
use Rattle.par_link.specs.Named.{class_of, class_place, class_named}
use Rattle.par_link.specs.Rules.{is_nothing}
use Rattle.par_file_run_laws.specs.par_step_laws.Methods.{pool_of, class_pool}
use Rattle.par_code_form.specs.declared.labelled.Handler.{Handler}
use Rattle.par_code_form.specs.PoolNames.{is_builtin, full_name}
use Rattle.par_code_form.specs.Placed.{IsCatch}
use Rattle.par_file_run_laws.proofs.par_placed_run_laws.Named.{class_at}
use Rattle.par_file_run_laws.specs.par_link_laws.Linkable.{IsClassWord}
use Rattle.par_file_run_laws.specs.Parts.{Known}
use Rattle.par_file_run_laws.proofs.Known.{word-is}
use Rattle.par_file_run_laws.proofs.Lists.{front-at, stands-at}
use Rattle.par_file_run_laws.proofs.Texts.{same-text, unbuilt}
use Rattle.par_kinds.specs.declared.frame.VKind.TheVariants.{Object as AnObject}
use Rattle.par_kinds.specs.declared.frame.VKind.TheVariants.{Base as ABase}
use Rattle.par_kinds.specs.Linked.{named_kind, caught_kind}

not_first : (pool : List Constant) (index : ℕ) (name : Name) → IsClassAt pool index name
    → (index == 0) ≡ false
not_first pool zero name at = absurd (cc at.entry)
not_first pool (suc index) name at = grind (arith, nat_tests)

one_there : (xs : List ClassInfo) (k : ℕ) → k < length xs → slice_get xs k ≡ None → ⊥
one_there [] k less e = absurd (omega (arith, less))
one_there (x ∷ xs) zero less e = cc e
one_there (x ∷ xs) (suc k) less e = one_there xs k (omega (arith, less)) e

nothing_there : (k : ℕ) (name : Name) → IsClassAt [] k name → ⊥
nothing_there zero name h = cc h.entry
nothing_there (suc k) name h = cc h.entry

module _ (table : Table) (bodies : List Body) (files : List ClassFile)
    (known : Known table bodies files) where
  -- a class of the program has a name
  word_named : (name : Name) → IsClassWord table name → IsName name
  word_named name word = in_case (slice_get table.classes word.number) refl
    where
      in_case : (o : Option ClassInfo) → slice_get table.classes word.number ≡ o → IsName name
      in_case None none = absurd (one_there table.classes word.number word.there none)
      in_case (Some class) there =
          subst IsName (sym (word.is ∙ word-is table word.number class there))
          (known.classes word.number class there).named

  -- ---- by the name of a class

  by_place : (name : Name) (o : Option ℕ) → class_place files name ≡ o
      → is_nothing (class_of None o) ≡ false
      → named_kind files (class_of None o) ≡ AnObject name
  by_place name None is some = absurd (cc some)
  by_place name (Some k) is some =
      let at = stands-at (bytes_eq name) (own_names files) k is in
      let shown =
      front-at (own_names files)
      (codes "ArithmeticException" ∷ codes "NullPointerException" ∷ []) k at.item at.stands in
      ap AnObject (ap name_or_none shown ∙ sym (same-text name at.item at.passes))

  plain_kind : (name : Name) → IsName name → is_nothing (class_named files name) ≡ false
      → named_kind files (class_named files name) ≡ AnObject name
  plain_kind name is some =
      let none = unbuilt name is in
      ap (λ b. named_kind files (class_of b (class_place files name))) none
      ∙ by_place name (class_place files name) refl
      (sym (ap (λ b. is_nothing (class_of b (class_place files name))) none) ∙ some)

  full_kind : (name : Name) (b : Bool) → is_builtin name ≡ b → IsName name
      → is_nothing (class_named files (full_name name)) ≡ false
      → named_kind files (class_named files (full_name name)) ≡ AnObject name
  full_kind name false plain is some =
      let same : full_name name ≡ name =
      ap (λ (b : Bool). if b then codes "java/lang/" ++ name else name) plain in
      ap (λ (n : Name). named_kind files (class_named files n)) same
      ∙ plain_kind name is (sym (ap (λ (n : Name). is_nothing (class_named files n)) same) ∙ some)
  full_kind name true built is some =
      pick (or_cases (bytes_eq name (codes "ArithmeticException"))
      (bytes_eq name (codes "NullPointerException")) built)
    where
      pick : (bytes_eq name (codes "ArithmeticException") ≡ true)
          ⊎ (bytes_eq name (codes "NullPointerException") ≡ true)
          → named_kind files (class_named files (full_name name)) ≡ AnObject name
      pick (inl e) =
          subst (λ (n : Name). named_kind files (class_named files (full_name n)) ≡ AnObject n)
          (sym (same-text name (codes "ArithmeticException") e)) refl
      pick (inr e) =
          subst (λ (n : Name). named_kind files (class_named files (full_name n)) ≡ AnObject n)
          (sym (same-text name (codes "NullPointerException") e)) refl

  -- ---- a handler

  some_there : (class index : ℕ) (name : Name) → IsClassAt (class_pool files class) index name
      → is_nothing (class_named files name) ≡ false
  some_there class index name at = in_case (slice_get files class) refl at
    where
      in_case : (o : Option ClassFile) → slice_get files class ≡ o
          → IsClassAt (pool_of o) index name → is_nothing (class_named files name) ≡ false
      in_case None none h = absurd (nothing_there index name h)
      in_case (Some file) listed h = known.closed class file listed index name h

  pub taken : (class : ℕ) (offset : ℕ → ℕ) (h : Handler) (c : Catch)
      → IsCatch (class_pool files class) offset h c → IsClassWord table h.class
      → caught_kind files class c ≡ AnObject h.class
  taken class offset h c is word =
      let name = h.class in
      let at = is.class in
      ap (λ (b : Bool). if b then ABase true else named_kind files (named_at files class c.class))
      (not_first (class_pool files class) c.class (full_name name) at)
      ∙ ap (named_kind files) (class_at files class c.class (full_name name) at)
      ∙ full_kind name (is_builtin name) refl (word_named name word)
      (some_there class c.class (full_name name) at)

  pub all_taken : (class : ℕ) (offset : ℕ → ℕ) (hs : List Handler) (cs : List Catch)
      → AllZip (IsCatch (class_pool files class) offset) hs cs
      → AllByRecursion (λ h. IsClassWord table h.class) hs
      → AllZip (λ (h : Handler) (c : Catch). caught_kind files class c ≡ AnObject h.class) hs cs
  all_taken class offset [] [] are words = tt
  all_taken class offset [] (c ∷ cs) are words = absurd are
  all_taken class offset (h ∷ hs) [] are words = absurd are
  all_taken class offset (h ∷ hs) (c ∷ cs) are words =
      (taken class offset h c are.0 words.0, all_taken class offset hs cs are.1 words.1)
