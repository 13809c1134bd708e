-- The files of the declared classes, as far as a loop has come.
use Rattle.std.proofs.Common.{◌≡◌, ℕ, zero, suc, ◌+◌, ◌<◌, List, [], ◌∷◌, ◌++◌, length, map, drop}
use Rattle.std.proofs.Common.{Some}
use Rattle.std.proofs.Common.{get_or, inl, inr, refl, sym, ap, subst, ◌∙◌, arith}
use Rattle.std.specs.Prelude.{◌⊎◌, slice_get}
use Rattle.std.specs.Option.{option_map}
use Rattle.std.proofs.lemmas.List.{length-map}
use Rattle.std.proofs.lemmas.Option.{none-some, slice_get-get_or, slice_get-map}
use Rattle.par_typed.specs.declared.table.ClassInfo.{ClassInfo}
use Rattle.par_erase.specs.declared.program.PlainClass.{PlainClass}
use Rattle.par_erase.specs.declared.program.Plain.{Plain}
use Rattle.par_erase.specs.Shown.{class_info, table_of, bodies_of}
use Rattle.par_compile_laws.specs.Files.{FIRST_DECLARED, declared_classes}
use Rattle.par_compile.proofs.Lists.{some_is}
use Rattle.par_compile.specs.declared.compiled.CompiledClass.{CompiledClass}
use Rattle.par_compile.specs.Compiled.{IsCompiledClass, AreCompiled}

-- an item of what is left is one of all
pub slice_drop : {A : Type 0} (n i : ℕ) (xs : List A) (x : A) → slice_get (drop n xs) i ≡ Some x
    → slice_get xs (n + i) ≡ Some x
slice_drop {A} zero i xs x h =
    let e : i ≡ 0 + i = omega arith in subst (λ (k : ℕ). slice_get xs k ≡ Some x) e h
slice_drop (suc n) i [] x h = absurd (none-some x h)
slice_drop {A} (suc n) i (y ∷ ys) x h =
    let e : suc (n + i) ≡ suc n + i = omega arith in
    subst (λ (k : ℕ). slice_get (y ∷ ys) k ≡ Some x) e (slice_drop n i ys x h)

drop-map : {A B : Type 0} (f : A → B) (n : ℕ) (xs : List A) → drop n (map f xs) ≡ map f (drop n xs)
drop-map f zero xs = refl
drop-map f (suc n) [] = refl
drop-map f (suc n) (x ∷ xs) = drop-map f n xs

-- an item behind others, or the last one
last-or : {A : Type 0} (xs : List A) (y x : A) (i : ℕ) → slice_get (xs ++ y ∷ []) i ≡ Some x
    → (slice_get xs i ≡ Some x) ⊎ ((i ≡ length xs) × (y ≡ x))
last-or [] y x zero h = inr (refl, some_is y x h)
last-or [] y x (suc i) h = absurd (none-some x h)
last-or (z ∷ xs) y x zero h = inl h
last-or (z ∷ xs) y x (suc i) h =
    elim (last-or xs y x i h) [ inl e ↦ inl e | inr e ↦ inr (ap (λ (n : ℕ). suc n) e.0, e.1) ]

-- one file more
pub each_more : (p : Plain) (classes : List PlainClass) (files : List CompiledClass)
    (i : ℕ) (k : PlainClass) (new : CompiledClass) → classes ≡ drop FIRST_DECLARED p.classes
    → i < length classes → get_or classes i k ≡ k → length files ≡ i
    → ((c : ℕ) → slice_get p.classes c ≡ Some k
    → IsCompiledClass (table_of p) (bodies_of p) c (class_info k) new)
    → ((place : ℕ) (class : ClassInfo) (file : CompiledClass)
    → slice_get (map class_info classes) place ≡ Some class → slice_get files place ≡ Some file
    → IsCompiledClass (table_of p) (bodies_of p) (FIRST_DECLARED + place) class file)
    → (place : ℕ) (class : ClassInfo) (file : CompiledClass)
    → slice_get (map class_info classes) place ≡ Some class
    → slice_get (files ++ new ∷ []) place ≡ Some file
    → IsCompiledClass (table_of p) (bodies_of p) (FIRST_DECLARED + place) class file
each_more p classes files i k new same lt is many made each place class file at there =
    elim (last-or files new file place there) [
      | inl before ↦ each place class file at before
      | inr last ↦
          let here : slice_get classes place ≡ Some k =
          subst (λ (n : ℕ). slice_get classes n ≡ Some k) (sym (last.0 ∙ many))
          (slice_get-get_or classes i k lt ∙ ap (λ (x : PlainClass). Some x) is) in
          let found : slice_get p.classes (FIRST_DECLARED + place) ≡ Some k =
          slice_drop FIRST_DECLARED place p.classes k
          (subst (λ (xs : List PlainClass). slice_get xs place ≡ Some k) same here) in
          let called : class_info k ≡ class =
          some_is (class_info k) class
          (sym (slice_get-map class_info classes place ∙ ap (option_map class_info) here) ∙ at) in
          subst (λ (f : CompiledClass).
          IsCompiledClass (table_of p) (bodies_of p) (FIRST_DECLARED + place) class f) last.1
          (subst (λ (x : ClassInfo).
          IsCompiledClass (table_of p) (bodies_of p) (FIRST_DECLARED + place) x new) called
          (made (FIRST_DECLARED + place) found))
    ]

pub all_compiled : (p : Plain) (classes : List PlainClass) (files : List CompiledClass)
    → classes ≡ drop FIRST_DECLARED p.classes → length files ≡ length classes
    → ((place : ℕ) (class : ClassInfo) (file : CompiledClass)
    → slice_get (map class_info classes) place ≡ Some class → slice_get files place ≡ Some file
    → IsCompiledClass (table_of p) (bodies_of p) (FIRST_DECLARED + place) class file)
    → AreCompiled (table_of p) (bodies_of p) files
all_compiled p classes files same many each =
    let declared : map class_info classes ≡ declared_classes (table_of p) =
    ap (map class_info) same ∙ sym (drop-map class_info FIRST_DECLARED p.classes) in
    record {
      many = many ∙ (sym (length-map classes class_info) ∙ ap length declared);
      each = λ place class file at there.
          each place class file
          (subst (λ (cs : List ClassInfo). slice_get cs place ≡ Some class) (sym declared) at)
          there;
    }
