-- Objects that are made and written have the fields of their classes.
use Rattle.std.proofs.Common.{◌≡◌, ℕ, suc, ◌+◌, ◌<◌, ◌≤◌, List, [], ◌∷◌, ◌++◌, length, set}
use Rattle.std.proofs.Common.{slice_get, sym, ap, subst, ◌∙◌, inl, inr, arith}
use Rattle.std.specs.List.{All}
use Rattle.std.proofs.lemmas.Bool.{cases_lt}
use Rattle.std.proofs.lemmas.List.{get_or-set_same, get_or-set_other, length-append, length-set}
use Rattle.std.proofs.lemmas.List.Elements.{All-push}
use Rattle.par_class.specs.declared.file.ClassFile.{ClassFile}
use Rattle.par_values.specs.declared.value.MVal.{MVal}
use Rattle.par_values.specs.Areas.{Areas, Objects, list_or_none, objects_of, with_object}
use Rattle.par_heap.specs.Heap as heap
use Rattle.par_method_area.specs.par_actions.Objects.{AreShown}
use Rattle.par_method_area.proofs.par_actions.Bearing.{born_shown}
use Rattle.par_method_area.proofs.par_actions.Writing.{or_empty}
use Rattle.par_machine.specs.Objects.{count_classes, objects_in, width, AreObjects}
use Rattle.par_machine.proofs.Held.{are_shown, objects_are, objects_stay, length-objects_in}

-- the fields of one object
abbrev pub Fields : Type 0
Fields = List MVal

-- one list of many is another one
module _ (P : ℕ → List Fields → Type 0) where
  -- what holds of each list, and of another in the place of one, holds of each behind it
  pub set_at : (objects : Objects) (class : ℕ) (after : List Fields) → class < length objects
      → ((c : ℕ) → P c (list_or_none (slice_get objects c))) → P class after
      → (c : ℕ) → P c (list_or_none (slice_get (set objects class after) c))
  set_at objects class after known each one c =
      elim (cases_lt c class) [
        | inl less ↦ apart (λ (e : c ≡ class). omega (arith, e))
        | inr more ↦
            elim (cases_lt class c) [
              | inl less ↦ apart (λ (e : c ≡ class). omega (arith, e))
              | inr no_more ↦
                  let e : class ≡ c = omega arith in
                  subst (λ k. P k (list_or_none (slice_get (set objects class after) k))) e
                  (subst (P class) (sym (or_empty (set objects class after) class
                  ∙ get_or-set_same objects class after [] known)) one)
            ]
      ]
    where
      apart : (c ≡ class → ⊥) → P c (list_or_none (slice_get (set objects class after) c))
      apart ne =
          subst (P c) (or_empty objects c ∙ sym (get_or-set_other objects class c after [] ne)
          ∙ sym (or_empty (set objects class after) c))
          (each c)

-- what every object of a class has
abbrev pub IsWide : List ClassFile → ℕ → List Fields → Type 0
IsWide files class objects = All (λ object. length object ≡ width files class) objects

module _ (files : List ClassFile) (held : heap.Objects) (program : Areas)
    (are : AreObjects files held)
    (same : program.objects ≡ objects_in (count_classes files) held) where
  shown : AreShown held program
  shown = are_shown files held program are same

  many : length program.objects ≡ count_classes files
  many = ap (λ (os : Objects). length os) same ∙ length-objects_in (count_classes files) held

  -- the objects that a program shows are as wide as those of its heap
  pub wide_before : (c : ℕ) → IsWide files c (list_or_none (slice_get program.objects c))
  wide_before c = subst (IsWide files c) (sym (shown c)) (are.wide c)

  -- objects that a heap shows after a change
  pub after_shown : (new : heap.Objects) (after : Areas) → AreShown new after
      → length after.objects ≡ length program.objects
      → after.objects ≡ objects_in (count_classes files) new
  after_shown new after is same_many = objects_are (count_classes files) new after.objects
      (same_many ∙ many) is

  -- objects that are as wide as their classes are shown by a sound heap
  pub after_stay : (new : heap.Objects) (after : Areas) → AreShown new after
      → length after.objects ≡ length program.objects
      → ((c : ℕ) → IsWide files c (list_or_none (slice_get after.objects c))) → AreObjects files new
  after_stay new after is same_many wide = objects_stay files new after (same_many ∙ many) is wide

  module _ (class : ℕ) (fields : Fields) (there : class < count_classes files) where
    known : class < length program.objects
    known = omega (arith, many)

    -- a program with one object more shows the heap with it
    pub born_is : (with_object class fields program).objects ≡ objects_in (count_classes files)
        (heap.with_object held class fields)
    born_is =
        after_shown (heap.with_object held class fields) (with_object class fields program)
        (born_shown program held shown class fields known) (length-set program.objects class _)

    -- an object with the fields of its class leaves all as wide
    pub born_wide : length fields ≡ width files class → (c : ℕ)
        → IsWide files c (list_or_none (slice_get (with_object class fields program).objects c))
    born_wide right =
        set_at (IsWide files) program.objects class (objects_of class program ++ fields ∷ []) known
        wide_before
        (All-push (λ object. length object ≡ width files class) (objects_of class program) fields
        (wide_before class) right)

    -- and leaves the heap sound
    pub born_stay : length fields ≡ width files class
        → AreObjects files (heap.with_object held class fields)
    born_stay right =
        after_stay (heap.with_object held class fields) (with_object class fields program)
        (born_shown program held shown class fields known) (length-set program.objects class _)
        (born_wide right)

-- one object more is another list of objects
pub born_other : (class : ℕ) (fields : Fields) (a : Areas) → class < length a.objects
    → (with_object class fields a).objects ≡ a.objects → ⊥
born_other class fields a known same =
    let before : length (objects_of class a) ≡ length
    (list_or_none (slice_get (with_object class fields a).objects class)) =
    ap (λ (os : Objects). length (list_or_none (slice_get os class))) (sym same) in
    let after : length (list_or_none (slice_get (with_object class fields a).objects class))
    ≡ length (objects_of class a) + 1 =
    ap (λ (xs : List Fields). length xs) (or_empty (with_object class fields a).objects class
    ∙ get_or-set_same a.objects class (objects_of class a ++ fields ∷ []) [] known)
    ∙ length-append (objects_of class a) (fields ∷ []) in
    omega arith

-- and no list of a heap grows by more
pub heap_grown : (held : heap.Objects) (class c : ℕ) (fields : Fields) (program : Areas)
    → AreShown held program → class < length program.objects
    → length (heap.objects_of (heap.with_object held class fields) c) ≤ suc
    (length (heap.objects_of held c))
heap_grown held class c fields program shown known =
    let now = born_shown program held shown class fields known c in
    let then = shown c in
    let bound = set_at (λ k objects. length objects ≤ suc (length (objects_of k program)))
    program.objects class (objects_of class program ++ fields ∷ []) known
    (λ k. omega arith) (let e = length-append (objects_of class program) (fields ∷ []) in omega
    arith) c in
    subst (λ (n : ℕ). n ≤ suc (length (heap.objects_of held c)))
    (ap (λ (xs : List Fields). length xs) now)
    (subst (λ (n : ℕ). length (list_or_none (slice_get (with_object class fields program).objects
    c)) ≤ suc n) (ap (λ (xs : List Fields). length xs) then) bound)
