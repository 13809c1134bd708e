-- The objects of a heap against those of a program.
use Rattle.std.proofs.Common.{◌≡◌, ℕ, zero, suc, ◌<◌, ◌≤◌, List, [], ◌∷◌, length, slice_get, refl}
use Rattle.std.proofs.Common.{sym, ap, ap₂, subst, ◌∙◌, inl, inr, arith}
use Rattle.std.specs.List.{All}
use Rattle.std.proofs.lemmas.Bool.{cases_lt}
use Rattle.std.proofs.lemmas.List.{nil_from_length}
use Rattle.std.proofs.lemmas.Option.{slice_get_past}
use Rattle.par_class.specs.declared.file.ClassFile.{ClassFile}
use Rattle.par_values.specs.Areas as areas
use Rattle.par_values.specs.Areas.{Areas, Objects, list_or_none}
use Rattle.par_heap.specs.Heap as heap
use Rattle.par_method_area.specs.par_actions.Objects.{AreShown}
use Rattle.par_machine.specs.Objects.{objects_in, count_classes, width, AreObjects}

shown_at : (many : ℕ) (held : heap.Objects) (class : ℕ) → class < many
    → list_or_none (slice_get (objects_in many held) class) ≡ heap.objects_of held class
unfolding objects_in
shown_at zero held class h = absurd (omega arith)
shown_at (suc many) [] zero h = refl
shown_at (suc many) [] (suc class) h = shown_at many [] class (omega arith)
shown_at (suc many) (objects ∷ held) zero h = refl
shown_at (suc many) (objects ∷ held) (suc class) h = shown_at many held class (omega arith)

-- a program shows as many lists of objects as it has classes
pub length-objects_in : (many : ℕ) (held : heap.Objects) → length (objects_in many held) ≡ many
unfolding objects_in
length-objects_in zero held = refl
length-objects_in (suc many) [] = ap suc (length-objects_in many [])
length-objects_in (suc many) (objects ∷ held) = ap suc (length-objects_in many held)

none_beyond : (objects : Objects) (many class : ℕ) → length objects ≡ many → many ≤ class
    → list_or_none (slice_get objects class) ≡ []
none_beyond objects many class is h = ap list_or_none (slice_get_past objects class (omega arith))

-- the program's objects are those of the heap
pub are_shown : (files : List ClassFile) (held : heap.Objects) (program : Areas)
    → AreObjects files held
    → program.objects ≡ objects_in (count_classes files) held → AreShown held program
are_shown files held program are same class =
    elim (cases_lt class (count_classes files)) [
      | inl h ↦ ap (λ (os : Objects). list_or_none (slice_get os class)) same
          ∙ shown_at (count_classes files) held class h
      | inr h ↦
          ap (λ (os : Objects). list_or_none (slice_get os class)) same
          ∙ none_beyond (objects_in (count_classes files) held) (count_classes files) class
          (length-objects_in (count_classes files) held) h
          ∙ sym (nil_from_length _ (are.none class h))
    ]

-- as many lists that say the same are the same
pub objects_are : (many : ℕ) (held : heap.Objects) (objects : Objects) → length objects ≡ many
    → ((class : ℕ) → list_or_none (slice_get objects class) ≡ heap.objects_of held class)
    → objects ≡ objects_in many held
unfolding objects_in
objects_are zero held [] l h = refl
objects_are zero held (o ∷ os) l h = absurd (omega arith)
objects_are (suc many) held [] l h = absurd (omega arith)
objects_are (suc many) [] (o ∷ os) l h =
    ap₂ (λ x (xs : Objects). x ∷ xs) (h 0) (objects_are many [] os (omega arith)
    (λ class. h (suc class)))
objects_are (suc many) (first ∷ held) (o ∷ os) l h =
    ap₂ (λ x (xs : Objects). x ∷ xs) (h 0) (objects_are many held os (omega arith)
    (λ class. h (suc class)))

-- what the heap shows of objects that are known
pub objects_stay : (files : List ClassFile) (held : heap.Objects) (after : Areas)
    → length after.objects ≡ count_classes files
    → AreShown held after
    → ((class : ℕ) → All (λ object. length object ≡ width files class)
    (areas.objects_of class after)) → AreObjects files held
objects_stay files held after many shown wide = record {
  none = λ class h. ap length (sym (shown class)
      ∙ none_beyond after.objects (count_classes files) class many h);
  wide = λ class. subst (All (λ object. length object ≡ width files class)) (shown class)
      (wide class);
}
