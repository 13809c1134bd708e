-- The names of the exception classes, file by file.
use Rattle.std.proofs.Common.{◌≡◌, ℕ, suc, ◌+◌, ◌<◌, ◌≤◌, Bool, true, false, cond, List, []}
use Rattle.std.proofs.Common.{◌∷◌, ◌++◌, length, map, drop, get_or, Some, refl, sym, ap, ◌∙◌, arith}
use Rattle.std.proofs.Common.{codes}
use Rattle.std.proofs.Common.{append_assoc, drop-cons}
use Rattle.std.proofs.lemmas.List.{map-append}
use Rattle.std.proofs.Math.Seq.{drop-length}
use Rattle.std.specs.Borrow.{Bor}
use Rattle.par_frame_steps.specs.Marks.{names}
use Rattle.std.proofs.lemmas.Option.{slice_get-get_or}
use Rattle.par_class.specs.declared.file.ClassFile.{ClassFile}
use Rattle.par_values.specs.Areas.{Name, class_named}
use Rattle.par_single.specs.Members.{own_name}
use Rattle.par_step_laws.specs.Classes.{class_names, exceptions_from, is_exception}
use Rattle.par_kinds.specs.Linked.{exception_names}
use Rattle.par_verify.specs.Starts.{named_in}
use Rattle.par_verify.proofs.Methods.{class-name, two}

-- the names of the exceptions among files that are left, of which the first has this number
abbrev pub left_names : (files : List ClassFile) → ℕ → List ClassFile → List Name
left_names files n rest = map (class_named (class_names files)) (exceptions_from n rest)

last-names : (files : List ClassFile)
    → (class_named (class_names files) (length files) ≡ codes "ArithmeticException")
    × (class_named (class_names files) (suc (length files)) ≡ codes "NullPointerException")
last-names [] = (refl, refl)
last-names (f ∷ files) = last-names files

-- behind the last file the two that every program has are left
pub names-end : (files : List ClassFile) → left_names files (length files) [] ≡ two
unfolding exceptions_from
names-end files =
    ap (λ n. n ∷ class_named (class_names files) (suc (length files)) ∷ []) (last-names files).0
    ∙ ap (λ n. codes "ArithmeticException" ∷ n ∷ []) (last-names files).1

module _ (files : List ClassFile) (n : ℕ) (file : ClassFile) (inside : n < length files)
    (is : get_or files n file ≡ file) where
  here : class_named (class_names files) n ≡ own_name file
  here = class-name files n file (slice_get-get_or files n file inside ∙ ap Some is)

  split : drop n files ≡ file ∷ drop (n + 1) files
  split =
      let behind : suc n ≡ n + 1 = omega arith in
      drop-cons files n file inside ∙ ap (λ f. f ∷ drop (suc n) files) is
      ∙ ap (λ m. file ∷ drop m files) behind

  -- that of one file more
  pub names-more : left_names files n (drop n files)
      ≡ named_in file ++ left_names files (n + 1) (drop (n + 1) files)
  unfolding exceptions_from
  names-more =
      let behind : suc n ≡ n + 1 = omega arith in
      ap (left_names files n) split
      ∙ in_case (is_exception file)
      ∙ ap (λ m. named_in file ++ left_names files m (drop (n + 1) files)) behind
    where
      in_case : (b : Bool)
          → map (class_named (class_names files))
          (cond b (n ∷ exceptions_from (suc n) (drop (n + 1) files))
          (exceptions_from (suc n) (drop (n + 1) files)))
          ≡ cond b (own_name file ∷ []) [] ++ left_names files (suc n) (drop (n + 1) files)
      in_case true = ap (λ x. x ∷ left_names files (suc n) (drop (n + 1) files)) here
      in_case false = refl

-- the names so far, with one file more
pub names_step : (files : List ClassFile) (n : ℕ) (file : ClassFile) (all more rest : List Name)
    → n < length files → get_or files n file ≡ file → more ≡ all ++ named_in file
    → all ++ left_names files n (drop n files) ≡ rest
    → more ++ left_names files (n + 1) (drop (n + 1) files) ≡ rest
names_step files n file all more rest inside is one so_far =
    ap (λ ns. ns ++ left_names files (n + 1) (drop (n + 1) files)) one
    ∙ append_assoc all (named_in file) (left_names files (n + 1) (drop (n + 1) files))
    ∙ ap (λ ns. all ++ ns) (sym (names-more files n file inside is)) ∙ so_far

-- behind the last file the names of the two are added
pub names_done : (files : List ClassFile) (n : ℕ) (a b c : List (Bor (List ℕ)))
    (x y : Bor (List ℕ)) → length files ≤ n → n ≤ length files → b ≡ a ++ x ∷ []
    → c ≡ b ++ y ∷ [] → x.now ∷ y.now ∷ [] ≡ two
    → names a ++ left_names files n (drop n files) ≡ exception_names files
    → names c ≡ exception_names files
names_done files n a b c x y past short first second are so_far =
    let all : n ≡ length files = omega (arith, past, short) in
    ap names second ∙ map-append (λ name. name.now) b (y ∷ [])
    ∙ ap (λ ns. names ns ++ y.now ∷ []) first
    ∙ ap (λ ns. ns ++ y.now ∷ []) (map-append (λ name. name.now) a (x ∷ []))
    ∙ append_assoc (names a) (x.now ∷ []) (y.now ∷ [])
    ∙ ap (λ ns. names a ++ ns)
    (are ∙ sym (names-end files)
    ∙ ap (λ fs. left_names files (length files) fs) (sym (drop-length files))
    ∙ ap (λ k. left_names files k (drop k files)) (sym all))
    ∙ so_far
