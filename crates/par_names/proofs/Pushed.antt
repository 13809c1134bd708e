-- What the declarations declare, as one more is gone over.
use Rattle.std.proofs.Common.{◌≡◌, ℕ, ◌+◌, ◌<◌, List, [], ◌∷◌, ◌++◌, length, take, get_or, sym, ap}
use Rattle.std.proofs.Common.{◌∙◌, append_assoc}
use Rattle.std.specs.List.{flat_map}
use Rattle.std.proofs.lemmas.Grind.{common_steps}
use Rattle.std.proofs.Common.{arith}
use Rattle.par_tree.specs.declared.decl.Decl.{Decl}
use Rattle.par_tree.specs.Plain.{Declaration}
use Rattle.par_tree.specs.Shown.{declared, all_declared}
use Rattle.par_names.proofs.Noted.{more}

module _ {A : Type 0} (f : Declaration → List A) where
  with_one : (ds : List Decl) (d : Decl)
      → flat_map f (all_declared (ds ++ d ∷ [])) ≡ flat_map f (all_declared ds) ++ f (declared d)
  with_one [] d = grind (arith, common_steps)
  with_one (x ∷ ds) d =
      ap (λ xs. f (declared x) ++ xs) (with_one ds d)
      ∙ sym (append_assoc (f (declared x)) (flat_map f (all_declared ds)) (f (declared d)))

  pub one_more : (ds : List Decl) (i : ℕ) (d : Decl) → i < length ds → d ≡ get_or ds i d
      → flat_map f (all_declared (take (i + 1) ds))
      ≡ flat_map f (all_declared (take i ds)) ++ f (declared d)
  one_more ds i d within is =
      ap (λ xs. flat_map f (all_declared xs)) (more ds i d within is) ∙ with_one (take i ds) d
