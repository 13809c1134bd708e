-- Each class that a linked class file names is built in or has a name of programs.
use Rattle.std.proofs.Common.{◌≡◌, ℕ, zero, suc, ◌<◌, false, List, [], ◌∷◌, length, Option, arith}
use Rattle.std.proofs.Common.{Some, None, refl, sym, subst, ◌∙◌, get_or}
use Rattle.std.specs.Prelude.{slice_get}
use Rattle.std.specs.List.{All}
use Rattle.std.specs.Option.{option_or}
use Rattle.std.specs.Str.{bytes_eq}
use Rattle.std.proofs.lemmas.List.Quantifiers.{position-Some}
use Rattle.std.proofs.lemmas.Option.{slice_get-get_or, slice_get_within, get_or_from_slice_get}
use Rattle.std.proofs.lemmas.Slice.Eq.{bytes_eq-Decides}
use Rattle.par_base.specs.Names.{IsName}
use Rattle.par_pool.specs.declared.constant.Constant.TheVariants as constant
use Rattle.par_pool.proofs.Positions.{position-none}
use Rattle.par_class.specs.declared.file.ClassFile.{ClassFile}
use Rattle.par_single.specs.Members.{text_at, own_name, own_names}
use Rattle.par_single.specs.Descriptors.{Text}
use Rattle.par_link.specs.Named.{class_place, class_of, class_named, listed, named_by}
use Rattle.par_link.specs.Rules.{is_of, is_nothing}
use Rattle.par_link.specs.Order.{member_fault, description_fault, constant_fault, code_fault}
use Rattle.par_link.specs.Linked.{AreLinked}
use Rattle.par_link.proofs.Faultless.{or-none, map-none, unbroken}
use Rattle.par_given_frames.specs.Named.{AreNamed}

-- the names of classes at a place
own-at : (files : List ClassFile) (place : ℕ) → place < length (own_names files)
    → (file : ClassFile) × (slice_get files place ≡ Some file)
    × ((d : Text) → get_or (own_names files) place d ≡ own_name file)
own-at [] place less = absurd (omega arith)
own-at (file ∷ files) zero less = (file, refl, λ d. refl)
own-at (file ∷ files) (suc place) less = own-at files place (omega (arith, less))

module _ (files : List ClassFile) (linked : AreLinked files) where
  class-there : (class : ℕ) (file : ClassFile) → slice_get files class ≡ Some file
      → (place name : ℕ) → slice_get file.pool.entries place ≡ Some (constant.Class name)
      → is_nothing (class_named files (text_at file.pool.entries name)) ≡ false
  unfolding constant_fault is_of named_by
  class-there class file listed place name at_place =
      let all = unbroken files linked class file listed in
      let three = (or-none (option_or (option_or (member_fault file) (description_fault file))
      (constant_fault files file)) (code_fault file) all).0 in
      let constants = (or-none (option_or (member_fault file) (description_fault file))
      (constant_fault files file) three).1 in
      let classes = (or-none _ _ (or-none _ _ constants).0).0 in
      let none = map-none _ _ (map-none _ _ classes) in
      position-none _ file.pool.entries none place (constant.Class name) at_place

  own-named : (class : ℕ) (file : ClassFile) → slice_get files class ≡ Some file
      → IsName (own_name file)
  own-named class file at_class =
      subst (λ (f : ClassFile). IsName (own_name f))
      (get_or_from_slice_get files class file file at_class)
      (linked.spelled class file (slice_get_within files class file at_class))

  listed-named : (name : Text) (o : Option ℕ) → class_place files name ≡ o
      → is_nothing (listed o) ≡ false → IsName name
  listed-named name None e there = absurd (cc there)
  listed-named name (Some place) e there =
      let found = position-Some (bytes_eq name) (own_names files) place name e in
      let own = own-at files place found.0 in
      let same : name ≡ own_name own.0 =
      (bytes_eq-Decides name (get_or (own_names files) place name)).0 found.1 ∙ own.2 name in
      subst (λ (n : Text). IsName n) (sym same) (own-named place own.0 own.1)

  pub classes-named : (class : ℕ) (file : ClassFile) → slice_get files class ≡ Some file
      → AreNamed file.pool.entries
  classes-named class file at_class zero name is none = absurd (cc is)
  classes-named class file at_class (suc place) name is none =
      let text = text_at file.pool.entries name in
      listed-named text (class_place files text) refl
      (subst (λ b. is_nothing (class_of b (class_place files text)) ≡ false) none
      (class-there class file at_class place name is))

  pub all-named : All (λ file. AreNamed file.pool.entries) files
  all-named place d less =
      classes-named place (get_or files place d) (slice_get-get_or files place d less)
