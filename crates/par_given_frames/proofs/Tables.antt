-- The attributes of frames among those of code.
use Rattle.std.proofs.Common.{◌≡◌, Bool, true, false, List, [], ◌∷◌, None, refl, ap}
use Rattle.std.proofs.Common.{◌∙◌, ◌||◌}
use Rattle.std.proofs.lemmas.Bool.{or_parts, cond-true, cond-false}
use Rattle.std.specs.List.{filter, list_any}
use Rattle.par_pool.specs.declared.constant.Constant.{Constant}
use Rattle.par_class.specs.declared.file.Attribute.{Attribute}
use Rattle.par_class.specs.declared.file.MethodFile.{MethodFile}
use Rattle.par_class.specs.declared.file.ClassFile.{ClassFile}
use Rattle.par_kinds.specs.declared.frame.VKind.{VKind}
use Rattle.par_frames.specs.Given.{on_some, frames_said, forms_in, frames_of_tables, frames_given}
use Rattle.par_frames.specs.Given.{start_of, is_table}
use Rattle.par_given_frames.specs.Named.{forms_of_tables, forms_given}

-- no element passes
pub none_kept : {X : Type 0} (p : X → Bool) (xs : List X) → list_any p xs ≡ false
    → filter p xs ≡ []
none_kept p [] h = refl
none_kept p (x ∷ xs) h =
    let parts = or_parts (p x) (list_any p xs) h in
    cond-false (p x) (x ∷ filter p xs) (filter p xs) parts.0 ∙ none_kept p xs parts.1

-- some element passes
pub record Keeps {X : Type 0} (xs : List X) : Type 0 where
  pub head : X
  pub tail : List X
  pub is : xs ≡ head ∷ tail

first-kept : {X : Type 0} (p : X → Bool) (x : X) (xs : List X) (b : Bool) → p x ≡ b
    → (list_any p xs ≡ true → Keeps (filter p xs)) → (b || list_any p xs) ≡ true
    → Keeps (filter p (x ∷ xs))
first-kept p x xs true is rest h = record {
  head = x;
  tail = filter p xs;
  is = cond-true (p x) (x ∷ filter p xs) (filter p xs) is;
}
first-kept p x xs false is rest h =
    let later = rest h in
    record {
      head = later.head;
      tail = later.tail;
      is = cond-false (p x) (x ∷ filter p xs) (filter p xs) is ∙ later.is;
    }

pub some_kept : {X : Type 0} (p : X → Bool) (xs : List X) → list_any p xs ≡ true
    → Keeps (filter p xs)
some_kept p [] h = absurd (cc h)
some_kept p (x ∷ xs) h = first-kept p x xs (p x) refl (λ later. some_kept p xs later) h

module _ (pool : List Constant) (a : Attribute) (behind : List Attribute) where
  -- one that is no such attribute is passed over
  pub passed : is_table pool a ≡ false → forms_given pool (a ∷ behind) ≡ forms_given pool behind
  passed is =
      ap forms_of_tables (cond-false (is_table pool a) (a ∷ filter (is_table pool) behind)
      (filter (is_table pool) behind) is)

  pub alone : is_table pool a ≡ true → list_any (is_table pool) behind ≡ false
      → forms_given pool (a ∷ behind) ≡ forms_in a.bytes
  alone is none =
      ap forms_of_tables (cond-true (is_table pool a) (a ∷ filter (is_table pool) behind)
      (filter (is_table pool) behind) is
      ∙ ap (λ (as_ : List Attribute). a ∷ as_) (none_kept (is_table pool) behind none))

  pub second : is_table pool a ≡ true → list_any (is_table pool) behind ≡ true
      → forms_given pool (a ∷ behind) ≡ None
  second is some =
      let kept = some_kept (is_table pool) behind some in
      ap forms_of_tables (cond-true (is_table pool a) (a ∷ filter (is_table pool) behind)
      (filter (is_table pool) behind) is
      ∙ ap (λ (as_ : List Attribute). a ∷ as_) kept.is)

-- the frames are those of the forms
tables-said : (pool : List Constant) (start : List VKind) (as_ : List Attribute)
    → frames_of_tables pool start as_ ≡ on_some (forms_of_tables as_) (frames_said pool 0 start)
tables-said pool start [] = refl
tables-said pool start (a ∷ []) = refl
tables-said pool start (a ∷ b ∷ more) = refl

pub given-said : (file : ClassFile) (m : MethodFile) (attributes : List Attribute)
    → frames_given file m attributes
    ≡ on_some (forms_given file.pool.entries attributes)
    (frames_said file.pool.entries 0 (start_of file m))
given-said file m attributes =
    tables-said file.pool.entries (start_of file m)
    (filter (is_table file.pool.entries) attributes)
