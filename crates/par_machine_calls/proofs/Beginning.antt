-- A file with a static method `main` of no arguments and no result has one that a run begins with.
use Rattle.std.proofs.Common.{◌≡◌, Bool, true, false, ◌||◌, List, [], ◌∷◌, Option, Some, None}
use Rattle.std.proofs.Common.{IsSome, IsTrue, refl, ap, ◌∙◌}
use Rattle.std.specs.List.{list_any}
use Rattle.std.proofs.lemmas.Bool.{and_parts, false≢true}
use Rattle.par_class.specs.declared.file.MethodFile.{MethodFile}
use Rattle.par_class.specs.declared.file.ClassFile.{ClassFile}
use Rattle.par_single.specs.Members.{own_name, is_static, is_method_of}
use Rattle.par_single.specs.Described.{main_member}
use Rattle.par_index.proofs.Places.{position-is_some}
use Rattle.par_step_laws.specs.State.{main_place}
use Rattle.par_loader.specs.Judged.{is_main, has_main}

module _ (p q : MethodFile → Bool) (each : (m : MethodFile) → p m ≡ true → q m ≡ true) where
  or_more : (m : MethodFile) (b : Bool) → p m ≡ b → (some more : Bool) → (some ≡ true → more ≡ true)
      → (b || some) ≡ true → (q m || more) ≡ true
  or_more m true e some more on h = ap (λ (c : Bool). c || more) (each m e)
  or_more m false e some more on h = behind (q m) (on h)
    where
      behind : (c : Bool) → more ≡ true → (c || more) ≡ true
      behind true is = refl
      behind false is = is

  any_more : (ms : List MethodFile) → list_any p ms ≡ true → list_any q ms ≡ true
  any_more [] some = absurd (false≢true some)
  any_more (m ∷ ms) some = or_more m (p m) refl (list_any p ms) (list_any q ms) (any_more ms) some

pub begins_there : (file : Option ClassFile) → IsTrue (has_main file) → IsSome (main_place file)
begins_there None begun = absurd (false≢true begun)
begins_there (Some file) begun =
    let is_static_main = is_main file.pool.entries in
    let is_main_of = is_method_of file.pool.entries (main_member (own_name file)) in
    position-is_some is_main_of file.methods
    ∙ any_more is_static_main is_main_of
    (λ m both. (and_parts (is_static m.access) (is_main_of m) both).1) file.methods begun
