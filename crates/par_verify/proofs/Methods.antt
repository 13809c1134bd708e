-- What linked files say of one of their methods.
use Rattle.std.proofs.Common.{◌≡◌, ℕ, zero, suc, ◌+◌, ◌<◌, ◌≤◌, Bool, true, false, List, [], ◌∷◌}
use Rattle.std.proofs.Common.{◌++◌, length, ⊎_elim, ◌⊎◌}
use Rattle.std.proofs.Common.{map, Some, None, is_some, sym, ap, ◌∙◌, codes}
use Rattle.std.proofs.lemmas.Bool.{and_parts, leb-true, cases_lt}
use Rattle.std.proofs.lemmas.Option.{slice_get_past}
use Rattle.std.specs.List.{slice_get, list_all}
use Rattle.par_class.specs.declared.file.CodeAttr.{CodeAttr}
use Rattle.par_class.specs.declared.file.MethodFile.{MethodFile}
use Rattle.par_class.specs.declared.file.ClassFile.{ClassFile}
use Rattle.par_values.specs.Areas.{Name, class_named, name_or_none}
use Rattle.par_single.specs.Members.{own_name, text_at, is_static}
use Rattle.par_single.specs.Links.{signature_said}
use Rattle.par_step_laws.specs.Classes.{class_names}
use Rattle.par_step_laws.specs.Methods.{method_file, method_code, method_descriptor, methods_of}
use Rattle.par_step_laws.specs.Methods.{pool_of, class_pool, code_in, code_or_none, descriptor_in}
use Rattle.par_kinds.specs.Linked.{coded_at, coded_in, static_in, first_frame, given_to, result_of}
use Rattle.par_kinds.specs.Linked.{taken_by}
use Rattle.par_link.specs.Linked.{AreLinked}
use Rattle.par_link.specs.Conditions.{is_short}
use Rattle.par_link.proofs.Faultless.{small}
use Rattle.par_verify.specs.Answers.{IsMethod}
use Rattle.par_verify.specs.Starts.{frame_with}

-- the names of the two exceptions that every program has
abbrev pub two : List Name
two = codes "ArithmeticException" ∷ codes "NullPointerException" ∷ []

name-from : (files : List ClassFile) (more : List Name) (c : ℕ) (file : ClassFile)
    → slice_get files c ≡ Some file
    → slice_get (map own_name files ++ more) c ≡ Some (own_name file)
name-from [] more c file at = absurd (cc at)
name-from (f ∷ files) more zero file at =
    let same : f ≡ file = cc at in ap (λ x. Some (own_name x)) same
name-from (f ∷ files) more (suc c) file at = name-from files more c file at

-- the class of a file has the name that the file says
pub class-name : (files : List ClassFile) (c : ℕ) (file : ClassFile) → slice_get files c ≡ Some file
    → class_named (class_names files) c ≡ own_name file
class-name files c file at = ap name_or_none (name-from files two c file at)

-- a file that is not there has no methods
pub not-listed : (files : List ClassFile) (class place : ℕ) → slice_get files class ≡ None
    → coded_at files class place ≡ false
not-listed files class place none =
    ap (λ o. coded_in (slice_get (methods_of o) place)) none

-- nor is there a method behind the last one of a file
pub not-there : (files : List ClassFile) (class place : ℕ) (file : ClassFile)
    → slice_get files class ≡ Some file → slice_get file.methods place ≡ None
    → coded_at files class place ≡ false
not-there files class place file listed none =
    ap (λ o. coded_in (slice_get (methods_of o) place)) listed ∙ ap coded_in none

-- a method with code stands in one of the files
pub class_there : (files : List ClassFile) (class place : ℕ) → coded_at files class place ≡ true
    → class < length files
class_there files class place coded =
    ⊎_elim (λ there. there)
    (λ past. let both : false ≡ true =
    sym (not-listed files class place (slice_get_past files class past)) ∙ coded in
    absurd (cc both))
    (cases_lt class (length files))

all-at : {A : Type 0} (p : A → Bool) (xs : List A) (n : ℕ) (x : A) → list_all p xs ≡ true
    → slice_get xs n ≡ Some x → p x ≡ true
all-at p [] n x all at = absurd (cc at)
all-at p (y ∷ xs) zero x all at =
    let same : y ≡ x = cc at in
    ap p (sym same) ∙ (and_parts (p y) (list_all p xs) all).0
all-at p (y ∷ xs) (suc n) x all at = all-at p xs n x (and_parts (p y) (list_all p xs) all).1 at

module _ (files : List ClassFile) (class : ℕ) (file : ClassFile) (place : ℕ) (m : MethodFile)
    (at : IsMethod files class file place m) where
  found : method_file files class place ≡ Some m
  found = ap (λ o. slice_get (methods_of o) place) at.listed ∙ at.there

  pub coded : (code : CodeAttr) → m.code ≡ Some code → coded_at files class place ≡ true
  coded code is = ap coded_in found ∙ ap is_some is

  pub uncoded : m.code ≡ None → coded_at files class place ≡ false
  uncoded is = ap coded_in found ∙ ap is_some is

  pub code : (code : CodeAttr) → m.code ≡ Some code → method_code files class place ≡ code
  code c is = ap code_in found ∙ ap code_or_none is

  descriptor : method_descriptor files class place ≡ text_at file.pool.entries m.descriptor
  descriptor =
      ap (descriptor_in (class_pool files class)) found
      ∙ ap (λ o. text_at (pool_of o) m.descriptor) at.listed

  pub gives : (signature_said (text_at file.pool.entries m.descriptor)).gives
      ≡ result_of files class place
  gives = ap (λ d. (signature_said d).gives) (sym descriptor)

  -- the frame of a call of it
  pub first : (c : CodeAttr) → m.code ≡ Some c
      → frame_with c.max_locals
      (given_to (is_static m.access) (own_name file)
      (signature_said (text_at file.pool.entries m.descriptor)).takes)
      ≡ first_frame files class place
  first c is =
      ap (λ (d : CodeAttr). frame_with d.max_locals (given_to (is_static m.access) (own_name file)
      (signature_said (text_at file.pool.entries m.descriptor)).takes)) (sym (code c is))
      ∙ ap (λ d. frame_with (method_code files class place).max_locals
      (given_to (is_static m.access) (own_name file) (signature_said d).takes)) (sym descriptor)
      ∙ ap (λ n. frame_with (method_code files class place).max_locals
      (given_to (is_static m.access) n (taken_by files class place)))
      (sym (class-name files class file at.listed))
      ∙ ap (λ s. frame_with (method_code files class place).max_locals
      (given_to s (class_named (class_names files) class) (taken_by files class place)))
      (sym (ap static_in found))

  -- its code is short where the files link
  pub short : AreLinked files → (c : CodeAttr) → m.code ≡ Some c → length c.code ≤ 65535
  short linked c is =
      leb-true (length c.code) 65535
      (ap is_short (sym is)
      ∙ all-at (λ n. is_short n.code) file.methods place m
      (small files linked class file at.listed).code at.there)
