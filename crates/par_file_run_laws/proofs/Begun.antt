-- A run of the files begins with the method with which the program begins.
use Rattle.std.proofs.Common.{◌≡◌, ℕ, suc, ◌+◌, Bool, true, false, not, cond, ◌&&◌, List, []}
use Rattle.std.proofs.Common.{◌++◌, ◌∷◌, length, map, Option, Some, slice_get, refl, sym, ap, subst}
use Rattle.std.proofs.Common.{◌∙◌, codes}
use Rattle.std.specs.List.{position, position_from, position_or_len}
use Rattle.std.specs.Str.{bytes_eq}
use Rattle.par_index.proofs.Places.{position-from, position-map}
use Rattle.par_match_laws.proofs.par_link.Passing.{eq_turned}
use Rattle.par_typed.specs.declared.ty.Ty.{Ty}
use Rattle.par_typed.specs.declared.ty.Ty.TheVariants as ty
use Rattle.par_typed.specs.declared.table.ClassInfo.{ClassInfo}
use Rattle.par_typed.specs.declared.table.MethodInfo.{MethodInfo}
use Rattle.par_typed.specs.declared.table.ParamInfo.{ParamInfo}
use Rattle.par_typed.specs.declared.table.Table.{Table}
use Rattle.par_typed.specs.Plain.{Body}
use Rattle.par_class.specs.declared.file.ClassFile.{ClassFile}
use Rattle.par_class.specs.declared.file.MethodFile.{MethodFile}
use Rattle.par_values.specs.Areas.{Name}
use Rattle.par_run_laws.specs.Names.{body_of, main_of, main_in, place_of}
use Rattle.par_single.specs.Members.{own_name, is_method_of, text_at}
use Rattle.par_single.specs.Described.{main_member, method_named}
use Rattle.par_match_laws.specs.par_link.Named.{is_same, methods_of}
use Rattle.par_match_laws.specs.par_step_laws.State.{main_place}
use Rattle.par_code_form.specs.declared.labelled.Labelled.{Labelled}
use Rattle.par_code_form.specs.Named.{class_word, descriptor, descriptors, method_descriptor}
use Rattle.par_match_laws.specs.Naming.{member}
use Rattle.par_compile_laws.specs.Members.{method}
use Rattle.par_source_code_laws.specs.par_evaluation_laws.Laid.{Meth, HasMethod, given_types}
use Rattle.par_file_run_laws.specs.Layout.{layout_of}
use Rattle.par_file_run_laws.specs.Code.{code_at}
use Rattle.par_file_run_laws.specs.Parts.{Known}
use Rattle.par_file_run_laws.specs.LayoutLaws.{BeginsAtMain, ProgramsBeginAtMain}
use Rattle.par_file_run_laws.proofs.Lists.{same-item}
use Rattle.par_file_run_laws.proofs.Texts.{same-text, text-itself}
use Rattle.par_file_run_laws.proofs.Known.{Stands, number-is}
use Rattle.par_file_run_laws.proofs.Callees.{placed-first, method-at}
use Rattle.par_file_run_laws.proofs.Held.{MethodIn, method-in}
use Rattle.par_file_run_laws.proofs.Methods as methods
use Rattle.par_file_run_laws.proofs.Codes.{main-stands, body-there}

-- tests that agree find one place
from-alike : {A : Type 0} (p q : A → Bool) → ((x : A) → p x ≡ q x) → (k : ℕ) (xs : List A)
    → position_from p k xs ≡ position_from q k xs
from-alike p q same k [] = refl
from-alike p q same k (x ∷ xs) =
    ap (λ (b : Bool). cond b (Some k) (position_from p (k + 1) xs)) (same x)
    ∙ ap (cond (q x) (Some k)) (from-alike p q same (k + 1) xs)

alike : {A : Type 0} (p q : A → Bool) → ((x : A) → p x ≡ q x) → (xs : List A)
    → position p xs ≡ position q xs
alike p q same xs =
    position-from p xs ∙ from-alike p q same 0 xs ∙ sym (position-from q xs)

first-passes : {A : Type 0} (p : A → Bool) (xs : List A) (x : A) → slice_get xs 0 ≡ Some x
    → p x ≡ true → position_or_len p xs ≡ 0
first-passes p [] x at passes = absurd (cc at)
first-passes p (y ∷ xs) x at passes =
    let same : y ≡ x = cc at in
    ap (λ (b : Bool). cond (not b) (1 + position_or_len p xs) 0) (ap p same ∙ passes)

-- the first method of a name has this name
named-so : (name : Name) (ms : List MethodInfo) (m : MethodInfo)
    → slice_get ms (place_of name ms) ≡ Some m → m.name ≡ name
named-so name [] m at = absurd (cc at)
named-so name (x ∷ ms) m at =
    in_case (bytes_eq x.name name) refl (λ later. named-so name ms m later)
  where
    in_case : (b : Bool) → bytes_eq x.name name ≡ b
        → (slice_get ms (place_of name ms) ≡ Some m → m.name ≡ name) → m.name ≡ name
    in_case true is later =
        let first : slice_get (x ∷ ms) (cond true 0 (suc (place_of name ms))) ≡ Some m =
        subst (λ (c : Bool). slice_get (x ∷ ms) (cond c 0 (suc (place_of name ms))) ≡ Some m) is
        at in
        ap (λ (y : MethodInfo). y.name) (sym (same-item x m first)) ∙ same-text x.name name is
    in_case false is later =
        let behind : slice_get (x ∷ ms) (cond false 0 (suc (place_of name ms))) ≡ Some m =
        subst (λ (c : Bool). slice_get (x ∷ ms) (cond c 0 (suc (place_of name ms))) ≡ Some m) is
        at in
        later behind

no-params : (c : ℕ) (static : Bool) (ps : List ParamInfo)
    → cond static (map (λ p. p.ty) ps) (ty.Class c ∷ map (λ p. p.ty) ps) ≡ [] → ps ≡ []
no-params c true [] none = refl
no-params c true (p ∷ ps) none = absurd (cc none)
no-params c false ps none = absurd (cc none)

module _ (table : Table) (bodies : List Body) (files : List ClassFile)
    (known : Known table bodies files) (me : Meth)
    (has : HasMethod (layout_of files table bodies) table.main (main_of table) me)
    (takes : given_types table.main me ≡ []) (gives : me.result ≡ ty.Void) where
  abbrev s : Stands table bodies files table.main 0
  s = main-stands table bodies files known

  abbrev is : MethodIn bodies s.class table.main (main_of table) me
  is = method-in table bodies files known table.main (main_of table) me has 0 s

  named-main : is.info.name ≡ codes "main"
  named-main =
      named-so (codes "main") s.class.methods is.info
      (ap (λ (o : Option ClassInfo). slice_get s.class.methods (main_in o)) (sym s.there) ∙ is.has)

  of-nothing : method_descriptor table is.info ≡ codes "()V"
  of-nothing =
      let params : is.info.params ≡ [] =
      no-params table.main is.info.is_static is.info.params
      (ap (given_types table.main) is.is ∙ takes) in
      let result : is.info.result ≡ ty.Void =
      ap (λ (x : Meth). x.result) is.is ∙ gives in
      ap (λ (ps : List ParamInfo). codes "(" ++ descriptors table ps ++ codes ")"
      ++ descriptor table is.info.result) params
      ∙ ap (λ (t : Ty). codes "(" ++ [] ++ codes ")" ++ descriptor table t) result

  found-so : main_place (Some s.file) ≡ Some (suc (length s.class.channels + main_of table))
  found-so =
      let entries = s.file.pool.entries in
      let sought = main_member (own_name s.file) in
      alike (is_method_of entries sought)
      (λ (f : MethodFile). is_same (member (class_word table table.main) (codes "main")
      (codes "()V")) (method_named entries f))
      (λ f. turned (text_at entries f.name) (text_at entries f.descriptor)) s.file.methods
      ∙ sym (position-map (is_same (member (class_word table table.main) (codes "main")
      (codes "()V"))) (method_named entries) s.file.methods)
      ∙ ap (λ (name : Name). position (is_same (member (class_word table table.main) name
      (codes "()V"))) (methods_of s.file)) (sym named-main)
      ∙ ap (λ (of_type : Name). position (is_same (member (class_word table table.main)
      is.info.name of_type)) (methods_of s.file)) (sym of-nothing)
      ∙ placed-first table bodies files known table.main 0 s
      (suc (length s.class.channels + main_of table))
      (method table bodies is.info (body_of bodies table.main (main_of table)))
      (method-at table bodies table.main s.class (main_of table) is.info is.has)
    where
      turned : (name of_type : Name)
          → (bytes_eq name (codes "main") && bytes_eq of_type (codes "()V"))
          ≡ (bytes_eq (codes "main") name && bytes_eq (codes "()V") of_type)
      turned name of_type =
          ap (λ (b : Bool). b && bytes_eq of_type (codes "()V")) (eq_turned name (codes "main"))
          ∙ ap (λ (b : Bool). bytes_eq (codes "main") name && b) (eq_turned of_type (codes "()V"))

  begins-at-main : BeginsAtMain table bodies files me
  begins-at-main =
      let place = methods.place-is table bodies files known table.main 0 s (main_of table) me is in
      record {
        class =
            first-passes (λ file. bytes_eq (own_name file) (class_word table table.main)) files
            known.main.0 known.main.1
            (ap (λ (name : Name). bytes_eq name (class_word table table.main)) known.main.2
            ∙ text-itself (class_word table table.main));
        number = number-is table bodies files known table.main 0 s;
        method =
            ap main_place s.listed ∙ found-so ∙ ap Some (sym place);
        locals =
            ap (λ (at : ℕ). (code_at table bodies files 0 at).max_locals) place
            ∙ ap (λ (code : Labelled). code.max_locals)
            (body-there table bodies files known table.main 0 s (main_of table) me is)
            ∙ ap (λ (x : Meth). x.many) is.is;
      }

pub begins_at_main : ProgramsBeginAtMain
begins_at_main table bodies files known me has takes gives =
    begins-at-main table bodies files known me has takes gives
