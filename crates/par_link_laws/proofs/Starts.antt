-- The file of the class with `main` has a method that a run begins with.
use Rattle.std.proofs.Common.{◌≡◌, ℕ, ◌+◌, Bool, true, ◌&&◌, List, []}
use Rattle.std.proofs.Common.{◌∷◌, ◌++◌, map, Option, Some, None, slice_get, codes, refl, sym, ap}
use Rattle.std.proofs.Common.{◌∙◌}
use Rattle.std.proofs.lemmas.Bool.{and_from, and_parts, or_right}
use Rattle.std.proofs.lemmas.List.Folds.{list_any-append}
use Rattle.std.specs.List.{list_any}
use Rattle.std.specs.Str.{bytes_eq}
use Rattle.par_typed.specs.declared.table.ClassInfo.{ClassInfo}
use Rattle.par_typed.specs.declared.table.MethodInfo.{MethodInfo}
use Rattle.par_typed.specs.declared.table.ParamInfo.{ParamInfo}
use Rattle.par_typed.specs.declared.ty.Ty.{Ty}
use Rattle.par_typed.specs.declared.table.Table.{Table}
use Rattle.par_typed.specs.Plain.{TSta, Body}
use Rattle.par_typed.specs.Members.{methods_in}
use Rattle.par_class.specs.declared.file.ClassFile.{ClassFile}
use Rattle.par_class.specs.declared.file.MethodFile.{MethodFile}
use Rattle.par_compile_laws.specs.par_single.Descriptors.{Text}
use Rattle.par_compile_laws.specs.par_single.Members.{own_name, is_static, text_at, is_method_of}
use Rattle.par_compile_laws.specs.par_single.Described.{main_member}
use Rattle.par_compile_laws.specs.par_code_form.Named.{class_word, descriptor, descriptors}
use Rattle.par_compile_laws.specs.par_code_form.Named.{method_descriptor}
use Rattle.par_loader.proofs.par_link.Passing.{any-at}
use Rattle.par_loader.specs.Judged.{is_main, has_main}
use Rattle.par_compile_laws.specs.Files.{FIRST_DECLARED, IsFileOf, IsMethodOf}
use Rattle.par_compile_laws.specs.Members.{Member, member_access, initializer, channel, method}
use Rattle.par_compile_laws.specs.Members.{methods_from, members}
use Rattle.par_link_laws.specs.Parts.{AreFilesOf}
use Rattle.par_link_laws.specs.Linkable.{HasMain, IsLinkable}
use Rattle.par_link_laws.proofs.Items.{IsOwner, owner, from-at}
use Rattle.par_link_laws.proofs.Program.{HasFile, file-of}
use Rattle.par_link_laws.proofs.Texts.{text-is}
use Rattle.par_link_laws.proofs.Zips.{zip-any}

-- a static method `main` of no arguments and no result
abbrev begins_with : Member → Bool
begins_with m =
    is_static m.access && (bytes_eq m.name (codes "main") && bytes_eq m.descriptor (codes "()V"))

module _ (table : Table) (bodies : List Body) (all : List ClassFile) (l : IsLinkable table bodies)
    (files : AreFilesOf table bodies all) where
  main : HasMain table
  main = l.main

  -- what it takes and gives
  nothing-said : method_descriptor table main.info ≡ codes "()V"
  nothing-said =
      ap (λ (ps : List ParamInfo). codes "(" ++ descriptors table ps ++ codes ")"
      ++ descriptor table (main.info).result) main.params
      ∙ ap (λ (t : Ty). codes "(" ++ codes ")" ++ descriptor table t) main.result

  member-begins : (body : Option TSta)
      → begins_with (method table bodies main.info body) ≡ true
  member-begins body =
      and_from (is_static (member_access (main.info).is_static))
      (bytes_eq (main.info).name (codes "main")
      && bytes_eq (method_descriptor table main.info) (codes "()V"))
      (ap (λ (b : Bool). is_static (member_access b)) main.is_static)
      (and_from (bytes_eq (main.info).name (codes "main"))
      (bytes_eq (method_descriptor table main.info) (codes "()V"))
      (ap (λ (n : Text). bytes_eq n (codes "main")) main.named)
      (ap (λ (d : Text). bytes_eq d (codes "()V")) nothing-said))

  some-begins : (c : ℕ) (class : ClassInfo) → slice_get class.methods main.number ≡ Some main.info
      → list_any begins_with (members table bodies c class) ≡ true
  some-begins c class at =
      let found = from-at table bodies c 0 main.number class.methods main.info at in
      let before : List Member = initializer class ∷ map channel class.channels in
      let later : List Member = methods_from table bodies c 0 class.methods in
      list_any-append begins_with before later
      ∙ or_right (list_any begins_with before) (list_any begins_with later)
      (any-at begins_with later main.number (method table bodies main.info found.0) found.1
      (member-begins found.0))

  partner-begins : (c : ℕ) (class : ClassInfo) (file : ClassFile)
      → IsFileOf table bodies c class file → (m : Member) (x : MethodFile)
      → begins_with m ≡ true → IsMethodOf file.pool.entries m x
      → is_main file.pool.entries x ≡ true
  partner-begins c class file is m x passes of =
      let both =
      and_parts (is_static m.access)
      (bytes_eq m.name (codes "main") && bytes_eq m.descriptor (codes "()V")) passes in
      let texts =
      and_parts (bytes_eq m.name (codes "main")) (bytes_eq m.descriptor (codes "()V")) both.1 in
      and_from (is_static x.access) (is_method_of file.pool.entries (main_member []) x)
      (ap is_static of.access ∙ both.0)
      (and_from (bytes_eq (text_at file.pool.entries x.name) (codes "main"))
      (bytes_eq (text_at file.pool.entries x.descriptor) (codes "()V"))
      (ap (λ (n : Text). bytes_eq n (codes "main"))
      (text-is file.pool.entries x.name m.name of.name) ∙ texts.0)
      (ap (λ (d : Text). bytes_eq d (codes "()V"))
      (text-is file.pool.entries x.descriptor m.descriptor of.descriptor_is) ∙ texts.1))

  -- the file with which loading begins
  pub record IsMainFile : Type 0 where
    pub at : ℕ
    pub file : ClassFile
    pub listed : slice_get all at ≡ Some file
    pub own : own_name file ≡ class_word table table.main
    pub begins : has_main (Some file) ≡ true

  pub main-file : IsMainFile
  main-file = in_class (slice_get table.classes table.main) refl main.there where
    in_class : (o : Option ClassInfo) → slice_get table.classes table.main ≡ o
        → slice_get (methods_in o) main.number ≡ Some main.info → IsMainFile
    in_class None at has = absurd (cc has)
    in_class (Some k) at has =
        let o : IsOwner table bodies all l files table.main k =
        owner table bodies all l files table.main k at
        (λ none. absurd (cc (sym (ap (λ (ms : List MethodInfo). slice_get ms main.number)
        none.methods) ∙ has))) in
        let f : HasFile table bodies l all files o.place k =
        file-of table bodies l all files o.place k o.there in
        record {
          at = o.place;
          file = f.file;
          listed = f.listed;
          own = f.own ∙ sym o.word;
          begins =
              zip-any (IsMethodOf (f.file).pool.entries) begins_with
              (is_main (f.file).pool.entries)
              (members table bodies (FIRST_DECLARED + o.place) k) (f.file).methods
              (f.is).methods
              (partner-begins (FIRST_DECLARED + o.place) k f.file f.is)
              (some-begins (FIRST_DECLARED + o.place) k has);
        }
