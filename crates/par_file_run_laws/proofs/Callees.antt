-- The methods and channels of loaded classes: what their names are to an instruction.
use Rattle.std.proofs.Common.{◌≡◌, ℕ, zero, suc, ◌+◌, false, cond, ◌&&◌, List, [], ◌∷◌}
use Rattle.std.proofs.Common.{◌++◌, length, map, Option, Some, None, slice_get, is_some, refl, sym}
use Rattle.std.proofs.Common.{ap, ◌∙◌, arith}
use Rattle.std.specs.List.{position}
use Rattle.std.specs.Option.{option_and_then}
use Rattle.std.specs.Str.{bytes_eq}
use Rattle.std.proofs.lemmas.Bool.{and_from}
use Rattle.std.proofs.lemmas.List.{length-map}
use Rattle.par_typed.specs.declared.table.ChannelInfo.{ChannelInfo}
use Rattle.par_typed.specs.declared.table.ClassInfo.{ClassInfo}
use Rattle.par_typed.specs.declared.table.MethodInfo.{MethodInfo}
use Rattle.par_typed.specs.declared.table.Table.{Table}
use Rattle.par_typed.specs.Plain.{Body}
use Rattle.par_class.specs.declared.file.ClassFile.{ClassFile}
use Rattle.par_class.specs.declared.file.CodeAttr.{CodeAttr}
use Rattle.par_class.specs.declared.file.MethodFile.{MethodFile}
use Rattle.par_class.specs.Spelling.{is_native}
use Rattle.par_pool.specs.declared.constant.Constant.{Constant}
use Rattle.par_values.specs.declared.kind.Kind.TheVariants.{Object}
use Rattle.par_values.specs.declared.link.Link.{Link}
use Rattle.par_values.specs.declared.link.Link.TheVariants as link
use Rattle.par_values.specs.declared.link.Target.TheVariants as to
use Rattle.par_values.specs.Areas.{Name}
use Rattle.par_run_laws.specs.Names.{body_of}
use Rattle.par_single.specs.Members.{Member, text_at, is_static, is_initializer}
use Rattle.par_single.specs.Links.{signature_said, locals_of}
use Rattle.par_single.specs.Described.{method_named}
use Rattle.par_match_laws.specs.par_link.entry.Named.TheVariants as named
use Rattle.par_match_laws.specs.par_link.Named.{is_same, methods_of, declared, method_of}
use Rattle.par_match_laws.specs.par_link.Named.{method_declared}
use Rattle.par_match_laws.proofs.par_link.Faultless.{unbroken, methods-apart}
use Rattle.par_match_laws.specs.par_step_laws.Links.{link_of, method_link, method_in, channel_of}
use Rattle.par_match_laws.specs.Files.{is_of_exceptions}
use Rattle.par_code_form.specs.declared.labelled.Labelled.{Labelled}
use Rattle.par_code_form.specs.Named.{class_word}
use Rattle.par_match_laws.specs.Naming.{member, method_of_name}
use Rattle.par_compile_laws.specs.Members.{members, methods_from, channel, method}
use Rattle.par_compile_laws.specs.Members as form
use Rattle.par_compile_laws.specs.Files.{IsCode, IsMethodOf}
use Rattle.par_file_run_laws.proofs.Lists.{Beside, beside, mapped-at, front-at, behind-at, first-at}
use Rattle.par_file_run_laws.proofs.Texts.{text-said, text-itself}
use Rattle.par_file_run_laws.specs.Parts.{Known}
use Rattle.par_file_run_laws.proofs.Known.{Stands, own-said, class-named}

-- how many locals code has
abbrev pub locals_in : Option Labelled → ℕ
locals_in None = 0
locals_in (Some code) = code.max_locals

same-locals : (pool : List Constant) (code : Option Labelled) (attr : Option CodeAttr)
    → IsCode pool code attr → locals_of attr ≡ locals_in code
same-locals pool None None is = refl
same-locals pool None (Some attr) is = absurd is
same-locals pool (Some code) None is = absurd is
same-locals pool (Some code) (Some attr) is = is.max_locals

-- what a method at a place of a class is to an instruction
abbrev pub callee : (n place : ℕ) (class name of_type : Name) (access locals : ℕ) → Link
callee n place class name of_type access locals =
    link.Method (record {
      is_static = is_static access;
      is_initializer =
          is_initializer (record { class = []; name = name; descriptor = of_type });
      receiver = Object class;
      takes = (signature_said of_type).takes;
      gives = is_some (signature_said of_type).gives;
      target = cond (is_native access)
          (channel_of class name (signature_said of_type).takes) (to.Code n place locals);
    })

-- ---- a member of a loaded class

module _ (table : Table) (bodies : List Body) (files : List ClassFile)
    (known : Known table bodies files) (c n : ℕ) (s : Stands table bodies files c n)
    (place : ℕ) (m : form.Member)
    (has : slice_get (members table bodies c s.class) place ≡ Some m) where
  pub there : Beside (IsMethodOf s.file.pool.entries) m s.file.methods place
  there =
      beside (IsMethodOf s.file.pool.entries) (members table bodies c s.class) s.file.methods
      s.is.methods place m has

  abbrev in_file : MethodFile
  in_file = there.item

  name-said : text_at s.file.pool.entries in_file.name ≡ m.name
  name-said = text-said s.file.pool.entries in_file.name m.name there.related.name

  pub type-said : text_at s.file.pool.entries in_file.descriptor ≡ m.descriptor
  type-said =
      text-said s.file.pool.entries in_file.descriptor m.descriptor there.related.descriptor_is

  pub listed : slice_get s.file.methods place ≡ Some there.item
  listed = there.stands

  -- it is the first of its name and descriptor
  pub placed-first : position (is_same (member (class_word table c) m.name m.descriptor))
      (methods_of s.file) ≡ Some place
  placed-first =
      let entries = s.file.pool.entries in
      let here : Member = method_named entries in_file in
      ap (λ (name : Name). position (λ (other : Member). bytes_eq name other.name
      && bytes_eq m.descriptor other.descriptor) (methods_of s.file))
      (sym name-said)
      ∙ ap (λ (of_type : Name). position (λ (other : Member). bytes_eq here.name other.name
      && bytes_eq of_type other.descriptor) (methods_of s.file))
      (sym type-said)
      ∙ first-at is_same (methods_of s.file)
      (methods-apart files s.file (unbroken files known.linked n s.file s.listed)) place here
      (mapped-at (method_named entries) s.file.methods place in_file there.stands)
      (and_from _ _ (text-itself here.name) (text-itself here.descriptor))

  named-method : method_declared files (member (class_word table c) m.name m.descriptor)
      ≡ named.Method (record { class = n; place = place })
  unfolding method_of
  named-method =
      let sought = member (class_word table c) m.name m.descriptor in
      ap (method_of files sought) (class-named table bodies files known c n s)
      ∙ ap (λ (o : Option ClassFile). declared named.Method n
      (option_and_then (λ file. position (is_same sought) (methods_of file)) o)) s.listed
      ∙ ap (declared named.Method n) placed-first

  -- it takes any object, not those of exceptions alone
  pub takes-any : is_of_exceptions (method_declared files (member (class_word table c) m.name
      m.descriptor)) ≡ false
  takes-any = ap is_of_exceptions named-method

  pub method-linked : method_of_name files (class_word table c) m.name m.descriptor
      ≡ callee n place (class_word table c) m.name m.descriptor m.access (locals_in m.code)
  method-linked =
      let entries = s.file.pool.entries in
      let locals = locals_of in_file.code in
      let text = text_at entries in_file.name in
      let type_text = text_at entries in_file.descriptor in
      ap (link_of files) named-method
      ∙ ap (method_in n place) s.listed
      ∙ ap (method_link n s.file place) there.stands
      ∙ ap (λ (class : Name). callee n place class text type_text in_file.access locals)
      (own-said table bodies files known c n s)
      ∙ ap (λ (name : Name). callee n place (class_word table c) name type_text in_file.access
      locals) name-said
      ∙ ap (λ (of_type : Name). callee n place (class_word table c) m.name of_type in_file.access
      locals) type-said
      ∙ ap (λ (access : ℕ). callee n place (class_word table c) m.name m.descriptor access locals)
      there.related.access
      ∙ ap (callee n place (class_word table c) m.name m.descriptor m.access)
      (same-locals entries m.code in_file.code there.related.code)

-- ---- where members stand

from-at : (table : Table) (bodies : List Body) (c k : ℕ) (ms : List MethodInfo) (i : ℕ)
    (m : MethodInfo) → slice_get ms i ≡ Some m
    → slice_get (methods_from table bodies c k ms) i
    ≡ Some (method table bodies m (body_of bodies c (k + i)))
from-at table bodies c k [] i m at = absurd (cc at)
from-at table bodies c k (x ∷ ms) zero m at =
    let same : x ≡ m = cc at in
    let here : k ≡ k + 0 = omega arith in
    ap (λ (y : MethodInfo). Some (method table bodies y (body_of bodies c k))) same
    ∙ ap (λ (j : ℕ). Some (method table bodies m (body_of bodies c j))) here
from-at table bodies c k (x ∷ ms) (suc i) m at =
    let here : suc k + i ≡ k + suc i = omega arith in
    from-at table bodies c (suc k) ms i m at
    ∙ ap (λ (j : ℕ). Some (method table bodies m (body_of bodies c j))) here

module _ (table : Table) (bodies : List Body) (c : ℕ) (class : ClassInfo) where
  pub initializer-at : slice_get (members table bodies c class) 0 ≡ Some (form.initializer class)
  initializer-at = refl

  pub channel-at : (k : ℕ) (ch : ChannelInfo) → slice_get class.channels k ≡ Some ch
      → slice_get (members table bodies c class) (suc k) ≡ Some (channel ch)
  channel-at k ch at =
      front-at (map channel class.channels) (methods_from table bodies c 0 class.methods) k
      (channel ch) (mapped-at channel class.channels k ch at)

  pub method-at : (i : ℕ) (m : MethodInfo) → slice_get class.methods i ≡ Some m
      → slice_get (members table bodies c class) (suc (length class.channels + i))
      ≡ Some (method table bodies m (body_of bodies c i))
  method-at i m at =
      let methods = methods_from table bodies c 0 class.methods in
      let long : length class.channels ≡ length (map channel class.channels) =
      sym (length-map class.channels channel) in
      let first : 0 + i ≡ i = omega arith in
      ap (λ (l : ℕ). slice_get (map channel class.channels ++ methods) (l + i)) long
      ∙ behind-at (map channel class.channels) methods i
      ∙ from-at table bodies c 0 class.methods i m at
      ∙ ap (λ (j : ℕ). Some (method table bodies m (body_of bodies c j))) first
