-- The fields of loaded classes: what their names are to an instruction, and where they stand.
use Rattle.std.proofs.Common.{◌≡◌, ℕ, Bool, true, false, ◌&&◌, List, Option}
use Rattle.std.proofs.Common.{Some, None, slice_get, refl, sym, ap, ◌∙◌}
use Rattle.std.specs.List.{position}
use Rattle.std.specs.Option.{option_and_then}
use Rattle.std.specs.Str.{bytes_eq}
use Rattle.std.proofs.lemmas.Bool.{and_from}
use Rattle.par_typed.specs.declared.ty.Ty.{Ty}
use Rattle.par_typed.specs.declared.ty.Ty.TheVariants as ty
use Rattle.par_typed.specs.declared.table.ClassInfo.{ClassInfo}
use Rattle.par_typed.specs.declared.table.FieldInfo.{FieldInfo}
use Rattle.par_typed.specs.declared.table.Table.{Table}
use Rattle.par_typed.specs.Plain.{Body}
use Rattle.par_class.specs.declared.file.ClassFile.{ClassFile}
use Rattle.par_class.specs.declared.file.FieldFile.{FieldFile}
use Rattle.par_values.specs.declared.kind.Kind.{Kind}
use Rattle.par_values.specs.declared.link.Link.TheVariants as link
use Rattle.par_values.specs.Areas.{Name}
use Rattle.par_single.specs.Members.{Member, text_at, is_static}
use Rattle.par_single.specs.Links.{kind_or_any, kind_said}
use Rattle.par_single.specs.Described.{field_named}
use Rattle.par_match_laws.specs.par_link.entry.Named.TheVariants as named
use Rattle.par_match_laws.specs.par_link.Firsts.{first_repeated}
use Rattle.par_match_laws.specs.par_link.Named.{is_same, fields_of, declared, field_of}
use Rattle.par_match_laws.specs.par_link.Named.{field_declared}
use Rattle.par_match_laws.specs.par_link.Order.{at, member_fault, description_fault}
use Rattle.par_match_laws.specs.par_link.Order.{constant_fault}
use Rattle.par_match_laws.specs.par_link.Order.{code_fault}
use Rattle.par_match_laws.specs.par_link.Order.{file_fault}
use Rattle.par_match_laws.specs.par_link.Rules.{repeated_field, repeated_method}
use Rattle.par_match_laws.proofs.par_link.Faultless.{or-none, map-none, unbroken}
use Rattle.std.specs.Option.{option_or}
use Rattle.par_match_laws.specs.par_step_laws.Fields.{is_shared, field_place}
use Rattle.par_match_laws.specs.par_step_laws.Fields as fields
use Rattle.par_match_laws.specs.par_step_laws.FieldLaws.{IsFieldOf}
use Rattle.par_match_laws.specs.par_step_laws.Links.{link_of, field_link, field_in}
use Rattle.par_code_form.specs.Named.{of_class, of_field, class_word, descriptor, words_of}
use Rattle.par_match_laws.specs.Naming.{member, field_of_name}
use Rattle.par_source_code_laws.specs.par_evaluation_laws.Laid as laid
use Rattle.par_compile_laws.specs.DescriptorLaws.{IsValueType}
use Rattle.par_compile_laws.specs.DescriptorLaws as said
use Rattle.par_compile_laws.proofs.Described.{fields_are_described}
use Rattle.par_compile_laws.specs.Members.{member_access}
use Rattle.par_compile_laws.specs.Files as form
use Rattle.par_file_run_laws.specs.Layout.{spot_of, spot_in, spot}
use Rattle.par_file_run_laws.proofs.Lists.{Beside, beside, mapped-at, first-at}
use Rattle.par_file_run_laws.proofs.Texts.{text-said, text-itself}
use Rattle.par_file_run_laws.specs.Parts.{Known}
use Rattle.par_file_run_laws.proofs.Known.{Stands, number-is, own-said, class-named}

-- ---- kinds

pub kind-is : (table : Table) (t : Ty) → said.kind_of table t ≡ laid.kind_of (words_of table) t
kind-is table ty.Int = refl
kind-is table ty.Boolean = refl
kind-is table (ty.Class c) = refl
kind-is table ty.Null = refl
kind-is table ty.Void = refl

-- no two fields of a file that breaks no rule have one name and one descriptor
fields-apart : (files : List ClassFile) (file : ClassFile) → file_fault files file ≡ None
    → first_repeated is_same (fields_of file) ≡ None
unfolding member_fault
fields-apart files file none =
    let all =
    or-none (option_or (option_or (member_fault file) (description_fault file))
    (constant_fault files file)) (code_fault file) none in
    let three =
    or-none (option_or (member_fault file) (description_fault file)) (constant_fault files file)
    all.0 in
    let two = or-none (member_fault file) (description_fault file) three.0 in
    map-none _ (repeated_field file)
    (or-none (at 43 (repeated_field file)) (at 43 (repeated_method file)) two.0).0

pub static-access : (b : Bool) → is_static (member_access b) ≡ b
static-access true = refl
static-access false = refl

-- ---- a field of a loaded class

module _ (table : Table) (bodies : List Body) (files : List ClassFile)
    (known : Known table bodies files) (c n : ℕ) (s : Stands table bodies files c n)
    (f : ℕ) (info : FieldInfo) (has : slice_get s.class.fields f ≡ Some info) where
  pub there : Beside (form.IsFieldOf table s.file.pool.entries) info s.file.fields f
  there =
      beside (form.IsFieldOf table s.file.pool.entries) s.class.fields s.file.fields s.is.fields f
      info has

  -- the field in the file
  abbrev pub in_file : FieldFile
  in_file = there.item

  pub name-said : text_at s.file.pool.entries in_file.name ≡ info.name
  name-said = text-said s.file.pool.entries in_file.name info.name there.related.name

  pub type-said : text_at s.file.pool.entries in_file.descriptor ≡ descriptor table info.ty
  type-said =
      text-said s.file.pool.entries in_file.descriptor (descriptor table info.ty)
      there.related.descriptor_is

  pub static-said : is_shared in_file ≡ info.is_static
  static-said = ap is_static there.related.access ∙ static-access info.is_static

  pub is-of : IsFieldOf files n s.file f in_file
  is-of = record { listed = s.listed; stands = there.stands }

  -- its words
  pub name-word : (words_of table).field c f ≡ info.name
  name-word =
      ap (λ (o : Option ClassInfo). of_class o (λ class. of_field (slice_get class.fields f) (λ k.
      k.name)))
      s.there
      ∙ ap (λ (o : Option FieldInfo). of_field o (λ k. k.name)) has

  pub type-word : (words_of table).field_type c f ≡ descriptor table info.ty
  type-word =
      ap (λ (o : Option ClassInfo). of_class o (λ class. of_field (slice_get class.fields f) (λ k.
      descriptor table k.ty)))
      s.there
      ∙ ap (λ (o : Option FieldInfo). of_field o (λ k. descriptor table k.ty)) has

  -- it is the first of its name and descriptor
  placed-first : position
      (is_same (member (class_word table c) info.name (descriptor table info.ty)))
      (fields_of s.file) ≡ Some f
  placed-first =
      let entries = s.file.pool.entries in
      let here : Member = field_named entries in_file in
      ap (λ (name : Name). position (λ (other : Member). bytes_eq name other.name
      && bytes_eq (descriptor table info.ty) other.descriptor) (fields_of s.file))
      (sym name-said)
      ∙ ap (λ (of_type : Name). position (λ (other : Member). bytes_eq here.name other.name
      && bytes_eq of_type other.descriptor) (fields_of s.file))
      (sym type-said)
      ∙ first-at is_same (fields_of s.file)
      (fields-apart files s.file (unbroken files known.linked n s.file s.listed)) f here
      (mapped-at (field_named entries) s.file.fields f in_file there.stands)
      (and_from _ _ (text-itself here.name) (text-itself here.descriptor))

  named-field : field_declared files (member (class_word table c) info.name
      (descriptor table info.ty)) ≡ named.Field (record { class = n; place = f })
  unfolding field_of
  named-field =
      let m = member (class_word table c) info.name (descriptor table info.ty) in
      ap (field_of files m) (class-named table bodies files known c n s)
      ∙ ap (λ (o : Option ClassFile). declared named.Field n
      (option_and_then (λ file. position (is_same m) (fields_of file)) o)) s.listed
      ∙ ap (declared named.Field n) placed-first

  pub spot-is : spot files table c f ≡ field_place files n s.file f in_file
  spot-is =
      ap (λ (k : ℕ). spot_in files k f (slice_get files k))
      (number-is table bodies files known c n s)
      ∙ ap (spot_in files n f) s.listed ∙ ap (spot_of files n s.file f) there.stands

  pub kind-there : IsValueType table info.ty
      → fields.kind_of s.file.pool.entries in_file ≡ laid.kind_of (words_of table) info.ty
  kind-there value =
      ap kind_said type-said ∙ ap kind_or_any (fields_are_described table info.ty value)
      ∙ kind-is table info.ty

  -- what its name is to an instruction
  pub field-linked : IsValueType table info.ty
      → field_of_name files (class_word table c) ((words_of table).field c f)
      ((words_of table).field_type c f)
      ≡ link.Field (record {
        class = class_word table c;
        name = (words_of table).field c f;
        is_static = info.is_static;
        kind = laid.kind_of (words_of table) info.ty;
        place = spot files table c f;
      })
  field-linked value =
      let made = λ (class name : Name) (shared : Bool) (kind : Kind) (place : ℕ).
      link.Field (record {
        class = class;
        name = name;
        is_static = shared;
        kind = kind;
        place = place;
      }) in
      let kind = fields.kind_of s.file.pool.entries in_file in
      let place = field_place files n s.file f in_file in
      let text = text_at s.file.pool.entries in_file.name in
      ap (λ (name : Name). field_of_name files (class_word table c) name
      ((words_of table).field_type c f)) name-word
      ∙ ap (λ (of_type : Name). field_of_name files (class_word table c) info.name of_type)
      type-word
      ∙ ap (link_of files) named-field
      ∙ ap (field_in files n f) s.listed
      ∙ ap (field_link files n s.file f) there.stands
      ∙ ap (λ (class : Name). made class text (is_shared in_file) kind place)
      (own-said table bodies files known c n s)
      ∙ ap (λ (name : Name). made (class_word table c) name (is_shared in_file) kind place)
      (name-said ∙ sym name-word)
      ∙ ap (λ (b : Bool). made (class_word table c) ((words_of table).field c f) b kind place)
      static-said
      ∙ ap (λ (k : Kind). made (class_word table c) ((words_of table).field c f) info.is_static k
      place) (kind-there value)
      ∙ ap (made (class_word table c) ((words_of table).field c f) info.is_static
      (laid.kind_of (words_of table) info.ty)) (sym spot-is)
