-- The file of a class has a spelling.
use Rattle.std.proofs.Common.{◌≡◌, ℕ, zero, suc, ◌+◌, ◌^◌, ◌<◌, Bool, true, false, List, []}
use Rattle.std.proofs.Common.{◌∷◌, ◌++◌, length, map, Option, Some, None, refl, sym, ap, subst, ◌∙◌}
use Rattle.std.proofs.Common.{arith}
use Rattle.std.specs.Prelude.{IsTrue, codes, not, is_some, ◌==◌, if◌then◌else◌}
use Rattle.std.specs.List.{AllByRecursion, AllZip}
use Rattle.std.proofs.lemmas.Bool.{or_left, or_right}
use Rattle.std.proofs.lemmas.List.{length-map}
use Rattle.std.proofs.lemmas.Option.{none-some, slice_get_within}
use Rattle.std.proofs.lemmas.Slice.Zip.{AllZip-long}
use Rattle.par_pool.specs.declared.constant.Constant.{Constant}
use Rattle.par_pool.specs.declared.constant.Constant.TheVariants.{Utf8, Class}
use Rattle.par_pool.specs.Entries.{entry_at, IsAt, IsUtf8At, IsClassAt}
use Rattle.par_pool.specs.Spelling.{is_text, is_class}
use Rattle.par_typed.specs.declared.table.ClassInfo.{ClassInfo}
use Rattle.par_typed.specs.declared.table.FieldInfo.{FieldInfo}
use Rattle.par_typed.specs.declared.table.Table.{Table}
use Rattle.par_class.specs.declared.file.Attribute.{Attribute}
use Rattle.par_class.specs.declared.file.CodeAttr.{CodeAttr}
use Rattle.par_class.specs.declared.file.FieldFile.{FieldFile}
use Rattle.par_class.specs.declared.file.MethodFile.{MethodFile}
use Rattle.par_class.specs.declared.file.ClassFile.{ClassFile}
use Rattle.par_class.specs.declared.file.Piece.{Piece}
use Rattle.par_class.specs.declared.file.Piece.TheVariants.{Plain}
use Rattle.par_class.specs.Spelling.{is_named, is_class_named, is_super, is_native}
use Rattle.par_class.specs.Spelling.{is_coded, is_version}
use Rattle.par_class.specs.Spelling.{AllFit, IsTextIndex, IsClassIndex, FitsAttribute}
use Rattle.par_class.specs.Spelling.{FitsPiece, FitsField, FitsMethod, IsLayout, Spells}
use Rattle.par_compile.specs.Whole.{IsOwnFile, has_long_code}
use Rattle.par_class.specs.Writing.{least_code, code_piece, pieces_of, method_laid, layout_of}
use Rattle.par_class.proofs.Written.{least_named, has_spelling}
use Rattle.par_values.specs.Areas.{Name}
use Rattle.par_code_form.specs.Named.{descriptor}
use Rattle.par_compile_laws.specs.Members.{Member, member_access, above}
use Rattle.par_compile_laws.specs.Files.{IsFieldOf, version}
use Rattle.par_compile.specs.Drafts.{CodeFits, IsShort, HasShortCode, IsPut}
use Rattle.par_compile.proofs.Long.{all_short}

module _ (entries : List Constant) (few : length entries + 1 < 2 ^ 16) where
  -- ---- indices

  below : (i : ℕ) (c : Constant) → IsAt entries i c → i < 2 ^ 16
  below zero c h = absurd (none-some c h)
  below (suc i) c h = omega (arith, slice_get_within entries i c h, few)

  text-index : (i : ℕ) (text : Name) → IsUtf8At entries i text → IsTextIndex entries i
  text-index i text h = (below i (Utf8 text) h, ap is_text h)

  class-index : (i : ℕ) (name : Name) → IsClassAt entries i name → IsClassIndex entries i
  class-index i name h = (below i (Class h.text) h.entry, ap is_class h.entry)

  class-named : (i : ℕ) (name : Name) → is_named name (Some (Utf8 name)) ≡ true
      → IsClassAt entries i name → is_class_named name entries (entry_at entries i) ≡ true
  class-named i name e h =
      ap (is_class_named name entries) h.entry ∙ (ap (is_named name) h.is_name ∙ e)

  is-above : (exception : Bool) (i : ℕ) → IsClassAt entries i (above exception)
      → IsTrue (is_super entries i)
  is-above false i h =
      or_left (is_class_named (codes "java/lang/Object") entries (entry_at entries i))
      (is_class_named (codes "java/lang/Exception") entries (entry_at entries i))
      (class-named i (codes "java/lang/Object") refl h)
  is-above true i h =
      or_right (is_class_named (codes "java/lang/Object") entries (entry_at entries i))
      (is_class_named (codes "java/lang/Exception") entries (entry_at entries i))
      (class-named i (codes "java/lang/Exception") refl h)

  -- ---- members

  none-fit : (xs : List Attribute) → xs ≡ [] → AllFit (FitsAttribute entries) xs
  none-fit xs e =
      subst (λ (ys : List Attribute). AllFit (FitsAttribute entries) ys) (sym e) (omega arith, tt)

  small-access : (is_static : Bool) → member_access is_static < 2 ^ 16
  small-access true = omega arith
  small-access false = omega arith

  field-fits : (table : Table) (d : FieldInfo) (f : FieldFile) → IsFieldOf table entries d f
      → FitsField entries f
  field-fits table d f h = record {
    access = omega (arith, h.access, small-access d.is_static);
    name = text-index f.name d.name h.name;
    descriptor = text-index f.descriptor (descriptor table d.ty) h.descriptor_is;
    attributes = none-fit f.attributes h.attributes;
  }

  fields-fit : (table : Table) (ds : List FieldInfo) (fs : List FieldFile)
      → AllZip (IsFieldOf table entries) ds fs → AllByRecursion (FitsField entries) fs
  fields-fit table [] [] h = tt
  fields-fit table [] (f ∷ fs) h = absurd h
  fields-fit table (d ∷ ds) [] h = absurd h
  fields-fit table (d ∷ ds) (f ∷ fs) h = (field-fits table d f h.0, fields-fit table ds fs h.1)

  -- the index under which code is written
  abbrev least : ℕ
  least = least_code entries

  -- what the attributes of a method are, and how many of them are code
  record AreFine (access : ℕ) (ps : List Piece) : Type 0 where
    fit : AllFit (FitsPiece entries) ps
    coded : IsTrue (is_coded access ps)

  pieces-fine : (named : ℕ) (access : ℕ) (o : Option CodeAttr)
      → IsUtf8At entries named (codes "Code") → CodeFits entries o → IsShort o → HasShortCode o
      → is_native access ≡ not (is_some o) → AreFine access (code_piece least o ++ [])
  pieces-fine named access None at fits short small native = record {
    fit = (omega arith, tt);
    coded = ap (λ (b : Bool). 0 == (if b then 0 else 1)) native;
  }
  pieces-fine named access (Some c) at fits short small native =
      let name = least_named entries named few (ap (is_named (codes "Code")) at) in
      record {
        fit = (
          omega arith,
          ((record { name = name.0; size = short small }, fits small, name.1), tt),
        );
        coded = ap (λ (b : Bool). 1 == (if b then 0 else 1)) native;
      }

  method-fits : (frames : Bool) (named : ℕ) (m : Member) (f : MethodFile)
      → IsUtf8At entries named (codes "Code") → IsPut frames entries m f → HasShortCode f.code
      → FitsMethod entries (method_laid least f)
  method-fits frames named m f at h small =
      let fine : AreFine m.access (pieces_of least f) =
      subst (λ (xs : List Attribute).
      AreFine m.access (code_piece least f.code ++ map (λ a. Plain a) xs)) (sym h.is.attributes)
      (pieces-fine named m.access f.code at h.fits h.short small h.native) in
      record {
        access = omega (arith, h.is.access, h.small);
        name = text-index f.name m.name h.is.name;
        descriptor = text-index f.descriptor m.descriptor h.is.descriptor_is;
        pieces = fine.fit;
        coded = subst (λ (n : ℕ). IsTrue (is_coded n (pieces_of least f))) (sym h.is.access)
            fine.coded;
      }

  methods-fit : (frames : Bool) (named : ℕ) (ms : List Member) (fs : List MethodFile)
      → IsUtf8At entries named (codes "Code") → AllZip (IsPut frames entries) ms fs
      → AllByRecursion (λ f. HasShortCode f.code) fs
      → AllByRecursion (FitsMethod entries) (map (method_laid least) fs)
  methods-fit frames named [] [] at h short = tt
  methods-fit frames named [] (f ∷ fs) at h short = absurd h
  methods-fit frames named (m ∷ ms) [] at h short = absurd h
  methods-fit frames named (m ∷ ms) (f ∷ fs) at h short =
      (method-fits frames named m f at h.0 short.0, methods-fit frames named ms fs at h.1 short.1)

-- both versions are read
version-fits : (frames : Bool) → (version frames < 2 ^ 16) × IsTrue (is_version (version frames))
version-fits true = (omega arith, refl)
version-fits false = (omega arith, refl)

-- each item of the file fits its place
layout-fits : (frames : Bool) (table : Table) (class : ClassInfo) (ms : List Member)
    (file : ClassFile) → IsOwnFile frames table class ms file
    → AllByRecursion (λ f. HasShortCode f.code) file.methods → IsLayout (layout_of file)
layout-fits frames table class ms file h short =
    let entries = file.pool.entries in
    record {
      minor = omega (arith, h.minor);
      major =
          subst (λ (n : ℕ). (n < 2 ^ 16) × IsTrue (is_version n)) (sym h.major)
          (version-fits frames);
      entries = h.pool;
      access = omega (arith, h.access);
      this_class = class-index entries h.pool.few file.this_class class.name h.this_class;
      super_class = (
        class-index entries h.pool.few file.super_class (above class.exception) h.super_class,
        is-above entries h.pool.few class.exception file.super_class h.super_class,
      );
      fields = (
        omega (
          arith,
          AllZip-long (IsFieldOf table entries) class.fields file.fields h.fields,
          h.few_fields,
        ),
        fields-fit entries h.pool.few table class.fields file.fields h.fields,
      );
      methods = (
        omega (
          arith,
          length-map file.methods (method_laid (least_code entries)),
          AllZip-long (IsPut frames entries) ms file.methods h.methods,
          h.few_methods,
        ),
        methods-fit entries h.pool.few frames h.code_named.0 ms file.methods h.code_named.1
            h.methods short,
      );
      attributes = none-fit entries h.pool.few file.attributes h.attributes;
    }

-- there are bytes that spell the file
pub file_spelled : (frames : Bool) (table : Table) (class : ClassInfo) (ms : List Member)
    (file : ClassFile) → IsOwnFile frames table class ms file
    → has_long_code file.methods ≡ false → (bytes : List ℕ) × Spells bytes file
file_spelled frames table class ms file h short =
    has_spelling file (layout-fits frames table class ms file h (all_short file.methods short))
