-- The parts of a class's file, put together.
use Rattle.std.proofs.Common.{◌≡◌, ℕ, ◌+◌, ◌*◌, ◌≤◌, List, [], ◌∷◌, ◌++◌, length, map, Some}
use Rattle.std.proofs.Common.{inl, inr, sym, ap, subst, ◌∙◌, length-append, arith}
use Rattle.std.specs.Prelude.{◌⊎◌, Bool, true, false, codes, slice_get}
use Rattle.std.specs.List.{All, AllZip}
use Rattle.std.proofs.lemmas.List.{length-map}
use Rattle.par_pool.specs.declared.constant.Constant.{Constant}
use Rattle.par_pool.specs.Entries.{IsUtf8At, IsClassAt, IsDistinct}
use Rattle.par_pool.specs.Spelling.{IsPool}
use Rattle.par_typed.specs.declared.table.ClassInfo.{ClassInfo}
use Rattle.par_typed.specs.declared.table.Table.{Table}
use Rattle.par_class.specs.declared.file.MethodFile.{MethodFile}
use Rattle.par_class.specs.declared.file.ClassFile.{ClassFile}
use Rattle.par_values.specs.Areas.{Name}
use Rattle.par_erase.specs.declared.program.PlainMethod.{PlainMethod}
use Rattle.par_erase.specs.declared.program.PlainClass.{PlainClass}
use Rattle.par_erase.specs.declared.program.Plain.{Plain}
use Rattle.par_erase.specs.Shown.{field_info, class_info, table_of, bodies_of}
use Rattle.par_compile_laws.specs.Members.{Member, above, members}
use Rattle.par_compile_laws.specs.Constants.{IsConstant, code_text, this_class, super_class}
use Rattle.par_compile_laws.specs.Constants.{of_field}
use Rattle.par_compile_laws.specs.Constants.{of_member, frames_text}
use Rattle.par_compile_laws.specs.Files.{IsFieldOf, IsMethodOf, IsFileOf, HasCodeWith, IsVersioned}
use Rattle.par_compile_laws.specs.Files.{HasLongFile, IsCompiled, version}
use Rattle.par_compile.specs.declared.draft.Draft.{Draft}
use Rattle.par_compile.specs.Growing.{Stays, Grows, IsOneText, IsOneClass, IsOfFields, IsOfMembers}
use Rattle.par_framing.specs.par_frames.Room.{HasRoom, SPARE}
use Rattle.par_framing.proofs.par_frames.Steps.{zip_kept}
use Rattle.par_compile.specs.Own.{channel_in, method_in, own_members, methods_entries}
use Rattle.par_compile.specs.Own.{class_entries}
use Rattle.par_compile.specs.Drafts.{IsPut, Puts}
use Rattle.par_compile.specs.Whole.{IsOwnFile, IsLongFile, IsOwnBytes}
use Rattle.par_compile.proofs.Growing.{extends, extends_then, stays_later, stays_now, grows_then}
use Rattle.par_compile.proofs.Growing.{room_now}
use Rattle.par_compile.proofs.Bodies.{members_are}

-- ---- how many there are

methods-few : (frames : Bool) (p : Plain) (ms : List PlainMethod)
    → 2 * length ms ≤ methods_entries frames p ms
methods-few frames p [] = omega arith
methods-few frames p (m ∷ ms) = omega (arith, methods-few frames p ms)

-- some stay free
pub spare_stays : (frames : Bool) (p : Plain) (ms : List PlainMethod)
    → SPARE ≤ methods_entries frames p ms
spare_stays frames p [] = omega arith
spare_stays frames p (m ∷ ms) = omega (arith, spare_stays frames p ms)

members-long : (p : Plain) (k : PlainClass)
    → length (own_members p k) ≡ 1 + (length k.inputs + (length k.outputs + length k.methods))
members-long p k =
    let inputs = map (channel_in true) k.inputs in
    let outputs = map (channel_in false) k.outputs in
    let methods = map (method_in p) k.methods in
    omega (
      arith,
      length-append inputs (outputs ++ methods),
      length-append outputs methods,
      length-map k.inputs (channel_in true),
      length-map k.outputs (channel_in false),
      length-map k.methods (method_in p),
    )

-- ---- the whole file

module _ (frames : Bool) (p : Plain) (k : PlainClass) where
  abbrev table : Table
  table = table_of p

  abbrev class : ClassInfo
  class = class_info k

  abbrev methods_ : List Member
  methods_ = own_members p k

  abbrev Is : List Constant → Constant → Type 0
  Is q c = IsConstant q table class methods_ c

  of-members : (q : List Constant) (c : Constant) → IsOfMembers methods_ q c → Is q c
  of-members q c (inl e) = frames_text e
  of-members q c (inr h) = of_member h.0 h.1 h.2

  -- the file, whose parts the pool has kept
  pub own_file : (file : ClassFile) (start mid end : Draft) (a b : List Constant) (text : ℕ)
      (name : Name) (size : List Name)
      → HasRoom [] (class_entries frames p k) size
      → file.minor ≡ 0 → file.major ≡ version frames → file.access ≡ 0x0031 → file.attributes ≡ []
      → file.pool.entries ≡ end.pool → IsDistinct file.pool.entries → IsPool file.pool.entries
      → Grows (IsOneText (codes "Code")) [] a
      → Stays a (λ q. IsUtf8At q text (codes "Code"))
      → name ≡ k.name
      → Grows (IsOneClass name) a b → Stays b (λ q. IsClassAt q file.this_class name)
      → Grows (IsOneClass (above k.exception)) b start.pool
      → Stays start.pool (λ q. IsClassAt q file.super_class (above k.exception))
      → Grows (IsOfFields table class.fields) start.pool mid.pool
      → Stays mid.pool (λ q. AllZip (IsFieldOf table q) class.fields file.fields)
      → mid.methods ≡ [] → Puts frames methods_ mid end → file.methods ≡ end.methods
      → IsOwnFile frames table class methods_ file
  own_file file start mid end a b text name size room minor major access attributes pool distinct
      is-pool coded code-at same bc this cd super de fields none puts methods-are =
      let eb = extends (IsOneClass name) a b bc in
      let ec = extends (IsOneClass (above k.exception)) b start.pool cd in
      let ed = extends (IsOfFields table class.fields) start.pool mid.pool de in
      let ee = extends (IsOfMembers methods_) mid.pool end.pool puts.grows in
      let de-end = extends_then start.pool mid.pool end.pool ed ee in
      let b-end = extends_then b start.pool end.pool ec de-end in
      let a-end = extends_then a b end.pool eb b-end in
      let g1 : Grows Is [] b =
      grows_then (IsOneText (codes "Code")) (IsOneClass name) Is [] a b (λ q c e. code_text e)
      (λ q c e. this_class (subst (λ (n : Name). IsOneClass n q c) same e)) coded bc in
      let g2 : Grows Is [] start.pool =
      grows_then Is (IsOneClass (above k.exception)) Is [] b start.pool (λ q c e. e)
      (λ q c e. super_class e) g1 cd in
      let g3 : Grows Is [] mid.pool =
      grows_then Is (IsOfFields table class.fields) Is [] start.pool mid.pool (λ q c e. e)
      (λ q c e. of_field e.0 e.1 e.2) g2 de in
      let g4 : Grows Is [] end.pool =
      grows_then Is (IsOfMembers methods_) Is [] mid.pool end.pool (λ q c e. e)
      of-members g3 puts.grows in
      let long = members-long p k in
      let few = room_now [] (class_entries frames p k) size room in
      let many = methods-few frames p k.methods in
      record {
        minor = minor;
        major = major;
        distinct = distinct;
        pool = is-pool;
        constants = subst (λ (q : List Constant). All (Is q) q) (sym pool)
            (subst (λ (q : List Constant). All (Is end.pool) q) (sym g4.behind)
            (stays_now end.pool (λ q. All (Is q) g4.more) g4.parts));
        code_named = (
          text,
          subst (λ (q : List Constant). IsUtf8At q text (codes "Code")) (sym pool)
              (stays_now end.pool (λ q. IsUtf8At q text (codes "Code"))
              (stays_later a end.pool (λ q. IsUtf8At q text (codes "Code")) a-end code-at)),
        );
        access = access;
        this_class = subst (λ (q : List Constant). IsClassAt q file.this_class k.name) (sym pool)
            (subst (λ (n : Name). IsClassAt end.pool file.this_class n) same
            (stays_now end.pool (λ q. IsClassAt q file.this_class name)
            (stays_later b end.pool (λ q. IsClassAt q file.this_class name) b-end this)));
        super_class =
            subst (λ (q : List Constant). IsClassAt q file.super_class (above k.exception))
            (sym pool)
            (stays_now end.pool (λ q. IsClassAt q file.super_class (above k.exception))
            (stays_later start.pool end.pool
            (λ q. IsClassAt q file.super_class (above k.exception)) de-end super));
        few_fields = omega (arith, few, length-map k.fields field_info);
        fields =
            subst (λ (q : List Constant). AllZip (IsFieldOf table q) class.fields file.fields)
            (sym pool)
            (stays_now end.pool (λ q. AllZip (IsFieldOf table q) class.fields file.fields)
            (stays_later mid.pool end.pool
            (λ q. AllZip (IsFieldOf table q) class.fields file.fields) ee fields));
        few_methods = omega (arith, few, long, many);
        methods =
            subst (λ (q : List Constant). AllZip (IsPut frames q) methods_ file.methods)
            (sym pool)
            (subst (λ (fs : List MethodFile). AllZip (IsPut frames end.pool) methods_ fs)
            (sym (methods-are ∙ (puts.behind
            ∙ ap (λ (fs : List MethodFile). fs ++ puts.more) none)))
            (stays_now end.pool (λ q. AllZip (IsPut frames q) methods_ puts.more) puts.are));
        attributes = attributes;
      }

-- ---- the file of a class of this number

method-of : (frames : Bool) (q : List Constant) (ms : List Member) (fs : List MethodFile)
    → AllZip (IsPut frames q) ms fs → AllZip (IsMethodOf q) ms fs
method-of frames q ms fs h =
    zip_kept (IsPut frames q) (IsMethodOf q) ms fs (λ m f put. put.is) h

code-of : (frames : Bool) (q : List Constant) (ms : List Member) (fs : List MethodFile)
    → AllZip (IsPut frames q) ms fs → AllZip (HasCodeWith frames q) ms fs
code-of frames q ms fs h =
    zip_kept (IsPut frames q) (HasCodeWith frames q) ms fs (λ m f put. put.with_) h

either-version : (frames : Bool) (major : ℕ) → major ≡ version frames
    → (major ≡ 51) ⊎ (major ≡ 49)
either-version true major e = inl e
either-version false major e = inr e

pub is_file : (frames : Bool) (p : Plain) (k : PlainClass) (file : ClassFile) (c : ℕ)
    → slice_get p.classes c ≡ Some k
    → IsOwnFile frames (table_of p) (class_info k) (own_members p k) file
    → IsFileOf (table_of p) (bodies_of p) c (class_info k) file
is_file frames p k file c there h =
    let same = sym (members_are p c k there) in
    let q = file.pool.entries in
    record {
      minor = h.minor;
      major = either-version frames file.major h.major;
      distinct = h.distinct;
      constants =
          subst (λ (ms : List Member). All (IsConstant q (table_of p) (class_info k) ms) q) same
          h.constants;
      code_named = h.code_named;
      access = h.access;
      this_class = h.this_class;
      super_class = h.super_class;
      fields = h.fields;
      methods = subst (λ (ms : List Member). AllZip (IsMethodOf q) ms file.methods) same
          (method-of frames q (own_members p k) file.methods h.methods);
      attributes = h.attributes;
    }

pub is_versioned : (frames : Bool) (p : Plain) (k : PlainClass) (file : ClassFile) (c : ℕ)
    → slice_get p.classes c ≡ Some k
    → IsOwnFile frames (table_of p) (class_info k) (own_members p k) file
    → IsVersioned frames (members (table_of p) (bodies_of p) c (class_info k)) file
is_versioned frames p k file c there h =
    let q = file.pool.entries in
    record {
      major = h.major;
      code = subst (λ (ms : List Member). AllZip (HasCodeWith frames q) ms file.methods)
          (sym (members_are p c k there))
          (code-of frames q (own_members p k) file.methods h.methods);
    }

-- ---- what is handed out

long-file : (p : Plain) (k : PlainClass) (c : ℕ) → slice_get p.classes c ≡ Some k
    → IsLongFile true (table_of p) (class_info k) (own_members p k)
    → HasLongFile (table_of p) (bodies_of p) c (class_info k)
long-file p k c there h = record {
  file = h.file;
  is = is_file true p k h.file c there h.is;
  versioned = is_versioned true p k h.file c there h.is;
  long = h.long;
}

pub is_compiled : (p : Plain) (k : PlainClass) (bytes : List ℕ) (c : ℕ)
    → slice_get p.classes c ≡ Some k
    → IsOwnBytes (table_of p) (class_info k) (own_members p k) bytes
    → IsCompiled (table_of p) (bodies_of p) c (class_info k) bytes
is_compiled p k bytes c there h = record {
  file = h.is.file;
  is = is_file h.frames p k h.is.file c there h.is.is;
  frames = h.frames;
  versioned = is_versioned h.frames p k h.is.file c there h.is.is;
  unframed = λ e. long-file p k c there (h.unframed e);
  spells = h.is.spells;
  short = h.is.short;
}
