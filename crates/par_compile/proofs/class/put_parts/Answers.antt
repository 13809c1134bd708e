use Rattle.std.proofs.Common.{List, ℕ, [], codes, length, map, sym, ap, subst, arith}
use Rattle.std.specs.List.{AllZip}
use Rattle.par_pool.specs.declared.constant.Constant.{Constant}
use Rattle.par_pool.specs.Entries.{IsClassAt}
use Rattle.par_pool.specs.Spelling.{IsText}
use Rattle.par_class.specs.declared.file.FieldFile.{FieldFile}
use Rattle.par_compile_laws.specs.Members.{above}
use Rattle.par_compile_laws.specs.Files.{IsFieldOf}
use Rattle.par_erase.specs.declared.program.PlainField.{PlainField}
use Rattle.par_erase.specs.Shown.{field_info, table_of}
use Rattle.par_compile.specs.declared.draft.Draft.{Draft}
use Rattle.par_compile.specs.Growing.{Stays, Grows, IsOneText, IsOneClass, IsOfFields}
use Rattle.par_compile.specs.Own.{methods_classes, class_entries}
use Rattle.par_compile.proofs.Texts.{name_text}
use Rattle.par_compile.proofs.Growing.{extends, room_now}
use Rattle.par_compile.proofs.Gathered.{class_room}
use Rattle.par_compile.proofs.Files.{own_file}
use Rattle.par_compile.proofs.class.put_parts.Goals as goal

pub class-requires-clause-text : goal.class-requires-clause-text
class-requires-clause-text c =
    subst IsText (sym c.bytes.ensures.bytes)
    (name_text c.args.class.now.name c.bytes.ensures.spelled)

pub field_files-requires-clause-room : goal.field_files-requires-clause-room
field_files-requires-clause-room c =
    let f = c.args.frames in
    let p = c.args.plain.now in
    let k = c.args.class.now in
    omega (
      arith,
      room_now [] (class_entries f p k) (methods_classes f p k.methods) (c.requires.ready.room f),
      ap length c.requires.pool,
      ap length c.as_slice.ensures,
      c.in_ok-text.ensures.few,
      c.in_ok-this_class.ensures.few,
      c.in_ok-super_class.ensures.few,
    )

pub put_members-requires-clause-room : goal.put_members-requires-clause-room
put_members-requires-clause-room c =
    let table = table_of c.args.plain.now in
    let fields = c.as_slice.result.now in
    class_room c.args.frames c.args.plain.now c.args.class.now fields
    (methods_classes c.args.frames c.args.plain.now c.args.class.now.methods) c.args.draft.now.pool
    c.text.new.pool c.class.new.pool c.class-2.new.pool c.field_files.new.pool c.requires.pool
    c.as_slice.ensures
    (extends (IsOneText (codes "Code")) c.args.draft.now.pool c.text.new.pool
    c.in_ok-text.ensures.grows)
    (extends (IsOneClass c.bytes.result.now) c.text.new.pool c.class.new.pool
    c.in_ok-this_class.ensures.grows)
    (extends (IsOneClass c.above.result.now) c.class.new.pool c.class-2.new.pool
    c.in_ok-super_class.ensures.grows)
    (extends (IsOfFields table (map field_info fields)) c.class-2.new.pool c.field_files.new.pool
    c.in_ok-fields.ensures.grows)
    c.in_ok-text.ensures.few c.in_ok-this_class.ensures.few c.in_ok-super_class.ensures.few
    c.in_ok-fields.ensures.few (c.requires.ready.room c.args.frames)

pub returns : goal.returns
returns c = λ file made.
    let p = c.args.plain.now in
    let k = c.args.class.now in
    let table = table_of p in
    let a = c.text.new.pool in
    let b = c.class.new.pool in
    let d = c.class-2.new.pool in
    let e = c.field_files.new.pool in
    let start : Draft = record { pool = d; methods = [] } in
    let mid : Draft = record { pool = e; methods = c.args.draft.now.methods } in
    own_file c.args.frames p k file start mid c.put_members.new.draft a b c.in_ok-text.field-0
    c.bytes.result.now (methods_classes c.args.frames p k.methods)
    (c.requires.ready.room c.args.frames) made.minor made.major made.access made.attributes
    made.pool made.distinct made.spelled
    (subst (λ (q : List Constant). Grows (IsOneText (codes "Code")) q a) c.requires.pool
    c.in_ok-text.ensures.grows)
    c.in_ok-text.ensures.named c.bytes.ensures.bytes c.in_ok-this_class.ensures.grows
    (subst (λ (n : ℕ). Stays b (λ q. IsClassAt q n c.bytes.result.now)) (sym made.this_class)
    c.in_ok-this_class.ensures.named)
    (subst (λ (n : List ℕ). Grows (IsOneClass n) b d) c.above.ensures.is
    c.in_ok-super_class.ensures.grows)
    (subst (λ (i : ℕ). Stays d (λ q. IsClassAt q i (above k.exception))) (sym made.super_class)
    (subst (λ (n : List ℕ). Stays d (λ q. IsClassAt q c.in_ok-super_class.super_class n))
    c.above.ensures.is c.in_ok-super_class.ensures.named))
    (subst (λ (fs : List PlainField). Grows (IsOfFields table (map field_info fs)) d e)
    c.as_slice.ensures c.in_ok-fields.ensures.grows)
    (subst (λ (fs : List FieldFile).
    Stays e (λ q. AllZip (IsFieldOf table q) (map field_info k.fields) fs)) (sym made.fields)
    (subst (λ (fs : List PlainField).
    Stays e (λ q. AllZip (IsFieldOf table q) (map field_info fs) c.in_ok-fields.fields))
    c.as_slice.ensures c.in_ok-fields.ensures.are))
    c.requires.methods c.in_ok-put_members.ensures made.methods
