-- Instructions by the rows of methods.
use Rattle.std.proofs.Common.{◌≡◌, ℕ, ◌≤◌, Bool, true, List, [], length, Option, Some, None}
use Rattle.std.proofs.Common.{slice_get, slice_index_or, sym, ap, subst, arith}
use Rattle.std.proofs.Math.Seq.{drop-nil}
use Rattle.std.proofs.lemmas.Bool.{leb-true}
use Rattle.par_class.specs.declared.file.ClassFile.{ClassFile}
use Rattle.par_class.specs.declared.file.CodeAttr.{CodeAttr}
use Rattle.par_class.specs.declared.file.MethodFile.{MethodFile}
use Rattle.par_instr.specs.Decoding.{decoded, decoded_at}
use Rattle.par_step_laws.specs.par_link.Conditions.{is_short}
use Rattle.par_values.specs.declared.value.MVal.{MVal}
use Rattle.par_starts.specs.Standing.{IsStanding, KnowsStanding}
use Rattle.par_starts.specs.declared.instructions.Standing.{Standing}
use Rattle.par_step_laws.specs.Classes.{class_names}
use Rattle.par_step_laws.specs.Methods.{methods_of, method_code, code_in, code_or_none}
use Rattle.par_method_area.specs.declared.classes.ClassRow.{ClassRow}
use Rattle.par_method_area.specs.declared.methods.MethodRow.{MethodRow}
use Rattle.par_method_area.specs.Area.{Area, AreTold}
use Rattle.par_method_area.specs.Classes.{IsClassRow}
use Rattle.par_method_area.specs.Methods.{IsMethodRow}
use Rattle.par_method_area.proofs.Beside.{found, missing}
use Rattle.par_method_area.proofs.Coded.{all-at}
use Rattle.par_step_laws.proofs.par_link.Faultless.{small}

nothing : (at : ℕ) → decoded_at [] at ≡ None
nothing at = ap decoded (drop-nil {A = ℕ} at)

short_code : (o : Option CodeAttr) → is_short o ≡ true → length (code_or_none o).code ≤ 65535
short_code None is = omega arith
short_code (Some code) is = leb-true (length code.code) 65535 is

right : (code : List ℕ) (at : ℕ) (o : Option Standing) → length code ≤ 65535
    → IsStanding code at o → KnowsStanding code at o
right code at None short is = is short
right code at (Some row) short is = (short, is)

module _ (files : List ClassFile) (rows : List ClassRow) (exceptions : List Bool)
    (statics : List MVal) (told : AreTold files rows exceptions statics)
    (class method at : ℕ) where
  abbrev Known : Option ClassFile → Option Standing → Type 0
  Known o row = KnowsStanding (code_in (slice_get (methods_of o) method)).code at row

  -- there is no such class
  pub class_missing : slice_get rows class ≡ None
      → KnowsStanding (method_code files class method).code at None
  class_missing none =
      let gone = missing (IsClassRow (class_names files) files) files rows class told.rows none in
      subst (λ (o : Option ClassFile). Known o None) (sym gone) (nothing at)

  module _ (row : ClassRow) (listed : slice_get rows class ≡ Some row) where
    -- or no such method
    pub method_missing : slice_get row.methods method ≡ None
        → KnowsStanding (method_code files class method).code at None
    method_missing none =
        let here = found (IsClassRow (class_names files) files) files rows class row told.rows
        listed in
        let file = here.item in
        let gone = missing (IsMethodRow row.signatures file) file.methods row.methods method
        here.is.methods none in
        subst (λ (o : Option ClassFile). Known o None) (sym here.at)
        (subst (λ (o : Option MethodFile). KnowsStanding (code_in o).code at None) (sym gone)
        (nothing at))

    -- or it is told
    pub standing_found : (own : MethodRow) (x : Option Standing)
        → slice_get row.methods method ≡ Some own → x ≡ slice_index_or own.instructions at None
        → KnowsStanding (method_code files class method).code at x
    standing_found own x held is =
        let here = found (IsClassRow (class_names files) files) files rows class row told.rows
        listed in
        let file = here.item in
        let mine = found (IsMethodRow row.signatures file) file.methods row.methods method
        own here.is.methods held in
        let m = mine.item in
        let short = short_code m.code (all-at (λ m. is_short m.code) file.methods method m
        (small files told.linked class file here.at).code (sym mine.at)) in
        subst (λ (o : Option ClassFile). Known o x) (sym here.at)
        (subst (λ (o : Option MethodFile). KnowsStanding (code_in o).code at x) (sym mine.at)
        (right (code_or_none m.code).code at x short
        (subst (IsStanding (code_or_none m.code).code at) (sym is) (mine.is.instructions at))))

pub moved : (class method at : ℕ) {a b : Area} → a ≡ b → (x : Option Standing)
    → KnowsStanding (method_code a.files class method).code at x
    → KnowsStanding (method_code b.files class method).code at x
moved class method at same x known = subst
    (λ (a : Area). KnowsStanding (method_code a.files class method).code at x) same known
