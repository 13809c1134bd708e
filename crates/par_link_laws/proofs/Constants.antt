-- What the constants of a class's file name is there.
use Rattle.std.proofs.Common.{◌≡◌, ℕ, zero, suc, ◌+◌, ◌<◌, Bool, true, false, cond, nat_lt, ◌⊎◌}
use Rattle.std.proofs.Common.{inl, inr}
use Rattle.std.proofs.Common.{List, [], ◌∷◌, length, Option, Some, None, slice_get, slice_index_or}
use Rattle.std.proofs.Common.{Contains, refl, sym, ap, subst, ◌∙◌, arith}
use Rattle.std.specs.List.{AllByRecursion, flat_map}
use Rattle.par_typed.specs.declared.table.ClassInfo.{ClassInfo}
use Rattle.par_typed.specs.declared.table.Table.{Table}
use Rattle.par_typed.specs.Plain.{Body}
use Rattle.par_pool.specs.declared.constant.Constant.{Constant}
use Rattle.par_pool.specs.declared.constant.Constant.TheVariants as constant
use Rattle.par_pool.specs.Entries.{IsClassAt, IsNameTypeAt}
use Rattle.par_pool.specs.Growth.{IsClassPart, IsNameTypePart, IsMemberPart}
use Rattle.par_class.specs.declared.file.ClassFile.{ClassFile}
use Rattle.par_compile_laws.specs.par_single.Descriptors.{Text}
use Rattle.par_compile_laws.specs.par_single.Members as single
use Rattle.par_compile_laws.specs.par_single.Members.{text_at, member_at}
use Rattle.par_compile_laws.specs.par_code_form.declared.item.Item.{Item}
use Rattle.par_compile_laws.specs.par_code_form.declared.item.Item.TheVariants as item
use Rattle.par_compile_laws.specs.par_code_form.declared.labelled.Handler.{Handler}
use Rattle.par_compile_laws.specs.par_code_form.declared.labelled.Labelled.{Labelled}
use Rattle.par_compile_laws.specs.par_code_form.Opcodes.{INVOKEVIRTUAL}
use Rattle.par_compile_laws.specs.par_code_form.PoolNames.{full_name, IsPartOf}
use Rattle.par_compile_laws.specs.par_code_form.PoolNames.{IsConstantOf}
use Rattle.par_loader.specs.par_link.Builtins.{builtin_field, builtin_method}
use Rattle.par_loader.specs.par_link.Named.{fields_of, methods_of}
use Rattle.par_loader.specs.Mentions.{is_unread}
use Rattle.par_compile_laws.specs.Constants.{frame_classes, IsOfCode, named, framed, IsOfMayCode}
use Rattle.par_compile_laws.specs.Constants.{IsConstant, code_text, frames_text, this_class}
use Rattle.par_compile_laws.specs.Constants.{super_class, of_field, of_member}
use Rattle.par_compile_laws.specs.Files.{FIRST_DECLARED, declared_classes}
use Rattle.par_compile_laws.specs.Members.{Member, above, members}
use Rattle.par_link_laws.specs.Parts.{AreFilesOf}
use Rattle.par_link_laws.specs.Linkable.{IsLinkable}
use Rattle.par_link_laws.proofs.Items.{MemberStands, member, lock_member, ItemStands, CodeStands}
use Rattle.par_link_laws.proofs.Items.{MayCodeStands}
use Rattle.par_link_laws.proofs.Items.{members-stand}
use Rattle.par_link_laws.proofs.Sound.{IsClassIndex, IsDeclared, IsBuiltIn, Stands}
use Rattle.par_link_laws.proofs.Texts.{text-is, member-is}

-- it holds of what a list contains
held : {A : Type 0} (P : A → Type 0) (xs : List A) (k : ℕ) (x : A) → AllByRecursion P xs
    → k < length xs → slice_index_or xs k x ≡ x → P x
held P [] k x each within is = absurd (omega arith)
held P (y ∷ xs) zero x each within is = subst P is each.0
held P (y ∷ xs) (suc k) x each within is = held P xs k x each.1 (omega arith) is

pub held-by : {A : Type 0} (P : A → Type 0) (xs : List A) (x : A) → AllByRecursion P xs
    → Contains xs x → P x
held-by P xs x each at = held P xs at.0 x each at.1 at.2

module _ (all : List ClassFile) (pool : List Constant) where
  abbrev Here : Constant → Type 0
  Here c = Stands all pool c

  text-stands : (text : Text) (c : Constant) → c ≡ constant.Utf8 text → Here c
  text-stands text c is = subst Here (sym is) tt

  -- a class that is read
  pub class-stands : (name : Text) (c : Constant) → is_unread all name ≡ false
      → IsClassPart pool name c → Here c
  class-stands name c read (inl is) = text-stands name c is
  class-stands name c read (inr part) =
      subst Here (sym part.1) (ap (is_unread all) (text-is pool part.0 name part.2) ∙ read)

  pair-stands : (name of_type : Text) (c : Constant) → IsNameTypePart pool name of_type c → Here c
  pair-stands name of_type c (inl is) = text-stands name c is
  pair-stands name of_type c (inr (inl is)) = text-stands of_type c is
  pair-stands name of_type c (inr (inr part)) = subst Here (sym part.2) tt

  -- a member that stands, by the indices of its class and of its name and descriptor
  index-of : (owner : ℕ) (class : Text) → IsClassAt pool owner class → IsClassIndex pool owner
  index-of owner class at = record { text = at.text; is = at.entry }

  field-here : (owner pair : ℕ) (m : single.Member) → IsClassAt pool owner m.class
      → IsNameTypeAt pool pair m.name m.descriptor → MemberStands all fields_of builtin_field m
      → Here (constant.Field owner pair)
  field-here owner pair m of at stands = (
    index-of owner m.class of,
    subst (λ (x : single.Member). IsDeclared all fields_of x ⊎ IsBuiltIn builtin_field x)
        (sym (member-is pool owner pair m.class m.name m.descriptor of at)) stands.there,
  )

  method-here : (owner pair : ℕ) (m : single.Member) → IsClassAt pool owner m.class
      → IsNameTypeAt pool pair m.name m.descriptor → MemberStands all methods_of builtin_method m
      → Here (constant.Method owner pair)
  method-here owner pair m of at stands = (
    index-of owner m.class of,
    subst (λ (x : single.Member). IsDeclared all methods_of x ⊎ IsBuiltIn builtin_method x)
        (sym (member-is pool owner pair m.class m.name m.descriptor of at)) stands.there,
  )

  -- what names a member, or a part of it
  member-part : (b : Bool) (m : single.Member) (c : Constant)
      → cond b (MemberStands all fields_of builtin_field m)
      (MemberStands all methods_of builtin_method m)
      → IsMemberPart (cond b constant.Field constant.Method) pool m.class m.name m.descriptor c
      → Here c
  member-part true m c stands (inl (inl part)) = class-stands m.class c stands.read part
  member-part true m c stands (inl (inr part)) = pair-stands m.name m.descriptor c part
  member-part true m c stands (inr part) =
      subst Here (sym part.2) (field-here part.0 part.1 m part.3 part.4 stands)
  member-part false m c stands (inl (inl part)) = class-stands m.class c stands.read part
  member-part false m c stands (inl (inr part)) = pair-stands m.name m.descriptor c part
  member-part false m c stands (inr part) =
      subst Here (sym part.2) (method-here part.0 part.1 m part.3 part.4 stands)

module _ (table : Table) (bodies : List Body) (all : List ClassFile) (l : IsLinkable table bodies)
    (files : AreFilesOf table bodies all) (pool : List Constant) where
  item-part : (i : Item) (c : Constant) → ItemStands table bodies all l files i
      → IsPartOf pool i c → Stands all pool c
  item-part (item.Label n) c stands part = absurd part
  item-part (item.Op i) c stands part = absurd part
  item-part (item.Const v) c stands part = subst (Stands all pool) (sym part.0) tt
  item-part (item.Jump opcode n) c stands part = absurd part
  item-part (item.Member opcode class name of_type) c stands part =
      member-part all pool (nat_lt opcode INVOKEVIRTUAL) (member class name of_type) c stands part
  item-part (item.ClassOp opcode class) c stands part =
      class-stands all pool (full_name class) c stands part
  item-part (item.LockOp opcode lock) c stands part =
      member-part all pool true (lock_member lock) c stands part

  named-in-code : (code : Labelled) (c : Constant) → CodeStands table bodies all l files code
      → IsConstantOf pool code c → Stands all pool c
  named-in-code code c stands (inl is) =
      item-part is.item c
      (held-by (ItemStands table bodies all l files) code.items is.item stands.items is.stands)
      is.part
  named-in-code code c stands (inr is) =
      class-stands all pool (full_name (is.handler).class) c
      (held-by (λ (h : Handler). is_unread all (full_name h.class) ≡ false) code.handlers
      is.handler stands.handlers is.stands) is.part

  code-names : (code : Labelled) (c : Constant) → CodeStands table bodies all l files code
      → IsOfCode pool code c → Stands all pool c
  code-names code c stands (named is) = named-in-code code c stands is
  code-names code c stands (framed name at part) =
      class-stands all pool (full_name name) c
      (held-by (λ (n : Text). is_unread all (full_name n) ≡ false)
      (flat_map frame_classes code.frames) name stands.frames at) part

  may-name : (code : Option Labelled) (c : Constant) → MayCodeStands table bodies all l files code
      → IsOfMayCode pool code c → Stands all pool c
  may-name None c stands is = absurd is
  may-name (Some code) c stands is = code-names code c stands is

  -- the class above is one that every program has
  above-read : (exception : Bool) → is_unread all (above exception) ≡ false
  above-read true = refl
  above-read false = refl

  module _ (place : ℕ) (class : ClassInfo)
      (there : slice_get (declared_classes table) place ≡ Some class)
      (own_read : is_unread all class.name ≡ false) where
    pub constant-stands : (c : Constant)
        → IsConstant pool table class (members table bodies (FIRST_DECLARED + place) class) c
        → Stands all pool c
    constant-stands c (code_text is) = subst (Stands all pool) (sym is) tt
    constant-stands c (frames_text is) = subst (Stands all pool) (sym is) tt
    constant-stands c (this_class part) = class-stands all pool class.name c own_read part
    constant-stands c (super_class part) =
        class-stands all pool (above class.exception) c (above-read class.exception) part
    constant-stands c (of_field f at (inl is)) = subst (Stands all pool) (sym is) tt
    constant-stands c (of_field f at (inr is)) = subst (Stands all pool) (sym is) tt
    constant-stands c (of_member m at (inl is)) = subst (Stands all pool) (sym is) tt
    constant-stands c (of_member m at (inr (inl is))) = subst (Stands all pool) (sym is) tt
    constant-stands c (of_member m at (inr (inr is))) =
        may-name m.code c
        (held-by (λ (x : Member). MayCodeStands table bodies all l files x.code)
        (members table bodies (FIRST_DECLARED + place) class) m
        (members-stand table bodies all l files place class there) at) is
