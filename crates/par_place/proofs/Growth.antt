-- What items and handlers name stays named while the pool grows.
use Rattle.std.proofs.Common.{◌≡◌, ℕ, Bool, true, false, cond, List, [], ◌∷◌, inl, inr}
use Rattle.std.proofs.Common.{ap, subst}
use Rattle.std.specs.Prelude.{ℤ, nat_lt, if◌then◌else◌}
use Rattle.std.specs.List.{AllZip}
use Rattle.par_pool.specs.declared.constant.Constant.{Constant}
use Rattle.par_pool.specs.declared.constant.Constant.TheVariants.{Utf8, Integer}
use Rattle.par_pool.specs.declared.constant.Constant.TheVariants.{Field, Method}
use Rattle.par_pool.specs.Entries.{IsAt, IsMemberAt}
use Rattle.par_pool.specs.Growth.{Adds, IsClassPart, IsNameTypePart, IsNamingPart}
use Rattle.par_pool.specs.Growth.{IsMemberPart}
use Rattle.par_pool.proofs.Growth.{at_kept, class_kept, name_type_kept}
use Rattle.par_class.specs.declared.file.Catch.{Catch}
use Rattle.par_code_form.specs.declared.item.Item.{Item}
use Rattle.par_code_form.specs.declared.item.Item.TheVariants.{Label, Op, Const}
use Rattle.par_code_form.specs.declared.item.Item.TheVariants.{Jump, Member}
use Rattle.par_code_form.specs.declared.item.Item.TheVariants.{ClassOp, LockOp}
use Rattle.par_code_form.specs.declared.labelled.Handler.{Handler}
use Rattle.par_code_form.specs.Opcodes.{INVOKEVIRTUAL}
use Rattle.par_code_form.specs.Instructions.{within}
use Rattle.par_code_form.specs.PoolNames.{full_name, member_form, Names, IsPartOf, IsNamedIn}
use Rattle.par_code_form.specs.PoolNames.{IsCaughtIn, LOCKS, LOCK_TYPE, lock_field}
use Rattle.par_code_form.specs.Placed.{IsCatch}

module _ (old new : List Constant) (few : ℕ) (P : Constant → Type 0) (a : Adds old new few P) where
  class-part : (name : List ℕ) (c : Constant) → IsClassPart old name c → IsClassPart new name c
  class-part name c (inl e) = inl e
  class-part name c (inr h) = inr (h.0, h.1, at_kept old new few P a h.0 (Utf8 name) h.2)

  name-type-part : (name kind : List ℕ) (c : Constant) → IsNameTypePart old name kind c
      → IsNameTypePart new name kind c
  name-type-part name kind c (inl e) = inl e
  name-type-part name kind c (inr (inl e)) = inr (inl e)
  name-type-part name kind c (inr (inr h)) =
      inr (inr (
        h.0,
        h.1,
        h.2,
        at_kept old new few P a h.0 (Utf8 name) h.3,
        at_kept old new few P a h.1 (Utf8 kind) h.4,
      ))

  naming-part : (class name kind : List ℕ) (c : Constant) → IsNamingPart old class name kind c
      → IsNamingPart new class name kind c
  naming-part class name kind c (inl h) = inl (class-part class c h)
  naming-part class name kind c (inr h) = inr (name-type-part name kind c h)

  member-part : (form : ℕ → ℕ → Constant) (class name kind : List ℕ) (c : Constant)
      → IsMemberPart form old class name kind c → IsMemberPart form new class name kind c
  member-part form class name kind c (inl h) = inl (naming-part class name kind c h)
  member-part form class name kind c (inr h) = inr (
    h.0,
    h.1,
    h.2,
    class_kept old new few P a h.0 class h.3,
    name_type_kept old new few P a h.1 name kind h.4,
  )

  pub part_kept : (item : Item) (c : Constant) → IsPartOf old item c → IsPartOf new item c
  part_kept (Label l) c h = h
  part_kept (Op i) c h = h
  part_kept (Const v) c h = h
  part_kept (Jump opcode l) c h = h
  part_kept (Member opcode class name kind) c h =
      member-part (member_form opcode) (full_name class) name kind c h
  part_kept (ClassOp opcode class) c h = class-part (full_name class) c h
  part_kept (LockOp opcode lock) c h = member-part Field LOCKS (lock_field lock) LOCK_TYPE c h

  pub named_kept : (items : List Item) (c : Constant) → IsNamedIn old items c
      → IsNamedIn new items c
  named_kept items c h =
      record { item = h.item; stands = h.stands; part = part_kept h.item c h.part }

  pub caught_kept : (handlers : List Handler) (c : Constant) → IsCaughtIn old handlers c
      → IsCaughtIn new handlers c
  caught_kept handlers c h = record {
    handler = h.handler;
    stands = h.stands;
    part = class-part (full_name h.handler.class) c h.part;
  }

  number-kept : (v : ℤ) (index : ℕ) (short : Bool)
      → cond short (Unit {0}) (IsAt old index (Integer v))
      → cond short (Unit {0}) (IsAt new index (Integer v))
  number-kept v index true h = h
  number-kept v index false h = at_kept old new few P a index (Integer v) h

  member-kept : (form : ℕ → ℕ → Constant) (index : ℕ) (class name kind : List ℕ)
      → IsMemberAt form old index class name kind → IsMemberAt form new index class name kind
  member-kept form index class name kind h = record {
    owner = h.owner;
    member = h.member;
    entry = at_kept old new few P a index (form h.owner h.member) h.entry;
    is_class = class_kept old new few P a h.owner class h.is_class;
    is_member = name_type_kept old new few P a h.member name kind h.is_member;
  }

  names_kept : (item : Item) (index : ℕ) → Names old item index → Names new item index
  names_kept (Label l) index h = h
  names_kept (Op i) index h = h
  names_kept (Const v) index h = number-kept v index (within 32768 v) h
  names_kept (Jump opcode l) index h = h
  names_kept (Member opcode class name kind) index h =
      member-kept (member_form opcode) index (full_name class) name kind h
  names_kept (ClassOp opcode class) index h = class_kept old new few P a index (full_name class) h
  names_kept (LockOp opcode lock) index h =
      member-kept Field index LOCKS (lock_field lock) LOCK_TYPE h

  pub all_names_kept : (items : List Item) (indices : List ℕ) → AllZip (Names old) items indices
      → AllZip (Names new) items indices
  all_names_kept [] [] h = h
  all_names_kept [] (n ∷ ns) h = h
  all_names_kept (x ∷ xs) [] h = h
  all_names_kept (x ∷ xs) (n ∷ ns) h = (names_kept x n h.0, all_names_kept xs ns h.1)

  catch-kept : (offset : ℕ → ℕ) (h : Handler) (c : Catch) → IsCatch old offset h c
      → IsCatch new offset h c
  catch-kept offset h c is = record {
    start = is.start;
    end = is.end;
    handler = is.handler;
    class = class_kept old new few P a c.class (full_name h.class) is.class;
  }

  pub all_catches_kept : (offset : ℕ → ℕ) (hs : List Handler) (cs : List Catch)
      → AllZip (IsCatch old offset) hs cs → AllZip (IsCatch new offset) hs cs
  all_catches_kept offset [] [] is = is
  all_catches_kept offset [] (c ∷ cs) is = is
  all_catches_kept offset (h ∷ hs) [] is = is
  all_catches_kept offset (h ∷ hs) (c ∷ cs) is =
      (catch-kept offset h c is.0, all_catches_kept offset hs cs is.1)

-- an instruction below the invokes names a field, and each other one a method
pub field_form : (opcode : ℕ) → nat_lt opcode INVOKEVIRTUAL ≡ true → member_form opcode ≡ Field
field_form opcode e = ap (λ (b : Bool). if b then Field else Method) e

pub method_form : (opcode : ℕ) → nat_lt opcode INVOKEVIRTUAL ≡ false → member_form opcode ≡ Method
method_form opcode e = ap (λ (b : Bool). if b then Field else Method) e

-- what an entry of a member adds, where each of its names is called otherwise
pub member_renamed : (old new : List Constant) (form form' : ℕ → ℕ → Constant)
    (class class' name name' kind kind' : List ℕ) → form ≡ form' → class ≡ class' → name ≡ name'
    → kind ≡ kind' → Adds old new 6 (IsMemberPart form new class name kind)
    → Adds old new 6 (IsMemberPart form' new class' name' kind')
member_renamed old new form form' class class' name name' kind kind' f c n k h =
    subst (λ (g : ℕ → ℕ → Constant). Adds old new 6 (IsMemberPart g new class' name' kind')) f
    (subst (λ (x : List ℕ). Adds old new 6 (IsMemberPart form new x name' kind')) c
    (subst (λ (x : List ℕ). Adds old new 6 (IsMemberPart form new class x kind')) n
    (subst (λ (x : List ℕ). Adds old new 6 (IsMemberPart form new class name x)) k h)))
