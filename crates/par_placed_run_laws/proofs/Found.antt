-- What stands at a position of labelled code stands at its offset in bytes.
use Rattle.std.proofs.Common.{◌≡◌, ℕ, zero, suc, ◌+◌, ◌-◌, ◌≤◌, Bool, true, false, List, []}
use Rattle.std.proofs.Common.{◌∷◌, drop, Option, Some, None, refl, sym, ap, subst, ◌∙◌, arith}
use Rattle.std.proofs.Common.{inl, inr}
use Rattle.std.specs.Prelude.{ℤ, pos, ◌-ℤ◌, nat_le, ◌==◌, if◌then◌else◌, cond, IsTrue}
use Rattle.std.specs.Prelude.{slice_get, All, ◌⊎◌}
use Rattle.std.proofs.lemmas.Bool.{and_parts, or_cases, leb-true, eqb-true}
use Rattle.std.proofs.lemmas.Option.{slice_get_within, get_or_from_slice_get}
use Rattle.std.proofs.lemmas.List.Elements.{All-get_or}
use Rattle.par_instr.specs.declared.instr.Instr.{Instr}
use Rattle.par_instr.specs.declared.instr.Instr.TheVariants.{AconstNull, Iconst, Bipush, Sipush}
use Rattle.par_instr.specs.declared.instr.Instr.TheVariants.{Ldc, LdcW, Iload, Aload, IloadShort}
use Rattle.par_instr.specs.declared.instr.Instr.TheVariants.{AloadShort, Istore, Astore}
use Rattle.par_instr.specs.declared.instr.Instr.TheVariants.{IstoreShort, AstoreShort, Pop, Dup}
use Rattle.par_instr.specs.declared.instr.Instr.TheVariants.{Iadd, Isub, Imul, Idiv, Irem, Ineg}
use Rattle.par_instr.specs.declared.instr.Instr.TheVariants.{Ishl, Ishr, Iushr, Iand, Ior, Ixor}
use Rattle.par_instr.specs.declared.instr.Instr.TheVariants.{Iinc, If, IfIcmp, IfAcmpeq, IfAcmpne}
use Rattle.par_instr.specs.declared.instr.Instr.TheVariants.{Ireturn, Areturn, Getstatic, Putstatic}
use Rattle.par_instr.specs.declared.instr.Instr.TheVariants.{Getfield, Putfield, Invokevirtual}
use Rattle.par_instr.specs.declared.instr.Instr.TheVariants.{Invokespecial, Invokestatic, New}
use Rattle.par_instr.specs.declared.instr.Instr.TheVariants.{Athrow, Ifnull, Ifnonnull}
use Rattle.par_instr.specs.declared.instr.Instr.TheVariants as instr
use Rattle.par_instr.specs.Decoding.{decoded_at}
use Rattle.par_instr.specs.Spelling.{is_constant}
use Rattle.par_instr.proofs.Decodings.{decoded_at-stands}
use Rattle.par_pool.specs.declared.constant.Constant.TheVariants.{Integer}
use Rattle.par_pool.specs.Entries.{IsAt, IsFieldAt, IsMethodAt}
use Rattle.par_class.specs.declared.file.ClassFile.{ClassFile}
use Rattle.par_values.specs.declared.kind.Kind.TheVariants.{Anything, AnyObject}
use Rattle.par_values.specs.declared.link.FieldLink.{FieldLink}
use Rattle.par_values.specs.declared.link.MethodLink.{MethodLink}
use Rattle.par_values.specs.declared.link.Link.{Link}
use Rattle.par_values.specs.declared.link.Link.TheVariants as link
use Rattle.par_values.specs.Areas.{Name, Areas}
use Rattle.par_values.specs.Operations.{Operation, Push, operation, constant, of_class, of_field}
use Rattle.par_values.specs.Operations.{of_method, GetStatic, PutStatic, GetField, PutField}
use Rattle.par_values.specs.Operations.{InvokeStatic, InvokeSpecial, InvokeVirtual, Misnamed}
use Rattle.par_step_laws.specs.Methods.{class_pool, method_code}
use Rattle.par_step_laws.specs.par_link.Linked.{named_at}
use Rattle.par_step_laws.specs.Links.{link_at, lock_link}
use Rattle.par_step_laws.specs.Step.{called_on_object}
use Rattle.par_match_laws.specs.Engine.{Found, Program, is_misreceived}
use Rattle.par_match_laws.specs.Files.{found_in, found_of, index_wants}
use Rattle.par_match_laws.specs.Files.{is_of_exceptions}
use Rattle.par_match_laws.specs.Files.{of_files}
use Rattle.par_place.specs.par_code_form.declared.item.Item.{Item}
use Rattle.par_place.specs.par_code_form.declared.item.Item.TheVariants.{Label, Op, Const, Jump}
use Rattle.par_place.specs.par_code_form.declared.item.Item.TheVariants.{Member}
use Rattle.par_place.specs.par_code_form.declared.item.Item.TheVariants.{ClassOp, LockOp}
use Rattle.par_place.specs.par_code_form.declared.labelled.Labelled.{Labelled}
use Rattle.par_match_laws.specs.Labelled as matching
use Rattle.par_match_laws.specs.Labelled.{lead, target, found, on_field, on_method}
use Rattle.par_place.specs.par_code_form.Instructions.{push, on_member, instruction, within}
use Rattle.par_place.specs.par_code_form.Instructions.{is_member}
use Rattle.par_place.specs.par_code_form.Instructions.{is_branch}
use Rattle.par_place.specs.par_code_form.Instructions as placed
use Rattle.par_place.specs.par_code_form.PoolNames.{Names, full_name}
use Rattle.par_place.specs.par_code_form.Placed.{offset_of, offset_at, distance}
use Rattle.par_place.specs.par_code_form.Placeable.{FitsItem, stands_alone, is_lock_opcode}
use Rattle.par_place.proofs.Standing.{placed_stand}
use Rattle.par_match_laws.specs.Naming.{naming_of, class_of_name, field_of_name, method_of_name}
use Rattle.par_placed_run_laws.specs.Relocated.{Places, Kin}
use Rattle.par_placed_run_laws.specs.Laid.{bare, IsLaid, program}
use Rattle.par_placed_run_laws.proofs.Positions.{there, beside, IsBeside, next_offset}
use Rattle.par_placed_run_laws.proofs.Positions.{target_offset}
use Rattle.par_placed_run_laws.proofs.Operations.{leaps, kin_same}
use Rattle.par_placed_run_laws.proofs.Branches.{form_of, labelled_form, placed_form}
use Rattle.par_placed_run_laws.proofs.Branches.{branch_calls_none, distance_there, kin_branch}
use Rattle.par_placed_run_laws.proofs.Named.{class_link_at, field_link_at, method_at}
use Rattle.par_placed_run_laws.proofs.Named.{method_link_at}
use Rattle.par_placed_run_laws.proofs.Named.{number_at, lock_link_at}

-- ---- an instruction that stands alone

pub alone_same : (i : Instr) (one other : ℕ → Link) → IsTrue (stands_alone i)
    → operation one i ≡ operation other i
alone_same (Ldc n) one other h = absurd (cc h)
alone_same (LdcW n) one other h = absurd (cc h)
alone_same (Getstatic n) one other h = absurd (cc h)
alone_same (Putstatic n) one other h = absurd (cc h)
alone_same (Getfield n) one other h = absurd (cc h)
alone_same (Putfield n) one other h = absurd (cc h)
alone_same (Invokevirtual n) one other h = absurd (cc h)
alone_same (Invokespecial n) one other h = absurd (cc h)
alone_same (Invokestatic n) one other h = absurd (cc h)
alone_same (New n) one other h = absurd (cc h)
alone_same _ one other h = refl

alone_stays : (i : Instr) (names : ℕ → Link) → IsTrue (stands_alone i)
    → leaps (operation names i) ≡ false
alone_stays (Ldc n) names h = absurd (cc h)
alone_stays (LdcW n) names h = absurd (cc h)
alone_stays (Getstatic n) names h = absurd (cc h)
alone_stays (Putstatic n) names h = absurd (cc h)
alone_stays (Getfield n) names h = absurd (cc h)
alone_stays (Putfield n) names h = absurd (cc h)
alone_stays (Invokevirtual n) names h = absurd (cc h)
alone_stays (Invokespecial n) names h = absurd (cc h)
alone_stays (Invokestatic n) names h = absurd (cc h)
alone_stays (New n) names h = absurd (cc h)
alone_stays (If t to) names h = absurd (cc h)
alone_stays (IfIcmp t to) names h = absurd (cc h)
alone_stays (IfAcmpeq to) names h = absurd (cc h)
alone_stays (IfAcmpne to) names h = absurd (cc h)
alone_stays (instr.Goto to) names h = absurd (cc h)
alone_stays (Ifnull to) names h = absurd (cc h)
alone_stays (Ifnonnull to) names h = absurd (cc h)
alone_stays _ names h = refl

pub alone_calls_none : (i : Instr) → IsTrue (stands_alone i) → called_on_object i ≡ None
alone_calls_none (Invokevirtual n) h = absurd (cc h)
alone_calls_none (Invokespecial n) h = absurd (cc h)
alone_calls_none _ h = refl

-- ---- what a link makes

field_stays : (form : FieldLink → Operation) (other : Operation) (l : Link)
    → ((f : FieldLink) → leaps (form f) ≡ false) → leaps other ≡ false
    → leaps (of_field form other l) ≡ false
field_stays form other (link.Number v) h k = k
field_stays form other (link.Field f) h k = h f
field_stays form other (link.Method m) h k = k
field_stays form other (link.Class c) h k = k
field_stays form other link.Other h k = k

method_stays : (form : MethodLink → Operation) (other : Operation) (l : Link)
    → ((m : MethodLink) → leaps (form m) ≡ false) → leaps other ≡ false
    → leaps (of_method form other l) ≡ false
method_stays form other (link.Number v) h k = k
method_stays form other (link.Field f) h k = k
method_stays form other (link.Method m) h k = h m
method_stays form other (link.Class c) h k = k
method_stays form other link.Other h k = k

class_stays : (l : Link) → leaps (of_class l) ≡ false
class_stays (link.Number v) = refl
class_stays (link.Field f) = refl
class_stays (link.Method m) = refl
class_stays (link.Class c) = refl
class_stays link.Other = refl

-- ---- a number that is pushed

module _ (names : ℕ → Link) (v : ℤ) (n : ℕ) where
  abbrev pub pushed : (a b c d : Bool) → Instr
  pushed a b c d =
      if a then Iconst v else if b then Bipush v else if c then Sipush v
      else if d then Ldc n else LdcW n

  pub pushes : (a b c d : Bool) → cond c (Unit {0}) (names n ≡ link.Number v)
      → operation names (pushed a b c d) ≡ Push v
  pushes true b c d h = refl
  pushes false true c d h = refl
  pushes false false true d h = refl
  pushes false false false true h = ap constant h
  pushes false false false false h = ap constant h

  pub pushes_none : (a b c d : Bool) → called_on_object (pushed a b c d) ≡ None
  pushes_none true b c d = refl
  pushes_none false true c d = refl
  pushes_none false false true d = refl
  pushes_none false false false true = refl
  pushes_none false false false false = refl

un_some : {A : Type 0} (x y : A) → Some x ≡ Some y → x ≡ y
un_some x y e = cc

fits_at : (xs : List Item) (q : ℕ) (x : Item) → All FitsItem xs → slice_get xs q ≡ Some x
    → FitsItem x
fits_at xs q x h e =
    subst FitsItem (get_or_from_slice_get xs q x x e)
    (All-get_or FitsItem xs q x (slice_get_within xs q x e) h)

-- ---- each form of item

module _ (files : List ClassFile) (codes : ℕ → ℕ → Labelled)
    (laid : (c m : ℕ) → IsLaid files c m (codes c m)) where
  abbrev p : Program
  p = program files codes

  abbrev off : ℕ → ℕ → ℕ → ℕ
  off c m q = offset_at q (codes c m).items (laid c m).placed.indices

  abbrev pub places : Places
  places = record {
    off = off;
    found = (of_files files).found;
    stands = (of_files files).stands;
    handler = (of_files files).handler;
  }

  module _ (c m q : ℕ) where
    abbrev items : List Item
    items = (codes c m).items

    abbrev ns : List ℕ
    ns = (laid c m).placed.indices

    abbrev names : ℕ → Link
    names = link_at files c

    -- the instruction is decoded at the offset of the position
    record IsDecoded (i : Instr) : Type 0 where
      pub size : ℕ
      pub decoded : decoded_at (method_code files c m).code (off c m q)
          ≡ Some (record { instr = i; size = size })
      pub next : off c m q + size ≡ off c m (suc q)

    decoded_there : (x : Item) (n : ℕ) (i : Instr) → slice_get items q ≡ Some x
        → slice_get ns q ≡ Some n
        → instruction n (distance (offset_of items ns) (off c m q) x) x ≡ Some i → IsDecoded i
    decoded_there x n i stands named is =
        let s = placed_stand (class_pool files c) (codes c m) (bare (method_code files c m))
        (laid c m).placed q i
        (record { item = x; index = n; stands = stands; named = named; is = is }) in
        record {
          size = off c m (suc q) - off c m q;
          decoded =
              decoded_at-stands (method_code files c m).code (off c m q) i (off c m (suc q)) s;
          next = omega (arith, s.begins);
        }

    -- an instruction stands there too, and is the same
    abbrev IsThere : Found → Type 0
    IsThere x =
        (y : Found) × ((of_files files).found c m (off c m q) ≡ Some y) × Kin p places c m q x y

    -- an object that is taken there is taken here
    abbrev Asks : Bool → Option ℕ → Type 0
    Asks wants index =
        (a : Areas) → is_misreceived p wants a ≡ false
        → is_misreceived p (index_wants files c index) a ≡ false

    asks_none : (wants : Bool) (index : Option ℕ) → index ≡ None → Asks wants index
    asks_none wants index e a h = ap (λ o. is_misreceived p (index_wants files c o) a) e

    asks_same : (wants : Bool) (index : ℕ) → is_of_exceptions (named_at files c index) ≡ wants
        → Asks wants (Some index)
    asks_same wants index e a h = ap (λ (b : Bool). is_misreceived p b a) e ∙ h

    module _ (x : Item) (rest : List Item) (left : drop q items ≡ x ∷ rest) where
      abbrev made : Operation → Bool → Found
      made o wants = record { op = o; size = suc (lead rest); wants_exception = wants }

      as_far : (i : Instr) (d : IsDecoded i)
          → off c m q + d.size ≡ off c m (q + suc (lead rest))
      as_far i d = d.next ∙ sym (next_offset items ns q x rest left)

      straight : (i : Instr) (o : Operation) (wants : Bool) → IsDecoded i
          → operation names i ≡ o → leaps o ≡ false → Asks wants (called_on_object i)
          → IsThere (made o wants)
      straight i o wants d same still asks =
          let y = found_in files c (record { instr = i; size = d.size }) in (
            y,
            ap (found_of files c) d.decoded,
            kin_same p places c m q (made o wants) y (as_far i d) asks same still,
          )

      jumps : (opcode l : ℕ) → IsTrue (is_branch opcode)
          → IsDecoded (placed.branch opcode (pos (offset_of items ns l) -ℤ pos (off c m q)))
          → IsThere (made (matching.branch opcode (pos (target items l) -ℤ pos q)) false)
      jumps opcode l h d =
          let to = pos (offset_of items ns l) -ℤ pos (off c m q) in
          let far = pos (target items l) -ℤ pos q in
          let i = placed.branch opcode to in
          let y = found_in files c (record { instr = i; size = d.size }) in (
            y,
            ap (found_of files c) d.decoded,
            kin_branch p places c m q (form_of opcode) far to
                (made (matching.branch opcode far) false) y (labelled_form opcode far)
                (placed_form names to opcode h) (as_far i d)
                (asks_none false (called_on_object i) (branch_calls_none opcode to)) (record {
                  at = target items l;
                  there = distance_there q (target items l);
                  here =
                      distance_there (off c m q) (offset_of items ns l)
                      ∙ ap pos (target_offset l items ns);
                }),
          )

      on_field_there : (form : FieldLink → Operation) (other : Operation) (i : Instr) (n : ℕ)
          (l : Link) → operation names i ≡ of_field form other (names n)
          → ((f : FieldLink) → leaps (form f) ≡ false) → leaps other ≡ false
          → called_on_object i ≡ None → names n ≡ l → IsDecoded i
          → IsThere (made (of_field form other l) false)
      on_field_there form other i n l is one two none same d =
          straight i (of_field form other l) false d (is ∙ ap (of_field form other) same)
          (field_stays form other l one two) (asks_none false (called_on_object i) none)

      on_method_there : (form : MethodLink → Operation) (other : Operation) (i : Instr) (n : ℕ)
          (l : Link) (wants : Bool) → operation names i ≡ of_method form other (names n)
          → ((k : MethodLink) → leaps (form k) ≡ false) → leaps other ≡ false
          → Asks wants (called_on_object i) → names n ≡ l → IsDecoded i
          → IsThere (made (of_method form other l) wants)
      on_method_there form other i n l wants is one two asks same d =
          straight i (of_method form other l) wants d (is ∙ ap (of_method form other) same)
          (method_stays form other l one two) asks

      -- by the field that an index names
      field_there : (k n : ℕ) (l : Link) → k ≤ 3 → names n ≡ l
          → IsDecoded (on_member (178 + k) n) → IsThere (made (on_field (178 + k) l) false)
      field_there zero n l h same d =
          on_field_there GetStatic (Misnamed [] 1) (Getstatic n) n l refl (λ f. refl) refl refl
          same d
      field_there (suc zero) n l h same d =
          on_field_there PutStatic (Misnamed (Anything ∷ []) 0) (Putstatic n) n l refl (λ f. refl)
          refl refl same d
      field_there (suc (suc zero)) n l h same d =
          on_field_there GetField (Misnamed (AnyObject ∷ []) 1) (Getfield n) n l refl (λ f. refl)
          refl refl same d
      field_there (suc (suc (suc zero))) n l h same d =
          on_field_there PutField (Misnamed (Anything ∷ AnyObject ∷ []) 0) (Putfield n) n l refl
          (λ f. refl) refl refl same d
      field_there (suc (suc (suc (suc k)))) n l h same d = absurd (omega (arith, h))

      -- by the method that an index names
      method_there : (k n : ℕ) (l : Link) (wants : Bool) → k ≤ 2 → names n ≡ l
          → is_of_exceptions (named_at files c n) ≡ wants → IsDecoded (on_member (182 + k) n)
          → IsThere (made (on_method (182 + k) l) wants)
      method_there zero n l wants h same asks d =
          on_method_there InvokeVirtual (Misnamed (Anything ∷ []) 0) (Invokevirtual n) n l wants
          refl (λ k. refl) refl (asks_same wants n asks) same d
      method_there (suc zero) n l wants h same asks d =
          on_method_there InvokeSpecial (Misnamed (Anything ∷ []) 0) (Invokespecial n) n l wants
          refl (λ k. refl) refl (asks_same wants n asks) same d
      method_there (suc (suc zero)) n l wants h same asks d =
          on_method_there InvokeStatic (Misnamed [] 0) (Invokestatic n) n l wants refl (λ k. refl)
          refl (asks_none wants None refl) same d
      method_there (suc (suc (suc k))) n l wants h same asks d = absurd (omega (arith, h))

    close : (y x : Found) → Some y ≡ Some x → IsThere y → IsThere x
    close y x e h = subst IsThere (un_some y x e) h

    -- ---- a member, by the number of its instruction

    module _ (class name kind : Name) (rest : List Item) (n : ℕ) (x : Found) where
      abbrev IsMemberThere : ℕ → Type 0
      IsMemberThere opcode =
          drop q items ≡ Member opcode class name kind ∷ rest
          → Names (class_pool files c) (Member opcode class name kind) n
          → IsDecoded (on_member opcode n)
          → found (naming_of files) items q (Member opcode class name kind ∷ rest) ≡ Some x
          → IsThere x

      abbrev field : Link
      field = field_of_name files class name kind

      abbrev method : Link
      method = method_of_name files class name kind

      abbrev wants : Bool
      wants = (naming_of files).wants_exception class name kind

      as_field : (k : ℕ) → k ≤ 3 → (left : drop q items ≡ Member (178 + k) class name kind ∷ rest)
          → IsFieldAt (class_pool files c) n (full_name class) name kind
          → IsDecoded (on_member (178 + k) n)
          → Some (made (Member (178 + k) class name kind) rest left (on_field (178 + k) field)
          false) ≡ Some x → IsThere x
      as_field k h left named d e =
          close (made (Member (178 + k) class name kind) rest left (on_field (178 + k) field) false)
          x e
          (field_there (Member (178 + k) class name kind) rest left k n field h
          (field_link_at files c n (full_name class) name kind named) d)

      as_method : (k : ℕ) → k ≤ 2 → (left : drop q items ≡ Member (182 + k) class name kind ∷ rest)
          → IsMethodAt (class_pool files c) n (full_name class) name kind
          → IsDecoded (on_member (182 + k) n)
          → Some (made (Member (182 + k) class name kind) rest left (on_method (182 + k) method)
          wants) ≡ Some x → IsThere x
      as_method k h left named d e =
          close
          (made (Member (182 + k) class name kind) rest left (on_method (182 + k) method) wants) x
          e
          (method_there (Member (182 + k) class name kind) rest left k n method wants h
          (method_link_at files c n (full_name class) name kind named)
          (ap is_of_exceptions (method_at files c n (full_name class) name kind named)) d)

      by_number : (k : ℕ) → k ≤ 6 → IsMemberThere (178 + k)
      by_number zero h = λ left named d e. as_field 0 (omega arith) left named d e
      by_number (suc zero) h = λ left named d e. as_field 1 (omega arith) left named d e
      by_number (suc (suc zero)) h = λ left named d e. as_field 2 (omega arith) left named d e
      by_number (suc (suc (suc zero))) h =
          λ left named d e. as_field 3 (omega arith) left named d e
      by_number (suc (suc (suc (suc zero)))) h =
          λ left named d e. as_method 0 (omega arith) left named d e
      by_number (suc (suc (suc (suc (suc zero))))) h =
          λ left named d e. as_method 1 (omega arith) left named d e
      by_number (suc (suc (suc (suc (suc (suc zero)))))) h =
          λ left named d e. as_method 2 (omega arith) left named d e
      by_number (suc (suc (suc (suc (suc (suc (suc k))))))) h = absurd (omega (arith, h))

      member_there : (opcode : ℕ) → IsTrue (is_member opcode) → IsMemberThere opcode
      member_there opcode h =
          let parts = and_parts (nat_le 178 opcode) (nat_le opcode 184) h in
          let low = leb-true 178 opcode parts.0 in
          let high = leb-true opcode 184 parts.1 in
          let same : 178 + (opcode - 178) ≡ opcode = omega (arith, low) in
          subst IsMemberThere same (by_number (opcode - 178) (omega (arith, low, high)))

    lock_there : (opcode lock n : ℕ) (rest : List Item)
        (left : drop q items ≡ LockOp opcode lock ∷ rest)
        → IsTrue (is_lock_opcode opcode) → names n ≡ lock_link files lock
        → IsDecoded (on_member opcode n)
        → IsThere (made (LockOp opcode lock) rest left (on_field opcode (lock_link files lock))
        false)
    lock_there opcode lock n rest left h same d =
        pick (or_cases (opcode == 178) (opcode == 179) h)
      where
        by : (k : ℕ) → k ≤ 3 → 178 + k ≡ opcode
            → IsThere (made (LockOp opcode lock) rest left
            (on_field opcode (lock_link files lock)) false)
        by k few is =
            subst (λ (o : ℕ). IsDecoded (on_member o n)
            → IsThere (made (LockOp opcode lock) rest left (on_field o (lock_link files lock))
            false)) is
            (field_there (LockOp opcode lock) rest left k n (lock_link files lock) few same) d

        pick : ((opcode == 178) ≡ true) ⊎ ((opcode == 179) ≡ true)
            → IsThere (made (LockOp opcode lock) rest left
            (on_field opcode (lock_link files lock)) false)
        pick (inl e) = by 0 (omega arith) (sym (eqb-true opcode 178 e))
        pick (inr e) = by 1 (omega arith) (sym (eqb-true opcode 179 e))

    numbered : (v : ℤ) (n : ℕ) (b : Bool)
        → cond b (Unit {0}) (IsAt (class_pool files c) n (Integer v))
        → cond b (Unit {0}) (names n ≡ link.Number v)
    numbered v n true h = h
    numbered v n false h = number_at files c n v h

    -- ---- each item

    named : (x : Item) → slice_get items q ≡ Some x → IsBeside (Names (class_pool files c)) ns q x
    named x e = beside (Names (class_pool files c)) items ns q x (laid c m).placed.named e

    fits : (x : Item) → slice_get items q ≡ Some x → FitsItem x
    fits x e = fits_at items q x (laid c m).items e

    pub found_there : (xs : List Item) (x : Found) → drop q items ≡ xs
        → found (naming_of files) items q xs ≡ Some x → IsThere x
    found_there [] x left e = absurd (cc e)
    found_there (Label l ∷ rest) x left e = absurd (cc e)
    found_there (Op i ∷ rest) x left e =
        let stands = there items q (Op i) rest left in
        let b = named (Op i) stands in
        let alone = (fits (Op i) stands).1 in
        let none : ℕ → Link = λ n. link.Other in
        close (made (Op i) rest left (operation none i) false) x e
        (straight (Op i) rest left i (operation none i) false
        (decoded_there (Op i) b.other i stands b.stands refl) (alone_same i names none alone)
        (alone_stays i none alone)
        (asks_none false (called_on_object i) (alone_calls_none i alone)))
    found_there (Const v ∷ rest) x left e =
        let stands = there items q (Const v) rest left in
        let b = named (Const v) stands in
        let n = b.other in
        close (made (Const v) rest left (Push v) false) x e
        (straight (Const v) rest left (push v n) (Push v) false
        (decoded_there (Const v) n (push v n) stands b.stands refl)
        (pushes names v n (is_constant v) (within 128 v) (within 32768 v) (nat_le n 255)
        (numbered v n (within 32768 v) b.holds)) refl
        (asks_none false (called_on_object (push v n))
        (pushes_none names v n (is_constant v) (within 128 v) (within 32768 v) (nat_le n 255))))
    found_there (Jump opcode l ∷ rest) x left e =
        let stands = there items q (Jump opcode l) rest left in
        let b = named (Jump opcode l) stands in
        close
        (made (Jump opcode l) rest left
        (matching.branch opcode (pos (target items l) -ℤ pos q)) false) x e
        (jumps (Jump opcode l) rest left opcode l (fits (Jump opcode l) stands)
        (decoded_there (Jump opcode l) b.other
        (placed.branch opcode (pos (offset_of items ns l) -ℤ pos (off c m q))) stands b.stands
        refl))
    found_there (Member opcode class name kind ∷ rest) x left e =
        let stands = there items q (Member opcode class name kind) rest left in
        let b = named (Member opcode class name kind) stands in
        member_there class name kind rest b.other x opcode
        (fits (Member opcode class name kind) stands).0 left b.holds
        (decoded_there (Member opcode class name kind) b.other (on_member opcode b.other) stands
        b.stands refl) e
    found_there (ClassOp opcode class ∷ rest) x left e =
        let stands = there items q (ClassOp opcode class) rest left in
        let b = named (ClassOp opcode class) stands in
        let l = class_of_name files class in
        close (made (ClassOp opcode class) rest left (of_class l) false) x e
        (straight (ClassOp opcode class) rest left (New b.other) (of_class l) false
        (decoded_there (ClassOp opcode class) b.other (New b.other) stands b.stands refl)
        (ap of_class (class_link_at files c b.other (full_name class) b.holds)) (class_stays l)
        (asks_none false None refl))
    found_there (LockOp opcode lock ∷ rest) x left e =
        let stands = there items q (LockOp opcode lock) rest left in
        let b = named (LockOp opcode lock) stands in
        let fit = fits (LockOp opcode lock) stands in
        close
        (made (LockOp opcode lock) rest left (on_field opcode (lock_link files lock)) false) x e
        (lock_there opcode lock b.other rest left fit.0
        (lock_link_at files c b.other lock fit.1 b.holds)
        (decoded_there (LockOp opcode lock) b.other (on_member opcode b.other) stands b.stands
        refl))
