-- What an instruction of placed code takes and leaves is what its item does.
use Rattle.std.proofs.Common.{◌≡◌, ℕ, zero, suc, ◌+◌, ◌-◌, ◌≤◌, Bool, true, false, cond, Option}
use Rattle.std.proofs.Common.{Some, List, [], ◌∷◌, refl, sym, ap, subst, ◌∙◌, arith, inl, inr}
use Rattle.std.specs.Prelude.{ℤ, pos, ◌==◌, nat_le, IsTrue, ◌⊎◌}
use Rattle.std.proofs.lemmas.Bool.{and_parts, or_cases, leb-true, eqb-true}
use Rattle.par_instr.specs.declared.instr.Instr.{Instr}
use Rattle.par_instr.specs.declared.instr.Instr.TheVariants.{Ldc, LdcW, If, IfIcmp, IfAcmpeq}
use Rattle.par_instr.specs.declared.instr.Instr.TheVariants.{IfAcmpne, Getstatic, Putstatic}
use Rattle.par_instr.specs.declared.instr.Instr.TheVariants.{Getfield, Putfield, Invokevirtual}
use Rattle.par_instr.specs.declared.instr.Instr.TheVariants.{Invokespecial, Invokestatic, New}
use Rattle.par_instr.specs.declared.instr.Instr.TheVariants.{Ifnull, Ifnonnull}
use Rattle.par_instr.specs.declared.instr.Instr.TheVariants as instr
use Rattle.par_instr.specs.Spelling.{is_constant}
use Rattle.par_pool.specs.declared.constant.Constant.TheVariants.{Integer}
use Rattle.par_pool.specs.Entries.{IsAt, IsFieldAt, IsMethodAt}
use Rattle.par_class.specs.declared.file.ClassFile.{ClassFile}
use Rattle.par_values.specs.declared.kind.Kind.{Kind}
use Rattle.par_values.specs.declared.kind.Kind.TheVariants.{Anything, AnyObject}
use Rattle.par_values.specs.declared.link.FieldLink.{FieldLink}
use Rattle.par_values.specs.declared.link.MethodLink.{MethodLink}
use Rattle.par_values.specs.declared.link.Link.{Link}
use Rattle.par_values.specs.declared.link.Link.TheVariants as link
use Rattle.par_values.specs.Areas.{Name}
use Rattle.par_values.specs.Operations.{Operation, operation, of_class, of_field, of_method}
use Rattle.par_values.specs.Operations.{GetStatic, PutStatic, GetField, PutField, InvokeStatic}
use Rattle.par_values.specs.Operations.{InvokeSpecial, InvokeVirtual, Misnamed}
use Rattle.par_link.specs.entry.Named.{Named}
use Rattle.par_link.specs.entry.Named.TheVariants as named
use Rattle.par_link.specs.Named.{method_declared}
use Rattle.par_kinds.specs.par_step_laws.Links.{link_at, lock_link}
use Rattle.par_kinds.specs.par_step_laws.Methods.{class_pool}
use Rattle.par_kinds.specs.par_step_laws.Step.{called_on_object}
use Rattle.par_code_form.specs.declared.item.Item.{Item}
use Rattle.par_code_form.specs.declared.item.Item.TheVariants.{Label, Op, Const, Jump, Member}
use Rattle.par_code_form.specs.declared.item.Item.TheVariants.{ClassOp, LockOp}
use Rattle.par_code_form.specs.Instructions.{instruction, push, within, on_member, is_member}
use Rattle.par_code_form.specs.Instructions.{is_branch}
use Rattle.par_code_form.specs.Instructions as placed
use Rattle.par_code_form.specs.PoolNames.{Names, full_name}
use Rattle.par_code_form.specs.Placeable.{FitsItem, stands_alone, is_lock_opcode}
use Rattle.par_evaluation_laws.specs.par_match_laws.Naming.{member, class_of_name, field_of_name}
use Rattle.par_evaluation_laws.specs.par_match_laws.Naming.{method_of_name}
use Rattle.par_placed_run_laws.proofs.Branches.{Form, Always, Test, Pair, Same}
use Rattle.par_placed_run_laws.proofs.Branches.{OfNull}
use Rattle.par_placed_run_laws.proofs.Branches.{operate}
use Rattle.par_placed_run_laws.proofs.Branches.{form_of}
use Rattle.par_placed_run_laws.proofs.Branches.{labelled_form, placed_form}
use Rattle.par_placed_run_laws.proofs.Branches.{branch_calls_none}
use Rattle.par_placed_run_laws.proofs.Found.{alone_same, alone_calls_none}
use Rattle.par_placed_run_laws.proofs.Found.{pushes}
use Rattle.par_placed_run_laws.proofs.Found.{pushes_none}
use Rattle.par_placed_run_laws.proofs.Named.{class_link_at, field_link_at}
use Rattle.par_placed_run_laws.proofs.Named.{method_at}
use Rattle.par_placed_run_laws.proofs.Named.{method_link_at}
use Rattle.par_placed_run_laws.proofs.Named.{number_at, lock_link_at}
use Rattle.par_kinds.specs.Acts.{Act, Flow, Onward}
use Rattle.par_kinds.specs.Linked.{acted, flow_of, named_by}
use Rattle.par_placed_fit_laws.specs.Given.{aim, aimed}
use Rattle.par_placed_fit_laws.specs.Acts.{item_act}
use Rattle.par_placed_fit_laws.specs.ItemLaws.{ItemsActAsPlaced}

-- ---- what does not branch

-- a distance changes nothing
unaimed : (to : ℤ) (a : Act) → aim to a.flow ≡ a.flow → aimed to a ≡ a
unaimed to a e =
    ap (λ (f : Flow). record {
      wrong = a.wrong;
      takes = a.takes;
      also = a.also;
      leaves = a.leaves;
      flow = f;
    }) e

straight : (to : ℤ) (a : Act) → a.flow ≡ Onward → aimed to a ≡ a
straight to a e = unaimed to a (ap (aim to) e ∙ sym e)

alone_aims : (i : Instr) (names : ℕ → Link) (to : ℤ) → IsTrue (stands_alone i)
    → aim to (flow_of (operation names i)) ≡ flow_of (operation names i)
alone_aims (Ldc n) names to h = absurd (cc h)
alone_aims (LdcW n) names to h = absurd (cc h)
alone_aims (Getstatic n) names to h = absurd (cc h)
alone_aims (Putstatic n) names to h = absurd (cc h)
alone_aims (Getfield n) names to h = absurd (cc h)
alone_aims (Putfield n) names to h = absurd (cc h)
alone_aims (Invokevirtual n) names to h = absurd (cc h)
alone_aims (Invokespecial n) names to h = absurd (cc h)
alone_aims (Invokestatic n) names to h = absurd (cc h)
alone_aims (New n) names to h = absurd (cc h)
alone_aims (If t z) names to h = absurd (cc h)
alone_aims (IfIcmp t z) names to h = absurd (cc h)
alone_aims (IfAcmpeq z) names to h = absurd (cc h)
alone_aims (IfAcmpne z) names to h = absurd (cc h)
alone_aims (instr.Goto z) names to h = absurd (cc h)
alone_aims (Ifnull z) names to h = absurd (cc h)
alone_aims (Ifnonnull z) names to h = absurd (cc h)
alone_aims _ names to h = refl

field_goes : (form : FieldLink → Operation) (other : Operation) (l : Link)
    → ((f : FieldLink) → flow_of (form f) ≡ Onward) → flow_of other ≡ Onward
    → flow_of (of_field form other l) ≡ Onward
field_goes form other (link.Number v) h k = k
field_goes form other (link.Field f) h k = h f
field_goes form other (link.Method m) h k = k
field_goes form other (link.Class c) h k = k
field_goes form other link.Other h k = k

method_goes : (form : MethodLink → Operation) (other : Operation) (l : Link)
    → ((m : MethodLink) → flow_of (form m) ≡ Onward) → flow_of other ≡ Onward
    → flow_of (of_method form other l) ≡ Onward
method_goes form other (link.Number v) h k = k
method_goes form other (link.Field f) h k = k
method_goes form other (link.Method m) h k = h m
method_goes form other (link.Class c) h k = k
method_goes form other link.Other h k = k

class_goes : (l : Link) → flow_of (of_class l) ≡ Onward
class_goes (link.Number v) = refl
class_goes (link.Field f) = refl
class_goes (link.Method m) = refl
class_goes (link.Class c) = refl
class_goes link.Other = refl

un_some : {A : Type 0} (x y : A) → Some x ≡ Some y → x ≡ y
un_some x y e = cc e

-- ---- each form of item

module _ (files : List ClassFile) (class : ℕ) (gives : Option Kind) where
  abbrev names : ℕ → Link
  names = link_at files class

  -- what an instruction takes and leaves
  abbrev act : Instr → Act
  act i = acted files gives (named_by files class (called_on_object i)) (operation names i)

  abbrev IsAct : Item → ℤ → Instr → Type 0
  IsAct item to i = act i ≡ aimed to (item_act files gives item)

  alone : (i : Instr) (to : ℤ) → IsTrue (stands_alone i) → IsAct (Op i) to i
  alone i to h =
      ap (λ (o : Option ℕ). acted files gives (named_by files class o) (operation names i))
      (alone_calls_none i h)
      ∙ ap (acted files gives named.Nothing) (alone_same i names (λ n. link.Other) h)
      ∙ sym (unaimed to (item_act files gives (Op i)) (alone_aims i (λ n. link.Other) to h))

  number : (v : ℤ) (n : ℕ) (b : Bool)
      → cond b (Unit {0}) (IsAt (class_pool files class) n (Integer v))
      → cond b (Unit {0}) (names n ≡ link.Number v)
  number v n true h = tt
  number v n false h = number_at files class n v h

  constant_ : (v : ℤ) (n : ℕ) (to : ℤ) → Names (class_pool files class) (Const v) n
      → IsAct (Const v) to (push v n)
  constant_ v n to h =
      let a = is_constant v in
      let b = within 128 v in
      let c = within 32768 v in
      let d = nat_le n 255 in
      ap (λ (o : Option ℕ). acted files gives (named_by files class o) (operation names (push v n)))
      (pushes_none names v n a b c d)
      ∙ ap (acted files gives named.Nothing) (pushes names v n a b c d (number v n c h))
      ∙ sym (straight to (item_act files gives (Const v)) refl)

  -- a branch goes as far as it is said to
  branch_aims : (f : Form) (to : ℤ)
      → acted files gives named.Nothing (operate f to)
      ≡ aimed to (acted files gives named.Nothing (operate f (pos 0)))
  branch_aims Always to = refl
  branch_aims (Test t) to = refl
  branch_aims (Pair t) to = refl
  branch_aims (Same b) to = refl
  branch_aims (OfNull b) to = refl

  branch : (opcode l : ℕ) (to : ℤ) → IsTrue (is_branch opcode)
      → IsAct (Jump opcode l) to (placed.branch opcode to)
  branch opcode l to h =
      ap (λ (o : Option ℕ). acted files gives (named_by files class o)
      (operation names (placed.branch opcode to))) (branch_calls_none opcode to)
      ∙ ap (acted files gives named.Nothing) (placed_form names to opcode h)
      ∙ branch_aims (form_of opcode) to
      ∙ ap (λ (o : Operation). aimed to (acted files gives named.Nothing o))
      (sym (labelled_form opcode (pos 0)))

  on_field : (form : FieldLink → Operation) (other : Operation) (l m : Link) (to : ℤ)
      → ((f : FieldLink) → flow_of (form f) ≡ Onward) → flow_of other ≡ Onward → l ≡ m
      → acted files gives named.Nothing (of_field form other l)
      ≡ aimed to (acted files gives named.Nothing (of_field form other m))
  on_field form other l m to h k same =
      ap (λ (x : Link). acted files gives named.Nothing (of_field form other x)) same
      ∙ sym (straight to (acted files gives named.Nothing (of_field form other m))
      (field_goes form other m h k))

  on_method : (form : MethodLink → Operation) (other : Operation) (n p : Named) (l m : Link)
      (to : ℤ) → ((k : MethodLink) → flow_of (form k) ≡ Onward) → flow_of other ≡ Onward
      → n ≡ p → l ≡ m
      → acted files gives n (of_method form other l)
      ≡ aimed to (acted files gives p (of_method form other m))
  on_method form other n p l m to h k one same =
      ap (λ (x : Named). acted files gives x (of_method form other l)) one
      ∙ ap (λ (x : Link). acted files gives p (of_method form other x)) same
      ∙ sym (straight to (acted files gives p (of_method form other m))
      (method_goes form other m h k))

  -- by the number of the instruction
  module _ (owner name kind : Name) (n : ℕ) (to : ℤ) where
    abbrev IsMemberAct : ℕ → Type 0
    IsMemberAct opcode =
        Names (class_pool files class) (Member opcode owner name kind) n
        → IsAct (Member opcode owner name kind) to (on_member opcode n)

    abbrev field : Link
    field = field_of_name files owner name kind

    abbrev method : Link
    method = method_of_name files owner name kind

    field_same : IsFieldAt (class_pool files class) n (full_name owner) name kind
        → names n ≡ field
    field_same h = field_link_at files class n (full_name owner) name kind h

    method_same : IsMethodAt (class_pool files class) n (full_name owner) name kind
        → names n ≡ method
    method_same h = method_link_at files class n (full_name owner) name kind h

    by_number : (k : ℕ) → k ≤ 6 → IsMemberAct (178 + k)
    by_number zero few h =
        on_field GetStatic (Misnamed [] 1) (names n) field to (λ f. refl) refl (field_same h)
    by_number (suc zero) few h =
        on_field PutStatic (Misnamed (Anything ∷ []) 0) (names n) field to (λ f. refl) refl
        (field_same h)
    by_number (suc (suc zero)) few h =
        on_field GetField (Misnamed (AnyObject ∷ []) 1) (names n) field to (λ f. refl) refl
        (field_same h)
    by_number (suc (suc (suc zero))) few h =
        on_field PutField (Misnamed (Anything ∷ AnyObject ∷ []) 0) (names n) field to (λ f. refl)
        refl (field_same h)
    by_number (suc (suc (suc (suc zero)))) few h =
        on_method InvokeVirtual (Misnamed (Anything ∷ []) 0) (named_by files class (Some n))
        (method_declared files (member owner name kind)) (names n) method to (λ m. refl) refl
        (method_at files class n (full_name owner) name kind h) (method_same h)
    by_number (suc (suc (suc (suc (suc zero))))) few h =
        on_method InvokeSpecial (Misnamed (Anything ∷ []) 0) (named_by files class (Some n))
        (method_declared files (member owner name kind)) (names n) method to (λ m. refl) refl
        (method_at files class n (full_name owner) name kind h) (method_same h)
    by_number (suc (suc (suc (suc (suc (suc zero)))))) few h =
        on_method InvokeStatic (Misnamed [] 0) named.Nothing named.Nothing (names n) method to
        (λ m. refl) refl refl (method_same h)
    by_number (suc (suc (suc (suc (suc (suc (suc k))))))) few h = absurd (omega (arith, few))

    on_any : (opcode : ℕ) → IsTrue (is_member opcode) → IsMemberAct opcode
    on_any opcode h =
        let parts = and_parts (nat_le 178 opcode) (nat_le opcode 184) h in
        let low = leb-true 178 opcode parts.0 in
        let high = leb-true opcode 184 parts.1 in
        let same : 178 + (opcode - 178) ≡ opcode = omega (arith, low) in
        subst IsMemberAct same (by_number (opcode - 178) (omega (arith, low, high)))

  on_class : (opcode n : ℕ) (owner : Name) (to : ℤ)
      → Names (class_pool files class) (ClassOp opcode owner) n
      → IsAct (ClassOp opcode owner) to (New n)
  on_class opcode n owner to h =
      let l = class_of_name files owner in
      ap (λ (x : Link). acted files gives named.Nothing (of_class x))
      (class_link_at files class n (full_name owner) h)
      ∙ sym (straight to (acted files gives named.Nothing (of_class l)) (class_goes l))

  on_lock : (opcode lock n : ℕ) (to : ℤ) → IsTrue (is_lock_opcode opcode)
      → names n ≡ lock_link files lock → IsAct (LockOp opcode lock) to (on_member opcode n)
  on_lock opcode lock n to h same = pick (or_cases (opcode == 178) (opcode == 179) h)
    where
      reads : IsAct (LockOp 178 lock) to (on_member 178 n)
      reads =
          on_field GetStatic (Misnamed [] 1) (names n) (lock_link files lock) to (λ f. refl) refl
          same

      writes : IsAct (LockOp 179 lock) to (on_member 179 n)
      writes =
          on_field PutStatic (Misnamed (Anything ∷ []) 0) (names n) (lock_link files lock) to
          (λ f. refl) refl same

      pick : ((opcode == 178) ≡ true) ⊎ ((opcode == 179) ≡ true)
          → IsAct (LockOp opcode lock) to (on_member opcode n)
      pick (inl e) =
          subst (λ (o : ℕ). IsAct (LockOp o lock) to (on_member o n)) (sym (eqb-true opcode 178 e))
          reads
      pick (inr e) =
          subst (λ (o : ℕ). IsAct (LockOp o lock) to (on_member o n)) (sym (eqb-true opcode 179 e))
          writes

  whole : (item : Item) (to : ℤ) (j i : Instr) → Some j ≡ Some i → IsAct item to j
      → IsAct item to i
  whole item to j i same h = subst (IsAct item to) (un_some j i same) h

  each : (item : Item) (index : ℕ) (to : ℤ) (i : Instr)
      → Names (class_pool files class) item index → FitsItem item
      → instruction index to item ≡ Some i → IsAct item to i
  each (Label l) index to i names_ fits is = absurd (cc is)
  each (Op j) index to i names_ fits is = whole (Op j) to j i is (alone j to fits.1)
  each (Const v) index to i names_ fits is =
      whole (Const v) to (push v index) i is (constant_ v index to names_)
  each (Jump opcode l) index to i names_ fits is =
      whole (Jump opcode l) to (placed.branch opcode to) i is (branch opcode l to fits)
  each (Member opcode owner name kind) index to i names_ fits is =
      whole (Member opcode owner name kind) to (on_member opcode index) i is
      (on_any owner name kind index to opcode fits.0 names_)
  each (ClassOp opcode owner) index to i names_ fits is =
      whole (ClassOp opcode owner) to (New index) i is (on_class opcode index owner to names_)
  each (LockOp opcode lock) index to i names_ fits is =
      whole (LockOp opcode lock) to (on_member opcode index) i is
      (on_lock opcode lock index to fits.0 (lock_link_at files class index lock fits.1 names_))

pub items_act_as_placed : ItemsActAsPlaced
items_act_as_placed files class gives item index to i names_ fits is =
    each files class gives item index to i names_ fits is
