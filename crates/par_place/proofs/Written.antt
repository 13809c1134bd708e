-- The bytes of items, as far as a loop has come.
use Rattle.std.proofs.Common.{◌≡◌, ℕ, ◌+◌, ◌<◌, ◌≤◌, Bool, true, false, List, [], ◌∷◌}
use Rattle.std.proofs.Common.{◌++◌, length, get_or, take, drop, Option, refl, sym, ap, subst, ◌∙◌}
use Rattle.std.proofs.Common.{append_assoc, length-append, arith}
use Rattle.std.specs.Prelude.{ℤ, pos, nat_le, ◌==◌, if◌then◌else◌, sum_by}
use Rattle.std.specs.List.{flat_map, AllByRecursion}
use Rattle.std.proofs.lemmas.List.{drop_more, drop_all, append-nil}
use Rattle.std.proofs.lemmas.List.Sums.{sum_by_more, sum_by-take-le}
use Rattle.par_instr.specs.declared.instr.Instr.{Instr}
use Rattle.par_instr.specs.declared.instr.Instr.TheVariants.{Iconst, Bipush, Sipush, Ldc, LdcW}
use Rattle.par_instr.specs.declared.instr.Instr.TheVariants.{Getstatic, Putstatic, Getfield}
use Rattle.par_instr.specs.declared.instr.Instr.TheVariants.{Putfield, Invokevirtual}
use Rattle.par_instr.specs.declared.instr.Instr.TheVariants.{Invokespecial, Invokestatic}
use Rattle.par_instr.specs.Spelling.{spelling, is_constant}
use Rattle.par_code_form.specs.declared.item.Item.{Item}
use Rattle.par_code_form.specs.declared.item.Item.TheVariants.{Label, Op, Const}
use Rattle.par_code_form.specs.declared.item.Item.TheVariants.{Jump, Member}
use Rattle.par_code_form.specs.declared.item.Item.TheVariants.{ClassOp, LockOp}
use Rattle.par_code_form.specs.Opcodes.{GETSTATIC, PUTSTATIC, GETFIELD, PUTFIELD}
use Rattle.par_code_form.specs.Opcodes.{INVOKEVIRTUAL}
use Rattle.par_code_form.specs.Opcodes.{INVOKESPECIAL}
use Rattle.par_code_form.specs.Instructions.{within, instruction}
use Rattle.par_code_form.specs.Placed.{bytes_of, IsWritable, size, distance, instructions}
use Rattle.par_code_form.specs.Placeable.{most_bytes}
use Rattle.par_place.proofs.Sizes.{size_any, branch_long}

-- ---- the most bytes of an item

pushed-most : (a b c d : Bool) (v : ℤ) (n : ℕ)
    → length (spelling (if a then Iconst v else if b then Bipush v else if c then Sipush v
    else if d then Ldc n else LdcW n)) ≤ (if a then 1 else if b then 2 else 3)
pushed-most true b c d v n = omega arith
pushed-most false true c d v n = omega arith
pushed-most false false true d v n = omega arith
pushed-most false false false true v n = omega arith
pushed-most false false false false v n = omega arith

member-most : (a b c d e f : Bool) (n : ℕ)
    → length (spelling (if a then Getstatic n else if b then Putstatic n else if c then Getfield n
    else if d then Putfield n else if e then Invokevirtual n else if f then Invokespecial n
    else Invokestatic n)) ≤ 3
member-most true b c d e f n = omega arith
member-most false true c d e f n = omega arith
member-most false false true d e f n = omega arith
member-most false false false true e f n = omega arith
member-most false false false false true f n = omega arith
member-most false false false false false true n = omega arith
member-most false false false false false false n = omega arith

pub size-most : (x : Item) (n : ℕ) → size x n ≤ most_bytes x
size-most (Label l) n = omega arith
size-most (Op i) n = omega arith
size-most (Const v) n =
    pushed-most (is_constant v) (within 128 v) (within 32768 v) (nat_le n 255) v n
size-most (Jump opcode l) n = omega (arith, branch_long opcode (pos 0))
size-most (Member opcode class name kind) n =
    member-most (opcode == GETSTATIC) (opcode == PUTSTATIC) (opcode == GETFIELD)
    (opcode == PUTFIELD) (opcode == INVOKEVIRTUAL) (opcode == INVOKESPECIAL) n
size-most (ClassOp opcode class) n = omega arith
size-most (LockOp opcode lock) n =
    member-most (opcode == GETSTATIC) (opcode == PUTSTATIC) (opcode == GETFIELD)
    (opcode == PUTFIELD) (opcode == INVOKEVIRTUAL) (opcode == INVOKESPECIAL) n

-- ---- the loop

-- With the bytes of what is left these are the bytes of all.
pub record AreWritten (f : ℕ → ℕ) (items : List Item) (indices : List ℕ) (i : ℕ) (code : List ℕ)
    : Type 0 where
  pub bytes :
      code ++ flat_map bytes_of (instructions f (length code) (drop i items) (drop i indices))
      ≡ flat_map bytes_of (instructions f 0 items indices)
  pub writable :
      AllByRecursion IsWritable (instructions f (length code) (drop i items) (drop i indices))
      → AllByRecursion IsWritable (instructions f 0 items indices)
  pub short : length code ≤ sum_by most_bytes (take i items)

pub written_first : (f : ℕ → ℕ) (items : List Item) (indices : List ℕ)
    → AreWritten f items indices 0 []
written_first f items indices = record { bytes = refl; writable = λ h. h; short = omega arith }

pub written_more : (f : ℕ → ℕ) (items : List Item) (indices : List ℕ) (i : ℕ) (x : Item) (n : ℕ)
    (to : ℤ) (made : Option Instr) (old new : List ℕ) → i < length items → i < length indices
    → get_or items i x ≡ x → get_or indices i n ≡ n → to ≡ distance f (length old) x
    → made ≡ instruction n to x → IsWritable made → new ≡ old ++ bytes_of made
    → AreWritten f items indices i old → AreWritten f items indices (i + 1) new
written_more f items indices i x n to made old new lt within x-is n-is to-is made-is fits new-is h =
    record {
      bytes =
          ap (λ (c : List ℕ). c ++ flat_map bytes_of (instructions f (length new)
          (drop (i + 1) items) (drop (i + 1) indices))) new-is
          ∙ append_assoc old (bytes_of made) (flat_map bytes_of (instructions f (length new)
          (drop (i + 1) items) (drop (i + 1) indices)))
          ∙ ap (λ (is : List (Option Instr)). old ++ flat_map bytes_of is) (sym rest) ∙ h.bytes;
      writable = λ later.
          h.writable (subst (AllByRecursion IsWritable) (sym rest) (fits, later));
      short =
          omega (
            arith,
            grown,
            size-most x n,
            h.short,
            sum_by_more most_bytes items i x lt,
            ap most_bytes x-is,
          );
    }
  where
    made-as : instruction n (distance f (length old) x) x ≡ made
    made-as = ap (λ (z : ℤ). instruction n z x) (sym to-is) ∙ sym made-is

    grown : length new ≡ length old + size x n
    grown =
        ap length new-is ∙ length-append old (bytes_of made)
        ∙ ap (λ (o : Option Instr). length old + length (bytes_of o)) made-is
        ∙ ap (λ (s : ℕ). length old + s) (size_any n to x)

    xs-is : drop i items ≡ x ∷ drop (i + 1) items
    xs-is = drop_more items i x lt ∙ ap (λ (y : Item). y ∷ drop (i + 1) items) x-is

    ns-is : drop i indices ≡ n ∷ drop (i + 1) indices
    ns-is = drop_more indices i n within ∙ ap (λ (k : ℕ). k ∷ drop (i + 1) indices) n-is

    rest : instructions f (length old) (drop i items) (drop i indices)
        ≡ made ∷ instructions f (length new) (drop (i + 1) items) (drop (i + 1) indices)
    rest =
        ap (λ (ys : List Item). instructions f (length old) ys (drop i indices)) xs-is
        ∙ ap (λ (ks : List ℕ). instructions f (length old) (x ∷ drop (i + 1) items) ks) ns-is
        ∙ ap (λ (o : Option Instr). o ∷ instructions f (length old + size x n)
        (drop (i + 1) items) (drop (i + 1) indices)) made-as
        ∙ ap (λ (at : ℕ). made ∷ instructions f at (drop (i + 1) items) (drop (i + 1) indices))
        (sym grown)

pub written_last : (f : ℕ → ℕ) (items : List Item) (indices : List ℕ) (i : ℕ) (code : List ℕ)
    → length items ≤ i → AreWritten f items indices i code
    → ((code ≡ flat_map bytes_of (instructions f 0 items indices))
    × AllByRecursion IsWritable (instructions f 0 items indices)
    × (length code ≤ sum_by most_bytes items))
written_last f items indices i code le h =
    let none : drop i items ≡ [] = drop_all i items le in (
      sym (append-nil code)
          ∙ ap (λ (xs : List Item). code
          ++ flat_map bytes_of (instructions f (length code) xs (drop i indices))) (sym none)
          ∙ h.bytes,
      h.writable (subst (λ (xs : List Item). AllByRecursion IsWritable
          (instructions f (length code) xs (drop i indices))) (sym none) tt),
      omega (arith, h.short, sum_by-take-le most_bytes items i),
    )
