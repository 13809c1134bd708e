-- How many bytes items have, and where they stand.
use Rattle.std.proofs.Common.{◌≡◌, ℕ, zero, suc, ◌+◌, ◌-◌, ◌<◌, ◌≤◌, Bool, true, false, cond, List}
use Rattle.std.proofs.Common.{[], ◌∷◌, length, Some, refl, sym, ap, ◌∙◌, length-append, arith}
use Rattle.std.proofs.lemmas.Bool.{eq-eqb}
use Rattle.std.specs.Prelude.{ℤ, pos, nat_lt, ◌==◌, if◌then◌else◌, IsTrue, slice_get, count_by, All}
use Rattle.std.specs.List.{flat_map}
use Rattle.std.proofs.lemmas.List.Elements.{All-head, All-tail}
use Rattle.std.proofs.lemmas.List.Sums.{sum_by-cons}
use Rattle.par_instr.specs.declared.instr.Instr.{Instr}
use Rattle.par_instr.specs.declared.instr.Instr.TheVariants.{If, IfIcmp, IfAcmpeq, IfAcmpne, Goto}
use Rattle.par_instr.specs.declared.instr.Instr.TheVariants.{Ifnull, Ifnonnull, New}
use Rattle.par_instr.specs.Spelling.{spelling}
use Rattle.par_code_form.specs.declared.item.Item.{Item}
use Rattle.par_code_form.specs.declared.item.Item.TheVariants.{Label, Op, Const}
use Rattle.par_code_form.specs.declared.item.Item.TheVariants.{Jump, Member}
use Rattle.par_code_form.specs.declared.item.Item.TheVariants.{ClassOp, LockOp}
use Rattle.par_code_form.specs.Opcodes.{IFEQ, IF_ICMPEQ, IF_ACMPEQ, IF_ACMPNE, GOTO}
use Rattle.par_code_form.specs.Instructions.{IFNULL, push, branch, on_member, instruction}
use Rattle.par_code_form.specs.Instructions.{is_instruction}
use Rattle.par_code_form.specs.Placed.{bytes_of, size, is_label, offset_of, distance}
use Rattle.par_code_form.specs.Placed.{offset_at, instructions}
use Rattle.par_code_form.specs.Placeable.{FitsItem, StandsOnce}

long : (a b c d e f : Bool) (n m : ℕ) (to : ℤ)
    → length (spelling (if a then If n to else if b then IfIcmp m to else if c then IfAcmpeq to
    else if d then IfAcmpne to else if e then Goto to else if f then Ifnull to
    else Ifnonnull to)) ≡ 3
long true b c d e f n m to = omega arith
long false true c d e f n m to = omega arith
long false false true d e f n m to = omega arith
long false false false true e f n m to = omega arith
long false false false false true f n m to = omega arith
long false false false false false true n m to = omega arith
long false false false false false false n m to = omega arith

-- each branch has three bytes
pub branch_long : (opcode : ℕ) (to : ℤ) → length (spelling (branch opcode to)) ≡ 3
branch_long opcode to =
    long (nat_lt opcode IF_ICMPEQ) (nat_lt opcode IF_ACMPEQ) (opcode == IF_ACMPEQ)
    (opcode == IF_ACMPNE) (opcode == GOTO) (opcode == IFNULL) (opcode - IFEQ) (opcode - IF_ICMPEQ)
    to

-- the distance of a branch does not change how long it is
pub size_any : (index : ℕ) (to : ℤ) (x : Item)
    → length (bytes_of (instruction index to x)) ≡ size x index
size_any index to (Label l) = refl
size_any index to (Op i) = refl
size_any index to (Const v) = refl
size_any index to (Jump opcode l) = branch_long opcode to ∙ sym (branch_long opcode (pos 0))
size_any index to (Member opcode class name kind) = refl
size_any index to (ClassOp opcode class) = refl
size_any index to (LockOp opcode lock) = refl

spelling-some : (i : Instr) → 1 ≤ length (spelling i)
spelling-some i = omega arith

pub size_some : (x : Item) (index : ℕ) → FitsItem x → IsTrue (is_instruction x) → 1 ≤ size x index
size_some (Label l) index f h = cc
size_some (Op i) index f h = spelling-some i
size_some (Const v) index f h = spelling-some (push v index)
size_some (Jump opcode l) index f h = spelling-some (branch opcode (pos 0))
size_some (Member opcode class name kind) index f h = spelling-some (on_member opcode index)
size_some (ClassOp opcode class) index f h = spelling-some (New index)
size_some (LockOp opcode lock) index f h = spelling-some (on_member opcode index)

abbrev pub bit : Bool → ℕ
bit b = cond b 1 0

-- nothing at the label, else so many bytes
abbrev pub passed : ℕ → Bool → ℕ
passed more b = if b then 0 else more

label-itself : (l : ℕ) (x : Item) → Some x ≡ Some (Label l) → is_label l x ≡ true
label-itself l x e = let same : x ≡ Label l = cc in ap (is_label l) same ∙ eq-eqb l l refl

-- a label that stands somewhere is counted
counted : (l p : ℕ) (xs : List Item) → slice_get xs p ≡ Some (Label l)
    → 1 ≤ count_by (is_label l) xs
counted l p [] e = absurd (cc)
counted l zero (x ∷ xs) e =
    let one = ap bit (label-itself l x e) in
    omega (arith, one, sum_by-cons (λ y. bit (is_label l y)) x xs)
counted l (suc p) (x ∷ xs) e =
    omega (arith, counted l p xs e, sum_by-cons (λ y. bit (is_label l y)) x xs)

-- the offset of a label that stands once is what stands before its place
pub offset_is : (l p : ℕ) (xs : List Item) (ns : List ℕ) → slice_get xs p ≡ Some (Label l)
    → length xs ≡ length ns → StandsOnce xs l → offset_of xs ns l ≡ offset_at p xs ns
offset_is l p [] ns e same once = absurd (cc)
offset_is l p (x ∷ xs) [] e same once = absurd (omega arith)
offset_is l zero (x ∷ xs) (n ∷ ns) e same once =
    ap (passed (size x n + offset_of xs ns l)) (label-itself l x e)
offset_is l (suc p) (x ∷ xs) (n ∷ ns) e same once =
    choose (is_label l x) refl
    (λ rest. ap (λ (o : ℕ). size x n + o) (offset_is l p xs ns e (omega (arith, same)) rest))
  where
    choose : (b : Bool) → is_label l x ≡ b
        → (StandsOnce xs l → size x n + offset_of xs ns l ≡ size x n + offset_at p xs ns)
        → offset_of (x ∷ xs) (n ∷ ns) l ≡ size x n + offset_at p xs ns
    choose true is later =
        let one = ap bit is in
        absurd (omega (
          arith,
          one,
          once,
          counted l p xs e,
          sum_by-cons (λ y. bit (is_label l y)) x xs,
        ))
    choose false is later =
        let none = ap bit is in
        let rest : StandsOnce xs l =
        omega (arith, none, once, sum_by-cons (λ y. bit (is_label l y)) x xs) in
        ap (passed (size x n + offset_of xs ns l)) is ∙ later rest

pub upto_le : (p q : ℕ) (xs : List Item) (ns : List ℕ) → p ≤ q
    → offset_at p xs ns ≤ offset_at q xs ns
upto_le zero q xs ns le = omega arith
upto_le (suc p) zero xs ns le = absurd (omega arith)
upto_le (suc p) (suc q) [] ns le = omega arith
upto_le (suc p) (suc q) (x ∷ xs) [] le = omega arith
upto_le (suc p) (suc q) (x ∷ xs) (n ∷ ns) le = omega (arith, upto_le p q xs ns (omega arith))

-- where an instruction stands between, there are more bytes
pub upto_less : (p k q : ℕ) (x : Item) (xs : List Item) (ns : List ℕ) → p ≤ k → k < q
    → slice_get xs k ≡ Some x → IsTrue (is_instruction x) → length xs ≡ length ns → All FitsItem xs
    → offset_at p xs ns < offset_at q xs ns
upto_less p k q x [] ns le lt e is same fit = absurd (cc)
upto_less p k q x (y ∷ ys) [] le lt e is same fit = absurd (omega arith)
upto_less p k zero x (y ∷ ys) (n ∷ ns) le lt e is same fit = absurd (omega arith)
upto_less zero zero (suc q) x (y ∷ ys) (n ∷ ns) le lt e is same fit =
    let here : y ≡ x = cc in
    let real : IsTrue (is_instruction y) = ap is_instruction here ∙ is in
    omega (arith, size_some y n (All-head FitsItem y ys fit) real)
upto_less (suc p) zero (suc q) x (y ∷ ys) (n ∷ ns) le lt e is same fit = absurd (omega arith)
upto_less zero (suc k) (suc q) x (y ∷ ys) (n ∷ ns) le lt e is same fit =
    omega (
      arith,
      upto_less zero k q x ys ns (omega arith) (omega arith) e is (omega (arith, same))
          (All-tail FitsItem y ys fit),
    )
upto_less (suc p) (suc k) (suc q) x (y ∷ ys) (n ∷ ns) le lt e is same fit =
    omega (
      arith,
      upto_less p k q x ys ns (omega arith) (omega arith) e is (omega (arith, same))
          (All-tail FitsItem y ys fit),
    )

-- how long the code is
pub code_length : (f : ℕ → ℕ) (at : ℕ) (xs : List Item) (ns : List ℕ) → length xs ≡ length ns
    → length (flat_map bytes_of (instructions f at xs ns)) ≡ offset_at (length xs) xs ns
code_length f at [] ns same = refl
code_length f at (x ∷ xs) [] same = absurd (omega arith)
code_length f at (x ∷ xs) (n ∷ ns) same =
    let to = distance f at x in
    let rest = flat_map bytes_of (instructions f (at + size x n) xs ns) in
    omega (
      arith,
      length-append (bytes_of (instruction n to x)) rest,
      size_any n to x,
      code_length f (at + size x n) xs ns (omega (arith, same)),
    )
