-- The walk through placed code starts at its instructions alone.
use Rattle.std.proofs.Common.{◌≡◌, ℕ, zero, suc, ◌+◌, true, List, [], ◌∷◌, ◌++◌, length, Option}
use Rattle.std.proofs.Common.{Some, refl, sym, ap, subst, ◌∙◌, arith, ◌⊎◌, inl, inr}
use Rattle.std.specs.Prelude.{IsTrue, slice_get}
use Rattle.std.specs.List.{flat_map, AllByRecursion}
use Rattle.par_instr.specs.declared.instr.Instr.{Instr}
use Rattle.par_instr.specs.Spelling.{spelling, IsSpelled}
use Rattle.par_instr.proofs.Spellings.{each_is_listed}
use Rattle.par_single.specs.Walk.{starts_after, starts_at, if_listed}
use Rattle.par_code_form.specs.declared.item.Item.{Item}
use Rattle.par_code_form.specs.declared.item.Item.TheVariants.{Label, Op, Const, Jump, Member}
use Rattle.par_code_form.specs.declared.item.Item.TheVariants.{ClassOp, LockOp}
use Rattle.par_code_form.specs.Instructions.{instruction, is_instruction}
use Rattle.par_code_form.specs.Placed.{bytes_of, IsWritable, size, offset_at, distance}
use Rattle.par_code_form.specs.Placed.{instructions}
use Rattle.par_place.proofs.Sizes.{size_any}

-- what is left behind bytes
pub record IsBehind (many : ℕ) (rest : List ℕ) (at : ℕ) : Type 0 where
  pub more : ℕ
  pub is : at ≡ many + more
  pub starts : starts_at rest more ≡ true

-- none starts at an operand byte
operands_back : (operands rest : List ℕ) (at : ℕ)
    → starts_after (operands ++ rest) at (length operands) ≡ true
    → IsBehind (length operands) rest at
unfolding starts_after
operands_back [] rest at h = record { more = at; is = omega arith; starts = h }
operands_back (byte ∷ operands) rest zero h = absurd (cc h)
operands_back (byte ∷ operands) rest (suc at) h =
    let later = operands_back operands rest at h in
    record { more = later.more; is = omega (arith, later.is); starts = later.starts }

-- of an instruction with bytes behind it one starts at its first byte, or behind it
starts_back : (bytes rest : List ℕ) (at : ℕ) (i : Instr) → IsSpelled bytes i
    → starts_at (bytes ++ rest) at ≡ true → (at ≡ 0) ⊎ IsBehind (length bytes) rest at
unfolding starts_after
starts_back [] rest at i s h = absurd (cc (s.bytes_are))
starts_back (op ∷ operands) rest zero i s h = inl refl
starts_back (op ∷ operands) rest (suc at) i s h =
    let later = operands_back operands rest at
    (sym (ap (if_listed (starts_after (operands ++ rest) at)) (each_is_listed i op operands s))
    ∙ h) in
    inr (record { more = later.more; is = omega (arith, later.is); starts = later.starts })

-- an instruction of items stands at an offset
pub record StandsAt (xs : List Item) (ns : List ℕ) (at : ℕ) : Type 0 where
  pub place : ℕ
  pub item : Item
  pub index : ℕ
  pub stands : slice_get xs place ≡ Some item
  pub named : slice_get ns place ≡ Some index
  pub is : IsTrue (is_instruction item)
  pub offset : offset_at place xs ns ≡ at

further : (x : Item) (n : ℕ) (xs : List Item) (ns : List ℕ) (at more : ℕ)
    → at ≡ size x n + more → StandsAt xs ns more → StandsAt (x ∷ xs) (n ∷ ns) at
further x n xs ns at more is s = record {
  place = suc s.place;
  item = s.item;
  index = s.index;
  stands = s.stands;
  named = s.named;
  is = s.is;
  offset = ap (λ (o : ℕ). size x n + o) s.offset ∙ sym is;
}

module _ (f : ℕ → ℕ) where
  abbrev bytes_from : ℕ → List Item → List ℕ → List ℕ
  bytes_from from xs ns = flat_map bytes_of (instructions f from xs ns)

  one_back : (x : Item) (n : ℕ) (i : Instr) (xs : List Item) (ns : List ℕ) (from at : ℕ)
      → IsTrue (is_instruction x) → instruction n (distance f from x) x ≡ Some i
      → IsWritable (instruction n (distance f from x) x)
      → ((more : ℕ) → starts_at (bytes_from (from + size x n) xs ns) more ≡ true
      → StandsAt xs ns more)
      → starts_at (bytes_of (instruction n (distance f from x) x)
      ++ bytes_from (from + size x n) xs ns) at ≡ true
      → StandsAt (x ∷ xs) (n ∷ ns) at
  one_back x n i xs ns from at real is writable later h =
      in_case (starts_back (spelling i) rest at i (subst IsWritable is writable)
      (subst (λ (o : Option Instr). starts_at (bytes_of o ++ rest) at ≡ true) is h))
    where
      rest : List ℕ
      rest = flat_map bytes_of (instructions f (from + size x n) xs ns)

      long : length (spelling i) ≡ size x n
      long = ap (λ (o : Option Instr). length (bytes_of o)) (sym is)
          ∙ size_any n (distance f from x) x

      in_case : (at ≡ 0) ⊎ IsBehind (length (spelling i)) rest at
          → StandsAt (x ∷ xs) (n ∷ ns) at
      in_case (inl first) = record {
        place = 0;
        item = x;
        index = n;
        stands = refl;
        named = refl;
        is = real;
        offset = sym first;
      }
      in_case (inr b) =
          further x n xs ns at b.more (b.is ∙ ap (λ (m : ℕ). m + b.more) long)
          (later b.more b.starts)

  pub stands_back : (xs : List Item) (ns : List ℕ) (from at : ℕ) → length xs ≡ length ns
      → AllByRecursion IsWritable (instructions f from xs ns)
      → starts_at (bytes_from from xs ns) at ≡ true → StandsAt xs ns at
  unfolding starts_after
  stands_back [] ns from at same writable h = absurd (cc h)
  stands_back (x ∷ xs) [] from at same writable h = absurd (omega (arith, same))
  stands_back (Label l ∷ xs) (n ∷ ns) from at same writable h =
      further (Label l) n xs ns at at (omega arith)
      (stands_back xs ns (from + size (Label l) n) at (omega (arith, same)) writable.1 h)
  stands_back (Op i ∷ xs) (n ∷ ns) from at same writable h =
      one_back (Op i) n _ xs ns from at refl refl writable.0
      (λ m k. stands_back xs ns (from + size (Op i) n) m (omega (arith, same)) writable.1 k) h
  stands_back (Const v ∷ xs) (n ∷ ns) from at same writable h =
      one_back (Const v) n _ xs ns from at refl refl writable.0
      (λ m k. stands_back xs ns (from + size (Const v) n) m (omega (arith, same)) writable.1 k) h
  stands_back (Jump o l ∷ xs) (n ∷ ns) from at same writable h =
      one_back (Jump o l) n _ xs ns from at refl refl writable.0
      (λ m k. stands_back xs ns (from + size (Jump o l) n) m (omega (arith, same)) writable.1 k) h
  stands_back (Member o c i d ∷ xs) (n ∷ ns) from at same writable h =
      one_back (Member o c i d) n _ xs ns from at refl refl writable.0
      (λ m k. stands_back xs ns (from + size (Member o c i d) n) m (omega (arith, same)) writable.1
      k) h
  stands_back (ClassOp o c ∷ xs) (n ∷ ns) from at same writable h =
      one_back (ClassOp o c) n _ xs ns from at refl refl writable.0
      (λ m k. stands_back xs ns (from + size (ClassOp o c) n) m (omega (arith, same)) writable.1 k)
      h
  stands_back (LockOp o l ∷ xs) (n ∷ ns) from at same writable h =
      one_back (LockOp o l) n _ xs ns from at refl refl writable.0
      (λ m k. stands_back xs ns (from + size (LockOp o l) n) m (omega (arith, same)) writable.1 k) h
