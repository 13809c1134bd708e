-- Labels and instructions of placed code at one offset.
use Rattle.std.proofs.Common.{◌≡◌, ℕ, zero, suc, ◌+◌, ◌≤◌, Bool, true, false, List, [], ◌∷◌, length}
use Rattle.std.proofs.Common.{drop, Some, refl, ap, subst, ◌∙◌, arith, ◌||◌}
use Rattle.std.specs.Prelude.{IsTrue, slice_get}
use Rattle.par_code_form.specs.declared.item.Item.{Item}
use Rattle.par_code_form.specs.declared.item.Item.TheVariants.{Label, Op, Const, Jump, Member}
use Rattle.par_code_form.specs.declared.item.Item.TheVariants.{ClassOp, LockOp}
use Rattle.par_code_form.specs.Instructions.{is_instruction}
use Rattle.par_code_form.specs.Placed.{size, offset_at}
use Rattle.par_framed_file_laws.specs.Met.{lands, IsMet, AreMet}

-- an instruction at the offset of a place: only labels stand between
pub record IsNext (xs : List Item) (ns : List ℕ) (from : ℕ) : Type 0 where
  pub place : ℕ
  pub item : Item
  pub stands : slice_get xs place ≡ Some item
  pub is : IsTrue (is_instruction item)
  pub offset : offset_at place xs ns ≡ offset_at from xs ns

head_next : (x : Item) (xs : List Item) (ns : List ℕ) → IsTrue (is_instruction x)
    → IsNext (x ∷ xs) ns 0
head_next x xs ns is =
    record { place = 0; item = x; stands = refl; is = is; offset = refl }

no_label : (l : ℕ) (x : Item) → Some (Label l) ≡ Some x → IsTrue (is_instruction x) → ⊥
no_label l x e is =
    let same : Label l ≡ x = cc e in cc (ap is_instruction same ∙ is)

-- the first instruction behind a place
pub next_is : (from to : ℕ) (x : Item) (xs : List Item) (ns : List ℕ) → from ≤ to
    → slice_get xs to ≡ Some x → IsTrue (is_instruction x) → length xs ≡ length ns
    → IsNext xs ns from
next_is from to x [] ns le e is same = absurd (cc e)
next_is from to x (y ∷ xs) [] le e is same = absurd (omega (arith, same))
next_is (suc from) zero x (y ∷ xs) (n ∷ ns) le e is same = absurd (omega (arith, le))
next_is (suc from) (suc to) x (y ∷ xs) (n ∷ ns) le e is same =
    let later = next_is from to x xs ns (omega (arith, le)) e is (omega (arith, same)) in
    record {
      place = suc later.place;
      item = later.item;
      stands = later.stands;
      is = later.is;
      offset = ap (λ (o : ℕ). size y n + o) later.offset;
    }
next_is zero zero x (Label l ∷ xs) (n ∷ ns) le e is same = absurd (no_label l x e is)
next_is zero (suc to) x (Label l ∷ xs) (n ∷ ns) le e is same =
    let later = next_is zero to x xs ns (omega arith) e is (omega (arith, same)) in
    record {
      place = suc later.place;
      item = later.item;
      stands = later.stands;
      is = later.is;
      offset = let o = later.offset in omega (arith, o);
    }
next_is zero to x (Op i ∷ xs) (n ∷ ns) le e is same = head_next (Op i) xs (n ∷ ns) refl
next_is zero to x (Const v ∷ xs) (n ∷ ns) le e is same = head_next (Const v) xs (n ∷ ns) refl
next_is zero to x (Jump o l ∷ xs) (n ∷ ns) le e is same = head_next (Jump o l) xs (n ∷ ns) refl
next_is zero to x (Member o c i d ∷ xs) (n ∷ ns) le e is same =
    head_next (Member o c i d) xs (n ∷ ns) refl
next_is zero to x (ClassOp o c ∷ xs) (n ∷ ns) le e is same =
    head_next (ClassOp o c) xs (n ∷ ns) refl
next_is zero to x (LockOp o l ∷ xs) (n ∷ ns) le e is same =
    head_next (LockOp o l) xs (n ∷ ns) refl

-- where items land behind a place: at a label that has a frame, or at the end of the code
pub data Landing (has : ℕ → Bool) (xs : List Item) (ns : List ℕ) (from : ℕ) : Type 0 where
  framed : (l place : ℕ) → slice_get xs place ≡ Some (Label l) → has l ≡ true
      → offset_at place xs ns ≡ offset_at from xs ns → Landing has xs ns from
  ended : offset_at (length xs) xs ns ≡ offset_at from xs ns → Landing has xs ns from

module _ (has : ℕ → Bool) where
  deeper : (x : Item) (n : ℕ) (xs : List Item) (ns : List ℕ) (from : ℕ) → Landing has xs ns from
      → Landing has (x ∷ xs) (n ∷ ns) (suc from)
  deeper x n xs ns from (framed l place stands is offset) =
      framed l (suc place) stands is (ap (λ (o : ℕ). size x n + o) offset)
  deeper x n xs ns from (ended offset) = ended (ap (λ (o : ℕ). size x n + o) offset)

  -- a label has no bytes
  behind_label : (k n : ℕ) (xs : List Item) (ns : List ℕ) → Landing has xs ns 0
      → Landing has (Label k ∷ xs) (n ∷ ns) 0
  behind_label k n xs ns (framed l place stands is offset) =
      framed l (suc place) stands is (omega (arith, offset))
  behind_label k n xs ns (ended offset) = ended (omega (arith, offset))

  none_left : (from : ℕ) (ns : List ℕ) → offset_at 0 [] ns ≡ offset_at from [] ns
  none_left zero ns = refl
  none_left (suc from) ns = refl

  pub landing : (from : ℕ) (xs : List Item) (ns : List ℕ) → length xs ≡ length ns
      → lands has (drop from xs) ≡ true → Landing has xs ns from
  unfolding lands
  landing from [] ns same h = ended (none_left from ns)
  landing from (x ∷ xs) [] same h = absurd (omega (arith, same))
  landing (suc from) (x ∷ xs) (n ∷ ns) same h =
      deeper x n xs ns from (landing from xs ns (omega (arith, same)) h)
  landing zero (Label l ∷ xs) (n ∷ ns) same h =
      in_case (has l) refl (λ k. landing zero xs ns (omega (arith, same)) k) h
    where
      in_case : (b : Bool) → has l ≡ b → (lands has xs ≡ true → Landing has xs ns 0)
          → (b || lands has xs) ≡ true → Landing has (Label l ∷ xs) (n ∷ ns) 0
      in_case true is later k = framed l 0 refl is refl
      in_case false is later k = behind_label l n xs ns (later k)
  landing zero (Op i ∷ xs) (n ∷ ns) same h = absurd (cc h)
  landing zero (Const v ∷ xs) (n ∷ ns) same h = absurd (cc h)
  landing zero (Jump o l ∷ xs) (n ∷ ns) same h = absurd (cc h)
  landing zero (Member o c i d ∷ xs) (n ∷ ns) same h = absurd (cc h)
  landing zero (ClassOp o c ∷ xs) (n ∷ ns) same h = absurd (cc h)
  landing zero (LockOp o l ∷ xs) (n ∷ ns) same h = absurd (cc h)

  -- an item at its place
  pub met_at : (xs : List Item) (p : ℕ) (x : Item) → AreMet has xs → slice_get xs p ≡ Some x
      → IsMet has (drop (suc p) xs) x
  unfolding AreMet
  met_at [] p x met e = absurd (cc e)
  met_at (y ∷ xs) zero x met e =
      let same : y ≡ x = cc e in subst (IsMet has xs) same met.0
  met_at (y ∷ xs) (suc p) x met e = met_at xs p x met.1 e
