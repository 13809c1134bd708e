-- Where placed items begin: what lies before their first instruction, and their place in the whole.
use Rattle.std.proofs.Common.{◌≡◌, ℕ, suc, ◌+◌, List, [], ◌∷◌, Option, Some, None, length, refl}
use Rattle.std.proofs.Common.{sym, ap, subst, ◌∙◌, arith}
use Rattle.std.specs.Prelude.{IsTrue}
use Rattle.std.specs.List.{slice_get}
use Rattle.par_values.specs.Areas.{Name}
use Rattle.par_code_form.specs.declared.item.Item.{Item}
use Rattle.par_code_form.specs.declared.item.Item.TheVariants.{Label, Op, Const, Jump, Member}
use Rattle.par_code_form.specs.declared.item.Item.TheVariants.{ClassOp, LockOp}
use Rattle.par_code_form.specs.Instructions.{is_instruction}
use Rattle.par_code_form.specs.Placed.{size, offset_at}
use Rattle.par_kinds.specs.Kinds.{KFrame}
use Rattle.par_kinds.specs.Acts.{Act}
use Rattle.par_placed_fit_laws.specs.Walks.{Sign, Guard, behind_label, opened, lands}
use Rattle.par_placed_fit_laws.proofs.Along.{Walk, Agrees, split, offset_next, label_walks, no_walk}
use Rattle.par_placed_fit_laws.proofs.Along.{given_first}

-- ---- a part of all items

module _ (items : List Item) (ns : List ℕ) where
  -- items from a place on
  pub record From (xs : List Item) (ms : List ℕ) (p from : ℕ) : Type 0 where
    pub xs_are : (j : ℕ) → slice_get items (j + p) ≡ slice_get xs j
    pub ms_are : (j : ℕ) → slice_get ns (j + p) ≡ slice_get ms j
    pub offset : offset_at p items ns ≡ from

  pub past : (x : Item) (xs : List Item) (m : ℕ) (ms : List ℕ) (p from : ℕ)
      → From (x ∷ xs) (m ∷ ms) p from → From xs ms (suc p) (from + size x m)
  past x xs m ms p from f = record {
    xs_are = λ j. let e : j + suc p ≡ suc j + p = omega arith in
        subst (λ (q : ℕ). slice_get items q ≡ slice_get xs j) (sym e) (f.xs_are (suc j));
    ms_are = λ j. let e : j + suc p ≡ suc j + p = omega arith in
        subst (λ (q : ℕ). slice_get ns q ≡ slice_get ms j) (sym e) (f.ms_are (suc j));
    offset = offset_next p items ns x m (here_is f) (index_is f)
        ∙ ap (λ (z : ℕ). z + size x m) f.offset;
  }
    where
      here_is : From (x ∷ xs) (m ∷ ms) p from → slice_get items p ≡ Some x
      here_is f = let e : 0 + p ≡ p = omega arith in
          subst (λ (q : ℕ). slice_get items q ≡ Some x) e (f.xs_are 0)

      index_is : From (x ∷ xs) (m ∷ ms) p from → slice_get ns p ≡ Some m
      index_is f = let e : 0 + p ≡ p = omega arith in
          subst (λ (q : ℕ). slice_get ns q ≡ Some m) e (f.ms_are 0)

-- ---- before the first instruction

module _ (exc : List Name) (act : Item → Act) (at : ℕ → Sign) (many room : ℕ)
    (G : ℕ → Option KFrame) where
  pub lands_here : (y : Item) → IsTrue (is_instruction y) → (xs : List Item) (m : Option KFrame)
      → lands at (y ∷ xs) m ≡ m
  unfolding lands
  lands_here (Label l) is xs m = absurd (cc is)
  lands_here (Op i) is xs m = refl
  lands_here (Const v) is xs m = refl
  lands_here (Jump o l) is xs m = refl
  lands_here (Member o c n d) is xs m = refl
  lands_here (ClassOp o c) is xs m = refl
  lands_here (LockOp o l) is xs m = refl

  abbrev Begins : List Item → List ℕ → ℕ → Type 0
  Begins xs ms from =
      (guards : List Guard) (k : KFrame) → Walk exc act at many room xs guards (Some k)
      → Agrees exc act at many room G xs ms from (Some k) → G from ≡ lands at xs (Some k)

  by_frame : (f : Option KFrame) (xs : List Item) (ms : List ℕ) (from : ℕ)
      (guards : List Guard) (k : KFrame) → Begins xs ms from
      → Walk exc act at many room xs guards (behind_label f (Some k))
      → Agrees exc act at many room G xs ms from (behind_label f (Some k))
      → G from ≡ lands at xs (behind_label f (Some k))
  by_frame None xs ms from guards k rest v b = rest guards k v b
  by_frame (Some f) xs ms from guards k rest v b = rest guards f v b

  pub lands_given : (xs : List Item) (ms : List ℕ) (from : ℕ) → length xs ≡ length ms
      → Begins xs ms from
  unfolding lands
  lands_given [] ms from l guards k w a = absurd (no_walk exc act at many room guards k w)
  lands_given (x ∷ xs) [] from l guards k w a = absurd (omega (arith, l))
  lands_given (x ∷ xs) (m ∷ ms) from l guards k w a =
      split
      (λ y. Walk exc act at many room (y ∷ xs) guards (Some k)
      → Agrees exc act at many room G (y ∷ xs) (m ∷ ms) from (Some k)
      → G from ≡ lands at (y ∷ xs) (Some k))
      (λ j v b. by_frame (at j).frame xs ms from (opened (at j).role guards) k
      (lands_given xs ms from (omega (arith, l)))
      (label_walks exc act at many room j xs guards (Some k) v).2 b)
      (λ y is v b. given_first exc act at many room G y is xs m ms from (Some k) b
      ∙ sym (lands_here y is xs (Some k)))
      x w a
