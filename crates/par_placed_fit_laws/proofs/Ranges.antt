-- Within the range of a handler locals stay within what it takes.
use Rattle.std.proofs.Common.{◌≡◌, ℕ, ◌+◌, ◌≤◌, ◌<◌, Bool, true, false, List, []}
use Rattle.std.proofs.Common.{◌∷◌, Option, Some, None, refl, sym, ap, subst, ◌∙◌}
use Rattle.std.proofs.Common.{arith, ◌⊎◌, inl, inr}
use Rattle.std.specs.Prelude.{◌==◌, if◌then◌else◌, IsTrue}
use Rattle.std.specs.List.{AllZip}
use Rattle.std.proofs.lemmas.Bool.{eqb-true, eqb-false}
use Rattle.par_values.specs.Areas.{Name}
use Rattle.par_code_form.specs.declared.item.Item.{Item}
use Rattle.par_code_form.specs.declared.item.Item.TheVariants.{Label}
use Rattle.par_code_form.specs.Instructions.{is_instruction}
use Rattle.par_code_form.specs.Placed.{size, offset_of}
use Rattle.par_kinds.specs.declared.frame.VKind.{VKind}
use Rattle.par_kinds.specs.Kinds.{KFrame, Each, Both, Into}
use Rattle.par_kinds.specs.Acts.{Act}
use Rattle.par_placed_fit_laws.specs.Walks.{Sign, Role, Plain, Opens, Closes, Catches, Guard}
use Rattle.par_placed_fit_laws.specs.Walks.{opened}
use Rattle.par_placed_fit_laws.specs.Walks.{Plays, behind_label, Walks}
use Rattle.par_placed_fit_laws.specs.Given.{behind_act, given_from}
use Rattle.par_placed_fit_laws.proofs.Along.{split, offset_step, given_step, walks_does, walks_none}
use Rattle.par_placed_fit_laws.proofs.Along.{label_walks}

-- a guard is among those that are open
abbrev Among : Guard → List Guard → Type 0
Among g [] = ⊥
Among g (h ∷ guards) = (g ≡ h) ⊎ Among g guards

-- it stays where another range begins or ends
stays : (g : Guard) (r : Role) (j : ℕ) (xs : List Item) (guards : List Guard)
    → Plays r j xs guards → (j ≡ g.to → ⊥) → Among g guards → Among g (opened r guards)
stays g Plain j xs guards p other a = a
stays g (Opens to locals) j xs guards p other a = inr a
stays g Closes j xs [] p other a = absurd a
stays g Closes j xs (h ∷ guards) p other (inl same) =
    absurd (other (sym p ∙ ap (λ (z : Guard). z.to) (sym same)))
stays g Closes j xs (h ∷ guards) p other (inr a) = a
stays g Catches j xs guards p other a = a

kept : (exc : List Name) (ks : List VKind) (g : Guard) (guards : List Guard) → Among g guards
    → Each (λ h. Both (Into exc) ks h.locals) guards → Both (Into exc) ks g.locals
kept exc ks g [] a e = absurd a
kept exc ks g (h ∷ guards) (inl same) e =
    subst (λ (z : Guard). Both (Into exc) ks z.locals) (sym same) e.0
kept exc ks g (h ∷ guards) (inr a) e = kept exc ks g guards a e.1

module _ (exc : List Name) (act : Item → Act) (at : ℕ → Sign) (many room : ℕ) (start to : ℕ)
    (range : List VKind) (opens : (at start).role ≡ Opens to range) (begin end : ℕ) where
  abbrev guard : Guard
  guard = record { to = to; locals = range }

  -- before the range, in it, or behind it, where items stand from an offset on
  pub data State (xs : List Item) (ns : List ℕ) (guards : List Guard) (from : ℕ) : Type 0 where
    before : begin ≡ from + offset_of xs ns start → end ≡ from + offset_of xs ns to
        → State xs ns guards from
    inside : Among guard guards → end ≡ from + offset_of xs ns to → State xs ns guards from
    behind : end ≤ from → State xs ns guards from

  here : (l j n : ℕ) (xs : List Item) (ns : List ℕ) → (j == l) ≡ true
      → offset_of (Label j ∷ xs) (n ∷ ns) l ≡ 0
  here l j n xs ns is = ap (λ (b : Bool). if b then 0 else size (Label j) n + offset_of xs ns l) is

  later : (l j n : ℕ) (xs : List Item) (ns : List ℕ) → (j == l) ≡ false
      → offset_of (Label j ∷ xs) (n ∷ ns) l ≡ 0 + offset_of xs ns l
  later l j n xs ns is = ap (λ (b : Bool). if b then 0 else size (Label j) n + offset_of xs ns l) is

  -- past a label
  past_label : (j n : ℕ) (xs : List Item) (ns : List ℕ) (guards : List Guard) (from : ℕ)
      → Plays (at j).role j xs guards → State (Label j ∷ xs) (n ∷ ns) guards from
      → State xs ns (opened (at j).role guards) from
  past_label j n xs ns guards from plays s = at_end (j == to) refl s
    where
      at_start : (b : Bool) → (j == start) ≡ b → (j == to) ≡ false
          → begin ≡ from + offset_of (Label j ∷ xs) (n ∷ ns) start
          → end ≡ from + offset_of xs ns to → State xs ns (opened (at j).role guards) from
      at_start true is other e f =
          inside (subst (λ (r : Role). Among guard (opened r guards))
          (sym (ap (λ (z : ℕ). (at z).role) (eqb-true j start is) ∙ opens)) (inl refl)) f
      at_start false is other e f =
          before (let g = later start j n xs ns is in omega (arith, e, g)) f

      not_end : (j == to) ≡ false → State (Label j ∷ xs) (n ∷ ns) guards from
          → State xs ns (opened (at j).role guards) from
      not_end other (before e f) =
          at_start (j == start) refl other e
          (let g = later to j n xs ns other in omega (arith, f, g))
      not_end other (inside a f) =
          inside (stays guard (at j).role j xs guards plays (eqb-false j to other) a)
          (let g = later to j n xs ns other in omega (arith, f, g))
      not_end other (behind le) = behind le

      ended : (j == to) ≡ true → State (Label j ∷ xs) (n ∷ ns) guards from → end ≤ from
      ended is (before e f) = let g = here to j n xs ns is in omega (arith, f, g)
      ended is (inside a f) = let g = here to j n xs ns is in omega (arith, f, g)
      ended is (behind le) = le

      at_end : (b : Bool) → (j == to) ≡ b → State (Label j ∷ xs) (n ∷ ns) guards from
          → State xs ns (opened (at j).role guards) from
      at_end true is s = behind (ended is s)
      at_end false is s = not_end is s

  -- past an instruction
  past_item : (x : Item) → IsTrue (is_instruction x) → (n : ℕ) (xs : List Item) (ns : List ℕ)
      (guards : List Guard) (from : ℕ) → State (x ∷ xs) (n ∷ ns) guards from
      → State xs ns guards (from + size x n)
  past_item x is n xs ns guards from (before e f) =
      let a = offset_step x is xs n ns start in
      let b = offset_step x is xs n ns to in
      before (omega (arith, e, a)) (omega (arith, f, b))
  past_item x is n xs ns guards from (inside a f) =
      let b = offset_step x is xs n ns to in inside a (omega (arith, f, b))
  past_item x is n xs ns guards from (behind le) = behind (omega (arith, le))

  -- at an instruction of the range
  there : (x : Item) → IsTrue (is_instruction x) → (n : ℕ) (xs : List Item) (ns : List ℕ)
      (guards : List Guard) (from : ℕ) → 1 ≤ size x n → State (x ∷ xs) (n ∷ ns) guards from
      → begin ≤ from → from < end → Among guard guards
  there x is n xs ns guards from some (before e f) low high =
      let a = offset_step x is xs n ns start in absurd (omega (arith, e, a, low, some))
  there x is n xs ns guards from some (inside a f) low high = a
  there x is n xs ns guards from some (behind le) low high = absurd (omega (arith, le, high))

  -- each frame that is given in the range stays within it
  pub stays_within : (xs : List Item) (ns : List ℕ) (from : ℕ) (guards : List Guard)
      (m : Option KFrame) → AllZip (λ x n. IsTrue (is_instruction x) → 1 ≤ size x n) xs ns
      → Walks exc act at many room xs guards m → State xs ns guards from → (o : ℕ) (k : KFrame)
      → given_from at act xs ns from m o ≡ Some k → begin ≤ o → o < end
      → Both (Into exc) k.locals range
  stays_within [] ns from guards m some w s o k g low high = absurd (cc g)
  stays_within (x ∷ xs) [] from guards m some w s o k g low high = absurd (cc g)
  stays_within (x ∷ xs) (n ∷ ns) from guards m some w s o k g low high =
      split
      (λ y. (IsTrue (is_instruction y) → 1 ≤ size y n)
      → Walks exc act at many room (y ∷ xs) guards m → State (y ∷ xs) (n ∷ ns) guards from
      → given_from at act (y ∷ xs) (n ∷ ns) from m o ≡ Some k → Both (Into exc) k.locals range)
      (λ j some' v t e. let parts = label_walks exc act at many room j xs guards m v in
      stays_within xs ns from (opened (at j).role guards) (behind_label (at j).frame m) some.1
      parts.2 (past_label j n xs ns guards from parts.1 t) o k e low high)
      (λ y is some' v t e. item y is m (some' is) v t
      (sym (given_step exc act at many room y is xs n ns from m o) ∙ e)
      (λ u e'. stays_within xs ns (from + size y n) guards _ some.1 u
      (past_item y is n xs ns guards from t) o k e' low high))
      x some.0 w s g
    where
      in_case : (y : Item) → IsTrue (is_instruction y) → (f : KFrame) → 1 ≤ size y n
          → Walks exc act at many room (y ∷ xs) guards (Some f)
          → State (y ∷ xs) (n ∷ ns) guards from → (b : Bool) → (from == o) ≡ b
          → (if b then Some f
          else given_from at act xs ns (from + size y n) (behind_act (act y) (Some f)) o) ≡ Some k
          → (Walks exc act at many room xs guards (behind_act (act y) (Some f))
          → given_from at act xs ns (from + size y n) (behind_act (act y) (Some f)) o ≡ Some k
          → Both (Into exc) k.locals range) → Both (Into exc) k.locals range
      in_case y is f some' v t true eq e rest =
          let d = walks_does exc act at many room y is xs guards f v in
          let same : from ≡ o = eqb-true from o eq in
          let one : f ≡ k = cc e in
          subst (λ (z : KFrame). Both (Into exc) z.locals range) one
          (kept exc f.locals guard guards
          (there y is n xs ns guards from some' t (omega (arith, same, low))
          (omega (arith, same, high))) (d.0).kept)
      in_case y is f some' v t false eq e rest =
          rest (walks_does exc act at many room y is xs guards f v).1 e

      item : (y : Item) → IsTrue (is_instruction y) → (m : Option KFrame) → 1 ≤ size y n
          → Walks exc act at many room (y ∷ xs) guards m → State (y ∷ xs) (n ∷ ns) guards from
          → (if from == o then m
          else given_from at act xs ns (from + size y n) (behind_act (act y) m) o) ≡ Some k
          → (Walks exc act at many room xs guards (behind_act (act y) m)
          → given_from at act xs ns (from + size y n) (behind_act (act y) m) o ≡ Some k
          → Both (Into exc) k.locals range) → Both (Into exc) k.locals range
      item y is None some' v t e rest =
          absurd (walks_none exc act at many room y is xs guards v)
      item y is (Some f) some' v t e rest = in_case y is f some' v t (from == o) refl e rest
