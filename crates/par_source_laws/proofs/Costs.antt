-- What is pending pays for what it builds: with the bytes of its tokens, and with those between a
-- word and a name.
use Rattle.std.proofs.Common.{◌≡◌, ℕ, ◌+◌, ◌-◌, ◌≤◌, Bool, true, false, List, [], ◌∷◌, ◌++◌, Option}
use Rattle.std.proofs.Common.{Some, None, refl, sym, subst, arith}
use Rattle.std.specs.Prelude.{nat_le, nat_lt, if◌then◌else◌}
use Rattle.std.proofs.lemmas.Bool.Decides.{nat_tests}
use Rattle.par_lexer.specs.declared.operator.BinOp.{BinOp}
use Rattle.par_lexer.specs.declared.word.TheConstants as word
use Rattle.par_names.specs.par_grammar.declared.sort.Sort.{Sort}
use Rattle.par_names.specs.par_grammar.declared.sort.Sort.TheVariants as sort
use Rattle.par_names.specs.par_grammar.Sorts.{same}
use Rattle.par_names.specs.par_grammar.Grammar.{token, kept, finish, counts, restarts, enters}
use Rattle.par_names.specs.par_grammar.Grammar.{leaves, name}
use Rattle.par_names.specs.par_grammar.Grammar.{builds, alternative}
use Rattle.par_names.specs.par_tree.Grammar.{Names, Builders, Symbols, choices, otherwise}
use Rattle.par_names.specs.par_tree.Grammar.{operations}
use Rattle.par_names.specs.par_tree.Grammar.{operators, level, lines}
use Rattle.par_names.specs.par_tree.Grammar as g
use Rattle.par_names.specs.par_tree.Values.{paragon}
use Rattle.par_source_laws.proofs.Gaps.{gap}
use Rattle.par_source_laws.proofs.Alternatives.{each_choice, if_any, chosen_has}

-- ---- costs

-- by how much what is built has more bytes than what it is built of
abbrev pub cost : Builders → ℕ
cost g.InferredField = 2
cost g.Field = 2
cost g.InputChannel = 3
cost g.OutputChannel = 4
cost g.NextMethod = 3
cost g.OneParam = 1
cost _ = 0

-- what the tokens before a name of the grammar have to pay for it
abbrev pub debt : Names → ℕ
debt g.TypedTail = 1
debt g.Method = 1
debt _ = 0

abbrev pub is_type : Names → Bool
is_type g.AnyType = true
is_type _ = false

abbrev pub is_wordy_sort : Sort → Bool
is_wordy_sort (sort.Word n) = true
is_wordy_sort sort.Name = true
is_wordy_sort sort.Number = false
is_wordy_sort (sort.Sign n) = false
is_wordy_sort sort.End = false

abbrev pub is_name_sort : Sort → Bool
is_name_sort (sort.Word n) = false
is_name_sort sort.Name = true
is_name_sort sort.Number = false
is_name_sort (sort.Sign n) = false
is_name_sort sort.End = false

-- behind a type stands a word or a name
abbrev by_name : Bool → ℕ → ℕ → ℕ → ℕ
by_name true owed behind_word behind = behind_word
by_name false owed behind_word behind = behind + owed

-- what is still to be paid, behind a token that is of letters or not
abbrev pub needs : Bool → Symbols → ℕ
needs wordy [] = 0
needs wordy (token k ∷ s) = needs (is_wordy_sort k) s - 1
needs wordy (kept k ∷ s) = needs (is_wordy_sort k) s - gap wordy (is_name_sort k)
needs wordy (finish ∷ s) = needs wordy s
needs wordy (counts ∷ s) = needs wordy s
needs wordy (restarts ∷ s) = needs wordy s
needs wordy (enters ∷ s) = needs wordy s
needs wordy (leaves ∷ s) = needs wordy s
needs wordy (name n ∷ s) = by_name (is_type n) (debt n) (needs true s) (needs false s)
needs wordy (builds b ∷ s) = needs wordy s + cost b

-- behind a token of letters no more is to be paid
lower : (s : Symbols) → needs true s ≤ needs false s
lower [] = omega arith
lower (token k ∷ s) = omega arith
lower (kept k ∷ s) = omega arith
lower (finish ∷ s) = lower s
lower (counts ∷ s) = lower s
lower (restarts ∷ s) = lower s
lower (enters ∷ s) = lower s
lower (leaves ∷ s) = lower s
lower (name n ∷ s) = omega arith
lower (builds b ∷ s) = let rest = lower s in omega (arith, rest)

lower_by : (wordy : Bool) (s : Symbols) → needs wordy s ≤ needs false s
lower_by true s = lower s
lower_by false s = omega arith

-- ---- what stands in front

named_front : (b : Bool) (owed a c x y z w : ℕ) → a ≤ z + x → c ≤ z + y
    → by_name b owed a c ≤ z + by_name b owed x y
named_front true owed a c x y z w h k = h
named_front false owed a c x y z w h k = omega (arith, k)

front : (wordy : Bool) (xs s : Symbols) → needs wordy (xs ++ s) ≤ needs false s + needs wordy xs
front wordy [] s = let h = lower_by wordy s in omega (arith, h)
front wordy (token k ∷ xs) s =
    let h = front (is_wordy_sort k) xs s in omega (arith, h)
front wordy (kept k ∷ xs) s =
    let h = front (is_wordy_sort k) xs s in
    let apart = gap wordy (is_name_sort k) in
    paid (needs (is_wordy_sort k) (xs ++ s)) (needs false s) (needs (is_wordy_sort k) xs) apart h
  where
    paid : (a b c d : ℕ) → a ≤ b + c → a - d ≤ b + (c - d)
    paid a b c d h = omega (arith, h)
front wordy (finish ∷ xs) s = front wordy xs s
front wordy (counts ∷ xs) s = front wordy xs s
front wordy (restarts ∷ xs) s = front wordy xs s
front wordy (enters ∷ xs) s = front wordy xs s
front wordy (leaves ∷ xs) s = front wordy xs s
front wordy (name n ∷ xs) s =
    named_front (is_type n) (debt n) (needs true (xs ++ s)) (needs false (xs ++ s)) (needs true xs)
    (needs false xs) (needs false s) 0 (front true xs s) (front false xs s)
front wordy (builds b ∷ xs) s = let h = front wordy xs s in omega (arith, h)

-- ---- alternatives

-- all that is to be paid in it is the debt of the name
abbrev Affords : Names → Symbols → Bool
Affords n xs = nat_le (needs false xs) (debt n)

operations_afford : (line : ℕ) (rows : List (ℕ × BinOp))
    → each_choice (Affords (g.More line)) (operations line rows) ≡ true
operations_afford line [] = refl
operations_afford line (row ∷ rows) = operations_afford line rows

choices_afford : (n : Names) → each_choice (Affords n) (choices n) ≡ true
choices_afford (g.More line) = operations_afford line (operators line)
choices_afford n = refl

abbrev deeper : ℕ → Symbols
deeper line = name (g.Level (line + 1)) ∷ name (g.More line) ∷ []

level_affords : (line : ℕ) → Affords (g.Level line) (level line) ≡ true
level_affords line = in_case (nat_lt line lines) where
  in_case : (b : Bool)
      → Affords (g.Level line) (if b then deeper line else name g.Unary ∷ []) ≡ true
  in_case true = refl
  in_case false = refl

otherwise_affords : (n : Names) → if_any (Affords n) (otherwise n) ≡ true
otherwise_affords (g.Level line) = level_affords line
otherwise_affords n = refl

afforded : (n : Names) (xs s : Symbols) (wordy : Bool) → is_type n ≡ false → Affords n xs ≡ true
    → needs wordy (xs ++ s) ≤ needs wordy (name n ∷ s)
afforded n xs s wordy other is =
    let whole = front wordy xs s in
    let low = lower_by wordy xs in
    let most : needs false xs ≤ debt n = grind (arith, nat_tests) in
    let here : needs wordy (xs ++ s) ≤ needs false s + debt n = omega (arith, whole, low, most) in
    subst (λ b. needs wordy (xs ++ s) ≤ by_name b (debt n) (needs true s) (needs false s))
    (sym other)
    here

-- a type is a word or a name that is kept, and what is built of it costs nothing
abbrev MayAfford : Symbols → Bool → Option Symbols → Type 0
MayAfford s wordy None = Unit {0}
MayAfford s wordy (Some xs) = needs wordy (xs ++ s) ≤ needs true s

type_affords : (next : Sort) (s : Symbols) (wordy : Bool)
    → MayAfford s wordy (alternative paragon g.AnyType next)
type_affords next s wordy =
    by (same next (sort.Word word.INT)) _ _ (omega arith)
    (by (same next (sort.Word word.BOOLEAN)) _ _ (omega arith)
    (by (same next sort.Name) _ _ (omega arith) tt)) where
      by : (b : Bool) (x y : Option Symbols) → MayAfford s wordy x → MayAfford s wordy y
          → MayAfford s wordy (if b then x else y)
      by true x y p q = p
      by false x y p q = q

-- an alternative leaves no more to be paid than its name
pub alternative_pays : (n : Names) (next : Sort) (xs s : Symbols) (wordy : Bool)
    → alternative paragon n next ≡ Some xs → needs wordy (xs ++ s) ≤ needs wordy (name n ∷ s)
alternative_pays n next xs s wordy is = in_case (is_type n) refl where
  a_type : (n : Names) → is_type n ≡ true → alternative paragon n next ≡ Some xs
      → needs wordy (xs ++ s) ≤ needs true s
  a_type g.AnyType t is = subst (MayAfford s wordy) is (type_affords next s wordy)
  a_type n t is = absurd (cc t)

  in_case : (b : Bool) → is_type n ≡ b → needs wordy (xs ++ s) ≤ needs wordy (name n ∷ s)
  in_case true t =
      subst (λ b. needs wordy (xs ++ s) ≤ by_name b (debt n) (needs true s) (needs false s)) (sym t)
      (a_type n t is)
  in_case false t =
      afforded n xs s wordy t
      (subst (λ o. if_any (Affords n) o ≡ true) is
      (chosen_has (Affords n) (choices n) (otherwise n) next (choices_afford n)
      (otherwise_affords n)))
