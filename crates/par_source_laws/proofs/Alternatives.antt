-- What all alternatives of the grammar have.
use Rattle.std.proofs.Common.{◌≡◌, ℕ, ◌+◌, Bool, true, false, ◌&&◌, List, [], ◌∷◌, ◌++◌, Option}
use Rattle.std.proofs.Common.{Some, None, refl, ap, ◌∙◌}
use Rattle.std.specs.Prelude.{nat_lt, if◌then◌else◌}
use Rattle.par_lexer.specs.declared.operator.BinOp.{BinOp}
use Rattle.par_names.specs.par_grammar.declared.sort.Sort.{Sort}
use Rattle.par_names.specs.par_grammar.Sorts.{same}
use Rattle.par_names.specs.par_grammar.Grammar.{Choice, token, kept, finish, counts, restarts}
use Rattle.par_names.specs.par_grammar.Grammar.{enters, leaves}
use Rattle.par_names.specs.par_grammar.Grammar.{name, builds, chosen, alternative}
use Rattle.par_names.specs.par_tree.Grammar.{Names, Builders, Symbols, choices, otherwise}
use Rattle.par_names.specs.par_tree.Grammar.{operations}
use Rattle.par_names.specs.par_tree.Grammar.{operators, level, lines}
use Rattle.par_names.specs.par_tree.Grammar as g
use Rattle.par_names.specs.par_tree.Values.{paragon}
use Rattle.par_source_laws.proofs.Standing.{small_builder}

-- ---- tests of symbols

abbrev pub all_small : Symbols → Bool
all_small [] = true
all_small (builds b ∷ s) = small_builder b && all_small s
all_small (x ∷ s) = all_small s

-- the names that can stand before the first token
abbrev pub is_opening : Names → Bool
is_opening g.Program = true
is_opening g.Decls = true
is_opening g.MoreDecls = true
is_opening g.Decl = true
is_opening _ = false

-- the first token is none that is kept
abbrev pub leads : Symbols → Bool
leads [] = true
leads (token k ∷ s) = true
leads (kept k ∷ s) = false
leads (finish ∷ s) = leads s
leads (counts ∷ s) = leads s
leads (restarts ∷ s) = leads s
leads (enters ∷ s) = leads s
leads (leaves ∷ s) = leads s
leads (name n ∷ s) = is_opening n && leads s
leads (builds b ∷ s) = leads s

-- ---- both of two

pub and_left : (a b : Bool) → (a && b) ≡ true → a ≡ true
and_left true b h = refl
and_left false b h = absurd (cc h)

pub and_right : (a b : Bool) → (a && b) ≡ true → b ≡ true
and_right true b h = h
and_right false b h = absurd (cc h)

both : (a b : Bool) → a ≡ true → b ≡ true → (a && b) ≡ true
both a b h k = ap (λ c. c && b) h ∙ k

pub small_front : (xs ys : Symbols) → all_small xs ≡ true → all_small ys ≡ true
    → all_small (xs ++ ys) ≡ true
small_front [] ys h k = k
small_front (builds b ∷ xs) ys h k =
    both (small_builder b) (all_small (xs ++ ys)) (and_left (small_builder b) (all_small xs) h)
    (small_front xs ys (and_right (small_builder b) (all_small xs) h) k)
small_front (x ∷ xs) ys h k = small_front xs ys h k

pub leads_front : (xs ys : Symbols) → leads xs ≡ true → leads ys ≡ true → leads (xs ++ ys) ≡ true
leads_front [] ys h k = k
leads_front (token s ∷ xs) ys h k = refl
leads_front (kept s ∷ xs) ys h k = h
leads_front (name n ∷ xs) ys h k =
    both (is_opening n) (leads (xs ++ ys)) (and_left (is_opening n) (leads xs) h)
    (leads_front xs ys (and_right (is_opening n) (leads xs) h) k)
leads_front (x ∷ xs) ys h k = leads_front xs ys h k

-- ---- of a name

module _ (p : Symbols → Bool) where
  abbrev pub each_choice : List (Choice Names Builders) → Bool
  each_choice [] = true
  each_choice (c ∷ cs) = p c.symbols && each_choice cs

  abbrev pub if_any : Option Symbols → Bool
  if_any None = true
  if_any (Some s) = p s

  by_test : (b : Bool) (x y : Option Symbols) → if_any x ≡ true → if_any y ≡ true
      → if_any (if b then x else y) ≡ true
  by_test true x y h k = h
  by_test false x y h k = k

  pub chosen_has : (cs : List (Choice Names Builders)) (o : Option Symbols) (next : Sort)
      → each_choice cs ≡ true
      → if_any o ≡ true → if_any (chosen cs o next) ≡ true
  chosen_has [] o next h k = k
  chosen_has (c ∷ cs) o next h k =
      by_test (same next c.first) (Some c.symbols) (chosen cs o next)
      (and_left (p c.symbols) (each_choice cs) h)
      (chosen_has cs o next (and_right (p c.symbols) (each_choice cs) h) k)

operations_small : (line : ℕ) (rows : List (ℕ × BinOp))
    → each_choice all_small (operations line rows) ≡ true
operations_small line [] = refl
operations_small line (row ∷ rows) = operations_small line rows

choices_small : (n : Names) → each_choice all_small (choices n) ≡ true
choices_small (g.More line) = operations_small line (operators line)
choices_small n = refl

abbrev deeper : ℕ → Symbols
deeper line = name (g.Level (line + 1)) ∷ name (g.More line) ∷ []

level_small : (line : ℕ) → all_small (level line) ≡ true
level_small line = in_case (nat_lt line lines) where
  in_case : (b : Bool)
      → all_small (if b then deeper line else name g.Unary ∷ []) ≡ true
  in_case true = refl
  in_case false = refl

otherwise_small : (n : Names) → if_any all_small (otherwise n) ≡ true
otherwise_small (g.Level line) = level_small line
otherwise_small n = refl

pub alternative_small : (n : Names) (next : Sort)
    → if_any all_small (alternative paragon n next) ≡ true
alternative_small n next =
    chosen_has all_small (choices n) (otherwise n) next (choices_small n) (otherwise_small n)

choices_lead : (n : Names) → is_opening n ≡ true → each_choice leads (choices n) ≡ true
choices_lead g.Program h = refl
choices_lead g.Decls h = refl
choices_lead g.MoreDecls h = refl
choices_lead g.Decl h = refl
choices_lead n h = absurd (cc h)

otherwise_leads : (n : Names) → is_opening n ≡ true → if_any leads (otherwise n) ≡ true
otherwise_leads g.Program h = refl
otherwise_leads g.Decls h = refl
otherwise_leads g.MoreDecls h = refl
otherwise_leads g.Decl h = refl
otherwise_leads n h = absurd (cc h)

pub alternative_leads : (n : Names) (next : Sort) → is_opening n ≡ true
    → if_any leads (alternative paragon n next) ≡ true
alternative_leads n next h =
    chosen_has leads (choices n) (otherwise n) next (choices_lead n h) (otherwise_leads n h)
