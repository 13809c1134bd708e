-- The exits that are kept, by kind.
use Rattle.std.specs.Prelude.{◌≡◌, ℕ, All, cond, nat_eq, Option, Some, None, List, [], ◌∷◌}
use Rattle.par_program_laws.specs.Lattice.{numbers}
use Rattle.par_program_laws.specs.Kinds as kind
use Rattle.par_program_laws.specs.Kinds.{Kind}
use Rattle.par_program_laws.specs.Ways as rules
use Rattle.par_except.specs.declared.way.Way.{Way}
use Rattle.par_except.specs.declared.ways.Ways.{Ways}
use Rattle.par_except.specs.Seen.{seen, may_see, HasLocals, MayHaveLocals}

-- a class and the way of its throw
abbrev pub Throw : Type 0
Throw = ℕ × rules.Way numbers

abbrev pub seen_throws : List (ℕ × Way) → List Throw
seen_throws [] = []
seen_throws (t ∷ ts) = (t.0, seen t.1) ∷ seen_throws ts

-- the first way that is kept for the class
abbrev pub thrown : List Throw → ℕ → Option (rules.Way numbers)
thrown [] class = None
thrown (t ∷ ts) class = cond (nat_eq t.0 class) (Some t.1) (thrown ts class)

-- the way of each completion
abbrev pub exit : Ways → Kind → Option (rules.Way numbers)
exit ways kind.Normal = may_see ways.normal
exit ways kind.Return = may_see ways.ret
exit ways kind.Break = may_see ways.brk
exit ways kind.Continue = may_see ways.cont
exit ways (kind.Throw class) = thrown (seen_throws ways.throws) class

-- each class stands once at most
abbrev pub AreOnce : List Throw → Type 0
AreOnce [] = Unit {0}
AreOnce (t ∷ ts) = (thrown ts t.0 ≡ None) × AreOnce ts

abbrev pub ThrowsHaveLocals : ℕ → List (ℕ × Way) → Type 0
ThrowsHaveLocals n ts = All (λ t. HasLocals n t.1) ts

-- all ways keep policies for so many locals
abbrev pub HaveLocals : ℕ → Ways → Type 0
HaveLocals n ways =
    MayHaveLocals n ways.normal
    × MayHaveLocals n ways.ret
    × MayHaveLocals n ways.brk
    × MayHaveLocals n ways.cont
    × ThrowsHaveLocals n ways.throws
