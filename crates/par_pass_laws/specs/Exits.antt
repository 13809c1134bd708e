-- Exits as a pass makes them: a list with one way a kind.
use Rattle.std.specs.Prelude.{Bool, cond, Option, Some, None, List, [], ◌∷◌}
use Rattle.par_bits.specs.Sets.{Set, union}
use Rattle.par_except.specs.par_program_laws.Lattice.{numbers}
use Rattle.par_except.specs.par_program_laws.Kinds.{Kind, Normal, same}
use Rattle.par_except.specs.par_program_laws.Ways as rules
use Rattle.par_except.specs.Joins.{join}

abbrev pub Way : Type 0
Way = rules.Way numbers

pub record Exit : Type 0 where
  pub kind : Kind
  pub way : Way

abbrev pub one : Kind → Way → List Exit
one k w = record { kind = k; way = w } ∷ []

abbrev pub at : List Exit → Kind → Option Way
at [] k = None
at (x ∷ xs) k = cond (same x.kind k) (Some x.way) (at xs k)

-- joined with the exit of its kind, where there is one
abbrev pub add : Exit → List Exit → List Exit
add y [] = y ∷ []
add y (x ∷ xs) =
    cond (same x.kind y.kind) (record x { way = join x.way y.way } ∷ xs) (x ∷ add y xs)

-- the second list and, one after the other, those of the first
abbrev pub all : List Exit → List Exit → List Exit
all [] ys = ys
all (x ∷ xs) ys = all xs (add x ys)

-- those that are not absorbed
abbrev pub leaving : (Kind → Bool) → List Exit → List Exit
leaving absorbs [] = []
leaving absorbs (x ∷ xs) = cond (absorbs x.kind) (leaving absorbs xs) (x ∷ leaving absorbs xs)

-- the set, and the contexts of all exits but the normal one
abbrev pub contexts : Set → List Exit → Set
contexts c [] = c
contexts c (x ∷ xs) = contexts (cond (same x.kind Normal) c (union c x.way.context)) xs

abbrev pub set_context : Set → Exit → Exit
set_context c x =
    cond (same x.kind Normal) (record x { way = record x.way { context = c } }) x

abbrev pub with_context : Set → List Exit → List Exit
with_context c [] = []
with_context c (x ∷ xs) = set_context c x ∷ with_context c xs

-- the normal exit gets the context of the entering way and of all other exits
abbrev pub restored : Way → List Exit → List Exit
restored w xs = with_context (contexts w.context xs) xs

-- the way as an exit of the kind, if there is one
abbrev pub leave : Option Way → Kind → List Exit
leave None k = []
leave (Some w) k = one k w
