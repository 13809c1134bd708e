-- What the code keeps of exits and of facts, as a pass speaks of them.
use Rattle.std.specs.Prelude.{ℕ, All, Option, None, List, [], ◌∷◌, slice_index_or}
use Rattle.par_bits.specs.Sets.{has}
use Rattle.par_program_laws.specs.Lattice.{numbers}
use Rattle.par_program_laws.specs.Facts as rules
use Rattle.par_nodes.specs.Seen.{seen_kind}
use Rattle.par_pass_laws.specs.par_except.declared.way.Way.{Way}
use Rattle.par_pass_laws.specs.par_except.Seen.{may_see, seen, HasLocals, MayHaveLocals}
use Rattle.par_pass_laws.specs.Exits as pass
use Rattle.par_pass_laws.specs.Exits.{at}
use Rattle.par_pass_laws.specs.Pass.{HeadWays}
use Rattle.par_ways.specs.declared.exits.Exit.{Exit}
use Rattle.par_ways.specs.declared.fact.Fact.{Fact}

abbrev pub seen_exit : Exit → pass.Exit
seen_exit x = record { kind = seen_kind x.kind; way = seen x.way }

abbrev pub seen_exits : List Exit → List pass.Exit
seen_exits [] = []
seen_exits (x ∷ xs) = seen_exit x ∷ seen_exits xs

abbrev pub seen_fact : Fact → rules.Fact numbers
seen_fact f = record {
  entry = may_see f.entry;
  value = has f.value;
  exit = at (seen_exits f.exits.items);
}

abbrev pub seen_facts : List Fact → List (rules.Fact numbers)
seen_facts [] = []
seen_facts (f ∷ fs) = seen_fact f ∷ seen_facts fs

-- facts of parts, the latest first, before these
abbrev pub latest_first : List Fact → List (rules.Fact numbers) → List (rules.Fact numbers)
latest_first [] gs = gs
latest_first (f ∷ fs) gs = latest_first fs (seen_fact f ∷ gs)

-- the ways keep policies for so many locals
abbrev pub AreWide : ℕ → List Exit → Type 0
AreWide n xs = All (λ x. HasLocals n x.way) xs

abbrev pub AreFactsWide : ℕ → List Fact → Type 0
AreFactsWide n fs = All (λ f. AreWide n f.exits.items) fs

-- the same of the facts of points, and of the ways that enter them
abbrev pub IsRowWide : ℕ → Fact → Type 0
IsRowWide n f = MayHaveLocals n f.entry × AreWide n f.exits.items

abbrev pub AreRowsWide : ℕ → List Fact → Type 0
AreRowsWide n fs = All (IsRowWide n) fs

abbrev pub AreHeadsWide : ℕ → List (Option Way) → Type 0
AreHeadsWide n ways = All (MayHaveLocals n) ways

-- the head ways of loops, by the points of their tests
unfoldable pub ways_of : List (Option Way) → HeadWays
ways_of ways i = may_see (slice_index_or ways i None)
