-- What the events of a pass make of its notes.
use Rattle.std.specs.Prelude.{◌≡◌, ◌<◌, ◌≤◌, ◌+◌, ◌*◌, ℕ, suc, true, false, cond, nat_eq, Option}
use Rattle.std.specs.Prelude.{Some, None, List, [], ◌∷◌, length}
use Rattle.par_bits.specs.Sets.{has}
use Rattle.par_pass_laws.specs.par_except.declared.way.Way as code
use Rattle.par_pass_laws.specs.par_except.Joins.{may_join}
use Rattle.par_pass_laws.specs.par_except.Weight.{IsSmall, weight}
use Rattle.par_pass_laws.specs.Exits.{Way}
use Rattle.par_pass_laws.specs.Pass.{HeadWays, Event, Row, Into}
use Rattle.par_pass_laws.specs.Written.{written, AllFit}
use Rattle.par_rounds.specs.declared.notes.Notes.{Notes}
use Rattle.par_ways.specs.Seen.{seen_facts, ways_of, AreHeadsWide, AreRowsWide}

abbrev pub joined : HeadWays → ℕ → Option Way → HeadWays
joined h p o i = cond (nat_eq i p) (may_join (h i) o) (h i)

-- the heads, joined with all ways that flow into them
abbrev pub raised : HeadWays → List Event → HeadWays
raised h [] = h
raised h (Row p f ∷ l) = raised h l
raised h (Into p o ∷ l) = raised (joined h p o) l

-- policies below 256
abbrev pub MayBeSmall : Option Way → Type 0
MayBeSmall None = Unit {0}
MayBeSmall (Some w) = IsSmall w.context × ((i : ℕ) → IsSmall (w.env i))

abbrev pub AreSmall : List Event → Type 0
AreSmall [] = Unit {0}
AreSmall (Row p f ∷ l) = AreSmall l
AreSmall (Into p o ∷ l) = MayBeSmall o × AreSmall l

abbrev pub HaveSmallLocks : Option code.Way → Type 0
HaveSmallLocks None = Unit {0}
HaveSmallLocks (Some w) = IsSmall (has w.locks)

-- how far a head of so many locals can still rise
unfoldable pub may_weigh : ℕ → Option code.Way → ℕ
may_weigh n None = suc (256 * n + 512)
may_weigh n (Some w) = weight w

abbrev pub total : ℕ → List (Option code.Way) → ℕ
total n [] = 0
total n (o ∷ ways) = may_weigh n o + total n ways

pub record Took (l : List Event) (m n : Notes) : Type 0 where
  pub locals : n.locals ≡ m.locals
  pub size : length n.heads.items ≡ length m.heads.items
  pub wide : AreHeadsWide m.locals m.heads.items → AreHeadsWide m.locals n.heads.items
  pub heads : ways_of n.heads.items ≡ raised (ways_of m.heads.items) l
  -- where no head rose, each way fits
  pub fits : n.rose ≡ false
      → (m.rose ≡ false)
      × (ways_of n.heads.items ≡ ways_of m.heads.items)
      × AllFit (ways_of m.heads.items) l
  -- and where one rose, less is left
  pub falls : AreHeadsWide m.locals m.heads.items → AreSmall l
      → total m.locals n.heads.items ≤ total m.locals m.heads.items
  pub rises : AreHeadsWide m.locals m.heads.items → AreSmall l → m.rose ≡ false → n.rose ≡ true
      → total m.locals n.heads.items < total m.locals m.heads.items
  pub rows : seen_facts n.rows.items ≡ written l (seen_facts m.rows.items)
  pub rows_wide : AreRowsWide m.locals m.rows.items → AreRowsWide m.locals n.rows.items
