-- Rounds of passes, and what the last one leaves.
use Rattle.std.specs.Prelude.{◌≡◌, ◌<◌, ℕ, zero, suc, true, false, Option, None, List, length}
use Rattle.par_program_laws.specs.Rules.{Node}
use Rattle.par_pass_laws.specs.par_except.declared.way.Way as code
use Rattle.par_pass_laws.specs.Exits.{Way}
use Rattle.par_pass_laws.specs.Pass.{HeadWays, Event, pass}
use Rattle.par_pass_laws.specs.Written.{blanks, written, AllFit}
use Rattle.par_ways.specs.declared.fact.Fact.{Fact}
use Rattle.par_rounds.specs.declared.notes.Notes.{Notes}
use Rattle.par_ways.specs.Seen.{seen_facts, ways_of, AreHeadsWide, AreRowsWide}
use Rattle.par_rounds.specs.Took.{raised, total, AreSmall}

-- the heads after so many rounds: at first none is reached
unfoldable pub heads_after : Node → Way → ℕ → HeadWays
heads_after n w zero = λ i. None
heads_after n w (suc k) = raised (heads_after n w k) (pass (heads_after n w k) n w).events

-- the notes of a pass that met these events
pub record IsRound (locals points : ℕ) (hs : List (Option code.Way)) (l : List Event) (n : Notes)
    : Type 0 where
  pub wide : AreHeadsWide locals n.heads.items
  pub size : length n.heads.items ≡ length hs
  pub heads : ways_of n.heads.items ≡ raised (ways_of hs) l
  pub fits : n.rose ≡ false → AllFit (ways_of hs) l
  pub rises : AreSmall l → n.rose ≡ true → total locals n.heads.items < total locals hs
  pub rows : seen_facts n.rows.items ≡ written l (blanks points)
  pub rows_wide : AreRowsWide locals n.rows.items

-- the heads that the code holds after so many rounds
pub record AreAfter (locals points : ℕ) (n : Node) (w : Way) (hs : List (Option code.Way))
    : Type 0 where
  pub rounds : ℕ
  pub ways : ways_of hs ≡ heads_after n w rounds
  pub wide : AreHeadsWide locals hs
  pub size : length hs ≡ points

-- the rows of a pass that raises no head, after some rounds
pub record IsSettled (n : Node) (w : Way) (points : ℕ) (known : List Fact) : Type 0 where
  pub rounds : ℕ
  pub fits : AllFit (heads_after n w rounds) (pass (heads_after n w rounds) n w).events
  pub rows : seen_facts known ≡ written (pass (heads_after n w rounds) n w).events (blanks points)
