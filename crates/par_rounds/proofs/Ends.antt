-- Rounds, one after the other, and their end.
use Rattle.std.proofs.Common.{◌≡◌, ℕ, suc, ◌<◌, true, false, Option, Some, None, List, length}
use Rattle.std.proofs.Common.{sym, ap, ◌∙◌, subst}
use Rattle.std.proofs.Math.Path.{fun_ext}
use Rattle.par_program_laws.specs.Rules.{Node}
use Rattle.par_pass_laws.specs.par_except.declared.way.Way as code
use Rattle.par_pass_laws.specs.Exits.{Way}
use Rattle.par_pass_laws.specs.Pass.{pass}
use Rattle.par_pass_laws.specs.Written.{blanks, written, AllFit}
use Rattle.par_rounds.specs.declared.notes.Notes.{Notes}
use Rattle.par_ways.specs.Seen.{ways_of, AreHeadsWide}
use Rattle.par_rounds.specs.Took.{raised, total, AreSmall, MayBeSmall}
use Rattle.par_rounds.specs.Passes.{IsPassable}
use Rattle.par_rounds.specs.Rounds.{heads_after, AreAfter, IsRound, IsSettled}
use Rattle.par_rounds.proofs.Small.{events_small}

pub after_none : (k points : ℕ) (n : Node) (w : Way) (hs : List (Option code.Way))
    → ((i : ℕ) → ways_of hs i ≡ None) → AreHeadsWide k hs → length hs ≡ points
    → AreAfter k points n w hs
unfolding heads_after
after_none k points n w hs e x s = record { rounds = 0; ways = fun_ext e; wide = x; size = s }

module _ (k points : ℕ) (n : Node) (w : Way) (hs : List (Option code.Way))
    (a : AreAfter k points n w hs) where
  pub after_next : (more : ℕ) (notes : Notes)
      → IsRound k more hs (pass (ways_of hs) n w).events notes
      → AreAfter k points n w notes.heads.items
  unfolding heads_after
  after_next more notes r = record {
    rounds = suc a.rounds;
    ways = r.heads ∙ ap (λ h. raised h (pass h n w).events) a.ways;
    wide = r.wide;
    size = r.size ∙ a.size;
  }

  pub after_small : IsPassable k points n → MayBeSmall (Some w)
      → AreSmall (pass (ways_of hs) n w).events
  after_small p s =
      subst (λ h. AreSmall (pass h n w).events) (sym a.ways)
      (events_small k points n w p s a.rounds)

  pub after_falls : (more : ℕ) (notes : Notes)
      → IsRound k more hs (pass (ways_of hs) n w).events notes → IsPassable k points n
      → MayBeSmall (Some w) → notes.rose ≡ true → total k notes.heads.items < total k hs
  after_falls more notes r p s e = r.rises (after_small p s) e

  pub settled : (notes : Notes) → AllFit (ways_of hs) (pass (ways_of hs) n w).events
      → IsRound k points hs (pass (ways_of hs) n w).events notes
      → IsSettled n w points notes.rows.items
  settled notes f r = record {
    rounds = a.rounds;
    fits = subst (λ h. AllFit h (pass h n w).events) a.ways f;
    rows = r.rows ∙ ap (λ h. written (pass h n w).events (blanks points)) a.ways;
  }

-- the round in which no head is reached yet
module _ (k points : ℕ) (n : Node) (w : Way) (hs : List (Option code.Way))
    (none : (i : ℕ) → ways_of hs i ≡ None) (wide : AreHeadsWide k hs) (size : length hs ≡ points)
    (notes : Notes) (r : IsRound k points hs (pass (ways_of hs) n w).events notes) where
  pub first_after : AreAfter k points n w notes.heads.items
  first_after =
      after_next k points n w hs (after_none k points n w hs none wide size) points notes r

  pub first_settled : notes.rose ≡ false → IsSettled n w points notes.rows.items
  first_settled e =
      settled k points n w hs (after_none k points n w hs none wide size) notes (r.fits e) r
