-- When facts keep a rule.
use Rattle.std.specs.Prelude.{ℕ, List, IsTrue, ◌++◌, map}
use Rattle.std.specs.List.{filter, range_with_len}
use Rattle.par_bits.specs.Sets.{Set, IsWithin}
use Rattle.par_pass_laws.specs.par_program_laws.Lattice.{Lattice, Seen, IsSeenBelow}
use Rattle.par_pass_laws.specs.par_program_laws.Ways.{Way}
use Rattle.par_pass_laws.specs.par_program_laws.Facts.{Facts}
use Rattle.par_pass_laws.specs.par_program_laws.Ranges.{MOST}
use Rattle.par_pass_laws.specs.par_program_laws.Rules.{way, Holds}
use Rattle.par_check_laws.specs.Asked.{Condition, Open, Released, Worth, Joined, Context, Effect}
use Rattle.par_check_laws.specs.Asked.{Among}
use Rattle.par_check_laws.specs.Asked.{Never, Check}

-- the locks of a set, ascending
abbrev pub locks_in : Set → List ℕ
locks_in locks = filter locks (range_with_len 0 MOST)

-- the policy, specialised to the open locks, is below the second
abbrev pub IsSeenBelowAt : Seen → Set → Seen → Type 0
IsSeenBelowAt p opened q =
    (actor : ℕ) (locks : List ℕ)
    → IsTrue (q actor locks) → IsTrue (p actor (locks ++ locks_in opened))

-- over a lattice whose policies are seen so, with these policies by their numbers
module _ (P : Lattice) (seen : P.Policy → Seen) (given : ℕ → Seen) where
  abbrev pub Satisfies : Facts P → Way P → Condition → Type 0
  Satisfies a w (Open locks) = IsWithin locks w.locks
  Satisfies a w (Released v p) = IsSeenBelowAt (seen (a v).value) w.locks (given p)
  Satisfies a w (Worth v p) = IsSeenBelow (seen (a v).value) (given p)
  Satisfies a w (Joined v p) = IsSeenBelow (seen (P.join (a v).value w.context)) (given p)
  Satisfies a w (Context p) = IsSeenBelow (seen w.context) (given p)
  Satisfies a w (Effect e p) = IsSeenBelow (given e) (given p)
  Satisfies a w (Among locks those) = IsWithin locks those
  Satisfies a w Never = ⊥

  -- the condition holds at its spot, where that is reached
  abbrev pub Keeps : Facts P → Check → Type 0
  Keeps a c =
      Holds P (way P (a c.spot.point).entry (map a c.spot.parts) c.spot.from)
      (λ w. Satisfies a w c.condition)
