-- The heads stay below all facts that obey the rules.
use Rattle.std.proofs.Common.{ℕ, zero, suc, cond, Option, Some, None, List, [], ◌∷◌, sym, subst}
use Rattle.std.proofs.Common.{⊎_elim}
use Rattle.std.proofs.lemmas.Bool.Decides.{eqb_tells}
use Rattle.par_program_laws.specs.Lattice.{Lattice}
use Rattle.par_program_laws.specs.Ways as rules
use Rattle.par_program_laws.specs.Facts.{Facts}
use Rattle.par_program_laws.specs.Rules.{Node, Obeys, spot}
use Rattle.par_pass_laws.specs.par_except.Joins.{may_join}
use Rattle.par_pass_laws.specs.Exits.{Way}
use Rattle.par_pass_laws.specs.Pass.{HeadWays, Event, Row, Into, pass}
use Rattle.par_pass_laws.specs.Low.{Stands, MayFlow, AreLow, AreHeadsLow}
use Rattle.par_pass_laws.proofs.Under as under
use Rattle.par_pass_laws.proofs.Least.{pass_low}
use Rattle.par_rounds.specs.Took.{joined, raised}
use Rattle.par_rounds.specs.Rounds.{heads_after}

module _ (Q : Lattice) (S : Stands Q) (a : Facts Q) where
  may_join_low : (o q : Option Way) (p : Option (rules.Way Q)) → MayFlow Q S o p → MayFlow Q S q p
      → MayFlow Q S (may_join o q) p
  may_join_low None q p h k = k
  may_join_low (Some w) None p h k = h
  may_join_low (Some w) (Some x) p h k = under.may_join Q S w x p h k

  joined_low : (h : HeadWays) (p : ℕ) (o : Option Way) → AreHeadsLow Q S h a
      → MayFlow Q S o (a p).entry → AreHeadsLow Q S (joined h p o) a
  joined_low h p o u f i = ⊎_elim
      (λ s. subst (λ b. MayFlow Q S (cond b (may_join (h i) o) (h i)) (a i).entry) (sym s.0)
      (may_join_low (h i) o (a i).entry (u i) (subst (λ j. MayFlow Q S o (a j).entry) (sym s.1) f)))
      (λ s. subst (λ b. MayFlow Q S (cond b (may_join (h i) o) (h i)) (a i).entry) (sym s.0) (u i))
      (eqb_tells i p)

  pub raised_low : (h : HeadWays) (l : List Event) → AreHeadsLow Q S h a → AreLow Q S a l
      → AreHeadsLow Q S (raised h l) a
  raised_low h [] u f = u
  raised_low h (Row p g ∷ l) u f = raised_low h l u f.1
  raised_low h (Into p o ∷ l) u f = raised_low (joined h p o) l (joined_low h p o u f.0) f.1

  pub heads_low : (n : Node) (w : Way) → Obeys Q a n → MayFlow Q S (Some w) (a (spot n)).entry
      → (k : ℕ) → AreHeadsLow Q S (heads_after n w k) a
  unfolding heads_after
  heads_low n w c m zero = λ i. tt
  heads_low n w c m (suc k) =
      let u = heads_low n w c m k in
      raised_low (heads_after n w k) (pass (heads_after n w k) n w).events u
      (pass_low Q S a (heads_after n w k) u n w m c).events
