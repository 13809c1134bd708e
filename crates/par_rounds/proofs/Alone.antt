-- Nodes without parts are left as they are entered.
use Rattle.std.proofs.Common.{◌≡◌, ℕ, Some, [], sym, ap}
use Rattle.par_bits.specs.Sets.{Set, none}
use Rattle.par_program_laws.specs.Lattice.{numbers}
use Rattle.par_program_laws.specs.Rules.{Worth, Entry, node, Done, Worths, goes_on, way, worth}
use Rattle.par_pass_laws.specs.Exits.{Way}
use Rattle.par_pass_laws.specs.Pass.{HeadWays, pass, pass_all}
use Rattle.par_rounds.specs.Passes.{left_as}

pub empty_alone : (h : HeadWays) (p : ℕ) (w : Way) (s : Set) → s ≡ none
    → pass h (node p (goes_on Entry Done)) w ≡ left_as p s w
unfolding pass pass_all way
empty_alone h p w s e = ap (λ z. left_as p z w) (sym e)

pub valued_alone : (h : HeadWays) (p : ℕ) (w : Way) (v : Worth) (s : Set)
    → s ≡ worth numbers (Some w) [] v
    → pass h (node p (goes_on Entry (Worths v Done))) w ≡ left_as p s w
unfolding pass pass_all way
valued_alone h p w v s e = ap (λ z. left_as p z w) (sym e)
