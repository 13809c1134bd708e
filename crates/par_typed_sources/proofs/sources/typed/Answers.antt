use Rattle.std.proofs.Common.{◌≡◌, ℕ, ◌<◌, ◌≤◌, Bool, true, false, length, refl, arith, subst}
use Rattle.std.specs.Prelude.{nat_lt}
use Rattle.std.proofs.lemmas.Bool.Decides.{nat_tests}
use Rattle.par_lexer.specs.declared.cut.TheConstants.{LONGEST_SOURCE}
use Rattle.par_tree.specs.Shown.{source}
use Rattle.par_span_laws.specs.Law.{ComesToTree}
use Rattle.par_source_laws.proofs.Numbers.{trees_have_numbers}
use Rattle.par_source_laws.proofs.Order.{trees_are_in_order}
use Rattle.par_source_laws.proofs.Short.{trees_are_short}
use Rattle.par_typed_sources.proofs.sources.typed.Goals as goal

at_most : (n m : ℕ) → (m < n → ⊥) → n ≤ m
at_most n m none = by (nat_lt m n) refl where
  by : (b : Bool) → nat_lt m n ≡ b → n ≤ m
  by true is = let more : m < n = grind (arith, nat_tests) in absurd (none more)
  by false is = grind (arith, nat_tests)

pub type_program-requires-clause-numbers : goal.type_program-requires-clause-numbers
type_program-requires-clause-numbers c =
    let tree = source c.in_ok-program.program in
    trees_have_numbers c.args.source.now c.in_ok-tokens.tokens tree c.in_ok-tokens.ensures.ok
    (subst (λ ts. ComesToTree ts tree) c.as_slice.ensures c.in_ok-program.ensures.tree)

pub type_program-requires-clause-ordered : goal.type_program-requires-clause-ordered
type_program-requires-clause-ordered c =
    let tree = source c.in_ok-program.program in
    trees_are_in_order c.args.source.now c.in_ok-tokens.tokens tree c.in_ok-tokens.ensures.laid
    (subst (λ ts. ComesToTree ts tree) c.as_slice.ensures c.in_ok-program.ensures.tree)

pub type_program-requires-clause-texts : goal.type_program-requires-clause-texts
type_program-requires-clause-texts c =
    let tree = source c.in_ok-program.program in
    let covered =
    trees_are_short c.args.source.now c.in_ok-tokens.tokens tree c.in_ok-tokens.ensures.ok
    (subst (λ ts. ComesToTree ts tree) c.as_slice.ensures c.in_ok-program.ensures.tree) in
    let long = c.in_ok-tokens.ensures.too_long in
    let short = at_most (length c.args.source.now) LONGEST_SOURCE (λ more. cc (long.1 more)) in
    omega (arith, covered, short)

pub returns-clause-orderly : goal.returns-clause-orderly
returns-clause-orderly c = c.in_ok-typed.ensures.well_typed.orderly
