use Rattle.std.proofs.Common.{ℕ, List, ap, ◌∙◌}
use Rattle.std.specs.Borrow.{Bor}
use Rattle.std.specs.List.{list_any}
use Rattle.std.specs.Ordering.{nat_cmp}
use Rattle.std.specs.Cmp.Lexicographic.{slice_cmp}
use Rattle.std.specs.BTreeMap.{is_at}
use Rattle.par_inputs.proofs.Sets.{has-insert}
use Rattle.par_inputs.proofs.seen.take_in.Goals as goal

pub returns-clause-taken : goal.returns-clause-taken
returns-clause-taken c = λ other.
    let find =
    λ (keys : List (Bor (List ℕ))).
    list_any (is_at (λ key. slice_cmp nat_cmp other key.now)) keys in
    ap find c.in_ok-insert.ensures.keys ∙ has-insert other c.args.text c.args.seen.now.keys
