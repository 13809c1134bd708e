use Rattle.std.proofs.Common.{ap, sym, ◌∙◌, subst, List, ℕ}
use Rattle.par_policy.specs.Numbers.{Gains}
use Rattle.par_run_laws.proofs.Locks.{closed_is, closed_again}
use Rattle.par_source_state.specs.Stored.{holds}
use Rattle.par_source_state.proofs.store.Store.close.Goals as goal

pub returns-in_ok-self : goal.returns-in_ok-self
returns-in_ok-self c =
    let one = subst (λ (none : List ℕ). Gains none c.insert.new.self c.args.lock) c.new-one.ensures
    c.in_ok-insert.ensures.ok in
    ap (λ (locks : List ℕ). record (holds c.args.self.now) { locks = locks })
    (closed_is c.args.lock c.args.self.now.locks c.insert.new.self c.in_ok-self.field-0
    c.has.ensures.ascending c.in_ok-self.ensures.ascending one c.in_ok-self.ensures.numbers)

pub returns-else-has : goal.returns-else-has
returns-else-has c =
    ap (λ (locks : List ℕ). record (holds c.args.self.now) { locks = locks })
    (closed_again c.args.lock c.args.self.now.locks (sym c.has.ensures.test ∙ c.if-has.false))
