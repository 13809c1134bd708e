use Rattle.std.proofs.Common.{rules, ap, List, ℕ}
use Rattle.std.specs.Prelude.{IsTrue}
use Rattle.par_run_laws.proofs.Locks.{opened_is, opened_again}
use Rattle.par_source_state.specs.Stored.{holds}
use Rattle.par_source_state.proofs.store.Store.open.Goals as goal

pub returns : goal.returns
returns c =
    ap (λ (locks : List ℕ). record (holds c.args.self.now) { locks = locks })
    (opened_is c.args.lock c.args.self.now.locks c.insert.new.self c.has.ensures.ascending
    c.in_ok-insert.ensures.ascending c.in_ok-insert.ensures.ok)

pub returns-then-has : goal.returns-then-has
returns-then-has c =
    let held : IsTrue c.has.result = search rules in
    ap (λ (locks : List ℕ). record (holds c.args.self.now) { locks = locks })
    (opened_again c.args.lock c.args.self.now.locks c.has.ensures.ascending
    (c.has.ensures.member.0 held))
