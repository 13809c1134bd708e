use Rattle.std.proofs.Common.{sym, subst}
use Rattle.par_except.specs.Exits.{ThrowsHaveLocals}
use Rattle.par_except.proofs.merge.join.Goals as goal

pub returns-clause-locals : goal.returns-clause-locals
returns-clause-locals c = λ n h m. (
  c.in_ok-normal.ensures.locals n h.0 m.0,
  c.in_ok-ret.ensures.locals n h.1 m.1,
  c.in_ok-brk.ensures.locals n h.2 m.2,
  c.in_ok-cont.ensures.locals n h.3 m.3,
  c.in_ok-throws.ensures.locals n (subst (ThrowsHaveLocals n) (sym c.as_slice.ensures) h.4)
      (subst (ThrowsHaveLocals n) (sym c.as_slice-2.ensures) m.4),
)
