use Rattle.std.proofs.Common.{sym, subst, ap, ◌∙◌}
use Rattle.par_except.specs.Exits.{AreOnce, ThrowsHaveLocals, seen_throws}
use Rattle.par_except.specs.Throws.{each, but}
use Rattle.par_except.specs.Seen.{MayHaveLocals}
use Rattle.par_except.proofs.Classes.{but_exits, but_once}
use Rattle.par_except.proofs.absorb.others.Goals as goal

pub returns-clause-exits : goal.returns-clause-exits
returns-clause-exits c =
    but_exits c.args.class c.args.ways.now _ c.in_ok-normal.ensures c.in_ok-ret.ensures
    c.in_ok-brk.ensures c.in_ok-cont.ensures
    (c.in_ok-throws.ensures.throws
    ∙ ap (λ ts. each (but c.args.class) (seen_throws ts)) c.as_slice.ensures)

pub returns-clause-once : goal.returns-clause-once
returns-clause-once c =
    subst AreOnce
    (sym (c.in_ok-throws.ensures.throws
    ∙ ap (λ ts. each (but c.args.class) (seen_throws ts)) c.as_slice.ensures))
    (but_once c.args.class (seen_throws c.args.ways.now.throws) c.requires)

pub returns-clause-locals : goal.returns-clause-locals
returns-clause-locals c = λ n h. (
  subst (MayHaveLocals n) (sym c.in_ok-normal.ensures) h.0,
  subst (MayHaveLocals n) (sym c.in_ok-ret.ensures) h.1,
  subst (MayHaveLocals n) (sym c.in_ok-brk.ensures) h.2,
  subst (MayHaveLocals n) (sym c.in_ok-cont.ensures) h.3,
  c.in_ok-throws.ensures.locals n (subst (ThrowsHaveLocals n) (sym c.as_slice.ensures) h.4),
)
