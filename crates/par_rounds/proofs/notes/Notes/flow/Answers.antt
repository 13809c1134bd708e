use Rattle.std.proofs.Common.{None, refl, sym, ap, ◌∙◌, subst}
use Rattle.std.specs.Prelude.{IsTrue}
use Rattle.par_program_laws.specs.Lattice.{numbers}
use Rattle.par_program_laws.specs.Ways.{MayFlow}
use Rattle.par_pass_laws.specs.par_except.Joins.{may_join}
use Rattle.par_pass_laws.specs.par_except.Seen.{may_see}
use Rattle.par_ways.specs.Seen.{ways_of}
use Rattle.par_rounds.specs.Took.{HaveSmallLocks}
use Rattle.par_rounds.proofs.Heads.{read_none}
use Rattle.par_rounds.proofs.Noted.{read_wide, took_rise, took_fit}
use Rattle.par_rounds.proofs.notes.Notes.flow.Goals as goal

pub may_flow-requires : goal.may_flow-requires
may_flow-requires c = (
  c.args.self.now.locals,
  c.requires.locals,
  read_wide c.args.self.now.locals c.args.self.now.heads.items c.args.point c.index.result.now
      c.requires.range c.index.ensures c.requires.heads,
)

pub may_join-requires : goal.may_join-requires
may_join-requires c = (
  c.args.self.now.locals,
  read_wide c.args.self.now.locals c.args.self.now.heads.items c.args.point
      c.index-then-not-may_flow-2.result.now c.requires.range c.index-then-not-may_flow-2.ensures
      c.requires.heads,
  c.requires.locals,
)

pub returns-in_ok-joined : goal.returns-in_ok-joined
returns-in_ok-joined c =
    let m = c.args.self.now in let hs = m.heads.items in let p = c.args.point in
    let x = c.args.way.now in let y = c.in_ok-joined.joined in
    let r = read_none hs p c.index.result.now c.requires.range c.index.ensures in
    let s =
    read_none hs p c.index-then-not-may_flow.result.now c.requires.range
    c.index-then-not-may_flow.ensures in
    let t =
    read_none hs p c.index-then-not-may_flow-2.result.now c.requires.range
    c.index-then-not-may_flow-2.ensures in
    took_rise m _ p y x c.requires.range refl refl refl refl
    (c.in_ok-joined.ensures.way ∙ ap (λ z. may_join (may_see z) (may_see x)) t)
    (λ h. let b : IsTrue c.may_flow.result =
    c.may_flow.ensures.1 (subst (λ z. MayFlow numbers (may_see x) (may_see z)) (sym r) h) in
    let q = c.if-not-may_flow.true in cc)
    (subst HaveSmallLocks s c.locks_are_small.ensures)
    (λ w. w p None c.requires.range)
    c.requires.locals
    (c.in_ok-joined.ensures.locals m.locals
    (read_wide m.locals hs p c.index-then-not-may_flow-2.result.now c.requires.range
    c.index-then-not-may_flow-2.ensures c.requires.heads) c.requires.locals)

pub returns-else-not-may_flow : goal.returns-else-not-may_flow
unfolding ways_of
returns-else-not-may_flow c =
    let m = c.args.self.now in let x = c.args.way.now in
    took_fit m c.args.point (may_see x)
    (subst (λ z. MayFlow numbers (may_see x) (may_see z))
    (read_none m.heads.items c.args.point c.index.result.now c.requires.range c.index.ensures)
    (c.may_flow.ensures.0 c.if-not-may_flow.false))
