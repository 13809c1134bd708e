-- A statement is passed as its rules say, part by part.
use Rattle.std.proofs.Common.{[], Some, length, refl, sym, ap, ◌∙◌, subst, rules, arith}
use Rattle.par_typed.specs.declared.stmt.TStmtKind.TheViews.{the_lemmas}
use Rattle.par_typed.specs.Shown.{does, otherwise, shown}
use Rattle.par_typed.specs.declared.stmt.TStmt.{TStmt}
use Rattle.par_typed.proofs.Shown.{does_point}
use Rattle.par_program_laws.specs.Body.{exp, past, tested, sta, if_not, is_forever}
use Rattle.par_program_laws.specs.Declares.{declares}
use Rattle.par_program_laws.specs.Kinds.{Next, Loop, Normal, absorbed}
use Rattle.par_program_laws.specs.Lattice.{numbers}
use Rattle.par_program_laws.specs.Rules.{Entry, After, Tested, Rules, Done, Part, Heads}
use Rattle.par_program_laws.specs.Rules.{goes_on, spot, way}
use Rattle.par_nodes.specs.Starts.{goes_first, else_rules}
use Rattle.par_nodes.specs.Seen.{seen_absorber, seen_origin, seen_start}
use Rattle.par_nodes.proofs.Forms.{seen_ends}
use Rattle.par_nodes.proofs.Statements.{block_made, if_made, while_made, set_local_made}
use Rattle.par_nodes.proofs.Statements.{set_static_made, eval_made}
use Rattle.par_pass_laws.specs.par_except.Seen.{may_see, seen, HasLocals}
use Rattle.par_ways.specs.Seen.{latest_first, ways_of, AreWide}
use Rattle.par_rounds.specs.Passes.{within, GoesOn, IsPassable, ArePassable}
use Rattle.par_rounds.proofs.Arms.{took_part, done_goes, test_arm, heads_arm, leaves_arm}
use Rattle.par_rounds.proofs.Blocks.{along_needs, along_next, start_range, stas_end}
use Rattle.par_rounds.proofs.Events.{took_none}
use Rattle.par_rounds.proofs.Needs.{part_needs, so_first}
use Rattle.par_rounds.proofs.Walks.{sta_spot, within_needs, behind, behind_test, behind_needs}
use Rattle.par_rounds.proofs.Walks.{part_walks}
use Rattle.par_rounds.proofs.Leads.{past_range, entry_range, tested_range, parts_wide, exits_wide}
use Rattle.par_rounds.proofs.Leads.{behind_leave, behind_flow, if_needs, loop_needs, some_else}
use Rattle.par_rounds.proofs.Leads.{none_else, again}
use Rattle.par_rounds.proofs.Walks.{node_walks, visited_none}
use Rattle.par_rounds.proofs.stmt.+sta.Goals as goal

pub sta-parts-requires : goal.sta-parts-requires
sta-parts-requires t c = (
  search (rules, the_lemmas),
  (
    c.requires.ready,
    (
      so_first c.args.notes.now _ c.new-so.ensures.head c.new-so.ensures.parts
          c.new-so.ensures.exits,
      within_needs c.args.notes.now.locals (length c.args.notes.now.heads.items)
          (sta (declares c.args.table.now) (does c.args.stmt.now)) c.requires.node,
    ),
  ),
)

pub sta-finish-requires-clause-way : goal.sta-finish-requires-clause-way
sta-finish-requires-clause-way t c =
    let n = c.args.notes.now in let p = c.in_ok-parts.ensures [] n (took_none n) in
    subst (λ k. HasLocals k c.args.way.now) (sym p.noted.locals) c.requires.ready.way

pub sta-finish-requires-clause-exits : goal.sta-finish-requires-clause-exits
sta-finish-requires-clause-exits t c =
    let n = c.args.notes.now in let p = c.in_ok-parts.ensures [] n (took_none n) in
    subst (λ k. AreWide k c.parts.new.so.found.exits.items) (sym p.noted.locals) p.wide

pub step-returns-clause-took : goal.step-returns-clause-took
step-returns-clause-took t c =
    let w = seen c.args.way.now in let f = seen_origin c.args.from.now in
    let u = c.in_ok-take.ensures in let q = c.in_ok-found.ensures in
    took_part (ways_of c.args.heads.now) (absorbed (seen_absorber c.args.absorber.now))
    (way numbers (Some w) (latest_first c.args.so.now.parts.items []) f)
    (sta (declares c.args.table.now) (does c.args.stmt.now))
    c.args.so.now c.take.new.so c.in_ok-entry.entry c.in_ok-found.found c.args.notes.now
    c.visit.new.notes
    (c.in_ok-entry.ensures.way
    ∙ ap (λ z. way numbers (Some w) (latest_first z []) f) c.deref.ensures.value)
    q u.parts u.value u.exits
    (u.locals c.args.notes.now.locals c.requires.so_far.exits q.wide)

pub parts-ends-requires-clause-rules : goal.parts-ends-requires-clause-rules
parts-ends-requires-clause-rules t c =
    let n = c.args.notes.now in let s = c.args.stmt.now in let d = declares c.args.table.now in
    let b = c.in-SetLocal in
    subst (ArePassable n.locals (length n.heads.items))
    (sym (ap within (set_local_made d s.kind s.at s.point b.local b.field-1 b.value _
    b.is refl))) c.requires.rules

pub parts-returns-in_ok-ends-in-SetLocal : goal.parts-returns-in_ok-ends-in-SetLocal
parts-returns-in_ok-ends-in-SetLocal t c =
    let n = c.args.notes.now in let s = c.args.stmt.now in let d = declares c.args.table.now in
    let b = c.in-SetLocal in let to = c.ends.new in
    let h = ways_of c.args.heads.now in let w = seen c.args.way.now in
    subst (λ (k : Rules). GoesOn h k w c.args.so.now n to.so.found to.notes)
    (ap within (set_local_made d s.kind s.at s.point b.local b.field-1 b.value _
    b.is refl)) c.in_ok-ends-in-SetLocal.ensures

pub parts-ends-requires-in-SetStatic-clause-rules
    : goal.parts-ends-requires-in-SetStatic-clause-rules
parts-ends-requires-in-SetStatic-clause-rules t c =
    let n = c.args.notes.now in let s = c.args.stmt.now in let d = declares c.args.table.now in
    let b = c.in-SetStatic in
    subst (ArePassable n.locals (length n.heads.items))
    (sym (ap within (set_static_made d s.kind s.at s.point b.field-0 b.field-1 b.value _
    b.is refl))) c.requires.rules

pub parts-returns-in_ok-ends-in-SetStatic : goal.parts-returns-in_ok-ends-in-SetStatic
parts-returns-in_ok-ends-in-SetStatic t c =
    let n = c.args.notes.now in let s = c.args.stmt.now in let d = declares c.args.table.now in
    let b = c.in-SetStatic in let to = c.ends-in-SetStatic.new in
    let h = ways_of c.args.heads.now in let w = seen c.args.way.now in
    subst (λ (k : Rules). GoesOn h k w c.args.so.now n to.so.found to.notes)
    (ap within (set_static_made d s.kind s.at s.point b.field-0 b.field-1 b.value _
    b.is refl)) c.in_ok-ends-in-SetStatic.ensures

pub parts-ends-requires-in-Eval-clause-rules : goal.parts-ends-requires-in-Eval-clause-rules
parts-ends-requires-in-Eval-clause-rules t c =
    let n = c.args.notes.now in let s = c.args.stmt.now in let d = declares c.args.table.now in
    let b = c.in-Eval in
    subst (ArePassable n.locals (length n.heads.items))
    (sym (ap within (eval_made d s.kind s.at s.point b.value _ b.is refl))) c.requires.rules

pub parts-returns-in_ok-ends-in-Eval : goal.parts-returns-in_ok-ends-in-Eval
parts-returns-in_ok-ends-in-Eval t c =
    let n = c.args.notes.now in let s = c.args.stmt.now in let d = declares c.args.table.now in
    let b = c.in-Eval in let to = c.ends-in-Eval.new in
    let h = ways_of c.args.heads.now in let w = seen c.args.way.now in
    subst (λ (k : Rules). GoesOn h k w c.args.so.now n to.so.found to.notes)
    (ap within (eval_made d s.kind s.at s.point b.value _ b.is refl)) c.in_ok-ends-in-Eval.ensures

pub parts-block-requires : goal.parts-block-requires
parts-block-requires t c =
    let n = c.args.notes.now in let s = c.args.stmt.now in let d = declares c.args.table.now in (
      search (rules, the_lemmas),
      (
        c.requires.ready,
        (
          c.requires.so_far,
          subst (ArePassable n.locals (length n.heads.items))
              (sym (ap within (block_made d s.kind s.at s.point c.in-Block.stmts
              c.as_slice.result.now _ c.in-Block.is c.as_slice.ensures refl)))
              c.requires.rules,
        ),
      ),
    )

pub parts-returns-in_ok-block-in-Block : goal.parts-returns-in_ok-block-in-Block
parts-returns-in_ok-block-in-Block t c =
    let n = c.args.notes.now in let s = c.args.stmt.now in let d = declares c.args.table.now in
    let h = ways_of c.args.heads.now in let w = seen c.args.way.now in
    subst (λ (k : Rules). GoesOn h k w c.args.so.now n c.block.new.so.found c.block.new.notes)
    (ap within (block_made d s.kind s.at s.point c.in-Block.stmts c.as_slice.result.now _
    c.in-Block.is c.as_slice.ensures refl))
    c.in_ok-block-in-Block.ensures

pub block-step-requires : goal.block-step-requires
block-step-requires t c =
    let a = c.loop-place.invariant in let p = c.loop-place.place in
    let s = c.index-stmts-place.result in (
      search (rules, the_lemmas),
      (
        a.ready,
        (
          a.so_far,
          (
            start_range c.loop-place.notes.locals p (seen_start c.start_at.result)
                c.start_at.ensures,
            along_needs (declares c.args.table.now) (ways_of c.args.heads.now) c.args.way.now
                c.args.heads.now c.args.stmts.now c.args.so.now c.loop-place.so c.args.notes.now
                c.loop-place.notes p s (search rules) (search rules) a,
          ),
        ),
      ),
    )

pub block-loop-place-preserved : goal.block-loop-place-preserved
block-loop-place-preserved t c =
    along_next (declares c.args.table.now) (ways_of c.args.heads.now) c.args.way.now
    c.args.heads.now c.args.stmts.now c.args.so.now c.loop-place.so c.args.notes.now
    c.loop-place.notes c.loop-place.place c.index-stmts-place.result (seen_start c.start_at.result)
    c.step.new.so c.step.new.notes (search rules) (search rules) c.start_at.ensures
    c.loop-place.invariant c.in_ok-step.ensures.head c.in_ok-step.ensures.took

pub block-pass_rest-requires-clause-rules : goal.block-pass_rest-requires-clause-rules
block-pass_rest-requires-clause-rules t c =
    let n = c.loop-place.notes in
    subst (ArePassable n.locals (length n.heads.items))
    (sym (seen_ends _ _ ∙ stas_end (declares c.args.table.now) c.args.stmts.now c.loop-place.place
    (seen_start c.start_at-2.result) (omega arith) c.start_at-2.ensures))
    c.loop-place.invariant.rules

pub block-returns : goal.block-returns
block-returns t c =
    let to = c.pass_rest.new in
    let h = ways_of c.args.heads.now in let w = seen c.args.way.now in
    c.loop-place.invariant.goes to.so.found to.notes
    (subst (λ (k : Rules). GoesOn h k w c.loop-place.so c.loop-place.notes to.so.found to.notes)
    (seen_ends _ _ ∙ stas_end (declares c.args.table.now) c.args.stmts.now c.loop-place.place
    (seen_start c.start_at-2.result) (omega arith) c.start_at-2.ensures)
    c.in_ok-pass_rest.ensures)

pub sta-returns : goal.sta-returns
sta-returns t c =
    let u = c.new-so.ensures in let s = c.args.stmt.now in let d = declares c.args.table.now in
    node_walks (ways_of c.args.heads.now) (sta d (does s)) s.point
    (seen c.args.way.now) c.new-so.result
    c.parts.new.so.found c.in_ok-found.found
    c.args.notes.now c.parts.new.notes c.finish.new.notes
    (sta_spot d (does s) ∙ does_point s.kind s.at s.point)
    u.head u.parts u.value u.exits c.in_ok-parts.ensures c.in_ok-found.ensures

pub visit-returns-in-None : goal.visit-returns-in-None
visit-returns-in-None t c =
    let s = c.args.stmt.now in let d = declares c.args.table.now in
    visited_none (may_see c.args.entry.now) s.point (spot (sta d (does s))) _ c.nothing.result
    c.args.notes.now c.blank.new.self
    (ap may_see c.in-None.is)
    (sta_spot d (does s) ∙ does_point s.kind s.at s.point)
    c.nothing.ensures.value c.nothing.ensures.exits c.blank.ensures

pub branch-operand-requires-clause-range : goal.branch-operand-requires-clause-range
branch-operand-requires-clause-range t c =
    entry_range c.args.notes.now.locals

pub branch-operand-requires-clause-node : goal.branch-operand-requires-clause-node
branch-operand-requires-clause-node t c =
    let n = c.args.notes.now in let s = c.args.stmt.now in let d = declares c.args.table.now in
    let b = c.in-If in let v = c.args.way.now in let hs = c.args.heads.now in
    let q =
    if_needs n.locals (length n.heads.items) (otherwise b.other) (exp d (shown b.test))
    (sta d (does b.block.value)) (else_rules d (otherwise b.other) (Tested 1 (After 1 Normal)))
    (within (sta d (does s)))
    (sym (ap within (if_made d s.kind s.at s.point b.test b.block b.other b.block.value _ _ _ b.is
    refl refl refl refl))) c.requires.rules in
    q.test

pub branch-goes_first-requires-clause-parts : goal.branch-goes_first-requires-clause-parts
branch-goes_first-requires-clause-parts t c =
    let n = c.args.notes.now in let v = c.args.way.now in let hs = c.args.heads.now in
    let m = c.operand.new.notes in let u = c.in_ok-operand-in-If.ensures in
    let k =
    behind (absorbed Next) _ _ v hs c.args.so.now c.operand.new.so n m u.took u.head
    c.requires.ready c.requires.so_far in
    parts_wide v hs c.operand.new.so c.operand.new.so m m k.ready k.so_far

pub branch-goes_first-requires-clause-exits : goal.branch-goes_first-requires-clause-exits
branch-goes_first-requires-clause-exits t c =
    let n = c.args.notes.now in let v = c.args.way.now in let hs = c.args.heads.now in
    let m = c.operand.new.notes in let u = c.in_ok-operand-in-If.ensures in
    let k =
    behind (absorbed Next) _ _ v hs c.args.so.now c.operand.new.so n m u.took u.head
    c.requires.ready c.requires.so_far in
    exits_wide v hs c.operand.new.so c.operand.new.so m m k.ready k.so_far

pub branch-goes_first-requires-clause-range : goal.branch-goes_first-requires-clause-range
branch-goes_first-requires-clause-range t c =
    past_range (length c.args.way.now.env)

pub branch-step-requires : goal.branch-step-requires
branch-step-requires t c =
    let n = c.args.notes.now in let s = c.args.stmt.now in let d = declares c.args.table.now in
    let b = c.in-If in let v = c.args.way.now in let hs = c.args.heads.now in
    let q =
    if_needs n.locals (length n.heads.items) (otherwise b.other) (exp d (shown b.test))
    (sta d (does b.block.value)) (else_rules d (otherwise b.other) (Tested 1 (After 1 Normal)))
    (within (sta d (does s)))
    (sym (ap within (if_made d s.kind s.at s.point b.test b.block b.other b.block.value _ _ _ b.is
    refl refl refl refl))) c.requires.rules in
    let m = c.operand.new.notes in let u = c.in_ok-operand-in-If.ensures in
    let k =
    behind (absorbed Next) _ _ v hs c.args.so.now c.operand.new.so n m u.took u.head
    c.requires.ready c.requires.so_far in
    let x = c.in_ok-goes_first-in-If.ensures in
    let i =
    behind_leave v hs c.operand.new.so c.goes_first.new.so m m k.ready k.so_far x.head
    x.parts x.locals in (
      search (rules, the_lemmas),
      (
        i.ready,
        (
          i.so_far,
          (
            tested_range m.locals,
            subst (λ (z : TStmt). IsPassable m.locals (length m.heads.items) (sta d (does z)))
                (sym c.deref.ensures) (k.nodes _ q.block),
          ),
        ),
      ),
    )

pub branch-leave-requires-clause-parts : goal.branch-leave-requires-clause-parts
branch-leave-requires-clause-parts t c =
    let n = c.args.notes.now in let v = c.args.way.now in let hs = c.args.heads.now in
    let m = c.operand.new.notes in let u = c.in_ok-operand-in-If.ensures in
    let k =
    behind (absorbed Next) _ _ v hs c.args.so.now c.operand.new.so n m u.took u.head
    c.requires.ready c.requires.so_far in
    let x = c.in_ok-goes_first-in-If.ensures in
    let i =
    behind_leave v hs c.operand.new.so c.goes_first.new.so m m k.ready k.so_far x.head
    x.parts x.locals in
    let y = c.in_ok-step-in-If.ensures in let o = c.step.new.notes in
    let j =
    behind (absorbed Next) _ _ v hs c.goes_first.new.so c.step.new.so m o y.took y.head
    i.ready i.so_far in
    parts_wide v hs c.step.new.so c.step.new.so o o j.ready j.so_far

pub branch-leave-requires-clause-exits : goal.branch-leave-requires-clause-exits
branch-leave-requires-clause-exits t c =
    let n = c.args.notes.now in let v = c.args.way.now in let hs = c.args.heads.now in
    let m = c.operand.new.notes in let u = c.in_ok-operand-in-If.ensures in
    let k =
    behind (absorbed Next) _ _ v hs c.args.so.now c.operand.new.so n m u.took u.head
    c.requires.ready c.requires.so_far in
    let x = c.in_ok-goes_first-in-If.ensures in
    let i =
    behind_leave v hs c.operand.new.so c.goes_first.new.so m m k.ready k.so_far x.head
    x.parts x.locals in
    let y = c.in_ok-step-in-If.ensures in let o = c.step.new.notes in
    let j =
    behind (absorbed Next) _ _ v hs c.goes_first.new.so c.step.new.so m o y.took y.head
    i.ready i.so_far in
    exits_wide v hs c.step.new.so c.step.new.so o o j.ready j.so_far

pub branch-leave-requires-clause-range : goal.branch-leave-requires-clause-range
branch-leave-requires-clause-range t c =
    past_range (length c.args.way.now.env)

pub branch-otherwise-requires : goal.branch-otherwise-requires
branch-otherwise-requires t c =
    let n = c.args.notes.now in let s = c.args.stmt.now in let d = declares c.args.table.now in
    let b = c.in-If in let v = c.args.way.now in let hs = c.args.heads.now in
    let q =
    if_needs n.locals (length n.heads.items) (otherwise b.other) (exp d (shown b.test))
    (sta d (does b.block.value)) (else_rules d (otherwise b.other) (Tested 1 (After 1 Normal)))
    (within (sta d (does s)))
    (sym (ap within (if_made d s.kind s.at s.point b.test b.block b.other b.block.value _ _ _ b.is
    refl refl refl refl))) c.requires.rules in
    let m = c.operand.new.notes in let u = c.in_ok-operand-in-If.ensures in
    let k =
    behind (absorbed Next) _ _ v hs c.args.so.now c.operand.new.so n m u.took u.head
    c.requires.ready c.requires.so_far in
    let x = c.in_ok-goes_first-in-If.ensures in
    let i =
    behind_leave v hs c.operand.new.so c.goes_first.new.so m m k.ready k.so_far x.head
    x.parts x.locals in
    let y = c.in_ok-step-in-If.ensures in let o = c.step.new.notes in
    let j =
    behind (absorbed Next) _ _ v hs c.goes_first.new.so c.step.new.so m o y.took y.head
    i.ready i.so_far in
    let z = c.in_ok-leave-in-If.ensures in
    let a =
    behind_leave v hs c.step.new.so c.leave.new.so o o j.ready j.so_far z.head z.parts z.locals in (
      search (rules, the_lemmas),
      (a.ready, (a.so_far, j.rules _ (k.rules _ q.rest))),
    )

pub branch-returns-in_ok-otherwise-in-If : goal.branch-returns-in_ok-otherwise-in-If
branch-returns-in_ok-otherwise-in-If t c =
    let n = c.args.notes.now in let s = c.args.stmt.now in let d = declares c.args.table.now in
    let b = c.in-If in let m = c.operand.new.notes in let o = c.step.new.notes in
    let u = c.in_ok-operand-in-If.ensures in let x = c.in_ok-goes_first-in-If.ensures in
    let y = c.in_ok-step-in-If.ensures in let z = c.in_ok-leave-in-If.ensures in
    let h = ways_of c.args.heads.now in let w = seen c.args.way.now in
    let to = c.otherwise.new in let block = sta d (does c.deref.result.now) in
    let last = else_rules d (otherwise b.other) (Tested 1 (After 1 Normal)) in
    let rest = goes_on past last in
    let both = Part tested Next block rest in
    part_walks h w Next Entry (exp d (shown b.test)) (within (sta d (does s)))
    (goes_first (otherwise b.other) past both) c.args.so.now c.operand.new.so to.so.found n m
    to.notes
    (sym (ap within (if_made d s.kind s.at s.point b.test b.block b.other c.deref.result.now _ both
    rest b.is refl c.deref.ensures refl refl)))
    u.head u.took
    (x.goes h both m to.so.found to.notes
    (part_walks h w Next tested block both rest c.goes_first.new.so c.step.new.so to.so.found m o
    to.notes refl y.head y.took
    (leaves_arm h w c.step.new.so c.leave.new.so to.so.found rest past Normal last o to.notes refl
    z.head z.parts z.value z.exits c.in_ok-otherwise-in-If.ensures)))

pub otherwise-step-requires : goal.otherwise-step-requires
otherwise-step-requires t c =
    let n = c.args.notes.now in let d = declares c.args.table.now in
    let from = seen_origin c.args.from.now in let x = c.deref.result.now in
    let q =
    part_needs n.locals (length n.heads.items)
    (else_rules d (otherwise c.args.other.now) from) from Next (sta d (does x)) (goes_on past Done)
    (some_else d c.args.other.now c.in-Some.stmt x from c.in-Some.is c.deref.ensures)
    c.requires.rules in (
      search (rules, the_lemmas),
      (c.requires.ready, (c.requires.so_far, (q.0, q.1))),
    )

pub otherwise-pass_rest-requires-clause-rules : goal.otherwise-pass_rest-requires-clause-rules
otherwise-pass_rest-requires-clause-rules t c =
    let n = c.args.notes.now in let d = declares c.args.table.now in
    let from = seen_origin c.args.from.now in let x = c.deref.result.now in
    let m = c.step.new.notes in let u = c.in_ok-step-in-Some.ensures in
    subst (ArePassable m.locals (length m.heads.items)) (sym (seen_ends _ _))
    (behind_needs (absorbed Next) _ _ c.args.way.now c.args.heads.now c.args.so.now c.step.new.so
    n m (else_rules d (otherwise c.args.other.now) from) from Next (sta d (does x))
    (goes_on past Done)
    (some_else d c.args.other.now c.in-Some.stmt x from c.in-Some.is c.deref.ensures)
    u.took u.head c.requires.ready c.requires.so_far c.requires.rules)

pub otherwise-returns-in-None : goal.otherwise-returns-in-None
otherwise-returns-in-None t c =
    let d = declares c.args.table.now in
    done_goes (ways_of c.args.heads.now)
    (else_rules d (otherwise c.args.other.now) (seen_origin c.args.from.now))
    (seen c.args.way.now) c.args.so.now c.args.notes.now
    (none_else d c.args.other.now (seen_origin c.args.from.now) c.in-None.is)
    (λ m e. subst (λ k. AreWide k c.args.so.now.found.exits.items) e c.requires.so_far.exits)

pub otherwise-returns-in_ok-pass_rest-in-Some : goal.otherwise-returns-in_ok-pass_rest-in-Some
otherwise-returns-in_ok-pass_rest-in-Some t c =
    let n = c.args.notes.now in let d = declares c.args.table.now in
    let from = seen_origin c.args.from.now in let x = c.deref.result.now in
    let m = c.step.new.notes in let u = c.in_ok-step-in-Some.ensures in
    let h = ways_of c.args.heads.now in let w = seen c.args.way.now in
    let to = c.pass_rest.new in
    part_walks h w Next from (sta d (does x)) (else_rules d (otherwise c.args.other.now) from)
    (goes_on past Done) c.args.so.now c.step.new.so to.so.found n m to.notes
    (some_else d c.args.other.now c.in-Some.stmt x from c.in-Some.is c.deref.ensures)
    u.head u.took
    (subst (λ (k : Rules). GoesOn h k w c.step.new.so m to.so.found to.notes) (seen_ends _ _)
    c.in_ok-pass_rest-in-Some.ensures)

pub repeat-loop_test-requires-clause-node : goal.repeat-loop_test-requires-clause-node
repeat-loop_test-requires-clause-node t c =
    let n = c.args.notes.now in let s = c.args.stmt.now in let d = declares c.args.table.now in
    let b = c.in-While in let v = c.args.way.now in let hs = c.args.heads.now in
    let q =
    loop_needs n.locals (length n.heads.items) (is_forever (shown b.test))
    (exp d (shown b.test)) (sta d (does b.block.value)) again (within (sta d (does s)))
    (sym (ap within (while_made d s.kind s.at s.point b.test b.block b.block.value _ _ b.is refl
    refl refl))) c.requires.rules in
    q.test

pub repeat-flow-requires-clause-ready : goal.repeat-flow-requires-clause-ready
repeat-flow-requires-clause-ready t c =
    let n = c.args.notes.now in let s = c.args.stmt.now in let d = declares c.args.table.now in
    let b = c.in-While in let v = c.args.way.now in let hs = c.args.heads.now in
    let q =
    loop_needs n.locals (length n.heads.items) (is_forever (shown b.test))
    (exp d (shown b.test)) (sta d (does b.block.value)) again (within (sta d (does s)))
    (sym (ap within (while_made d s.kind s.at s.point b.test b.block b.block.value _ _ b.is refl
    refl refl))) c.requires.rules in
    let m = c.loop_test.new.notes in let u = c.in_ok-loop_test-in-While.ensures in
    let k =
    behind_test _ _ v hs c.args.so.now c.loop_test.new.so n m _ u.took u.head q.head
    c.requires.ready c.requires.so_far in
    (k.ready.way, k.ready.noted)

pub repeat-flow-requires-clause-so_far : goal.repeat-flow-requires-clause-so_far
repeat-flow-requires-clause-so_far t c =
    let n = c.args.notes.now in let s = c.args.stmt.now in let d = declares c.args.table.now in
    let b = c.in-While in let v = c.args.way.now in let hs = c.args.heads.now in
    let q =
    loop_needs n.locals (length n.heads.items) (is_forever (shown b.test))
    (exp d (shown b.test)) (sta d (does b.block.value)) again (within (sta d (does s)))
    (sym (ap within (while_made d s.kind s.at s.point b.test b.block b.block.value _ _ b.is refl
    refl refl))) c.requires.rules in
    let m = c.loop_test.new.notes in let u = c.in_ok-loop_test-in-While.ensures in
    let k =
    behind_test _ _ v hs c.args.so.now c.loop_test.new.so n m _ u.took u.head q.head
    c.requires.ready c.requires.so_far in
    k.so_far

pub repeat-flow-requires-clause-range : goal.repeat-flow-requires-clause-range
repeat-flow-requires-clause-range t c =
    entry_range c.loop_test.new.notes.locals

pub repeat-unless-requires-clause-parts : goal.repeat-unless-requires-clause-parts
repeat-unless-requires-clause-parts t c =
    let n = c.args.notes.now in let s = c.args.stmt.now in let d = declares c.args.table.now in
    let b = c.in-While in let v = c.args.way.now in let hs = c.args.heads.now in
    let q =
    loop_needs n.locals (length n.heads.items) (is_forever (shown b.test))
    (exp d (shown b.test)) (sta d (does b.block.value)) again (within (sta d (does s)))
    (sym (ap within (while_made d s.kind s.at s.point b.test b.block b.block.value _ _ b.is refl
    refl refl))) c.requires.rules in
    let m = c.loop_test.new.notes in let u = c.in_ok-loop_test-in-While.ensures in
    let k =
    behind_test _ _ v hs c.args.so.now c.loop_test.new.so n m _ u.took u.head q.head
    c.requires.ready c.requires.so_far in
    let f = c.flow.new.notes in
    let i =
    behind_flow v hs c.loop_test.new.so c.loop_test.new.so m f _ c.in_ok-flow-in-While.ensures
    k.ready k.so_far in
    parts_wide v hs c.loop_test.new.so c.loop_test.new.so f f i.ready i.so_far

pub repeat-unless-requires-clause-exits : goal.repeat-unless-requires-clause-exits
repeat-unless-requires-clause-exits t c =
    let n = c.args.notes.now in let s = c.args.stmt.now in let d = declares c.args.table.now in
    let b = c.in-While in let v = c.args.way.now in let hs = c.args.heads.now in
    let q =
    loop_needs n.locals (length n.heads.items) (is_forever (shown b.test))
    (exp d (shown b.test)) (sta d (does b.block.value)) again (within (sta d (does s)))
    (sym (ap within (while_made d s.kind s.at s.point b.test b.block b.block.value _ _ b.is refl
    refl refl))) c.requires.rules in
    let m = c.loop_test.new.notes in let u = c.in_ok-loop_test-in-While.ensures in
    let k =
    behind_test _ _ v hs c.args.so.now c.loop_test.new.so n m _ u.took u.head q.head
    c.requires.ready c.requires.so_far in
    let f = c.flow.new.notes in
    let i =
    behind_flow v hs c.loop_test.new.so c.loop_test.new.so m f _ c.in_ok-flow-in-While.ensures
    k.ready k.so_far in
    exits_wide v hs c.loop_test.new.so c.loop_test.new.so f f i.ready i.so_far

pub repeat-step-requires : goal.repeat-step-requires
repeat-step-requires t c =
    let n = c.args.notes.now in let s = c.args.stmt.now in let d = declares c.args.table.now in
    let b = c.in-While in let v = c.args.way.now in let hs = c.args.heads.now in
    let q =
    loop_needs n.locals (length n.heads.items) (is_forever (shown b.test))
    (exp d (shown b.test)) (sta d (does b.block.value)) again (within (sta d (does s)))
    (sym (ap within (while_made d s.kind s.at s.point b.test b.block b.block.value _ _ b.is refl
    refl refl))) c.requires.rules in
    let m = c.loop_test.new.notes in let u = c.in_ok-loop_test-in-While.ensures in
    let k =
    behind_test _ _ v hs c.args.so.now c.loop_test.new.so n m _ u.took u.head q.head
    c.requires.ready c.requires.so_far in
    let f = c.flow.new.notes in
    let i =
    behind_flow v hs c.loop_test.new.so c.loop_test.new.so m f _ c.in_ok-flow-in-While.ensures
    k.ready k.so_far in
    let x = c.in_ok-unless-in-While.ensures in
    let j =
    behind_leave v hs c.loop_test.new.so c.unless.new.so f f i.ready i.so_far x.head x.parts
    x.locals in (
      search (rules, the_lemmas),
      (
        j.ready,
        (
          j.so_far,
          (
            tested_range f.locals,
            subst (λ (z : TStmt). IsPassable f.locals (length f.heads.items) (sta d (does z)))
                (sym c.deref.ensures) (i.nodes _ (k.nodes _ q.block)),
          ),
        ),
      ),
    )

pub repeat-pass_draft-requires-clause-ready : goal.repeat-pass_draft-requires-clause-ready
repeat-pass_draft-requires-clause-ready t c =
    let n = c.args.notes.now in let s = c.args.stmt.now in let d = declares c.args.table.now in
    let b = c.in-While in let v = c.args.way.now in let hs = c.args.heads.now in
    let q =
    loop_needs n.locals (length n.heads.items) (is_forever (shown b.test))
    (exp d (shown b.test)) (sta d (does b.block.value)) again (within (sta d (does s)))
    (sym (ap within (while_made d s.kind s.at s.point b.test b.block b.block.value _ _ b.is refl
    refl refl))) c.requires.rules in
    let m = c.loop_test.new.notes in let u = c.in_ok-loop_test-in-While.ensures in
    let k =
    behind_test _ _ v hs c.args.so.now c.loop_test.new.so n m _ u.took u.head q.head
    c.requires.ready c.requires.so_far in
    let f = c.flow.new.notes in
    let i =
    behind_flow v hs c.loop_test.new.so c.loop_test.new.so m f _ c.in_ok-flow-in-While.ensures
    k.ready k.so_far in
    let x = c.in_ok-unless-in-While.ensures in
    let j =
    behind_leave v hs c.loop_test.new.so c.unless.new.so f f i.ready i.so_far x.head x.parts
    x.locals in
    let y = c.in_ok-step-in-While.ensures in let o = c.step.new.notes in
    let a =
    behind (absorbed Loop) _ _ v hs c.unless.new.so c.step.new.so f o y.took y.head
    j.ready j.so_far in
    a.ready

pub repeat-pass_draft-requires-clause-so_far : goal.repeat-pass_draft-requires-clause-so_far
repeat-pass_draft-requires-clause-so_far t c =
    let n = c.args.notes.now in let s = c.args.stmt.now in let d = declares c.args.table.now in
    let b = c.in-While in let v = c.args.way.now in let hs = c.args.heads.now in
    let q =
    loop_needs n.locals (length n.heads.items) (is_forever (shown b.test))
    (exp d (shown b.test)) (sta d (does b.block.value)) again (within (sta d (does s)))
    (sym (ap within (while_made d s.kind s.at s.point b.test b.block b.block.value _ _ b.is refl
    refl refl))) c.requires.rules in
    let m = c.loop_test.new.notes in let u = c.in_ok-loop_test-in-While.ensures in
    let k =
    behind_test _ _ v hs c.args.so.now c.loop_test.new.so n m _ u.took u.head q.head
    c.requires.ready c.requires.so_far in
    let f = c.flow.new.notes in
    let i =
    behind_flow v hs c.loop_test.new.so c.loop_test.new.so m f _ c.in_ok-flow-in-While.ensures
    k.ready k.so_far in
    let x = c.in_ok-unless-in-While.ensures in
    let j =
    behind_leave v hs c.loop_test.new.so c.unless.new.so f f i.ready i.so_far x.head x.parts
    x.locals in
    let y = c.in_ok-step-in-While.ensures in let o = c.step.new.notes in
    let a =
    behind (absorbed Loop) _ _ v hs c.unless.new.so c.step.new.so f o y.took y.head
    j.ready j.so_far in
    a.so_far

pub repeat-pass_draft-requires-clause-rules : goal.repeat-pass_draft-requires-clause-rules
repeat-pass_draft-requires-clause-rules t c =
    let n = c.args.notes.now in let s = c.args.stmt.now in let d = declares c.args.table.now in
    let b = c.in-While in let v = c.args.way.now in let hs = c.args.heads.now in
    let q =
    loop_needs n.locals (length n.heads.items) (is_forever (shown b.test))
    (exp d (shown b.test)) (sta d (does b.block.value)) again (within (sta d (does s)))
    (sym (ap within (while_made d s.kind s.at s.point b.test b.block b.block.value _ _ b.is refl
    refl refl))) c.requires.rules in
    let m = c.loop_test.new.notes in let u = c.in_ok-loop_test-in-While.ensures in
    let k =
    behind_test _ _ v hs c.args.so.now c.loop_test.new.so n m _ u.took u.head q.head
    c.requires.ready c.requires.so_far in
    let f = c.flow.new.notes in
    let i =
    behind_flow v hs c.loop_test.new.so c.loop_test.new.so m f _ c.in_ok-flow-in-While.ensures
    k.ready k.so_far in
    let x = c.in_ok-unless-in-While.ensures in
    let j =
    behind_leave v hs c.loop_test.new.so c.unless.new.so f f i.ready i.so_far x.head x.parts
    x.locals in
    let y = c.in_ok-step-in-While.ensures in let o = c.step.new.notes in
    let a =
    behind (absorbed Loop) _ _ v hs c.unless.new.so c.step.new.so f o y.took y.head
    j.ready j.so_far in
    subst (ArePassable o.locals (length o.heads.items)) (sym c.in_ok-rest-in-While.ensures)
    (a.rules again (i.rules again (k.rules again q.rest)))

pub repeat-returns-in_ok-pass_draft-in-While : goal.repeat-returns-in_ok-pass_draft-in-While
repeat-returns-in_ok-pass_draft-in-While t c =
    let n = c.args.notes.now in let s = c.args.stmt.now in let d = declares c.args.table.now in
    let b = c.in-While in let m = c.loop_test.new.notes in let f = c.flow.new.notes in
    let o = c.step.new.notes in
    let u = c.in_ok-loop_test-in-While.ensures in let g = u.took in
    let x = c.in_ok-unless-in-While.ensures in let y = c.in_ok-step-in-While.ensures in
    let h = ways_of c.args.heads.now in let w = seen c.args.way.now in
    let to = c.pass_draft.new in
    let block = sta d (does c.deref.result.now) in
    let part = Part tested Loop block again in
    let more = if_not (is_forever (shown b.test)) (goes_on past) part in
    test_arm h w c.args.so.now c.loop_test.new.so to.so.found (within (sta d (does s)))
    (exp d (shown b.test)) (Heads Entry more) g.entry g.found n m to.notes
    (sym (ap within (while_made d s.kind s.at s.point b.test b.block c.deref.result.now _
    part b.is c.deref.ensures refl refl)))
    g.enters g.passed u.head g.parts g.value g.exits
    (heads_arm h w c.loop_test.new.so to.so.found (Heads Entry more) Entry more m f to.notes refl
    c.in_ok-flow-in-While.ensures
    (subst
    (λ z. GoesOn h (if_not z (goes_on past) part) w c.loop_test.new.so f to.so.found to.notes)
    c.is_forever.ensures
    (x.goes h part f to.so.found to.notes
    (part_walks h w Loop tested block part again c.unless.new.so c.step.new.so
    to.so.found f o to.notes refl y.head y.took
    (subst (λ (k : Rules). GoesOn h k w c.step.new.so o to.so.found to.notes)
    c.in_ok-rest-in-While.ensures c.in_ok-pass_draft-in-While.ensures)))))
