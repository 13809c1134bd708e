-- An expression is passed as its rules say, part by part.
use Rattle.std.proofs.Common.{[], Some, length, refl, sym, ap, ◌∙◌, subst, rules, arith}
use Rattle.par_typed.specs.declared.expr.TExprKind.TheViews.{the_lemmas}
use Rattle.par_typed.specs.Shown.{all_shown, receiver, shown, mark_of}
use Rattle.par_typed.proofs.Shown.{shown_mark}
use Rattle.par_program_laws.specs.Body.{args, exp, past, second}
use Rattle.par_program_laws.specs.Declares.{declares}
use Rattle.par_program_laws.specs.Kinds.{Next, absorbed}
use Rattle.par_program_laws.specs.Lattice.{numbers}
use Rattle.par_program_laws.specs.Rules.{Entry, Done, Part, Rules, goes_on, spot, way}
use Rattle.par_nodes.specs.Seen.{seen_origin, seen_start}
use Rattle.par_nodes.specs.Starts.{call_does, call_start}
use Rattle.par_nodes.specs.Starts.{behind as behind_of}
use Rattle.par_program_laws.specs.Ranges.{IsFromInRange}
use Rattle.par_nodes.proofs.Forms.{seen_ends, seen_gives}
use Rattle.par_nodes.proofs.Expressions.{field_made, output_made, call_made, unary_made}
use Rattle.par_nodes.proofs.Expressions.{binary_made}
use Rattle.par_nodes.proofs.Expressions.{selected, valued, combined}
use Rattle.par_pass_laws.specs.par_except.Seen.{may_see, seen, HasLocals}
use Rattle.par_ways.specs.Seen.{latest_first, ways_of, AreWide}
use Rattle.par_rounds.specs.Passes.{within, GoesOn, ArePassable}
use Rattle.par_rounds.proofs.Arms.{took_part}
use Rattle.par_rounds.proofs.Calls.{start_in_range, arg_needs, arg_next, args_led, none_led}
use Rattle.par_rounds.proofs.Calls.{some_is, some_led, behind_needs_of, args_needs_of, call_range}
use Rattle.par_rounds.proofs.Events.{took_none}
use Rattle.par_rounds.proofs.Needs.{so_first, part_needs}
use Rattle.par_rounds.proofs.Walks.{exp_spot, within_needs, behind, behind_needs, part_walks}
use Rattle.par_rounds.proofs.Walks.{node_walks, visited_none}
use Rattle.par_rounds.proofs.expr.+exp.Goals as goal

pub compound-parts-requires : goal.compound-parts-requires
compound-parts-requires t c = (
  search (rules, the_lemmas),
  (
    c.requires.ready,
    (
      so_first c.args.notes.now _ c.new-so.ensures.head c.new-so.ensures.parts
          c.new-so.ensures.exits,
      within_needs c.args.notes.now.locals (length c.args.notes.now.heads.items)
          (exp (declares c.args.table.now) (shown c.args.e.now)) c.requires.node,
    ),
  ),
)

pub compound-finish-requires-clause-way : goal.compound-finish-requires-clause-way
compound-finish-requires-clause-way t c =
    let n = c.args.notes.now in let p = c.in_ok-parts.ensures [] n (took_none n) in
    subst (λ k. HasLocals k c.args.way.now) (sym p.noted.locals) c.requires.ready.way

pub compound-finish-requires-clause-exits : goal.compound-finish-requires-clause-exits
compound-finish-requires-clause-exits t c =
    let n = c.args.notes.now in let p = c.in_ok-parts.ensures [] n (took_none n) in
    subst (λ k. AreWide k c.parts.new.so.found.exits.items) (sym p.noted.locals) p.wide

pub compound-returns : goal.compound-returns
compound-returns t c =
    let u = c.new-so.ensures in let e = c.args.e.now in
    node_walks (ways_of c.args.heads.now) (exp (declares c.args.table.now) (shown e)) e.point
    (seen c.args.way.now) c.new-so.result
    c.parts.new.so.found c.in_ok-found.found
    c.args.notes.now c.parts.new.notes c.finish.new.notes
    (exp_spot (declares c.args.table.now) (shown e)
    ∙ ap (λ m. m.point) (shown_mark e.kind (mark_of e)))
    u.head u.parts u.value u.exits c.in_ok-parts.ensures c.in_ok-found.ensures

pub operand-returns-clause-took : goal.operand-returns-clause-took
operand-returns-clause-took t c =
    let w = seen c.args.way.now in let f = seen_origin c.args.from.now in
    let u = c.in_ok-take.ensures in let q = c.in_ok-found.ensures in
    took_part (ways_of c.args.heads.now) (absorbed Next)
    (way numbers (Some w) (latest_first c.args.so.now.parts.items []) f)
    (exp (declares c.args.table.now) (shown c.args.e.now))
    c.args.so.now c.take.new.so c.in_ok-entry.entry c.in_ok-found.found c.args.notes.now
    c.visit.new.notes
    (c.in_ok-entry.ensures.way
    ∙ ap (λ z. way numbers (Some w) (latest_first z []) f) c.deref.ensures.value)
    q u.parts u.value u.exits
    (u.locals c.args.notes.now.locals c.requires.so_far.exits q.wide)

pub visit-returns-in-None : goal.visit-returns-in-None
visit-returns-in-None t c =
    let e = c.args.e.now in let d = declares c.args.table.now in
    visited_none (may_see c.args.entry.now) e.point (spot (exp d (shown e))) _ c.nothing.result
    c.args.notes.now c.blank.new.self
    (ap may_see c.in-None.is)
    (exp_spot d (shown e) ∙ ap (λ m. m.point) (shown_mark e.kind (mark_of e)))
    c.nothing.ensures.value c.nothing.ensures.exits c.blank.ensures

pub binary-operand-requires : goal.binary-operand-requires
binary-operand-requires t c =
    let n = c.args.notes.now in let e = c.args.e.now in let d = declares c.args.table.now in
    let b = c.in-Binary in
    let q =
    part_needs n.locals (length n.heads.items) (within (exp d (shown e))) Entry Next
    (exp d (shown c.deref.result.now)) _
    (sym (ap within (binary_made d e.kind (mark_of e) b.op b.left b.right c.deref.result.now
    b.right.value b.right.value (second b.op) _ _ _ b.is refl refl refl refl refl c.deref.ensures
    refl)))
    c.requires.rules in (
      search (rules, the_lemmas),
      (c.requires.ready, (c.requires.so_far, (q.0, q.1))),
    )

pub binary-operand-requires-in-Binary : goal.binary-operand-requires-in-Binary
binary-operand-requires-in-Binary t c =
    let n = c.args.notes.now in let e = c.args.e.now in let d = declares c.args.table.now in
    let b = c.in-Binary in let m = c.operand.new.notes in
    let u = c.in_ok-operand-in-Binary.ensures in
    let x = c.deref.result.now in let y = c.deref-in-Binary.result.now in
    let f = seen_origin c.second.result in
    let rest = combined b.op (shown y) in
    let more = Part f Next (exp d (shown y)) rest in
    let q =
    part_needs n.locals (length n.heads.items) (within (exp d (shown e))) Entry Next
    (exp d (shown x)) more
    (sym (ap within (binary_made d e.kind (mark_of e) b.op b.left b.right x y y f _ more rest b.is
    c.deref-in-Binary.ensures refl c.second.ensures c.deref-in-Binary.ensures refl
    c.deref.ensures refl)))
    c.requires.rules in
    let k =
    behind (absorbed Next) _ _ c.args.way.now c.args.heads.now c.args.so.now c.operand.new.so n m
    u.took u.head c.requires.ready c.requires.so_far in
    let p =
    part_needs m.locals (length m.heads.items) more f Next (exp d (shown y)) rest refl
    (k.rules more q.2) in (
      search (rules, the_lemmas),
      (k.ready, (k.so_far, (p.0, p.1))),
    )

pub binary-pass_draft-requires-clause-so_far : goal.binary-pass_draft-requires-clause-so_far
binary-pass_draft-requires-clause-so_far t c =
    let n = c.args.notes.now in let m = c.operand.new.notes in
    let u = c.in_ok-operand-in-Binary.ensures in let v = c.in_ok-operand-in-Binary-2.ensures in
    let k =
    behind (absorbed Next) _ _ c.args.way.now c.args.heads.now c.args.so.now c.operand.new.so n m
    u.took u.head c.requires.ready c.requires.so_far in
    let j =
    behind (absorbed Next) _ _ c.args.way.now c.args.heads.now c.operand.new.so
    c.operand-in-Binary.new.so m c.operand-in-Binary.new.notes v.took v.head k.ready k.so_far in
    j.so_far

pub binary-pass_draft-requires-clause-rules : goal.binary-pass_draft-requires-clause-rules
binary-pass_draft-requires-clause-rules t c =
    let n = c.args.notes.now in let e = c.args.e.now in let d = declares c.args.table.now in
    let b = c.in-Binary in let m = c.operand.new.notes in let o = c.operand-in-Binary.new.notes in
    let u = c.in_ok-operand-in-Binary.ensures in let v = c.in_ok-operand-in-Binary-2.ensures in
    let x = c.deref.result.now in let y = c.deref-in-Binary.result.now in
    let z = c.deref-in-Binary-2.result.now in
    let f = seen_origin c.second.result in
    let rest = combined b.op (shown z) in
    let more = Part f Next (exp d (shown y)) rest in
    let q =
    part_needs n.locals (length n.heads.items) (within (exp d (shown e))) Entry Next
    (exp d (shown x)) more
    (sym (ap within (binary_made d e.kind (mark_of e) b.op b.left b.right x y z f _ more rest b.is
    c.deref-in-Binary-2.ensures refl c.second.ensures c.deref-in-Binary.ensures refl
    c.deref.ensures refl)))
    c.requires.rules in
    let k =
    behind (absorbed Next) _ _ c.args.way.now c.args.heads.now c.args.so.now c.operand.new.so n m
    u.took u.head c.requires.ready c.requires.so_far in
    let p =
    part_needs m.locals (length m.heads.items) more f Next (exp d (shown y)) rest refl
    (k.rules more q.2) in
    let j =
    behind (absorbed Next) _ _ c.args.way.now c.args.heads.now c.operand.new.so
    c.operand-in-Binary.new.so m o v.took v.head k.ready k.so_far in
    subst (ArePassable o.locals (length o.heads.items)) (sym c.in_ok-rest-in-Binary.ensures)
    (j.rules rest p.2)

pub parts-operand-requires-in-Neg : goal.parts-operand-requires-in-Neg
parts-operand-requires-in-Neg t c =
    let n = c.args.notes.now in let e = c.args.e.now in let d = declares c.args.table.now in
    let q =
    part_needs n.locals (length n.heads.items) (within (exp d (shown e))) Entry Next
    (exp d (shown c.deref-in-Neg.result.now)) valued
    (sym (ap within (unary_made d e.kind (mark_of e) c.in-Neg.of c.deref-in-Neg.result.now _
    valued c.in-Neg.is refl c.deref-in-Neg.ensures refl)))
    c.requires.rules in (
      search (rules, the_lemmas),
      (c.requires.ready, (c.requires.so_far, (q.0, q.1))),
    )

pub parts-pass_rest-requires-in-Neg-clause-rules
    : goal.parts-pass_rest-requires-in-Neg-clause-rules
parts-pass_rest-requires-in-Neg-clause-rules t c =
    let n = c.args.notes.now in let e = c.args.e.now in let d = declares c.args.table.now in
    let m = c.operand-in-Neg.new.notes in let u = c.in_ok-operand-in-Neg.ensures in
    let q =
    part_needs n.locals (length n.heads.items) (within (exp d (shown e))) Entry Next
    (exp d (shown c.deref-in-Neg.result.now)) valued
    (sym (ap within (unary_made d e.kind (mark_of e) c.in-Neg.of c.deref-in-Neg.result.now _
    valued c.in-Neg.is refl c.deref-in-Neg.ensures refl)))
    c.requires.rules in
    let k =
    behind (absorbed Next) _ _ c.args.way.now c.args.heads.now c.args.so.now
    c.operand-in-Neg.new.so n m u.took u.head c.requires.ready c.requires.so_far in
    subst (ArePassable m.locals (length m.heads.items)) (sym (seen_gives _ _)) (k.rules valued q.2)

pub binary-returns-in_ok-pass_draft-in-Binary : goal.binary-returns-in_ok-pass_draft-in-Binary
binary-returns-in_ok-pass_draft-in-Binary t c =
    let n = c.args.notes.now in let e = c.args.e.now in let d = declares c.args.table.now in
    let b = c.in-Binary in let m = c.operand.new.notes in let o = c.operand-in-Binary.new.notes in
    let u = c.in_ok-operand-in-Binary.ensures in let v = c.in_ok-operand-in-Binary-2.ensures in
    let x = c.deref.result.now in let y = c.deref-in-Binary.result.now in
    let z = c.deref-in-Binary-2.result.now in
    let f = seen_origin c.second.result in
    let rest = combined b.op (shown z) in
    let more = Part f Next (exp d (shown y)) rest in
    let h = ways_of c.args.heads.now in let w = seen c.args.way.now in
    part_walks h w Next Entry (exp d (shown x)) (within (exp d (shown e))) more c.args.so.now
    c.operand.new.so c.pass_draft.new.so.found n m c.pass_draft.new.notes
    (sym (ap within (binary_made d e.kind (mark_of e) b.op b.left b.right x y z f _ more rest b.is
    c.deref-in-Binary-2.ensures refl c.second.ensures c.deref-in-Binary.ensures refl
    c.deref.ensures refl)))
    u.head u.took
    (part_walks h w Next f (exp d (shown y)) more rest c.operand.new.so
    c.operand-in-Binary.new.so c.pass_draft.new.so.found m o c.pass_draft.new.notes refl
    v.head v.took
    (subst (λ (k : Rules). GoesOn h k w c.operand-in-Binary.new.so o c.pass_draft.new.so.found
    c.pass_draft.new.notes) c.in_ok-rest-in-Binary.ensures c.in_ok-pass_draft-in-Binary.ensures))

pub parts-returns-in_ok-pass_rest-in-Neg : goal.parts-returns-in_ok-pass_rest-in-Neg
parts-returns-in_ok-pass_rest-in-Neg t c =
    let n = c.args.notes.now in let e = c.args.e.now in let d = declares c.args.table.now in
    let m = c.operand-in-Neg.new.notes in let u = c.in_ok-operand-in-Neg.ensures in
    let x = c.deref-in-Neg.result.now in
    let h = ways_of c.args.heads.now in let w = seen c.args.way.now in
    let to = c.pass_rest-in-Neg.new in
    part_walks h w Next Entry (exp d (shown x)) (within (exp d (shown e))) valued c.args.so.now
    c.operand-in-Neg.new.so to.so.found n m to.notes
    (sym (ap within (unary_made d e.kind (mark_of e) c.in-Neg.of x _ valued c.in-Neg.is refl
    c.deref-in-Neg.ensures refl)))
    u.head u.took
    (subst (λ (k : Rules). GoesOn h k w c.operand-in-Neg.new.so m to.so.found to.notes)
    (seen_gives _ _) c.in_ok-pass_rest-in-Neg.ensures)

pub parts-operand-requires-in-Output : goal.parts-operand-requires-in-Output
parts-operand-requires-in-Output t c =
    let n = c.args.notes.now in let e = c.args.e.now in let d = declares c.args.table.now in
    let b = c.in-Output in let x = c.deref-in-Output.result.now in
    let q =
    part_needs n.locals (length n.heads.items) (within (exp d (shown e))) Entry Next
    (exp d (shown x)) _
    (sym (ap within (output_made d e.kind (mark_of e) b.field-0 b.field-1 b.value x _
    (goes_on past Done) b.is refl c.deref-in-Output.ensures refl))) c.requires.rules in (
      search (rules, the_lemmas),
      (c.requires.ready, (c.requires.so_far, (q.0, q.1))),
    )

pub parts-pass_rest-requires-clause-rules
    : goal.parts-pass_rest-requires-clause-rules
parts-pass_rest-requires-clause-rules t c =
    let n = c.args.notes.now in let e = c.args.e.now in let d = declares c.args.table.now in
    let b = c.in-Output in let x = c.deref-in-Output.result.now in
    let m = c.operand-in-Output.new.notes in let u = c.in_ok-operand-in-Output.ensures in
    subst (ArePassable m.locals (length m.heads.items)) (sym (seen_ends _ _))
    (behind_needs (absorbed Next) _ _ c.args.way.now c.args.heads.now c.args.so.now
    c.operand-in-Output.new.so n m (within (exp d (shown e))) Entry Next (exp d (shown x)) _
    (sym (ap within (output_made d e.kind (mark_of e) b.field-0 b.field-1 b.value x _
    (goes_on past Done) b.is refl c.deref-in-Output.ensures refl))) u.took u.head
    c.requires.ready c.requires.so_far c.requires.rules)

pub parts-returns-in_ok-pass_rest-in-Output : goal.parts-returns-in_ok-pass_rest-in-Output
parts-returns-in_ok-pass_rest-in-Output t c =
    let n = c.args.notes.now in let e = c.args.e.now in let d = declares c.args.table.now in
    let b = c.in-Output in let x = c.deref-in-Output.result.now in
    let m = c.operand-in-Output.new.notes in let u = c.in_ok-operand-in-Output.ensures in
    let h = ways_of c.args.heads.now in let w = seen c.args.way.now in
    let to = c.pass_rest.new in
    part_walks h w Next Entry (exp d (shown x)) (within (exp d (shown e))) _ c.args.so.now
    c.operand-in-Output.new.so to.so.found n m to.notes
    (sym (ap within (output_made d e.kind (mark_of e) b.field-0 b.field-1 b.value x _
    (goes_on past Done) b.is refl c.deref-in-Output.ensures refl))) u.head u.took
    (subst (λ (k : Rules). GoesOn h k w c.operand-in-Output.new.so m to.so.found to.notes)
    (seen_ends _ _) c.in_ok-pass_rest-in-Output.ensures)

pub parts-operand-requires : goal.parts-operand-requires
parts-operand-requires t c =
    let n = c.args.notes.now in let e = c.args.e.now in let d = declares c.args.table.now in
    let b = c.in-Field in let x = c.deref.result.now in
    let q =
    part_needs n.locals (length n.heads.items) (within (exp d (shown e))) Entry Next
    (exp d (shown x)) _
    (sym (ap within (field_made d e.kind (mark_of e) b.of b.class b.field
    (d.field b.class b.field) x x _
    (selected (shown x) (d.field b.class b.field)) b.is refl c.deref.ensures refl
    c.deref.ensures refl))) c.requires.rules in (
      search (rules, the_lemmas),
      (c.requires.ready, (c.requires.so_far, (q.0, q.1))),
    )

pub parts-pass_draft-requires-clause-rules
    : goal.parts-pass_draft-requires-clause-rules
parts-pass_draft-requires-clause-rules t c =
    let n = c.args.notes.now in let e = c.args.e.now in let d = declares c.args.table.now in
    let b = c.in-Field in let x = c.deref.result.now in
    let m = c.operand.new.notes in let u = c.in_ok-operand-in-Field.ensures in
    subst (ArePassable m.locals (length m.heads.items)) (sym c.in_ok-rest-in-Field.ensures)
    (behind_needs (absorbed Next) _ _ c.args.way.now c.args.heads.now c.args.so.now
    c.operand.new.so n m (within (exp d (shown e))) Entry Next (exp d (shown x)) _
    (sym (ap within (field_made d e.kind (mark_of e) b.of b.class b.field c.field.result x
    c.deref-in-Field.result.now _
    (selected (shown c.deref-in-Field.result.now) c.field.result) b.is c.field.ensures
    c.deref-in-Field.ensures refl c.deref.ensures refl))) u.took u.head
    c.requires.ready c.requires.so_far c.requires.rules)

pub parts-returns-in_ok-pass_draft-in-Field : goal.parts-returns-in_ok-pass_draft-in-Field
parts-returns-in_ok-pass_draft-in-Field t c =
    let n = c.args.notes.now in let e = c.args.e.now in let d = declares c.args.table.now in
    let b = c.in-Field in let x = c.deref.result.now in
    let m = c.operand.new.notes in let u = c.in_ok-operand-in-Field.ensures in
    let h = ways_of c.args.heads.now in let w = seen c.args.way.now in
    let to = c.pass_draft.new in
    part_walks h w Next Entry (exp d (shown x)) (within (exp d (shown e))) _ c.args.so.now
    c.operand.new.so to.so.found n m to.notes
    (sym (ap within (field_made d e.kind (mark_of e) b.of b.class b.field c.field.result x
    c.deref-in-Field.result.now _
    (selected (shown c.deref-in-Field.result.now) c.field.result) b.is c.field.ensures
    c.deref-in-Field.ensures refl c.deref.ensures refl))) u.head u.took
    (subst (λ (k : Rules). GoesOn h k w c.operand.new.so m to.so.found to.notes)
    c.in_ok-rest-in-Field.ensures c.in_ok-pass_draft-in-Field.ensures)

pub receiver-returns-in-None : goal.receiver-returns-in-None
receiver-returns-in-None t c =
    none_led (declares c.args.table.now) (ways_of c.args.heads.now) c.args.way.now c.args.heads.now
    c.args.of.now c.args.so.now c.args.notes.now c.in-None.is c.requires.ready c.requires.so_far

pub receiver-operand-requires : goal.receiver-operand-requires
receiver-operand-requires t c =
    let n = c.args.notes.now in let d = declares c.args.table.now in let x = c.deref.result.now in
    let q =
    part_needs n.locals (length n.heads.items)
    (behind_of d (receiver c.args.of.now) c.requires.rules.0) Entry Next (exp d (shown x))
    c.requires.rules.0
    (some_is d c.args.of.now c.in-Some.of x c.requires.rules.0 c.in-Some.is c.deref.ensures)
    c.requires.rules.1 in (
      search (rules, the_lemmas),
      (c.requires.ready, (c.requires.so_far, (q.0, q.1))),
    )

pub receiver-returns-in_ok-operand-in-Some : goal.receiver-returns-in_ok-operand-in-Some
receiver-returns-in_ok-operand-in-Some t c =
    let d = declares c.args.table.now in let u = c.in_ok-operand-in-Some.ensures in
    some_led d (ways_of c.args.heads.now) c.args.way.now c.args.heads.now c.args.of.now
    c.in-Some.of c.deref.result.now c.args.so.now c.operand.new.so c.args.notes.now
    c.operand.new.notes c.in-Some.is c.deref.ensures u.head u.took c.requires.ready
    c.requires.so_far

pub args-loop-place-init : goal.args-loop-place-init
args-loop-place-init t c =
    record {
      ready = c.requires.ready;
      so_far = c.requires.so_far;
      same = λ rs x. x;
      last = c.requires.rules.0;
      needs = c.requires.rules.1;
      goes = λ more r o x. x;
    }

pub args-operand-requires : goal.args-operand-requires
args-operand-requires t c =
    let a = c.loop-place.invariant in let p = c.loop-place.place in
    let e = c.index-arguments-place.result in let f = seen_start c.args.from in (
      search (rules, the_lemmas),
      (
        a.ready,
        (
          a.so_far,
          (
            start_in_range c.loop-place.notes.locals p (seen_start c.start_at.result) f
                c.start_at.ensures
                (subst (λ k. IsFromInRange k f) a.ready.way
                (subst (λ k. IsFromInRange k f) (sym c.requires.ready.way) c.requires.start)),
            arg_needs (declares c.args.table.now) (ways_of c.args.heads.now) c.args.way.now
                c.args.heads.now f c.args.arguments.now c.args.so.now c.loop-place.so
                c.args.notes.now c.loop-place.notes p e (search rules) (search rules) a,
          ),
        ),
      ),
    )

pub args-loop-place-preserved : goal.args-loop-place-preserved
args-loop-place-preserved t c =
    arg_next (declares c.args.table.now) (ways_of c.args.heads.now) c.args.way.now
    c.args.heads.now (seen_start c.args.from) c.args.arguments.now c.args.so.now c.loop-place.so
    c.args.notes.now c.loop-place.notes c.loop-place.place c.index-arguments-place.result
    (seen_start c.start_at.result) c.operand.new.so c.operand.new.notes (search rules)
    (search rules) c.start_at.ensures c.loop-place.invariant c.in_ok-operand.ensures.head
    c.in_ok-operand.ensures.took

pub args-returns : goal.args-returns
args-returns t c =
    args_led (declares c.args.table.now) (ways_of c.args.heads.now) c.args.way.now
    c.args.heads.now (seen_start c.args.from) c.args.arguments.now c.args.so.now c.loop-place.so
    c.args.notes.now c.loop-place.notes c.loop-place.place (omega arith) c.loop-place.invariant

pub call-receiver-requires : goal.call-receiver-requires
call-receiver-requires t c =
    let n = c.args.notes.now in let e = c.args.e.now in let d = declares c.args.table.now in
    let b = c.in-Call in let o = receiver b.of in let es = all_shown b.arguments in
    let last = call_does d (d.method b.class b.method) o es in
    let most = args d (call_start o) es last in
    let h =
    subst (ArePassable n.locals (length n.heads.items))
    (sym (ap within (call_made d e.kind (mark_of e) b.class b.method b.of b.arguments
    b.arguments _ most last (call_start o) b.is refl refl refl refl refl)))
    c.requires.rules in (
      search (rules, the_lemmas),
      (c.requires.ready, (c.requires.so_far, (most, h))),
    )

pub call-args-requires : goal.call-args-requires
call-args-requires t c =
    let n = c.args.notes.now in let e = c.args.e.now in let d = declares c.args.table.now in
    let b = c.in-Call in let o = receiver b.of in
    let es = all_shown c.as_slice-arguments.result.now in
    let last = call_does d (d.method b.class b.method) o es in
    let most = args d (call_start o) es last in
    let h =
    subst (ArePassable n.locals (length n.heads.items))
    (sym (ap within (call_made d e.kind (mark_of e) b.class b.method b.of b.arguments
    c.as_slice-arguments.result.now _ most last (call_start o) b.is c.as_slice-arguments.ensures
    refl refl refl refl)))
    c.requires.rules in
    let k = c.in_ok-receiver-in-Call.ensures in let m = c.receiver.new.notes in
    let g =
    behind_needs_of d n.locals (length n.heads.items) o most h in (
      search (rules, the_lemmas),
      (
        k.ready,
        (
          k.so_far,
          (
            subst (IsFromInRange m.locals) (sym c.call_start.ensures) (call_range m.locals o),
            (
              last,
              subst (λ f. ArePassable m.locals (length m.heads.items) (args d f es last))
                  (sym c.call_start.ensures) (k.rules most g),
            ),
          ),
        ),
      ),
    )

pub call-pass_draft-requires-clause-ready : goal.call-pass_draft-requires-clause-ready
call-pass_draft-requires-clause-ready t c =
    c.in_ok-args-in-Call.ensures.ready

pub call-pass_draft-requires-clause-so_far : goal.call-pass_draft-requires-clause-so_far
call-pass_draft-requires-clause-so_far t c =
    c.in_ok-args-in-Call.ensures.so_far

pub call-pass_draft-requires-clause-rules : goal.call-pass_draft-requires-clause-rules
call-pass_draft-requires-clause-rules t c =
    let n = c.args.notes.now in let e = c.args.e.now in let d = declares c.args.table.now in
    let b = c.in-Call in let o = receiver b.of in
    let es = all_shown c.as_slice-arguments.result.now in
    let last = call_does d (d.method b.class b.method) o es in
    let most = args d (call_start o) es last in
    let h =
    subst (ArePassable n.locals (length n.heads.items))
    (sym (ap within (call_made d e.kind (mark_of e) b.class b.method b.of b.arguments
    c.as_slice-arguments.result.now _ most last (call_start o) b.is c.as_slice-arguments.ensures
    refl refl refl refl)))
    c.requires.rules in
    let k = c.in_ok-receiver-in-Call.ensures in let j = c.in_ok-args-in-Call.ensures in
    let m = c.args-in-Call.new.notes in
    let g = behind_needs_of d n.locals (length n.heads.items) o most h in
    let y = args_needs_of d n.locals (length n.heads.items) (call_start o) es last g in
    subst (ArePassable m.locals (length m.heads.items)) (sym c.in_ok-rest-in-Call.ensures)
    (j.rules last (k.rules last y))

pub call-returns-in_ok-pass_draft-in-Call : goal.call-returns-in_ok-pass_draft-in-Call
call-returns-in_ok-pass_draft-in-Call t c =
    let e = c.args.e.now in let d = declares c.args.table.now in
    let b = c.in-Call in let o = receiver b.of in
    let es = all_shown c.as_slice-arguments.result.now in
    let last = call_does d (d.method b.class b.method) o es in
    let f = seen_start c.call_start.result in
    let most = args d f es last in
    let h = ways_of c.args.heads.now in let w = seen c.args.way.now in
    let to = c.pass_draft.new in
    subst (λ (k : Rules). GoesOn h k w c.args.so.now c.args.notes.now to.so.found to.notes)
    (ap within (call_made d e.kind (mark_of e) b.class b.method b.of b.arguments
    c.as_slice-arguments.result.now _ most last f b.is c.as_slice-arguments.ensures refl
    c.call_start.ensures refl refl))
    (c.in_ok-receiver-in-Call.ensures.goes most to.so.found to.notes
    (c.in_ok-args-in-Call.ensures.goes last to.so.found to.notes
    (subst (λ (k : Rules). GoesOn h k w c.args-in-Call.new.so c.args-in-Call.new.notes to.so.found
    to.notes) c.in_ok-rest-in-Call.ensures c.in_ok-pass_draft-in-Call.ensures)))
