-- Each rule takes the code one step on, and what it needs stays true.
use Rattle.std.proofs.Common.{Some, [], length, refl, sym, ap, ◌∙◌, subst, rules}
use Rattle.std.proofs.lemmas.Result.{IfOk-weaker}
use Rattle.par_nodes.specs.declared.rule.Rules.TheViews.{the_lemmas}
use Rattle.par_program_laws.specs.Kinds.{Normal, normal, absorbed}
use Rattle.par_program_laws.specs.Lattice.{numbers}
use Rattle.par_program_laws.specs.Ranges.{IsFromInRange, IsWorthInRange}
use Rattle.par_program_laws.specs.Rules.{way, Done, Worths}
use Rattle.par_nodes.specs.Seen.{seen_kind, seen_origin, seen_worth, seen_absorber, seen_rules}
use Rattle.par_nodes.specs.Seen.{seen_node}
use Rattle.par_pass_laws.specs.par_except.Seen.{seen, HasLocals, MayHaveLocals}
use Rattle.par_ways.specs.Seen.{latest_first, ways_of, AreWide}
use Rattle.par_rounds.proofs.Trees.{is_done, is_part, is_test, is_heads, is_leaves, is_worths}
use Rattle.par_rounds.proofs.Trees.{is_ends, is_gives, is_joins}
use Rattle.par_rounds.proofs.Events.{took_none}
use Rattle.par_rounds.proofs.Needs.{part_needs, test_needs, heads_needs, leaves_needs, worths_needs}
use Rattle.par_rounds.proofs.Needs.{node_needs, ready_after, rules_after, so_after, so_still}
use Rattle.par_rounds.proofs.Needs.{so_first}
use Rattle.par_rounds.proofs.Arms.{done_goes, part_arm, test_arm, heads_arm, leaves_arm, worths_arm}
use Rattle.par_rounds.proofs.Arms.{took_part}
use Rattle.par_rounds.proofs.Arms.{node_goes, ends_arm, gives_arm, joins_arm}
use Rattle.par_rounds.proofs.pass.+pass.Goals as goal

pub pass-pass_rules-requires : goal.pass-pass_rules-requires
pass-pass_rules-requires t c = (
  search (rules, the_lemmas),
  (
    c.requires.ready,
    (
      so_first c.args.notes.now _ c.new-so.ensures.head c.new-so.ensures.parts
          c.new-so.ensures.exits,
      node_needs c.args.notes.now.locals (length c.args.notes.now.heads.items) c.args.node.now.point
          (seen_rules c.args.node.now.rules) c.requires.node,
    ),
  ),
)

pub pass-finish-requires-clause-way : goal.pass-finish-requires-clause-way
pass-finish-requires-clause-way t c =
    let n = c.args.notes.now in let p = c.in_ok-pass_rules.ensures [] n (took_none n) in
    subst (λ k. HasLocals k c.args.way.now) (sym p.noted.locals) c.requires.ready.way

pub pass-finish-requires-clause-exits : goal.pass-finish-requires-clause-exits
pass-finish-requires-clause-exits t c =
    let n = c.args.notes.now in let p = c.in_ok-pass_rules.ensures [] n (took_none n) in
    subst (λ k. AreWide k c.pass_rules.new.so.found.exits.items) (sym p.noted.locals) p.wide

pub pass-returns : goal.pass-returns
pass-returns t c =
    node_goes (ways_of c.args.heads.now) c.args.node.now.point (seen_rules c.args.node.now.rules)
    (seen c.args.way.now) c.new-so.result
    c.pass_rules.new.so.found c.in_ok-found.found
    c.args.notes.now c.pass_rules.new.notes c.finish.new.notes c.new-so.ensures.head
    c.new-so.ensures.parts c.new-so.ensures.value c.new-so.ensures.exits
    c.in_ok-pass_rules.ensures c.in_ok-found.ensures

pub pass_part-way_at-requires-clause-range : goal.pass_part-way_at-requires-clause-range
pass_part-way_at-requires-clause-range t c =
    subst (λ k. IsFromInRange k (seen_origin c.args.from.now)) (sym c.requires.ready.way)
    c.requires.range

pub pass_part-visit-requires : goal.pass_part-visit-requires
pass_part-visit-requires t c = (
  search (rules, the_lemmas),
  (
    subst (λ k. MayHaveLocals k c.in_ok-entry.entry) c.requires.ready.way
        c.in_ok-entry.ensures.locals,
    ((c.requires.ready.heads, c.requires.ready.noted), c.requires.node),
  ),
)

pub pass_part-returns-clause-took : goal.pass_part-returns-clause-took
pass_part-returns-clause-took t c =
    let w = seen c.args.way.now in let f = seen_origin c.args.from.now in
    let u = c.in_ok-take.ensures in let q = c.in_ok-found.ensures in
    took_part (ways_of c.args.heads.now) (absorbed (seen_absorber c.args.absorber.now))
    (way numbers (Some w) (latest_first c.args.so.now.parts.items []) f) (seen_node c.args.part.now)
    c.args.so.now c.take.new.so c.in_ok-entry.entry c.in_ok-found.found c.args.notes.now
    c.visit.new.notes
    (c.in_ok-entry.ensures.way
    ∙ ap (λ z. way numbers (Some w) (latest_first z []) f) c.deref.ensures.value)
    q u.parts u.value u.exits
    (u.locals c.args.notes.now.locals c.requires.so_far.exits q.wide)

pub pass_test-visit-requires : goal.pass_test-visit-requires
pass_test-visit-requires t c = (
  search (rules, the_lemmas),
  (
    c.in_ok-entry.ensures.locals c.args.notes.now.locals c.requires.heads.0,
    (c.requires.heads, c.requires.node),
  ),
)

pub pass_test-returns-clause-took : goal.pass_test-returns-clause-took
pass_test-returns-clause-took t c =
    let u = c.in_ok-take.ensures in let q = c.in_ok-found.ensures in
    let h = ways_of c.args.heads.now in
    took_part h normal (h c.args.part.now.point) (seen_node c.args.part.now) c.args.so.now
    (record {
      head = Some c.args.part.now.point;
      parts = c.take.new.so.parts;
      found = c.take.new.so.found;
    }) c.in_ok-entry.entry c.in_ok-found.found c.args.notes.now c.visit.new.notes
    c.in_ok-entry.ensures.way q u.parts u.value u.exits
    (u.locals c.args.notes.now.locals c.requires.so_far.exits q.wide)

pub pass_rules-pass_part-requires : goal.pass_rules-pass_part-requires
pass_rules-pass_part-requires t c =
    let n = c.args.notes.now in let p = c.in-Part in
    let q =
    part_needs n.locals (length n.heads.items) (seen_rules c.args.rules.now) (seen_origin p.from)
    (seen_absorber p.absorber) (seen_node c.deref.result.now) (seen_rules p.more.value)
    (is_part c.args.rules.now p.from p.absorber p.part p.more c.deref.result.now p.more.value p.is
    c.deref.ensures refl) c.requires.rules in (
      search (rules, the_lemmas),
      (c.requires.ready, (c.requires.so_far, (q.0, q.1))),
    )

pub pass_rules-pass_rules-requires : goal.pass_rules-pass_rules-requires
pass_rules-pass_rules-requires t c =
    let n = c.args.notes.now in let m = c.pass_part.new.notes in let p = c.in-Part in
    let u = c.in_ok-pass_part-in-Part.ensures in let f = u.took.passed in
    let s = c.requires.so_far in (
      search (rules, the_lemmas),
      (
        ready_after n m _ f.noted c.args.way.now c.args.heads.now c.requires.ready,
        (
          so_after n m _ f.noted c.args.so.now c.pass_part.new.so c.args.so.now.head _ s s.head
              f.wide u.head u.took.parts u.took.wide,
          rules_after n m _ f.noted (seen_rules c.deref-in-Part.result.now)
              (part_needs n.locals (length n.heads.items) (seen_rules c.args.rules.now)
              (seen_origin p.from) (seen_absorber p.absorber) (seen_node p.part.value)
              (seen_rules c.deref-in-Part.result.now)
              (is_part c.args.rules.now p.from p.absorber p.part p.more p.part.value
              c.deref-in-Part.result.now p.is refl c.deref-in-Part.ensures) c.requires.rules).2,
        ),
      ),
    )

pub pass_rules-pass_test-requires : goal.pass_rules-pass_test-requires
pass_rules-pass_test-requires t c =
    let n = c.args.notes.now in let p = c.in-Test in
    let q =
    test_needs n.locals (length n.heads.items) (seen_rules c.args.rules.now)
    (seen_node c.deref-in-Test.result.now) (seen_rules p.more.value)
    (is_test c.args.rules.now p.part p.more c.deref-in-Test.result.now p.more.value p.is
    c.deref-in-Test.ensures refl) c.requires.rules in (
      search (rules, the_lemmas),
      ((c.requires.ready.heads, c.requires.ready.noted), (c.requires.so_far, q.1)),
    )

pub pass_rules-pass_rules-requires-in-Test : goal.pass_rules-pass_rules-requires-in-Test
pass_rules-pass_rules-requires-in-Test t c =
    let n = c.args.notes.now in let m = c.pass_test.new.notes in let p = c.in-Test in
    let u = c.in_ok-pass_test-in-Test.ensures in let f = u.took.passed in
    let s = c.requires.so_far in
    let q =
    test_needs n.locals (length n.heads.items) (seen_rules c.args.rules.now)
    (seen_node c.deref-in-Test.result.now) (seen_rules c.deref-in-Test-2.result.now)
    (is_test c.args.rules.now p.part p.more c.deref-in-Test.result.now
    c.deref-in-Test-2.result.now p.is c.deref-in-Test.ensures c.deref-in-Test-2.ensures)
    c.requires.rules in (
      search (rules, the_lemmas),
      (
        ready_after n m _ f.noted c.args.way.now c.args.heads.now c.requires.ready,
        (
          so_after n m _ f.noted c.args.so.now c.pass_test.new.so
              (Some c.deref-in-Test.result.now.point) _ s q.0 f.wide u.head u.took.parts
              u.took.wide,
          rules_after n m _ f.noted (seen_rules c.deref-in-Test-2.result.now) q.2,
        ),
      ),
    )

pub pass_rules-flow-requires-clause-range : goal.pass_rules-flow-requires-clause-range
pass_rules-flow-requires-clause-range t c =
    let n = c.args.notes.now in
    (heads_needs n.locals (length n.heads.items) (seen_rules c.args.rules.now)
    (seen_origin c.in-Heads.from) (seen_rules c.in-Heads.more.value)
    (is_heads c.args.rules.now c.in-Heads.from c.in-Heads.more c.in-Heads.more.value c.in-Heads.is
    refl) c.requires.rules).0

pub pass_rules-pass_rules-requires-in-Heads : goal.pass_rules-pass_rules-requires-in-Heads
pass_rules-pass_rules-requires-in-Heads t c =
    let n = c.args.notes.now in let m = c.flow.new.notes in let f = c.in_ok-flow-in-Heads.ensures in
    let s = c.requires.so_far in (
      search (rules, the_lemmas),
      (
        ready_after n m _ f c.args.way.now c.args.heads.now c.requires.ready,
        (
          so_still n m _ f c.args.so.now c.args.so.now s refl refl s.exits,
          rules_after n m _ f (seen_rules c.deref-in-Heads.result.now)
              (heads_needs n.locals (length n.heads.items) (seen_rules c.args.rules.now)
              (seen_origin c.in-Heads.from) (seen_rules c.deref-in-Heads.result.now)
              (is_heads c.args.rules.now c.in-Heads.from c.in-Heads.more c.deref-in-Heads.result.now
              c.in-Heads.is c.deref-in-Heads.ensures) c.requires.rules).1,
        ),
      ),
    )

pub pass_rules-leave-requires-clause-range : goal.pass_rules-leave-requires-clause-range
pass_rules-leave-requires-clause-range t c =
    let n = c.args.notes.now in
    subst (λ k. IsFromInRange k (seen_origin c.in-Leaves.from)) (sym c.requires.ready.way)
    (leaves_needs n.locals (length n.heads.items) (seen_rules c.args.rules.now)
    (seen_origin c.in-Leaves.from) (seen_kind c.in-Leaves.kind) (seen_rules c.in-Leaves.more.value)
    (is_leaves c.args.rules.now c.in-Leaves.from c.in-Leaves.kind c.in-Leaves.more
    c.in-Leaves.more.value c.in-Leaves.is refl) c.requires.rules).0

pub pass_rules-pass_rules-requires-in-Leaves : goal.pass_rules-pass_rules-requires-in-Leaves
pass_rules-pass_rules-requires-in-Leaves t c =
    let n = c.args.notes.now in let s = c.requires.so_far in (
      search (rules, the_lemmas),
      (
        c.requires.ready,
        (
          so_still n n [] (took_none n) c.args.so.now c.leave.new.so s
              c.in_ok-leave-in-Leaves.ensures.head c.in_ok-leave-in-Leaves.ensures.parts
              (subst (λ k. AreWide k c.leave.new.so.found.exits.items) c.requires.ready.way
              c.in_ok-leave-in-Leaves.ensures.locals),
          (leaves_needs n.locals (length n.heads.items) (seen_rules c.args.rules.now)
              (seen_origin c.in-Leaves.from) (seen_kind c.in-Leaves.kind)
              (seen_rules c.deref-in-Leaves.result.now)
              (is_leaves c.args.rules.now c.in-Leaves.from c.in-Leaves.kind c.in-Leaves.more
              c.deref-in-Leaves.result.now c.in-Leaves.is c.deref-in-Leaves.ensures)
              c.requires.rules).1,
        ),
      ),
    )

pub pass_rules-add_worth-requires : goal.pass_rules-add_worth-requires
pass_rules-add_worth-requires t c =
    let n = c.args.notes.now in
    subst (λ k. IsWorthInRange k (seen_worth c.in-Worths.worth)) (sym c.requires.ready.way)
    (worths_needs n.locals (length n.heads.items) (seen_rules c.args.rules.now)
    (seen_worth c.in-Worths.worth) (seen_rules c.in-Worths.more.value)
    (is_worths c.args.rules.now c.in-Worths.worth c.in-Worths.more c.in-Worths.more.value
    c.in-Worths.is refl) c.requires.rules).0

pub pass_rules-pass_rules-requires-in-Worths : goal.pass_rules-pass_rules-requires-in-Worths
pass_rules-pass_rules-requires-in-Worths t c =
    let n = c.args.notes.now in let s = c.requires.so_far in let u = c.add_worth.ensures in (
      search (rules, the_lemmas),
      (
        c.requires.ready,
        (
          so_still n n [] (took_none n) c.args.so.now c.add_worth.new.so s u.head u.parts
              (subst (λ xs. AreWide n.locals xs.items) (sym u.exits) s.exits),
          (worths_needs n.locals (length n.heads.items) (seen_rules c.args.rules.now)
              (seen_worth c.in-Worths.worth) (seen_rules c.deref-in-Worths.result.now)
              (is_worths c.args.rules.now c.in-Worths.worth c.in-Worths.more
              c.deref-in-Worths.result.now c.in-Worths.is c.deref-in-Worths.ensures)
              c.requires.rules).1,
        ),
      ),
    )

pub pass_rules-returns-in-Done : goal.pass_rules-returns-in-Done
pass_rules-returns-in-Done t c =
    done_goes (ways_of c.args.heads.now) (seen_rules c.args.rules.now)
    (seen c.args.way.now) c.args.so.now c.args.notes.now (is_done c.args.rules.now c.in-Done.is)
    (λ m e. subst (λ k. AreWide k c.args.so.now.found.exits.items) e c.requires.so_far.exits)

pub pass_rules-returns-in_ok-pass_rules-in-Part : goal.pass_rules-returns-in_ok-pass_rules-in-Part
pass_rules-returns-in_ok-pass_rules-in-Part t c =
    let u = c.in_ok-pass_part-in-Part.ensures in let k = u.took in let p = c.in-Part in
    part_arm (ways_of c.args.heads.now)
    (seen c.args.way.now) c.args.so.now c.pass_part.new.so c.pass_rules.new.so.found
    (seen_rules c.args.rules.now) (seen_origin p.from) (seen_absorber p.absorber)
    (seen_node c.deref.result.now) (seen_rules c.deref-in-Part.result.now) k.entry k.found
    c.args.notes.now c.pass_part.new.notes c.pass_rules.new.notes
    (is_part c.args.rules.now p.from p.absorber p.part p.more c.deref.result.now
    c.deref-in-Part.result.now p.is c.deref.ensures c.deref-in-Part.ensures)
    k.enters k.passed u.head k.parts k.value k.exits c.in_ok-pass_rules-in-Part.ensures

pub pass_rules-returns-in_ok-pass_rules-in-Test : goal.pass_rules-returns-in_ok-pass_rules-in-Test
pass_rules-returns-in_ok-pass_rules-in-Test t c =
    let u = c.in_ok-pass_test-in-Test.ensures in let k = u.took in let p = c.in-Test in
    test_arm (ways_of c.args.heads.now) (seen c.args.way.now) c.args.so.now c.pass_test.new.so
    c.pass_rules-in-Test.new.so.found (seen_rules c.args.rules.now)
    (seen_node c.deref-in-Test.result.now) (seen_rules c.deref-in-Test-2.result.now) k.entry
    k.found c.args.notes.now c.pass_test.new.notes c.pass_rules-in-Test.new.notes
    (is_test c.args.rules.now p.part p.more c.deref-in-Test.result.now
    c.deref-in-Test-2.result.now p.is c.deref-in-Test.ensures c.deref-in-Test-2.ensures)
    k.enters k.passed u.head k.parts k.value k.exits c.in_ok-pass_rules-in-Test.ensures

pub pass_rules-returns-in_ok-flow-in-Heads : goal.pass_rules-returns-in_ok-flow-in-Heads
pass_rules-returns-in_ok-flow-in-Heads t c =
    IfOk-weaker c.pass_rules-in-Heads.result _ _
    (λ _. heads_arm (ways_of c.args.heads.now)
    (seen c.args.way.now) c.args.so.now c.pass_rules-in-Heads.new.so.found
    (seen_rules c.args.rules.now) (seen_origin c.in-Heads.from)
    (seen_rules c.deref-in-Heads.result.now)
    c.args.notes.now c.flow.new.notes c.pass_rules-in-Heads.new.notes
    (is_heads c.args.rules.now c.in-Heads.from c.in-Heads.more c.deref-in-Heads.result.now
    c.in-Heads.is c.deref-in-Heads.ensures)
    c.in_ok-flow-in-Heads.ensures)
    c.pass_rules-in-Heads.ensures

pub pass_rules-returns-in_ok-leave-in-Leaves : goal.pass_rules-returns-in_ok-leave-in-Leaves
pass_rules-returns-in_ok-leave-in-Leaves t c =
    let u = c.in_ok-leave-in-Leaves.ensures in
    IfOk-weaker c.pass_rules-in-Leaves.result _ _
    (λ _. leaves_arm (ways_of c.args.heads.now)
    (seen c.args.way.now) c.args.so.now c.leave.new.so c.pass_rules-in-Leaves.new.so.found
    (seen_rules c.args.rules.now) (seen_origin c.in-Leaves.from) (seen_kind c.in-Leaves.kind)
    (seen_rules c.deref-in-Leaves.result.now)
    c.args.notes.now c.pass_rules-in-Leaves.new.notes
    (is_leaves c.args.rules.now c.in-Leaves.from c.in-Leaves.kind c.in-Leaves.more
    c.deref-in-Leaves.result.now c.in-Leaves.is c.deref-in-Leaves.ensures)
    u.head u.parts u.value u.exits)
    c.pass_rules-in-Leaves.ensures

pub pass_rules-returns-in-Worths : goal.pass_rules-returns-in-Worths
pass_rules-returns-in-Worths t c =
    let u = c.add_worth.ensures in
    IfOk-weaker c.pass_rules-in-Worths.result _ _
    (λ _. worths_arm (ways_of c.args.heads.now)
    (seen c.args.way.now) c.args.so.now c.add_worth.new.so c.pass_rules-in-Worths.new.so.found
    (seen_rules c.args.rules.now) (seen_worth c.in-Worths.worth)
    (seen_rules c.deref-in-Worths.result.now)
    c.args.notes.now c.pass_rules-in-Worths.new.notes
    (is_worths c.args.rules.now c.in-Worths.worth c.in-Worths.more c.deref-in-Worths.result.now
    c.in-Worths.is c.deref-in-Worths.ensures)
    u.head u.parts u.value u.exits)
    c.pass_rules-in-Worths.ensures

pub pass_rules-leave-requires-in-Ends-clause-range
    : goal.pass_rules-leave-requires-in-Ends-clause-range
pass_rules-leave-requires-in-Ends-clause-range t c =
    let n = c.args.notes.now in
    subst (λ k. IsFromInRange k (seen_origin c.in-Ends.from)) (sym c.requires.ready.way)
    (leaves_needs n.locals (length n.heads.items) (seen_rules c.args.rules.now)
    (seen_origin c.in-Ends.from) (seen_kind c.in-Ends.kind) Done
    (is_ends c.args.rules.now c.in-Ends.from c.in-Ends.kind c.in-Ends.is) c.requires.rules).0

pub pass_rules-leave-requires-in-Gives-clause-range
    : goal.pass_rules-leave-requires-in-Gives-clause-range
pass_rules-leave-requires-in-Gives-clause-range t c =
    let n = c.args.notes.now in
    subst (λ k. IsFromInRange k (seen_origin c.in-Gives.from)) (sym c.requires.ready.way)
    (leaves_needs n.locals (length n.heads.items) (seen_rules c.args.rules.now)
    (seen_origin c.in-Gives.from) Normal (Worths (seen_worth c.in-Gives.worth) Done)
    (is_gives c.args.rules.now c.in-Gives.from c.in-Gives.worth c.in-Gives.is) c.requires.rules).0

pub pass_rules-add_worth-requires-in-Gives : goal.pass_rules-add_worth-requires-in-Gives
pass_rules-add_worth-requires-in-Gives t c =
    let n = c.args.notes.now in
    let more = Worths (seen_worth c.in-Gives.worth) Done in
    subst (λ k. IsWorthInRange k (seen_worth c.in-Gives.worth)) (sym c.requires.ready.way)
    (worths_needs n.locals (length n.heads.items) more (seen_worth c.in-Gives.worth) Done refl
    (leaves_needs n.locals (length n.heads.items) (seen_rules c.args.rules.now)
    (seen_origin c.in-Gives.from) Normal more
    (is_gives c.args.rules.now c.in-Gives.from c.in-Gives.worth c.in-Gives.is)
    c.requires.rules).1).0

pub pass_rules-returns-in_ok-leave-in-Ends : goal.pass_rules-returns-in_ok-leave-in-Ends
pass_rules-returns-in_ok-leave-in-Ends t c =
    let u = c.in_ok-leave-in-Ends.ensures in let to = c.leave-in-Ends.new.so in
    ends_arm (ways_of c.args.heads.now) (seen c.args.way.now) c.args.so.now to
    (seen_rules c.args.rules.now) (seen_origin c.in-Ends.from) (seen_kind c.in-Ends.kind)
    c.args.notes.now (is_ends c.args.rules.now c.in-Ends.from c.in-Ends.kind c.in-Ends.is)
    u.head u.parts u.value u.exits
    (subst (λ k. AreWide k to.found.exits.items) c.requires.ready.way u.locals)

pub pass_rules-returns-in_ok-leave-in-Gives : goal.pass_rules-returns-in_ok-leave-in-Gives
pass_rules-returns-in_ok-leave-in-Gives t c =
    let u = c.in_ok-leave-in-Gives.ensures in let left = c.leave-in-Gives.new.so in
    let v = c.add_worth-in-Gives.ensures in
    gives_arm (ways_of c.args.heads.now) (seen c.args.way.now) c.args.so.now left
    c.add_worth-in-Gives.new.so
    (seen_rules c.args.rules.now) (seen_origin c.in-Gives.from) Normal
    (seen_worth c.in-Gives.worth) c.args.notes.now
    (is_gives c.args.rules.now c.in-Gives.from c.in-Gives.worth c.in-Gives.is)
    u.head u.parts u.value u.exits
    (subst (λ k. AreWide k left.found.exits.items) c.requires.ready.way u.locals)
    v.head v.parts v.value v.exits

pub pass_rules-leave-requires-in-Joins-clause-range
    : goal.pass_rules-leave-requires-in-Joins-clause-range
pass_rules-leave-requires-in-Joins-clause-range t c =
    let n = c.args.notes.now in let j = c.in-Joins in
    subst (λ k. IsFromInRange k (seen_origin j.from)) (sym c.requires.ready.way)
    (leaves_needs n.locals (length n.heads.items) (seen_rules c.args.rules.now)
    (seen_origin j.from) Normal (Worths (seen_worth j.one) (Worths (seen_worth j.other) Done))
    (is_joins c.args.rules.now j.from j.one j.other j.is) c.requires.rules).0

pub pass_rules-add_worth-requires-in-Joins : goal.pass_rules-add_worth-requires-in-Joins
pass_rules-add_worth-requires-in-Joins t c =
    let n = c.args.notes.now in let j = c.in-Joins in
    let last = Worths (seen_worth j.other) Done in
    let more = Worths (seen_worth j.one) last in
    subst (λ k. IsWorthInRange k (seen_worth j.one)) (sym c.requires.ready.way)
    (worths_needs n.locals (length n.heads.items) more (seen_worth j.one) last refl
    (leaves_needs n.locals (length n.heads.items) (seen_rules c.args.rules.now)
    (seen_origin j.from) Normal more (is_joins c.args.rules.now j.from j.one j.other j.is)
    c.requires.rules).1).0

pub pass_rules-add_worth-requires-in-Joins-2 : goal.pass_rules-add_worth-requires-in-Joins-2
pass_rules-add_worth-requires-in-Joins-2 t c =
    let n = c.args.notes.now in let j = c.in-Joins in
    let last = Worths (seen_worth j.other) Done in
    let more = Worths (seen_worth j.one) last in
    subst (λ k. IsWorthInRange k (seen_worth j.other)) (sym c.requires.ready.way)
    (worths_needs n.locals (length n.heads.items) last (seen_worth j.other) Done refl
    (worths_needs n.locals (length n.heads.items) more (seen_worth j.one) last refl
    (leaves_needs n.locals (length n.heads.items) (seen_rules c.args.rules.now)
    (seen_origin j.from) Normal more (is_joins c.args.rules.now j.from j.one j.other j.is)
    c.requires.rules).1).1).0

pub pass_rules-returns-in_ok-leave-in-Joins : goal.pass_rules-returns-in_ok-leave-in-Joins
pass_rules-returns-in_ok-leave-in-Joins t c =
    let u = c.in_ok-leave-in-Joins.ensures in let left = c.leave-in-Joins.new.so in
    let j = c.in-Joins in let v = c.add_worth-in-Joins.ensures in
    let x = c.add_worth-in-Joins-2.ensures in
    joins_arm (ways_of c.args.heads.now) (seen c.args.way.now) c.args.so.now left
    c.add_worth-in-Joins.new.so c.add_worth-in-Joins-2.new.so
    (seen_rules c.args.rules.now) (seen_origin j.from) Normal (seen_worth j.one)
    (seen_worth j.other) c.args.notes.now
    (is_joins c.args.rules.now j.from j.one j.other j.is)
    u.head u.parts u.value u.exits
    (subst (λ k. AreWide k left.found.exits.items) c.requires.ready.way u.locals)
    v.head v.parts v.value v.exits x.head x.parts x.value x.exits
