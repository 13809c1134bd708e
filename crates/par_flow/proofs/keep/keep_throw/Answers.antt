use Rattle.std.proofs.Common.{sym, ap, ◌∙◌, subst, ◌∷◌, [], ◌++◌, inl, inr, ⊎_elim}
use Rattle.par_program_laws.specs.Kinds.{Throw}
use Rattle.par_locks.specs.par_pass_laws.Exits.{at}
use Rattle.par_envs.specs.Numbered.{envs}
use Rattle.par_rounds.specs.par_ways.Seen.{seen_exit}
use Rattle.par_flow.specs.Kept.{thrown, AddsOnly, AreOnce, MayShow, Throws}
use Rattle.par_flow.proofs.Ways.{none_of, once_more, some_of, throws_same, throws_held, throws_more}
use Rattle.par_flow.proofs.Used.{throws_still, throws_last}
use Rattle.par_flow.proofs.keep.keep_throw.Goals as goal

pub returns-in_ok-push-clause-throws : goal.returns-in_ok-push-clause-throws
returns-in_ok-push-clause-throws c = λ xs h class.
    let es = envs c.args.numbered.now.entries.items in
    let gs = envs c.keep_way.new.numbered.entries.items in let x = seen_exit c.args.exit.now in
    let none = sym (ap (λ l. thrown l c.in-Some.class) c.as_slice.ensures) ∙ sym c.thrown.ensures
    ∙ none_of c.thrown.result c.is_none.result c.is_none.ensures c.if-is_none.true in
    subst (λ ts. MayShow gs (thrown ts class) (at (xs ++ x ∷ []) (Throw class)))
    (sym c.in_ok-push.ensures.ok)
    (throws_more es gs c.in_ok-way.ensures.more c.args.throws.now xs x h c.in-Some.class
    c.in-Some.ensures c.in_ok-way.way none c.in_ok-way.ensures.way class)

pub returns-else-is_none-clause-throws : goal.returns-else-is_none-clause-throws
returns-else-is_none-clause-throws c = λ xs h class.
    let es = envs c.args.numbered.now.entries.items in
    let some = some_of c.thrown.result c.is_none.result c.is_none.ensures c.if-is_none.false in
    throws_held es es (λ i e k. k) c.args.throws.now xs
    (seen_exit c.args.exit.now) h c.in-Some.class c.in-Some.ensures some.0
    (sym (ap (λ l. thrown l c.in-Some.class) c.as_slice.ensures) ∙ sym c.thrown.ensures ∙ some.1)
    class

pub returns-in_default-clause-throws : goal.returns-in_default-clause-throws
returns-in_default-clause-throws c = λ xs h class.
    let es = envs c.args.numbered.now.entries.items in
    throws_same es es (λ i e k. k) c.args.throws.now xs
    (seen_exit c.args.exit.now) h c.in_default.ensures class

pub returns-in_ok-push-clause-once : goal.returns-in_ok-push-clause-once
returns-in_ok-push-clause-once c = λ o.
    let none = sym (ap (λ l. thrown l c.in-Some.class) c.as_slice.ensures) ∙ sym c.thrown.ensures
    ∙ none_of c.thrown.result c.is_none.result c.is_none.ensures c.if-is_none.true in
    subst AreOnce (sym c.in_ok-push.ensures.ok)
    (once_more c.args.throws.now c.in-Some.class c.in_ok-way.way none o)

pub returns-in_ok-push-clause-kept : goal.returns-in_ok-push-clause-kept
returns-in_ok-push-clause-kept c = λ n h.
    subst (Throws n) (sym c.in_ok-push.ensures.ok)
    (throws_still c.args.throws.now (c.in-Some.class, c.in_ok-way.way) n h)

pub returns-in_ok-push-clause-adds : goal.returns-in_ok-push-clause-adds
returns-in_ok-push-clause-adds c =
    let none = sym (ap (λ l. thrown l c.in-Some.class) c.as_slice.ensures) ∙ sym c.thrown.ensures
    ∙ none_of c.thrown.result c.is_none.result c.is_none.ensures c.if-is_none.true in
    subst
    (λ ts. AddsOnly (envs c.args.numbered.now.entries.items)
    (envs c.keep_way.new.numbered.entries.items) (λ n. Throws n ts)) (sym c.in_ok-push.ensures.ok)
    (λ n l. ⊎_elim (λ before. inl before)
    (λ named. inr (throws_last c.args.throws.now c.in-Some.class c.in_ok-way.way n none named))
    (c.in_ok-way.ensures.adds n l))
