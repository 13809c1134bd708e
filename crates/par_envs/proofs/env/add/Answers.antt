use Rattle.std.proofs.Common.{◌≡◌, ◌<◌, refl, sym, ap, ◌∙◌, subst, arith, length, get_or}
use Rattle.std.proofs.lemmas.List.{get_or_default}
use Rattle.par_bits.specs.Sets.{has, adding}
use Rattle.par_envs.specs.Told.{told, IsFree, StandsAt}
use Rattle.par_envs.proofs.Told.{stands_within, set_here, set_other, set_free}
use Rattle.par_envs.proofs.Told.{more_here, more_other, more_free}
use Rattle.par_envs.proofs.env.add.Goals as goal

pub index-requires : goal.index-requires
index-requires c =
    let n = stands_within c.deref.result.now c.in-Some.place c.args.policy c.in-Some.ensures in
    omega (arith, n, ap length c.deref.ensures.value)

pub index_mut-requires : goal.index_mut-requires
index_mut-requires c =
    let n = stands_within c.deref.result.now c.in-Some.place c.args.policy c.in-Some.ensures in
    omega (arith, n, ap length c.deref.ensures.value)

pub returns-in-Some-clause-here : goal.returns-in-Some-clause-here
returns-in-Some-clause-here c =
    let hs = c.args.held.now.items in let k = c.in-Some.place in let d = c.index_mut.result.now in
    let s = subst (λ l. StandsAt l k c.args.policy) c.deref.ensures.value c.in-Some.ensures in
    let n = stands_within hs k c.args.policy s in
    set_here c.args.local c.args.policy _ hs k d s c.requires.free
    (ap (λ h. h.policy) c.index_mut.ensures.value)
    (c.with.ensures ∙ ap (λ h. adding (has h.locals) c.args.local)
    (c.index.ensures ∙ get_or_default hs k _ d n))

pub returns-in-Some-clause-others : goal.returns-in-Some-clause-others
returns-in-Some-clause-others c = λ j apart.
    let hs = c.args.held.now.items in let k = c.in-Some.place in let d = c.index_mut.result.now in
    let s = subst (λ l. StandsAt l k c.args.policy) c.deref.ensures.value c.in-Some.ensures in
    let n = stands_within hs k c.args.policy s in
    set_other c.args.local c.args.policy _ hs k d j n apart
    (ap (λ h. h.policy) c.index_mut.ensures.value)
    (c.with.ensures ∙ ap (λ h. adding (has h.locals) c.args.local)
    (c.index.ensures ∙ get_or_default hs k _ d n))

pub returns-in-Some-clause-free : goal.returns-in-Some-clause-free
returns-in-Some-clause-free c = λ j apart.
    let hs = c.args.held.now.items in let k = c.in-Some.place in let d = c.index_mut.result.now in
    let s = subst (λ l. StandsAt l k c.args.policy) c.deref.ensures.value c.in-Some.ensures in
    let n = stands_within hs k c.args.policy s in
    set_free c.args.local c.args.policy _ hs k d j n apart
    (c.with.ensures ∙ ap (λ h. adding (has h.locals) c.args.local)
    (c.index.ensures ∙ get_or_default hs k _ d n))

pub returns-in_ok-push-in-None-clause-here : goal.returns-in_ok-push-in-None-clause-here
returns-in_ok-push-in-None-clause-here c =
    ap (λ l. told l c.args.local) c.in_ok-push-in-None.ensures.items
    ∙ more_here c.args.local c.args.policy _ c.args.held.now.items c.requires.free refl
    (c.with-locals.ensures ∙ ap (λ s. adding s c.args.local) c.empty.ensures)

pub returns-in_ok-push-in-None-clause-others : goal.returns-in_ok-push-in-None-clause-others
returns-in_ok-push-in-None-clause-others c = λ j apart.
    ap (λ l. told l j) c.in_ok-push-in-None.ensures.items
    ∙ more_other c.args.local c.args.policy _ c.args.held.now.items j apart
    (c.with-locals.ensures ∙ ap (λ s. adding s c.args.local) c.empty.ensures)

pub returns-in_ok-push-in-None-clause-free : goal.returns-in_ok-push-in-None-clause-free
returns-in_ok-push-in-None-clause-free c = λ j apart f.
    subst (λ l. IsFree l j) (sym c.in_ok-push-in-None.ensures.items)
    (more_free c.args.local c.args.policy _ c.args.held.now.items j apart
    (c.with-locals.ensures ∙ ap (λ s. adding s c.args.local) c.empty.ensures) f)
