use Rattle.std.proofs.Common.{[], ◌∷◌, ◌++◌, sym, ap, ◌∙◌}
use Rattle.par_single.specs.Descriptors.{kind_of, kinds_at}
use Rattle.par_single.proofs.Following.{follow, ends}
use Rattle.par_method_area.proofs.Fitting.{joined_fits, joined-before, joined-last}
use Rattle.par_method_area.proofs.signatures.fits.Goals as goal

pub loop-said-smaller : goal.loop-said-smaller
loop-said-smaller c =
    (follow c.loop-said.rest.now
    (kind_of c.in-Some.said) c.in-Some.behind.now c.in-Some.ensures.found).shorter

pub loop-said-preserved : goal.loop-said-preserved
loop-said-preserved c =
    let numbers = c.args.numbers.now in
    let fits = c.loop-said.fits.items in
    let kind = kind_of c.in-Some.said in
    let behind = kinds_at c.in-Some.behind.now in
    let next = follow c.loop-said.rest.now kind c.in-Some.behind.now c.in-Some.ensures.found in
    ap (λ ys. joined_fits numbers ys behind)
    (c.in_ok-push.ensures.items ∙ ap (λ f. fits ++ f ∷ []) c.fit.ensures)
    ∙ sym (joined-before numbers fits kind behind) ∙ ap (joined_fits numbers fits) (sym next.kinds)
    ∙ c.loop-said.invariant

pub returns : goal.returns
returns c =
    let numbers = c.args.numbers.now in
    let fits = c.loop-said.fits.items in
    joined-last numbers fits c.loop-said.rest.now (kinds_at c.args.text.now)
    (ap (joined_fits numbers fits) (sym (ends c.loop-said.rest.now c.in_default.ensures.found))
    ∙ c.loop-said.invariant)
