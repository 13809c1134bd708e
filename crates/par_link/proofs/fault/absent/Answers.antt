use Rattle.std.proofs.Common.{◌≡◌, suc, ◌+◌, ◌<◌, ◌&&◌, true, Some, length, get_or, sym, ap, subst}
use Rattle.std.proofs.Common.{◌∙◌, arith}
use Rattle.std.specs.Option.{option_map}
use Rattle.par_index.proofs.Places.{position-found}
use Rattle.par_link.proofs.Made.{made-at}
use Rattle.par_references.specs.declared.entry.Named.TheVariants.{Class}
use Rattle.par_references.specs.Named.{named_by}
use Rattle.par_link.specs.Rules.{is_nothing, is_absent}
use Rattle.par_link.proofs.fault.absent.Goals as goal

-- the constant is the first that names nothing
pub returns-then-is_nothing : goal.returns-then-is_nothing
returns-then-is_nothing c =
    let files = c.args.tables.now.files.now in
    let entries = c.args.file.now.pool.entries in
    let i = c.loop-place.place in
    let x = c.constant-item.result in
    let within : i < length entries =
    subst (λ ys. i < length ys) c.as_slice-constant-items.ensures c.loop-place-test.true in
    let is : x ≡ get_or entries i x =
    c.constant-item.is ∙ ap (λ ys. get_or ys i x) c.as_slice-constant-items.ensures in
    let named =
    made-at (named_by files entries) entries c.args.names.now i x (Class 0) c.requires within is in
    let passes : is_absent c.args.sort files entries x ≡ true =
    ap (λ b. b && is_nothing (named_by files entries x)) (sym c.is_of.ensures ∙ c.if-is_of.true)
    ∙ ap is_nothing (sym named) ∙ sym c.is_nothing.ensures ∙ c.if-is_nothing.true in
    let next : i + 1 ≡ suc i = omega arith in
    ap Some next
    ∙ ap (option_map suc)
    (sym (position-found (is_absent c.args.sort files entries) entries i x within is
    c.loop-place.invariant passes))
