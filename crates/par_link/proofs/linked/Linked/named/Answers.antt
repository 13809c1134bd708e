use Rattle.std.proofs.Common.{◌≡◌, ap, ◌∙◌}
use Rattle.par_link.proofs.Kept.{kept, kept-none}
use Rattle.par_link.specs.Linked.{named_at}
use Rattle.par_link.proofs.linked.Linked.named.Goals as goal

pub returns-in-Some : goal.returns-in-Some
returns-in-Some c =
    let view : c.self.inside.files ≡ c.args.self.now = cc (c.self.view_is) in
    c.name_at.ensures
    ∙ kept c.self.inside.files c.self.inside.names c.args.class c.args.index c.in-Some.names.now
    c.self.invariant.named c.in-Some.ensures.item
    ∙ ap (λ files. named_at files c.args.class c.args.index) view

pub returns-in-None : goal.returns-in-None
returns-in-None c =
    let view : c.self.inside.files ≡ c.args.self.now = cc (c.self.view_is) in
    kept-none c.self.inside.files c.self.inside.names c.args.class c.args.index
    c.self.invariant.named c.in-None.ensures.item
    ∙ ap (λ files. named_at files c.args.class c.args.index) view
