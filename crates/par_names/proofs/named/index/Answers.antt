use Rattle.std.proofs.Common.{◌≡◌, ◌∙◌, sym, ℕ, List, map}
use Rattle.std.specs.Borrow.{Bor}
use Rattle.std.proofs.lemmas.Result.{IfOk-weaker}
use Rattle.par_index.specs.Texts.{texts}
use Rattle.par_tree.specs.declared.ident.Ident.{Ident}
use Rattle.par_names.proofs.Gone.{one_found, all_found}
use Rattle.par_names.proofs.Lookups.{map-map}
use Rattle.par_names.proofs.named.index.Goals as goal

pub loop-id-preserved : goal.loop-id-preserved
loop-id-preserved c =
    one_found (λ (name : Bor (List ℕ)). name.now) (λ (id : Bor Ident). id.now.name) c.args.ids.now
    c.loop-id.id-index c.id-item.result c.loop-id.names.items c.push.new.self.items c.bytes.result
    c.loop-id-test.true c.id-item.is c.in_ok-push.ensures.items c.bytes.ensures.bytes
    c.loop-id.invariant

pub returns : goal.returns
returns c =
    let ids = c.args.ids.now in
    let all = all_found (λ (id : Bor Ident). id.now.name) ids c.loop-id.id-index
    (texts c.loop-id.names.items) c.loop-id-test.false c.loop-id.invariant in
    IfOk-weaker c.of.result (λ index. texts index.names.items ≡ texts c.loop-id.names.items)
    (λ index. texts index.names.items ≡ map (λ id. id.name) (map (λ id. id.now) ids))
    (λ index are. are ∙ all
    ∙ sym (map-map (λ (id : Ident). id.name) (λ (id : Bor Ident). id.now) ids)) c.of.ensures
