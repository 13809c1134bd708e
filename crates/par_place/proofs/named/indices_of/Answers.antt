use Rattle.std.proofs.Common.{sym, subst}
use Rattle.std.proofs.lemmas.List.Elements.{All-get_or}
use Rattle.par_code_form.specs.Placeable.{FitsItem}
use Rattle.par_place.proofs.Indices.{named_within, named_more, room_left}
use Rattle.par_place.proofs.named.indices_of.Goals as goal

pub loop-item-preserved : goal.loop-item-preserved
loop-item-preserved c =
    rw c.in_ok-push.ensures.items
    (named_more c.args.items.now c.loop-item.item-index c.item-item.result c.in_ok-index.index
    c.args.pool.now c.loop-item.pool c.index_of.new.pool c.loop-item.indices.items
    c.loop-item-test.true (sym c.item-item.is) c.loop-item.invariant c.in_ok-index.ensures.added
    c.in_ok-index.ensures.named)

pub returns-in_err-index-clause-added : goal.returns-in_err-index-clause-added
returns-in_err-index-clause-added c =
    named_within c.args.items.now c.loop-item.item-index c.item-item.result c.args.pool.now
    c.loop-item.pool c.index_of.new.pool c.loop-item.indices.items c.loop-item-test.true
    (sym c.item-item.is) c.loop-item.invariant c.in_err-index.ensures.added

pub returns-in_err-push-clause-added : goal.returns-in_err-push-clause-added
returns-in_err-push-clause-added c =
    named_within c.args.items.now c.loop-item.item-index c.item-item.result c.args.pool.now
    c.loop-item.pool c.index_of.new.pool c.loop-item.indices.items c.loop-item-test.true
    (sym c.item-item.is) c.loop-item.invariant c.in_ok-index.ensures.added

pub index_of-requires-clause-fits : goal.index_of-requires-clause-fits
index_of-requires-clause-fits c =
    subst FitsItem (sym c.item-item.is)
    (All-get_or FitsItem c.args.items.now c.loop-item.item-index c.item-item.result
    c.loop-item-test.true c.requires.fits)

pub index_of-requires-clause-room : goal.index_of-requires-clause-room
index_of-requires-clause-room c =
    room_left c.args.items.now c.loop-item.item-index c.item-item.result c.args.pool.now
    c.loop-item.pool c.loop-item.indices.items c.loop-item-test.true (sym c.item-item.is)
    c.requires.room c.loop-item.invariant
