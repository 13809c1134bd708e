use Rattle.std.proofs.Common.{length, sym, ap, subst, ◌∙◌, arith}
use Rattle.std.specs.Prelude.{All}
use Rattle.std.proofs.lemmas.Slice.Zip.{AllZip-long}
use Rattle.par_code_form.specs.PoolNames.{Names, IsConstantOf, entry_count}
use Rattle.par_code_form.specs.Placeable.{HasTarget, FitsHandler}
use Rattle.par_place.specs.Offsets.{HasOffset, HasLabels}
use Rattle.par_place.proofs.Whole.{targets_within, all_labels_within, whole_added, drafted}
use Rattle.par_place.proofs.Whole.{placed_at, spelled_code, few_entries}
use Rattle.par_place.proofs.place.place_labels.Goals as goal

pub label_offsets-requires-clause-same : goal.label_offsets-requires-clause-same
label_offsets-requires-clause-same c =
    sym (AllZip-long (Names c.indices_of.new.pool) c.as_slice-items.result.now
    c.in_ok-indices.indices.items c.in_ok-indices.ensures.named)
    ∙ ap length (sym c.deref.ensures.value)

pub write-requires-clause-same : goal.write-requires-clause-same
write-requires-clause-same c =
    sym (AllZip-long (Names c.indices_of.new.pool) c.as_slice-items.result.now
    c.in_ok-indices.indices.items c.in_ok-indices.ensures.named)
    ∙ ap length (sym c.deref-2.ensures.value)

pub write-requires-clause-targets : goal.write-requires-clause-targets
write-requires-clause-targets c =
    subst (λ os. All (HasOffset os) c.as_slice-items.result.now) (sym c.deref-3.ensures.value)
    (targets_within c.as_slice-items.result.now c.deref.result.now c.in_ok-offsets.offsets.items
    c.in_ok-offsets.ensures.offsets c.as_slice-items.result.now
    (subst (λ xs. All (HasTarget xs) xs) (sym c.as_slice-items.ensures)
    c.requires.placeable.targets))

pub catches_of-requires-clause-labels : goal.catches_of-requires-clause-labels
catches_of-requires-clause-labels c =
    subst (λ os. All (HasLabels os) c.as_slice.result.now) (sym c.deref-4.ensures.value)
    (all_labels_within c.as_slice-items.result.now c.deref.result.now
    c.in_ok-offsets.offsets.items c.in_ok-offsets.ensures.offsets c.as_slice.result.now
    (subst (λ hs. All (FitsHandler c.as_slice-items.result.now) hs) (sym c.as_slice.ensures)
    (subst (λ xs. All (FitsHandler xs) c.args.code.now.handlers) (sym c.as_slice-items.ensures)
    c.requires.placeable.handlers)))

pub returns-in_err-catches-clause-added : goal.returns-in_err-catches-clause-added
returns-in_err-catches-clause-added c =
    whole_added c.args.pool.now c.indices_of.new.pool c.catches_of.new.pool c.args.code.now
    c.as_slice-items.result.now c.as_slice.result.now c.as_slice-items.ensures c.as_slice.ensures
    c.in_ok-indices.ensures.added c.in_err-catches.ensures.added

pub returns-clause-added : goal.returns-clause-added
returns-clause-added c =
    whole_added c.args.pool.now c.indices_of.new.pool c.catches_of.new.pool c.args.code.now
    c.as_slice-items.result.now c.as_slice.result.now c.as_slice-items.ensures c.as_slice.ensures
    c.in_ok-indices.ensures.added c.in_ok-catches.ensures.added

pub returns-clause-placed : goal.returns-clause-placed
returns-clause-placed c =
    placed_at c.args.code.now c.catches_of.new.pool c.in_ok-indices.indices.items
    c.in_ok-offsets.offsets.items c.in_ok-bytes.bytes.items c.in_ok-catches.catches
    c.attribute-attr.result
    c.requires.placeable
    (drafted c.args.code.now c.indices_of.new.pool c.catches_of.new.pool
    c.as_slice-items.result.now c.as_slice.result.now c.in_ok-indices.indices.items
    c.deref.result.now c.deref-2.result.now c.in_ok-offsets.offsets.items c.deref-3.result.now
    c.deref-4.result.now c.in_ok-bytes.bytes.items c.in_ok-catches.catches
    c.as_slice-items.ensures c.as_slice.ensures c.deref.ensures.value c.deref-2.ensures.value
    c.deref-3.ensures.value c.deref-4.ensures.value c.in_ok-catches.ensures.added
    c.in_ok-indices.ensures.named c.in_ok-offsets.ensures.offsets c.in_ok-bytes.ensures.bytes
    c.in_ok-bytes.ensures.writable c.in_ok-bytes.ensures.short c.in_ok-catches.ensures.are)
    c.attribute-attr.ensures.bytes c.attribute-attr.ensures.catches
    c.attribute-attr.ensures.max_stack c.attribute-attr.ensures.max_locals
    c.attribute-attr.ensures.attributes c.in_ok-offsets.ensures.small

pub returns-clause-fits : goal.returns-clause-fits
returns-clause-fits c =
    spelled_code c.args.code.now c.catches_of.new.pool c.in_ok-indices.indices.items
    c.in_ok-offsets.offsets.items c.in_ok-bytes.bytes.items c.in_ok-catches.catches
    c.attribute-attr.result
    c.requires.placeable
    (drafted c.args.code.now c.indices_of.new.pool c.catches_of.new.pool
    c.as_slice-items.result.now c.as_slice.result.now c.in_ok-indices.indices.items
    c.deref.result.now c.deref-2.result.now c.in_ok-offsets.offsets.items c.deref-3.result.now
    c.deref-4.result.now c.in_ok-bytes.bytes.items c.in_ok-catches.catches
    c.as_slice-items.ensures c.as_slice.ensures c.deref.ensures.value c.deref-2.ensures.value
    c.deref-3.ensures.value c.deref-4.ensures.value c.in_ok-catches.ensures.added
    c.in_ok-indices.ensures.named c.in_ok-offsets.ensures.offsets c.in_ok-bytes.ensures.bytes
    c.in_ok-bytes.ensures.writable c.in_ok-bytes.ensures.short c.in_ok-catches.ensures.are)
    c.attribute-attr.ensures.bytes c.attribute-attr.ensures.catches
    c.attribute-attr.ensures.attributes c.attribute-attr.ensures.few_operands
    c.attribute-attr.ensures.few_locals
    (few_entries c.args.pool.now c.catches_of.new.pool (entry_count c.args.code.now)
    (IsConstantOf c.catches_of.new.pool c.args.code.now)
    (whole_added c.args.pool.now c.indices_of.new.pool c.catches_of.new.pool c.args.code.now
    c.as_slice-items.result.now c.as_slice.result.now c.as_slice-items.ensures c.as_slice.ensures
    c.in_ok-indices.ensures.added c.in_ok-catches.ensures.added) c.requires.room)
    (omega (arith, c.requires.room))
