use Rattle.std.proofs.Common.{◌≡◌, ◌<◌, [], ◌∷◌, ◌++◌, List, length, get_or, ap, subst, ◌∙◌}
use Rattle.par_single.specs.par_class.declared.file.FieldFile.{FieldFile}
use Rattle.par_single.specs.par_pool.declared.constant.Constant.{Constant}
use Rattle.par_single.specs.Members.{text_at}
use Rattle.par_references.proofs.Keyed.{keys-more}
use Rattle.par_references.specs.declared.keys.Key.{Key}
use Rattle.par_references.specs.Placed.{key_of}
use Rattle.par_references.proofs.members.field_keys.Goals as goal

pub loop-field-preserved : goal.loop-field-preserved
loop-field-preserved c =
    let i = c.loop-field.field-index in
    let x = c.field-item.result in
    let file = c.args.file.now in
    let files = c.args.texts.now.files.now in
    let within : i < length file.fields =
    subst (λ (ys : List FieldFile). i < length ys) c.as_slice-field-items.ensures
    c.loop-field-test.true in
    let at : x ≡ get_or file.fields i x = c.field-item.is
    ∙ ap (λ (ys : List FieldFile). get_or ys i x) c.as_slice-field-items.ensures in
    c.in_ok-push.ensures.items
    ∙ ap (λ (k : Key). c.loop-field.keys.items ++ k ∷ [])
    (c.key.ensures
    ∙ ap (λ (entries : List Constant). key_of files
    (record {
      class = [];
      name = text_at entries x.name;
      descriptor = text_at entries x.descriptor;
    })) c.requires)
    ∙ keys-more files file.pool.entries (λ (x : FieldFile). x.name)
    (λ (x : FieldFile). x.descriptor) c.loop-field.keys.items file.fields i x within at
    c.loop-field.invariant
