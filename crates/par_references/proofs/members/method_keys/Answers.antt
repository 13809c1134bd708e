use Rattle.std.proofs.Common.{◌≡◌, ◌<◌, [], ◌∷◌, ◌++◌, List, length, get_or, ap, subst, ◌∙◌}
use Rattle.par_single.specs.par_class.declared.file.MethodFile.{MethodFile}
use Rattle.par_single.specs.par_pool.declared.constant.Constant.{Constant}
use Rattle.par_single.specs.Members.{text_at}
use Rattle.par_references.proofs.Keyed.{keys-more}
use Rattle.par_references.specs.declared.keys.Key.{Key}
use Rattle.par_references.specs.Placed.{key_of}
use Rattle.par_references.proofs.members.method_keys.Goals as goal

pub loop-method-preserved : goal.loop-method-preserved
loop-method-preserved c =
    let i = c.loop-method.method-index in
    let x = c.method-item.result in
    let file = c.args.file.now in
    let files = c.args.texts.now.files.now in
    let within : i < length file.methods =
    subst (λ (ys : List MethodFile). i < length ys) c.as_slice-method-items.ensures
    c.loop-method-test.true in
    let at : x ≡ get_or file.methods i x = c.method-item.is
    ∙ ap (λ (ys : List MethodFile). get_or ys i x) c.as_slice-method-items.ensures in
    c.in_ok-push.ensures.items
    ∙ ap (λ (k : Key). c.loop-method.keys.items ++ k ∷ [])
    (c.key.ensures
    ∙ ap (λ (entries : List Constant). key_of files
    (record {
      class = [];
      name = text_at entries x.name;
      descriptor = text_at entries x.descriptor;
    })) c.requires)
    ∙ keys-more files file.pool.entries (λ (x : MethodFile). x.name)
    (λ (x : MethodFile). x.descriptor) c.loop-method.keys.items file.methods i x within at
    c.loop-method.invariant
