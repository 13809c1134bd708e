use Rattle.std.proofs.Common.{◌≡◌, ◌+◌, ◌<◌, [], ◌∷◌, ◌++◌, List, length, map, take, get_or, refl}
use Rattle.std.proofs.Common.{sym, ap, subst, ◌∙◌, arith}
use Rattle.std.specs.List.{All}
use Rattle.std.proofs.lemmas.Grind.{common_steps}
use Rattle.std.proofs.lemmas.List.{map-append}
use Rattle.std.proofs.lemmas.List.Elements.{All-push}
use Rattle.std.proofs.lemmas.Option.{slice_get_read}
use Rattle.par_single.specs.par_class.declared.file.ClassFile.{ClassFile}
use Rattle.par_references.specs.declared.members.Members.{Members}
use Rattle.par_references.proofs.Keyed.{are-among}
use Rattle.par_references.proofs.tables.all_members.Goals as goal

pub of-requires-clause-among : goal.of-requires-clause-among
of-requires-clause-among c =
    let files = c.args.index.now.classes.now.files.now in
    let i = c.loop-file.file-index in
    let x = c.file-item.result in
    are-among files i x
    (slice_get_read files (length files) i x refl c.loop-file-test.true c.file-item.is)

pub loop-file-preserved : goal.loop-file-preserved
loop-file-preserved c =
    let files = c.args.index.now.classes.now.files.now in
    let i = c.loop-file.file-index in
    let x = c.file-item.result in
    let all = c.loop-file.all.items in
    let m = c.in_ok-of.field-0 in
    let within : i < length files = c.loop-file-test.true in
    let is : x ≡ get_or files i x = c.file-item.is in
    let more : take (i + 1) files ≡ take i files ++ x ∷ [] = grind (arith, common_steps) in (
      ap (map (λ (m : Members). m.file.now)) c.in_ok-push.ensures.items
          ∙ map-append (λ (m : Members). m.file.now) all (m ∷ [])
          ∙ ap (λ (fs : List ClassFile). fs ++ m.file.now ∷ []) c.loop-file.invariant.0
          ∙ ap (λ (f : ClassFile). take i files ++ f ∷ []) c.in_ok-of.ensures.file
          ∙ sym more,
      subst (All (λ (m : Members). m.texts.files.now ≡ files)) (sym c.in_ok-push.ensures.items)
          (All-push (λ (m : Members). m.texts.files.now ≡ files) all m c.loop-file.invariant.1
          c.in_ok-of.ensures.files),
    )
