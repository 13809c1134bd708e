use Rattle.std.proofs.Common.{◌≡◌, ◌+◌, [], ◌∷◌, ◌++◌, List, ℕ, map, take, sym, ap, ◌∙◌}
use Rattle.std.specs.Borrow.{Bor}
use Rattle.std.proofs.lemmas.List.{map-append, take_more}
use Rattle.par_class.specs.declared.file.ClassFile.{ClassFile}
use Rattle.par_index.specs.Texts.{texts}
use Rattle.par_single.specs.Members.{own_name, own_names}
use Rattle.par_method_area.proofs.names.own_names.Goals as goal

pub loop-file-preserved : goal.loop-file-preserved
loop-file-preserved c =
    let files = c.args.files.now in
    let i = c.loop-file.file-index in
    let x = c.file-item.result in
    let name = c.own_name.result in
    let more : take (i + 1) files ≡ take i files ++ x ∷ [] =
    take_more files i x c.loop-file-test.true
    ∙ ap (λ (f : ClassFile). take i files ++ f ∷ []) (sym c.file-item.is) in
    ap texts c.in_ok-push.ensures.items
    ∙ map-append (λ (t : Bor (List ℕ)). t.now) c.loop-file.names.items (name ∷ [])
    ∙ ap (λ ns. ns ++ name.now ∷ []) c.loop-file.invariant
    ∙ ap (λ n. own_names (take i files) ++ n ∷ []) c.own_name.ensures
    ∙ sym (ap own_names more ∙ map-append own_name (take i files) (x ∷ []))
