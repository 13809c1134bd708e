use Rattle.std.proofs.Common.{◌≡◌, ◌<◌, None, length, List, get_or, sym, ap, subst, ◌∙◌}
use Rattle.par_class.specs.declared.file.ClassFile.{ClassFile}
use Rattle.par_base.specs.Names.{IsName}
use Rattle.par_single.specs.Members.{own_name}
use Rattle.par_loader.specs.Reads.{IsSpelled}
use Rattle.par_loader.specs.Mentions.{naming, first_of}
use Rattle.par_loader.proofs.Unread.{past_place, here_place, no_map}
use Rattle.par_loader.proofs.read_files.Loading.next.Goals as goal

pub first_of-requires-clause-named : goal.first_of-requires-clause-named
first_of-requires-clause-named c =
    let files = c.args.self.now.files in
    let x = c.index-files-place.result in
    let is : x ≡ get_or files c.loop-place.place x = c.index-files-place.is
    ∙ ap (λ (ys : List ClassFile). get_or ys c.loop-place.place x) c.as_slice-files.ensures in
    let within : c.loop-place.place < length files =
    subst (λ (ys : List ClassFile). c.loop-place.place < length ys) c.as_slice-files.ensures
    c.loop-place-test.true in
    subst (λ (f : ClassFile). IsName (own_name f)) (sym is)
    (c.args.self.now.named c.loop-place.place x within)

pub first_of-requires-clause-spelled : goal.first_of-requires-clause-spelled
first_of-requires-clause-spelled c =
    let files = c.args.self.now.files in
    let x = c.index-files-place.result in
    let is : x ≡ get_or files c.loop-place.place x = c.index-files-place.is
    ∙ ap (λ (ys : List ClassFile). get_or ys c.loop-place.place x) c.as_slice-files.ensures in
    let within : c.loop-place.place < length files =
    subst (λ (ys : List ClassFile). c.loop-place.place < length ys) c.as_slice-files.ensures
    c.loop-place-test.true in
    subst IsSpelled (sym is) (c.requires c.loop-place.place x within)

pub returns-in-Some-clause-first : goal.returns-in-Some-clause-first
returns-in-Some-clause-first c =
    let files = c.args.self.now.files in
    let x = c.index-files-place.result in
    let is : x ≡ get_or files c.loop-place.place x = c.index-files-place.is
    ∙ ap (λ (ys : List ClassFile). get_or ys c.loop-place.place x) c.as_slice-files.ensures in
    let within : c.loop-place.place < length files =
    subst (λ (ys : List ClassFile). c.loop-place.place < length ys) c.as_slice-files.ensures
    c.loop-place-test.true in
    sym (here_place files c.loop-place.place x
    (naming c.in-Some.mention) within is c.loop-place.invariant (sym c.in-Some.ensures.first))

pub loop-place-preserved : goal.loop-place-preserved
loop-place-preserved c =
    let files = c.args.self.now.files in
    let x = c.index-files-place.result in
    let is : x ≡ get_or files c.loop-place.place x = c.index-files-place.is
    ∙ ap (λ (ys : List ClassFile). get_or ys c.loop-place.place x) c.as_slice-files.ensures in
    let within : c.loop-place.place < length files =
    subst (λ (ys : List ClassFile). c.loop-place.place < length ys) c.as_slice-files.ensures
    c.loop-place-test.true in
    let none : first_of files x ≡ None =
    no_map naming c.first_of.result
    (first_of files x) c.in_default.not-Some c.first_of.ensures.first in
    past_place files c.loop-place.place x within is c.loop-place.invariant none
