use Rattle.std.proofs.Common.{◌≡◌, ◌<◌, ◌≤◌, [], ◌∷◌, ◌++◌, length, map, take, drop, get_or, sym}
use Rattle.std.proofs.Common.{ap, subst, ◌∙◌, arith}
use Rattle.std.specs.Prelude.{IfErr}
use Rattle.std.proofs.lemmas.Grind.{common_steps}
use Rattle.std.proofs.lemmas.List.{length-map, map-append}
use Rattle.std.proofs.lemmas.List.Elements.{All-get_or}
use Rattle.std.proofs.lemmas.Result.{err_from_is_err_and}
use Rattle.par_link.proofs.Made.{made-left, made-so-far}
use Rattle.par_link.proofs.Ordering.{first-past, first-told, first-ended}
use Rattle.par_references.specs.declared.members.Members.{Members}
use Rattle.par_references.specs.Named.{names_of}
use Rattle.par_link.specs.Order.{first_in}
use Rattle.par_link.specs.Told.{Tells}
use Rattle.par_link.proofs.linker.linked_files.Goals as goal

-- the tables are of all files
pub linked_file-requires-clause-among : goal.linked_file-requires-clause-among
linked_file-requires-clause-among c =
    let i = c.loop-class.class in
    let x = c.members-item.result in
    let ms = c.args.tables.now.members.items in
    let files = c.args.tables.now.files.now in
    let within : i < length ms =
    subst (λ ys. i < length ys) c.deref-members-items.ensures.value c.loop-class-test.true in
    let is : x ≡ get_or ms i x =
    c.members-item.is ∙ ap (λ ys. get_or ys i x) c.deref-members-items.ensures.value in
    subst (λ (m : Members). m.texts.files.now ≡ files) (sym is)
    (All-get_or (λ (m : Members). m.texts.files.now ≡ files) ms i x within
    c.args.tables.now.among)

-- the first rule that a file breaks is the first of all
pub returns-in_err-linked_file-clause-broken : goal.returns-in_err-linked_file-clause-broken
returns-in_err-linked_file-clause-broken c =
    let i = c.loop-class.class in
    let x = c.members-item.result in
    let ms = c.args.tables.now.members.items in
    let files = c.args.tables.now.files.now in
    let error = c.in_err-linked_file.field-0.0 in
    let within : i < length ms =
    subst (λ ys. i < length ys) c.deref-members-items.ensures.value c.loop-class-test.true in
    let is : x ≡ get_or ms i x =
    c.members-item.is ∙ ap (λ ys. get_or ys i x) c.deref-members-items.ensures.value in
    let left =
    made-left (λ (m : Members). m.file.now) ms files i x c.args.tables.now.each within is in
    let told = first-told files files i x.file.now left error c.in_err-linked_file.ensures.broken in
    let all : Tells (first_in files 0 files) error =
    subst (λ o. Tells o error) c.loop-class.invariant.1 told in
    let back = err_from_is_err_and c.from_residual.result c.from_residual.ensures.1 in
    subst (λ r. IfErr r (Tells (first_in files 0 files))) (sym back.1)
    (subst (Tells (first_in files 0 files)) (sym back.2) all)

-- a file that breaks none is linked
pub loop-class-preserved : goal.loop-class-preserved
loop-class-preserved c =
    let i = c.loop-class.class in
    let x = c.members-item.result in
    let ms = c.args.tables.now.members.items in
    let files = c.args.tables.now.files.now in
    let within : i < length ms =
    subst (λ ys. i < length ys) c.deref-members-items.ensures.value c.loop-class-test.true in
    let is : x ≡ get_or ms i x =
    c.members-item.is ∙ ap (λ ys. get_or ys i x) c.deref-members-items.ensures.value in
    let left =
    made-left (λ (m : Members). m.file.now) ms files i x c.args.tables.now.each within is in
    let more =
    made-so-far (λ (m : Members). m.file.now) ms files i x c.args.tables.now.each within is in (
      c.in_ok-push.ensures.ok
          ∙ ap (λ all. all ++ c.in_ok-linked_file.field-0 ∷ []) c.loop-class.invariant.0
          ∙ ap (λ names. map (names_of files) (take i files) ++ names ∷ [])
          c.in_ok-linked_file.ensures.names
          ∙ sym (map-append (names_of files) (take i files) (x.file.now ∷ []))
          ∙ ap (map (names_of files)) (sym more),
      first-past files files i x.file.now left c.in_ok-linked_file.ensures.unbroken
          ∙ c.loop-class.invariant.1,
    )

pub returns-clause-unbroken : goal.returns-clause-unbroken
returns-clause-unbroken c =
    let i = c.loop-class.class in
    let ms = c.args.tables.now.members.items in
    let files = c.args.tables.now.files.now in
    let many : length ms ≡ length files =
    sym (length-map ms (λ (m : Members). m.file.now)) ∙ ap length c.args.tables.now.each in
    let here = ap length c.deref-members-items.ensures.value in
    let few : length files ≤ i = omega (arith, many, here, c.loop-class-test.false) in
    let ended : drop i files ≡ [] = grind (arith, common_steps) in
    sym c.loop-class.invariant.1 ∙ first-ended files files i ended
