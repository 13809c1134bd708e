use Rattle.std.proofs.Common.{◌≡◌, [], List, Option, Some, sym, ap, ◌∙◌}
use Rattle.par_single.specs.par_pool.declared.constant.Constant.{Constant}
use Rattle.par_single.specs.par_pool.declared.constant.Constant.TheVariants.{NameType}
use Rattle.par_single.specs.par_pool.Entries.{entry_at}
use Rattle.par_single.specs.Members.{text_at, member_of}
use Rattle.par_references.specs.Placed.{key_of}
use Rattle.par_references.proofs.members.Members.key_at.Goals as goal

pub returns-in-Some-NameType : goal.returns-in-Some-NameType
returns-in-Some-NameType c = λ class.
    let s = c.args.self.now in
    let files = s.texts.files.now in
    let entries = s.file.now.pool.entries in
    let arm = c.in-Some-NameType in
    let found : Some (NameType arm.name arm.descriptor) ≡ entry_at entries c.args.member =
    ap (λ (k : Constant). Some k) (sym arm.field-0-is) ∙ arm.ensures
    ∙ ap (λ es. entry_at es c.args.member) c.as_slice.ensures in
    c.key.ensures
    ∙ ap (λ (es : List Constant). key_of files
    (record {
      class = [];
      name = text_at es arm.name;
      descriptor = text_at es arm.descriptor;
    })) s.same
    ∙ ap (λ (o : Option Constant). key_of files (member_of entries class o)) found
