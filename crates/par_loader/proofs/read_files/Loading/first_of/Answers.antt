use Rattle.std.proofs.Common.{◌≡◌, ◌+◌, ◌-◌, List, Some, sym, ap, subst, ◌∙◌, arith}
use Rattle.std.specs.Option.{option_map}
use Rattle.std.specs.List.{position}
use Rattle.par_pool.specs.declared.constant.Constant.{Constant}
use Rattle.par_single.specs.Members.{class_name_at}
use Rattle.par_loader.specs.Mentions.{naming_in, names_unread, AreRead}
use Rattle.par_loader.proofs.Unread.{naming_is}
use Rattle.par_loader.proofs.Read.{read_before}
use Rattle.par_loader.proofs.read_files.Loading.first_of.Goals as goal

pub returns-in-Some-clause-first : goal.returns-in-Some-clause-first
returns-in-Some-clause-first c =
    let file = c.args.file.now in
    let n = c.in-Some.first in
    let at : c.class_name_at.result.now ≡ class_name_at file.pool.entries (n + 1) =
    c.class_name_at.ensures ∙ ap
    (λ (es : List Constant). class_name_at es (n + 1)) c.as_slice-entries.ensures in
    ap Some (naming_is file n c.own_name.result.now
    (n + 1) c.class_name_at.result.now c.own_name.ensures (omega arith) at)
    ∙ ap (option_map (naming_in file))
    (c.in-Some.ensures
    ∙ ap (λ (es : List Constant). position (names_unread c.args.self.now.files es) es)
    c.as_slice-entries.ensures)

pub returns-in-Some-clause-read : goal.returns-in-Some-clause-read
returns-in-Some-clause-read c =
    let files = c.args.self.now.files in
    let entries = c.args.file.now.pool.entries in
    let n = c.in-Some.first in
    let at : position (names_unread files entries) entries ≡ Some n =
    sym (c.in-Some.ensures ∙ ap (λ (es : List Constant). position (names_unread files es) es)
    c.as_slice-entries.ensures) in
    let same : n ≡ n + 1 - 1 = omega arith in
    subst (AreRead files entries) same (read_before files entries n at)
