use Rattle.std.proofs.Common.{◌≡◌, false, [], ◌∷◌, ◌++◌, ap, ◌∙◌}
use Rattle.std.specs.List.{list_any}
use Rattle.std.specs.Str.{bytes_eq}
use Rattle.par_single.specs.Members.{own_name, own_names}
use Rattle.par_loader.proofs.Unread.{among_names}
use Rattle.par_loader.proofs.read_files.Loading.with.Goals as goal

pub behind-requires-clause-names : goal.behind-requires-clause-names
behind-requires-clause-names c =
    let file = c.args.file in
    let before = c.args.self.files in
    let own = c.own_name.result.now in
    let old = c.args.self.names.keys in
    let none : list_any (λ k. bytes_eq own k.items) old ≡ false =
    ap (λ n. list_any (λ k. bytes_eq n k.items) old) c.own_name.ensures
    ∙ among_names (λ k. k.items) old before c.args.self.names_are (own_name file)
    ∙ c.requires.unread in
    c.in-Ok.ensures none
    ∙ ap (λ ns. ns ++ own ∷ []) c.args.self.names_are
    ∙ ap (λ n. own_names before ++ n ∷ []) c.own_name.ensures
