use Rattle.std.proofs.Common.{◌≡◌, [], ◌∷◌, ◌++◌, map, ap, ◌∙◌, rules}
use Rattle.std.specs.List.{list_any}
use Rattle.std.specs.Str.{bytes_eq}
use Rattle.par_loader.proofs.read_files.Loading.of.Goals as goal

pub first-requires-clause-names : goal.first-requires-clause-names
first-requires-clause-names c =
    let own = c.own_name.result.now in
    let none : c.new-names.result.keys ≡ [] = search rules in
    c.in-Ok.ensures (ap (list_any (λ k. bytes_eq own k.items)) none)
    ∙ ap (λ ks. map (λ k. k.items) ks ++ own ∷ []) none
    ∙ ap (λ n. n ∷ []) c.own_name.ensures
