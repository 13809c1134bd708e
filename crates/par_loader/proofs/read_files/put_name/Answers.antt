use Rattle.std.proofs.Common.{◌≡◌, ◌++◌, ◌∷◌, [], false, map, ap, ◌∙◌, rules}
use Rattle.std.specs.List.{list_any}
use Rattle.std.specs.Str.{bytes_eq}
use Rattle.par_loader.proofs.Unread.{new_keys}
use Rattle.par_loader.proofs.read_files.put_name.Goals as goal

pub returns : goal.returns
returns c = λ none.
    let value = c.in_ok-name.name in
    let old = c.args.names.now.keys in
    let name : value.items ≡ c.args.name.now = search rules in
    let new : list_any (λ k. bytes_eq value.items k.items) old ≡ false =
    ap (λ n. list_any (λ k. bytes_eq n k.items) old) name ∙ none in
    new_keys (λ k. k.items) (λ a b. bytes_eq a.items b.items) old c.insert.new.self.keys value
    c.in_ok-insert.ensures.keys new
    ∙ ap (λ n. map (λ k. k.items) old ++ n ∷ []) name
