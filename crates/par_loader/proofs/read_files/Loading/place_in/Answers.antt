use Rattle.std.proofs.Common.{◌≡◌, ◌+◌, ◌-◌, length, take, drop, sym, ap, ◌∙◌, arith}
use Rattle.std.proofs.lemmas.Grind.{common_steps}
use Rattle.std.specs.List.{position}
use Rattle.std.specs.Option.{option_map}
use Rattle.par_loader.specs.Mentions.{names_unread}
use Rattle.par_loader.proofs.Read.{position-skip}
use Rattle.par_loader.proofs.read_files.Loading.place_in.Goals as goal

pub returns-in-Some : goal.returns-in-Some
returns-in-Some c =
    let entries = c.args.entries.now in
    let read = c.args.read in
    let unread = names_unread c.args.self.now.files entries in
    let rest : take (length entries - read) (drop read entries) ≡ drop read entries =
    grind (arith, common_steps) in
    sym (position-skip unread read entries c.requires.none c.requires.within
    ∙ ap (option_map (λ k. read + k)) (sym (c.in-Some.ensures ∙ ap (position unread) rest)))

pub returns-in-None : goal.returns-in-None
returns-in-None c =
    let entries = c.args.entries.now in
    let read = c.args.read in
    let unread = names_unread c.args.self.now.files entries in
    let rest : take (length entries - read) (drop read entries) ≡ drop read entries =
    grind (arith, common_steps) in
    sym (position-skip unread read entries c.requires.none c.requires.within
    ∙ ap (option_map (λ k. read + k)) (sym (c.in-None.ensures ∙ ap (position unread) rest)))
