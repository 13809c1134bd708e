use Rattle.std.proofs.Common.{◌≡◌, ap, ◌∙◌, arith}
use Rattle.std.specs.List.{position}
use Rattle.std.specs.Option.{unwrap_or}
use Rattle.std.specs.Str.{bytes_eq}
use Rattle.par_references.proofs.Keyed.{number-within}
use Rattle.par_references.specs.Placed.{all_texts, number_of}
use Rattle.par_references.proofs.texts.TextIndex.number.Goals as goal

pub overflow_cast-result : goal.overflow_cast-result
overflow_cast-result c =
    let s = c.args.self.now in
    let all = all_texts s.classes.now.files.now in
    let is : c.unwrap_or.result ≡ number_of all c.args.text.now =
    c.unwrap_or.ensures
    ∙ ap (λ o. unwrap_or o s.count) (c.place.ensures ∙ s.placed.places c.args.text)
    ∙ ap (unwrap_or (position (bytes_eq c.args.text.now) all)) s.many in
    omega (arith, is, number-within all c.args.text.now, s.many, s.few)
