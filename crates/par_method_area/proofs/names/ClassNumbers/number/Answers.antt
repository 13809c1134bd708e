use Rattle.std.proofs.Common.{◌≡◌, ℕ, List, length, Some, sym, ◌∙◌, map, arith}
use Rattle.std.specs.Borrow.{Bor}
use Rattle.std.specs.Str.{bytes_eq}
use Rattle.std.specs.List.{position}
use Rattle.std.proofs.lemmas.List.{length-map}
use Rattle.par_index.proofs.Places.{position-within}
use Rattle.par_index.specs.Texts.{texts}
use Rattle.par_method_area.proofs.names.ClassNumbers.number.Goals as goal

pub overflow_cast-result : goal.overflow_cast-result
overflow_cast-result c =
    let names = c.self.inside.names.items in
    let text = λ (name : Bor (List ℕ)). name.now in
    let same : length (map text names) ≡ length names = length-map names text in
    let is : Some c.in-Some.place ≡ position (bytes_eq c.args.name.now) (texts names) =
    c.in-Some.ensures ∙ c.self.invariant.places c.args.name in
    let less = position-within (bytes_eq c.args.name.now) (texts names) c.in-Some.place (sym is) in
    omega (arith, same, less, c.self.invariant.few)
