use Rattle.std.proofs.Common.{◌≡◌, ℕ, ◌+◌, List, length, map, sym, ap, ◌∙◌, arith}
use Rattle.std.specs.Borrow.{Bor}
use Rattle.std.specs.List.{position}
use Rattle.std.specs.Str.{bytes_eq}
use Rattle.std.proofs.lemmas.List.{length-map}
use Rattle.par_index.specs.Texts.{same_text}
use Rattle.par_index.proofs.Places.{position-map}
use Rattle.par_method_area.proofs.Numbered.{many}
use Rattle.par_method_area.proofs.names.ClassNumbers.of.Goals as goal

pub invariant_of-result : goal.invariant_of-result
invariant_of-result c =
    let names = c.in_ok-names.names.items in
    let text = λ (name : Bor (List ℕ)). name.now in
    let same : length (map text names) ≡ length names = length-map names text in
    let all : length (map text names) ≡ length c.args.files.now + 2 =
    ap length c.in_ok-names.ensures ∙ many c.args.files.now in
    record {
      few = omega (arith, same, all, c.requires);
      places = λ name.
          c.in_ok-firsts.ensures name
          ∙ ap (position (same_text name)) c.as_slice.ensures.value
          ∙ sym (position-map (bytes_eq name.now) text names);
    }
