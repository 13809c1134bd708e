use Rattle.std.proofs.Common.{List, ℕ, length, sym, ap, ◌∙◌, arith}
use Rattle.std.specs.Borrow.{Bor}
use Rattle.std.specs.List.{position}
use Rattle.std.specs.Str.{bytes_eq}
use Rattle.par_index.specs.Texts.{texts}
use Rattle.par_index.proofs.Places.{position-map}
use Rattle.par_index.proofs.names.NameIndex.place.Goals as goal

-- each name is looked at
pub returns-then-names-le-FEW : goal.returns-then-names-le-FEW
returns-then-names-le-FEW c =
    let test = bytes_eq c.args.name.now in
    c.search.ensures
    ∙ ap (position (λ (other : Bor (List ℕ)). test other.now)) c.as_slice-names.ensures.value
    ∙ sym (position-map test (λ (other : Bor (List ℕ)). other.now) c.args.self.now.names.items)

pub returns-else-names-le-FEW : goal.returns-else-names-le-FEW
returns-else-names-le-FEW c =
    let names = c.args.self.now.names.items in
    c.place.ensures
    ∙ (c.args.self.now.placed (omega (arith, ap length c.as_slice-names.ensures.value))).places
    c.bytes.result
    ∙ ap (λ n. position (bytes_eq n) (texts names)) c.bytes.ensures.bytes
