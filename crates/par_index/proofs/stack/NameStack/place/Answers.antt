use Rattle.std.proofs.Common.{◌≡◌, List, ℕ, Some, None, sym, ap, ◌∙◌}
use Rattle.std.specs.Borrow.{Bor}
use Rattle.std.specs.Option.{option_copied}
use Rattle.std.specs.List.{position}
use Rattle.std.specs.Str.{bytes_eq}
use Rattle.std.specs.HashMap.{get_by}
use Rattle.par_index.specs.Texts.{texts}
use Rattle.par_index.specs.Stacked.{standing}
use Rattle.par_index.proofs.Places.{position-map}
use Rattle.par_index.proofs.Stacked.{none_placed, kept_placed}
use Rattle.par_index.proofs.stack.NameStack.place.Goals as goal

-- each name is looked at
pub returns-then-names-le-FEW : goal.returns-then-names-le-FEW
returns-then-names-le-FEW c =
    let test = bytes_eq c.args.name.now in
    c.search.ensures
    ∙ ap (position (λ (other : Bor (List ℕ)). test other.now)) c.as_slice-names.ensures.value
    ∙ sym (position-map test (λ (other : Bor (List ℕ)). other.now) c.self.inside.names.items)
    ∙ ap (position test) c.self.view_is

pub returns-in-None : goal.returns-in-None
returns-in-None c =
    let name = c.args.name.now in
    let names = texts c.self.inside.names.items in
    let kept = λ (n : List ℕ). get_by (λ key. bytes_eq n key.now) c.self.inside.firsts in
    let none : kept name ≡ None = ap kept (sym c.bytes.ensures.bytes) ∙ sym c.get.ensures.value
    ∙ ap option_copied c.in-None.is in
    none_placed names kept (record { first = c.self.invariant }) name none
    ∙ ap (position (bytes_eq name)) c.self.view_is

pub returns-in-Some : goal.returns-in-Some
returns-in-Some c =
    let name = c.args.name.now in
    let place = c.in-Some.place.now in
    let names = texts c.self.inside.names.items in
    let kept = λ (n : List ℕ). get_by (λ key. bytes_eq n key.now) c.self.inside.firsts in
    let some : kept name ≡ Some place = ap kept (sym c.bytes.ensures.bytes)
    ∙ sym c.get.ensures.value ∙ ap option_copied c.in-Some.is in
    c.standing.ensures ∙ ap (λ ts. standing (texts ts) place name) c.as_slice-names.ensures.value
    ∙ kept_placed names kept (record { first = c.self.invariant }) name place some
    ∙ ap (position (bytes_eq name)) c.self.view_is
