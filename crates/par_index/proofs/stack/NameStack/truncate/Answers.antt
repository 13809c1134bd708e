use Rattle.std.proofs.Common.{◌≡◌, List, ℕ, true, take, sym, ap, subst, ◌∙◌}
use Rattle.std.proofs.lemmas.List.{take-map}
use Rattle.std.specs.Borrow.{Bor}
use Rattle.std.specs.List.{position}
use Rattle.std.specs.Str.{bytes_eq}
use Rattle.std.specs.HashMap.{get_by}
use Rattle.par_index.specs.Texts.{has, texts}
use Rattle.par_index.proofs.Stacked.{left}
use Rattle.par_index.proofs.stack.NameStack.truncate.Goals as goal

pub invariant_of-self : goal.invariant_of-self
invariant_of-self c =
    let items = c.self.inside.names.items in
    let kept = λ (n : List ℕ). get_by (λ key. bytes_eq n key.now) c.self.inside.firsts in
    let is : take c.args.len (texts items) ≡ texts c.truncate.new.self.items =
    take-map (λ (t : Bor (List ℕ)). t.now) c.args.len items
    ∙ ap texts (sym c.truncate.ensures.items) in
    subst (λ ns. (name : List ℕ) → has ns name ≡ true → kept name ≡ position (bytes_eq name) ns) is
    (left c.args.len (texts items) kept (record { first = c.self.invariant })).first

pub returns : goal.returns
returns c =
    let items = c.self.inside.names.items in
    ap texts c.truncate.ensures.items
    ∙ sym (take-map (λ (t : Bor (List ℕ)). t.now) c.args.len items)
    ∙ ap (take c.args.len) c.self.view_is
