use Rattle.std.proofs.Common.{[], Option, slice_get, ap, ◌∙◌}
use Rattle.std.specs.Option.{unwrap_or}
use Rattle.par_references.proofs.Keyed.{text-made}
use Rattle.par_references.specs.declared.texts.TextFacts.{TextFacts}
use Rattle.par_references.specs.Placed.{facts_of}
use Rattle.par_references.proofs.texts.Texts.facts.Goals as goal

pub returns-in-Some : goal.returns-in-Some
returns-in-Some c =
    let s = c.args.self.now in
    let made = facts_of s.files.now in
    ap (λ (o : Option TextFacts). unwrap_or o (made [])) c.in-Some.ensures.item
    ∙ ap (λ xs. unwrap_or (slice_get xs c.args.index) (made [])) s.known
    ∙ text-made made s.entries.now c.args.index

pub returns-in-None : goal.returns-in-None
returns-in-None c =
    let s = c.args.self.now in
    let made = facts_of s.files.now in
    s.empty
    ∙ ap (λ (o : Option TextFacts). unwrap_or o (made [])) c.in-None.ensures.item
    ∙ ap (λ xs. unwrap_or (slice_get xs c.args.index) (made [])) s.known
    ∙ text-made made s.entries.now c.args.index
