use Rattle.std.proofs.Common.{◌≡◌, ◌<◌, ◌^◌, Option, ℕ, length, sym, subst, ◌∙◌, arith}
use Rattle.std.specs.Prelude.{IfSome}
use Rattle.std.specs.Str.{bytes_eq}
use Rattle.std.proofs.lemmas.List.{length-map}
use Rattle.par_single.specs.Members.{own_name, own_names}
use Rattle.par_references.proofs.Below.{place-below}
use Rattle.par_references.proofs.Placing.{placed}
use Rattle.par_references.proofs.classes.Classes.place.Goals as goal

pub narrow-requires : goal.narrow-requires
narrow-requires c =
    let s = c.args.self.now in
    let files = s.files.now in
    let is = c.place.ensures
    ∙ (placed s.names.items (own_names files) s.firsts s.placed s.named).places c.args.name in
    let many : length (own_names files) ≡ length files = length-map files own_name in
    subst (λ (o : Option ℕ). IfSome o (λ place. place < 2 ^ 16)) (sym is)
    (place-below (bytes_eq c.args.name.now) (2 ^ 16) (own_names files) (omega (arith, s.few)))

pub returns : goal.returns
returns c =
    let s = c.args.self.now in
    c.narrow.ensures ∙ c.place.ensures
    ∙ (placed s.names.items (own_names s.files.now) s.firsts s.placed s.named).places c.args.name
