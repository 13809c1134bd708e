use Rattle.std.proofs.Common.{◌≡◌, ◌<◌, ◌^◌, Option, ℕ, length, sym, ap, subst, ◌∙◌, arith}
use Rattle.std.specs.Prelude.{IfSome}
use Rattle.std.specs.List.{position}
use Rattle.std.specs.Str.{bytes_eq}
use Rattle.std.proofs.lemmas.List.{length-map}
use Rattle.par_index.specs.Texts.{same_text}
use Rattle.par_single.specs.Members.{own_name, own_names}
use Rattle.par_references.proofs.Below.{place-below, first-below, earlier-below}
use Rattle.par_references.proofs.Placing.{texts-repeated}
use Rattle.par_references.specs.Firsts.{first_repeated}
use Rattle.par_references.specs.Twice.{earlier, repeated_class}
use Rattle.par_references.proofs.classes.Classes.repeated.Goals as goal

pub first_repeated-repeated-requires : goal.first_repeated-repeated-requires
first_repeated-repeated-requires c =
    λ name. c.args.self.now.placed name
    ∙ ap (position (same_text name)) (sym c.as_slice.ensures.value)

pub narrow-requires : goal.narrow-requires
narrow-requires c =
    let s = c.args.self.now in
    let files = s.files.now in
    let first = c.first_repeated-repeated.ensures
    ∙ ap (first_repeated same_text) c.as_slice.ensures.value
    ∙ texts-repeated s.names.items (own_names files) s.named in
    let is : c.earlier.result ≡ repeated_class files =
    c.earlier.ensures ∙ (λ i. earlier (c.taken_class.ensures i) (first i)) in
    let many : length (own_names files) ≡ length files = length-map files own_name in
    subst (λ (o : Option ℕ). IfSome o (λ place. place < 2 ^ 16)) (sym is)
    (earlier-below (2 ^ 16) _ _ (place-below _ (2 ^ 16) files (omega (arith, s.few)))
    (first-below bytes_eq (2 ^ 16) (own_names files) (omega (arith, s.few))))

pub returns : goal.returns
returns c =
    let s = c.args.self.now in
    let first = c.first_repeated-repeated.ensures
    ∙ ap (first_repeated same_text) c.as_slice.ensures.value
    ∙ texts-repeated s.names.items (own_names s.files.now) s.named in
    c.narrow.ensures ∙ c.earlier.ensures ∙ (λ i. earlier (c.taken_class.ensures i) (first i))
