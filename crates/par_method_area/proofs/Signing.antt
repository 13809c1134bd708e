-- What is told of a descriptor by its index is what its text says.
use Rattle.std.proofs.Common.{◌≡◌, ℕ, List, [], map, Option, slice_get, sym, ap, ◌∙◌}
use Rattle.std.proofs.lemmas.Option.{slice_get-map}
use Rattle.std.specs.Option.{unwrap_or}
use Rattle.par_pool.specs.declared.constant.Constant.{Constant}
use Rattle.par_values.specs.Areas.{Name}
use Rattle.par_single.specs.Members.{text_at}
use Rattle.par_step_laws.specs.par_link.Placed.{pool_texts}
use Rattle.par_step_laws.proofs.par_link.Keyed.{text-made}
use Rattle.par_method_area.specs.Signatures.{Said, Told, told, said_by, signature_in}

pub said-at : (classes : List Name) (entries : List Constant) (signatures : List Said) (index : ℕ)
    → map told signatures ≡ map (said_by classes) (pool_texts entries)
    → signature_in signatures index ≡ said_by classes (text_at entries index)
said-at classes entries signatures index all =
    ap (λ (o : Option Told). unwrap_or o (said_by classes []))
    (sym (slice_get-map told signatures index) ∙ ap (λ xs. slice_get xs index) all)
    ∙ text-made (said_by classes) entries index
