-- What is held where nothing more is put.
use Rattle.std.proofs.Common.{◌≡◌, ℕ, List, [], Option, Some, None, refl, sym, ap}
use Rattle.std.proofs.lemmas.List.{append-nil}
use Rattle.par_io.specs.Causes.{appended}

pub appended-nothing : (old : Option (List ℕ)) → old ≡ appended old []
appended-nothing None = refl
appended-nothing (Some bytes) = ap Some (sym (append-nil bytes))
