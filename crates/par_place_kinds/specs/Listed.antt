-- Kinds of places, of which the last hold anything and are not listed.
use Rattle.std.specs.Prelude.{ℕ, suc, ◌-◌, Bool, true, ◌&&◌, List, [], ◌∷◌, ◌++◌, length, drop}
use Rattle.std.specs.Prelude.{replicate, slice_set}
use Rattle.par_values.specs.Areas.{Name}
use Rattle.par_kinds.specs.declared.frame.VKind.{VKind}
use Rattle.par_kinds.specs.declared.frame.VKind.TheVariants.{Top as ATop}
use Rattle.par_kinds.specs.Kinds.{into, kind_at}

-- whether each fits into the one at its place
abbrev pub listed_into : List Name → List VKind → List VKind → Bool
listed_into exc ks [] = true
listed_into exc ks (l ∷ ls) = into exc (kind_at ks 0) l && listed_into exc (drop 1 ks) ls

-- those up to a place are listed, and it is set
abbrev pub with_place : List VKind → ℕ → VKind → List VKind
with_place ks place k = slice_set (ks ++ replicate (suc place - length ks) ATop) place k
