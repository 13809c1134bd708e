-- Kinds, each as its place among kinds of which all are different.
use Rattle.std.specs.Prelude.{ℕ, ◌<◌, List, [], ◌∷◌, map}
use Rattle.par_kinds.specs.declared.frame.VKind.{VKind}
use Rattle.par_kinds.specs.Kinds.{kind_at}

abbrev pub numbered : List VKind → List ℕ → List VKind
numbered different numbers = map (λ number. kind_at different number) numbers

abbrev pub AreBelow : ℕ → List ℕ → Type 0
AreBelow many [] = Unit {0}
AreBelow many (number ∷ numbers) = (number < many) × AreBelow many numbers
