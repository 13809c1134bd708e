-- The code and the other attributes of a method, one attribute after the other.
use Rattle.std.proofs.Common.{◌≡◌, List, [], ◌∷◌, ◌++◌, ℕ, Option, Some, refl, ap}
use Rattle.par_class.specs.declared.file.Attribute.{Attribute}
use Rattle.par_class.specs.declared.file.CodeAttr.{CodeAttr}
use Rattle.par_class.specs.declared.file.Piece.{Piece}
use Rattle.par_class.specs.declared.file.Piece.TheVariants.{Plain, Code}
use Rattle.par_class.specs.Layout.{later, code_in, others_in}

pub code_in-plain : (ps : List Piece) (a : Attribute) → code_in (ps ++ Plain a ∷ []) ≡ code_in ps
unfolding code_in
code_in-plain [] a = refl
code_in-plain (Plain b ∷ ps) a = code_in-plain ps a
code_in-plain (Code n c ∷ ps) a =
    ap (λ (o : Option CodeAttr). Some (later o c)) (code_in-plain ps a)

pub code_in-code : (ps : List Piece) (n : ℕ) (c : CodeAttr) → code_in (ps ++ Code n c ∷ []) ≡ Some c
unfolding code_in
code_in-code [] n c = refl
code_in-code (Plain b ∷ ps) n c = code_in-code ps n c
code_in-code (Code m d ∷ ps) n c =
    ap (λ (o : Option CodeAttr). Some (later o d)) (code_in-code ps n c)

pub others_in-plain : (ps : List Piece) (a : Attribute)
    → others_in (ps ++ Plain a ∷ []) ≡ others_in ps ++ a ∷ []
unfolding others_in
others_in-plain [] a = refl
others_in-plain (Plain b ∷ ps) a = ap (λ (rest : List Attribute). b ∷ rest) (others_in-plain ps a)
others_in-plain (Code n c ∷ ps) a = others_in-plain ps a

pub others_in-code : (ps : List Piece) (n : ℕ) (c : CodeAttr)
    → others_in (ps ++ Code n c ∷ []) ≡ others_in ps
unfolding others_in
others_in-code [] n c = refl
others_in-code (Plain b ∷ ps) n c = ap (λ (rest : List Attribute). b ∷ rest) (others_in-code ps n c)
others_in-code (Code m d ∷ ps) n c = others_in-code ps n c
