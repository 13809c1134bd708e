-- A file is longer than each attribute in it.
use Rattle.std.proofs.Common.{◌≡◌, ℕ, ◌<◌, ◌≤◌, Bool, true, false, List, [], ◌∷◌, ◌++◌, length}
use Rattle.std.proofs.Common.{map, Option, Some, None, inl, inr, refl, sym, ap, length-append}
use Rattle.std.proofs.Common.{arith}
use Rattle.std.specs.Prelude.{◌⊎◌, ◌||◌, nat_lt}
use Rattle.std.specs.List.{AllByRecursion, flat_map, list_any}
use Rattle.std.proofs.lemmas.Bool.{false≢true, ltb-true, ltb-false}
use Rattle.par_pool.specs.declared.reader.TheConstants.{LONGEST_CLASS}
use Rattle.par_class.specs.declared.file.Attribute.{Attribute}
use Rattle.par_class.specs.declared.file.CodeAttr.{CodeAttr}
use Rattle.par_class.specs.declared.file.MethodFile.{MethodFile}
use Rattle.par_class.specs.declared.file.ClassFile.{ClassFile}
use Rattle.par_class.specs.declared.file.Piece.{Piece}
use Rattle.par_class.specs.declared.file.Piece.TheVariants.{Plain, Code}
use Rattle.par_class.specs.Layout.{Method}
use Rattle.par_class.specs.Spelling.{attribute, code, piece, field, method, layout, counted, front}
use Rattle.par_class.specs.Spelling.{back}
use Rattle.par_class.specs.Writing.{code_piece, pieces_of, method_laid, layout_of, least_code}
use Rattle.par_compile_laws.specs.Files.{written}
use Rattle.par_compile.specs.Drafts.{AreShort, HasShortCode}
use Rattle.par_compile.specs.Whole.{has_long_attribute, has_long_code}
use Rattle.par_compile.proofs.Placing.{attribute_long, code_long}

either : (x y : Bool) → (x || y) ≡ true → (x ≡ true) ⊎ (y ≡ true)
either true y h = inl refl
either false y h = inr h

neither : (x y : Bool) → (x || y) ≡ false → (x ≡ false) × (y ≡ false)
neither true y h = absurd (false≢true (sym h))
neither false y h = (refl, h)

-- ---- what is too long

attributes-long : (xs : List Attribute)
    → list_any (λ a. nat_lt LONGEST_CLASS (length a.bytes)) xs ≡ true
    → LONGEST_CLASS < length (flat_map attribute xs)
attributes-long [] h = absurd (false≢true h)
attributes-long (a ∷ xs) h =
    elim (either (nat_lt LONGEST_CLASS (length a.bytes))
    (list_any (λ b. nat_lt LONGEST_CLASS (length b.bytes)) xs) h) [
      | inl e ↦
          omega (
            arith,
            length-append (attribute a) (flat_map attribute xs),
            attribute_long a,
            ltb-true LONGEST_CLASS (length a.bytes) e,
          )
      | inr e ↦
          omega (
            arith,
            length-append (attribute a) (flat_map attribute xs),
            attributes-long xs e,
          )
    ]

piece-long : (name : ℕ) (c : CodeAttr)
    → length (flat_map attribute c.attributes) ≤ length (piece (Code name c))
unfolding piece
piece-long name c =
    omega (arith, attribute_long (record { name = name; bytes = code c }), code_long c)

method-long : (m : Method) → length (flat_map piece m.pieces) ≤ length (method m)
unfolding method
method-long m = omega arith

one-long : (name : ℕ) (m : MethodFile) → has_long_attribute m.code ≡ true
    → LONGEST_CLASS < length (method (method_laid name m))
one-long name m h = at m.code refl h
  where
    at : (o : Option CodeAttr) → m.code ≡ o → has_long_attribute o ≡ true
        → LONGEST_CLASS < length (method (method_laid name m))
    at None e h = absurd (false≢true h)
    at (Some c) e h =
        let same : pieces_of name m ≡ Code name c ∷ map (λ a. Plain a) m.attributes =
        ap (λ (o : Option CodeAttr). code_piece name o ++ map (λ a. Plain a) m.attributes) e in
        omega (
          arith,
          method-long (method_laid name m),
          ap (λ (ps : List Piece). length (flat_map piece ps)) same,
          length-append (piece (Code name c)) (flat_map piece (map (λ a. Plain a) m.attributes)),
          piece-long name c,
          attributes-long c.attributes h,
        )

methods-long : (name : ℕ) (ms : List MethodFile) → has_long_code ms ≡ true
    → LONGEST_CLASS < length (flat_map method (map (method_laid name) ms))
methods-long name [] h = absurd (false≢true h)
methods-long name (m ∷ ms) h =
    let rest = flat_map method (map (method_laid name) ms) in
    elim (either (has_long_attribute m.code) (has_long_code ms) h) [
      | inl e ↦
          omega (arith, length-append (method (method_laid name m)) rest, one-long name m e)
      | inr e ↦
          omega (arith, length-append (method (method_laid name m)) rest, methods-long name ms e)
    ]

-- a file with such an attribute
pub file_long : (file : ClassFile) → has_long_code file.methods ≡ true
    → LONGEST_CLASS < length (written file)
unfolding layout
file_long file h =
    let l = layout_of file in
    let attributes = counted attribute l.attributes in
    omega (
      arith,
      length-append (front l) (back l),
      length-append (flat_map field l.fields) (counted method l.methods ++ attributes),
      length-append (flat_map method l.methods) attributes,
      methods-long (least_code file.pool.entries) file.methods h,
    )

-- ---- what is short

short-attributes : (xs : List Attribute)
    → list_any (λ a. nat_lt LONGEST_CLASS (length a.bytes)) xs ≡ false → AreShort xs
short-attributes [] h = tt
short-attributes (a ∷ xs) h =
    let both = neither (nat_lt LONGEST_CLASS (length a.bytes))
    (list_any (λ b. nat_lt LONGEST_CLASS (length b.bytes)) xs) h in
    (ltb-false LONGEST_CLASS (length a.bytes) both.0, short-attributes xs both.1)

short-code : (o : Option CodeAttr) → has_long_attribute o ≡ false → HasShortCode o
short-code None h = tt
short-code (Some attr) h = short-attributes attr.attributes h

pub all_short : (ms : List MethodFile) → has_long_code ms ≡ false
    → AllByRecursion (λ m. HasShortCode m.code) ms
all_short [] h = tt
all_short (m ∷ ms) h =
    let both = neither (has_long_attribute m.code) (has_long_code ms) h in
    (short-code m.code both.0, all_short ms both.1)
