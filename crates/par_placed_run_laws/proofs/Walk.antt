-- The walk through placed code starts at each of its instructions.
use Rattle.std.proofs.Common.{◌≡◌, ℕ, zero, suc, ◌+◌, ◌≤◌, true, List, [], ◌∷◌, ◌++◌, length}
use Rattle.std.proofs.Common.{Option}
use Rattle.std.proofs.Common.{Some, None, refl, sym, ap, ◌∙◌, arith}
use Rattle.std.specs.Prelude.{IsTrue, slice_get, All}
use Rattle.std.specs.List.{flat_map, AllByRecursion}
use Rattle.std.proofs.lemmas.List.Elements.{All-head, All-tail}
use Rattle.par_instr.specs.declared.instr.Instr.{Instr}
use Rattle.par_instr.specs.Spelling.{spelling, IsSpelled}
use Rattle.par_instr.proofs.Spellings.{each_is_listed}
use Rattle.par_step_laws.specs.par_single.Walk.{starts_after, starts_at, if_listed}
use Rattle.par_place.specs.par_code_form.declared.item.Item.{Item}
use Rattle.par_place.specs.par_code_form.Instructions.{instruction, is_instruction}
use Rattle.par_place.specs.par_code_form.Placed.{bytes_of, IsWritable, size, offset_at, distance}
use Rattle.par_place.specs.par_code_form.Placed.{instructions}
use Rattle.par_place.specs.par_code_form.Placeable.{FitsItem}
use Rattle.par_place.proofs.Sizes.{size_any, size_some}

-- operand bytes are passed over
operands_passed : (operands rest : List ℕ) (at : ℕ)
    → starts_after (operands ++ rest) (length operands + at) (length operands)
    ≡ starts_after rest at 0
unfolding starts_after
operands_passed [] rest at =
    let same : 0 + at ≡ at = omega arith in ap (λ (n : ℕ). starts_after rest n 0) same
operands_passed (byte ∷ operands) rest at =
    let same : length (byte ∷ operands) + at ≡ suc (length operands + at) = omega arith in
    ap (λ (n : ℕ). starts_after (byte ∷ operands ++ rest) n (suc (length operands))) same
    ∙ operands_passed operands rest at

-- so is an instruction
passed : (bytes rest : List ℕ) (at : ℕ) (i : Instr) → IsSpelled bytes i
    → starts_at (bytes ++ rest) (length bytes + at) ≡ starts_at rest at
unfolding starts_after
passed [] rest at i s = absurd (cc (s.bytes_are))
passed (op ∷ operands) rest at i s =
    let same : length (op ∷ operands) + at ≡ suc (length operands + at) = omega arith in
    ap (λ (n : ℕ). starts_at (op ∷ operands ++ rest) n) same
    ∙ ap (if_listed (starts_after (operands ++ rest) (length operands + at)))
    (each_is_listed i op operands s)
    ∙ operands_passed operands rest at

any_passed : (o : Option Instr) (rest : List ℕ) (at : ℕ) → IsWritable o
    → starts_at (bytes_of o ++ rest) (length (bytes_of o) + at) ≡ starts_at rest at
any_passed None rest at s =
    let same : 0 + at ≡ at = omega arith in ap (starts_at rest) same
any_passed (Some i) rest at s = passed (spelling i) rest at i s

-- one starts where bytes begin
begins : (bytes rest : List ℕ) → 1 ≤ length bytes → starts_at (bytes ++ rest) 0 ≡ true
unfolding starts_after
begins [] rest some = absurd (omega arith)
begins (byte ∷ bytes) rest some = refl

pub starts_there : (f : ℕ → ℕ) (at p : ℕ) (xs : List Item) (ns : List ℕ) (x : Item)
    → slice_get xs p ≡ Some x → IsTrue (is_instruction x) → length xs ≡ length ns
    → All FitsItem xs → AllByRecursion IsWritable (instructions f at xs ns)
    → starts_at (flat_map bytes_of (instructions f at xs ns)) (offset_at p xs ns) ≡ true
starts_there f at p [] ns x e is same fit spelled = absurd (cc e)
starts_there f at p (y ∷ ys) [] x e is same fit spelled = absurd (omega (arith, same))
starts_there f at zero (y ∷ ys) (n ∷ ns) x e is same fit spelled =
    let here : y ≡ x = cc in
    let real : IsTrue (is_instruction y) = ap is_instruction here ∙ is in
    begins (bytes_of (instruction n (distance f at y) y))
    (flat_map bytes_of (instructions f (at + size y n) ys ns))
    (omega (
      arith,
      size_any n (distance f at y) y,
      size_some y n (All-head FitsItem y ys fit) real,
    ))
starts_there f at (suc p) (y ∷ ys) (n ∷ ns) x e is same fit spelled =
    let first = instruction n (distance f at y) y in
    let rest = flat_map bytes_of (instructions f (at + size y n) ys ns) in
    ap (λ (s : ℕ). starts_at (bytes_of first ++ rest) (s + offset_at p ys ns))
    (sym (size_any n (distance f at y) y))
    ∙ any_passed first rest (offset_at p ys ns) spelled.0
    ∙ starts_there f (at + size y n) p ys ns x e is (omega (arith, same))
    (All-tail FitsItem y ys fit) spelled.1
