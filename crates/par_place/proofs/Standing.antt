-- The instructions of placed code stand at their offsets.
use Rattle.std.proofs.Common.{◌≡◌, ℕ, zero, suc, ◌+◌, List, [], ◌∷◌, ◌++◌, length, Option, Some}
use Rattle.std.proofs.Common.{refl}
use Rattle.std.proofs.Common.{sym, ap, subst, ◌∙◌, append_assoc, length-append, arith}
use Rattle.std.specs.Prelude.{slice_get}
use Rattle.std.specs.List.{flat_map, AllByRecursion}
use Rattle.par_instr.specs.declared.instr.Instr.{Instr}
use Rattle.par_instr.specs.Spelling.{spelling, IsSpelled, Stands}
use Rattle.par_instr.proofs.Places.{written_again}
use Rattle.par_code_form.specs.declared.item.Item.{Item}
use Rattle.par_code_form.specs.Instructions.{instruction}
use Rattle.par_code_form.specs.Placed.{bytes_of, IsWritable, size, offset_of, offset_at, distance}
use Rattle.par_code_form.specs.Placed.{instructions}
use Rattle.par_place.specs.Laws.{PlacedInstructionsStand}
use Rattle.par_place.proofs.Sizes.{size_any}

-- bytes before an instruction, its own, and bytes behind it
pub record IsBetween (bytes : List ℕ) (at : ℕ) (i : Instr) : Type 0 where
  pub front : List ℕ
  pub back : List ℕ
  pub whole : bytes ≡ front ++ spelling i ++ back
  pub begins : length front ≡ at
  pub spelled : IsSpelled (spelling i) i

between : (f : ℕ → ℕ) (at p : ℕ) (xs : List Item) (ns : List ℕ) (x : Item) (n : ℕ) (i : Instr)
    → slice_get xs p ≡ Some x → slice_get ns p ≡ Some n
    → instruction n (distance f (at + offset_at p xs ns) x) x ≡ Some i
    → AllByRecursion IsWritable (instructions f at xs ns)
    → IsBetween (flat_map bytes_of (instructions f at xs ns)) (offset_at p xs ns) i
between f at p [] ns x n i e g is fits = absurd (cc)
between f at p (y ∷ ys) [] x n i e g is fits = absurd (cc)
between f at zero (y ∷ ys) (m ∷ ms) x n i e g is fits =
    let y-is : y ≡ x = cc in
    let m-is : m ≡ n = cc in
    let made : instruction m (distance f at y) y ≡ Some i =
    ap (λ (k : ℕ). instruction k (distance f at y) y) m-is
    ∙ ap (λ (z : Item). instruction n (distance f at z) z) y-is
    ∙ ap (λ (o : ℕ). instruction n (distance f o x) x) (here at) ∙ is in
    let rest = flat_map bytes_of (instructions f (at + size y m) ys ms) in
    record {
      front = [];
      back = rest;
      whole = ap (λ (o : Option Instr). bytes_of o ++ rest) made;
      begins = refl;
      spelled = subst IsWritable made fits.0;
    }
  where
    here : (a : ℕ) → a ≡ a + 0
    here a = omega arith
between f at (suc p) (y ∷ ys) (m ∷ ms) x n i e g is fits =
    let later : IsBetween (flat_map bytes_of (instructions f (at + size y m) ys ms))
    (offset_at p ys ms) i =
    between f (at + size y m) p ys ms x n i e g
    (ap (λ (o : ℕ). instruction n (distance f o x) x)
    (there at (size y m) (offset_at p ys ms)) ∙ is) fits.1 in
    let first = bytes_of (instruction m (distance f at y) y) in
    record {
      front = first ++ later.front;
      back = later.back;
      whole =
          ap (λ (bytes : List ℕ). first ++ bytes) later.whole
          ∙ sym (append_assoc first (later.front ++ spelling i) later.back)
          ∙ ap (λ (bytes : List ℕ). bytes ++ later.back)
          (sym (append_assoc first later.front (spelling i)));
      begins =
          omega (
            arith,
            length-append first later.front,
            size_any m (distance f at y) y,
            later.begins,
          );
      spelled = later.spelled;
    }
  where
    there : (a s o : ℕ) → (a + s) + o ≡ a + (s + o)
    there a s o = omega arith

-- the next offset
offset-next : (p : ℕ) (xs : List Item) (ns : List ℕ) (x : Item) (n : ℕ) → slice_get xs p ≡ Some x
    → slice_get ns p ≡ Some n → offset_at (suc p) xs ns ≡ offset_at p xs ns + size x n
offset-next p [] ns x n e g = absurd (cc)
offset-next p (y ∷ ys) [] x n e g = absurd (cc)
offset-next zero (y ∷ ys) (m ∷ ms) x n e g =
    let y-is : y ≡ x = cc in
    let m-is : m ≡ n = cc in
    let same : size y m ≡ size x n = ap (λ (k : ℕ). size y k) m-is
    ∙ ap (λ (z : Item). size z n) y-is in
    omega (arith, same)
offset-next (suc p) (y ∷ ys) (m ∷ ms) x n e g = omega (arith, offset-next p ys ms x n e g)

pub placed_stand : PlacedInstructionsStand
placed_stand pool code attr placed place i h =
    let ns = placed.indices in
    let b : IsBetween (flat_map bytes_of (instructions (offset_of code.items ns) 0 code.items ns))
    (offset_at place code.items ns) i =
    between (offset_of code.items ns) 0 place code.items ns h.item h.index i h.stands h.named
    (ap (λ (o : ℕ). instruction h.index (distance (offset_of code.items ns) o h.item) h.item)
    (zero-first (offset_at place code.items ns)) ∙ h.is) placed.writable in
    let long : size h.item h.index ≡ length (spelling i) =
    sym (size_any h.index (distance (offset_of code.items ns) (offset_at place code.items ns)
    h.item) h.item) ∙ ap (λ (o : Option Instr). length (bytes_of o)) h.is in
    let next : length b.front + length (spelling i) ≡ offset_at (suc place) code.items ns =
    omega (
      arith,
      offset-next place code.items ns h.item h.index h.stands h.named,
      long,
      b.begins,
    ) in
    subst (λ (end : ℕ). Stands attr.code (offset_at place code.items ns) i end) next
    (subst (λ (at : ℕ). Stands attr.code at i (length b.front + length (spelling i))) b.begins
    (subst (λ (bytes : List ℕ). Stands bytes (length b.front) i (length b.front
    + length (spelling i))) (sym (placed.bytes ∙ b.whole))
    (written_again b.front b.back i b.spelled.fit b.spelled.has)))
  where
    zero-first : (o : ℕ) → 0 + o ≡ o
    zero-first o = omega arith
