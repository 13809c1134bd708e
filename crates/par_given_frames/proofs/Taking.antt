-- What is counted of arguments along a descriptor, and read at its index.
use Rattle.std.proofs.Common.{◌≡◌, ℕ, ◌+◌, ◌==◌, Bool, true, false, cond, arith, List, [], ◌∷◌}
use Rattle.std.proofs.Common.{length, map, Option, Some, None, refl, ap, ◌∙◌}
use Rattle.std.specs.Prelude.{IfSome, slice_get}
use Rattle.std.specs.Option.{unwrap_or}
use Rattle.std.proofs.lemmas.Grind.{common_steps}
use Rattle.par_pool.specs.declared.constant.Constant.{Constant}
use Rattle.par_class.specs.declared.file.MethodFile.{MethodFile}
use Rattle.par_class.specs.declared.file.ClassFile.{ClassFile}
use Rattle.par_values.specs.declared.kind.Kind.{Kind}
use Rattle.par_single.specs.Descriptors.{Text, no_kinds, kind_before}
use Rattle.par_single.specs.Links.{signature_said}
use Rattle.par_single.specs.Members.{own_name, text_at, is_static}
use Rattle.par_kinds.specs.Kinds.{vkind}
use Rattle.par_kinds.specs.Linked.{given_to}
use Rattle.par_frames.specs.Given.{start_of}
use Rattle.par_frames.specs.par_link.Placed.{pool_texts}
use Rattle.par_kinds.proofs.par_link.Keyed.{text-made}
use Rattle.par_given_frames.specs.Takes.{takes_many, AreCounts, count_in, given_in}

-- the number of kinds
abbrev pub many_of : Option (List Kind × Text) → Option ℕ
many_of None = None
many_of (Some found) = Some (length found.0)

-- so many are known before those that follow
abbrev pub joined_many : ℕ → Option (List Kind × Text) → Option ℕ
joined_many many None = None
joined_many many (Some found) = Some (many + length found.0)

pub joined-first : (o : Option (List Kind × Text)) → joined_many 0 o ≡ many_of o
joined-first None = refl
joined-first (Some found) =
    let same : 0 + length found.0 ≡ length found.0 = omega arith in ap (λ (n : ℕ). Some n) same

pub joined-one : (many : ℕ) (kind : Kind) (o : Option (List Kind × Text))
    → joined_many many (kind_before kind o) ≡ joined_many (many + 1) o
joined-one many kind None = refl
joined-one many kind (Some found) =
    let same : many + length (kind ∷ found.0) ≡ many + 1 + length found.0 = omega arith in
    ap (λ (n : ℕ). Some n) same

-- where none follow they are all
pub joined-last : (many : ℕ) (rest : Text) (o : Option (List Kind × Text))
    → joined_many many (no_kinds rest) ≡ many_of o → IfSome o (λ found. many ≡ length found.0)
joined-last many rest None same = tt
joined-last many [] (Some found) same = absurd (cc same)
joined-last many (byte ∷ rest) (Some found) same = in_case (byte == 41) same where
  in_case : (b : Bool) → joined_many many (cond b (Some ([], rest)) None)
      ≡ Some (length found.0) → many ≡ length found.0
  in_case true all = let same : many + 0 ≡ length found.0 = cc all in omega (arith, same)
  in_case false all = absurd (cc all)

-- ---- what is read

count-read : (pool : List Constant) (counts : List ℕ) (index : ℕ)
    → counts ≡ map takes_many (pool_texts pool)
    → count_in counts index ≡ takes_many (text_at pool index)
count-read pool counts index all =
    ap (λ (ns : List ℕ). unwrap_or (slice_get ns index) 0) all ∙ text-made takes_many pool index

with-receiver : (static : Bool) (class : List ℕ) (takes : List Kind) (n : ℕ) → n ≡ length takes
    → cond static n (n + 1) ≡ length (map vkind (given_to static class takes))
with-receiver true class takes n is = grind (arith, common_steps)
with-receiver false class takes n is = grind (arith, common_steps)

pub given-many : (file : ClassFile) (m : MethodFile) (counts : List ℕ)
    → AreCounts file.pool.entries counts → given_in counts m ≡ length (start_of file m)
given-many file m counts are =
    with-receiver (is_static m.access) (own_name file)
    (signature_said (text_at file.pool.entries m.descriptor)).takes
    (count_in counts m.descriptor)
    (count-read file.pool.entries counts m.descriptor are.counted)
