-- Each method of a file that bytes spell has code, if it is not native.
use Rattle.std.proofs.Common.{◌≡◌, ℕ, zero, suc, true, false, cond, ◌==◌, List, [], ◌∷◌, map}
use Rattle.std.proofs.Common.{Some, refl, sym, ap, subst, ◌∙◌, arith, is_some, slice_get}
use Rattle.std.proofs.lemmas.Bool.{eqb-true}
use Rattle.std.proofs.lemmas.Option.{slice_get_within, get_or_from_slice_get}
use Rattle.std.specs.List.{count_by, All, AllByRecursion}
use Rattle.par_class.specs.declared.file.MethodFile.{MethodFile}
use Rattle.par_class.specs.declared.file.ClassFile.{ClassFile}
use Rattle.par_class.specs.declared.file.Piece.{Piece}
use Rattle.par_class.specs.declared.file.Piece.TheVariants.{Plain, Code}
use Rattle.par_class.specs.Layout.{Method, method_of, code_in}
use Rattle.par_class.specs.Spelling.{Spells, is_native, is_code, FitsMethod}
use Rattle.par_pool.specs.declared.constant.Constant.{Constant}
use Rattle.par_loader.specs.Reads.{Text, IsSpelled}
use Rattle.par_loader.specs.Begun.{AreCoded}

one-coded : (pieces : List Piece) (n : ℕ) → count_by is_code pieces ≡ suc n
    → is_some (code_in pieces) ≡ true
unfolding code_in
one-coded [] n many = absurd (omega (arith, many))
one-coded (Plain a ∷ pieces) n many = one-coded pieces n (omega (arith, many))
one-coded (Code name c ∷ pieces) n many = refl

method-coded : (entries : List Constant) (m : Method) → FitsMethod entries m
    → is_native m.access ≡ false → is_some (method_of m).code ≡ true
method-coded entries m fits native =
    one-coded m.pieces 0
    (eqb-true (count_by is_code m.pieces) 1
    (sym (ap (λ b. count_by is_code m.pieces == cond b 0 1) native) ∙ fits.coded))

methods-coded : (entries : List Constant) (ms : List Method) (n : ℕ) (m : MethodFile)
    → AllByRecursion (FitsMethod entries) ms → slice_get (map method_of ms) n ≡ Some m
    → is_native m.access ≡ false → is_some m.code ≡ true
methods-coded entries [] n m all at native = absurd (cc at)
methods-coded entries (x ∷ ms) zero m all at native =
    let same : method_of x ≡ m = cc at in
    ap (λ (m : MethodFile). is_some m.code) (sym same)
    ∙ method-coded entries x all.0 (ap (λ (m : MethodFile). is_native m.access) same ∙ native)
methods-coded entries (x ∷ ms) (suc n) m all at native =
    methods-coded entries ms n m all.1 at native

file-coded : (bytes : Text) (file : ClassFile) → Spells bytes file → (n : ℕ) (m : MethodFile)
    → slice_get file.methods n ≡ Some m → is_native m.access ≡ false → is_some m.code ≡ true
file-coded bytes file s n m at native =
    let same : map method_of s.laid.methods ≡ file.methods =
    ap (λ (f : ClassFile). f.methods) s.is_file in
    methods-coded s.laid.entries s.laid.methods n m s.fits.methods.1
    (ap (λ (ms : List MethodFile). slice_get ms n) same ∙ at) native

pub are_coded : (files : List ClassFile) → All IsSpelled files → AreCoded files
are_coded files spelled class place file m listed at native =
    let within = slice_get_within files class file listed in
    let is = get_or_from_slice_get files class file file listed in
    let one : IsSpelled file = subst IsSpelled is (spelled class file within) in
    file-coded one.0 file one.1 place m at native
