-- The texts of class files are counted by four bytes.
use Rattle.std.proofs.Common.{◌*◌, ◌<◌, ◌≤◌, ◌^◌, List, [], ◌∷◌, length, arith}
use Rattle.std.proofs.lemmas.List.{length-append}
use Rattle.std.proofs.lemmas.List.Elements.{All-head, All-tail}
use Rattle.std.specs.List.{All, flat_map}
use Rattle.par_single.specs.par_pool.declared.constant.Constant.{Constant}
use Rattle.par_single.specs.par_pool.declared.constant.Constant.TheVariants as constant
use Rattle.par_single.specs.par_class.declared.file.ClassFile.{ClassFile}
use Rattle.par_references.specs.Conditions.{IsSmall}
use Rattle.par_references.specs.Placed.{text_in, texts_in, all_texts}

at-most-one : (c : Constant) → length (text_in c) ≤ 1
at-most-one (constant.Utf8 text) = omega arith
at-most-one (constant.Integer n) = omega arith
at-most-one (constant.Class name) = omega arith
at-most-one (constant.Text text) = omega arith
at-most-one (constant.Field class member) = omega arith
at-most-one (constant.Method class member) = omega arith
at-most-one (constant.NameType name descriptor) = omega arith

in-pool : (entries : List Constant) → length (texts_in entries) ≤ length entries
in-pool [] = omega arith
in-pool (c ∷ entries) =
    let one = at-most-one c in
    let rest = in-pool entries in
    let both = length-append (text_in c) (texts_in entries) in
    omega (arith, one, rest, both)

in-files : (files : List ClassFile) → All IsSmall files
    → length (flat_map (λ (f : ClassFile). texts_in f.pool.entries) files) ≤ 65535 * length files
in-files [] small = omega arith
in-files (file ∷ files) small =
    let here = (All-head IsSmall file files small).entries in
    let rest = in-files files (All-tail IsSmall file files small) in
    let many = in-pool file.pool.entries in
    let both =
    length-append (texts_in file.pool.entries)
    (flat_map (λ (f : ClassFile). texts_in f.pool.entries) files) in
    omega (arith, here, rest, many, both)

-- few files of few constants each have few texts
pub texts-few : (files : List ClassFile) → length files < 2 ^ 16 → All IsSmall files
    → length (all_texts files) < 2 ^ 32
texts-few files few small = let most = in-files files small in omega (arith, few, most)
