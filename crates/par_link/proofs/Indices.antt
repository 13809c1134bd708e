-- The index of each broken rule fits four bytes.
use Rattle.std.proofs.Common.{◌≡◌, ℕ, suc, ◌-◌, ◌<◌, ◌≤◌, ◌^◌, Bool, true, List, [], ◌∷◌, length}
use Rattle.std.proofs.Common.{Some, None, Option, sym, subst, arith}
use Rattle.std.specs.Prelude.{IfSome}
use Rattle.std.proofs.lemmas.Bool.{and_parts, leb-true}
use Rattle.std.specs.Option.{option_map, option_or, option_and_then}
use Rattle.std.proofs.lemmas.List.{length-map}
use Rattle.std.specs.List.{list_all, position}
use Rattle.par_single.specs.par_class.declared.file.ClassFile.{ClassFile}
use Rattle.par_single.specs.par_class.declared.file.CodeAttr.{CodeAttr}
use Rattle.par_single.specs.par_class.declared.file.MethodFile.{MethodFile}
use Rattle.par_single.specs.Described.{field_named, method_named}
use Rattle.par_link.specs.declared.fault.Fault.{Fault}
use Rattle.par_link.specs.declared.sort.Sort.{Sort}
use Rattle.par_link.specs.declared.sort.Sort.TheVariants.{Class, Field, Method}
use Rattle.par_references.specs.Conditions.{is_short, IsSmall}
use Rattle.par_references.specs.Named.{is_same, fields_of, methods_of}
use Rattle.par_references.proofs.Below.{IsBelow, cond-below, first-below, place-below}
use Rattle.par_link.specs.Rules.{repeated_field, repeated_method, wrong_field}
use Rattle.par_link.specs.Rules.{wrong_method, is_absent, absent, unlisted, cut}
use Rattle.par_link.specs.Stops.{left, stop_at, stop_in, first_stop, is_unlisted, is_cut}
use Rattle.par_link.specs.Order.{at, member_fault, description_fault, constant_fault, code_fault}
use Rattle.par_link.specs.Order.{file_fault}

-- ---- code

or-below : (bound : ℕ) (a b : Option ℕ) → IsBelow bound a → IsBelow bound b
    → IsBelow bound (option_or a b)
or-below bound None b here later = later
or-below bound (Some n) b here later = here

stop_at-below : (so : List ℕ → Bool) (c : CodeAttr) → length c.code ≤ 65535
    → IsBelow 65536 (stop_at so c)
stop_at-below so c few =
    cond-below 65536 (length c.code - length (left c.code)) (so (left c.code)) None (omega arith) tt

stop_in-below : (so : List ℕ → Bool) (o : Option CodeAttr) → is_short o ≡ true
    → IsBelow 65536 (option_and_then (stop_at so) o)
stop_in-below so None few = tt
stop_in-below so (Some c) few = stop_at-below so c (leb-true _ _ few)

stop-below : (so : List ℕ → Bool) (methods : List MethodFile)
    → list_all (λ m. is_short m.code) methods ≡ true → IsBelow 65536 (first_stop so methods)
unfolding first_stop
stop-below so [] few = tt
stop-below so (m ∷ methods) few =
    let each = and_parts (is_short m.code) (list_all (λ m. is_short m.code) methods) few in
    or-below 65536 (stop_in so m) (first_stop so methods) (stop_in-below so m.code each.0)
    (stop-below so methods each.1)

-- ---- the rules of a file

abbrev pub FitsIndex : Option Fault → Type 0
FitsIndex o = IfSome o (λ f. f.index < 2 ^ 32)

at-fits : (number : ℕ) (o : Option ℕ) → IsBelow 65536 o → FitsIndex (at number o)
at-fits number None below = tt
at-fits number (Some n) below = let n_below : n < 65536 = below in omega arith

or-fits : (a b : Option Fault) → FitsIndex a → FitsIndex b → FitsIndex (option_or a b)
or-fits None b here later = later
or-fits (Some f) b here later = here

suc-below : (o : Option ℕ) → IsBelow 65535 o → IsBelow 65536 (option_map suc o)
suc-below None below = tt
suc-below (Some n) below = let n_below : n < 65535 = below in omega arith

members-fit : (file : ClassFile) → IsSmall file → FitsIndex (member_fault file)
unfolding member_fault
members-fit file small =
    let fields : length (fields_of file) ≡ length file.fields =
    length-map file.fields (field_named file.pool.entries) in
    let methods : length (methods_of file) ≡ length file.methods =
    length-map file.methods (method_named file.pool.entries) in
    or-fits (at 43 (repeated_field file)) (at 43 (repeated_method file))
    (at-fits 43 (repeated_field file)
    (first-below is_same 65536 (fields_of file) (omega (arith, small.fields))))
    (at-fits 43 (repeated_method file)
    (first-below is_same 65536 (methods_of file) (omega (arith, small.methods))))

descriptions-fit : (file : ClassFile) → IsSmall file → FitsIndex (description_fault file)
unfolding description_fault
descriptions-fit file small =
    or-fits (at 44 (wrong_field file)) (at 44 (wrong_method file))
    (at-fits 44 (wrong_field file) (place-below _ 65536 file.fields (omega (arith, small.fields))))
    (at-fits 44 (wrong_method file)
    (place-below _ 65536 file.methods (omega (arith, small.methods))))

absent-below : (sort : Sort) (files : List ClassFile) (file : ClassFile) → IsSmall file
    → IsBelow 65536 (absent sort files file)
absent-below sort files file small =
    suc-below (position (is_absent sort files file.pool.entries) file.pool.entries)
    (place-below (is_absent sort files file.pool.entries) 65535 file.pool.entries
    (omega (arith, small.entries)))

constants-fit : (files : List ClassFile) (file : ClassFile) → IsSmall file
    → FitsIndex (constant_fault files file)
unfolding constant_fault
constants-fit files file small =
    or-fits (option_or (at 40 (absent Class files file)) (at 41 (absent Field files file)))
    (at 42 (absent Method files file))
    (or-fits (at 40 (absent Class files file)) (at 41 (absent Field files file))
    (at-fits 40 (absent Class files file) (absent-below Class files file small))
    (at-fits 41 (absent Field files file) (absent-below Field files file small)))
    (at-fits 42 (absent Method files file) (absent-below Method files file small))

code-fits : (file : ClassFile) → IsSmall file → FitsIndex (code_fault file)
unfolding code_fault
code-fits file small =
    or-fits (at 20 (unlisted file)) (at 21 (cut file))
    (at-fits 20 (unlisted file) (stop-below is_unlisted file.methods small.code))
    (at-fits 21 (cut file) (stop-below is_cut file.methods small.code))

file-fits : (files : List ClassFile) (file : ClassFile) → IsSmall file
    → FitsIndex (file_fault files file)
file-fits files file small =
    let members = members-fit file small in
    let descriptions = descriptions-fit file small in
    let constants = constants-fit files file small in
    let first = or-fits (member_fault file) (description_fault file) members descriptions in
    let second =
    or-fits (option_or (member_fault file) (description_fault file))
    (constant_fault files file) first constants in
    or-fits (option_or (option_or (member_fault file) (description_fault file))
    (constant_fault files file)) (code_fault file) second (code-fits file small)

-- what is told of a file fits
pub fault-fits : (files : List ClassFile) (file : ClassFile) (f : Fault) → IsSmall file
    → Some f ≡ file_fault files file → f.index < 2 ^ 32
fault-fits files file f small is = subst FitsIndex (sym is) (file-fits files file small)
