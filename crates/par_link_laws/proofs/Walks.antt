-- The walk through placed code comes to its end.
use Rattle.std.proofs.Common.{◌≡◌, ℕ, ◌+◌, ◌-◌, Bool, false, true, cond, nat_lt, List, [], ◌∷◌}
use Rattle.std.proofs.Common.{◌++◌, length, Option, Some, None, refl, ap, ◌∙◌, length-append}
use Rattle.std.proofs.Common.{arith, flat_map}
use Rattle.std.proofs.lemmas.Bool.{lt-ltb}
use Rattle.std.specs.List.{AllZip, AllByRecursion}
use Rattle.std.specs.Option.{option_and_then, option_or}
use Rattle.par_instr.specs.declared.instr.Instr.{Instr}
use Rattle.par_instr.specs.Spelling.{spelling, IsSpelled}
use Rattle.par_instr.proofs.Spellings.{each_is_listed}
use Rattle.par_pool.specs.declared.constant.Constant.{Constant}
use Rattle.par_class.specs.declared.file.CodeAttr.{CodeAttr}
use Rattle.par_class.specs.declared.file.MethodFile.{MethodFile}
use Rattle.par_compile_laws.specs.par_code_form.declared.labelled.Labelled.{Labelled}
use Rattle.par_compile_laws.specs.par_code_form.Placed.{bytes_of, IsWritable, offset_of}
use Rattle.par_compile_laws.specs.par_code_form.Placed.{instructions}
use Rattle.par_loader.specs.par_link.Stops.{passed, left_after, left, stop_at, first_stop}
use Rattle.par_compile_laws.specs.Members.{Member}
use Rattle.par_compile_laws.specs.Files.{IsCode, IsMethodOf}

-- so many bytes are passed by
skipped : (xs rest : List ℕ) → left_after (xs ++ rest) (length xs) ≡ left_after rest 0
unfolding left_after
skipped [] rest = refl
skipped (x ∷ xs) rest = skipped xs rest

-- an instruction is passed
spelled-left : (bytes rest : List ℕ) (i : Instr) → IsSpelled bytes i
    → left (bytes ++ rest) ≡ left rest
unfolding left_after
spelled-left [] rest i s = absurd (cc (s.bytes_are))
spelled-left (op ∷ operands) rest i s =
    let all = op ∷ (operands ++ rest) in
    let behind : length (operands ++ rest) ≡ length operands + length rest =
    length-append operands rest in
    let room : nat_lt (length operands) (length all) ≡ true =
    lt-ltb (length operands) (length all) (omega (arith, behind)) in
    ap (passed all (left_after (operands ++ rest))) (each_is_listed i op operands s)
    ∙ ap (λ (b : Bool). cond b (left_after (operands ++ rest) (length operands)) all) room
    ∙ skipped operands rest

all-left : (is : List (Option Instr)) → AllByRecursion IsWritable is
    → left (flat_map bytes_of is) ≡ []
unfolding left_after
all-left [] writable = refl
all-left (None ∷ is) writable = all-left is writable.1
all-left (Some i ∷ is) writable =
    spelled-left (spelling i) (flat_map bytes_of is) i writable.0 ∙ all-left is writable.1

module _ (pool : List Constant) (so : List ℕ → Bool) (never : so [] ≡ false) where
  code-passed : (code : Option Labelled) (attr : Option CodeAttr) → IsCode pool code attr
      → option_and_then (stop_at so) attr ≡ None
  code-passed None None is = refl
  code-passed None (Some attr) is = absurd is
  code-passed (Some code) None is = absurd is
  code-passed (Some code) (Some attr) is =
      let ended : left attr.code ≡ [] =
      ap left is.bytes
      ∙ all-left (instructions (offset_of code.items is.indices) 0 code.items is.indices)
      is.writable in
      ap (λ (rest : List ℕ). cond (so rest) (Some (length attr.code - length rest)) None) ended
      ∙ ap (λ (b : Bool). cond b (Some (length attr.code - 0)) None) never

  pub methods-passed : (members : List Member) (methods : List MethodFile)
      → AllZip (IsMethodOf pool) members methods → first_stop so methods ≡ None
  unfolding first_stop
  methods-passed [] [] all = refl
  methods-passed [] (m ∷ methods) all = absurd all
  methods-passed (x ∷ members) [] all = absurd all
  methods-passed (x ∷ members) (m ∷ methods) all =
      let first = all.0 in
      ap (λ (o : Option ℕ). option_or o (first_stop so methods))
      (code-passed x.code m.code first.code)
      ∙ methods-passed members methods all.1
