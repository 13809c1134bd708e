use Rattle.std.proofs.Common.{rules, arith, ◌≡◌, ◌+◌, sym, ◌∙◌, None}
use Rattle.std.proofs.lemmas.Grind.{common_steps}
use Rattle.par_instr.proofs.Blanks.{blanks, none_listed, fills, IsBlank}
use Rattle.par_instr.proofs.Decodings.{decoded_at-stands}
use Rattle.par_instr.proofs.Places.{stands, begins, one_stands, Begins}
use Rattle.par_instr.specs.Spelling.{Stands, operand_bytes}
use Rattle.par_instr.proofs.spelling.decode.Goals as goal

-- the entry of the opcode is one of an instruction that has a spelling
pub fill-requires-clause-has : goal.fill-requires-clause-has
fill-requires-clause-has c =
    (blanks c.in-Some.field-0-0.now c.in-Some-blank.blank
    (sym c.blank.ensures ∙ c.in-Some-blank.is)).has

-- what is read of an opcode and the operands behind it stands at the place
pub returns-clause-found : goal.returns-clause-found
returns-clause-found c =
    stands c.args.code.now c.args.at c.size-size.result _ c.in-Some.field-0-0.now
    c.in-Some.behind.now c.in-Some-get.operands.now c.fill.result
    (omega arith) c.requires (search rules) (search rules) (search rules)
    (fills c.in-Some.field-0-0.now c.in-Some-blank.blank c.fill.result c.in-Some-get.operands.now
    (sym c.blank.ensures ∙ c.in-Some-blank.is)
    (search rules) c.fill.ensures.bytes c.fill.ensures.filled)

-- and it alone
pub returns-clause-whole : goal.returns-clause-whole
returns-clause-whole c = λ i next s.
    let found : Stands c.args.code.now c.args.at c.fill.result
    (c.args.at + 1 + c.size-size.result) =
    returns-clause-found c in
    let same =
    one_stands c.args.code.now c.args.at c.fill.result i
    (c.args.at + 1 + c.size-size.result) next found s in
    cc (same.0, same.1)

-- it is what is decoded there
pub returns-clause-decoded : goal.returns-clause-decoded
returns-clause-decoded c =
    decoded_at-stands c.args.code.now c.args.at c.fill.result (c.args.at + 1 + c.size-size.result)
    (returns-clause-found c)

-- nothing stands where the opcode is not listed
pub returns-in_default-blank-clause-whole : goal.returns-in_default-blank-clause-whole
returns-in_default-blank-clause-whole c = λ i next s.
    let unlisted : operand_bytes c.in-Some.field-0-0.now ≡ None =
    none_listed c.in-Some.field-0-0.now (sym c.blank.ensures ∙ c.in_default-blank.is) in
    let there : Begins c.in-Some.field-0-0.now c.in-Some.behind.now =
    begins c.args.code.now c.args.at c.in-Some.field-0-0.now c.in-Some.behind.now i next
    (search rules) s in
    absurd (cc (there.listed, unlisted))

-- nor where operands are missing
pub returns-in_default-get-clause-whole : goal.returns-in_default-get-clause-whole
returns-in_default-get-clause-whole c = λ i next s.
    let entry : IsBlank c.in-Some.field-0-0.now c.in-Some-blank.blank =
    blanks c.in-Some.field-0-0.now c.in-Some-blank.blank
    (sym c.blank.ensures ∙ c.in-Some-blank.is) in
    let there : Begins c.in-Some.field-0-0.now c.in-Some.behind.now =
    begins c.args.code.now c.args.at c.in-Some.field-0-0.now c.in-Some.behind.now i next
    (search rules) s in
    absurd (grind (
      arith,
      there.listed,
      there.room,
      entry.listed,
      c.size-size.ensures,
      c.row_of.ensures.numbers,
      c.in_default-get.ensures,
    ))

pub returns-in_default-get-clause-cut : goal.returns-in_default-get-clause-cut
returns-in_default-get-clause-cut c =
    let entry : IsBlank c.in-Some.field-0-0.now c.in-Some-blank.blank =
    blanks c.in-Some.field-0-0.now c.in-Some-blank.blank
    (sym c.blank.ensures ∙ c.in-Some-blank.is) in
    grind (arith, common_steps, entry.listed)

pub returns-in_default-get-clause-nothing : goal.returns-in_default-get-clause-nothing
returns-in_default-get-clause-nothing c =
    let entry : IsBlank c.in-Some.field-0-0.now c.in-Some-blank.blank =
    blanks c.in-Some.field-0-0.now c.in-Some-blank.blank
    (sym c.blank.ensures ∙ c.in-Some-blank.is) in
    grind (arith, common_steps, entry.listed)

pub returns-clause-cut : goal.returns-clause-cut
returns-clause-cut c =
    let entry : IsBlank c.in-Some.field-0-0.now c.in-Some-blank.blank =
    blanks c.in-Some.field-0-0.now c.in-Some-blank.blank
    (sym c.blank.ensures ∙ c.in-Some-blank.is) in
    grind (arith, common_steps, entry.listed)
