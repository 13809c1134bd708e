use Rattle.std.proofs.Common.{List, ℕ, ◌≡◌, ap, length, true, false, sym, subst, ◌∙◌, arith}
use Rattle.par_class.specs.declared.file.MethodFile.{MethodFile}
use Rattle.par_class.specs.Spelling.{Spells}
use Rattle.par_compile.specs.Whole.{has_long_code}
use Rattle.par_compile.proofs.Long.{file_long}
use Rattle.par_compile.proofs.bytes.short_bytes.Goals as goal

pub write_class-requires : goal.write_class-requires
write_class-requires c =
    let short : has_long_code c.args.file.now.methods ≡ false =
    ap (λ (ms : List MethodFile). has_long_code ms) (sym c.as_slice.ensures)
    ∙ (sym c.has_long_code-long.ensures ∙ c.if-long.false) in
    c.requires short

pub returns-then-long : goal.returns-then-long
returns-then-long c =
    let long : has_long_code c.args.file.now.methods ≡ true =
    ap (λ (ms : List MethodFile). has_long_code ms) (sym c.as_slice.ensures)
    ∙ (sym c.has_long_code-long.ensures ∙ c.if-long.true) in
    file_long c.args.file.now long

pub returns-then-len-gt-LONGEST_CLASS : goal.returns-then-len-gt-LONGEST_CLASS
returns-then-len-gt-LONGEST_CLASS c =
    omega (
      arith,
      c.len.ensures,
      c.if-len-gt-LONGEST_CLASS.true,
      ap length (c.wrap-bytes.ensures ∙ c.in_ok-write_class.ensures.laid),
    )

pub returns : goal.returns
returns c = (
  subst (λ (bytes : List ℕ). Spells bytes c.args.file.now) (sym c.wrap-bytes.ensures)
      c.in_ok-write_class.ensures.spelled,
  omega (arith, c.len.ensures, c.if-len-gt-LONGEST_CLASS.false),
)
