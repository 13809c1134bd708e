use Rattle.std.proofs.Common.{◌≡◌, ◌+◌, ℕ, Bool, Some, true, length, sym, ap, ◌∙◌, arith}
use Rattle.std.specs.Prelude.{codes}
use Rattle.std.proofs.lemmas.List.Sums.{position_or_len_is}
use Rattle.par_pool.specs.declared.constant.Constant.{Constant}
use Rattle.par_pool.specs.declared.constant.Constant.TheVariants.{Class}
use Rattle.par_class.specs.Spelling.{is_named}
use Rattle.par_class.proofs.whole.code_index.Goals as goal

abbrev is_code : Constant → Bool
is_code constant = is_named (codes "Code") (Some constant)

pub returns-then-is_code : goal.returns-then-is_code
returns-then-is_code c =
    let found : is_code c.index-entries-place.result ≡ true =
    sym c.is_code.ensures ∙ c.if-is_code.true in
    ap (λ (n : ℕ). n + 1)
    (sym (position_or_len_is is_code c.args.entries.now c.loop-place.place
    c.index-entries-place.result (omega (arith, c.loop-place-test.true))
    (λ k lt. c.loop-place.invariant k c.index-entries-place.result (omega arith) lt)
    (λ _. ap is_code (sym c.index-entries-place.is) ∙ found)))

pub returns : goal.returns
returns c =
    ap (λ (n : ℕ). n + 1)
    (sym (position_or_len_is is_code c.args.entries.now (length c.args.entries.now) (Class 0)
    (omega arith)
    (λ k lt. c.loop-place.invariant k (Class 0) (omega arith)
    (omega (arith, lt, c.loop-place-test.false))) (λ lt. absurd (omega (arith, lt)))))
