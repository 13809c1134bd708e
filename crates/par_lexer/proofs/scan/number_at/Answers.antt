use Rattle.std.proofs.Common.{◌≡◌, List, ℕ, IsTrue, take, subst, sym, ap, ◌∙◌}
use Rattle.std.specs.List.{All, prefix_len}
use Rattle.par_base.specs.Names.{is_digit}
use Rattle.par_lexer.proofs.Prefixes.{digits_run}
use Rattle.par_lexer.proofs.scan.number_at.Goals as goal

pub value_of-requires-clause-digits : goal.value_of-requires-clause-digits
value_of-requires-clause-digits c =
    let run : c.split_at.result.0.now
    ≡ take (prefix_len is_digit c.args.bytes.now) c.args.bytes.now =
    c.split_at.ensures.front ∙ ap (λ n. take n c.args.bytes.now) c.digits_length.ensures.run in
    let Digits : List ℕ → Type 0 = λ digits. All (λ digit. IsTrue (is_digit digit)) digits in
    subst Digits (sym run) (digits_run c.args.bytes.now)
