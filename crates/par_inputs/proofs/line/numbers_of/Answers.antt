use Rattle.std.proofs.Common.{◌≡◌, ◌++◌, ◌∷◌, [], Some, None, false, FitsSigned, w32, rules, arith}
use Rattle.std.proofs.Common.{sym, ap, ◌∙◌}
use Rattle.std.specs.List.{before_first}
use Rattle.std.proofs.lemmas.Bool.Decides.{nat_tests}
use Rattle.std.proofs.lemmas.Int.{to_z-of_z}
use Rattle.std.proofs.lemmas.List.{nil_from_length}
use Rattle.par_inputs.specs.Numbers.{number_of, numbers_of}
use Rattle.par_inputs.proofs.Words.{is_space, behind_these, none_at_first, none_at_word, word_read}
use Rattle.par_inputs.proofs.Words.{all_read}
use Rattle.par_inputs.proofs.line.numbers_of.Goals as goal

pub returns-then-first-ne32 : goal.returns-then-first-ne32
returns-then-first-ne32 c =
    let other : is_space c.in-Some.first.now ≡ false = grind (arith, nat_tests) in
    sym (none_at_first _ _ _ _ _ c.words.invariant c.in-Some.ensures.cases.0 other)

pub returns-in_default-number_of : goal.returns-in_default-number_of
returns-in_default-number_of c =
    let none : number_of (before_first is_space c.in-Some.behind.now) ≡ None =
    ap number_of (sym c.first_word.ensures.word) ∙ sym c.number_of.ensures
    ∙ c.in_default-number_of.is in
    sym (none_at_word _ _ _ _ _ c.words.invariant c.in-Some.ensures.cases.0
    c.if-first-ne32.false none)

pub words-preserved : goal.words-preserved
words-preserved c =
    let is : number_of (before_first is_space c.in-Some.behind.now)
    ≡ Some c.in-Some-number_of.number =
    ap number_of (sym c.first_word.ensures.word) ∙ sym c.number_of.ensures
    ∙ c.in-Some-number_of.is in
    let pushed : c.push.new.self ≡ c.words.numbers ++ c.in-Some-number_of.number ∷ [] =
    let fits : FitsSigned w32 c.in-Some-number_of.number = search rules in
    c.in_ok-push.ensures.ok ∙ ap (λ number. c.words.numbers ++ number ∷ [])
    (to_z-of_z w32 _ fits) in
    word_read _ _ _ _ _ _ c.words.invariant c.in-Some.ensures.cases.0 c.if-first-ne32.false is
    ∙ ap (λ left. behind_these (c.words.numbers ++ c.in-Some-number_of.number ∷ [])
    (numbers_of left)) (sym c.first_word.ensures.left)
    ∙ ap (λ numbers. behind_these numbers (numbers_of c.first_word.result.1.now)) (sym pushed)

pub returns : goal.returns
returns c =
    sym (all_read _ _ _ c.words.invariant
    (nil_from_length c.words.rest.now c.in_default.ensures.cases))
