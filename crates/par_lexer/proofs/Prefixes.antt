-- The longest run at the head of some bytes.
use Rattle.std.proofs.Common.{◌≡◌, ℕ, ◌<◌, List, [], ◌∷◌, Bool, true, false, ◌&&◌, ◌||◌, cond, take}
use Rattle.std.proofs.Common.{refl, ap, ◌∙◌, arith, IsTrue}
use Rattle.std.specs.List.{All, list_all, prefix_len, take_while}
use Rattle.std.proofs.lemmas.List.Sums.{prefix_len_passes, take_while-cons}
use Rattle.std.proofs.lemmas.List.{get_or-take}
use Rattle.std.proofs.lemmas.List.Folds.{length-prefix_len}
use Rattle.par_base.specs.Names.{is_letter, is_digit, goes_on, is_spelled}
use Rattle.par_lexer.specs.Blanks.{first_is}

both : (a b : Bool) → a ≡ true → b ≡ true → (a && b) ≡ true
both a b first second = rw first second

either : (a b : Bool) → a ≡ true → (a || b) ≡ true
either a b first = rw first refl

-- if the first byte passes, so does each byte of the longer run
longer_passes : (test : ℕ → Bool) (byte : ℕ) (run : List ℕ) (passes : Bool) → test byte ≡ passes
    → list_all test run ≡ true → list_all test (cond passes (byte ∷ run) []) ≡ true
longer_passes test byte run true passes all = both (test byte) (list_all test run) passes all
longer_passes test byte run false passes all = refl

-- each byte of a run passes
all_pass : (test : ℕ → Bool) (bytes : List ℕ) → list_all test (take_while test bytes) ≡ true
all_pass test [] = refl
all_pass test (byte ∷ rest) =
    rw (take_while-cons test byte rest)
    (longer_passes test byte (take_while test rest) (test byte) refl (all_pass test rest))

-- a run that begins with a letter is spelled as a name is
pub spelled_run : (bytes : List ℕ) → IsTrue (first_is is_letter bytes)
    → IsTrue (is_spelled (take (prefix_len goes_on bytes) bytes))
spelled_run [] letter = letter
spelled_run (byte ∷ rest) letter =
    let goes : goes_on byte ≡ true = either (is_letter byte) (is_digit byte) letter in
    let run : take_while goes_on (byte ∷ rest) ≡ byte ∷ take_while goes_on rest =
    take_while-cons goes_on byte rest ∙ ap (λ b. cond b (byte ∷ take_while goes_on rest) []) goes in
    rw run (both (is_letter byte) (list_all goes_on (take_while goes_on rest)) letter
    (all_pass goes_on rest))

-- a run of digits has digits alone
pub digits_run : (bytes : List ℕ)
    → All (λ digit. IsTrue (is_digit digit)) (take (prefix_len is_digit bytes) bytes)
digits_run bytes k d inside =
    let within : k < prefix_len is_digit bytes = omega (arith, length-prefix_len is_digit bytes) in
    rw (get_or-take (prefix_len is_digit bytes) bytes k d within)
    (prefix_len_passes is_digit bytes k d within)
