-- The end of a comment, looked for byte by byte.
use Rattle.std.proofs.Common.{◌≡◌, ℕ, ◌+◌, ◌<◌, List, ◌∷◌, false, length, drop, get_or, drop-cons}
use Rattle.std.proofs.Common.{add-one, codes, Option, Some, None, refl, ap, arith, ◌∙◌}
use Rattle.std.specs.Option.{option_map}
use Rattle.par_lexer.specs.Pieces.{begins, through_close}

-- no `*/` begins at the first byte
unclosed : (byte : ℕ) (rest : List ℕ) → begins (codes "*/") (byte ∷ rest) ≡ false
    → through_close (byte ∷ rest) ≡ option_map (λ n. n + 1) (through_close rest)
unclosed byte rest not_here = rw not_here refl

moved : (at : ℕ) (found : Option ℕ)
    → option_map (λ n. at + n) (option_map (λ n. n + 1) found) ≡ option_map (λ n. at + 1 + n) found
moved at None = refl
moved at (Some n) = let sum : at + (n + 1) ≡ at + 1 + n = omega arith in ap (λ m. Some m) sum

-- the search goes on behind a byte at which no `*/` begins
pub searched_on : (text : List ℕ) (at : ℕ) (found : Option ℕ) → at < length text
    → begins (codes "*/") (drop at text) ≡ false
    → found ≡ option_map (λ n. at + n) (through_close (drop at text))
    → found ≡ option_map (λ n. at + 1 + n) (through_close (drop (at + 1) text))
searched_on text at found inside not_here so_far =
    let byte : ℕ = get_or text at 0 in
    let rest : List ℕ = drop (at + 1) text in
    let split : drop at text ≡ byte ∷ rest = simp add-one (drop-cons text at 0 inside) in
    let not_there : begins (codes "*/") (byte ∷ rest) ≡ false = rw split at not_here in
    so_far ∙ ap (λ bytes. option_map (λ n. at + n) (through_close bytes)) split
    ∙ ap (λ later. option_map (λ n. at + n) later) (unclosed byte rest not_there)
    ∙ moved at (through_close rest)
