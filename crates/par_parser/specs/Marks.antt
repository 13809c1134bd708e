-- What an effect begins with, and what it is read by.
use Rattle.std.specs.Prelude.{if◌then◌else◌, [], ◌∷◌, Option, Some, None}
use Rattle.par_grammar.specs.declared.sort.Sort.{Sort}
use Rattle.par_grammar.specs.declared.sort.Sort.TheVariants as sort
use Rattle.par_grammar.specs.Grammar.{name, builds}
use Rattle.par_grammar.specs.Sorts.{same}
use Rattle.par_lexer.specs.declared.sign.TheConstants as sign
use Rattle.par_lexer.specs.declared.word.TheConstants as word
use Rattle.par_tree.specs.Grammar as g
use Rattle.par_tree.specs.Grammar.{Symbols, sign_, word_, ident}
use Rattle.par_parser.specs.declared.effect.Mark.{Mark}
use Rattle.par_parser.specs.declared.effect.Mark.TheVariants.{Write, Expect, Open, Close, Throw}

-- the effect that a token of this sort begins
abbrev pub mark_of : Sort → Option Mark
mark_of next =
    if same next (sort.Sign sign.BANG) then Some Write
    else if same next (sort.Sign sign.TILDE) then Some Expect
    else if same next (sort.Sign sign.PLUS) then Some Open
    else if same next (sort.Sign sign.MINUS) then Some Close
    else if same next (sort.Word word.THROWS) then Some Throw else None

-- an effect, without those behind it
abbrev pub part : Mark → Symbols
part Write = sign_ sign.BANG ∷ name g.Policy ∷ builds g.NextWrite ∷ []
part Expect = sign_ sign.TILDE ∷ name g.Lock ∷ builds g.NextExpect ∷ []
part Open = sign_ sign.PLUS ∷ name g.Lock ∷ builds g.NextOpen ∷ []
part Close = sign_ sign.MINUS ∷ name g.Lock ∷ builds g.NextClose ∷ []
part Throw = word_ word.THROWS ∷ ident ∷ name g.Policy ∷ builds g.NextThrow ∷ []
