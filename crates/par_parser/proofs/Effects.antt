-- Which alternative a token chooses among effects.
use Rattle.std.proofs.Common.{◌≡◌, Bool, true, false, [], ◌∷◌, ◌++◌, Option, Some, None, ap, refl}
use Rattle.std.proofs.Common.{◌∙◌, if◌then◌else◌}
use Rattle.par_grammar.specs.declared.sort.Sort.{Sort}
use Rattle.par_grammar.specs.declared.sort.Sort.TheVariants as sort
use Rattle.par_grammar.specs.Grammar.{alternative, name}
use Rattle.par_grammar.specs.Sorts.{same}
use Rattle.par_lexer.specs.declared.sign.TheConstants as sign
use Rattle.par_lexer.specs.declared.word.TheConstants as word
use Rattle.par_tree.specs.Grammar as g
use Rattle.par_tree.specs.Values.{paragon}
use Rattle.par_parser.specs.declared.effect.Mark.{Mark}
use Rattle.par_parser.specs.declared.effect.Mark.TheVariants.{Write, Expect, Open, Close, Throw}
use Rattle.par_parser.specs.Marks.{mark_of, part}

-- the alternative of an effect, with those behind it, or of none
abbrev chosen_by : Option Mark → Option g.Symbols
chosen_by None = Some []
chosen_by (Some mark) = Some (part mark ++ name g.MoreEffects ∷ [])

abbrev in_order : {A : Type 0} → Bool → Bool → Bool → Bool → Bool → A → A → A → A → A → A → A
in_order a b c d e u v w x y z =
    if a then u else if b then v else if c then w else if d then x else if e then y else z

ordered : (a b c d e : Bool)
    → in_order a b c d e (chosen_by (Some Write)) (chosen_by (Some Expect)) (chosen_by (Some Open))
    (chosen_by (Some Close)) (chosen_by (Some Throw)) (Some [])
    ≡ chosen_by (in_order a b c d e (Some Write) (Some Expect) (Some Open) (Some Close)
    (Some Throw) None)
ordered true b c d e = refl
ordered false true c d e = refl
ordered false false true d e = refl
ordered false false false true e = refl
ordered false false false false true = refl
ordered false false false false false = refl

alternative_is : (next : Sort) → alternative paragon g.MoreEffects next ≡ chosen_by (mark_of next)
alternative_is next =
    ordered (same next (sort.Sign sign.BANG)) (same next (sort.Sign sign.TILDE))
    (same next (sort.Sign sign.PLUS)) (same next (sort.Sign sign.MINUS))
    (same next (sort.Word word.THROWS))

pub one_more : (next : Sort) (mark : Mark) → mark_of next ≡ Some mark
    → alternative paragon g.MoreEffects next ≡ Some (part mark ++ name g.MoreEffects ∷ [])
one_more next mark begins = alternative_is next ∙ ap chosen_by begins

pub no_more : (next : Sort) → mark_of next ≡ None → alternative paragon g.MoreEffects next ≡ Some []
no_more next begins_none = alternative_is next ∙ ap chosen_by begins_none
