-- The lines that tell of a run: one for each event, and one for the ending.
use Rattle.std.specs.Prelude.{ℕ, List, [], ◌∷◌, ◌++◌, map, codes}
use Rattle.std.specs.Fmt.{decimal, signed_decimal}
use Rattle.par_values.specs.declared.run.Val.{Val}
use Rattle.par_values.specs.declared.run.Val.TheVariants.{Int, Null, Ref}
use Rattle.par_values.specs.declared.run.Event.{Event}
use Rattle.par_values.specs.declared.run.Event.TheVariants.{Out, Set, Put, Born}
use Rattle.par_values.specs.declared.run.Ending.TheVariants.{End, Uncaught, Stopped}
use Rattle.par_values.specs.Ran.{Ran, Outcome, Fine, BadCode}

abbrev pub Text : Type 0
Text = List ℕ

-- an object, by its class and its number among the objects of that class
abbrev pub object_text : Text → ℕ → Text
object_text class n = class ++ (codes "#" ++ decimal n)

abbrev pub value_text : Val → Text
value_text (Int n) = signed_decimal n
value_text Null = codes "null"
value_text (Ref class n) = object_text class n

-- the line of an event, without its end
abbrev pub event_text : Event → Text
event_text (Out class channel n) =
    codes "out " ++ (class ++ (codes "." ++ (channel ++ (codes " " ++ signed_decimal n))))
event_text (Set class field v) =
    codes "set " ++ (class ++ (codes "." ++ (field ++ (codes " " ++ value_text v))))
event_text (Put class n field v) =
    codes "put "
    ++ (object_text class n ++ (codes "." ++ (field ++ (codes " " ++ value_text v))))
event_text (Born class n) = codes "new " ++ object_text class n

-- the line of an ending, without its end
abbrev pub ending_text : Outcome → Text
ending_text (Fine End) = codes "end"
ending_text (Fine (Uncaught class)) = codes "uncaught " ++ class
ending_text (Fine Stopped) = codes "budget"
ending_text (BadCode class method offset reason) =
    codes "bad code "
    ++ (class ++ (codes "." ++ (method
    ++ (codes " " ++ (decimal offset ++ (codes " " ++ decimal reason))))))

-- a line ends with byte 10
abbrev pub line : Text → Text
line text = text ++ codes "\n"

-- the lines of a run
abbrev pub lines : Ran → List Text
lines ran = map (λ e. line (event_text e)) ran.events ++ line (ending_text ran.ending) ∷ []

-- the status of a run
abbrev pub status : Outcome → ℕ
status (Fine End) = 0
status (Fine (Uncaught class)) = 10
status (Fine Stopped) = 11
status (BadCode class method offset reason) = 14
