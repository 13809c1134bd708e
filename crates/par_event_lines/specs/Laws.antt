-- What lines tell of events: what is shown of a run is as good as its events.
use Rattle.std.specs.Prelude.{◌≡◌, ◌<◌, ◌^◌, FitsSigned}
use Rattle.std.specs.Int.{w32}
use Rattle.par_base.specs.Names.{IsName}
use Rattle.par_values.specs.declared.run.Val.{Val}
use Rattle.par_values.specs.declared.run.Val.TheVariants.{Int, Null, Ref}
use Rattle.par_values.specs.declared.run.Event.{Event}
use Rattle.par_values.specs.declared.run.Event.TheVariants.{Out, Set, Put, Born}
use Rattle.par_event_lines.specs.Texts.{event_text, line}

-- a class has a name, and numbers are of 32 bits
abbrev pub IsValue : Val → Type 0
IsValue (Int n) = FitsSigned w32 n
IsValue Null = Unit {0}
IsValue (Ref class n) = IsName class × (n < 2 ^ 32)

-- classes and their members have names, and numbers are of 32 bits
abbrev pub IsEvent : Event → Type 0
IsEvent (Out class channel n) = IsName class × IsName channel × FitsSigned w32 n
IsEvent (Set class field v) = IsName class × IsName field × IsValue v
IsEvent (Put class n field v) = IsName class × (n < 2 ^ 32) × IsName field × IsValue v
IsEvent (Born class n) = IsName class × (n < 2 ^ 32)

-- two events that have one line are the same event
abbrev pub EqualLinesAreEqualEvents : Type 0
EqualLinesAreEqualEvents =
    (one other : Event) → IsEvent one → IsEvent other
    → line (event_text one) ≡ line (event_text other) → one ≡ other
