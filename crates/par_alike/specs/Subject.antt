-- A program as an observer meets it: its runs, and the policies that it declares.
use Rattle.std.specs.Prelude.{ℕ, if◌then◌else◌, List, [], ◌∷◌, length, map, Option, Some, None}
use Rattle.std.specs.Prelude.{slice_get}
use Rattle.std.specs.List.{filter, flat_map}
use Rattle.std.specs.Str.{bytes_eq}
use Rattle.par_typed.specs.declared.table.ChannelInfo.{ChannelInfo}
use Rattle.par_typed.specs.declared.table.ClassInfo.{ClassInfo}
use Rattle.par_typed.specs.declared.table.FieldInfo.{FieldInfo}
use Rattle.par_typed.specs.declared.table.Table.{Table}
use Rattle.par_typed.specs.declared.program.Typed.{Typed}
use Rattle.par_values.specs.declared.run.Event.{Event}
use Rattle.par_values.specs.declared.run.Event.TheVariants.{Out, Set, Put, Born}
use Rattle.par_run_laws.specs.par_secrecy.Subject.{Name, Policy, InputChannel, Subject}
use Rattle.par_run_laws.specs.Source.{source}

-- nobody sees what has no policy
abbrev pub policy_or_none : Option Policy → Policy
policy_or_none None = []
policy_or_none (Some policy) = policy

-- the policy of a number
abbrev pub policy_at : Table → ℕ → Policy
policy_at table number = policy_or_none (slice_get table.policies number)

-- the policy of the channel of this name
abbrev pub channel_policy : Table → Name → List ChannelInfo → Policy
channel_policy table name [] = []
channel_policy table name (c ∷ cs) =
    if bytes_eq c.name name then policy_at table c.policy else channel_policy table name cs

-- the policy of the field of this name
abbrev pub field_policy : Table → Name → List FieldInfo → Policy
field_policy table name [] = []
field_policy table name (f ∷ fs) =
    if bytes_eq f.name name then policy_at table f.policy else field_policy table name fs

-- what is said of the class of this name; nobody sees what is said of no class
abbrev pub of_class : Name → (ClassInfo → Policy) → List ClassInfo → Policy
of_class name said [] = []
of_class name said (c ∷ cs) = if bytes_eq c.name name then said c else of_class name said cs

-- An event has the policy of its channel or of its field, and the birth of an object that of its
-- class.
abbrev pub event_policy : Table → Event → Policy
event_policy table (Out class name v) =
    of_class class (λ c. channel_policy table name c.channels) table.classes
event_policy table (Set class name v) =
    of_class class (λ c. field_policy table name c.fields) table.classes
event_policy table (Put class n name v) =
    of_class class (λ c. field_policy table name c.fields) table.classes
event_policy table (Born class n) = of_class class (λ c. policy_at table c.birth) table.classes

abbrev pub input_of : Table → Name → ChannelInfo → InputChannel
input_of table class c =
    record { class = class; name = c.name; policy = policy_at table c.policy }

-- the input channels of a class
abbrev pub inputs_in : Table → ClassInfo → List InputChannel
inputs_in table class =
    map (input_of table class.name) (filter (λ c. c.is_input) class.channels)

abbrev pub input_channels : Table → List InputChannel
input_channels table = flat_map (inputs_in table) table.classes

abbrev pub subject : Typed → Subject
subject typed = record {
  actors = length typed.table.actors;
  inputs = input_channels typed.table;
  policy = event_policy typed.table;
  run = source typed;
}
