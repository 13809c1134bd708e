-- Which inputs a program takes.
use Rattle.std.specs.Prelude.{ℕ, Bool, not, List, Option, map}
use Rattle.std.specs.List.{filter, flat_map, list_any, position}
use Rattle.par_typed.specs.declared.table.ChannelInfo.{ChannelInfo}
use Rattle.par_typed.specs.declared.table.ClassInfo.{ClassInfo}
use Rattle.par_typed.specs.declared.table.Table.{Table}
use Rattle.par_values.specs.declared.inputs.ChannelInput.{ChannelInput}
use Rattle.par_secrecy.specs.Subject.{is_of}
use Rattle.par_run_laws.specs.Names.{Name, Member}

-- the input channels among those of a class
abbrev pub inputs_of : Name → List ChannelInfo → List Member
inputs_of class channels =
    map (λ (k : ChannelInfo). record { class = class; name = k.name })
    (filter (λ k. k.is_input) channels)

abbrev pub inputs_in : ClassInfo → List Member
inputs_in class = inputs_of class.name class.channels

-- the input channels of a program
abbrev pub input_channels : Table → List Member
input_channels table = flat_map inputs_in table.classes

-- whether the line is that of one of these channels
abbrev pub is_among : List Member → ChannelInput → Bool
is_among channels line = list_any (λ m. is_of m.class m.name line) channels

-- the place of the first line that is that of no input channel of the program
abbrev pub first_misfit : Table → List ChannelInput → Option ℕ
first_misfit table lines = position (λ line. not (is_among (input_channels table) line)) lines
