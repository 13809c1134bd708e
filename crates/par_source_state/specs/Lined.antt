-- What the lines give to the input channels, by numbers.
use Rattle.std.specs.Prelude.{◌≡◌, ℤ, Bool, ◌&&◌, List, map}
use Rattle.std.specs.Borrow.{Bor}
use Rattle.std.specs.List.{position}
use Rattle.std.specs.Str.{bytes_eq}
use Rattle.std.specs.HashMap.{get}
use Rattle.par_index.specs.declared.firsts.Firsts.{Firsts}
use Rattle.par_typed.specs.declared.table.ChannelInfo.{ChannelInfo}
use Rattle.par_typed.specs.declared.table.ClassInfo.{ClassInfo}
use Rattle.par_values.specs.declared.inputs.ChannelInput.{ChannelInput}
use Rattle.par_secrecy.specs.Subject.{given}
use Rattle.par_run_laws.specs.Names.{Name}

-- the names of a class and of a channel, as references
abbrev pub Names : Type 0
Names = Bor Name × Bor Name

abbrev pub same_names : Names → Names → Bool
same_names a b = bytes_eq a.0.now b.0.now && bytes_eq a.1.now b.1.now

-- a line is that of these names
abbrev pub is_line : Name → Name → ChannelInput → Bool
is_line class channel line = bytes_eq class line.class && bytes_eq channel line.channel

-- Each channel has its first line at this place.
abbrev pub AreLines : List ChannelInput → Firsts Names → Type 0
AreLines lines firsts =
    (names : Names) → get same_names firsts.places names
    ≡ position (is_line names.0.now names.1.now) lines

-- what the lines give to the channels of a class
abbrev pub row_of : List ChannelInput → Name → List ChannelInfo → List (List ℤ)
row_of lines class channels = map (λ channel. given lines class channel.name) channels

-- what the lines give to the channels, class by class
abbrev pub rows_of : List ChannelInput → List ClassInfo → List (List (List ℤ))
rows_of lines classes = map (λ class. row_of lines class.name class.channels) classes

abbrev pub row_shown : List (Bor (List ℤ)) → List (List ℤ)
row_shown row = map (λ numbers. numbers.now) row

abbrev pub rows_shown : List (List (Bor (List ℤ))) → List (List (List ℤ))
rows_shown rows = map row_shown rows

abbrev pub names_of : ChannelInput → Name × Name
names_of line = (line.class, line.channel)

-- the names of lines
abbrev pub named : List ChannelInput → List (Name × Name)
named lines = map names_of lines

abbrev pub shown_of : Names → Name × Name
shown_of names = (names.0.now, names.1.now)

abbrev pub names_shown : List Names → List (Name × Name)
names_shown names = map shown_of names
