-- The channels of lines and their places.
use Rattle.std.specs.Prelude.{◌≡◌, ◌≤◌, Bool, ◌&&◌, List, length, map}
use Rattle.std.specs.List.{All}
use Rattle.std.specs.Str.{bytes_eq}
use Rattle.std.specs.HashMap.{get}
use Rattle.par_index.specs.declared.firsts.Firsts.{Firsts}
use Rattle.par_method_area.specs.declared.channels.Channel.{Channel}
use Rattle.par_actions.specs.par_lines.Lines as lines

-- the names of the class and of the channel
abbrev pub named : Channel → lines.Channel
named c = (c.class.now, c.name.now)

abbrev pub same_channel : Channel → Channel → Bool
same_channel c other =
    bytes_eq c.class.now other.class.now && bytes_eq c.name.now other.name.now

-- a channel is called by a name, which is not long
abbrev pub IsShort : Channel → Type 0
IsShort c = length c.name.now ≤ 64

-- each channel has the place of its first line among these
pub record AreLined (channels : List Channel) (firsts : Firsts Channel) : Type 0 where
  pub short : All IsShort channels
  pub places : (c : Channel) →
      get same_channel firsts.places c
      ≡ lines.line_of (map named channels) c.class.now c.name.now
