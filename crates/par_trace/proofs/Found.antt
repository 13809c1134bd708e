-- A channel is found by its key.
use Rattle.std.proofs.Common.{◌≡◌, ◌&&◌, Bool, List, map, is_some, sym, ap, ◌∙◌}
use Rattle.std.specs.List.{list_any}
use Rattle.std.specs.Str.{bytes_eq}
use Rattle.std.specs.HashMap.{get}
use Rattle.par_values.specs.declared.inputs.ChannelInput.{ChannelInput}
use Rattle.par_secrecy.specs.Subject.{is_of}
use Rattle.par_run_laws.specs.Names.{Name, Member}
use Rattle.par_index.specs.declared.firsts.Firsts.{Firsts}
use Rattle.par_index.specs.Firsts.{AreFirst}
use Rattle.par_index.proofs.Places.{position-is_some, any-map}
use Rattle.par_trace.specs.declared.channels.Key.{Key}
use Rattle.par_trace.specs.Keys.{named, same_key}
use Rattle.par_trace.specs.Channels.{is_among}

-- one of the keys names this channel
abbrev names : List Key → Name → Name → Bool
names keys class name =
    list_any (λ (k : Key). bytes_eq class k.class.now && bytes_eq name k.name.now) keys

pub found : (keys : List Key) (firsts : Firsts Key) (key : Key) (line : ChannelInput)
    → AreFirst same_key keys firsts
    → key.class.now ≡ line.class → key.name.now ≡ line.channel
    → is_some (get same_key firsts.places key) ≡ is_among (map named keys) line
found keys firsts key line are class name =
    ap is_some (are key) ∙ position-is_some (same_key key) keys
    ∙ ap (λ c. names keys c key.name.now) class ∙ ap (names keys line.class) name
    ∙ sym (any-map (λ (m : Member). is_of m.class m.name line) named keys)
