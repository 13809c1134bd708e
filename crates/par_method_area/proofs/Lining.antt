-- The places of channels.
use Rattle.std.proofs.Common.{◌≡◌, ◌<◌, Bool, true, false, ◌&&◌, List, length, map, None, refl}
use Rattle.std.proofs.Common.{sym, ap, ◌∙◌, arith}
use Rattle.std.proofs.lemmas.List.Elements.{All-weaker}
use Rattle.std.proofs.lemmas.List.Folds.{list_any_none}
use Rattle.std.proofs.lemmas.Slice.Eq.{bytes_eq-Decides}
use Rattle.std.specs.List.{All, position}
use Rattle.std.specs.Str.{bytes_eq}
use Rattle.std.specs.HashMap.{get}
use Rattle.par_index.specs.declared.firsts.Firsts.{Firsts}
use Rattle.par_index.specs.Firsts.{AreFirst}
use Rattle.par_index.proofs.Places.{any-map, position-map}
use Rattle.par_step_laws.proofs.par_link.Passing.{eq_turned, position-none}
use Rattle.par_actions.specs.par_lines.Lines as lines
use Rattle.par_values.specs.Areas.{Name}
use Rattle.par_method_area.specs.declared.channels.Channel.{Channel}
use Rattle.par_method_area.specs.Channels.{named, same_channel, IsShort}

turned : (c : Channel) → same_channel c
    ≡ (λ (other : Channel). lines.is_channel c.class.now c.name.now (named other))
turned c =
    λ i. λ other. eq_turned c.class.now other.class.now i && eq_turned c.name.now other.name.now i

pub lined : (channels items : List Channel) (firsts : Firsts Channel)
    → AreFirst same_channel items firsts → items ≡ channels
    → (c : Channel) → get same_channel firsts.places c
    ≡ lines.line_of (map named channels) c.class.now c.name.now
lined channels items firsts are same c =
    are c ∙ ap (position (same_channel c)) same ∙ ap (λ test. position test channels) (turned c)
    ∙ sym (position-map (lines.is_channel c.class.now c.name.now) named channels)

-- a long text is the name of no channel
unlike : (class name : Name) (c : Channel) → 64 < length name → IsShort c
    → lines.is_channel class name (named c) ≡ false
unlike class name c long short =
    in_case (bytes_eq c.class.now class) (bytes_eq c.name.now name) refl
  where
    in_case : (a b : Bool) → bytes_eq c.name.now name ≡ b → (a && b) ≡ false
    in_case false b is = refl
    in_case true false is = refl
    in_case true true is =
        let same = ap length ((bytes_eq-Decides c.name.now name).0 is) in
        absurd (omega (arith, long, short, same))

pub long-none : (channels : List Channel) (class name : Name) → All IsShort channels
    → 64 < length name → lines.line_of (map named channels) class name ≡ None
long-none channels class name short long =
    position-none (lines.is_channel class name) (map named channels)
    (any-map (lines.is_channel class name) named channels
    ∙ list_any_none (λ (c : Channel). lines.is_channel class name (named c)) channels
    (All-weaker IsShort (λ (c : Channel). lines.is_channel class name (named c) ≡ false)
    (λ c few. unlike class name c long few) channels short))
