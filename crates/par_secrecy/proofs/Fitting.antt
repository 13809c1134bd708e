-- What is given to channels that files have is given by the lines that fit them.
use Rattle.std.proofs.Common.{◌≡◌, Bool, true, false, List, [], ◌∷◌, refl, sym, ap, ◌∙◌}
use Rattle.std.proofs.lemmas.Bool.{and_parts}
use Rattle.std.proofs.lemmas.Slice.Eq.{bytes_eq-Decides}
use Rattle.std.specs.List.{filter}
use Rattle.std.specs.Str.{bytes_eq}
use Rattle.par_values.specs.declared.inputs.ChannelInput.{ChannelInput}
use Rattle.par_secrecy.specs.Subject.{Name, is_of, given}
use Rattle.par_secrecy.specs.Laws.{FittingGivesTheSame}

module _ (has : Name → Name → Bool) (class name : Name) (there : has class name ≡ true) where
  abbrev fits : ChannelInput → Bool
  fits line = has line.class line.channel

  -- a line of a channel that is there fits
  own_fits : (line : ChannelInput) → is_of class name line ≡ true → fits line ≡ true
  own_fits line own =
      let both = and_parts (bytes_eq line.class class) (bytes_eq line.channel name) own in
      let one : line.class ≡ class = (bytes_eq-Decides line.class class).0 both.0 in
      let other : line.channel ≡ name = (bytes_eq-Decides line.channel name).0 both.1 in
      ap (λ n. has n line.channel) one ∙ ap (has class) other ∙ there

  given_fitting : (lines : List ChannelInput)
      → given (filter fits lines) class name ≡ given lines class name
  given_fitting [] = refl
  given_fitting (line ∷ lines) =
      by (fits line) (is_of class name line) refl refl (given_fitting lines)
    where
      by : (fit own : Bool) → fits line ≡ fit → is_of class name line ≡ own
          → given (filter fits lines) class name ≡ given lines class name
          → given (filter fits (line ∷ lines)) class name ≡ given (line ∷ lines) class name
      by true true fit own later = rw (fit, own) refl
      by true false fit own later = rw (fit, own) later
      by false true fit own later = absurd (cc (sym fit ∙ own_fits line own))
      by false false fit own later = rw (fit, own) later

pub fitting_gives_the_same : FittingGivesTheSame
fitting_gives_the_same target inputs class name there =
    given_fitting target.has_input class name there inputs.channels
