-- What lines give to channels.
use Rattle.std.proofs.Common.{◌≡◌, ℕ, suc, Bool, true, false, if◌then◌else◌, ◌&&◌, ℤ}
use Rattle.std.proofs.Common.{List, [], ◌∷◌, Option, Some, None, slice_get, refl, sym, ap}
use Rattle.std.proofs.Common.{◌∙◌}
use Rattle.std.proofs.lemmas.Bool.{and_parts}
use Rattle.std.proofs.lemmas.Slice.Eq.{bytes_eq-Decides}
use Rattle.std.specs.List.{position}
use Rattle.std.specs.Option.{option_map}
use Rattle.std.specs.Str.{bytes_eq}
use Rattle.par_values.specs.declared.inputs.ChannelInput.{ChannelInput}
use Rattle.par_values.specs.Areas.{Name, InputLists, left, taken_from}
use Rattle.par_secrecy.specs.Subject.{given, is_of, numbers_at}
use Rattle.par_secrecy.proofs.Given.{first_passes, first_fails, given_first}
use Rattle.par_lines.specs.Lines.{channel_of, channels_of, is_channel, line_of, taken_at, with_line}
use Rattle.par_lines.specs.Lines.{AreLeft}

-- ---- the line of a channel

taken_later : (place : Option ℕ) (line : ChannelInput) (lines : List ChannelInput)
    → taken_at (option_map suc place) (line ∷ lines) ≡ line ∷ taken_at place lines
taken_later None line lines = refl
taken_later (Some place) line lines = in_case (slice_get lines place) refl
  where
    in_case : (held : Option ChannelInput) → slice_get lines place ≡ held
        → with_line (suc place) held (line ∷ lines) ≡ line ∷ with_line place held lines
    in_case None is = refl
    in_case (Some l) is = refl

module _ (class name : Name) where
  line_place : (lines : List ChannelInput)
      → position (is_of class name) lines ≡ line_of (channels_of lines) class name
  line_place [] = refl
  line_place (line ∷ lines) = in_case (is_of class name line) (line_place lines) refl
    where
      in_case : (b : Bool)
          → position (is_of class name) lines ≡ line_of (channels_of lines) class name
          → is_of class name line ≡ b → position (is_of class name) (line ∷ lines)
          ≡ line_of (channels_of (line ∷ lines)) class name
      in_case true later is =
          first_passes (is_of class name) line lines is
          ∙ sym (first_passes (is_channel class name) (channel_of line) (channels_of lines) is)
      in_case false later is =
          first_fails (is_of class name) line lines is ∙ ap (option_map suc) later
          ∙ sym (first_fails (is_channel class name) (channel_of line) (channels_of lines) is)

  -- the first line of a channel gives what the channel has
  pub given_there : (lines : List ChannelInput)
      → given lines class name ≡ numbers_at (line_of (channels_of lines) class name) lines
  given_there lines =
      given_first class name (is_of class name) (λ line. refl) lines
      ∙ ap (λ (place : Option ℕ). numbers_at place lines) (line_place lines)

  -- whether a channel is this one
  abbrev here : Name → Name → Bool
  here c n = bytes_eq c class && bytes_eq n name

  is_here : (c n : Name) → here c n ≡ true → (c ≡ class) × (n ≡ name)
  is_here c n same =
      let both = and_parts (bytes_eq c class) (bytes_eq n name) same in
      ((bytes_eq-Decides c class).0 both.0, (bytes_eq-Decides n name).0 both.1)

  -- the line of this channel is that of no other
  same_line : (line : ChannelInput) (c n : Name) → is_of class name line ≡ true
      → is_of c n line ≡ true → here c n ≡ true
  same_line line c n own other =
      let mine = is_here line.class line.channel own in
      let both = and_parts (bytes_eq line.class c) (bytes_eq line.channel n) other in
      let first : c ≡ class = sym ((bytes_eq-Decides line.class c).0 both.0) ∙ mine.0 in
      let second : n ≡ name = sym ((bytes_eq-Decides line.channel n).0 both.1) ∙ mine.1 in
      ap (λ (b : Bool). b && bytes_eq n name) ((bytes_eq-Decides c class).1 first)
      ∙ (bytes_eq-Decides n name).1 second

  own_line : (line : ChannelInput) (c n : Name) → here c n ≡ true
      → is_of c n line ≡ is_of class name line
  own_line line c n same =
      let both = is_here c n same in
      ap (λ (x : Name). is_of x n line) both.0 ∙ ap (λ (x : Name). is_of class x line) both.1

  -- what a number is taken from has one less, and the others what they had
  pub given_less : (lines : List ChannelInput) (c n : Name)
      → given (taken_at (line_of (channels_of lines) class name) lines) c n
      ≡ taken_from class name (given lines) c n
  given_less [] c n = in_case (here c n)
    where
      in_case : (b : Bool) → [] ≡ (if b then left [] else [])
      in_case true = refl
      in_case false = refl
  given_less (line ∷ lines) c n = in_case (is_of class name line) (given_less lines c n) refl
    where
      less : ChannelInput
      less = record line { numbers = left line.numbers }

      at_first : (here_is other : Bool) → here c n ≡ here_is → is_of c n line ≡ other
          → is_of class name line ≡ true
          → (if other then left line.numbers else given lines c n)
          ≡ (if here_is then left (if other then line.numbers else given lines c n)
          else (if other then line.numbers else given lines c n))
      at_first true true h o own = refl
      at_first false true h o own = absurd (cc (same_line line c n own o))
      at_first true false h o own = absurd (cc (own_line line c n h))
      at_first false false h o own = refl

      behind : (here_is other : Bool) → here c n ≡ here_is → is_of c n line ≡ other
          → is_of class name line ≡ false
          → (if other then line.numbers
          else (if here_is then left (given lines c n) else given lines c n))
          ≡ (if here_is then left (if other then line.numbers else given lines c n)
          else (if other then line.numbers else given lines c n))
      behind true true h o own = absurd (cc (own_line line c n h))
      behind false true h o own = refl
      behind true false h o own = refl
      behind false false h o own = refl

      in_case : (b : Bool) → given (taken_at (line_of (channels_of lines) class name) lines) c n
          ≡ taken_from class name (given lines) c n → is_of class name line ≡ b
          → given (taken_at (line_of (channels_of (line ∷ lines)) class name) (line ∷ lines)) c n
          ≡ taken_from class name (given (line ∷ lines)) c n
      in_case true later is =
          ap (λ (place : Option ℕ). given (taken_at place (line ∷ lines)) c n)
          (first_passes (is_channel class name) (channel_of line) (channels_of lines) is)
          ∙ at_first (here c n) (is_of c n line) refl refl is
      in_case false later is =
          ap (λ (place : Option ℕ). given (taken_at place (line ∷ lines)) c n)
          (first_fails (is_channel class name) (channel_of line) (channels_of lines) is)
          ∙ ap (λ (ls : List ChannelInput). given ls c n)
          (taken_later (line_of (channels_of lines) class name) line lines)
          ∙ ap (λ (rest : List ℤ). if is_of c n line then line.numbers else rest) later
          ∙ behind (here c n) (is_of c n line) refl refl is

  module _ (lines : List ChannelInput) (inputs : InputLists) (are : AreLeft lines inputs) where
    pub left_there : inputs class name ≡ numbers_at (line_of (channels_of lines) class name) lines
    left_there = are class name ∙ given_there lines

    pub left_less : AreLeft (taken_at (line_of (channels_of lines) class name) lines)
        (taken_from class name inputs)
    left_less c n =
        ap (λ (xs : List ℤ). if here c n then left xs else xs) (are c n)
        ∙ sym (given_less lines c n)
