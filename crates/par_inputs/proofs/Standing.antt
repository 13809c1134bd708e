-- The line of an entry gives that entry.
use Rattle.std.proofs.Common.{◌≡◌, ◌≢◌, ℕ, zero, suc, ◌+◌, ◌-◌, ◌<◌, ◌≤◌, List, [], ◌∷◌, Bool}
use Rattle.std.proofs.Common.{false, true, not, ◌&&◌, ◌==◌, Option, Some, None, length, take}
use Rattle.std.proofs.Common.{get_or, refl, ap, sym, ◌∙◌, arith}
use Rattle.std.specs.List.{slice_get, cons_option}
use Rattle.std.specs.Option.{option_map_or}
use Rattle.std.proofs.lemmas.Bool.Decides.{nat_tests}
use Rattle.std.proofs.lemmas.Option.{none-some}
use Rattle.par_values.specs.declared.inputs.ChannelInput.{ChannelInput}
use Rattle.par_inputs.specs.Lines.{Text, lines_of}
use Rattle.par_inputs.specs.Entries.{line_of}
use Rattle.par_inputs.specs.Rules.{entries, is_taken, AreRight, IsRight}
use Rattle.par_inputs.specs.Places.{line_behind, line_of_entry, IsFrom}
use Rattle.par_inputs.proofs.Spelling.{line_of-nil}

-- each line that is not empty gives an entry
record AllGive (lines : List Text) : Type 0 where
  give : (place : ℕ) → place < length lines → 0 < length (get_or lines place [])
      → line_of (get_or lines place []) ≢ None

give_by : (earlier : List Text) (line : Text) (empty : Bool) → (length line == 0) ≡ empty
    → 0 < length line → (not empty && option_map_or (is_taken earlier) (line_of line) true) ≡ false
    → line_of line ≢ None
give_by earlier line true is some right none = absurd (grind (arith, nat_tests))
give_by earlier line false is some right none =
    let broken : true ≡ false =
    ap (λ e. option_map_or (is_taken earlier) e true) (sym none) ∙ right in
    cc

right_give : (lines : List Text) (count : ℕ) → AreRight lines count → length lines ≤ count
    → AllGive lines
right_give lines count right every = record {
  give =
      λ place below some. give_by (take place lines) (get_or lines place [])
      (length (get_or lines place []) == 0) refl some (right.right place (omega arith));
}

fewer : (line : Text) (lines : List Text) → AllGive (line ∷ lines) → AllGive lines
fewer line lines all = record { give = λ place below some. all.give (suc place) (omega arith) some }

-- a line more stands before
behind : (line : Text) (lines : List Text) (number : ℕ) (entry : ChannelInput)
    → IsFrom lines number entry → IsFrom (line ∷ lines) (1 + number) entry
behind line lines zero entry from = absurd (omega (arith, from.counted))
behind line lines (suc number) entry from = record {
  counted = omega arith;
  stands = omega (arith, from.stands);
  gives =
      let same : 1 + suc number - 1 ≡ suc number = omega arith in
      let one_less : suc number - 1 ≡ number = omega arith in
      ap (λ (n : ℕ). line_of (get_or (line ∷ lines) n [])) same
      ∙ ap (λ (n : ℕ). line_of (get_or lines n [])) (sym one_less) ∙ from.gives;
}

stands_by : (byte : ℕ) (more : Text) (lines : List Text) (first : Option ChannelInput) (place : ℕ)
    (entry : ChannelInput) → line_of (byte ∷ more) ≡ first → first ≢ None
    → ((n : ℕ) → slice_get (entries lines) n ≡ Some entry
    → IsFrom lines (line_behind lines n) entry)
    → slice_get (cons_option first (entries lines)) place ≡ Some entry
    → IsFrom ((byte ∷ more) ∷ lines) (line_behind ((byte ∷ more) ∷ lines) place) entry
stands_by byte more lines None place entry gives some others is = absurd (some refl)
stands_by byte more lines (Some first) zero entry gives some others is =
    record { counted = omega arith; stands = omega arith; gives = gives ∙ is }
stands_by byte more lines (Some first) (suc place) entry gives some others is =
    behind (byte ∷ more) lines (line_behind lines place) entry (others place is)

stands_at : (lines : List Text) (place : ℕ) (entry : ChannelInput) → AllGive lines
    → slice_get (entries lines) place ≡ Some entry → IsFrom lines (line_behind lines place) entry
stands_at [] place entry all is = absurd (none-some entry is)
stands_at ([] ∷ lines) place entry all is =
    behind [] lines (line_behind lines place) entry
    (stands_at lines place entry (fewer [] lines all)
    (ap (λ first. slice_get (cons_option first (entries lines)) place) (sym line_of-nil) ∙ is))
stands_at ((byte ∷ more) ∷ lines) place entry all is =
    stands_by byte more lines (line_of (byte ∷ more)) place entry refl
    (all.give 0 (omega arith) (omega arith))
    (λ n found. stands_at lines n entry (fewer (byte ∷ more) lines all) found) is

-- the line that counting finds gives the entry
pub IsFrom-line_of_entry : (bytes : Text) (place : ℕ) (entry : ChannelInput) → IsRight bytes
    → slice_get (entries (lines_of bytes)) place ≡ Some entry
    → IsFrom (lines_of bytes) (line_of_entry bytes place) entry
unfolding line_of_entry
IsFrom-line_of_entry bytes place entry right is =
    stands_at (lines_of bytes) place entry
    (right_give (lines_of bytes) (length (lines_of bytes)) right (omega arith)) is
