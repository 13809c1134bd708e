-- How far the lines before an entry are counted.
use Rattle.std.proofs.Common.{◌≡◌, ℕ, zero, suc, ◌+◌, ◌-◌, ◌<◌, ◌≤◌, List, [], ◌∷◌, length, refl}
use Rattle.std.proofs.Common.{ap, sym, ◌∙◌, arith}
use Rattle.std.specs.List.{before_first, after_first}
use Rattle.par_inputs.specs.Lines.{Text, lines_of}
use Rattle.par_inputs.specs.Places.{line_behind, line_of_entry}
use Rattle.par_inputs.proofs.FileLines.{is_end, lines_of-first, lines_of-nil, fewer_left}

-- the line of the entry is counted on from so many lines
pub record Counted (bytes rest : Text) (place number left : ℕ) : Type 0 where
  pub few : number + length rest ≤ length bytes
  pub is : line_of_entry bytes place ≡ number + line_behind (lines_of rest) left

pub none_counted : (bytes : Text) (place : ℕ) → Counted bytes bytes place 0 place
unfolding line_of_entry
none_counted bytes place = record { few = omega arith; is = omega arith }

behind_first : (line : Text) (lines : List Text) → 0 < length line
    → line_behind (line ∷ lines) 0 ≡ 1
behind_first [] lines some = absurd (omega (arith, some))
behind_first (byte ∷ more) lines some = refl

behind_more : (line : Text) (lines : List Text) (left : ℕ) → 0 < length line → 0 < left
    → line_behind (line ∷ lines) left ≡ 1 + line_behind lines (left - 1)
behind_more [] lines left some others = absurd (omega (arith, some))
behind_more (byte ∷ more) lines zero some others = absurd (omega (arith, others))
behind_more (byte ∷ more) lines (suc left) some others =
    let one_less : suc left - 1 ≡ left = omega arith in
    ap (λ n. 1 + line_behind lines n) (sym one_less)

-- one line is counted
counted_on : (bytes rest : Text) (place number left next : ℕ) → Counted bytes rest place number left
    → 0 < length rest → line_behind
    (before_first is_end rest ∷ lines_of (after_first is_end rest)) left
    ≡ 1 + line_behind (lines_of (after_first is_end rest)) next
    → Counted bytes (after_first is_end rest) place (number + 1) next
counted_on bytes rest place number left next counted some step =
    let lines : line_behind (lines_of rest) left
    ≡ 1 + line_behind (lines_of (after_first is_end rest)) next =
    ap (λ read. line_behind read left) (lines_of-first rest some) ∙ step in
    record {
      few = omega (arith, counted.few, fewer_left rest some);
      is = omega (arith, counted.is, lines);
    }

-- an empty line is counted, and gives no entry
pub over_empty : (bytes rest : Text) (place number left : ℕ) → Counted bytes rest place number left
    → 0 < length rest → before_first is_end rest ≡ []
    → Counted bytes (after_first is_end rest) place (number + 1) left
over_empty bytes rest place number left counted some empty =
    counted_on bytes rest place number left left counted some
    (ap (λ line. line_behind (line ∷ lines_of (after_first is_end rest)) left) empty)

-- another line gives an entry
pub over_line : (bytes rest : Text) (place number left : ℕ) → Counted bytes rest place number left
    → 0 < length rest → 0 < length (before_first is_end rest) → 0 < left
    → Counted bytes (after_first is_end rest) place (number + 1) (left - 1)
over_line bytes rest place number left counted some filled others =
    counted_on bytes rest place number left (left - 1) counted some
    (behind_more (before_first is_end rest) (lines_of (after_first is_end rest)) left filled others)

-- the next line is that of the entry
pub found : (bytes rest : Text) (place number left : ℕ) → Counted bytes rest place number left
    → 0 < length rest → 0 < length (before_first is_end rest) → left ≡ 0
    → line_of_entry bytes place ≡ number + 1
found bytes rest place number left counted some filled first =
    let line : line_behind (lines_of rest) left ≡ 1 =
    ap (λ read. line_behind read left) (lines_of-first rest some)
    ∙ ap (λ n. line_behind (before_first is_end rest ∷ lines_of (after_first is_end rest)) n) first
    ∙ behind_first (before_first is_end rest) (lines_of (after_first is_end rest)) filled in
    omega (arith, counted.is, line)

-- no line is left
pub none_left : (bytes rest : Text) (place number left : ℕ) → Counted bytes rest place number left
    → rest ≡ [] → line_of_entry bytes place ≡ number
none_left bytes rest place number left counted empty =
    let lines : line_behind (lines_of rest) left ≡ 0 =
    ap (λ read. line_behind (lines_of read) left) empty
    ∙ ap (λ read. line_behind read left) lines_of-nil in
    omega (arith, counted.is, lines)
