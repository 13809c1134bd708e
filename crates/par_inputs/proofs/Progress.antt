-- How far a file is read.
use Rattle.std.proofs.Common.{◌≡◌, ℕ, ◌+◌, ◌-◌, ◌<◌, ◌≤◌, List, [], ◌∷◌, ◌++◌, Bool, true, false}
use Rattle.std.proofs.Common.{not, ◌&&◌, ◌||◌, ◌==◌, Option, Some, None, length, take, drop, get_or}
use Rattle.std.proofs.Common.{refl, ap, sym, ◌∙◌, subst, arith, append-nil, add-one, length-drop}
use Rattle.std.proofs.Common.{drop-cons, below_more, take_all}
use Rattle.std.specs.Borrow.{Bor}
use Rattle.std.specs.BTreeSet.{BTreeSet}
use Rattle.std.specs.List.{list_any, before_first, after_first}
use Rattle.std.specs.Option.{option_map_or}
use Rattle.std.specs.Str.{bytes_eq}
use Rattle.std.proofs.lemmas.Bool.Decides.{nat_tests}
use Rattle.std.proofs.lemmas.List.Folds.{list_any-append}
use Rattle.std.proofs.Math.Seq.{take-suc}
use Rattle.par_values.specs.declared.inputs.ChannelInput.{ChannelInput}
use Rattle.par_inputs.specs.Lines.{Text, lines_of}
use Rattle.par_inputs.specs.Entries.{line_of}
use Rattle.par_inputs.specs.Rules.{entries, is_taken, is_broken, breaks, AreRight, IsRight}
use Rattle.par_inputs.specs.Rules.{IsFirstBroken}
use Rattle.par_inputs.specs.Seen.{has}
use Rattle.par_inputs.proofs.FileLines.{is_end, lines_of-first, lines_of-nil, fewer_left}
use Rattle.par_inputs.proofs.Spelling.{Spells, names_of, line_of-Some, line_of-nil}
use Rattle.par_inputs.proofs.RightEntries.{entries-push, is_taken-names}

-- the byte stands behind the names of a line
abbrev pub is_colon : ℕ → Bool
is_colon byte = byte == 58

-- so many lines are read and right, and the rest of the bytes is left
pub record SoFar (bytes rest : Text) (channels : List ChannelInput) (number : ℕ)
    (seen : BTreeSet (Bor (List ℕ))) : Type 0 where
  pub few : number + length rest ≤ length bytes
  pub left : drop number (lines_of bytes) ≡ lines_of rest
  pub given : channels ≡ entries (take number (lines_of bytes))
  pub right : AreRight (lines_of bytes) number
  pub known : (text : List ℕ) → has seen text
      ≡ list_any (λ entry. bytes_eq text (names_of entry)) channels

-- this line stands behind the first so many
pub record IsNext (lines : List Text) (number : ℕ) (line : Text) (more : List Text) : Type 0 where
  pub inside : number < length lines
  pub is : get_or lines number [] ≡ line
  pub left : drop (number + 1) lines ≡ more
  pub read : take (number + 1) lines ≡ take number lines ++ line ∷ []

next_line : (lines : List Text) (number : ℕ) (line : Text) (more : List Text)
    → drop number lines ≡ line ∷ more → IsNext lines number line more
next_line lines number line more is =
    let some : length (drop number lines) ≡ length (line ∷ more) = ap length is in
    let inside : number < length lines = omega (arith, some, length-drop number lines) in
    let split : drop number lines ≡ get_or lines number [] ∷ drop (number + 1) lines =
    simp add-one (drop-cons lines number [] inside) in
    let first : get_or lines number [] ≡ line = cc in
    let others : drop (number + 1) lines ≡ more = cc in
    let taken : take (number + 1) lines ≡ take number lines ++ get_or lines number [] ∷ [] =
    simp add-one (take-suc lines number [] inside) in
    record {
      inside = inside;
      is = first;
      left = others;
      read = taken ∙ ap (λ l. take number lines ++ l ∷ []) first;
    }

-- the next line, where bytes are left
next_of : (bytes rest : Text) (number : ℕ) → drop number (lines_of bytes) ≡ lines_of rest
    → 0 < length rest → IsNext (lines_of bytes) number (before_first is_end rest)
    (lines_of (after_first is_end rest))
next_of bytes rest number left some =
    next_line (lines_of bytes) number (before_first is_end rest)
    (lines_of (after_first is_end rest)) (left ∙ lines_of-first rest some)

-- whether the next line is broken is whether it is so behind those before it
breaks_next : (lines : List Text) (number : ℕ) (line : Text) (more : List Text) (answer : Bool)
    → IsNext lines number line more → is_broken (take number lines) line ≡ answer
    → breaks lines number ≡ answer
breaks_next lines number line more answer next is =
    ap (λ l. is_broken (take number lines) l) next.is ∙ is

right_more : (lines : List Text) (number : ℕ) → AreRight lines number → breaks lines number ≡ false
    → AreRight lines (number + 1)
right_more lines number so_far is =
    record { right = below_more (λ place. breaks lines place ≡ false) number so_far.right is }

-- ---- a line more is read

-- an empty line is passed over
pub passed : (bytes rest : Text) (channels : List ChannelInput) (number : ℕ)
    (seen : BTreeSet (Bor (List ℕ))) → SoFar bytes rest channels number seen → 0 < length rest
    → before_first is_end rest ≡ []
    → SoFar bytes (after_first is_end rest) channels (number + 1) seen
passed bytes rest channels number seen so_far some empty =
    let next = next_of bytes rest number so_far.left some in
    let right : is_broken (take number (lines_of bytes)) (before_first is_end rest) ≡ false =
    ap (is_broken (take number (lines_of bytes))) empty in
    let nothing : line_of (before_first is_end rest) ≡ None = ap line_of empty ∙ line_of-nil in
    record {
      few = omega (arith, so_far.few, fewer_left rest some);
      left = next.left;
      given =
          so_far.given ∙ sym (ap entries next.read
          ∙ entries-push (take number (lines_of bytes)) (before_first is_end rest) None nothing
          ∙ append-nil (entries (take number (lines_of bytes))));
      right =
          right_more (lines_of bytes) number so_far.right
          (breaks_next (lines_of bytes) number _ _ false next right);
      known = so_far.known;
    }

-- the names of the line are known exactly if an earlier line has its channel
taken_is : (bytes rest : Text) (channels : List ChannelInput) (number : ℕ)
    (seen : BTreeSet (Bor (List ℕ))) (line : Text) (entry : ChannelInput)
    → SoFar bytes rest channels number seen → line_of line ≡ Some entry
    → has seen (before_first is_colon line) ≡ is_taken (take number (lines_of bytes)) entry
taken_is bytes rest channels number seen line entry so_far is =
    let spells : Spells line entry = line_of-Some line entry is in
    ap (has seen) spells.names ∙ so_far.known (names_of entry)
    ∙ ap (list_any (λ earlier. bytes_eq (names_of entry) (names_of earlier))) so_far.given
    ∙ is_taken-names (take number (lines_of bytes)) line entry is

filled_by : (line : Text) (empty : Bool) → (length line == 0) ≡ empty → 0 < length line
    → empty ≡ false
filled_by line true is some = grind (arith, nat_tests)
filled_by line false is some = refl

-- a line that is not empty is broken exactly if it gives no entry or a taken one
broken_as : (earlier : List Text) (line : Text) (entry : Option ChannelInput) → 0 < length line
    → line_of line ≡ entry → is_broken earlier line ≡ option_map_or (is_taken earlier) entry true
broken_as earlier line entry some is =
    ap (λ empty. not empty && option_map_or (is_taken earlier) (line_of line) true)
    (filled_by line (length line == 0) refl some)
    ∙ ap (λ e. option_map_or (is_taken earlier) e true) is

either_way : (a b : Bool) → (a || b) ≡ (b || (a || false))
either_way true true = refl
either_way true false = refl
either_way false true = refl
either_way false false = refl

-- a line with an entry of a new channel is taken in
pub taken_in : (bytes rest : Text) (channels : List ChannelInput) (number : ℕ)
    (seen after : BTreeSet (Bor (List ℕ))) (entry : ChannelInput)
    → SoFar bytes rest channels number seen → 0 < length rest
    → 0 < length (before_first is_end rest) → line_of (before_first is_end rest) ≡ Some entry
    → let names = before_first is_colon (before_first is_end rest) in
    has seen names ≡ false
    → ((other : List ℕ) → has after other ≡ (bytes_eq other names || has seen other))
    → SoFar bytes (after_first is_end rest) (channels ++ entry ∷ []) (number + 1) after
taken_in bytes rest channels number seen after entry so_far some filled is fresh grown =
    let line : Text = before_first is_end rest in
    let next = next_of bytes rest number so_far.left some in
    let spells : Spells line entry = line_of-Some line entry is in
    let free : is_taken (take number (lines_of bytes)) entry ≡ false =
    sym (taken_is bytes rest channels number seen line entry so_far is) ∙ fresh in
    let right : is_broken (take number (lines_of bytes)) line ≡ false =
    broken_as (take number (lines_of bytes)) line (Some entry) filled is ∙ free in
    record {
      few = omega (arith, so_far.few, fewer_left rest some);
      left = next.left;
      given =
          ap (λ read. read ++ entry ∷ []) so_far.given
          ∙ sym (ap entries next.read ∙ entries-push (take number (lines_of bytes)) line
          (Some entry) is);
      right =
          right_more (lines_of bytes) number so_far.right
          (breaks_next (lines_of bytes) number _ _ false next right);
      known = λ text.
          let test : ChannelInput → Bool = λ e. bytes_eq text (names_of e) in
          grown text ∙ ap (λ names. bytes_eq text names || has seen text) spells.names
          ∙ ap (λ found. test entry || found) (so_far.known text)
          ∙ either_way (test entry) (list_any test channels)
          ∙ sym (list_any-append test channels (entry ∷ []));
    }

-- ---- the first broken line

broken_next : (bytes rest : Text) (number : ℕ) → drop number (lines_of bytes) ≡ lines_of rest
    → AreRight (lines_of bytes) number → 0 < length rest
    → is_broken (take number (lines_of bytes)) (before_first is_end rest) ≡ true
    → IsFirstBroken bytes (number + 1)
broken_next bytes rest number left right some broken =
    let next = next_of bytes rest number left some in
    let back : number + 1 - 1 ≡ number = omega arith in
    record {
      counted = omega arith;
      stands = omega (arith, next.inside);
      broken =
          ap (breaks (lines_of bytes)) back
          ∙ breaks_next (lines_of bytes) number _ _ true next broken;
      before = subst (AreRight (lines_of bytes)) (sym back) right;
    }

-- a line that is not empty and gives no entry is the first that is broken
pub no_entry : (bytes rest : Text) (channels : List ChannelInput) (number : ℕ)
    (seen : BTreeSet (Bor (List ℕ))) → SoFar bytes rest channels number seen → 0 < length rest
    → 0 < length (before_first is_end rest) → line_of (before_first is_end rest) ≡ None
    → IsFirstBroken bytes (number + 1)
no_entry bytes rest channels number seen so_far some filled is =
    broken_next bytes rest number so_far.left so_far.right some
    (broken_as (take number (lines_of bytes)) (before_first is_end rest) None filled is)

-- a line with an entry of a known channel is the first that is broken
pub again : (bytes rest : Text) (channels : List ChannelInput) (number : ℕ)
    (seen : BTreeSet (Bor (List ℕ))) (entry : ChannelInput) → SoFar bytes rest channels number seen
    → 0 < length rest → 0 < length (before_first is_end rest)
    → line_of (before_first is_end rest) ≡ Some entry
    → has seen (before_first is_colon (before_first is_end rest)) ≡ true
    → IsFirstBroken bytes (number + 1)
again bytes rest channels number seen entry so_far some filled is known =
    let taken : is_taken (take number (lines_of bytes)) entry ≡ true =
    sym (taken_is bytes rest channels number seen (before_first is_end rest) entry so_far is)
    ∙ known in
    broken_next bytes rest number so_far.left so_far.right some
    (broken_as (take number (lines_of bytes)) (before_first is_end rest) (Some entry) filled is
    ∙ taken)

-- ---- beginning and end

-- where no bytes are left, all lines are read
every_line : (bytes rest : Text) (number : ℕ) → drop number (lines_of bytes) ≡ lines_of rest
    → rest ≡ [] → length (lines_of bytes) ≤ number
every_line bytes rest number left empty =
    let none : drop number (lines_of bytes) ≡ [] = left ∙ ap lines_of empty ∙ lines_of-nil in
    omega (arith, ap length none, length-drop number (lines_of bytes))

-- no line is broken where all are read
pub all_right : (bytes rest : Text) (channels : List ChannelInput) (number : ℕ)
    (seen : BTreeSet (Bor (List ℕ))) → SoFar bytes rest channels number seen → rest ≡ []
    → IsRight bytes
all_right bytes rest channels number seen so_far empty =
    let every = every_line bytes rest number so_far.left empty in
    record { right = λ place below. so_far.right.right place (omega (arith, every)) }

-- the entries are those of all lines where all are read
pub all_given : (bytes rest : Text) (channels : List ChannelInput) (number : ℕ)
    (seen : BTreeSet (Bor (List ℕ))) → SoFar bytes rest channels number seen → rest ≡ []
    → channels ≡ entries (lines_of bytes)
all_given bytes rest channels number seen so_far empty =
    let every = every_line bytes rest number so_far.left empty in
    so_far.given ∙ ap entries (take_all number (lines_of bytes) every)

-- ---- what the set answers

-- a text that is no new one is known
pub was_known : (known : Bool) → not known ≡ false → known ≡ true
was_known true new = refl
was_known false new = sym new

-- a new text is not known
pub was_new : (known : Bool) → not known ≡ true → known ≡ false
was_new true new = sym new
was_new false new = refl
