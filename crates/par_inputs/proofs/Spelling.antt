-- What a line that gives an entry looks like.
use Rattle.std.proofs.Common.{◌≡◌, ℕ, ◌+◌, ◌<◌, ℤ, List, [], ◌∷◌, ◌++◌, Bool, true, false, ◌&&◌}
use Rattle.std.proofs.Common.{◌==◌, cond, nat_lt, Option, Some, None, length, take, drop, get_or}
use Rattle.std.proofs.Common.{refl, ap, sym, ◌∙◌, subst, arith}
use Rattle.std.specs.List.{position_or_len, before_first, list_all}
use Rattle.std.specs.Option.{option_map}
use Rattle.std.specs.Str.{bytes_eq}
use Rattle.std.proofs.lemmas.Bool.{and_parts, and_from}
use Rattle.std.proofs.lemmas.Bool.Decides.{nat_tests}
use Rattle.std.proofs.lemmas.List.Sums.{split_at_first, passes_at_first}
use Rattle.std.proofs.lemmas.Option.{option_and_then_some, none-some, same_Some}
use Rattle.par_base.specs.Names.{is_letter, goes_on, is_name}
use Rattle.par_values.specs.declared.inputs.ChannelInput.{ChannelInput}
use Rattle.par_inputs.specs.Lines.{Text}
use Rattle.par_inputs.specs.Numbers.{numbers_of}
use Rattle.par_inputs.specs.Entries.{halves_at, cut_at, entry_of, line_of}

-- a text is cut into these two at the first of a byte
pub record IsCut (byte : ℕ) (text before behind : Text) : Type 0 where
  pub spelled : text ≡ before ++ byte ∷ behind
  pub first : before ≡ before_first (λ other. other == byte) text

cut_by : (byte : ℕ) (text before behind : Text) (inside : Bool)
    → let at = position_or_len (λ other. other == byte) text in
    nat_lt at (length text) ≡ inside
    → option_map (halves_at text) (cond inside (Some at) None) ≡ Some (before, behind)
    → IsCut byte text before behind
cut_by byte text before behind true inside is =
    let at : ℕ = position_or_len (λ other. other == byte) text in
    let found : at < length text = grind (arith, nat_tests) in
    let halves : halves_at text at ≡ (before, behind) = same_Some _ _ is in
    let front : take at text ≡ before = ap (λ (both : Text × Text). both.0) halves in
    let back : drop (at + 1) text ≡ behind = ap (λ (both : Text × Text). both.1) halves in
    let cut : get_or text at 0 ≡ byte =
    grind (arith, nat_tests, passes_at_first (λ other. other == byte) text 0 found) in
    let parts : text ≡ take at text ++ (get_or text at 0 ∷ drop (at + 1) text) =
    split_at_first (λ other. other == byte) text 0 found in
    record {
      spelled = parts ∙ ap (λ t. t ++ (get_or text at 0 ∷ drop (at + 1) text)) front
          ∙ ap (λ b. before ++ (b ∷ drop (at + 1) text)) cut ∙ ap (λ t. before ++ (byte ∷ t)) back;
      first = sym front;
    }
cut_by byte text before behind false inside is = absurd (none-some (before, behind) is)

pub cut_at-Some : (byte : ℕ) (text before behind : Text) → cut_at byte text ≡ Some (before, behind)
    → IsCut byte text before behind
cut_at-Some byte text before behind is =
    cut_by byte text before behind
    (nat_lt (position_or_len (λ other. other == byte) text) (length text)) refl is

-- an entry is made of these two names and these numbers
pub record IsMade (cut : Option (Text × Text)) (read : Option (List ℤ))
    (entry : ChannelInput) : Type 0 where
  pub names : cut ≡ Some (entry.class, entry.channel)
  pub numbers : read ≡ Some entry.numbers
  pub class : is_name entry.class ≡ true
  pub channel : is_name entry.channel ≡ true

made_by : (class channel : Text) (numbers : List ℤ) (entry : ChannelInput) (named : Bool)
    → (is_name class && is_name channel) ≡ named
    → cond named (Some (record { class = class; channel = channel; numbers = numbers })) None
    ≡ Some entry → IsMade (Some (class, channel)) (Some numbers) entry
made_by class channel numbers entry true named is =
    let same : ◌≡◌ {A = ChannelInput}
    (record { class = class; channel = channel; numbers = numbers }) entry = same_Some _ _ is in
    let both : (is_name class ≡ true) × (is_name channel ≡ true) = and_parts _ _ named in
    let Made : ChannelInput → Type 0 = IsMade (Some (class, channel)) (Some numbers) in
    subst Made same (record { names = refl; numbers = refl; class = both.0; channel = both.1 })
made_by class channel numbers entry false named is = absurd (none-some entry is)

pub entry_of-Some : (names : Option (Text × Text)) (numbers : Option (List ℤ))
    (entry : ChannelInput) → entry_of names numbers ≡ Some entry → IsMade names numbers entry
entry_of-Some None None entry is = absurd (none-some entry is)
entry_of-Some None (Some numbers) entry is = absurd (none-some entry is)
entry_of-Some (Some names) None entry is = absurd (none-some entry is)
entry_of-Some (Some (class, channel)) (Some numbers) entry is =
    made_by class channel numbers entry (is_name class && is_name channel) refl is

-- the names of an entry, as a line spells them
abbrev pub names_of : ChannelInput → Text
names_of entry = entry.class ++ 46 ∷ entry.channel

-- a line spells the names before its colon, and the numbers behind it
pub record Spells (line : Text) (entry : ChannelInput) : Type 0 where
  pub names : before_first (λ byte. byte == 58) line ≡ names_of entry
  pub class : is_name entry.class ≡ true
  pub channel : is_name entry.channel ≡ true
  pub behind : Text
  pub numbers : numbers_of behind ≡ Some entry.numbers

pub line_of-Some : (line : Text) (entry : ChannelInput) → line_of line ≡ Some entry
    → Spells line entry
unfolding line_of
line_of-Some line entry is =
    option_and_then_some (λ halves. entry_of (cut_at 46 halves.0) (numbers_of halves.1))
    (cut_at 58 line) entry is
    (λ halves cut made.
    let made : IsMade (cut_at 46 halves.0) (numbers_of halves.1) entry =
    entry_of-Some _ _ entry made in
    let colon : IsCut 58 line halves.0 halves.1 = cut_at-Some 58 line halves.0 halves.1 cut in
    let dot : IsCut 46 halves.0 entry.class entry.channel =
    cut_at-Some 46 halves.0 entry.class entry.channel made.names in
    record {
      names = sym colon.first ∙ dot.spelled;
      class = made.class;
      channel = made.channel;
      behind = halves.1;
      numbers = made.numbers;
    })

letter_goes_on : (byte : ℕ) → is_letter byte ≡ true → goes_on byte ≡ true
letter_goes_on byte letter = rw letter refl

-- a name has no byte but letters, digits and `_`
pub goes_on-name : (text : Text) → is_name text ≡ true → list_all goes_on text ≡ true
goes_on-name [] named = refl
goes_on-name (byte ∷ rest) named =
    let spelled : (is_letter byte && list_all goes_on rest) ≡ true = (and_parts _ _ named).0 in
    let both : (is_letter byte ≡ true) × (list_all goes_on rest ≡ true) = and_parts _ _ spelled in
    and_from _ _ (letter_goes_on byte both.0) both.1

dot_by : (byte : ℕ) (dot : Bool) → (byte == 46) ≡ dot → goes_on byte ≡ true → dot ≡ false
dot_by byte true is goes =
    let same : byte ≡ 46 = grind (arith, nat_tests) in
    let dot_goes : goes_on 46 ≡ true = ap goes_on (sym same) ∙ goes in
    sym dot_goes
dot_by byte false is goes = refl

-- a byte of a name is no dot
no_dot : (byte : ℕ) → goes_on byte ≡ true → (byte == 46) ≡ false
no_dot byte goes = dot_by byte (byte == 46) refl goes

grouped : (a b c : Bool) → (a && (b && c)) ≡ ((a && b) && c)
grouped true b c = refl
grouped false b c = refl

-- names that are spelled alike are the same
pub bytes_eq-names : (class other channel others : Text) → list_all goes_on class ≡ true
    → list_all goes_on other ≡ true
    → bytes_eq (class ++ 46 ∷ channel) (other ++ 46 ∷ others)
    ≡ (bytes_eq class other && bytes_eq channel others)
bytes_eq-names [] [] channel others goes go = refl
bytes_eq-names [] (second ∷ other) channel others goes go =
    let differs : (46 == second) ≡ false =
    grind (arith, nat_tests, no_dot second (and_parts _ _ go).0) in
    rw differs refl
bytes_eq-names (first ∷ class) [] channel others goes go =
    rw (no_dot first (and_parts _ _ goes).0) refl
bytes_eq-names (first ∷ class) (second ∷ other) channel others goes go =
    ap (λ same. (first == second) && same)
    (bytes_eq-names class other channel others (and_parts _ _ goes).1 (and_parts _ _ go).1)
    ∙ grouped (first == second) (bytes_eq class other) (bytes_eq channel others)

-- the empty line gives no entry
pub line_of-nil : line_of [] ≡ None
unfolding line_of
line_of-nil = refl
