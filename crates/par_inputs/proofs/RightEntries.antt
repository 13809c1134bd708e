-- What holds of all entries of right lines.
use Rattle.std.proofs.Common.{◌≡◌, ℕ, zero, suc, ◌<◌, ◌≤◌, List, [], ◌∷◌, ◌++◌, Bool, true, false}
use Rattle.std.proofs.Common.{not, ◌&&◌, ◌==◌, Option, Some, None, length, take, get_or, refl, ap}
use Rattle.std.proofs.Common.{sym, ◌∙◌, subst, arith, append-nil}
use Rattle.std.specs.List.{All, cons_option, list_any}
use Rattle.std.specs.Option.{option_map_or}
use Rattle.std.specs.Str.{bytes_eq}
use Rattle.std.proofs.lemmas.Bool.{false_from_ne_true, true≢false}
use Rattle.std.proofs.lemmas.Bool.Decides.{nat_tests}
use Rattle.std.proofs.lemmas.List.{nil_from_length}
use Rattle.std.proofs.lemmas.List.Elements.{All-cons, filter_map-append}
use Rattle.std.proofs.lemmas.Option.{none-some}
use Rattle.std.proofs.lemmas.List.Folds.{list_any_at}
use Rattle.std.proofs.lemmas.List.Quantifiers.{all_pairs_push}
use Rattle.std.proofs.Math.Seq.{take-suc, take-length}
use Rattle.par_base.proofs.NameTests.{is_name-IsName}
use Rattle.par_values.specs.declared.inputs.ChannelInput.{ChannelInput}
use Rattle.par_inputs.specs.Lines.{Text, lines_of}
use Rattle.par_inputs.specs.Entries.{line_of}
use Rattle.par_inputs.specs.Rules.{entries, is_same_channel, is_taken, is_broken, AreRight, IsRight}
use Rattle.par_inputs.specs.Rules.{IsEntry, IsOnce}
use Rattle.par_inputs.proofs.Fitting.{numbers_of-fit}
use Rattle.par_inputs.proofs.Spelling.{Spells, names_of, line_of-Some, line_of-nil, goes_on-name}
use Rattle.par_inputs.proofs.Spelling.{bytes_eq-names}

-- ---- each entry

entry_is : (line : Text) (entry : ChannelInput) → line_of line ≡ Some entry → IsEntry entry
entry_is line entry is =
    let spells : Spells line entry = line_of-Some line entry is in
    record {
      class = is_name-IsName entry.class spells.class;
      channel = is_name-IsName entry.channel spells.channel;
      numbers = numbers_of-fit spells.behind entry.numbers spells.numbers;
    }

each_more : (line : Text) (entry : Option ChannelInput) (others : List ChannelInput)
    → line_of line ≡ entry → All IsEntry others → All IsEntry (cons_option entry others)
each_more line None others is all = all
each_more line (Some entry) others is all =
    All-cons IsEntry entry others (entry_is line entry is) all

-- each entry has names and numbers of 32 bits
pub All-entries : (lines : List Text) → All IsEntry (entries lines)
All-entries [] = λ k d inside. absurd (omega (arith, inside))
All-entries (line ∷ lines) = each_more line (line_of line) (entries lines) refl (All-entries lines)

-- ---- one more line

-- the entries with one more line
pub entries-push : (lines : List Text) (line : Text) (entry : Option ChannelInput)
    → line_of line ≡ entry → entries (lines ++ line ∷ []) ≡ entries lines ++ cons_option entry []
entries-push lines line entry is =
    filter_map-append line_of lines (line ∷ []) ∙ ap (λ e. entries lines ++ cons_option e []) is

free_by : (earlier : List Text) (line : Text) (entry : ChannelInput) (empty : Bool)
    → (length line == 0) ≡ empty → line_of line ≡ Some entry
    → (not empty && option_map_or (is_taken earlier) (line_of line) true) ≡ false
    → is_taken earlier entry ≡ false
free_by earlier line entry true empty is right =
    let nothing : line ≡ [] = nil_from_length line (grind (arith, nat_tests)) in
    absurd (none-some entry (sym line_of-nil ∙ ap line_of (sym nothing) ∙ is))
free_by earlier line entry false empty is right =
    ap (λ e. option_map_or (is_taken earlier) e true) (sym is) ∙ right

-- the channel of a right line is on no earlier one
free : (earlier : List Text) (line : Text) (entry : ChannelInput) → line_of line ≡ Some entry
    → is_broken earlier line ≡ false → is_taken earlier entry ≡ false
free earlier line entry is right = free_by earlier line entry (length line == 0) refl is right

-- where no element passes, none does at a place
none_at : (test : ChannelInput → Bool) (xs : List ChannelInput) (k : ℕ) (d : ChannelInput)
    → list_any test xs ≡ false → k < length xs → test (get_or xs k d) ≡ false
none_at test xs k d none inside =
    false_from_ne_true (test (get_or xs k d))
    (λ passes. true≢false (sym (list_any_at test xs k d inside passes) ∙ none))

once_by : (earlier : List Text) (line : Text) (entry : Option ChannelInput) → line_of line ≡ entry
    → is_broken earlier line ≡ false → IsOnce (entries earlier)
    → IsOnce (entries earlier ++ cons_option entry [])
once_by earlier line None is right once = subst IsOnce (sym (append-nil (entries earlier))) once
once_by earlier line (Some entry) is right once =
    all_pairs_push (λ one other. is_same_channel one other ≡ false) (entries earlier) entry once
    (λ k d inside. none_at (λ x. is_same_channel x entry) (entries earlier) k d
    (free earlier line entry is right) inside)

-- ---- no two entries name one channel

-- no two entries of right lines name one channel
pub IsOnce-entries : (lines : List Text) (count : ℕ) → count ≤ length lines → AreRight lines count
    → IsOnce (entries (take count lines))
IsOnce-entries lines zero inside right = λ i j d before within. absurd (omega (arith, within))
IsOnce-entries lines (suc n) inside right =
    let line : Text = get_or lines n [] in
    let fewer : AreRight lines n =
    record { right = λ place below. right.right place (omega arith) } in
    let once : IsOnce (entries (take n lines)) = IsOnce-entries lines n (omega arith) fewer in
    let more : take (suc n) lines ≡ take n lines ++ line ∷ [] = take-suc lines n [] (omega arith) in
    let pushed : entries (take (suc n) lines)
    ≡ entries (take n lines) ++ cons_option (line_of line) [] =
    ap entries more ∙ entries-push (take n lines) line (line_of line) refl in
    subst IsOnce (sym pushed)
    (once_by (take n lines) line (line_of line) refl (right.right n (omega arith)) once)

-- no two entries of a right file name one channel
pub IsOnce-right : (bytes : Text) → IsRight bytes → IsOnce (entries (lines_of bytes))
IsOnce-right bytes right =
    let lines : List Text = lines_of bytes in
    let Once : List Text → Type 0 = λ read. IsOnce (entries read) in
    subst Once (take-length lines) (IsOnce-entries lines (length lines) (omega arith) right)

-- ---- texts of names

alike_more : (test other : ChannelInput → Bool) (line : Text) (entry : Option ChannelInput)
    (xs : List ChannelInput) → line_of line ≡ entry
    → ((l : Text) (e : ChannelInput) → line_of l ≡ Some e → test e ≡ other e)
    → list_any test xs ≡ list_any other xs
    → list_any test (cons_option entry xs) ≡ list_any other (cons_option entry xs)
alike_more test other line None xs is same rest = rest
alike_more test other line (Some entry) xs is same rest = rw (same line entry is) (rw rest refl)

-- tests that answer alike at what lines give find alike among the entries
alike : (test other : ChannelInput → Bool) (lines : List Text)
    → ((l : Text) (e : ChannelInput) → line_of l ≡ Some e → test e ≡ other e)
    → list_any test (entries lines) ≡ list_any other (entries lines)
alike test other [] same = refl
alike test other (line ∷ lines) same =
    alike_more test other line (line_of line) (entries lines) refl same
    (alike test other lines same)

-- an entry's channel is on one of the lines exactly if its names are spelled there
pub is_taken-names : (lines : List Text) (line : Text) (entry : ChannelInput)
    → line_of line ≡ Some entry → list_any (λ earlier. bytes_eq (names_of entry) (names_of earlier))
    (entries lines) ≡ is_taken lines entry
is_taken-names lines line entry is =
    let named : Spells line entry = line_of-Some line entry is in
    alike (λ earlier. bytes_eq (names_of entry) (names_of earlier))
    (λ earlier. is_same_channel earlier entry) lines
    (λ l e gives.
    let other : Spells l e = line_of-Some l e gives in
    bytes_eq-names entry.class e.class entry.channel e.channel
    (goes_on-name entry.class named.class) (goes_on-name e.class other.class))
