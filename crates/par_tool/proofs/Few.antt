-- A file has at most as many entries as bytes, and one more.
use Rattle.std.proofs.Common.{suc, ◌+◌, ◌≤◌, List, [], ◌∷◌, length, Option, Some, None, Bool, true}
use Rattle.std.proofs.Common.{false, cond, ◌==◌, arith}
use Rattle.std.specs.List.{cons_option, slice_split}
use Rattle.std.proofs.lemmas.List.Sums.{count_by-le-length}
use Rattle.std.proofs.lemmas.List.Splits.{length-slice_split}
use Rattle.par_values.specs.declared.inputs.ChannelInput.{ChannelInput}
use Rattle.par_inputs.specs.Lines.{Text, without_empty_last, lines_of}
use Rattle.par_inputs.specs.Entries.{line_of}
use Rattle.par_inputs.specs.Rules.{entries}

one_more : (o : Option ChannelInput) (xs : List ChannelInput)
    → length (cons_option o xs) ≤ suc (length xs)
one_more None xs = omega arith
one_more (Some x) xs = omega arith

few_entries : (lines : List Text) → length (entries lines) ≤ length lines
few_entries [] = omega arith
few_entries (line ∷ lines) = let rest = few_entries lines in
    let more = one_more (line_of line) (entries lines) in omega (arith, rest, more)

at_most_one : (b : Bool) (part : Text) → length (cond b [] (part ∷ [])) ≤ 1
at_most_one true part = omega arith
at_most_one false part = omega arith

shorter : (parts : List Text) → length (without_empty_last parts) ≤ length parts
shorter [] = omega arith
shorter (part ∷ []) = at_most_one (length part == 0) part
shorter (part ∷ next ∷ parts) = let rest = shorter (next ∷ parts) in omega (arith, rest)

few_lines : (bytes : Text) → length (lines_of bytes) ≤ length bytes + 1
unfolding lines_of
few_lines bytes =
    let a = shorter (slice_split (λ byte. byte == 10) bytes) in
    let b = length-slice_split (λ byte. byte == 10) bytes in
    let c = count_by-le-length (λ byte. byte == 10) bytes in
    omega (arith, a, b, c)

pub few : (bytes : Text) → length (entries (lines_of bytes)) ≤ length bytes + 1
few bytes = let a = few_entries (lines_of bytes) in let b = few_lines bytes in omega (arith, a, b)
