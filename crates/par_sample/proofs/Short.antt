-- A sample is no longer than a source may be.
use Rattle.std.proofs.Common.{◌≡◌, ℕ, zero, suc, ◌+◌, ◌*◌, ◌<◌, ◌≤◌, List, [], ◌∷◌, ◌++◌, map}
use Rattle.std.proofs.Common.{length, codes, ap, ◌∙◌, refl, arith, subst}
use Rattle.std.specs.Fmt.{decimal}
use Rattle.std.specs.List.{flat_map, range_with_len}
use Rattle.std.proofs.lemmas.Fmt.{length-decimal-le}
use Rattle.std.proofs.lemmas.List.{length-append}
use Rattle.std.proofs.lemmas.List.Concat.{flat_map_single}
use Rattle.std.proofs.lemmas.Nat.{mod_below}
use Rattle.std.proofs.lemmas.Grind.{flat_map-append, common_steps}
use Rattle.par_lexer.specs.declared.cut.TheConstants.{LONGEST_SOURCE}
use Rattle.par_sample.specs.Numbers.{drawn}
use Rattle.par_sample.specs.Source.{Text, line, lines, opening, source, class_text, class_lines}
use Rattle.par_sample.specs.Source.{method_line, method_text, method_count, class_count}
use Rattle.par_sample.proofs.Lines.{ten_methods, hundred_classes}

-- how many bytes lines have
abbrev size : List Text → ℕ
size ls = length (flat_map line ls)

-- ---- one line

-- a number of at most four digits
four : (n : ℕ) → n ≤ 1000 → length (decimal n) ≤ 4
four n few = length-decimal-le 4 n (omega arith) (omega arith) (omega arith)

method_text-short : (method added bound less : ℕ) → method ≤ 1000 → added ≤ 1000 → bound ≤ 1000
    → less ≤ 1000 → length (method_text method added bound less) ≤ 160
unfolding method_text
method_text-short method added bound less m a b l =
    let one = four method m in
    let two = four added a in
    let three = four bound b in
    let last = four less l in
    grind (arith, common_steps, one, two, three, last)

class_text-short : (class : ℕ) → class ≤ 1000 → length (class_text class) ≤ 20
unfolding class_text
class_text-short class few = let digits = four class few in grind (arith, common_steps, digits)

method_line-short : (first class method : ℕ) → method ≤ 1000
    → length (method_line first class method) ≤ 160
method_line-short first class method few =
    let before : ℕ = 3 * (method_count * class + method) in
    let one : drawn first (before + 1) < 1000 = mod_below _ 1000 (omega arith) in
    let two : drawn first (before + 2) < 1000 = mod_below _ 1000 (omega arith) in
    let three : drawn first (before + 3) < 1000 = mod_below _ 1000 (omega arith) in
    method_text-short method (drawn first (before + 1)) (drawn first (before + 2))
    (drawn first (before + 3) + 1) few (omega (arith, one)) (omega (arith, two))
    (omega (arith, three))

line-short : (text : Text) (k : ℕ) → length text ≤ k → length (line text) ≤ suc k
line-short text k few = grind (arith, common_steps, few)

-- ---- lines one after another

size-append : (ls more : List Text) → size (ls ++ more) ≡ size ls + size more
size-append ls more =
    ap length (flat_map-append line ls more)
    ∙ length-append (flat_map line ls) (flat_map line more)

size-one : (text : Text) → size (text ∷ []) ≡ length (line text)
size-one text = grind (arith, common_steps)

-- so many pieces of at most so many bytes
pieces-short : (f : ℕ → List Text) (k at n : ℕ) → ((i : ℕ) → i < at + n → size (f i) ≤ k)
    → size (flat_map f (range_with_len at n)) ≤ k * n
pieces-short f k at zero each = omega arith
pieces-short f k at (suc n) each =
    let rest = pieces-short f k (at + 1) n (λ i below. each i (omega (arith, below))) in
    let one = each at (omega arith) in
    let both = size-append (f at) (flat_map f (range_with_len (at + 1) n)) in
    let split : size (flat_map f (range_with_len at (suc n)))
    ≡ size (f at ++ flat_map f (range_with_len (at + 1) n)) = refl in
    let times : k * suc n ≡ k + k * n = omega arith in
    omega (arith, rest, one, both, split, times)

class_lines-short : (first class : ℕ) → class ≤ 1000 → size (class_lines first class) ≤ 1640
unfolding class_lines
class_lines-short first class few =
    let methods = map (method_line first class) (range_with_len 0 method_count) in
    let single = flat_map_single (method_line first class) (range_with_len 0 method_count) in
    let each : (i : ℕ) → i < 0 + method_count → size (method_line first class i ∷ []) ≤ 161 =
    λ i below.
    let count = ten_methods in
    let short = line-short (method_line first class i) 160
    (method_line-short first class i (omega (arith, below, count))) in
    let whole = size-one (method_line first class i) in
    omega (arith, short, whole) in
    let many : size methods ≤ 161 * method_count =
    subst (λ ls. size ls ≤ 161 * method_count) single
    (pieces-short (λ i. method_line first class i ∷ []) 161 0 method_count each) in
    let head = line-short (class_text class) 20 (class_text-short class few) in
    let count = ten_methods in
    let parts = size-append (class_text class ∷ methods) (codes "}" ∷ []) in
    let front = size-append (class_text class ∷ []) methods in
    let begun = size-one (class_text class) in
    omega (arith, many, head, count, parts, front, begun)

-- ---- the source

-- a sample has at most so many bytes
pub source-short : (first : ℕ) → length (source first) ≤ LONGEST_SOURCE
unfolding lines
source-short first =
    let count = hundred_classes in
    let all = pieces-short (class_lines first) 1640 0 class_count
    (λ i below. class_lines-short first i (omega (arith, below, count))) in
    let parts = size-append opening (flat_map (class_lines first) (range_with_len 0 class_count))
    in
    omega (arith, count, all, parts)
