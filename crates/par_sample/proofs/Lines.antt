-- The lines that are there so far, and the numbers that are drawn.
use Rattle.std.proofs.Common.{◌≡◌, ℕ, suc, ◌+◌, ◌*◌, List, [], ◌∷◌, ◌++◌, map, codes, ap, sym}
use Rattle.std.proofs.Common.{◌∙◌, refl, arith, append-nil}
use Rattle.std.specs.List.{flat_map, range_with_len}
use Rattle.std.proofs.lemmas.List.{flat_map_more, map-id}
use Rattle.std.proofs.lemmas.Grind.{flat_map-append}
use Rattle.std.proofs.lemmas.List.FromFn.{map-range_with_len_more}
use Rattle.par_sample.specs.Numbers.{next, number, drawn, drawn_of}
use Rattle.par_sample.specs.Source.{Text, line, lines, opening, source, class_text, class_lines}
use Rattle.par_sample.specs.Source.{method_line, method_text, method_count, class_count}

pub ten_methods : method_count ≡ 10
unfolding method_count
ten_methods = refl

pub hundred_classes : class_count ≡ 100
unfolding class_count
hundred_classes = refl

-- the first number of a row
pub number_first : (first i : ℕ) → i ≡ 0 → number first i ≡ first
unfolding number
number_first first i none = rw none refl

number_next : (first r i j : ℕ) → r ≡ number first i → j ≡ i + 1 → next r ≡ number first j
unfolding number
number_next first r i j at one =
    let more : j ≡ suc i = omega (arith, one) in rw more (ap next at)

-- a method draws the next three numbers
module _ (first class method r : ℕ) (at : r ≡ number first (3 * (method_count * class + method)))
  where
    abbrev before : ℕ
    before = 3 * (method_count * class + method)

    one : next r ≡ number first (before + 1)
    one = number_next first r before (before + 1) at refl

    two : next (next r) ≡ number first (before + 2)
    two = number_next first (next r) (before + 1) (before + 2) one (omega arith)

    three : next (next (next r)) ≡ number first (before + 3)
    three = number_next first (next (next r)) (before + 2) (before + 3) two (omega arith)

    pub method_numbers
        : next (next (next r)) ≡ number first (3 * (method_count * class + (method + 1)))
    method_numbers =
        let behind : before + 3 ≡ 3 * (method_count * class + (method + 1)) = omega arith in
        three ∙ ap (number first) behind

    pub method_drawn : method_text method (drawn_of (next r)) (drawn_of (next (next r)))
        (drawn_of (next (next (next r))) + 1) ≡ method_line first class method
    method_drawn =
        ap (λ x. method_text method (drawn_of x) (drawn_of (next (next r)))
        (drawn_of (next (next (next r))) + 1)) one
        ∙ ap (λ x. method_text method (drawn first (before + 1)) (drawn_of x)
        (drawn_of (next (next (next r))) + 1)) two
        ∙ ap (λ x. method_text method (drawn first (before + 1)) (drawn first (before + 2))
        (drawn_of x + 1)) three

-- the first lines of a class, with so many of its methods
abbrev pub class_begun : (first class methods : ℕ) → List Text
class_begun first class methods =
    class_text class ∷ map (method_line first class) (range_with_len 0 methods)

-- a class begins with its first line
pub begin_class : (bs : Text) (first class : ℕ)
    → bs ++ line (class_text class) ≡ bs ++ flat_map line (class_begun first class 0)
begin_class bs first class = ap (λ l. bs ++ l) (sym (append-nil (line (class_text class))))

-- and has one method more
pub more_methods : (bs : Text) (first class method : ℕ)
    → (bs ++ flat_map line (class_begun first class method))
    ++ line (method_line first class method)
    ≡ bs ++ flat_map line (class_begun first class (method + 1))
more_methods bs first class method =
    flat_map_more line bs (class_begun first class method) (method_line first class method)
    ∙ ap (λ ls. bs ++ flat_map line (class_text class ∷ ls))
    (sym (map-range_with_len_more (method_line first class) 0 method method (omega arith)))

-- until its last line
pub end_class : (bs : Text) (first class : ℕ)
    → (bs ++ flat_map line (class_begun first class method_count)) ++ line (codes "}")
    ≡ bs ++ flat_map line (class_lines first class)
unfolding class_lines
end_class bs first class =
    flat_map_more line bs (class_begun first class method_count) (codes "}")

-- what a method adds
pub add_method : (bs old new : Text) (first class method r : ℕ)
    → r ≡ number first (3 * (method_count * class + method))
    → old ≡ bs ++ flat_map line (class_begun first class method)
    → new ≡ old ++ line (method_text method (drawn_of (next r)) (drawn_of (next (next r)))
    (drawn_of (next (next (next r))) + 1))
    → new ≡ bs ++ flat_map line (class_begun first class (method + 1))
add_method bs old new first class method r at before added =
    let drawn_line = method_drawn first class method r at in
    let begun = bs ++ flat_map line (class_begun first class method) in
    added
    ∙ ap (λ t. t ++ line (method_text method (drawn_of (next r)) (drawn_of (next (next r)))
    (drawn_of (next (next (next r))) + 1))) before
    ∙ ap (λ l. begun ++ line l) drawn_line
    ∙ more_methods bs first class method

-- all methods of a class are there
pub all_numbers : (first class method : ℕ) → method ≡ 10
    → number first (3 * (method_count * class + method))
    ≡ number first (3 * (method_count * (class + 1)))
all_numbers first class method ten =
    let count = ten_methods in
    let all : 3 * (method_count * class + method) ≡ 3 * (method_count * (class + 1)) =
    omega (arith, ten, count) in
    ap (number first) all

pub all_lines : (bs old new : Text) (first class method : ℕ) → method ≡ 10
    → old ≡ bs ++ flat_map line (class_begun first class method)
    → new ≡ old ++ line (codes "}")
    → new ≡ bs ++ flat_map line (class_lines first class)
all_lines bs old new first class method ten before added =
    let count : method ≡ method_count = ten ∙ sym ten_methods in
    added
    ∙ ap (λ t. t ++ line (codes "}")) before
    ∙ ap (λ k. (bs ++ flat_map line (class_begun first class k)) ++ line (codes "}")) count
    ∙ end_class bs first class

-- the first lines of a source, with so many of its classes
abbrev pub source_begun : (first classes : ℕ) → List Text
source_begun first classes = opening ++ flat_map (class_lines first) (range_with_len 0 classes)

range_more : (n : ℕ) → range_with_len 0 (n + 1) ≡ range_with_len 0 n ++ n ∷ []
range_more n =
    sym (map-id (range_with_len 0 (n + 1)))
    ∙ map-range_with_len_more (λ x. x) 0 n n (omega arith)
    ∙ ap (λ ns. ns ++ n ∷ []) (map-id (range_with_len 0 n))

classes_more : (first class : ℕ)
    → flat_map (class_lines first) (range_with_len 0 class) ++ class_lines first class
    ≡ flat_map (class_lines first) (range_with_len 0 (class + 1))
classes_more first class =
    flat_map_more (class_lines first) [] (range_with_len 0 class) class
    ∙ ap (flat_map (class_lines first)) (sym (range_more class))

-- a source has one class more
pub more_classes : (first class : ℕ)
    → flat_map line (source_begun first class) ++ flat_map line (class_lines first class)
    ≡ flat_map line (source_begun first (class + 1))
more_classes first class =
    sym (flat_map-append line (source_begun first class) (class_lines first class))
    ∙ ap (λ ls. flat_map line (opening ++ ls)) (classes_more first class)

-- all classes of a source are there
pub all_classes : (first class : ℕ) → class ≡ 100
    → flat_map line (source_begun first class) ≡ source first
unfolding lines
all_classes first class hundred =
    ap (λ k. flat_map line (source_begun first k)) (hundred ∙ sym hundred_classes)
