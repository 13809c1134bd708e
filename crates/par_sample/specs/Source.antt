-- The source that is made of a number, line by line.
use Rattle.std.specs.Prelude.{ℕ, ◌+◌, ◌*◌, List, [], ◌∷◌, ◌++◌, map, codes}
use Rattle.std.specs.List.{flat_map, range_with_len}
use Rattle.std.specs.Fmt.{decimal}
use Rattle.par_sample.specs.Numbers.{drawn}

abbrev pub Text : Type 0
Text = List ℕ

-- how many classes are made beside the first one, and how many methods each of them has
unfoldable pub class_count : ℕ
class_count = 100

unfoldable pub method_count : ℕ
method_count = 10

-- the lines before these classes
abbrev pub opening : List Text
opening =
    codes "actor alice, bob;"
    ∷ codes "lock Paid;"
    ∷ codes "class Shop {"
    ∷ codes "?{alice:; bob: Paid} input int key();"
    ∷ codes "?{alice:; bob:} output void show(int v);"
    ∷ codes "static void main() !bottom { open Paid; show(G0.m0(key())); }"
    ∷ codes "}"
    ∷ []

-- the line of a method of this number
unfoldable pub method_text : (method added bound less : ℕ) → Text
method_text method added bound less =
    codes "?{alice:; bob: Paid} static int m"
    ++ (decimal method ++ (codes "(?{alice:; bob: Paid} int a) !top { int b = a + "
    ++ (decimal added ++ (codes "; while (b > "
    ++ (decimal bound ++ (codes ") { b = b - "
    ++ (decimal less ++ codes "; } return b; }")))))))

-- each method draws the three numbers behind those of the methods before it
abbrev pub method_line : (first class method : ℕ) → Text
method_line first class method =
    let before : ℕ = 3 * (method_count * class + method) in
    method_text method (drawn first (before + 1)) (drawn first (before + 2))
    (drawn first (before + 3) + 1)

-- the first line of a class
unfoldable pub class_text : ℕ → Text
class_text class = codes "class G" ++ (decimal class ++ codes " {")

-- the lines of a class
unfoldable pub class_lines : (first class : ℕ) → List Text
class_lines first class =
    class_text class
    ∷ (map (method_line first class) (range_with_len 0 method_count) ++ codes "}" ∷ [])

-- all lines
unfoldable pub lines : ℕ → List Text
lines first = opening ++ flat_map (class_lines first) (range_with_len 0 class_count)

-- a line ends with byte 10
abbrev pub line : Text → Text
line text = text ++ codes "\n"

abbrev pub source : ℕ → Text
source first = flat_map line (lines first)
