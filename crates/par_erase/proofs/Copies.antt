-- Copies of lists, one item after another.
use Rattle.std.proofs.Common.{◌≡◌, ℕ, ◌+◌, ◌<◌, ◌≤◌, Bool, true, false, List, [], ◌∷◌, ◌++◌, length}
use Rattle.std.proofs.Common.{get_or, drop, map, refl, ap, sym, ◌∙◌, append_assoc, if◌then◌else◌}
use Rattle.std.proofs.lemmas.List.{map-append}
use Rattle.par_typed.specs.declared.table.ChannelInfo.{ChannelInfo}
use Rattle.par_erase.specs.Erased.{inputs_among, outputs_among}
use Rattle.par_erase.proofs.ExprForms.{left_more, left_none}

-- what a list comes to, in front of what is left
pub map_left : {X Y : Type 0} (f : X → Y) (xs : List X) (i : ℕ) (x : X) → i < length xs
    → x ≡ get_or xs i x → map f (drop i xs) ≡ f x ∷ map f (drop (i + 1) xs)
map_left f xs i x lt is = ap (map f) (left_more xs i x lt is)

pub map_none_left : {X Y : Type 0} (f : X → Y) (xs : List X) (i : ℕ) → length xs ≤ i
    → map f (drop i xs) ≡ []
map_none_left f xs i le = ap (map f) (left_none xs i le)

-- one more item in front of what is left
pub one_more : {X : Type 0} (xs : List X) (x : X) (rest : List X)
    → (xs ++ x ∷ []) ++ rest ≡ xs ++ (x ∷ rest)
one_more xs x rest = append_assoc xs (x ∷ []) rest

pub none_behind : {X : Type 0} (xs : List X) → xs ++ [] ≡ xs
none_behind [] = refl
none_behind (x ∷ xs) = ap (λ ys. x ∷ ys) (none_behind xs)

-- channels by their direction
pub inputs_one : (c : ChannelInfo) (cs : List ChannelInfo)
    → inputs_among (c ∷ cs) ≡ inputs_among (c ∷ []) ++ inputs_among cs
inputs_one c cs = by_case c.is_input
  where
    by_case : (b : Bool) → (if b then c.name ∷ inputs_among cs else inputs_among cs)
        ≡ (if b then c.name ∷ [] else []) ++ inputs_among cs
    by_case true = refl
    by_case false = refl

pub outputs_one : (c : ChannelInfo) (cs : List ChannelInfo)
    → outputs_among (c ∷ cs) ≡ outputs_among (c ∷ []) ++ outputs_among cs
outputs_one c cs = by_case c.is_input
  where
    by_case : (b : Bool) → (if b then outputs_among cs else c.name ∷ outputs_among cs)
        ≡ (if b then [] else c.name ∷ []) ++ outputs_among cs
    by_case true = refl
    by_case false = refl

pub inputs_left : (cs : List ChannelInfo) (i : ℕ) (c : ChannelInfo) → i < length cs
    → c ≡ get_or cs i c
    → inputs_among (drop i cs) ≡ inputs_among (c ∷ []) ++ inputs_among (drop (i + 1) cs)
inputs_left cs i c lt is =
    ap inputs_among (left_more cs i c lt is) ∙ inputs_one c (drop (i + 1) cs)

pub outputs_left : (cs : List ChannelInfo) (i : ℕ) (c : ChannelInfo) → i < length cs
    → c ≡ get_or cs i c
    → outputs_among (drop i cs) ≡ outputs_among (c ∷ []) ++ outputs_among (drop (i + 1) cs)
outputs_left cs i c lt is =
    ap outputs_among (left_more cs i c lt is) ∙ outputs_one c (drop (i + 1) cs)

-- what is found grows by what is taken from the front of what is left
pub more_behind : {X : Type 0} (old new one left rest all : List X) → left ≡ one ++ rest
    → new ≡ old ++ one → old ++ left ≡ all → new ++ rest ≡ all
more_behind old new one left rest all is grown h =
    ap (λ xs. xs ++ rest) grown ∙ append_assoc old one rest ∙ ap (λ xs. old ++ xs) (sym is) ∙ h

-- nothing is left
pub whole_behind : {X : Type 0} (old left all : List X) → left ≡ [] → old ++ left ≡ all → old ≡ all
whole_behind old left all none h = sym (none_behind old) ∙ ap (λ xs. old ++ xs) (sym none) ∙ h

-- one item more is copied
pub copies_step : {X Y Z : Type 0} (f : X → Z) (g : Y → Z) (found new : List X) (x : X)
    (ys : List Y) (i : ℕ) (y : Y) → new ≡ found ++ x ∷ [] → i < length ys → y ≡ get_or ys i y
    → f x ≡ g y → map f found ++ map g (drop i ys) ≡ map g ys
    → map f new ++ map g (drop (i + 1) ys) ≡ map g ys
copies_step f g found new x ys i y push lt is same h =
    more_behind (map f found) (map f new) (g y ∷ []) (map g (drop i ys)) (map g (drop (i + 1) ys))
    (map g ys) (map_left g ys i y lt is)
    (ap (map f) push ∙ map-append f found (x ∷ []) ∙ ap (λ z. map f found ++ z ∷ []) same) h

pub copies_end : {X Y Z : Type 0} (f : X → Z) (g : Y → Z) (found : List X) (ys : List Y) (i : ℕ)
    → length ys ≤ i → map f found ++ map g (drop i ys) ≡ map g ys → map f found ≡ map g ys
copies_end f g found ys i le h =
    whole_behind (map f found) (map g (drop i ys)) (map g ys) (map_none_left g ys i le) h

pub ruleset copies = (map-append, one_more, none_behind, append_assoc)
