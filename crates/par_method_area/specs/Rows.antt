-- Rows that stand beside the items of a list.
use Rattle.std.specs.Prelude.{ℕ, ◌+◌, List, [], ◌∷◌}

-- each item has its row, where the first of them stands at this place
abbrev pub AreRowsFrom : {A B : Type 0} → (ℕ → A → B → Type 0) → ℕ → List A → List B → Type 0
AreRowsFrom IsRow place [] [] = Unit {0}
AreRowsFrom IsRow place (x ∷ xs) (row ∷ rows) =
    IsRow place x row × AreRowsFrom IsRow (place + 1) xs rows
AreRowsFrom IsRow place _ _ = ⊥

-- each item has its row
abbrev pub AreRows : {A B : Type 0} → (ℕ → A → B → Type 0) → List A → List B → Type 0
AreRows IsRow xs rows = AreRowsFrom IsRow 0 xs rows
