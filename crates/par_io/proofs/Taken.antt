-- What a writer took piece by piece, it took as a whole; and so what was taken from a reader.
use Rattle.std.proofs.Common.{◌≡◌, ◌∙◌, ap, sym, ℕ, ◌-◌, List, ◌++◌, Option, Some, None, length}
use Rattle.std.proofs.Common.{take, drop, append_assoc, take-append-drop}
use Rattle.std.proofs.lemmas.List.{take_rest}
use Rattle.std.specs.Io.KnownBytes.{Appends, Consumes, Keeps}

-- two pieces taken one after the other
pub both_pieces : (old between now : Option (List ℕ)) (first second : List ℕ)
    → Appends old between first → Appends between now second → Appends old now (first ++ second)
both_pieces None between now first second _ _ = tt
both_pieces (Some xs) None now first second impossible _ = absurd impossible
both_pieces (Some xs) (Some ys) None first second _ impossible = absurd impossible
both_pieces (Some xs) (Some ys) (Some zs) first second one two =
    two ∙ ap (λ l. l ++ second) one ∙ append_assoc xs first second

-- a piece taken, and then nothing
pub appended_kept : (old between now : Option (List ℕ)) (piece : List ℕ)
    → Appends old between piece → Keeps between now → Appends old now piece
appended_kept None between now piece _ _ = tt
appended_kept (Some xs) None now piece impossible _ = absurd impossible
appended_kept (Some xs) (Some ys) None piece _ impossible = absurd impossible
appended_kept (Some xs) (Some ys) (Some zs) piece one same = same ∙ one

-- the rest behind a piece is what was there behind the pieces before it and this one
pub rest_behind : (front rest whole : List ℕ) (n : ℕ) → front ++ rest ≡ whole
    → (front ++ take n rest) ++ take (length rest - n) (drop n rest) ≡ whole
rest_behind front rest whole n split =
    append_assoc front (take n rest) (take (length rest - n) (drop n rest))
    ∙ ap (λ back. front ++ (take n rest ++ back)) (take_rest rest n)
    ∙ ap (λ back. front ++ back) (take-append-drop n rest)
    ∙ split

-- two pieces taken from a reader one after the other
pub both_consumed : (old between now : Option (List ℕ)) (first second : List ℕ)
    → Consumes old between first → Consumes between now second → Consumes old now (first ++ second)
both_consumed None between now first second _ _ = tt
both_consumed (Some xs) None now first second impossible _ = absurd impossible
both_consumed (Some xs) (Some ys) None first second _ impossible = absurd impossible
both_consumed (Some xs) (Some ys) (Some zs) first second one two =
    one ∙ ap (λ l. first ++ l) two ∙ sym (append_assoc first second zs)

-- a piece taken from a reader, and then nothing
pub consumed_kept : (old between now : Option (List ℕ)) (piece : List ℕ)
    → Consumes old between piece → Keeps between now → Consumes old now piece
consumed_kept None between now piece _ _ = tt
consumed_kept (Some xs) None now piece impossible _ = absurd impossible
consumed_kept (Some xs) (Some ys) None piece _ impossible = absurd impossible
consumed_kept (Some xs) (Some ys) (Some zs) piece one same = one ∙ ap (λ l. piece ++ l) (sym same)
