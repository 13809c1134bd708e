-- The first handler of a row, found by going from one to the next.
use Rattle.std.proofs.Common.{◌≡◌, ℕ, zero, suc, ◌+◌, ◌<◌, ◌≤◌, Bool, true, false, List, [], ◌∷◌}
use Rattle.std.proofs.Common.{length, drop, get_or, Some, None, refl, ap, sym, ◌∙◌, arith}
use Rattle.std.proofs.Common.{◌&&◌, set, replicate}
use Rattle.std.proofs.lemmas.List.{drop_all}
use Rattle.par_class.specs.declared.file.Catch.{Catch}
use Rattle.par_step_laws.specs.Handlers.{first_handler}

-- one that does not take it is passed
pub passed : (takes : Catch → Bool) (catches : List Catch) (i : ℕ) (d : Catch) → i < length catches
    → takes (get_or catches i d) ≡ false
    → first_handler takes (drop i catches) ≡ first_handler takes (drop (i + 1) catches)
unfolding first_handler
passed takes [] i d less refused = absurd (omega arith)
passed takes (c ∷ catches) zero d less refused = rw refused refl
passed takes (c ∷ catches) (suc i) d less refused =
    let same : suc i + 1 ≡ suc (i + 1) = omega arith in
    passed takes catches i d (omega arith) refused
    ∙ ap (λ (n : ℕ). first_handler takes (drop n (c ∷ catches))) (sym same)

-- one that takes it is the first
pub found : (takes : Catch → Bool) (catches : List Catch) (i : ℕ) (d : Catch) → i < length catches
    → takes (get_or catches i d) ≡ true
    → first_handler takes (drop i catches) ≡ Some (get_or catches i d).handler
unfolding first_handler
found takes [] i d less taken = absurd (omega arith)
found takes (c ∷ catches) zero d less taken = rw taken refl
found takes (c ∷ catches) (suc i) d less taken = found takes catches i d (omega arith) taken

-- behind the last there is none
pub over : (takes : Catch → Bool) (catches : List Catch) (i : ℕ) → length catches ≤ i
    → first_handler takes (drop i catches) ≡ None
unfolding first_handler
over takes catches i behind =
    ap (λ (cs : List Catch). first_handler takes cs) (drop_all i catches behind)

-- ---- whether one of a class takes it

pub both : (a b : Bool) → a ≡ true → b ≡ true → (a && b) ≡ true
both true b one other = other
both false b one other = absurd (cc one)

pub not-first : (a b : Bool) → a ≡ false → (a && b) ≡ false
not-first true b one = absurd (cc one)
not-first false b one = refl

pub not-last : (a b : Bool) → b ≡ false → (a && b) ≡ false
not-last true b other = other
not-last false b other = refl

-- a place that is marked now is the one that refuses, or it was marked before
pub marked-anew : (takes : ℕ → Bool) (marks : List Bool) (class : ℕ) → takes class ≡ false
    → ((named : ℕ) → get_or marks named false ≡ true → takes named ≡ false)
    → (named : ℕ) → get_or (set marks class true) named false ≡ true → takes named ≡ false
marked-anew takes [] class refuses before named e = before named e
marked-anew takes (m ∷ marks) zero refuses before zero e = refuses
marked-anew takes (m ∷ marks) zero refuses before (suc named) e = before (suc named) e
marked-anew takes (m ∷ marks) (suc class) refuses before zero e = before zero e
marked-anew takes (m ∷ marks) (suc class) refuses before (suc named) e =
    marked-anew (λ n. takes (suc n)) marks class refuses (λ n. before (suc n)) named e

-- no place is marked at first
pub unmarked : (many place : ℕ) → get_or (replicate many false) place false ≡ false
unmarked zero place = refl
unmarked (suc many) zero = refl
unmarked (suc many) (suc place) = unmarked many place
