-- Lists of exits as the code holds them.
use Rattle.std.proofs.Common.{◌≡◌, ℕ, zero, suc, ◌+◌, ◌<◌, true, false, cond, List, [], ◌∷◌, ◌++◌}
use Rattle.std.proofs.Common.{length, get_or, set, drop, take, refl, sym, ap, ◌∙◌, subst, arith}
use Rattle.std.proofs.Common.{add-one}
use Rattle.std.proofs.Math.Seq.{drop-cons}
use Rattle.par_bits.specs.Sets.{Set}
use Rattle.par_program_laws.specs.Kinds.{Kind, Normal, same}
use Rattle.par_nodes.specs.Seen.{seen_kind}
use Rattle.par_pass_laws.specs.par_except.Joins.{join}
use Rattle.par_pass_laws.specs.par_except.Seen.{seen}
use Rattle.par_pass_laws.specs.Exits as pass
use Rattle.par_pass_laws.specs.Exits.{add, with_context, set_context}
use Rattle.par_ways.specs.declared.exits.Exit.{Exit}
use Rattle.par_ways.specs.Places.{IsPlace, HasNoPlace}
use Rattle.par_ways.specs.Seen.{seen_exit, seen_exits}

pub place_within : (k : Kind) (xs : List Exit) (i : ℕ) → IsPlace k (seen_exits xs) i → i < length xs
place_within k [] i h = absurd h
place_within k (x ∷ xs) zero h = omega arith
place_within k (x ∷ xs) (suc i) h = let n = place_within k xs i h.1 in omega (arith, n)

pub same_read : {A : Type 0} (xs : List A) (i : ℕ) (x y : A) → i < length xs → x ≡ get_or xs i x
    → y ≡ get_or xs i y → x ≡ y
same_read [] i x y h e f = absurd (omega (arith, h))
same_read (z ∷ xs) zero x y h e f = e ∙ sym f
same_read (z ∷ xs) (suc i) x y h e f = same_read xs i x y (omega (arith, h)) e f

pub no_place_add : (y : Exit) (xs : List Exit) → HasNoPlace (seen_kind y.kind) (seen_exits xs)
    → seen_exits (xs ++ y ∷ []) ≡ add (seen_exit y) (seen_exits xs)
no_place_add y [] h = refl
no_place_add y (x ∷ xs) h =
    ap (λ zs. seen_exit x ∷ zs) (no_place_add y xs h.1)
    ∙ sym
    (ap
    (λ b. cond b (record { kind = seen_kind x.kind; way = join (seen x.way) (seen y.way) }
    ∷ seen_exits xs) (seen_exit x ∷ add (seen_exit y) (seen_exits xs))) h.0)

pub place_add : (y : Exit) (xs : List Exit) (i : ℕ) (d z : Exit)
    → IsPlace (seen_kind y.kind) (seen_exits xs) i → z.kind ≡ (get_or xs i d).kind
    → seen z.way ≡ join (seen (get_or xs i d).way) (seen y.way)
    → seen_exits (set xs i z) ≡ add (seen_exit y) (seen_exits xs)
place_add y [] i d z h e f = absurd h
place_add y (x ∷ xs) zero d z h e f =
    ap (λ k. record { kind = seen_kind k; way = seen z.way } ∷ seen_exits xs) e
    ∙ ap (λ w. record { kind = seen_kind x.kind; way = w } ∷ seen_exits xs) f
    ∙ sym
    (ap
    (λ b. cond b (record { kind = seen_kind x.kind; way = join (seen x.way) (seen y.way) }
    ∷ seen_exits xs) (seen_exit x ∷ add (seen_exit y) (seen_exits xs))) h)
place_add y (x ∷ xs) (suc i) d z h e f =
    ap (λ zs. seen_exit x ∷ zs) (place_add y xs i d z h.1 e f)
    ∙ sym
    (ap
    (λ b. cond b (record { kind = seen_kind x.kind; way = join (seen x.way) (seen y.way) }
    ∷ seen_exits xs) (seen_exit x ∷ add (seen_exit y) (seen_exits xs))) h.0)

drop_at : (xs : List Exit) (i : ℕ) (x : Exit) → i < length xs → x ≡ get_or xs i x
    → drop i xs ≡ x ∷ drop (i + 1) xs
drop_at xs i x h e =
    drop-cons xs i x h ∙ ap (λ y. y ∷ drop (suc i) xs) (sym e)
    ∙ ap (λ j. x ∷ drop j xs) (sym (add-one i))

pub none_step : (k : Kind) (xs : List Exit) (i : ℕ) (x : Exit) → i < length xs → x ≡ get_or xs i x
    → same (seen_kind x.kind) k ≡ false
    → (HasNoPlace k (seen_exits (drop i xs)) → HasNoPlace k (seen_exits xs))
    → HasNoPlace k (seen_exits (drop (i + 1) xs)) → HasNoPlace k (seen_exits xs)
none_step k xs i x h g e f p =
    f (subst (λ l. HasNoPlace k (seen_exits l)) (sym (drop_at xs i x h g)) (e, p))

pub one_step : (k : Kind) (xs : List Exit) (i : ℕ) (x : Exit) → i < length xs → x ≡ get_or xs i x
    → same (seen_kind x.kind) k ≡ false
    → ((j : ℕ) → IsPlace k (seen_exits (drop i xs)) j → IsPlace k (seen_exits xs) (i + j)) → (j : ℕ)
    → IsPlace k (seen_exits (drop (i + 1) xs)) j → IsPlace k (seen_exits xs) (i + 1 + j)
one_step k xs i x h g e f j p =
    let q =
    f (suc j) (subst (λ l. IsPlace k (seen_exits l) (suc j)) (sym (drop_at xs i x h g)) (e, p)) in
    let n : i + suc j ≡ i + 1 + j = omega arith in subst (IsPlace k (seen_exits xs)) n q

pub one_here : (k : Kind) (xs : List Exit) (i : ℕ) (x : Exit) → i < length xs → x ≡ get_or xs i x
    → same (seen_kind x.kind) k ≡ true
    → ((j : ℕ) → IsPlace k (seen_exits (drop i xs)) j → IsPlace k (seen_exits xs) (i + j))
    → IsPlace k (seen_exits xs) i
one_here k xs i x h g e f =
    let n : i + 0 ≡ i = omega arith in
    subst (IsPlace k (seen_exits xs)) n
    (f zero (subst (λ l. IsPlace k (seen_exits l) zero) (sym (drop_at xs i x h g)) e))

-- the context set as far as the place
abbrev pub half : Set → ℕ → List Exit → List pass.Exit
half c i xs = seen_exits (take i xs) ++ with_context c (seen_exits (drop i xs))

half_step : (c : Set) (xs : List Exit) (i : ℕ) (d z : Exit) → i < length xs
    → seen_exit z ≡ set_context c (seen_exit (get_or xs i d))
    → half c i xs ≡ half c (suc i) (set xs i z)
half_step c [] i d z h e = absurd (omega (arith, h))
half_step c (x ∷ xs) zero d z h e = ap (λ y. y ∷ with_context c (seen_exits xs)) (sym e)
half_step c (x ∷ xs) (suc i) d z h e =
    ap (λ ys. seen_exit x ∷ ys) (half_step c xs i d z (omega (arith, h)) e)

half_same : (c : Set) (xs : List Exit) (i : ℕ) (d : Exit) → i < length xs
    → seen_exit (get_or xs i d) ≡ set_context c (seen_exit (get_or xs i d))
    → half c i xs ≡ half c (suc i) xs
half_same c [] i d h e = absurd (omega (arith, h))
half_same c (x ∷ xs) zero d h e = ap (λ y. y ∷ with_context c (seen_exits xs)) (sym e)
half_same c (x ∷ xs) (suc i) d h e =
    ap (λ ys. seen_exit x ∷ ys) (half_same c xs i d (omega (arith, h)) e)

pub half_set : (c : Set) (xs ys : List Exit) (i : ℕ) (x y z : Exit) (r : List pass.Exit)
    → i < length xs → x ≡ get_or xs i x → y ≡ get_or xs i y
    → same (seen_kind (get_or xs i x).kind) Normal ≡ true → ys ≡ set xs i z
    → seen_exit z ≡ record {
      kind = seen_kind (get_or xs i y).kind;
      way = record (seen (get_or xs i y).way) { context = c };
    } → half c i xs ≡ r → half c (i + 1) ys ≡ r
half_set c xs ys i x y z r h ex ey b e f g =
    let n : same (seen_kind (get_or xs i y).kind) Normal ≡ true =
    ap (λ w. same (seen_kind w.kind) Normal) (sym ey ∙ same_read xs i y x h ey ex ∙ ex) ∙ b in
    let k : seen_exit z ≡ set_context c (seen_exit (get_or xs i y)) =
    f
    ∙ sym
    (ap
    (λ t. cond t (record {
      kind = seen_kind (get_or xs i y).kind;
      way =
          record (seen (get_or xs i y).way) { context = c };
    }) (seen_exit (get_or xs i y))) n) in
    ap (λ j. half c j ys) (add-one i) ∙ ap (half c (suc i)) e ∙ sym (half_step c xs i y z h k) ∙ g

pub half_keep : (c : Set) (xs ys : List Exit) (i : ℕ) (x : Exit) (r : List pass.Exit)
    → i < length xs → x ≡ get_or xs i x → same (seen_kind (get_or xs i x).kind) Normal ≡ false
    → ys ≡ xs → half c i xs ≡ r → half c (i + 1) ys ≡ r
half_keep c xs ys i x r h ex b e g =
    ap (λ j. half c j ys) (add-one i) ∙ ap (half c (suc i)) e
    ∙ sym
    (half_same c xs i x h
    (sym
    (ap
    (λ t. cond t (record {
      kind = seen_kind (get_or xs i x).kind;
      way =
          record (seen (get_or xs i x).way) { context = c };
    }) (seen_exit (get_or xs i x))) b))) ∙ g
