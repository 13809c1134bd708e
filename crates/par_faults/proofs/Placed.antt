-- The one too many of some places.
use Rattle.std.proofs.Common.{◌≡◌, ℕ, ◌+◌, ◌<◌, ◌≤◌, List, [], ◌∷◌, ◌++◌, Option, Some, None}
use Rattle.std.proofs.Common.{length, get_or, take, drop, map, refl, sym, ap, ◌∙◌, arith}
use Rattle.std.proofs.lemmas.Grind.{common_steps}
use Rattle.std.proofs.lemmas.List.{append_assoc, drop-map, take-map}
use Rattle.std.proofs.lemmas.Option.{slice_get_past, slice_get-get_or}
use Rattle.par_refusals.specs.declared.refusal.Refusal.{Refusal}
use Rattle.par_refusals.specs.First.{exceeded, first_of, in_passes}
use Rattle.par_refusals.proofs.First.{first_of_none, passes_on, stops}
use Rattle.par_faults.specs.declared.limit.Limit.{Limit}
use Rattle.par_faults.specs.Limits.{told, one_too_many, earlier, in_order}

pub told_none : (limit : Limit) → told limit None ≡ []
unfolding told
told_none limit = refl

pub told_some : (limit : Limit) (at : ℕ)
    → told limit (Some at) ≡ exceeded limit.number (limit.most + 1) at ∷ []
unfolding told
told_some limit at = refl

pub ruleset tells = (told_none, told_some, first_of_none)

-- where there are not too many, the later pass counts
pub goes_on : (o : Option Refusal) (limit : Limit) (places : List ℕ) (later : List Refusal)
    → length places ≤ limit.most
    → first_of o (in_passes (one_too_many limit places) later)
    ≡ first_of (first_of o (one_too_many limit places)) later
goes_on o limit places later le =
    let none : one_too_many limit places ≡ [] =
    ap (told limit) (slice_get_past places limit.most le) ∙ told_none limit in
    rw none (ap (first_of o) (passes_on later) ∙ sym (ap (λ x. first_of x later) (first_of_none o)))

pub ends : (o : Option Refusal) (limit : Limit) (places : List ℕ) (later : List Refusal)
    → limit.most < length places
    → first_of o (in_passes (one_too_many limit places) later)
    ≡ first_of o (one_too_many limit places)
ends o limit places later lt =
    let at : ℕ = get_or places limit.most 0 in
    let there : one_too_many limit places ≡ exceeded limit.number (limit.most + 1) at ∷ [] =
    ap (told limit) (slice_get-get_or places limit.most 0 lt) ∙ told_some limit at in
    rw there (ap (first_of o) (stops (exceeded limit.number (limit.most + 1) at) [] later))

pub order_end : (others : List ℕ) → in_order [] others ≡ others
unfolding in_order
order_end others = refl

pub order_more : (at : ℕ) (places others : List ℕ)
    → in_order (at ∷ places) others
    ≡ take (earlier others at) others ++ at ∷ in_order places (drop (earlier others at) others)
unfolding in_order
order_more at places others = refl

pub twice : {X : Type 0} (xs : List X) (m n : ℕ) → drop n (drop m xs) ≡ drop (m + n) xs
twice xs m n = grind (arith, common_steps)

-- a step: the places of some others, and then one of the first
pub order_step : {X : Type 0} (place : X → ℕ) (done : List ℕ) (at : ℕ) (places : List ℕ)
    (xs : List X) (next n : ℕ)
    → n ≡ earlier (map place (drop next xs)) at
    → (done ++ map place (take n (drop next xs)) ++ at ∷ [])
    ++ in_order places (map place (drop (next + n) xs))
    ≡ done ++ in_order (at ∷ places) (map place (drop next xs))
order_step place done at places xs next n is =
    let behind : drop n (map place (drop next xs)) ≡ map place (drop (next + n) xs) =
    drop-map place n (drop next xs) ∙ ap (map place) (twice xs next n) in
    let before : take n (map place (drop next xs)) ≡ map place (take n (drop next xs)) =
    take-map place n (drop next xs) in
    let split : in_order (at ∷ places) (map place (drop next xs))
    ≡ take n (map place (drop next xs)) ++ at
    ∷ in_order places (drop n (map place (drop next xs))) =
    rw is (order_more at places (map place (drop next xs))) in
    append_assoc (done ++ map place (take n (drop next xs))) (at ∷ [])
    (in_order places (map place (drop (next + n) xs)))
    ∙ append_assoc done (map place (take n (drop next xs)))
    (at ∷ in_order places (map place (drop (next + n) xs)))
    ∙ ap (λ l. done ++ (l ++ at ∷ in_order places (map place (drop (next + n) xs)))) (sym before)
    ∙ ap (λ l. done ++ (take n (map place (drop next xs)) ++ at ∷ in_order places l)) (sym behind)
    ∙ ap (λ l. done ++ l) (sym split)
