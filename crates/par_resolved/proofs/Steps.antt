-- Joins from the left, step by step, and policies that are all there.
use Rattle.std.proofs.Common.{◌≡◌, ℕ, true, false, List, [], ◌∷◌, ◌++◌, map, Option, Some, None}
use Rattle.std.proofs.Common.{refl, sym, ap, ◌∙◌, Bool}
use Rattle.std.specs.Prelude.{if◌then◌else◌}
use Rattle.par_typed.specs.par_policy.declared.clauses.Clause.{Clause}
use Rattle.std.proofs.lemmas.Option.{same_Some}
use Rattle.par_refusals.proofs.First.{first_of_none}
use Rattle.par_resolved.specs.Sets.{joined}
use Rattle.par_resolved.specs.Policies.{all_some, and_more, fits, within_limits, join_with}
use Rattle.par_resolved.specs.Policies.{join_of}
use Rattle.par_resolved.specs.Sizes.{form_faults, steps_faults, join_faults}

pub all_some_none : all_some [] ≡ Some []
unfolding all_some
all_some_none = refl

pub all_some_more : (o : Option (List Clause)) (os : List (Option (List Clause)))
    → all_some (o ∷ os) ≡ and_more o (all_some os)
unfolding all_some
all_some_more o os = refl

-- all are there
pub all_there : (ps : List (List Clause)) → all_some (map Some ps) ≡ Some ps
all_there [] = all_some_none
all_there (p ∷ ps) = all_some_more (Some p) (map Some ps) ∙ ap (and_more (Some p)) (all_there ps)

and_none : (o : Option (List Clause)) → and_more o None ≡ None
and_none None = refl
and_none (Some p) = refl

-- one is missing
pub one_missing : (front back : List (Option (List Clause)))
    → all_some (front ++ None ∷ back) ≡ None
one_missing [] back = all_some_more None back
one_missing (o ∷ front) back =
    all_some_more o (front ++ None ∷ back) ∙ ap (and_more o) (one_missing front back) ∙ and_none o

pub one_later : (o : Option (List Clause)) (os : List (Option (List Clause))) → all_some os ≡ None
    → all_some (o ∷ os) ≡ None
one_later o os h = all_some_more o os ∙ ap (and_more o) h ∙ and_none o

pub join_done : (p : List Clause) → join_with p [] ≡ Some p
unfolding join_with
join_done p = refl

pub join_goes_on : (p q : List Clause) (qs : List (List Clause)) → fits (joined p q) ≡ true
    → join_with p (q ∷ qs) ≡ join_with (joined p q) qs
unfolding join_with
join_goes_on p q qs h = rw h refl

pub join_stops : (p q : List Clause) (qs : List (List Clause)) → fits (joined p q) ≡ false
    → join_with p (q ∷ qs) ≡ None
unfolding join_with
join_stops p q qs h = rw h refl

pub steps_done : (at : ℕ) (p : List Clause) → steps_faults at p [] ≡ []
unfolding steps_faults
steps_done at p = refl

pub steps_go_on : (at : ℕ) (p q : List Clause) (qs : List (List Clause)) → fits (joined p q) ≡ true
    → steps_faults at p (q ∷ qs) ≡ steps_faults at (joined p q) qs
unfolding steps_faults
steps_go_on at p q qs h = rw h refl

pub step_stops : (at : ℕ) (p q : List Clause) (qs : List (List Clause)) → fits (joined p q) ≡ false
    → steps_faults at p (q ∷ qs) ≡ form_faults at (joined p q)
unfolding steps_faults
step_stops at p q qs h = rw h refl

pub nothing_joined : join_of None ≡ None
unfolding join_of
nothing_joined = refl

pub none_joined : join_of (Some []) ≡ Some []
unfolding join_of
none_joined = refl

pub some_joined : (p : List Clause) (ps : List (List Clause))
    → join_of (Some (p ∷ ps)) ≡ join_with p ps
unfolding join_of
some_joined p ps = refl

pub nothing_exceeds : (at : ℕ) → join_faults at None ≡ []
unfolding join_faults
nothing_exceeds at = refl

pub none_exceeds : (at : ℕ) → join_faults at (Some []) ≡ []
unfolding join_faults
none_exceeds at = refl

pub some_exceed : (at : ℕ) (p : List Clause) (ps : List (List Clause))
    → join_faults at (Some (p ∷ ps)) ≡ steps_faults at p ps
unfolding join_faults
some_exceed at p ps = refl

pub ruleset joins =
    (first_of_none, join_done, join_goes_on, join_stops, steps_done, steps_go_on, step_stops)

pub ruleset joined_terms = (
  first_of_none,
  nothing_joined,
  none_joined,
  some_joined,
  nothing_exceeds,
  none_exceeds,
  some_exceed,
)

-- ---- one step of a loop

pub value_stops : (p q r first : List Clause) (xs others rest : List (List Clause)) → xs ≡ q ∷ rest
    → r ≡ joined p q → fits r ≡ false
    → join_with p xs ≡ join_with first others → None ≡ join_with first others
value_stops p q r first xs others rest left made large so =
    sym (join_stops p q rest (ap fits (sym made) ∙ large)) ∙ ap (join_with p) (sym left) ∙ so

pub value_goes_on : (p q r first : List Clause) (xs others rest : List (List Clause))
    → xs ≡ q ∷ rest → r ≡ joined p q → fits r ≡ true
    → join_with p xs ≡ join_with first others → join_with r rest ≡ join_with first others
value_goes_on p q r first xs others rest left made small so =
    ap (λ s. join_with s rest) made ∙ sym (join_goes_on p q rest (ap fits (sym made) ∙ small))
    ∙ ap (join_with p) (sym left) ∙ so

pub value_done : (p first : List Clause) (xs others : List (List Clause)) → xs ≡ []
    → join_with p xs ≡ join_with first others
    → Some p ≡ join_with first others
value_done p first xs others left so = sym (join_done p) ∙ ap (join_with p) (sym left) ∙ so

pub faults_stop : (at : ℕ) (p q r first : List Clause) (xs others rest : List (List Clause))
    → xs ≡ q ∷ rest → r ≡ joined p q → fits r ≡ false
    → steps_faults at p xs ≡ steps_faults at first others
    → form_faults at r ≡ steps_faults at first others
faults_stop at p q r first xs others rest left made large so =
    ap (form_faults at) made ∙ sym (step_stops at p q rest (ap fits (sym made) ∙ large))
    ∙ ap (steps_faults at p) (sym left) ∙ so

pub faults_go_on : (at : ℕ) (p q r first : List Clause) (xs others rest : List (List Clause))
    → xs ≡ q ∷ rest → r ≡ joined p q → fits r ≡ true
    → steps_faults at p xs ≡ steps_faults at first others
    → steps_faults at r rest ≡ steps_faults at first others
faults_go_on at p q r first xs others rest left made small so =
    ap (λ s. steps_faults at s rest) made
    ∙ sym (steps_go_on at p q rest (ap fits (sym made) ∙ small))
    ∙ ap (steps_faults at p) (sym left) ∙ so

pub faults_done : (at : ℕ) (p first : List Clause) (xs others : List (List Clause)) → xs ≡ []
    → steps_faults at p xs ≡ steps_faults at first others
    → steps_faults at first others ≡ []
faults_done at p first xs others left so = sym so ∙ ap (steps_faults at p) left ∙ steps_done at p

-- ---- joins within the limits

pub one_fits : (j r : List Clause) → Some r ≡ within_limits j → (r ≡ j) × (fits j ≡ true)
one_fits j r h = in_case (fits j) refl h
  where
    in_case : (b : Bool) → fits j ≡ b → Some r ≡ (if b then Some j else None)
        → (r ≡ j) × (fits j ≡ true)
    in_case true is same = (same_Some r j same, is)
    in_case false is same = absurd (cc same)

pub none_fits : (j : List Clause) → None ≡ within_limits j → fits j ≡ false
none_fits j h = in_case (fits j) refl h
  where
    in_case : (b : Bool) → fits j ≡ b → None ≡ (if b then Some j else None) → fits j ≡ false
    in_case true is same = absurd (cc same)
    in_case false is same = is
