-- Who sees a join with some locks sees it with more.
use Rattle.std.proofs.Common.{ℕ, suc, Bool, true, false, ◌||◌, not, List, [], ◌∷◌, ◌++◌, refl}
use Rattle.std.specs.Prelude.{IsTrue, All, Contains}
use Rattle.std.specs.List.{range_with_len}
use Rattle.std.proofs.lemmas.Bool.{and_parts, and_from}
use Rattle.std.proofs.lemmas.List.Elements.{All-append, All-nil, All-cons, Contains-append_left}
use Rattle.std.proofs.lemmas.List.Elements.{Contains-append_right}
use Rattle.par_pass_laws.specs.par_policy.declared.clauses.Clause.{Clause}
use Rattle.par_pass_laws.specs.par_policy.Numbers.{within}
use Rattle.par_pass_laws.specs.par_policy.Sees.{sees}
use Rattle.par_pass_laws.proofs.par_policy.Members.{within-from_All}
use Rattle.par_pass_laws.proofs.par_policy.Ordered.{Contains-first, Contains-later}
use Rattle.par_pass_laws.proofs.par_policy.Filtered.{Contains-filter, Contains-from_filter}
use Rattle.par_pass_laws.proofs.par_policy.Seen.{sees_more}
use Rattle.par_bits.specs.Sets.{Set, IsWithin}
use Rattle.par_pass_laws.specs.par_program_laws.Lattice.{Seen, IsSeenBelow, joined}
use Rattle.par_pass_laws.specs.par_program_laws.Ranges.{MOST}
use Rattle.par_pass_laws.proofs.Instances.{AreSeenBelow}
use Rattle.par_check_laws.specs.Keeps.{locks_in}

where_had : (b c d : Bool) → (IsTrue c → IsTrue d) → IsTrue (not b || c) → IsTrue (not b || d)
where_had false c d f h = refl
where_had true c d f h = f h

where_in : (b c : Bool) → (IsTrue b → IsTrue c) → IsTrue (not b || c)
where_in true c g = g refl
where_in false c g = refl

-- a join is seen with more locks
pub joined_more : (table : List (List Clause)) (s : Set) (actor : ℕ) (fewer more : List ℕ)
    → IsTrue (within fewer more)
    → IsTrue (joined table s actor fewer) → IsTrue (joined table s actor more)
unfolding joined
joined_more [] s actor fewer more w h = refl
joined_more (p ∷ ps) s actor fewer more w h =
    let parts =
    and_parts (not (s 0) || sees p actor fewer) (joined ps (λ n. s (suc n)) actor fewer) h in
    and_from (not (s 0) || sees p actor more) (joined ps (λ n. s (suc n)) actor more)
    (where_had (s 0) (sees p actor fewer) (sees p actor more)
    (sees_more p actor fewer more w) parts.0)
    (joined_more ps (λ n. s (suc n)) actor fewer more w parts.1)

-- where each policy of a set is below, their join is
pub joined_below : (table : List (List Clause)) (s : Set) (q : Seen) → AreSeenBelow table s q
    → IsSeenBelow (joined table s) q
unfolding joined
joined_below [] s q f actor locks h = refl
joined_below (p ∷ ps) s q f actor locks h =
    and_from (not (s 0) || sees p actor locks) (joined ps (λ n. s (suc n)) actor locks)
    (where_in (s 0) (sees p actor locks) (λ e. f 0 e actor locks h))
    (joined_below ps (λ n. s (suc n)) q (λ n. f (suc n)) actor locks h)

locks_among : (few more : Set) → IsWithin few more → (n : ℕ) → Contains (locks_in few) n
    → Contains (locks_in more) n
locks_among few more w n h =
    let from = Contains-from_filter few (range_with_len 0 MOST) n h in
    Contains-filter more (range_with_len 0 MOST) n from.0 (w n from.1)

each : (P : ℕ → Type 0) (xs : List ℕ) → ((n : ℕ) → Contains xs n → P n) → All P xs
each P [] f = All-nil P
each P (x ∷ xs) f =
    All-cons P x xs (f x (Contains-first x xs)) (each P xs (λ n h. f n (Contains-later x xs n h)))

-- more open locks
pub more_open : (locks : List ℕ) (few more : Set) → IsWithin few more
    → IsTrue (within (locks ++ locks_in few) (locks ++ locks_in more))
more_open locks few more w =
    let P = Contains (locks ++ locks_in more) in
    within-from_All (locks ++ locks_in few) (locks ++ locks_in more)
    (All-append P locks (locks_in few)
    (each P locks (λ n h. Contains-append_left locks (locks_in more) n h))
    (each P (locks_in few) (λ n h.
    Contains-append_right locks (locks_in more) n (locks_among few more w n h))))
