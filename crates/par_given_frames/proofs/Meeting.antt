-- All needed offsets are flagged where each instruction of the walk and each handler finds flagged
-- what it needs.
use Rattle.std.proofs.Common.{◌≡◌, ℕ, zero, suc, ◌+◌, ◌-◌, ◌<◌, ℤ, pos, negsuc, ◌+ℤ◌, Bool, true}
use Rattle.std.proofs.Common.{false, ◌&&◌}
use Rattle.std.proofs.Common.{◌||◌, ◌==◌, ◌↔◌, List, [], ◌∷◌, length, Option, Some, None, refl, sym}
use Rattle.std.proofs.Common.{ap}
use Rattle.std.proofs.Common.{subst, ◌∙◌, inl, inr, arith}
use Rattle.std.specs.Prelude.{Contains, slice_index_or}
use Rattle.std.specs.List.{list_all}
use Rattle.std.proofs.lemmas.Bool.{and_parts, and_from}
use Rattle.par_instr.specs.declared.instr.Instr.{Instr}
use Rattle.par_instr.specs.Decoding.{Decoded, decoded_at}
use Rattle.par_class.specs.declared.file.Catch.{Catch}
use Rattle.par_class.specs.declared.file.CodeAttr.{CodeAttr}
use Rattle.par_single.specs.Walk.{starts_at, starts_after, if_listed}
use Rattle.par_instr.specs.Spelling.{operand_bytes}
use Rattle.par_kinds.specs.Acts.{Flow, Onward, Jumps, Branches, Nowhere}
use Rattle.par_frames.specs.Needed.{needs, unless_end, flow_at, IsNeeded}
use Rattle.par_given_frames.specs.Met.{told_at, flag_at, branch_of, branch_met, behind_met, met_by}
use Rattle.par_given_frames.specs.Met.{met_at, met_by_catches}

-- ---- tests of all elements

pub all_at : {X : Type 0} (p : X → Bool) (xs : List X) (x : X) → list_all p xs ≡ true
    → Contains xs x → p x ≡ true
all_at p [] x h c = absurd (omega (arith, c.1))
all_at {X} p (y ∷ ys) x h (zero, lt, e) =
    subst (λ (z : X). p z ≡ true) e (and_parts (p y) (list_all p ys) h).0
all_at p (y ∷ ys) x h (suc k, lt, e) =
    all_at p ys x (and_parts (p y) (list_all p ys) h).1 (k, omega (arith, lt), e)

pub all_from : {X : Type 0} (p : X → Bool) (xs : List X)
    → ((x : X) → Contains xs x → p x ≡ true) → list_all p xs ≡ true
all_from p [] h = refl
all_from p (y ∷ ys) h =
    and_from (p y) (list_all p ys) (h y (0, omega arith, refl))
    (all_from p ys (λ x c. h x (suc c.0, omega (arith, c.1), c.2)))

-- ---- one instruction

and-end : (b : Bool) → (b && true) ≡ b
and-end true = refl
and-end false = refl

unless-met : (flags : List Bool) (len next : ℕ) (b : Bool) → (next == len) ≡ b
    → list_all (flag_at flags) (unless_end len next) ≡ (next == len || flag_at flags (pos next))
unless-met flags len next true e = rw e refl
unless-met flags len next false e = rw e (and-end (flag_at flags (pos next)))

met-flow : (flags : List Bool) (len at size : ℕ) (flow : Flow)
    → list_all (flag_at flags) (needs len flow at size)
    ≡ (branch_met flags at (branch_of flow) && behind_met flags len (at + size) flow)
met-flow flags len at size Onward = refl
met-flow flags len at size (Branches to) = refl
met-flow flags len at size (Jumps to) =
    ap (λ b. flag_at flags (pos at +ℤ to) && b)
    (unless-met flags len (at + size) (at + size == len) refl)
met-flow flags len at size Nowhere =
    unless-met flags len (at + size) (at + size == len) refl

pub met_is : (flags : List Bool) (code : List ℕ) (at next : ℕ) (i : Instr)
    → decoded_at code at ≡ Some (record { instr = i; size = next - at }) → at < next
    → (branch_met flags at (branch_of (flow_at i))
    && behind_met flags (length code) next (flow_at i)) ≡ met_at flags code at
met_is flags code at next i found forward =
    let size : at + (next - at) ≡ next = omega (arith, forward) in
    sym (ap (met_by flags (length code) at) found
    ∙ met-flow flags (length code) at (next - at) (flow_at i)
    ∙ ap (λ (n : ℕ). branch_met flags at (branch_of (flow_at i))
    && behind_met flags (length code) n (flow_at i)) size)

-- ---- all of them

-- instructions start within their code
within-listed : (bytes : List ℕ) (at : ℕ) (o : Option ℕ)
    → ((n : ℕ) → starts_after bytes at n ≡ true → at < length bytes)
    → if_listed (starts_after bytes at) o ≡ true → suc at < suc (length bytes)
within-listed bytes at None rest is = absurd (cc is)
within-listed bytes at (Some n) rest is = omega (arith, rest n is)

starts_within : (bytes : List ℕ) (at operands : ℕ) → starts_after bytes at operands ≡ true
    → at < length bytes
unfolding starts_after
starts_within [] at operands is = absurd (cc is)
starts_within (op ∷ bytes) zero operands is = omega arith
starts_within (op ∷ bytes) (suc at) zero is =
    within-listed bytes at (operand_bytes op) (λ n. starts_within bytes at n) is
starts_within (op ∷ bytes) (suc at) (suc operands) is =
    omega (arith, starts_within bytes at operands is)

pub start_within : (code : List ℕ) (at : ℕ) → starts_at code at ≡ true → at < length code
start_within code at is = starts_within code at 0 is

-- what all instructions of the walk need is flagged
abbrev pub WalkIsMet : List Bool → List ℕ → Type 0
WalkIsMet flags code =
    (at : ℕ) → at < length code → starts_at code at ≡ true → met_at flags code at ≡ true

abbrev pub AllMet : List Bool → CodeAttr → Type 0
AllMet flags code = (to : ℤ) → IsNeeded code to → flag_at flags to ≡ true

-- flags that tell the same
pub met-alike : (flags : List Bool) (told : ℕ → Bool) (code : CodeAttr)
    → ((at : ℕ) → slice_index_or flags at false ≡ told at) → AllMet flags code
    → (to : ℤ) → IsNeeded code to → told_at told to ≡ true
met-alike flags told code alike met to need =
    sym (same to) ∙ met to need
  where
    same : (to : ℤ) → flag_at flags to ≡ told_at told to
    same (pos at) = alike at
    same (negsuc n) = refl

pub alike-met : (flags : List Bool) (told : ℕ → Bool) (code : CodeAttr)
    → ((at : ℕ) → slice_index_or flags at false ≡ told at)
    → ((to : ℤ) → IsNeeded code to → told_at told to ≡ true) → AllMet flags code
alike-met flags told code alike met to need =
    same to ∙ met to need
  where
    same : (to : ℤ) → flag_at flags to ≡ told_at told to
    same (pos at) = alike at
    same (negsuc n) = refl

module _ (flags : List Bool) (code : CodeAttr) where
  pub needed-met : WalkIsMet flags code.code → met_by_catches flags code.catches ≡ true
      → AllMet flags code
  needed-met walk caught to (inl (at, n)) =
      all_at (flag_at flags) (needs (length code.code) (flow_at n.does.instr) at n.does.size) to
      (subst (λ o. met_by flags (length code.code) at o ≡ true) n.found
      (walk at (start_within code.code at n.starts) n.starts)) n.asked
  needed-met walk caught to (inr (c, there, is)) =
      subst (λ to. flag_at flags to ≡ true) (sym is)
      (all_at (λ (c : Catch). flag_at flags (pos c.handler)) code.catches c caught there)

  pub walk-needed : AllMet flags code → WalkIsMet flags code.code
  walk-needed all at within starts = by (decoded_at code.code at) refl
    where
      by : (o : Option Decoded) → decoded_at code.code at ≡ o
          → met_by flags (length code.code) at o ≡ true
      by None e = refl
      by (Some d) e =
          all_from (flag_at flags) (needs (length code.code) (flow_at d.instr) at d.size)
          (λ to c. all to
          (inl (at, record { starts = starts; does = d; found = e; asked = c })))

  pub catches-needed : AllMet flags code → met_by_catches flags code.catches ≡ true
  catches-needed all =
      all_from (λ (c : Catch). flag_at flags (pos c.handler)) code.catches
      (λ c there. all (pos c.handler) (inr (c, there, refl)))

  -- what is answered of both
  pub both-met : (b : Bool) → WalkIsMet flags code.code → b ≡ met_by_catches flags code.catches
      → (b ≡ true) ↔ AllMet flags code
  both-met b walk is =
      (λ met. needed-met walk (sym is ∙ met), λ all. is ∙ catches-needed all)

  pub walk-unmet : (WalkIsMet flags code.code → ⊥) → (false ≡ true) ↔ AllMet flags code
  walk-unmet not = (λ e. absurd (cc e), λ all. absurd (not (walk-needed all)))
