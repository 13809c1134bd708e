-- Positions in labelled code, and one instruction there.
use Rattle.std.proofs.Common.{◌≡◌, ℕ, zero, suc, ◌+◌, ◌-◌, ◌≤◌, Bool, true, false, not, ◌&&◌, ◌||◌}
use Rattle.std.proofs.Common.{List, [], ◌∷◌}
use Rattle.std.proofs.Common.{length, drop, Option, Some, None, refl, ap, sym, ◌∙◌, subst, arith}
use Rattle.std.specs.Prelude.{pos, ◌+ℤ◌, ◌-ℤ◌, ◌==◌}
use Rattle.std.proofs.lemmas.Bool.{le-ltb, ne_eqb}
use Rattle.std.specs.Prelude.{neg_ℤ, if◌then◌else◌, is_none}
use Rattle.par_code_form.specs.par_values.declared.kind.Kind.{Kind}
use Rattle.par_step_laws.specs.par_single.Links.{kind_or_any}
use Rattle.std.proofs.Math.IntN.{+ℤ_comm, +ℤ_assoc, +ℤ_invl, +ℤ_idr}
use Rattle.par_code_form.specs.par_values.declared.value.MVal.{MVal}
use Rattle.par_code_form.specs.par_values.declared.value.MVal.TheVariants.{Ref}
use Rattle.par_code_form.specs.par_values.declared.run.Event.{Event}
use Rattle.par_code_form.specs.par_values.Areas.{Name, Areas}
use Rattle.par_code_form.specs.par_values.Operations.{Operation, takes, gives}
use Rattle.par_code_form.specs.par_values.Reasons.{Spot, reasons, reason, least_from, lacks}
use Rattle.par_code_form.specs.par_values.Reasons.{misgiven, unfit}
use Rattle.par_code_form.specs.par_values.Reasons.{throws, exceeds, misplaced, falls, misnamed}
use Rattle.par_code_form.specs.par_values.Reasons.{disagrees}
use Rattle.par_code_form.specs.par_values.Reasons.{all_fit}
use Rattle.par_code_form.specs.par_values.Reasons.{misreturns, misused}
use Rattle.par_code_form.specs.par_values.Effects.{Goes, Happens, Jumps, Calls, Throws}
use Rattle.par_code_form.specs.par_values.Effects.{ThrowsObject, Returns}
use Rattle.par_code_form.specs.par_values.Effects.{ReturnsWith, effect}
use Rattle.par_step_laws.specs.State.{Frame, State}
use Rattle.par_step_laws.specs.Step.{Silent, Shows, without_locks, state_with}
use Rattle.par_step_laws.specs.Step.{offset, or_2}
use Rattle.par_match_laws.specs.Engine.{Found, Program, turn, applied, done_by, spot, decided}
use Rattle.par_match_laws.specs.Engine.{turn_at}
use Rattle.par_match_laws.specs.Engine.{reason_against, caught}
use Rattle.par_match_laws.specs.Engine as gen
use Rattle.par_code_form.specs.declared.item.Item.{Item}
use Rattle.par_code_form.specs.declared.item.Item.TheVariants.{Label, Op, Const, Jump, Member}
use Rattle.par_code_form.specs.declared.item.Item.TheVariants.{ClassOp, LockOp}
use Rattle.par_code_form.specs.par_values.Areas.{first_locals}
use Rattle.par_step_laws.specs.State.{entered}
use Rattle.par_match_laws.specs.Labelled.{calls, Labelled, Naming, lead, skip, target, found}
use Rattle.par_match_laws.specs.Labelled.{silent}
use Rattle.par_match_laws.specs.Labelled.{is_there, stands, of_labelled}
use Rattle.par_match_laws.specs.Labelled as labelled
use Rattle.par_match_laws.proofs.Rules.{Told, Matches, next_rule, happens_rule, emitted}

drop_next : (l : List Item) (p : ℕ) (x : Item) (xs : List Item) → drop p l ≡ x ∷ xs
    → drop (suc p) l ≡ xs
drop_next l zero x xs e = ap (drop 1) e
drop_next [] (suc p) x xs e = absurd (grind (arith, e))
drop_next (y ∷ l) (suc p) x xs e = drop_next l p x xs e

-- something follows that is no label
abbrev pub Lives : List Item → Type 0
Lives [] = ⊥
Lives (Label l ∷ xs) = Lives xs
Lives (Op i ∷ xs) = Unit {0}
Lives (Const n ∷ xs) = Unit {0}
Lives (Jump o l ∷ xs) = Unit {0}
Lives (Member o c m d ∷ xs) = Unit {0}
Lives (ClassOp o c ∷ xs) = Unit {0}
Lives (LockOp o l ∷ xs) = Unit {0}

next_is : (xs : List Item) (p : ℕ) → p + suc (lead xs) ≡ skip xs (suc p)
next_is [] p = omega arith
next_is (Label l ∷ xs) p = let e = next_is xs (suc p) in omega (arith, e)
next_is (Op i ∷ xs) p = omega arith
next_is (Const n ∷ xs) p = omega arith
next_is (Jump o l ∷ xs) p = omega arith
next_is (Member o c m d ∷ xs) p = omega arith
next_is (ClassOp o c ∷ xs) p = omega arith
next_is (LockOp o l ∷ xs) p = omega arith

there : (p q : ℕ) → pos p +ℤ (pos q -ℤ pos p) ≡ pos q
there p q =
    +ℤ_comm (pos p) (pos q -ℤ pos p) ∙ +ℤ_assoc (pos q) (neg_ℤ (pos p)) (pos p)
    ∙ ap (λ x. pos q +ℤ x) (+ℤ_invl (pos p)) ∙ +ℤ_idr (pos q)

offset_there : (p q : ℕ) → offset (pos p +ℤ (pos q -ℤ pos p)) ≡ q
offset_there p q = ap offset (there p q)

module _ (code : Labelled) where
  -- at the position p the items are xs, to the end
  pub record Here (p : ℕ) (xs : List Item) : Type 0 where
    pub at : drop p code.items ≡ xs
    pub fits : p + length xs ≡ length code.items

  pub next : {p : ℕ} {x : Item} {xs : List Item} → Here p (x ∷ xs) → Here (suc p) xs
  next {p} {x} {xs} h =
      record { at = drop_next code.items p x xs h.at; fits = omega (arith, h.fits) }

  pub stands_here : (p : ℕ) (xs : List Item) → Here p xs → Lives xs
      → stands code.items (pos (skip xs p)) ≡ true
  stands_here p [] h l = absurd l
  stands_here p (Label i ∷ xs) h l = stands_here (suc p) xs (next h) l
  stands_here p (Op i ∷ xs) h l = ap is_there h.at
  stands_here p (Const n ∷ xs) h l = ap is_there h.at
  stands_here p (Jump o n ∷ xs) h l = ap is_there h.at
  stands_here p (Member o c m d ∷ xs) h l = ap is_there h.at
  stands_here p (ClassOp o c ∷ xs) h l = ap is_there h.at
  stands_here p (LockOp o n ∷ xs) h l = ap is_there h.at

  -- each label stands at most once
  abbrev pub Distinct : Type 0
  Distinct = (l p : ℕ) (xs : List Item) → Here p (Label l ∷ xs) → labelled.spot code.items l ≡ p

  pub target_is : Distinct → (l p : ℕ) (xs : List Item) → Here p (Label l ∷ xs)
      → target code.items l ≡ skip xs (suc p)
  target_is ds l p xs h =
      ap (λ q. skip (drop q code.items) q) (ds l p xs h) ∙ ap (λ ys. skip ys p) h.at

abbrev AllFalse : List Bool → Type 0
AllFalse [] = Unit {0}
AllFalse (b ∷ bs) = (b ≡ false) × AllFalse bs

none_applies : (n : ℕ) (bs : List Bool) → AllFalse bs → least_from n bs ≡ None
none_applies n [] h = refl
none_applies n (true ∷ bs) h = cc
none_applies n (false ∷ bs) h = none_applies (suc n) bs h.1

-- no reason of its own stands against an operation that stays in its method
pub record Allowed (names : List Name) (exceptions : List ℕ) (room : ℕ) (gives_ : Option Kind)
    (o : Operation) (a : Areas) : Type 0 where
  pub enough : length (takes o) ≤ length a.operands
  pub fits : all_fit names (takes o) a.operands ≡ true
  pub short : length a.operands - length (takes o) + gives o ≤ room
  pub placed : misplaced names o a ≡ false
  pub named : misnamed o ≡ false
  pub agrees : disagrees o ≡ false
  pub used : misused exceptions o a ≡ false
  pub stays : (x : Spot) → x.gives_nothing ≡ is_none gives_ → x.result ≡ kind_or_any gives_
      → misgiven names x o a ≡ false
  pub comes : (x : Spot) → x.gives_nothing ≡ is_none gives_ → x.result ≡ kind_or_any gives_
      → misreturns x o ≡ false

or_false : (a b : Bool) → a ≡ false → b ≡ false → (a || b) ≡ false
or_false a b h k = rw (h, k) refl

and_false : (a b : Bool) → b ≡ false → (a && b) ≡ false
and_false true b h = h
and_false false b h = refl

no_reason : (names : List Name) (x : Spot) (gives_ : Option Kind) (o : Operation) (a : Areas)
    → x.gives_nothing ≡ is_none gives_ → x.result ≡ kind_or_any gives_
    → Allowed names x.exceptions x.room gives_ o a
    → (x.is_roomless && throws (effect names o a)) ≡ false
    → falls x.stands x.is_lost (effect names o a) ≡ false → reason names x o a ≡ None
unfolding reason
no_reason names x gives_ o a gn gr h r f =
    none_applies 1 (reasons names x o a) (
      le-ltb _ _ h.enough,
      (
        or_false _ _ (h.stays x gn gr) (ap not h.fits),
        (
          or_false _ _ r (le-ltb _ _ h.short),
          (h.placed, (f, (h.named, (h.agrees, (h.comes x gn gr, (h.used, tt)))))),
        ),
      ),
    )

-- a handler is at an instruction, in a method that has room for an operand
abbrev pub IsSound : Program → Type 0
IsSound p =
    (x c m q to : ℕ) → p.handler x c m q ≡ Some to
    → (p.stands c m (pos to) ≡ true) × (1 ≤ p.room c m)

abbrev IsFound : Program → List Frame → Type 0
IsFound p fs = (gen.is_lost p fs ≡ false) × (gen.is_roomless p fs ≡ false)

positive : (n : ℕ) → 1 ≤ n → (n == 0) ≡ false
positive n h = ne_eqb n 0 (λ e. omega arith)

caught_found : (p : Program) → IsSound p → (x : ℕ) (fs : List Frame) → IsFound p (caught p x fs)
unfolding caught
caught_found p sound x [] = (refl, refl)
caught_found p sound x (f ∷ fs) =
    pick (caught_found p sound x fs) (p.handler x f.class f.method f.at) refl
  where
    pick : IsFound p (caught p x fs) → (o : Option ℕ) → p.handler x f.class f.method f.at ≡ o
        → IsFound p (Rattle.par_step_laws.specs.Handlers.caught_by o f fs
        (caught p x fs))
    pick g None e = g
    pick g (Some to) e = let h = sound x f.class f.method f.at to e in
        (ap not h.0, positive _ h.1)

module _ (env : Naming) (codes : ℕ → ℕ → Labelled) (mname : ℕ → ℕ → Name) where
  abbrev pub P : Program
  P = of_labelled env codes mname

  module _ (cls mth : ℕ) (fs : List Frame) where
    abbrev pub code : Labelled
    code = codes cls mth

    abbrev pub frame : ℕ → Areas → Frame
    frame q a =
        record { class = cls; method = mth; at = q; locals = a.locals; operands = a.operands }

    abbrev pub here : ℕ → Areas → State
    here q a =
        record {
          frames = frame q a ∷ fs;
          statics = a.statics;
          objects = a.objects;
          inputs =
              a.inputs;
        }

    abbrev does : Bool → Operation → List Item → Found
    does b o xs = record { op = o; size = suc (lead xs); wants_exception = b }

    abbrev pub Can : Operation → Areas → Type 0
    Can o a = Allowed env.names env.exceptions code.max_stack code.gives o a

    turn_wanting : (wants : Bool) (q : ℕ) (xs : List Item) (o : Operation) (ys : List Item)
        (a : Areas) → Here code q xs
        → found env code.items q xs ≡ calls wants o (suc (lead ys))
        → gen.is_misreceived P wants a ≡ false
        → Can o a
        → (gen.is_roomless P (gen.handlers P (gen.thrown_class P (done_by P o a))
        (frame q a ∷ fs)) && throws (effect env.names o a)) ≡ false
        → falls (spot P (frame q a) fs (suc (lead ys))
        (done_by P o a)).stands (spot P (frame q a) fs (suc (lead ys))
        (done_by P o a)).is_lost (effect env.names o a) ≡ false
        → turn P (here q a) ≡ applied P (done_by P o a) (suc (lead ys)) (frame q a) fs (here q a)
    unfolding turn
    turn_wanting wants q xs o ys a h f well can roomy falls =
        ap (λ (zs : List Item). turn_at P (found env code.items q zs)
        (frame q a) fs (here q a)) h.at
        ∙ ap (λ z. turn_at P z (frame q a) fs (here q a)) f
        ∙ ap (λ b. decided P (or_2 b (reason env.names (spot P (frame q a) fs (suc (lead ys))
        (done_by P o a)) o a)) (does wants o ys) (frame q a) fs (here q a)) well
        ∙ ap (λ r. decided P r (does wants o ys) (frame q a) fs (here q a))
        (no_reason env.names (spot P (frame q a) fs (suc (lead ys))
        (done_by P o a)) code.gives o a refl refl can roomy falls)

    turn_is : (q : ℕ) (xs : List Item) (o : Operation) (ys : List Item) (a : Areas) → Here code q xs
        → found env code.items q xs ≡ silent o (suc (lead ys))
        → Can o a
        → (gen.is_roomless P (gen.handlers P (gen.thrown_class P (done_by P o a))
        (frame q a ∷ fs)) && throws (effect env.names o a)) ≡ false
        → falls (spot P (frame q a) fs (suc (lead ys))
        (done_by P o a)).stands (spot P (frame q a) fs (suc (lead ys))
        (done_by P o a)).is_lost (effect env.names o a) ≡ false
        → turn P (here q a) ≡ applied P (done_by P o a) (suc (lead ys)) (frame q a) fs (here q a)
    turn_is q xs o ys a h f can roomy falls = turn_wanting false q xs o ys a h f refl can roomy
        falls

    goes_wanting : (wants : Bool) (p : ℕ) (x : Item) (xs : List Item) (o : Operation)
        (a b : Areas) → Here code p (x ∷ xs)
        → Lives xs → found env code.items p (x ∷ xs) ≡ calls wants o (suc (lead xs))
        → gen.is_misreceived P wants a ≡ false → Can o a
        → effect env.names o a ≡ Goes b
        → turn P (here p a) ≡ Silent (here (skip xs (suc p)) b)
    goes_wanting wants p x xs o a b h l f well can e =
        turn_wanting wants p (x ∷ xs) o xs a h f well can
        (and_false _ _ (ap throws e))
        (ap (λ z. falls (spot P (frame p a) fs (suc (lead xs))
        (without_locks z)).stands (spot P (frame p a) fs (suc (lead xs))
        (without_locks z)).is_lost z) e
        ∙ ap (λ q. not (stands code.items (pos q))) (next_is xs p)
        ∙ ap not (stands_here code (suc p) xs (next code h) l))
        ∙ ap (λ z. applied P (without_locks z) (suc (lead xs)) (frame p a) fs (here p a)) e
        ∙ ap (λ q. Silent (here q b)) (next_is xs p)

    -- a call of the code of a method
    pub enters_turn : (p : ℕ) (x : Item) (xs : List Item) (o : Operation) (a b : Areas)
        (class method many : ℕ) (vs : List MVal) → Here code p (x ∷ xs)
        → Lives xs → found env code.items p (x ∷ xs) ≡ silent o (suc (lead xs)) → Can o a
        → effect env.names o a ≡ Calls class method many vs b
        → turn P (here p a) ≡ Silent (state_with (record (entered class method (first_locals many
        vs)) { at = P.entry class method } ∷ frame p b ∷ fs) b)
    enters_turn p x xs o a b class method many vs h l f can e =
        turn_is p (x ∷ xs) o xs a h f can
        (and_false _ _ (ap throws e))
        (ap (λ z. falls (spot P (frame p a) fs (suc (lead xs))
        (without_locks z)).stands (spot P (frame p a) fs (suc (lead xs))
        (without_locks z)).is_lost z) e
        ∙ ap (λ q. not (stands code.items (pos q))) (next_is xs p)
        ∙ ap not (stands_here code (suc p) xs (next code h) l))
        ∙ ap (λ z. applied P (without_locks z) (suc (lead xs)) (frame p a) fs (here p a)) e

    -- where a frame goes on that waits at an instruction
    pub past_is : (p : ℕ) (x : Item) (xs : List Item) (o : Operation) (a : Areas)
        → Here code p (x ∷ xs)
        → found env code.items p (x ∷ xs) ≡ silent o (suc (lead xs))
        → gen.past P (frame p a) ≡ frame (skip xs (suc p)) a
    past_is p x xs o a h f =
        ap (λ (zs : List Item). frame (p + gen.size_found (found env code.items p zs)) a) h.at
        ∙ ap (λ z. frame (p + gen.size_found z) a) f
        ∙ ap (λ q. frame q a) (next_is xs p)

    goes_turn : (p : ℕ) (x : Item) (xs : List Item) (o : Operation) (a b : Areas)
        → Here code p (x ∷ xs)
        → Lives xs → found env code.items p (x ∷ xs) ≡ silent o (suc (lead xs)) → Can o a
        → effect env.names o a ≡ Goes b
        → turn P (here p a) ≡ Silent (here (skip xs (suc p)) b)
    goes_turn p x xs o a b h l f can e = goes_wanting false p x xs o a b h l f refl can e

    -- an instruction that goes on behind itself, and that may want an exception
    pub on_wanting : (wants : Bool) (k c d p : ℕ) (x : Item) (xs : List Item) (o : Operation)
        (a b : Areas) (g : Told)
        → suc c ≤ d → Here code p (x ∷ xs) → Lives xs
        → found env code.items p (x ∷ xs) ≡ calls wants o (suc (lead xs))
        → gen.is_misreceived P wants a ≡ false → Can o a
        → effect env.names o a ≡ Goes b
        → Matches P k c (turn P (here (skip xs (suc p)) b)) g → Matches P k d (turn P (here p a)) g
    on_wanting wants k c d p x xs o a b g le h l f well can e r =
        subst (λ t. Matches P k d t g) (sym (goes_wanting wants p x xs o a b h l f well can e))
        (next_rule P k k c d (here (skip xs (suc p)) b) g (omega arith) le r)

    -- an instruction that goes on behind itself
    pub on : (k c d p : ℕ) (x : Item) (xs : List Item) (o : Operation) (a b : Areas) (g : Told)
        → suc c ≤ d → Here code p (x ∷ xs) → Lives xs
        → found env code.items p (x ∷ xs) ≡ silent o (suc (lead xs)) → Can o a
        → effect env.names o a ≡ Goes b
        → Matches P k c (turn P (here (skip xs (suc p)) b)) g → Matches P k d (turn P (here p a)) g
    on k c d p x xs o a b g le h l f can e r =
        subst (λ t. Matches P k d t g) (sym (goes_turn p x xs o a b h l f can e))
        (next_rule P k k c d (here (skip xs (suc p)) b) g (omega arith) le r)

    says_turn : (p : ℕ) (x : Item) (xs : List Item) (o : Operation) (a b : Areas) (v : Event)
        → Here code p (x ∷ xs)
        → Lives xs → found env code.items p (x ∷ xs) ≡ silent o (suc (lead xs)) → Can o a
        → effect env.names o a ≡ Happens v b → without_locks (Happens v b) ≡ Happens v b
        → turn P (here p a) ≡ Shows v (here (skip xs (suc p)) b)
    says_turn p x xs o a b v h l f can e u =
        turn_is p (x ∷ xs) o xs a h f can
        (and_false _ _ (ap throws e))
        (ap (λ z. falls (spot P (frame p a) fs (suc (lead xs))
        (without_locks z)).stands (spot P (frame p a) fs (suc (lead xs))
        (without_locks z)).is_lost z) e
        ∙ ap (λ z. falls (spot P (frame p a) fs (suc (lead xs)) z).stands (spot P (frame p a) fs
        (suc (lead xs)) z).is_lost (Happens v b)) u
        ∙ ap (λ q. not (stands code.items (pos q))) (next_is xs p)
        ∙ ap not (stands_here code (suc p) xs (next code h) l))
        ∙ ap (λ z. applied P (without_locks z) (suc (lead xs)) (frame p a) fs (here p a)) e
        ∙ ap (λ z. applied P z (suc (lead xs)) (frame p a) fs (here p a)) u
        ∙ ap (λ q. Shows v (here q b)) (next_is xs p)

    -- one that makes an event
    pub says : (k c d p : ℕ) (x : Item) (xs : List Item) (o : Operation) (a b : Areas)
        (v : Event) (locks : List ℕ) (g : Told)
        → suc c ≤ d → Here code p (x ∷ xs) → Lives xs
        → found env code.items p (x ∷ xs) ≡ silent o (suc (lead xs)) → Can o a
        → effect env.names o a ≡ Happens v b → without_locks (Happens v b) ≡ Happens v b
        → Matches P k c (turn P (here (skip xs (suc p)) b)) g
        → Matches P k d (turn P (here p a)) (emitted v locks g)
    says k c d p x xs o a b v locks g le h l f can e u r =
        subst (λ t. Matches P k d t (emitted v locks g))
        (sym (says_turn p x xs o a b v h l f can e u))
        (happens_rule P k c d v locks (here (skip xs (suc p)) b) g le r)

    -- one whose event is none: it writes the field of a lock
    hushed_turn : (p : ℕ) (x : Item) (xs : List Item) (o : Operation) (a b : Areas) (v : Event)
        → Here code p (x ∷ xs)
        → Lives xs → found env code.items p (x ∷ xs) ≡ silent o (suc (lead xs)) → Can o a
        → effect env.names o a ≡ Happens v b → without_locks (Happens v b) ≡ Goes b
        → turn P (here p a) ≡ Silent (here (skip xs (suc p)) b)
    hushed_turn p x xs o a b v h l f can e u =
        turn_is p (x ∷ xs) o xs a h f can
        (and_false _ _ (ap throws e))
        (ap (λ z. falls (spot P (frame p a) fs (suc (lead xs))
        (without_locks z)).stands (spot P (frame p a) fs (suc (lead xs))
        (without_locks z)).is_lost z) e
        ∙ ap (λ z. falls (spot P (frame p a) fs (suc (lead xs)) z).stands (spot P (frame p a) fs
        (suc (lead xs)) z).is_lost (Happens v b)) u
        ∙ ap (λ q. not (stands code.items (pos q))) (next_is xs p)
        ∙ ap not (stands_here code (suc p) xs (next code h) l))
        ∙ ap (λ z. applied P (without_locks z) (suc (lead xs)) (frame p a) fs (here p a)) e
        ∙ ap (λ z. applied P z (suc (lead xs)) (frame p a) fs (here p a)) u
        ∙ ap (λ q. Silent (here q b)) (next_is xs p)

    pub hushed : (k c d p : ℕ) (x : Item) (xs : List Item) (o : Operation) (a b : Areas)
        (v : Event) (g : Told)
        → suc c ≤ d → Here code p (x ∷ xs) → Lives xs
        → found env code.items p (x ∷ xs) ≡ silent o (suc (lead xs)) → Can o a
        → effect env.names o a ≡ Happens v b → without_locks (Happens v b) ≡ Goes b
        → Matches P k c (turn P (here (skip xs (suc p)) b)) g → Matches P k d (turn P (here p a)) g
    hushed k c d p x xs o a b v g le h l f can e u r =
        subst (λ t. Matches P k d t g) (sym (hushed_turn p x xs o a b v h l f can e u))
        (next_rule P k k c d (here (skip xs (suc p)) b) g (omega arith) le r)

    jumps_turn : (p q : ℕ) (x : Item) (xs : List Item) (o : Operation) (a b : Areas)
        → Here code p (x ∷ xs)
        → stands code.items (pos q) ≡ true
        → found env code.items p (x ∷ xs) ≡ silent o (suc (lead xs)) → Can o a
        → effect env.names o a ≡ Jumps (pos q -ℤ pos p) b
        → turn P (here p a) ≡ Silent (here q b)
    jumps_turn p q x xs o a b h l f can e =
        turn_is p (x ∷ xs) o xs a h f can
        (and_false _ _ (ap throws e))
        (ap (λ z. falls (spot P (frame p a) fs (suc (lead xs))
        (without_locks z)).stands (spot P (frame p a) fs (suc (lead xs))
        (without_locks z)).is_lost z) e
        ∙ ap (λ z. not (stands code.items z)) (there p q) ∙ ap not l)
        ∙ ap (λ z. applied P (without_locks z) (suc (lead xs)) (frame p a) fs (here p a)) e
        ∙ ap (λ q. Silent (here q b)) (offset_there p q)

    -- one that jumps to a label
    pub jumps : (j k c d p q : ℕ) (x : Item) (xs : List Item) (o : Operation) (a b : Areas)
        (g : Told)
        → k ≤ suc j → suc c ≤ d → Here code p (x ∷ xs) → stands code.items (pos q) ≡ true
        → found env code.items p (x ∷ xs) ≡ silent o (suc (lead xs)) → Can o a
        → effect env.names o a ≡ Jumps (pos q -ℤ pos p) b
        → Matches P j c (turn P (here q b)) g → Matches P k d (turn P (here p a)) g
    jumps j k c d p q x xs o a b g le' le h l f can e r =
        subst (λ t. Matches P k d t g) (sym (jumps_turn p q x xs o a b h l f can e))
        (next_rule P j k c d (here q b) g le' le r)

    pub leaves_turn : (p : ℕ) (x : Item) (xs : List Item) (o : Operation) (a : Areas)
        → Here code p (x ∷ xs)
        → found env code.items p (x ∷ xs) ≡ silent o (suc (lead xs)) → Can o a
        → effect env.names o a ≡ Returns
        → turn P (here p a) ≡ gen.returned P fs (here p a)
    leaves_turn p x xs o a h f can e =
        turn_is p (x ∷ xs) o xs a h f can
        (and_false _ _ (ap throws e))
        (ap (λ z. falls (spot P (frame p a) fs (suc (lead xs))
        (without_locks z)).stands (spot P (frame p a) fs (suc (lead xs))
        (without_locks z)).is_lost z) e)
        ∙ ap (λ z. applied P (without_locks z) (suc (lead xs)) (frame p a) fs (here p a)) e

    pub leaves_with_turn : (p : ℕ) (x : Item) (xs : List Item) (o : Operation) (a : Areas)
        (v : MVal) → Here code p (x ∷ xs)
        → found env code.items p (x ∷ xs) ≡ silent o (suc (lead xs)) → Can o a
        → effect env.names o a ≡ ReturnsWith v
        → turn P (here p a) ≡ gen.returned_with P v fs (here p a)
    leaves_with_turn p x xs o a v h f can e =
        turn_is p (x ∷ xs) o xs a h f can
        (and_false _ _ (ap throws e))
        (ap (λ z. falls (spot P (frame p a) fs (suc (lead xs))
        (without_locks z)).stands (spot P (frame p a) fs (suc (lead xs))
        (without_locks z)).is_lost z) e)
        ∙ ap (λ z. applied P (without_locks z) (suc (lead xs)) (frame p a) fs (here p a)) e

    module _ (sound : IsSound P) where
      pub throws_turn : (p : ℕ) (x : Item) (xs : List Item) (o : Operation) (a : Areas)
          (name : Name) → Here code p (x ∷ xs)
          → found env code.items p (x ∷ xs) ≡ silent o (suc (lead xs)) → Can o a
          → effect env.names o a ≡ Throws name
          → turn P (here p a) ≡ gen.throws_next P (env.exception_named name) (frame p a ∷ fs) a
      throws_turn p x xs o a name h f can e =
          let g = caught_found P sound (env.exception_named name) (frame p a ∷ fs) in
          turn_is p (x ∷ xs) o xs a h f can
          (ap (λ z. gen.is_roomless P (gen.handlers P (gen.thrown_class P (without_locks z))
          (frame p a ∷ fs)) && throws z) e
          ∙ ap (λ b. b && true) g.1)
          (ap (λ z. falls (spot P (frame p a) fs (suc (lead xs))
          (without_locks z)).stands (spot P (frame p a) fs (suc (lead xs))
          (without_locks z)).is_lost z) e
          ∙ g.0)
          ∙ ap (λ z. applied P (without_locks z) (suc (lead xs)) (frame p a) fs (here p a)) e

      pub object_turn : (p : ℕ) (x : Item) (xs : List Item) (o : Operation) (a : Areas) (c n : ℕ)
          → Here code p (x ∷ xs)
          → found env code.items p (x ∷ xs) ≡ silent o (suc (lead xs)) → Can o a
          → effect env.names o a ≡ ThrowsObject (Ref c n)
          → Rattle.par_code_form.specs.par_values.Reasons.is_of env.exceptions (Ref c n) ≡ true
          → turn P (here p a) ≡ gen.throws P (Ref c n) (Some c) (frame p a ∷ fs) a
      object_turn p x xs o a c n h f can e is =
          let g = caught_found P sound c (frame p a ∷ fs) in
          turn_is p (x ∷ xs) o xs a h f can
          (ap (λ z. gen.is_roomless P (gen.handlers P (gen.thrown_class P (without_locks z))
          (frame p a ∷ fs)) && throws z) e
          ∙ ap (λ b. gen.is_roomless P (gen.handlers P (if b then Some c else None)
          (frame p a ∷ fs)) && true) is ∙ ap (λ b. b && true) g.1)
          (ap (λ z. falls (spot P (frame p a) fs (suc (lead xs))
          (without_locks z)).stands (spot P (frame p a) fs (suc (lead xs))
          (without_locks z)).is_lost z) e
          ∙ ap (λ b. gen.is_lost P (gen.handlers P (if b then Some c else None)
          (frame p a ∷ fs))) is ∙ g.0)
          ∙ ap (λ z. applied P (without_locks z) (suc (lead xs)) (frame p a) fs (here p a)) e
