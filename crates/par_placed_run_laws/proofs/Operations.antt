-- An operation that goes on straight is the same at each place.
use Rattle.std.proofs.Common.{◌≡◌, ℕ, ◌+◌, Bool, true, false, List, length, refl, sym, ap, subst}
use Rattle.std.proofs.Common.{◌∙◌}
use Rattle.std.specs.Prelude.{not, if◌then◌else◌, ◌||◌, ◌&&◌}
use Rattle.par_values.specs.declared.value.MVal.{MVal}
use Rattle.par_values.specs.declared.value.MVal.TheVariants.{Int, Null, Ref}
use Rattle.par_values.specs.declared.link.FieldLink.{FieldLink}
use Rattle.par_values.specs.declared.link.Target.{Target}
use Rattle.par_values.specs.declared.link.Target.TheVariants.{Input, Output, Code, Nothing}
use Rattle.par_values.specs.Areas.{Name, Areas, operand, number_of}
use Rattle.par_values.specs.Arithmetic.{divides_by_zero}
use Rattle.par_values.specs.Operations.{Operation, Push, PushNull, Load, Store, Discard, Copy}
use Rattle.par_values.specs.Operations.{Combine, Negate, Increase, Jump, JumpIf, JumpIfBoth}
use Rattle.par_values.specs.Operations.{JumpIfSame, JumpIfNull, GetStatic, PutStatic, GetField}
use Rattle.par_values.specs.Operations.{PutField, InvokeStatic, InvokeSpecial, InvokeVirtual}
use Rattle.par_values.specs.Operations.{Create, Throw, Leave, LeaveWith, Misnamed, takes, gives}
use Rattle.par_values.specs.Reasons.{Spot, misplaced, misnamed, disagrees, misused, misreturns}
use Rattle.par_values.specs.Reasons.{misgiven, is_result, unfit_result}
use Rattle.par_values.specs.Effects.{Effect, Goes, Happens, Jumps, Calls, Throws, ThrowsObject}
use Rattle.par_values.specs.Effects.{Returns, ReturnsWith, effect, called, called_on, field_read}
use Rattle.par_values.specs.Effects.{field_written, thrown}
use Rattle.par_match_laws.specs.Engine.{Found, Program, is_misreceived}
use Rattle.par_placed_run_laws.specs.Relocated.{Places, Shifts, Kin}

-- ---- what makes no jump

-- whether an operation may go on at a distance
abbrev pub leaps : Operation → Bool
leaps (Jump to) = true
leaps (JumpIf test to) = true
leaps (JumpIfBoth test to) = true
leaps (JumpIfSame same to) = true
leaps (JumpIfNull null to) = true
leaps _ = false

abbrev IsNoJump : Effect → Type 0
IsNoJump (Jumps to a) = ⊥
IsNoJump _ = Unit {0}

either : (b : Bool) (one other : Effect) → IsNoJump one → IsNoJump other
    → IsNoJump (if b then one else other)
either true one other h k = h
either false one other h k = k

called_stays : (n : ℕ) (t : Target) (a : Areas) → IsNoJump (called n t a)
called_stays n (Input class name) a = tt
called_stays n (Output class name) a = tt
called_stays n (Code class method locals) a = tt
called_stays n Nothing a = tt

called_on_stays : (v : MVal) (n : ℕ) (t : Target) (a : Areas) → IsNoJump (called_on v n t a)
called_on_stays Null n t a = tt
called_on_stays (Int v) n t a = called_stays (n + 1) t a
called_on_stays (Ref c k) n t a = called_stays (n + 1) t a

read_stays : (v : MVal) (f : FieldLink) (a : Areas) → IsNoJump (field_read v f a)
read_stays Null f a = tt
read_stays (Int v) f a = tt
read_stays (Ref c k) f a = tt

written_stays : (names : List Name) (v : MVal) (f : FieldLink) (w : MVal) (a : Areas)
    → IsNoJump (field_written names v f w a)
written_stays names Null f w a = tt
written_stays names (Int v) f w a = tt
written_stays names (Ref c k) f w a = tt

thrown_stays : (v : MVal) → IsNoJump (thrown v)
thrown_stays Null = tt
thrown_stays (Int v) = tt
thrown_stays (Ref c k) = tt

stays : (names : List Name) (o : Operation) (a : Areas) → leaps o ≡ false
    → IsNoJump (effect names o a)
unfolding effect
stays names (Push v) a h = tt
stays names PushNull a h = tt
stays names (Load x kind) a h = tt
stays names (Store x kind) a h = tt
stays names Discard a h = tt
stays names Copy a h = tt
stays names (Combine operator) a h =
    either (divides_by_zero operator (number_of (operand 0 a))) _ _ tt tt
stays names Negate a h = tt
stays names (Increase x by) a h = tt
stays names (Jump to) a h = absurd (cc h)
stays names (JumpIf test to) a h = absurd (cc h)
stays names (JumpIfBoth test to) a h = absurd (cc h)
stays names (JumpIfSame same to) a h = absurd (cc h)
stays names (JumpIfNull null to) a h = absurd (cc h)
stays names (GetStatic f) a h = tt
stays names (PutStatic f) a h = tt
stays names (GetField f) a h = read_stays (operand 0 a) f a
stays names (PutField f) a h = written_stays names (operand 1 a) f (operand 0 a) a
stays names (InvokeStatic m) a h = called_stays (length m.takes) m.target a
stays names (InvokeSpecial m) a h =
    called_on_stays (operand (length m.takes) a) (length m.takes) m.target a
stays names (InvokeVirtual m) a h =
    called_on_stays (operand (length m.takes) a) (length m.takes) m.target a
stays names (Create c) a h = either c.is_exception _ _ tt tt
stays names Throw a h = thrown_stays (operand 0 a)
stays names Leave a h = tt
stays names (LeaveWith kind) a h = tt
stays names (Misnamed kinds n) a h = tt

-- ---- what a place says of an operation

-- whatever else the place says
pub returns_same : (o : Operation) (s t : Spot) → s.gives_nothing ≡ t.gives_nothing
    → s.result ≡ t.result → misreturns s o ≡ misreturns t o
returns_same Leave s t g r = ap not g
returns_same (LeaveWith kind) s t g r =
    ap (λ (b : Bool). b || not (is_result kind s.result)) g
    ∙ ap (λ k. t.gives_nothing || not (is_result kind k)) r
returns_same _ s t g r = refl

pub given_same : (names : List Name) (o : Operation) (s t : Spot) (a : Areas)
    → s.gives_nothing ≡ t.gives_nothing → s.result ≡ t.result
    → misgiven names s o a ≡ misgiven names t o a
given_same names (LeaveWith kind) s t a g r =
    ap (λ (b : Bool). not b && unfit_result names kind s.result (operand 0 a)) g
    ∙ ap (λ k. not t.gives_nothing && unfit_result names kind k (operand 0 a)) r
given_same names _ s t a g r = refl

module _ (p : Program) (places : Places) (c m q : ℕ) where
  shifts : (e : Effect) → IsNoJump e → Shifts p places c m q e e
  shifts (Goes a) h = refl
  shifts (Happens v a) h = refl
  shifts (Jumps z a) h = absurd h
  shifts (Calls x y l vs a) h = refl
  shifts (Throws n) h = refl
  shifts (ThrowsObject v) h = refl
  shifts Returns h = refl
  shifts (ReturnsWith v) h = refl

  abbrev pub IsAsFar : Found → Found → Type 0
  IsAsFar x y = places.off c m q + y.size ≡ places.off c m (q + x.size)

  abbrev pub TakesAll : Found → Found → Type 0
  TakesAll x y =
      (a : Areas) → is_misreceived p x.wants_exception a ≡ false
      → is_misreceived p y.wants_exception a ≡ false

  -- one operation at both places
  pub kin_same : (x y : Found) → IsAsFar x y → TakesAll x y → y.op ≡ x.op → leaps x.op ≡ false
      → Kin p places c m q x y
  kin_same x y far all same still = record {
    size = far;
    wants = all;
    takes_same = ap takes same;
    gives_same = ap gives same;
    placed = λ a. ap (λ o. misplaced p.names o a) same;
    named = ap misnamed same;
    agrees = ap disagrees same;
    used = λ a. ap (λ o. misused p.exceptions o a) same;
    comes = λ s t g r. ap (misreturns s) same ∙ returns_same x.op s t g r;
    stays = λ s t a g r.
        ap (λ o. misgiven p.names s o a) same ∙ given_same p.names x.op s t a g r;
    effect_same = λ a.
        subst (λ o. Shifts p places c m q (effect p.names x.op a) (effect p.names o a)) (sym same)
        (shifts (effect p.names x.op a) (stays p.names x.op a still));
  }
