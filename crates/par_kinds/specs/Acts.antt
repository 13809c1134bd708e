-- What an instruction asks of a frame of kinds, and what it leaves.
use Rattle.std.specs.Prelude.{◌≡◌, ℕ, ◌+◌, ◌<◌, ℤ, pos, ◌+ℤ◌, Bool, true, false, List, [], ◌∷◌}
use Rattle.std.specs.Prelude.{◌++◌, length, drop, slice_set}
use Rattle.par_step_laws.specs.par_values.declared.kind.Kind.{Kind}
use Rattle.par_step_laws.specs.par_values.Areas.{Name}
use Rattle.par_kinds.specs.declared.frame.VKind.{VKind}
use Rattle.par_kinds.specs.Kinds.{KFrame, kind_at, accepts, throwable, exceptional, Front}

-- what is asked beside the kinds of the operands that it takes
pub data Also : Type 0 where
  Nothing : Also
  -- the first operand can be thrown
  Throwable : Also
  -- the first operand is null or of an exception class
  Exceptional : Also
  -- the first operand is of the kind of the method's result
  Result : Kind → Also
  -- a local is of a kind
  Local : ℕ → Kind → Also
  -- there is such a local
  InRange : ℕ → Also

-- what it does to locals and operands, once those that it takes are gone
pub data Leaves : Type 0 where
  -- pushes these, the last pushed first
  Gives : List VKind → Leaves
  -- pushes a local
  Loads : ℕ → Leaves
  -- pushes what it took twice
  Copies : Leaves
  -- sets a local to what it took
  Stores : ℕ → Leaves

-- where it goes on
pub data Flow : Type 0 where
  Onward : Flow
  Jumps : ℤ → Flow
  Branches : ℤ → Flow
  Nowhere : Flow

pub record Act : Type 0 where
  -- an index of a wrong kind, static and instance, a return, an athrow or a new that does not fit
  pub wrong : Bool
  pub takes : List Kind
  pub also : Also
  pub leaves : Leaves
  pub flow : Flow

abbrev pub Accepts : Kind → VKind → Type 0
Accepts kind k = accepts kind k ≡ true

abbrev pub AlsoFits : List Name → Also → KFrame → Type 0
AlsoFits exc Nothing k = Unit {0}
AlsoFits exc Throwable k = throwable exc (kind_at k.stack 0) ≡ true
AlsoFits exc Exceptional k = exceptional exc (kind_at k.stack 0) ≡ true
AlsoFits exc (Result kind) k = Accepts kind (kind_at k.stack 0)
AlsoFits exc (Local x kind) k = Accepts kind (kind_at k.locals x)
AlsoFits exc (InRange x) k = x < length k.locals

-- the instruction can be run on every frame of these kinds
pub record ActFits (exc : List Name) (a : Act) (k : KFrame) : Type 0 where
  pub right : a.wrong ≡ false
  pub takes : Front Accepts a.takes k.stack
  pub also : AlsoFits exc a.also k

unfoldable pub left_by : Leaves → ℕ → KFrame → KFrame
left_by (Gives ks) n k = record { locals = k.locals; stack = ks ++ drop n k.stack }
left_by (Loads x) n k = record { locals = k.locals; stack = kind_at k.locals x ∷ drop n k.stack }
left_by Copies n k =
    record {
      locals = k.locals;
      stack = kind_at k.stack 0 ∷ kind_at k.stack 0 ∷ drop n k.stack;
    }
left_by (Stores x) n k =
    record { locals = slice_set k.locals x (kind_at k.stack 0); stack = drop n k.stack }

-- the offsets at which it goes on
abbrev pub next_offsets : Flow → (at size : ℕ) → List ℤ
next_offsets Onward at size = pos (at + size) ∷ []
next_offsets (Jumps to) at size = (pos at +ℤ to) ∷ []
next_offsets (Branches to) at size = pos (at + size) ∷ (pos at +ℤ to) ∷ []
next_offsets Nowhere at size = []
