-- Which classes and locks code names.
use Rattle.std.specs.Prelude.{◌≡◌, ℕ, Bool, true}
use Rattle.par_values.specs.Areas.{Name}
use Rattle.par_evaluation_laws.specs.par_code_form.declared.item.Item.{Item}
use Rattle.par_evaluation_laws.specs.par_code_form.declared.item.Item.TheVariants.{Label, Op, Const}
use Rattle.par_evaluation_laws.specs.par_code_form.declared.item.Item.TheVariants.{Jump, Member}
use Rattle.par_evaluation_laws.specs.par_code_form.declared.item.Item.TheVariants.{ClassOp, LockOp}
use Rattle.par_evaluation_laws.specs.par_code_form.declared.labelled.Handler.{Handler}
use Rattle.par_evaluation_laws.specs.par_code_form.Code.{Words}
use Rattle.par_source_code_laws.specs.Named.{Named, Made, Raised, OfClass, OfObject, Reads, Writes}
use Rattle.par_source_code_laws.specs.Named.{Calls}
use Rattle.par_source_code_laws.specs.Named.{Uses}

-- a class or a lock that the item names passes the test
abbrev pub ItemPasses : (Name → Bool) → (ℕ → Bool) → Item → Type 0
ItemPasses test locks (Label n) = Unit {0}
ItemPasses test locks (Op i) = Unit {0}
ItemPasses test locks (Const n) = Unit {0}
ItemPasses test locks (Jump opcode n) = Unit {0}
ItemPasses test locks (Member opcode class name descriptor) = test class ≡ true
ItemPasses test locks (ClassOp opcode class) = test class ≡ true
ItemPasses test locks (LockOp opcode lock) = locks lock ≡ true

abbrev pub HandlerPasses : (Name → Bool) → Handler → Type 0
HandlerPasses test h = test h.class ≡ true

-- the class of what a body names passes it, and so does a lock
abbrev pub NamedPasses : (Name → Bool) → (ℕ → Bool) → Words → Named → Type 0
NamedPasses test locks w (Made c) = test (w.class c) ≡ true
NamedPasses test locks w (Raised c) = test (w.class c) ≡ true
NamedPasses test locks w (OfClass c f) = test (w.class c) ≡ true
NamedPasses test locks w (OfObject c f) = test (w.class c) ≡ true
NamedPasses test locks w (Reads c k) = test (w.class c) ≡ true
NamedPasses test locks w (Writes c k) = test (w.class c) ≡ true
NamedPasses test locks w (Calls c i) = test (w.class c) ≡ true
NamedPasses test locks w (Uses l) = locks l ≡ true

-- of what a body names each lock passes
abbrev pub LockPasses : (ℕ → Bool) → Named → Type 0
LockPasses locks (Uses l) = locks l ≡ true
LockPasses locks _ = Unit {0}

-- a lock that the item names passes
abbrev pub ItemLockPasses : (ℕ → Bool) → Item → Type 0
ItemLockPasses locks (LockOp opcode lock) = locks lock ≡ true
ItemLockPasses locks _ = Unit {0}
