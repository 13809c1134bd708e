-- The rules of each expression and statement.
use Rattle.std.specs.Prelude.{ℕ, zero, suc, pos, Bool, true, false, not, cond, List, [], ◌∷◌}
use Rattle.std.specs.Ordering.{int_eq}
use Rattle.par_typed.specs.par_bits.Sets.{none, adding}
use Rattle.par_typed.specs.par_lexer.declared.operator.BinOp.{BinOp}
use Rattle.par_typed.specs.par_lexer.declared.operator.BinOp.TheVariants.{And, Or, Div, Rem}
use Rattle.par_typed.specs.Plain as plain
use Rattle.par_typed.specs.Plain.{TExp, TExps, TSta, TStas, TCatches, mark}
use Rattle.par_typed.specs.Plain.{point}
use Rattle.par_program_laws.specs.Kinds as kind
use Rattle.par_program_laws.specs.Kinds.{Normal, Next, Loop, Catches, ARITHMETIC, NULL_POINTER}
use Rattle.par_program_laws.specs.Declares.{Declares, Method, Thrown}
use Rattle.par_program_laws.specs.Rules.{From, Entry, After, Tested, Raised, Opened, Shut, Assigned}
use Rattle.par_program_laws.specs.Rules.{Given, Held, Value}
use Rattle.par_program_laws.specs.Rules.{Node, node, Rules, Done, Part, Test, Heads, Leaves, Worths}
use Rattle.par_program_laws.specs.Rules.{goes_on}
use Rattle.par_program_laws.specs.Rules.{can}

-- the way behind the latest part
abbrev pub past : From
past = After 0 Normal

-- behind it, with its value in the context
abbrev pub tested : From
tested = Tested 0 past

-- a literal other than 0 divides
abbrev pub is_sure : TExp → Bool
is_sure (plain.Int n m) = not (int_eq n (pos 0))
is_sure _ = false

-- the test of a loop that is left by `break` alone
abbrev pub is_forever : TExp → Bool
is_forever (plain.Boolean b m) = b
is_forever _ = false

abbrev pub if_not : Bool → (Rules → Rules) → Rules → Rules
if_not true rule more = more
if_not false rule more = rule more

-- the way, with the value of an object in its context, throws NullPointerException, unless the
-- object is never null
abbrev pub null_test : TExp → From → Rules → Rules
null_test e from more = if_not (mark e).sure (Leaves from (kind.Throw NULL_POINTER)) more

-- division and remainder throw where the divisor may be 0
abbrev pub divides : BinOp → TExp → Rules → Rules
divides Div e more = if_not (is_sure e) (Leaves tested (kind.Throw ARITHMETIC)) more
divides Rem e more = if_not (is_sure e) (Leaves tested (kind.Throw ARITHMETIC)) more
divides _ e more = more

-- the second operand of `&&` and `||` is reached where the first says so
abbrev pub second : BinOp → From
second And = tested
second Or = tested
second _ = past

-- and where it is not reached, the way behind the first goes on
abbrev pub skips : BinOp → Rules → Rules
skips And more = goes_on (After 1 Normal) more
skips Or more = goes_on (After 1 Normal) more
skips _ more = more

-- the classes that are caught
abbrev pub caught : TCatches → List ℕ
caught plain.NoCatch = []
caught (plain.Catch class body cs) = class ∷ caught cs

-- the way behind arguments, of which the first is entered from this one
abbrev pub args_past : From → TExps → From
args_past from plain.NoExps = from
args_past from (plain.More e es) = past

abbrev pub args_count : TExps → ℕ
args_count plain.NoExps = zero
args_count (plain.More e es) = suc (args_count es)

-- the way behind a receiver and the arguments, with the receiver's value in the context
abbrev pub args_tested : TExps → From
args_tested es = Tested (args_count es) past

module _ (declared : Declares) where
  -- what a called method throws, from the way at which it stands
  abbrev pub thrown : Method → From → List Thrown → Rules → Rules
  thrown m from [] more = more
  thrown m from (t ∷ ts) more =
      Leaves (Shut m.closes (Raised t.policy from)) (kind.Throw t.class) (thrown m from ts more)

  -- a called method throws, or goes on with its locks closed and opened
  abbrev pub called : Method → From → Rules
  called m from =
      thrown m from m.throws
      (goes_on (Opened m.opens (Shut m.closes from)) (Worths (Given m.result) Done))

  unfoldable mutual
    pub exp : TExp → Node
    exp (plain.Int n m) = node m.point (goes_on Entry Done)
    exp (plain.Boolean b m) = node m.point (goes_on Entry Done)
    exp (plain.Null m) = node m.point (goes_on Entry Done)
    exp (plain.This m) = node m.point (goes_on Entry Done)
    exp (plain.New class m) =
        node m.point (goes_on Entry (Worths (Given (declared.birth class)) Done))
    exp (plain.Local x m) = node m.point (goes_on Entry (Worths (Held x) Done))
    exp (plain.Static c f m) =
        node m.point (goes_on Entry (Worths (Given (declared.field c f)) Done))
    exp (plain.Field e c f m) =
        node m.point
        (Part Entry Next (exp e)
        (null_test e tested
        (goes_on past (Worths (Value 0) (Worths (Given (declared.field c f)) Done)))))
    exp (plain.Input c k m) =
        node m.point (goes_on Entry (Worths (Given (declared.channel c k)) Done))
    exp (plain.Output c k e m) = node m.point (Part Entry Next (exp e) (goes_on past Done))
    exp (plain.Call c k plain.Absent es m) =
        node m.point (args Entry es (called (declared.method c k) (args_past Entry es)))
    exp (plain.Call c k (plain.Present e) es m) =
        node m.point
        (Part Entry Next (exp e)
        (args past es
        (null_test e (args_tested es)
        (Worths (Value (args_count es)) (called (declared.method c k) (args_tested es))))))
    exp (plain.Neg e m) =
        node m.point (Part Entry Next (exp e) (goes_on past (Worths (Value 0) Done)))
    exp (plain.Not e m) =
        node m.point (Part Entry Next (exp e) (goes_on past (Worths (Value 0) Done)))
    exp (plain.Binary op a b m) =
        node m.point
        (Part Entry Next (exp a)
        (Part (second op) Next (exp b)
        (divides op b
        (skips op (goes_on past (Worths (Value 1) (Worths (Value 0) Done)))))))

    -- the arguments, of which the first is entered from the way
    pub args : From → TExps → Rules → Rules
    args from plain.NoExps more = more
    args from (plain.More e es) more = Part from Next (exp e) (args past es more)

  -- the way that enters a catch of the class: the throw, or where the block has none, the way that
  -- enters the `try`. The block is the part before as many catches
  abbrev pub caught_from : Node → ℕ → ℕ → From
  caught_from block class before =
      cond (can block (kind.Throw class)) (After before (kind.Throw class)) Entry

  unfoldable mutual
    pub sta : TSta → Node
    sta (plain.Block ss at p) = node p (stas Entry ss)
    sta (plain.If e s plain.NoElse at p) =
        node p
        (Part Entry Next (exp e) (goes_on past (Part tested Next (sta s) (goes_on past Done))))
    sta (plain.If e s (plain.Otherwise t) at p) =
        node p
        (Part Entry Next (exp e)
        (Part tested Next (sta s)
        (goes_on past (Part (Tested 1 (After 1 Normal)) Next (sta t) (goes_on past Done)))))
    sta (plain.While e s at p) =
        node p
        (Test (exp e)
        (Heads Entry
        (if_not (is_forever e) (goes_on past)
        (Part tested Loop (sta s)
        (Heads past
        (Heads (After 0 kind.Continue)
        (goes_on (After 0 kind.Break) Done)))))))
    sta (plain.Try s cs at p) =
        node p
        (Part Entry (Catches (caught cs)) (sta s) (goes_on past (catches (sta s) cs zero)))
    sta (plain.Return plain.Absent at p) = node p (Leaves Entry kind.Return Done)
    sta (plain.Return (plain.Present e) at p) =
        node p (Part Entry Next (exp e) (Leaves past kind.Return Done))
    sta (plain.Break at p) = node p (Leaves Entry kind.Break Done)
    sta (plain.Continue at p) = node p (Leaves Entry kind.Continue Done)
    sta (plain.Throw class at p) = node p (Leaves Entry (kind.Throw class) Done)
    sta (plain.Open lock at p) = node p (goes_on (Opened (adding none lock) Entry) Done)
    sta (plain.Close lock at p) = node p (goes_on (Shut (adding none lock) Entry) Done)
    sta (plain.SetLocal x policy e at p) =
        node p (Part Entry Next (exp e) (goes_on (Assigned x 0 past) Done))
    sta (plain.SetStatic c f e at p) = node p (Part Entry Next (exp e) (goes_on past Done))
    sta (plain.SetField o c f e at p) =
        node p
        (Part Entry Next (exp o)
        (Part past Next (exp e) (null_test o (Tested 1 past) (goes_on past Done))))
    sta (plain.Eval e at p) = node p (Part Entry Next (exp e) (goes_on past Done))
    sta (plain.When lock s plain.NoElse at p) =
        node p
        (goes_on Entry
        (Part (Opened (adding none lock) (Raised (declared.lock lock) Entry)) Next (sta s)
        (goes_on past Done)))
    sta (plain.When lock s (plain.Otherwise t) at p) =
        node p
        (Part (Opened (adding none lock) (Raised (declared.lock lock) Entry)) Next (sta s)
        (goes_on past
        (Part (Raised (declared.lock lock) Entry) Next (sta t) (goes_on past Done))))

    -- statements one after the other, of which the first is entered from the way
    pub stas : From → TStas → Rules
    stas from plain.End = goes_on from Done
    stas from (plain.Then s ss) = Part from Next (sta s) (stas past ss)

    -- the catches of a `try`, behind as many others
    pub catches : Node → TCatches → ℕ → Rules
    catches block plain.NoCatch before = Done
    catches block (plain.Catch class s cs) before =
        Part (caught_from block class before) Next (sta s)
        (goes_on past (catches block cs (suc before)))
