-- The rules, tried on worked bodies without loops: what is known at a point.
use Rattle.std.proofs.Common.{◌≡◌, ℕ, zero, suc, Bool, true, false, Option, Some, None, [], ◌∷◌}
use Rattle.std.proofs.Common.{refl, cond, nat_eq}
use Rattle.std.specs.Prelude.{pos}
use Rattle.par_bits.specs.Sets.{Set, none, adding}
use Rattle.par_except.specs.par_lexer.declared.operator.BinOp.TheVariants.{Gt}
use Rattle.par_except.specs.par_typed.declared.ty.Ty.TheVariants as ty
use Rattle.par_except.specs.par_typed.Plain.{TExp, Int, Local, Static, Input, Output, Call, Binary}
use Rattle.par_except.specs.par_typed.Plain.{Absent}
use Rattle.par_except.specs.par_typed.Plain.{NoExps, Mark}
use Rattle.par_except.specs.par_typed.Plain as plain
use Rattle.par_except.specs.par_typed.Plain.{TSta, Block, If, Try, Throw, Open, SetLocal, Eval}
use Rattle.par_except.specs.par_typed.Plain.{When, NoElse}
use Rattle.par_except.specs.par_typed.Plain.{Otherwise, End, Then, NoCatch, Catch}
use Rattle.par_except.specs.par_program_laws.Lattice.{numbers}
use Rattle.par_except.specs.par_program_laws.Declares.{Declares, Method, NO_METHOD}
use Rattle.par_except.specs.par_program_laws.Rules.{way, worth, can, can_by, comes}
use Rattle.par_except.specs.par_program_laws.Body.{exp, args, sta, stas, catches}
use Rattle.par_except.specs.par_program_laws.Closed.{first}
use Rattle.par_pass_laws.specs.Exits.{Way}
use Rattle.par_pass_laws.specs.Pass.{pass, pass_all}
use Rattle.par_pass_laws.specs.Written.{blanks, written, table}

-- policy 10 is that of the input, 11 that of the output, 12 that of the field
SHOP : ℕ
SHOP = 2

BAD : ℕ
BAD = 3

-- methods: `main`, one that closes lock 0, and one that closes it and throws
method : ℕ → Method
method zero = record NO_METHOD { closes = adding none 0 }
method (suc zero) = record NO_METHOD { closes = adding none 0 }
method (suc (suc n)) =
    record NO_METHOD { closes = adding none 0; throws = record { class = BAD; policy = 0 } ∷ [] }

shop : Declares
shop = record {
  field = λ c f. 12;
  channel = λ c k. cond (nat_eq k 0) 10 11;
  birth = λ c. 0;
  lock = λ l. 0;
  method = λ c m. method m;
}

at_point : ℕ → Mark
at_point p = record { at = 0; point = p; ty = ty.Int; sure = false }

key : ℕ → TExp
key p = Input SHOP 0 (at_point p)

show : TExp → ℕ → TExp
show e p = Output SHOP 1 e (at_point p)

number : ℕ → ℕ → TExp
number n p = Int (pos n) (at_point p)

above_zero : TExp → ℕ → ℕ → TExp
above_zero e p q = Binary Gt e (number 0 q) (at_point p)

unfoldable known : TSta → ℕ → Option Way
known body p =
    (table (written (pass (λ i. None) (sta shop body) (first numbers (method 0))).events
    (blanks 16)) p).entry

unfoldable value : TSta → ℕ → Set
value body p =
    (table (written (pass (λ i. None) (sta shop body) (first numbers (method 0))).events
    (blanks 16)) p).value

in_context : Option Way → ℕ → Option Bool
in_context None n = None
in_context (Some w) n = Some (w.context n)

is_open : Option Way → ℕ → Option Bool
is_open None n = None
is_open (Some w) n = Some (w.locks n)

-- `if (key() > 0) { return; } show(1);`
early : TSta
early =
    Block
    (Then (If (above_zero (key 3) 2 4) (Block (Then (plain.Return Absent 0 6) End) 0 5) NoElse 0 1)
    (Then (Eval (show (number 1 9) 8) 0 7) End)) 0 0

early_tells : in_context (known early 8) 10 ≡ Some true
unfolding known pass pass_all sta stas exp args way worth can can_by comes catches in_context early
    above_zero key show number at_point shop method SHOP
early_tells = refl

-- `int x = key(); x = 3; show(x);`
again : TSta
again =
    Block (Then (SetLocal 0 (Some 10) (key 2) 0 1)
    (Then (SetLocal 0 None (number 3 4) 0 3) (Then (Eval (show (Local 0 (at_point 7)) 6) 0 5) End)))
    0 0

again_forgets : value again 7 10 ≡ false
unfolding value pass pass_all sta stas exp args way worth can can_by comes catches again key show
    number at_point shop method SHOP
again_forgets = refl

-- `try { if (key() > 0) { throw new Bad(); } } catch (Bad e) { } show(1);`
caught : TSta
caught =
    Block
    (Then
    (Try
    (Block (Then (If (above_zero (key 5) 4 6) (Block (Then (Throw BAD 0 8) End) 0 7) NoElse 0 3)
    End) 0 2) (Catch BAD (Block End 0 9) NoCatch) 0 1)
    (Then (Eval (show (number 1 12) 11) 0 10) End)) 0 0

caught_tells_nothing : in_context (known caught 11) 10 ≡ Some false
unfolding known pass pass_all sta stas exp args way worth can can_by comes catches in_context caught
    above_zero key show number at_point shop method SHOP BAD
caught_tells_nothing = refl

in_catch_it_is_told : in_context (known caught 9) 10 ≡ Some true
unfolding known pass pass_all sta stas exp args way worth can can_by comes catches in_context caught
    above_zero key show number at_point shop method SHOP BAD
in_catch_it_is_told = refl

-- `open Paid; shut(); show(key());`
shuts : TSta
shuts =
    Block
    (Then (Open 0 0 1) (Then (Eval (Call SHOP 1 Absent NoExps (at_point 3)) 0 2)
    (Then (Eval (show (key 6) 5) 0 4) End))) 0 0

before_it_is_open : is_open (known shuts 3) 0 ≡ Some true
unfolding known pass pass_all sta stas exp args way worth can can_by comes catches is_open shuts key
    show at_point shop method SHOP
before_it_is_open = refl

call_shuts : is_open (known shuts 5) 0 ≡ Some false
unfolding known pass pass_all sta stas exp args way worth can can_by comes catches is_open shuts key
    show at_point shop method SHOP
call_shuts = refl

-- `open Paid; try { hit(); return; } catch (Bad e) { } show(key());`
hits : TSta
hits =
    Block
    (Then (Open 0 0 1)
    (Then
    (Try
    (Block (Then (Eval (Call SHOP 2 Absent NoExps (at_point 5)) 0 4)
    (Then (plain.Return Absent 0 6) End)) 0 3) (Catch BAD (Block End 0 7) NoCatch) 0 2)
    (Then (Eval (show (key 10) 9) 0 8) End))) 0 0

throw_shuts : is_open (known hits 9) 0 ≡ Some false
unfolding known pass pass_all sta stas exp args way worth can can_by comes catches is_open hits key
    show at_point shop method SHOP BAD
throw_shuts = refl

-- `if (got > 0) { open Paid; } else { open Paid; } show(1);`, and without the else branch
got : ℕ → TExp
got p = Static SHOP 0 (at_point p)

either : TSta
either =
    Block
    (Then (If (above_zero (got 3) 2 4) (Block (Then (Open 0 0 6) End) 0 5)
    (Otherwise (Block (Then (Open 0 0 8) End) 0 7)) 0 1)
    (Then (Eval (show (number 1 11) 10) 0 9) End)) 0 0

either_opens : is_open (known either 10) 0 ≡ Some true
unfolding known pass pass_all sta stas exp args way worth can can_by comes catches is_open either
    above_zero got show number at_point shop method SHOP
either_opens = refl

one_way : TSta
one_way =
    Block (Then (If (above_zero (got 3) 2 4) (Block (Then (Open 0 0 6) End) 0 5) NoElse 0 1)
    (Then (Eval (show (number 1 9) 8) 0 7) End)) 0 0

one_way_may_not : is_open (known one_way 8) 0 ≡ Some false
unfolding known pass pass_all sta stas exp args way worth can can_by comes catches is_open one_way
    above_zero got show number at_point shop method SHOP
one_way_may_not = refl

-- `when (Paid) { show(1); } show(2);`
asks : TSta
asks =
    Block (Then (When 0 (Block (Then (Eval (show (number 1 5) 4) 0 3) End) 0 2) NoElse 0 1)
    (Then (Eval (show (number 2 8) 7) 0 6) End)) 0 0

inside_it_is_open : is_open (known asks 4) 0 ≡ Some true
unfolding known pass pass_all sta stas exp args way worth can can_by comes catches is_open asks show
    number at_point shop method SHOP
inside_it_is_open = refl

behind_it_may_not : is_open (known asks 7) 0 ≡ Some false
unfolding known pass pass_all sta stas exp args way worth can can_by comes catches is_open asks show
    number at_point shop method SHOP
behind_it_may_not = refl
