-- Small programs that the definitions are checked against, with the events that their users are
-- told.
use Rattle.std.specs.Int.{int_wrap}
use Rattle.std.proofs.Common.{◌≡◌, ℕ, ℤ, Bool, true, false, List, [], ◌∷◌, None, pos, negsuc, refl}
use Rattle.std.proofs.Common.{codes}
use Rattle.par_typed.specs.par_lexer.declared.operator.BinOp.TheVariants.{Or, And, Gt, Div, Rem}
use Rattle.par_typed.specs.par_lexer.declared.operator.BinOp.TheVariants.{Shl, Ushr}
use Rattle.par_typed.specs.par_lexer.declared.operator.BinOp.TheVariants.{Shr}
use Rattle.par_typed.specs.declared.ty.Ty.{Ty}
use Rattle.par_typed.specs.declared.ty.Ty.TheVariants as ty
use Rattle.par_typed.specs.declared.table.ChannelInfo.{ChannelInfo}
use Rattle.par_typed.specs.declared.table.ClassInfo.{ClassInfo}
use Rattle.par_typed.specs.declared.table.FieldInfo.{FieldInfo}
use Rattle.par_typed.specs.declared.table.MethodInfo.{MethodInfo}
use Rattle.par_typed.specs.declared.table.Table.{Table}
use Rattle.par_typed.specs.Plain.{Mark, mark, Body, TExp, Int, Boolean, Null, New, Local, Static}
use Rattle.par_typed.specs.Plain.{Field, Input, Output, Call, Binary}
use Rattle.par_typed.specs.Plain.{Absent, NoExps, More}
use Rattle.par_typed.specs.Plain.{TSta, Block, If, While, Try, Break, Continue, Throw, Open, Close}
use Rattle.par_typed.specs.Plain.{SetLocal, SetStatic, SetField, Eval, When}
use Rattle.par_typed.specs.Plain.{NoElse, Otherwise, TStas, End, Then, NoCatch, Catch}
use Rattle.par_secrecy.specs.par_values.declared.inputs.ChannelInput.{ChannelInput}
use Rattle.par_secrecy.specs.par_values.declared.run.Event.TheVariants as event
use Rattle.par_secrecy.specs.par_values.declared.run.Ending.{Ending}
use Rattle.par_secrecy.specs.par_values.declared.run.Ending.TheVariants as ending
use Rattle.par_secrecy.specs.par_values.declared.run.Val.TheVariants as shown
use Rattle.par_secrecy.specs.Runs.{Run, Witnessed}
use Rattle.par_run_laws.specs.Meaning.{eval, eval_all, go, go_else, go_all, go_catch, method}
use Rattle.par_run_laws.specs.Source.{run_of}

abbrev field : Bool → Ty → FieldInfo
field is_static t =
    record { name = codes "f"; is_static = is_static; ty = t; policy = 0; inferred = false }

abbrev method_named : List ℕ → MethodInfo
method_named name =
    record {
      name = name;
      at = 0;
      nodes = 0;
      is_static = true;
      result = ty.Void;
      policy = 0;
      params = [];
      locals = [];
      effect = 0;
      expects = [];
      opens = [];
      closes = [];
      throws = [];
    }

abbrev class : List ℕ → Bool → List FieldInfo → List ChannelInfo → List MethodInfo → ClassInfo
class name exception fields channels methods =
    record {
      name = name;
      at = 0;
      exception = exception;
      birth = 0;
      fields = fields;
      channels = channels;
      methods = methods;
    }

-- class 2 has `main`, another method, a static field, and channels `k` in and `s` out; objects of
-- class 3 have a field
abbrev table : Table
table = record {
  actors = [];
  locks = [];
  policies = [];
  main = 2;
  classes =
      class (codes "ArithmeticException") true [] [] []
      ∷ class (codes "NullPointerException") true [] [] []
      ∷ class (codes "S") false (field true ty.Int ∷ [])
      (record { name = codes "k"; is_input = true; policy = 0 }
      ∷ record { name = codes "s"; is_input = false; policy = 0 } ∷ [])
      (method_named (codes "g") ∷ method_named (codes "main") ∷ [])
      ∷ class (codes "Item") false (field false ty.Int ∷ []) [] []
      ∷ class (codes "Bad") true [] [] [] ∷ [];
}

abbrev m : Mark
m = record { at = 0; point = 0; ty = ty.Int; sure = false }

abbrev int : ℕ → TExp
int n = Int (pos n) m

-- channels of `main`'s class
abbrev key : TExp
key = Input 2 0 m

abbrev show : TExp → TSta
show e = Eval (Output 2 1 e m) 0 0

abbrev got : TExp
got = Static 2 0 m

abbrev block : List TSta → TStas
block [] = End
block (s ∷ ss) = Then s (block ss)

abbrev bodies : List TSta → List TSta → List Body
bodies main g =
    record { class = 2; method = 1; body = Block (block main) 0 0 }
    ∷ record { class = 2; method = 0; body = Block (block g) 0 0 } ∷ []

abbrev given : List ℤ → List ChannelInput
given numbers = record { class = codes "S"; channel = codes "k"; numbers = numbers } ∷ []

abbrev runs : List TSta → List ℤ → ℕ → Run
runs main numbers n = run_of table (bodies main []) (given numbers) n

abbrev out : ℤ → List ℕ → Witnessed
out n locks = record { event = event.Out (codes "S") (codes "s") n; locks = locks }

abbrev set : ℤ → List ℕ → Witnessed
set n locks = record { event = event.Set (codes "S") (codes "f") (shown.Int n); locks = locks }

abbrev ran : List Witnessed → Ending → Run
ran events e = record { events = events; ending = e }

-- each event has the locks that are open when it happens
locks_are_those_of_the_moment : runs
    (Open 0 0 0 ∷ SetStatic 2 0 key 0 0 ∷ Close 0 0 0
    ∷ If (Binary Gt got (int 0) m) (Block (block (show (int 1) ∷ [])) 0 0) NoElse 0 0 ∷ [])
    (pos 42 ∷ []) 100 ≡ ran (set (pos 42) (0 ∷ []) ∷ out (pos 1) [] ∷ []) ending.End
unfolding eval eval_all go go_else go_all go_catch method
locks_are_those_of_the_moment = refl

numbers_wrap : runs (show (Binary Div (Int (negsuc 2147483647) m) (Int (negsuc 0) m) m) ∷ show
    (Binary Rem (Int (negsuc 6) m) (int 3) m) ∷ show (Binary Shl (int 1) (int 33) m) ∷ []) [] 100
    ≡ ran (out (negsuc 2147483647) [] ∷ out (negsuc 0) [] ∷ out (pos 2) [] ∷ []) ending.End
unfolding eval eval_all go go_else go_all go_catch method int_wrap
numbers_wrap = refl

zero_divisor : runs (show (Binary Div (int 1) got m) ∷ []) [] 100
    ≡ ran [] (ending.Uncaught (codes "ArithmeticException"))
unfolding eval eval_all go go_else go_all go_catch method
zero_divisor = refl

spent_input_gives_zero : runs
    (While (Binary Gt key (int 0) m) (Block End 0 0) 0 0 ∷ show (int 1) ∷ [])
    (pos 1 ∷ pos 1 ∷ []) 100 ≡ ran (out (pos 1) [] ∷ []) ending.End
unfolding eval eval_all go go_else go_all go_catch method
spent_input_gives_zero = refl

-- the block, the loop, three tests of three nodes, two of them further ones, two blocks, the
-- statement, the call and its argument
a_loop_costs : runs (While (Binary Gt key (int 0) m) (Block End 0 0) 0 0 ∷ show (int 1) ∷ [])
    (pos 1 ∷ pos 1 ∷ []) 18 ≡ ran (out (pos 1) [] ∷ []) ending.End
unfolding eval eval_all go go_else go_all go_catch method
a_loop_costs = refl

a_loop_costs_no_less : runs (While (Binary Gt key (int 0) m) (Block End 0 0) 0 0 ∷ show (int 1)
    ∷ []) (pos 1 ∷ pos 1 ∷ []) 17 ≡ ran [] ending.Stopped
unfolding eval eval_all go go_else go_all go_catch method
a_loop_costs_no_less = refl

abbrev item : ℕ → TExp
item x = Local x m

abbrev put : ℕ → ℕ → TSta
put x n = SetField (item x) 3 0 (int n) 0 0

abbrev born : ℕ → Witnessed
born n = record { event = event.Born (codes "Item") n; locks = [] }

abbrev was_put : ℕ → ℤ → Witnessed
was_put n v = record { event = event.Put (codes "Item") n (codes "f") (shown.Int v); locks = [] }

objects_have_numbers : runs (SetLocal 0 None (New 3 m) 0 0 ∷ SetLocal 1 None (New 3 m) 0 0
    ∷ SetLocal 2 None (item 0) 0 0 ∷ put 0 1 ∷ put 1 2 ∷ put 2 3 ∷ show (Field (item 0) 3 0 m) ∷ [])
    [] 100
    ≡ ran (born 0 ∷ born 1 ∷ was_put 0 (pos 1) ∷ was_put 1 (pos 2) ∷ was_put 0 (pos 3)
    ∷ out (pos 3) [] ∷ []) ending.End
unfolding eval eval_all go go_else go_all go_catch method mark
objects_have_numbers = refl

abbrev first_program : List TSta
first_program = Open 0 0 0 ∷ show key ∷ []

enough_steps : runs first_program (pos 42 ∷ []) 5 ≡ ran (out (pos 42) (0 ∷ []) ∷ []) ending.End
unfolding eval eval_all go go_else go_all go_catch method
enough_steps = refl

a_step_too_few : runs first_program (pos 42 ∷ []) 4 ≡ ran [] ending.Stopped
unfolding eval eval_all go go_else go_all go_catch method
a_step_too_few = refl

-- what is queried is what is open
queries : runs (When 0 (show key) (Otherwise (show (int 0))) 0 0 ∷ Open 0 0 0
    ∷ When 0 (show key) NoElse 0 0 ∷ []) (pos 42 ∷ []) 100
    ≡ ran (out (pos 0) [] ∷ out (pos 42) (0 ∷ []) ∷ []) ending.End
unfolding eval eval_all go go_else go_all go_catch method
queries = refl

-- a null receiver throws behind its value, before the write
null_receiver : runs (Try (Block (block (SetField (Null m) 3 0 key 0 0 ∷ [])) 0 0)
    (Catch 0 (show (int 0)) (Catch 1 (show key) NoCatch)) 0 0 ∷ []) (pos 5 ∷ pos 6 ∷ []) 100
    ≡ ran (out (pos 6) [] ∷ []) ending.End
unfolding eval eval_all go go_else go_all go_catch method mark
null_receiver = refl

-- locks stay as they are where something is thrown through a call, and arguments come before the
-- call
thrown_through_a_call : run_of table
    (bodies
    (Open 3 0 0
    ∷ Try (Block (block (Eval (Call 2 0 Absent (More key NoExps) m) 0 0 ∷ show (int 0) ∷ [])) 0 0)
    (Catch 4 (show key) NoCatch) 0 0 ∷ [])
    (Close 3 0 0 ∷ Open 1 0 0 ∷ show (Local 0 m) ∷ Throw 4 0 0 ∷ []))
    (given (pos 5 ∷ pos 6 ∷ [])) 100
    ≡ ran (out (pos 5) (1 ∷ []) ∷ out (pos 6) (1 ∷ []) ∷ []) ending.End
unfolding eval eval_all go go_else go_all go_catch method
thrown_through_a_call = refl

-- the second part is not looked at where the first decides
short_circuit : runs (If (Binary Or (Boolean true m) (Binary Gt key (int 0) m) m)
    (show key) NoElse 0 0 ∷ If (Binary And (Boolean false m) (Binary Gt key (int 0) m) m) (show key)
    (Otherwise (show key)) 0 0 ∷ []) (pos 5 ∷ pos 6 ∷ []) 100
    ≡ ran (out (pos 5) [] ∷ out (pos 6) [] ∷ []) ending.End
unfolding eval eval_all go go_else go_all go_catch method
short_circuit = refl

shifts : runs (show (Binary Shr (Int (negsuc 7) m) (int 33) m)
    ∷ show (Binary Ushr (Int (negsuc 0) m) (int 28) m)
    ∷ show (Binary Shl (int 1) (Int (negsuc 0) m) m) ∷ []) [] 100
    ≡ ran (out (negsuc 3) [] ∷ out (pos 15) [] ∷ out (negsuc 2147483647) [] ∷ []) ending.End
unfolding eval eval_all go go_else go_all go_catch method
shifts = refl

-- `continue` goes to the next test, and `break` ends the loop
left_loops : runs (While (Boolean true m)
    (Block
    (block (SetLocal 0 None key 0 0 ∷ If (Binary Gt (Local 0 m) (int 1) m) (Break 0 0) NoElse 0 0
    ∷ Continue 0 0 ∷ [])) 0 0) 0 0 ∷ show (Local 0 m) ∷ []) (pos 1 ∷ pos 0 ∷ pos 7 ∷ pos 9 ∷ []) 200
    ≡ ran (out (pos 7) [] ∷ []) ending.End
unfolding eval eval_all go go_else go_all go_catch method
left_loops = refl
