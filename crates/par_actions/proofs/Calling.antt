-- Calls of methods.
use Rattle.std.proofs.Common.{◌≡◌, ℕ, zero, suc, ◌+◌, ◌-◌, ◌<◌, ◌≤◌, Bool, true, false, not, ◌&&◌}
use Rattle.std.proofs.Common.{◌||◌, if◌then◌else◌, nat_lt, List, [], ◌∷◌, ◌++◌, length, reverse}
use Rattle.std.proofs.Common.{drop, get_or, min, ℤ, Option, Some, None, slice_get, refl, sym, ap}
use Rattle.std.proofs.Common.{subst, ◌∙◌, arith}
use Rattle.std.proofs.lemmas.Bool.{lt-ltb, le-ltb}
use Rattle.std.proofs.lemmas.List.{length-append, length-reverse, reverse-append, drop_all}
use Rattle.std.proofs.lemmas.List.{drop_more, get_or-reverse}
use Rattle.std.proofs.lemmas.Option.{slice_get_within, get_or_from_slice_get}
use Rattle.par_values.specs.declared.value.MVal.{MVal}
use Rattle.par_values.specs.declared.value.MVal.TheVariants.{Int, Null, Ref}
use Rattle.par_values.specs.declared.kind.Kind.{Kind}
use Rattle.par_values.specs.declared.link.Target.{Target as Named}
use Rattle.par_values.specs.declared.link.Target.TheVariants as named
use Rattle.par_values.specs.declared.link.MethodLink.{MethodLink}
use Rattle.par_values.specs.declared.inputs.ChannelInput.{ChannelInput}
use Rattle.par_values.specs.Areas.{Name, Areas, InputLists, fits, operand, value_or_null, number_of}
use Rattle.par_values.specs.Areas.{next, taken_from}
use Rattle.par_values.specs.Operations.{Operation, InvokeStatic}
use Rattle.par_values.specs.Effects.{Effect, Goes, Happens, called, called_on, throws_null, effect}
use Rattle.par_values.specs.Reasons.{Spot, all_fit, throws, falls, is_crowded, least_from, reason}
use Rattle.par_stack.specs.Frames.{Frame, running, with_running, pushed, popped, entered}
use Rattle.par_stack.specs.Frames.{last_operands}
use Rattle.par_lines.specs.par_secrecy.Subject.{numbers_at}
use Rattle.par_lines.specs.Lines.{Channel, channels_of, taken_at, AreLeft}
use Rattle.par_lines.proofs.Given.{left_there, left_less}
use Rattle.par_actions.specs.declared.fit.Fit.{Fit}
use Rattle.par_actions.specs.declared.callee.Target.{Target}
use Rattle.par_actions.specs.declared.callee.Target.TheVariants.{Input, Output, Code, Nothing}
use Rattle.par_actions.specs.declared.callee.Callee.{Callee}
use Rattle.par_actions.specs.Fits.{Takes, accepts}
use Rattle.par_actions.specs.declared.done.Done.{Done}
use Rattle.par_actions.specs.declared.done.Done.TheVariants as done
use Rattle.par_actions.specs.Done.{areas_in, target_of, out_by, lesser, thrown_reason}
use Rattle.par_actions.specs.Callee.{AllTake, accept_all, IsTarget, IsCallee, is_short}
use Rattle.par_actions.proofs.Shapes.{roomy}
use Rattle.par_actions.specs.Calls.{call_on, is_misreceived, or_2, IsCalled, with_inputs, Invokes}

-- ---- the kinds of arguments, and the numbers for them

pub same_many : (classes : List Name) (kinds : List Kind) (takes : List Fit)
    → AllTake classes kinds takes → length kinds ≡ length takes
same_many classes [] [] all = refl
same_many classes [] (fit ∷ takes) all = absurd all
same_many classes (kind ∷ kinds) [] all = absurd all
same_many classes (kind ∷ kinds) (fit ∷ takes) all = ap suc (same_many classes kinds takes all.1)

one_more : (classes : List Name) (kinds : List Kind) (takes : List Fit) (kind : Kind) (fit : Fit)
    → AllTake classes kinds takes → Takes classes kind fit
    → AllTake classes (kinds ++ kind ∷ []) (takes ++ fit ∷ [])
one_more classes [] [] kind fit all also = (also, tt)
one_more classes [] (f ∷ takes) kind fit all also = absurd all
one_more classes (k ∷ kinds) [] kind fit all also = absurd all
one_more classes (k ∷ kinds) (f ∷ takes) kind fit all also =
    (all.0, one_more classes kinds takes kind fit all.1 also)

reversed : (classes : List Name) (kinds : List Kind) (takes : List Fit)
    → AllTake classes kinds takes → AllTake classes (reverse kinds) (reverse takes)
reversed classes [] [] all = tt
reversed classes [] (fit ∷ takes) all = absurd all
reversed classes (kind ∷ kinds) [] all = absurd all
reversed classes (kind ∷ kinds) (fit ∷ takes) all =
    rw (reverse-append (kind ∷ []) kinds, reverse-append (fit ∷ []) takes)
    (one_more classes (reverse kinds) (reverse takes) kind fit
    (reversed classes kinds takes all.1) all.0)

accepted : (classes : List Name) (kinds : List Kind) (takes : List Fit)
    → AllTake classes kinds takes → (vs : List MVal)
    → all_fit classes kinds vs ≡ accept_all takes vs
accepted classes [] [] all vs = refl
accepted classes [] (fit ∷ takes) all vs = absurd all
accepted classes (kind ∷ kinds) [] all vs = absurd all
accepted classes (kind ∷ kinds) (fit ∷ takes) all [] = refl
accepted classes (kind ∷ kinds) (fit ∷ takes) all (v ∷ vs) =
    ap (λ (b : Bool). b && all_fit classes kinds vs) (all.0 v)
    ∙ ap (λ (b : Bool). accepts fit v && b) (accepted classes kinds takes all.1 vs)

pub arguments_accepted : (classes : List Name) (kinds : List Kind) (takes : List Fit)
    → AllTake classes kinds takes → (vs : List MVal)
    → all_fit classes (reverse kinds) vs ≡ accept_all (reverse takes) vs
arguments_accepted classes kinds takes all vs =
    accepted classes (reverse kinds) (reverse takes) (reversed classes kinds takes all) vs

-- ---- one argument after another

taken_back : (takes : List Fit) (after : ℕ) (d : Fit) → after < length takes
    → drop after (reverse takes)
    ≡ get_or takes (length takes - 1 - after) d ∷ drop (after + 1) (reverse takes)
taken_back takes after d within =
    let long = length-reverse takes in
    let there : after < length (reverse takes) = omega (arith, long) in
    drop_more (reverse takes) after d there
    ∙ ap (λ (x : Fit). x ∷ drop (after + 1) (reverse takes)) (get_or-reverse takes after d within)

operand_back : (vs : List MVal) (after : ℕ) (v : MVal) → slice_get vs after ≡ Some v
    → drop after vs ≡ v ∷ drop (after + 1) vs
operand_back vs after v is =
    let there = slice_get_within vs after v is in
    drop_more vs after v there ∙ ap (λ (x : MVal). x ∷ drop (after + 1) vs)
    (get_or_from_slice_get vs after v v is)

pub one_step : (takes : List Fit) (after : ℕ) (d : Fit) → after < length takes
    → (vs : List MVal) (v : MVal) → slice_get vs after ≡ Some v
    → accept_all (drop after (reverse takes)) (drop after vs)
    ≡ (accepts (get_or takes (length takes - 1 - after) d) v
    && accept_all (drop (after + 1) (reverse takes)) (drop (after + 1) vs))
one_step takes after d within vs v is =
    ap (λ (fs : List Fit). accept_all fs (drop after vs)) (taken_back takes after d within)
    ∙ ap (accept_all (get_or takes (length takes - 1 - after) d ∷ drop (after + 1) (reverse takes)))
    (operand_back vs after v is)

behind : (xs : List MVal) (place : ℕ) → slice_get xs place ≡ None → length xs ≤ place
behind [] place none = omega arith
behind (x ∷ xs) zero none = absurd (cc none)
behind (x ∷ xs) (suc place) none = let later = behind xs place none in omega (arith, later)

pub no_more_operands : (fs : List Fit) (vs : List MVal) (after : ℕ) → slice_get vs after ≡ None
    → accept_all fs (drop after vs) ≡ true
no_more_operands fs vs after none =
    ap (accept_all fs) (drop_all after vs (behind vs after none)) ∙ any_of fs
  where
    any_of : (fs : List Fit) → accept_all fs [] ≡ true
    any_of [] = refl
    any_of (f ∷ fs) = refl

-- an object stands behind the arguments
last_fits : (classes : List Name) (kinds : List Kind) (kind : Kind) (vs : List MVal) (v : MVal)
    → slice_get vs (length kinds) ≡ Some v
    → all_fit classes (kinds ++ kind ∷ []) vs ≡ (all_fit classes kinds vs && fits classes kind v)
last_fits classes [] kind [] v is = absurd (cc is)
last_fits classes [] kind (w ∷ vs) v is =
    let same : w ≡ v = cc is in
    and_true (fits classes kind w) ∙ ap (fits classes kind) same
  where
    and_true : (b : Bool) → (b && true) ≡ b
    and_true true = refl
    and_true false = refl
last_fits classes (k ∷ kinds) kind [] v is = absurd (cc is)
last_fits classes (k ∷ kinds) kind (w ∷ vs) v is =
    ap (λ (b : Bool). fits classes k w && b) (last_fits classes kinds kind vs v is)
    ∙ regroup (fits classes k w) (all_fit classes kinds vs) (fits classes kind v)
  where
    regroup : (a b c : Bool) → (a && (b && c)) ≡ ((a && b) && c)
    regroup true b c = refl
    regroup false b c = refl

-- ---- what a method does

pub crowded : (channels : List Channel) (t : Named) (target : Target) → IsTarget channels t target
    → (n : ℕ) → is_crowded t n ≡ is_short target n
crowded channels (named.Input class name) (Input line) is n = refl
crowded channels (named.Output class name) Output is n = refl
crowded channels (named.Code class method locals) (Code c m l room) is n =
    ap (λ (k : ℕ). nat_lt k n) is.locals
crowded channels named.Nothing Nothing is n = refl
crowded channels _ _ is n = absurd is

calm : (n : ℕ) (t : Named) (a : Areas) → throws (called n t a) ≡ false
calm n (named.Input class name) a = refl
calm n (named.Output class name) a = refl
calm n (named.Code class method locals) a = refl
calm n named.Nothing a = refl

goes_on : (stands lost : Bool) (n : ℕ) (t : Named) (a : Areas)
    → falls stands lost (called n t a) ≡ not stands
goes_on stands lost n (named.Input class name) a = refl
goes_on stands lost n (named.Output class name) a = refl
goes_on stands lost n (named.Code class method locals) a = refl
goes_on stands lost n named.Nothing a = refl

module _ (program : Areas) (f : Frame) (many : ℕ) where
  module _ (lines : List ChannelInput) (left : AreLeft lines program.inputs) where
    -- some lists are left, and the effect goes on with them
    pub record TakesNumber (line : Option ℕ) (e : Effect) : Type 0 where
      pub inputs : InputLists
      pub lists : AreLeft (taken_at line lines) inputs
      pub does : e ≡ Goes (areas_in (with_inputs inputs program)
          (pushed (Int (next (numbers_at line lines))) (popped many f)))

    pub input_called : (t : Named) (line : Option ℕ) → IsTarget (channels_of lines) t (Input line)
        → TakesNumber line (called many t (areas_in program f))
    input_called (named.Input class name) line is = rw is (record {
      inputs = taken_from class name program.inputs;
      lists = left_less class name lines program.inputs left;
      does = rw (left_there class name lines program.inputs left) refl;
    })
    input_called (named.Output class name) line is = absurd is
    input_called (named.Code class method locals) line is = absurd is
    input_called named.Nothing line is = absurd is

  pub output_called : (channels : List Channel) (t : Named) → IsTarget channels t Output
      → called many t (areas_in program f)
      ≡ Happens (out_by t (number_of (operand 0 (areas_in program f))))
      (areas_in program (popped many f))
  output_called channels (named.Input class name) is = absurd is
  output_called channels (named.Output class name) is = refl
  output_called channels (named.Code class method locals) is = absurd is
  output_called channels named.Nothing is = absurd is

  pub nothing_called : (channels : List Channel) (t : Named) → IsTarget channels t Nothing
      → called many t (areas_in program f) ≡ Goes (areas_in program (popped many f))
  nothing_called channels (named.Input class name) is = absurd is
  nothing_called channels (named.Output class name) is = absurd is
  nothing_called channels (named.Code class method locals) is = absurd is
  nothing_called channels named.Nothing is = refl

  pub code_called : (channels : List Channel) (t : Named) (class method locals room : ℕ)
      → IsTarget channels t (Code class method locals room)
      → IsCalled (called many t (areas_in program f)) (Code class method locals room)
      (areas_in program (popped many f))
      (entered (record { class = class; method = method; at = 0 })
      (last_operands many f) locals room)
  code_called channels (named.Input c n) class method locals room is = absurd is
  code_called channels (named.Output c n) class method locals room is = absurd is
  code_called channels (named.Code c m l) class method locals room is = record {
    class = class;
    method = method;
    locals = locals;
    room = room;
    arguments = last_operands many f;
    is = refl;
    effect = rw (is.class, is.method, is.locals) refl;
    frame = refl;
  }
  code_called channels named.Nothing class method locals room is = absurd is

-- ---- what a call that is done came to

module _ (classes : List Name) (spot : Spot) (o : Operation) (program : Areas)
    (old new : List Frame) (many : ℕ) (target : Target)
    (lines after : List ChannelInput) (is : IsTarget (channels_of lines) (target_of o) target)
    (left : AreLeft lines program.inputs)
  where
    abbrev Came : Done → Type 0
    Came done =
        Invokes done target classes o spot None
        (called many (target_of o) (areas_in program (running old))) program new after

    pub input_target : (line : Option ℕ) (n : ℤ) → target ≡ Input line
        → n ≡ next (numbers_at line lines)
        → after ≡ taken_at line lines
        → new ≡ with_running (pushed (Int n)) (with_running (popped many) old) → Came done.Goes
    input_target line n at number taken is_new =
        let t = input_called program (running old) many lines left (target_of o) line
        (subst (IsTarget (channels_of lines) (target_of o)) at is) in
        record {
          inputs = t.inputs;
          left = subst (λ (ls : List ChannelInput). AreLeft ls t.inputs) (sym taken) t.lists;
          comes = (refl, rw (is_new, number) t.does);
        }

    pub output_target : (n : ℤ) → target ≡ Output
        → n ≡ number_of (operand 0 (areas_in program (running old))) → after ≡ lines
        → new ≡ with_running (popped many) old → Came (done.Outs n)
    output_target n at number taken is_new = record {
      inputs = program.inputs;
      left = subst (λ (ls : List ChannelInput). AreLeft ls program.inputs) (sym taken) left;
      comes = (
        refl,
        rw (is_new, number)
            (output_called program (running old) many (channels_of lines) (target_of o)
            (subst (IsTarget (channels_of lines) (target_of o)) at is)),
      );
    }

    pub nothing_target : target ≡ Nothing → after ≡ lines → new ≡ with_running (popped many) old
        → Came done.Goes
    nothing_target at taken is_new = record {
      inputs = program.inputs;
      left = subst (λ (ls : List ChannelInput). AreLeft ls program.inputs) (sym taken) left;
      comes = (
        refl,
        rw is_new
            (nothing_called program (running old) many (channels_of lines) (target_of o)
            (subst (IsTarget (channels_of lines) (target_of o)) at is)),
      );
    }

    pub code_target : (class method locals room : ℕ) → target ≡ Code class method locals room
        → after ≡ lines
        → new ≡ entered (record { class = class; method = method; at = 0 })
        (last_operands many (running old)) locals room ∷ with_running (popped many) old
        → Came done.Calls
    code_target class method locals room at taken is_new = record {
      inputs = program.inputs;
      left = subst (λ (ls : List ChannelInput). AreLeft ls program.inputs) (sym taken) left;
      comes = (
        refl,
        rw (is_new, at)
            (code_called program (running old) many (channels_of lines)
            (target_of o) class method locals room
            (subst (IsTarget (channels_of lines) (target_of o)) at is)),
      );
    }

-- a call that is done came to this, whatever it is of
abbrev pub CallCame : Target → (many : ℕ) → (lines : List ChannelInput) → (old new : List Frame)
    → (after : List ChannelInput) → Done → Type 0
CallCame target many lines old new after done =
    (classes : List Name) (spot : Spot) (program : Areas) (o : Operation)
    → IsTarget (channels_of lines) (target_of o) target
    → AreLeft lines program.inputs
    → Invokes done target classes o spot None
    (called many (target_of o) (areas_in program (running old))) program new after

-- ---- the reasons against a call

abbrev listed : (one two three four five six seven : Bool) → Option ℕ
listed one two three four five six seven =
    least_from 1 (one ∷ two ∷ three ∷ four ∷ five ∷ six ∷ seven ∷ false ∷ false ∷ [])

hushed : (b e : Bool) → ((b && false) || e) ≡ e
hushed true e = refl
hushed false e = refl

null_received : (only : Bool) (exceptions : List ℕ) → is_misreceived only exceptions Null ≡ false
null_received true exceptions = refl
null_received false exceptions = refl

still_2 : (b : Bool) → or_2 b (Some 2) ≡ Some 2
still_2 true = refl
still_2 false = refl

-- 2 comes before the reasons from a number on
two_first : (n : ℕ) (applies : List Bool) → 2 ≤ n → lesser (Some 2) (least_from n applies) ≡ Some 2
two_first n [] more = refl
two_first n (true ∷ applies) more = let first : min 2 n ≡ 2 = omega arith in ap Some first
two_first n (false ∷ applies) more = two_first (suc n) applies (omega arith)

at_most_one : (b : Bool) → (if b then 1 else 0) ≤ 1
at_most_one true = omega arith
at_most_one false = omega arith

taken_too : (v : MVal) → (v ≡ Null → ⊥) → (n : ℕ) (t : Named) (a : Areas)
    → called_on v n t a ≡ called (n + 1) t a
taken_too Null object n t a = absurd (object refl)
taken_too (Int k) object n t a = refl
taken_too (Ref c k) object n t a = refl

later_listed : (six seven : Bool)
    → listed false false false false false six seven
    ≡ (if six then Some 6 else (if seven then Some 7 else None))
later_listed true seven = refl
later_listed false true = refl
later_listed false false = refl

null_listed : (roomless lost short six seven : Bool)
    → listed false false ((roomless && true) || false) short lost six seven
    ≡ lesser (if roomless then Some 3 else (if lost then Some 5 else None))
    (if short then Some 4 else (if six then Some 6 else (if seven then Some 7 else None)))
null_listed true lost true six seven = refl
null_listed true lost false true seven = refl
null_listed true lost false false true = refl
null_listed true lost false false false = refl
null_listed false true true six seven = refl
null_listed false true false true seven = refl
null_listed false true false false true = refl
null_listed false true false false false = refl
null_listed false false true six seven = refl
null_listed false false false true seven = refl
null_listed false false false false true = refl
null_listed false false false false false = refl

module _ (classes : List Name) (spot : Spot) (program : Areas) (f : Frame) (m : MethodLink)
    (channels : List Channel) (callee : Callee)
    (is : IsCallee classes channels m callee) where
  abbrev many : ℕ
  many = length callee.takes.now

  same : length m.takes ≡ many
  same = same_many classes m.takes callee.takes.now is.takes

  fit : all_fit classes (reverse m.takes) f.operands
      ≡ accept_all (reverse callee.takes.now) f.operands
  fit = arguments_accepted classes m.takes callee.takes.now is.takes f.operands

  -- ---- of a static method

  pub static_does : effect classes (InvokeStatic m) (areas_in program f)
      ≡ called many m.target (areas_in program f)
  unfolding effect
  static_does = ap (λ (n : ℕ). called n m.target (areas_in program f)) same

  static_reason : (one two three four five seven : Bool) → nat_lt (length f.operands) many ≡ one
      → not (accept_all (reverse callee.takes.now) f.operands) ≡ two
      → nat_lt spot.room (length f.operands - many + (if callee.gives then 1 else 0)) ≡ three
      → is_short callee.target many ≡ four
      → not spot.stands ≡ five → not callee.is_static ≡ seven
      → reason classes spot (InvokeStatic m) (areas_in program f)
      ≡ listed one two three four five false seven
  unfolding reason
  static_reason one two three four five seven e1 e2 e3 e4 e5 e7 =
      rw (
        static_does,
        calm many m.target (areas_in program f),
        goes_on spot.stands spot.is_lost many m.target (areas_in program f),
        hushed spot.is_roomless,
        length-reverse m.takes,
        same,
        fit,
        is.gives,
        is.is_static,
        crowded channels m.target callee.target is.target many,
        e1,
        e2,
        e3,
        e4,
        e5,
        e7,
      ) refl

  module _ (room : spot.room ≡ length f.operands + f.free) where
    abbrev over : ℕ
    over = length f.operands - many + (if callee.gives then 1 else 0)

    abbrev fitted : Bool
    fitted = accept_all (reverse callee.takes.now) f.operands

    in_room : (b : Bool) → b ≡ nat_lt (length f.operands + f.free) over → nat_lt spot.room over ≡ b
    in_room b is = ap (λ (n : ℕ). nat_lt n over) room ∙ sym is

    pub static_1 : length f.operands < many
        → reason classes spot (InvokeStatic m) (areas_in program f) ≡ Some 1
    static_1 few = static_reason true _ _ _ _ _ (lt-ltb _ _ few) refl refl refl refl refl

    module _ (enough : many ≤ length f.operands) where
      there : nat_lt (length f.operands) many ≡ false
      there = le-ltb _ _ enough

      pub static_2 : fitted ≡ false
          → reason classes spot (InvokeStatic m) (areas_in program f) ≡ Some 2
      static_2 other = static_reason false true _ _ _ _ there (ap not other) refl refl refl refl

      module _ (right : fitted ≡ true) where
        pub static_3 : true ≡ nat_lt (length f.operands + f.free) over
            → reason classes spot (InvokeStatic m) (areas_in program f) ≡ Some 3
        static_3 full =
            static_reason false false true _ _ _ there (ap not right)
            (in_room true full) refl refl refl

        module _ (holds : false ≡ nat_lt (length f.operands + f.free) over) where
          pub static_4 : is_short callee.target many ≡ true
              → reason classes spot (InvokeStatic m) (areas_in program f) ≡ Some 4
          static_4 short =
              static_reason false false false true _ _ there (ap not right)
              (in_room false holds) short refl refl

          module _ (long : is_short callee.target many ≡ false) where
            pub static_5 : spot.stands ≡ false
                → reason classes spot (InvokeStatic m) (areas_in program f) ≡ Some 5
            static_5 stands =
                static_reason false false false false true _ there (ap not right)
                (in_room false holds) long (ap not stands) refl

            pub static_7 : spot.stands ≡ true → callee.is_static ≡ false
                → reason classes spot (InvokeStatic m) (areas_in program f) ≡ Some 7
            static_7 stands own =
                static_reason false false false false false true there (ap not right)
                (in_room false holds) long (ap not stands) (ap not own)

            pub static_runs : spot.stands ≡ true → callee.is_static ≡ true
                → reason classes spot (InvokeStatic m) (areas_in program f) ≡ None
            static_runs stands shared =
                static_reason false false false false false false there (ap not right)
                (in_room false holds) long (ap not stands) (ap not shared)

            pub static_came : spot.stands ≡ true → callee.is_static ≡ true
                → (done : Done) (new : List Frame) (lines : List ChannelInput)
                → Invokes done callee.target classes (InvokeStatic m) spot None
                (called many m.target (areas_in program f)) program new lines
                → Invokes done callee.target classes (InvokeStatic m) spot
                (reason classes spot (InvokeStatic m) (areas_in program f))
                (effect classes (InvokeStatic m) (areas_in program f)) program new lines
            static_came stands shared done new lines came =
                rw (static_runs stands shared, static_does) came

  -- ---- on an object

  on_same : (special : Bool) → target_of (call_on special m) ≡ m.target
  on_same true = refl
  on_same false = refl

  pub on_target : (special : Bool) → IsTarget channels (target_of (call_on special m)) callee.target
  on_target true = is.target
  on_target false = is.target

  abbrev on : Bool → Operation
  on special = call_on special m

  on_many : length (reverse m.takes ++ m.receiver ∷ []) ≡ many + 1
  on_many =
      length-append (reverse m.takes) (m.receiver ∷ [])
      ∙ ap (λ (n : ℕ). n + 1) (length-reverse m.takes ∙ same)

  on_reason : (special : Bool) (e : Effect) (t one two three four five six seven : Bool)
      → effect classes (on special) (areas_in program f) ≡ e
      → throws e ≡ t → falls spot.stands spot.is_lost e ≡ five
      → nat_lt (length f.operands) (many + 1) ≡ one
      → not (all_fit classes (reverse m.takes ++ m.receiver ∷ []) f.operands) ≡ two
      → nat_lt spot.room (length f.operands - (many + 1) + (if callee.gives then 1 else 0)) ≡ three
      → is_short callee.target (many + 1) ≡ four
      → (special && not callee.is_initializer) ≡ six → callee.is_static ≡ seven
      → reason classes spot (on special) (areas_in program f)
      ≡ listed one two ((spot.is_roomless && t) || three) four five six seven
  unfolding reason
  on_reason true e t one two three four five six seven does throwing e5 e1 e2 e3 e4 e6 e7 =
      rw (
        does,
        throwing,
        e5,
        e2,
        on_many,
        same,
        is.gives,
        is.is_static,
        is.is_initializer,
        crowded channels m.target callee.target is.target (many + 1),
        e1,
        e3,
        e4,
        e6,
        e7,
      ) refl
  on_reason false e t one two three four five six seven does throwing e5 e1 e2 e3 e4 e6 e7 =
      rw (
        does,
        throwing,
        e5,
        e2,
        on_many,
        same,
        is.gives,
        is.is_static,
        crowded channels m.target callee.target is.target (many + 1),
        e1,
        e3,
        e4,
        e7,
      ) (ap (λ (b : Bool). listed one two ((spot.is_roomless && t) || three) four five b seven) e6)

  on_does : (special : Bool) → effect classes (on special) (areas_in program f)
      ≡ called_on (value_or_null (slice_get f.operands many)) many m.target (areas_in program f)
  unfolding effect
  on_does true =
      ap (λ (n : ℕ). called_on (value_or_null (slice_get f.operands n)) n m.target
      (areas_in program f)) same
  on_does false =
      ap (λ (n : ℕ). called_on (value_or_null (slice_get f.operands n)) n m.target
      (areas_in program f)) same

  abbrev mis : Bool
  mis =
      is_misreceived callee.only_exceptions spot.exceptions
      (operand (length m.takes) (areas_in program f))

  mis_is : (v : MVal) → value_or_null (slice_get f.operands many) ≡ v
      → mis ≡ is_misreceived callee.only_exceptions spot.exceptions v
  mis_is v held =
      ap (λ (n : ℕ). is_misreceived callee.only_exceptions spot.exceptions
      (value_or_null (slice_get f.operands n))) same
      ∙ ap (is_misreceived callee.only_exceptions spot.exceptions) held

  module _ (special : Bool) (room : spot.room ≡ length f.operands + f.free) where
    abbrev against : Option ℕ
    against = or_2 mis (reason classes spot (on special) (areas_in program f))

    pub on_1 : slice_get f.operands many ≡ None → against ≡ Some 1
    on_1 none =
        let few = behind f.operands many none in
        ap (λ (b : Bool). or_2 b (reason classes spot (on special) (areas_in program f)))
        (mis_is Null (ap value_or_null none) ∙ null_received callee.only_exceptions spot.exceptions)
        ∙ on_reason special _ _ true _ _ _ _ _ _ refl refl refl
        (lt-ltb _ _ (omega arith)) refl refl refl refl refl

    module _ (v : MVal) (at : slice_get f.operands many ≡ Some v) where
      on_fit : all_fit classes (reverse m.takes ++ m.receiver ∷ []) f.operands
          ≡ (accept_all (reverse callee.takes.now) f.operands && accepts callee.receiver v)
      on_fit =
          last_fits classes (reverse m.takes) m.receiver f.operands v
          (ap (slice_get f.operands) (length-reverse m.takes ∙ same) ∙ at)
          ∙ ap (λ (b : Bool). b && fits classes m.receiver v) fit
          ∙ ap (λ (b : Bool). accept_all (reverse callee.takes.now) f.operands && b) (is.receiver v)

      there_on : nat_lt (length f.operands) (many + 1) ≡ false
      there_on = let within = slice_get_within f.operands many v at in le-ltb _ _ (omega arith)

      unfit_on : (accept_all (reverse callee.takes.now) f.operands && accepts callee.receiver v)
          ≡ false → against ≡ Some 2
      unfit_on other =
          ap (or_2 mis)
          (on_reason special _ _ false true _ _ _ _ _ refl refl refl there_on
          (ap not (on_fit ∙ other)) refl refl refl refl)
          ∙ still_2 mis

      pub on_2 : accept_all (reverse callee.takes.now) f.operands ≡ false → against ≡ Some 2
      on_2 other = unfit_on (ap (λ (b : Bool). b && accepts callee.receiver v) other)

      module _ (right : accept_all (reverse callee.takes.now) f.operands ≡ true) where
        pub on_2_receiver : accepts callee.receiver v ≡ false → against ≡ Some 2
        on_2_receiver other =
            unfit_on (ap (λ (b : Bool). b && accepts callee.receiver v) right ∙ other)

        module _ (own : accepts callee.receiver v ≡ true) where
          all_on : not (all_fit classes (reverse m.takes ++ m.receiver ∷ []) f.operands) ≡ false
          all_on = ap not (on_fit ∙ ap (λ (b : Bool). b && accepts callee.receiver v) right ∙ own)

          holds_on : nat_lt spot.room (length f.operands - (many + 1)
              + (if callee.gives then 1 else 0)) ≡ false
          holds_on =
              let within = slice_get_within f.operands many v at in
              let one = at_most_one callee.gives in
              roomy spot.room (length f.operands) f.free (many + 1)
              (if callee.gives then 1 else 0) room (omega arith) (omega arith)

          pub on_2_exception : is_misreceived callee.only_exceptions spot.exceptions v ≡ true
              → against ≡ Some 2
          on_2_exception wrong =
              ap (λ (b : Bool). or_2 b (reason classes spot (on special) (areas_in program f)))
              (mis_is v (ap value_or_null at) ∙ wrong)
              ∙ ap (or_2 true)
              (on_reason special (effect classes (on special) (areas_in program f))
              (throws (effect classes (on special) (areas_in program f))) false false false
              (is_short callee.target (many + 1))
              (falls spot.stands spot.is_lost (effect classes (on special) (areas_in program f)))
              (special && not callee.is_initializer) callee.is_static refl refl refl there_on all_on
              holds_on refl refl refl)
              ∙ two_first 3
              (((spot.is_roomless && throws (effect classes (on special) (areas_in program f)))
              || false) ∷ is_short callee.target (many + 1)
              ∷ falls spot.stands spot.is_lost (effect classes (on special) (areas_in program f))
              ∷ (special && not callee.is_initializer) ∷ callee.is_static
              ∷ false ∷ false ∷ []) (omega arith)

          module _ (received : is_misreceived callee.only_exceptions spot.exceptions v
              ≡ false) where
            alone : against ≡ reason classes spot (on special) (areas_in program f)
            alone =
                ap (λ (b : Bool). or_2 b (reason classes spot (on special) (areas_in program f)))
                (mis_is v (ap value_or_null at) ∙ received)

            abbrev later : Option ℕ
            later =
                if special && not callee.is_initializer then Some 6
                else (if callee.is_static then Some 7 else None)

            module _ (null : v ≡ Null) where
              pub null_does : effect classes (on special) (areas_in program f) ≡ throws_null
              null_does =
                  on_does special ∙ ap (λ (w : MVal).
                  called_on w many m.target (areas_in program f)) (ap value_or_null at ∙ null)

              pub on_null : against ≡ thrown_reason
                  (if is_short callee.target (many + 1) then Some 4 else later) spot
              on_null =
                  alone
                  ∙ on_reason special throws_null true false false false _ _ _ _ null_does refl refl
                  there_on all_on holds_on refl refl refl
                  ∙ null_listed spot.is_roomless spot.is_lost (is_short callee.target (many + 1))
                  (special && not callee.is_initializer) callee.is_static

            module _ (object : v ≡ Null → ⊥) where
              pub object_does : effect classes (on special) (areas_in program f)
                  ≡ called (many + 1) m.target (areas_in program f)
              object_does =
                  on_does special
                  ∙ ap (λ (w : MVal). called_on w many m.target (areas_in program f))
                  (ap value_or_null at)
                  ∙ taken_too v object many m.target (areas_in program f)

              object_reason : (four five : Bool) → is_short callee.target (many + 1) ≡ four
                  → not spot.stands ≡ five
                  → against ≡ listed false false false four five
                  (special && not callee.is_initializer) callee.is_static
              object_reason four five e4 e5 =
                  alone
                  ∙ on_reason special (called (many + 1) m.target (areas_in program f)) false false
                  false false four five _ _ object_does
                  (calm (many + 1) m.target (areas_in program f))
                  (goes_on spot.stands spot.is_lost (many + 1) m.target (areas_in program f) ∙ e5)
                  there_on all_on holds_on e4 refl refl
                  ∙ ap (λ (b : Bool). listed false false b four five
                  (special && not callee.is_initializer) callee.is_static)
                  (hushed spot.is_roomless false)

              pub on_4 : is_short callee.target (many + 1) ≡ true → against ≡ Some 4
              on_4 short = object_reason true _ short refl

              module _ (long : is_short callee.target (many + 1) ≡ false) where
                pub on_5 : spot.stands ≡ false → against ≡ Some 5
                on_5 stands = object_reason false true long (ap not stands)

                pub on_later : spot.stands ≡ true → against ≡ later
                on_later stands =
                    object_reason false false long (ap not stands)
                    ∙ later_listed (special && not callee.is_initializer) callee.is_static

                pub on_came : spot.stands ≡ true → None ≡ later
                    → (done : Done) (new : List Frame) (lines : List ChannelInput)
                    → Invokes done callee.target classes (on special) spot None
                    (called (many + 1) (target_of (on special)) (areas_in program f))
                    program new lines
                    → Invokes done callee.target classes (on special) spot against
                    (effect classes (on special) (areas_in program f)) program new lines
                on_came stands none done new lines came =
                    rw (
                      on_later stands ∙ sym none,
                      object_does ∙ ap (λ (t : Named). called (many + 1) t (areas_in program f))
                          (sym (on_same special)),
                    ) came
