-- What is left of a typed program without policies, places, points and the locks that no `when`
-- asks for.
use Rattle.std.specs.Prelude.{ℕ, ◌+◌, Bool, true, false, not, if◌then◌else◌, List, [], ◌∷◌, ◌++◌}
use Rattle.std.specs.Prelude.{None, map, length, take, drop, slice_get, count_by}
use Rattle.par_typed.specs.declared.table.ChannelInfo.{ChannelInfo}
use Rattle.par_typed.specs.declared.table.ClassInfo.{ClassInfo}
use Rattle.par_typed.specs.declared.table.FieldInfo.{FieldInfo}
use Rattle.par_typed.specs.declared.table.MethodInfo.{MethodInfo}
use Rattle.par_typed.specs.declared.table.ParamInfo.{ParamInfo}
use Rattle.par_typed.specs.declared.table.Table.{Table}
use Rattle.par_typed.specs.Members.{channels_in as channels_of}
use Rattle.par_typed.specs.Plain.{Mark, TExp, Int, Boolean, Null, This, New, Local, Static, Field}
use Rattle.par_typed.specs.Plain.{Input, Output, Call, Neg, Not, Binary}
use Rattle.par_typed.specs.Plain.{MayTExp, Absent, Present, TExps, NoExps, More}
use Rattle.par_typed.specs.Plain.{TSta, Block, If, While, Try, Return, Break, Continue, Throw, Open}
use Rattle.par_typed.specs.Plain.{Close, SetLocal, SetStatic, SetField, Eval, When}
use Rattle.par_typed.specs.Plain.{MayTSta, NoElse, Otherwise, TStas, End, Then, TCatches, NoCatch}
use Rattle.par_typed.specs.Plain.{Catch, Body}
use Rattle.par_erase.specs.Asked.{Locks, asked_in}
use Rattle.par_erase.specs.Shown.{Name, marked, channel_info, param_info, lock_set, numbered}

abbrev pub erased_field : FieldInfo → FieldInfo
erased_field f =
    record { name = f.name; is_static = f.is_static; ty = f.ty; policy = 0; inferred = false }

abbrev pub erased_param : ParamInfo → ParamInfo
erased_param p = param_info p.ty

-- the names of the channels that go into a class, or of those that go out of it
abbrev pub inputs_among : List ChannelInfo → List Name
inputs_among [] = []
inputs_among (c ∷ cs) = if c.is_input then c.name ∷ inputs_among cs else inputs_among cs

abbrev pub outputs_among : List ChannelInfo → List Name
outputs_among [] = []
outputs_among (c ∷ cs) = if c.is_input then outputs_among cs else c.name ∷ outputs_among cs

abbrev pub erased_channels : List ChannelInfo → List ChannelInfo
erased_channels cs =
    map (channel_info true) (inputs_among cs) ++ map (channel_info false) (outputs_among cs)

abbrev pub erased_method : MethodInfo → MethodInfo
erased_method m = record {
  name = m.name;
  at = 0;
  nodes = 0;
  is_static = m.is_static;
  result = m.result;
  policy = 0;
  params = map erased_param m.params;
  locals = m.locals;
  effect = 0;
  expects = [];
  opens = [];
  closes = [];
  throws = [];
}

abbrev pub erased_class : ClassInfo → ClassInfo
erased_class c = record {
  name = c.name;
  at = 0;
  exception = c.exception;
  birth = 0;
  fields = map erased_field c.fields;
  channels = erased_channels c.channels;
  methods = map erased_method c.methods;
}

-- the table, with the same classes, members and types under their names and in their order
abbrev pub erased_table : Table → Table
erased_table t = record {
  actors = [];
  locks = [];
  policies = [];
  classes = map erased_class t.classes;
  main = t.main;
}

abbrev pub nothing : TSta
nothing = Block End 0 0

-- a lock is opened or closed where some `when` asks for it
abbrev pub set_if : Bool → ℕ → Bool → TSta
set_if true lock opens = lock_set lock opens
set_if false lock opens = nothing

module _ (table : Table) where
  abbrev pub channels_in : ℕ → List ChannelInfo
  channels_in c = channels_of (slice_get table.classes c)

  -- how many inputs a class has
  abbrev pub inputs_in : ℕ → ℕ
  inputs_in c = count_by (λ channel. channel.is_input) (channels_in c)

  -- the place of an input among those of its class, and that of an output
  abbrev pub input_place : (class channel : ℕ) → ℕ
  input_place c k = count_by (λ channel. channel.is_input) (take k (channels_in c))

  abbrev pub output_place : (class channel : ℕ) → ℕ
  output_place c k = count_by (λ channel. not channel.is_input) (take k (channels_in c))

  abbrev pub same_type : Mark → Mark
  same_type m = marked m.ty

  unfoldable mutual
    pub erased_exp : TExp → TExp
    erased_exp (Int n m) = Int n (same_type m)
    erased_exp (Boolean b m) = Boolean b (same_type m)
    erased_exp (Null m) = Null (same_type m)
    erased_exp (This m) = This (same_type m)
    erased_exp (New c m) = New c (same_type m)
    erased_exp (Local x m) = Local x (same_type m)
    erased_exp (Static c f m) = Static c f (same_type m)
    erased_exp (Field e c f m) = Field (erased_exp e) c f (same_type m)
    erased_exp (Input c k m) = Input c (input_place c k) (same_type m)
    erased_exp (Output c k e m) =
        Output c (inputs_in c + output_place c k) (erased_exp e) (same_type m)
    erased_exp (Call c k o es m) = Call c k (erased_may o) (erased_args es) (same_type m)
    erased_exp (Neg e m) = Neg (erased_exp e) (same_type m)
    erased_exp (Not e m) = Not (erased_exp e) (same_type m)
    erased_exp (Binary op a b m) = Binary op (erased_exp a) (erased_exp b) (same_type m)

    pub erased_may : MayTExp → MayTExp
    erased_may Absent = Absent
    erased_may (Present e) = Present (erased_exp e)

    pub erased_args : TExps → TExps
    erased_args NoExps = NoExps
    erased_args (More e es) = More (erased_exp e) (erased_args es)

  -- The statements of a program with these locks that some `when` asks for.
  module _ (asked : Locks) where
    unfoldable mutual
      pub erased_sta : TSta → TSta
      erased_sta (Block ss at p) = Block (erased_all ss) 0 0
      erased_sta (If e s o at p) = If (erased_exp e) (erased_sta s) (erased_else o) 0 0
      erased_sta (While e s at p) = While (erased_exp e) (erased_sta s) 0 0
      erased_sta (Try s cs at p) = Try (erased_sta s) (erased_catches cs) 0 0
      erased_sta (Return o at p) = Return (erased_may o) 0 0
      erased_sta (Break at p) = Break 0 0
      erased_sta (Continue at p) = Continue 0 0
      erased_sta (Throw c at p) = Throw c 0 0
      erased_sta (Open l at p) = set_if (asked l) l true
      erased_sta (Close l at p) = set_if (asked l) l false
      erased_sta (SetLocal x q e at p) = SetLocal x None (erased_exp e) 0 0
      erased_sta (SetStatic c f e at p) = SetStatic c f (erased_exp e) 0 0
      erased_sta (SetField o c f e at p) = SetField (erased_exp o) c f (erased_exp e) 0 0
      erased_sta (Eval e at p) = Eval (erased_exp e) 0 0
      erased_sta (When l s o at p) = When l (erased_sta s) (erased_else o) 0 0

      pub erased_else : MayTSta → MayTSta
      erased_else NoElse = NoElse
      erased_else (Otherwise s) = Otherwise (erased_sta s)

      pub erased_all : TStas → TStas
      erased_all End = End
      erased_all (Then s ss) = Then (erased_sta s) (erased_all ss)

      pub erased_catches : TCatches → TCatches
      erased_catches NoCatch = NoCatch
      erased_catches (Catch c s cs) = Catch c (erased_sta s) (erased_catches cs)

    -- The bodies go to the methods in their order; a method for which none is left does nothing.
    abbrev pub first_body : List Body → TSta
    first_body [] = nothing
    first_body (b ∷ bs) = erased_sta b.body

    abbrev pub handed : List MethodInfo → List Body → List TSta
    handed [] bs = []
    handed (m ∷ ms) bs = first_body bs ∷ handed ms (drop 1 bs)

    abbrev pub classes_bodies : ℕ → List ClassInfo → List Body → List Body
    classes_bodies c [] bs = []
    classes_bodies c (k ∷ ks) bs =
        numbered c 0 (handed k.methods bs)
        ++ classes_bodies (c + 1) ks (drop (length k.methods) bs)

-- the bodies of an erased program
abbrev pub erased_bodies : Table → List Body → List Body
erased_bodies t bs = classes_bodies t (asked_in bs) 0 t.classes bs
