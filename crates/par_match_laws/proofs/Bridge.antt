-- The machine over a program is that of par_step_laws where the program is linked class files.
use Rattle.std.proofs.Common.{◌≡◌, ℕ, zero, suc, ◌+◌, Bool, List, [], ◌∷◌, Option, Some, None}
use Rattle.std.proofs.Common.{refl, ap, ◌∙◌}
use Rattle.par_instr.specs.Decoding.{Decoded, decoded_at}
use Rattle.par_step_laws.specs.par_class.declared.file.ClassFile.{ClassFile}
use Rattle.par_values.specs.declared.value.MVal.{MVal}
use Rattle.par_values.specs.declared.value.MVal.TheVariants.{Ref}
use Rattle.par_values.specs.Areas.{Areas, next_number, with_object}
use Rattle.par_values.specs.Reasons.{Spot, reason}
use Rattle.par_values.specs.Operations.{operation}
use Rattle.par_values.specs.Ran.{Ran}
use Rattle.par_step_laws.specs.Classes.{exception_named, class_names}
use Rattle.par_step_laws.specs.Links.{link_at}
use Rattle.par_step_laws.specs.Methods.{method_code}
use Rattle.par_step_laws.specs.par_link.Linked.{named_at}
use Rattle.par_values.specs.Effects.{Effect, Goes, Happens, Jumps, Calls, Throws, ThrowsObject}
use Rattle.par_values.specs.Effects.{Returns, ReturnsWith}
use Rattle.par_step_laws.specs.par_link.entry.Builtin.TheVariants as builtin
use Rattle.par_step_laws.specs.par_link.entry.Named.{Named}
use Rattle.par_step_laws.specs.par_link.entry.Named.TheVariants as named
use Rattle.par_step_laws.specs.State.{Frame, State}
use Rattle.par_step_laws.specs.Step.{Turn, Silent, Shows, Ends, IsBad}
use Rattle.par_step_laws.specs.Step as steps
use Rattle.par_step_laws.specs.Handlers as handling
use Rattle.par_step_laws.specs.Run as running
use Rattle.par_match_laws.specs.Engine.{Found, Program, caught, turn, run, applied, returned}
use Rattle.par_match_laws.specs.Engine.{returned_with, is_misreceived}
use Rattle.par_match_laws.specs.Engine as gen
use Rattle.par_match_laws.specs.Files.{of_files, is_of_exceptions, index_wants, found_in, found_of}

module _ (files : List ClassFile) where
  P : Program
  P = of_files files

  caught-same : (class : ℕ) (frames : List Frame)
      → handling.caught files class frames ≡ caught (of_files files) class frames
  unfolding handling.caught caught
  caught-same class [] = refl
  caught-same class (f ∷ frames) =
      ap (λ rest. handling.caught_by (handling.handler_in files class f) f frames rest)
      (caught-same class frames)

  past-same : (f : Frame) (d : Option Decoded)
      → steps.size_of d
      ≡ gen.size_found (Rattle.par_match_laws.specs.Files.found_of files f.class d)
  past-same f None = refl
  past-same f (Some d) = refl

  returned-same : (frames : List Frame) (s : State)
      → steps.returned files frames s ≡ returned (of_files files) frames s
  returned-same [] s = refl
  returned-same (f ∷ frames) s =
      ap (λ n. Silent (record s { frames = record f { at = f.at + n } ∷ frames }))
      (past-same f (decoded_at (Rattle.par_step_laws.specs.Methods.method_code files f.class
      f.method).code f.at))

  returned-with-same : (v : MVal) (frames : List Frame) (s : State)
      → steps.returned_with files v frames s ≡ returned_with (of_files files) v frames s
  returned-with-same v [] s = refl
  returned-with-same v (f ∷ frames) s =
      ap (λ n. Silent (record s {
        frames = record f { at = f.at + n; operands = v ∷ f.operands } ∷
            frames;
      }))
      (past-same f (decoded_at (Rattle.par_step_laws.specs.Methods.method_code files f.class
      f.method).code f.at))

  throws-same : (v : MVal) (class : Option ℕ) (frames : List Frame) (a : Areas)
      → steps.throws files v class frames a ≡ gen.throws (of_files files) v class frames a
  throws-same v None frames a = refl
  throws-same v (Some class) frames a =
      ap (λ fs. steps.thrown_to (gen.Program.names (of_files files)) v class fs a)
      (caught-same class frames)

  applied-same : (e : Effect) (size : ℕ) (f : Frame) (frames : List Frame) (s : State)
      → steps.applied files e size f frames s ≡ applied (of_files files) e size f frames s
  applied-same (Goes a) size f frames s = refl
  applied-same (Happens e a) size f frames s = refl
  applied-same (Jumps to a) size f frames s = refl
  applied-same (Calls c m n vs a) size f frames s = refl
  applied-same (Throws name) size f frames s =
      let c = exception_named files name in
      let a = steps.areas_of f s in
      throws-same (Ref c (next_number c a)) (Some c) (f ∷ frames) (with_object c [] a)
  applied-same (ThrowsObject v) size f frames s =
      throws-same v (steps.number_of_class v) (f ∷ frames) (steps.areas_of f s)
  applied-same Returns size f frames s = returned-same frames s
  applied-same (ReturnsWith v) size f frames s = returned-with-same v frames s

  or-same : (r : Option ℕ) (x : Bool) (a : Areas) (n : Named)
      → x ≡ is_of_exceptions n
      → steps.or_2 (steps.is_no_exception (Rattle.par_step_laws.specs.Classes.exceptions files) n
      (Rattle.par_values.specs.Areas.operand 0 a)) r
      ≡ steps.or_2 (is_misreceived (of_files files) x a) r
  or-same r x a (named.Initializer builtin.Exception) e = rw e refl
  or-same r x a (named.Initializer builtin.Object) e = rw e refl
  or-same r x a (named.Initializer builtin.ArithmeticException) e = rw e refl
  or-same r x a (named.Initializer builtin.NullPointerException) e = rw e refl
  or-same r x a (named.Initializer builtin.Locks) e = rw e refl
  or-same r x a (named.Class c) e = rw e refl
  or-same r x a (named.Builtin b) e = rw e refl
  or-same r x a (named.Field d) e = rw e refl
  or-same r x a (named.Method d) e = rw e refl
  or-same r x a (named.Lock n) e = rw e refl
  or-same r x a named.Nothing e = rw e refl

  handlers-same : (class : Option ℕ) (frames : List Frame)
      → steps.handlers files class frames ≡ gen.handlers (of_files files) class frames
  handlers-same None frames = refl
  handlers-same (Some class) frames = caught-same class frames

  spot-same : (f : Frame) (frames : List Frame) (size : ℕ) (done : Effect)
      → steps.spot files f frames size done ≡ gen.spot (of_files files) f frames size done
  spot-same f frames size done =
      ap (λ (left : List Frame). record (gen.spot (of_files files) f frames size done) {
        is_lost = handling.is_lost files left;
        is_roomless = handling.is_roomless files left;
      }) (handlers-same (steps.thrown_class files done) (f ∷ frames))

  misreceived-same : (class : ℕ) (index : Option ℕ) (a : Areas) (r : Option ℕ)
      → steps.or_2 (steps.is_misreceived files class index a) r
      ≡ steps.or_2 (is_misreceived (of_files files) (index_wants files class index) a) r
  misreceived-same class None a r = refl
  misreceived-same class (Some index) a r = or-same r _ a (named_at files class index) refl

  reason-same : (d : Decoded) (f : Frame) (frames : List Frame) (a : Areas)
      → steps.reason_against files d f frames a
      ≡ gen.reason_against (of_files files) (found_in files f.class d) f frames a
  reason-same d f frames a =
      let done = steps.done_by files f.class d.instr a in
      let o = operation (link_at files f.class) d.instr in
      ap (λ (x : Spot). steps.or_2 (steps.is_misreceived files f.class (steps.called_on_object
      d.instr) a) (reason (class_names files) x o a)) (spot-same f frames d.size done)
      ∙ misreceived-same f.class (steps.called_on_object d.instr) a _

  decided-same : (r : Option ℕ) (d : Decoded) (f : Frame) (frames : List Frame) (s : State)
      → steps.decided files r d f frames s ≡ gen.decided (of_files files) r (found_in files f.class
      d) f frames s
  decided-same (Some r) d f frames s = refl
  decided-same None d f frames s = applied-same _ d.size f frames s

  turn-at-same : (d : Option Decoded) (f : Frame) (frames : List Frame) (s : State)
      → steps.turn_at files d f frames s ≡ gen.turn_at (of_files files)
      (found_of files f.class d) f frames s
  turn-at-same None f frames s = refl
  turn-at-same (Some d) f frames s =
      ap (λ r. steps.decided files r d f frames s) (reason-same d f frames (steps.areas_of f s))
      ∙ decided-same _ d f frames s

  turn-of-same : (frames : List Frame) (s : State)
      → steps.turn_of files frames s ≡ gen.turn_of (of_files files) frames s
  turn-of-same [] s = refl
  turn-of-same (f ∷ frames) s =
      turn-at-same (decoded_at (method_code files f.class f.method).code f.at) f frames s

  pub turn-same : (s : State) → steps.turn files s ≡ turn (of_files files) s
  unfolding steps.turn turn
  turn-same s = turn-of-same s.frames s

  followed-same : (t : Turn) (one other : State → Ran) → ((s : State) → one s ≡ other s)
      → running.followed t one ≡ running.followed t other
  followed-same (Silent s) one other h = h s
  followed-same (Shows e s) one other h = ap (Rattle.par_values.specs.Ran.with_event e) (h s)
  followed-same (Ends e) one other h = refl
  followed-same (IsBad c m o r) one other h = refl

  -- the runs are the same
  pub run-same : (m : ℕ) (s : State) → running.run files m s ≡ run (of_files files) m s
  run-same zero s = refl
  run-same (suc m) s =
      ap (λ t. running.followed t (running.run files m)) (turn-same s)
      ∙ followed-same (turn (of_files files) s) _ _ (run-same m)
