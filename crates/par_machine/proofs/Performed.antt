-- What an instruction has done, from what its action tells.
use Rattle.std.proofs.Common.{◌≡◌, ℕ, ◌+◌, ◌<◌, ◌≤◌, Bool, true, false, List, [], ◌∷◌, length, None}
use Rattle.std.proofs.Common.{IsTrue, refl, sym, ap, subst, ◌∙◌, inr, arith}
use Rattle.par_class.specs.declared.file.ClassFile.{ClassFile}
use Rattle.par_stack.specs.declared.point.Point.{Point}
use Rattle.par_stack.specs.Frames as stack
use Rattle.par_stack.specs.Frames.{running, waiting}
use Rattle.par_method_area.specs.par_actions.declared.done.Done.{Done}
use Rattle.par_method_area.specs.par_actions.declared.done.Done.TheVariants as done
use Rattle.par_method_area.specs.par_actions.Done.{Comes, Keeps, is_still}
use Rattle.par_method_area.specs.Area.{Area}
use Rattle.par_machine.specs.Frames.{code_of, gives, are_sound, Stands}
use Rattle.par_machine.specs.Running.{here, IsSound}
use Rattle.par_machine.specs.Site.{IsThere, IsCome, CameTo, IsKnown, IsPerformed}
use Rattle.par_machine.specs.declared.run.Running.{Running}
use Rattle.par_machine.specs.declared.site.Site.{Site}
use Rattle.par_instr.specs.declared.instr.Instr.{Instr}
use Rattle.par_values.specs.declared.kind.Kind.{Kind}
use Rattle.par_values.specs.Operations.{Operation, Misnamed}
use Rattle.par_values.specs.Effects.{effect}
use Rattle.par_method_area.specs.par_step_laws.Classes.{class_names}
use Rattle.par_method_area.specs.par_step_laws.Links.{link_at}
use Rattle.par_method_area.specs.par_step_laws.Step.{is_misreceived, called_on_object}
use Rattle.par_machine.specs.Site.{areas_at, operation_at, does, spot_of}
use Rattle.par_machine.proofs.Coming.{came}
use Rattle.par_machine.proofs.Effected.{effect_of}
use Rattle.par_machine.proofs.Knowing.{is_write, known}
use Rattle.par_machine.proofs.Sound.{changed}
use Rattle.par_machine.proofs.Standing.{may_put, not_put, no_lock}

-- a frame that stands where another stood, with its room
stands_still : (files : List ClassFile) (f g : stack.Frame) → Stands files f → g.point ≡ f.point
    → length g.operands + g.free ≡ length f.operands + f.free → Stands files g
stands_still files f g s same room = record {
  class = subst (λ (p : Point). p.class < length files) (sym same) s.class;
  within = subst (λ (p : Point). p.at ≤ length (code_of files p).code) (sym same) s.within;
  room = room ∙ s.room ∙ ap (λ (p : Point). (code_of files p).max_stack) (sym same);
}

-- frames stay sound where the first keeps its point and its room
pub kept_sound : (files : List ClassFile) (old new : List stack.Frame) → are_sound files old ≡ true
    → Stands files (running old) → Keeps old new
    → are_sound files new ≡ true
unfolding are_sound
kept_sound files old [] sound stands kept = refl
kept_sound files old (g ∷ gs) sound stands kept =
    subst (λ fs. are_sound files (g ∷ fs) ≡ true) (sym kept.waiting)
    (changed files old g sound (stands_still files (running old) g stands kept.point kept.room)
    (ap (gives files) kept.point))

-- it came to no call
pub came_to : (files : List ClassFile) (old : Running) (s : Site) (done : Done) (new : Running)
    → IsCome files old s done new → CameTo files old s done new
came_to files old s done.Calls new come = absurd come.is
came_to files old s done.Goes new come = come
came_to files old s done.Jumps new come = come
came_to files old s done.ThrowsArithmetic new come = come
came_to files old s (done.ThrowsNull later) new come = come
came_to files old s (done.Throws v later) new come = come
came_to files old s (done.Sets v) new come = come
came_to files old s (done.Puts n v) new come = come
came_to files old s (done.Born n) new come = come
came_to files old s (done.Outs n) new come = come
came_to files old s done.Returns new come = come
came_to files old s (done.ReturnsWith v) new come = come
came_to files old s (done.Bad n) new come = come

-- what changes the frame that runs, and nothing else
pub frame_performed : (area : Area) (old : Running) (s : Site) (ahead : Bool) (d : Done)
    (frames : List stack.Frame)
    → IsSound area old → IsThere area.files old s ahead
    → IsCome area.files old s d (record old { stack = frames })
    → Keeps old.stack frames → IsKnown area.files s d
    → IsPerformed area old s d (record old { stack = frames })
frame_performed area old s ahead d frames sound there come kept known = record {
  came = came_to area.files old s d (record old { stack = frames }) come;
  stays = inr (kept.point ∙ there.point);
  known = known;
  sound = record {
    frames = kept_sound area.files old.stack frames sound.frames there.stands kept;
    objects = sound.objects;
    lines = sound.lines;
  };
  grown = λ class. omega arith;
  still = λ is. refl;
}

-- what an action on the frame that runs has done, where the operation is this one
pub performs : (area : Area) (old : Running) (s : Site) (ahead : Bool) (d : Done)
    (frames : List stack.Frame) (i : Instr) (o : Operation)
    → IsSound area old → IsThere area.files old s ahead → s.instr ≡ i → may_put i ≡ false
    → called_on_object i ≡ None
    → operation_at area.files old s ≡ o → is_write o ≡ false
    → Comes d (class_names area.files) (spot_of area.files old s) o (areas_at area.files old)
    old.stack frames
    → Keeps old.stack frames → (IsTrue (is_still d) → frames ≡ old.stack)
    → IsPerformed area old s d (record old { stack = frames })
performs area old s ahead d frames i o sound there instr_is plain uncalled o_is other comes kept
    still =
    let put : may_put s.instr ≡ false = ap may_put instr_is ∙ plain in
    let received : is_misreceived area.files (here old).class (called_on_object s.instr)
    (areas_at area.files old) ≡ false =
    ap (λ i. is_misreceived area.files (here old).class (called_on_object i)
    (areas_at area.files old)) instr_is
    ∙ ap (λ n. is_misreceived area.files (here old).class n (areas_at area.files old)) uncalled in
    let come =
    came area.files old s d frames there.point put received
    (subst (λ o. Comes d (class_names area.files) (spot_of area.files old s) o
    (areas_at area.files old) old.stack frames) (sym o_is) comes) kept still in
    let plainly : does area.files old s ≡ effect (class_names area.files)
    (operation_at area.files old s) (areas_at area.files old) =
    no_lock (operation_at area.files old s) _ (not_put (link_at area.files (here old).class) s.instr
    put)
    (effect_of (class_names area.files) (operation_at area.files old s)
    (areas_at area.files old)) in
    frame_performed area old s ahead d frames sound there come kept
    (known area.files old s d (record old { stack = frames }) come plainly
    (ap is_write o_is ∙ other))

-- the same, where nothing is changed since its index is of another kind
pub missed : (area : Area) (old : Running) (s : Site) (ahead : Bool) (d : Done) (i : Instr)
    (kinds : List Kind) (k : ℕ)
    → IsSound area old → IsThere area.files old s ahead → s.instr ≡ i → may_put i ≡ false
    → called_on_object i ≡ None
    → operation_at area.files old s ≡ Misnamed kinds k
    → Comes d (class_names area.files) (spot_of area.files old s) (Misnamed kinds k)
    (areas_at area.files old) old.stack old.stack
    → IsPerformed area old s d old
missed area old s ahead d i kinds k sound there instr_is plain uncalled o_is comes =
    performs area old s ahead d old.stack i (Misnamed kinds k) sound there instr_is plain uncalled
    o_is refl comes
    (record { point = refl; room = refl; waiting = refl }) (λ still. refl)
