-- Control comes behind a typed statement exactly where it comes behind that of the source.
use Rattle.std.proofs.Common.{◌≡◌, ℕ, ◌+◌, Bool, true, false, not, ◌||◌, Option, Some, None, refl}
use Rattle.std.proofs.Common.{ap, ◌∙◌}
use Rattle.par_program_laws.specs.par_tree.Plain.{Exp, Int, True, False, Null, This, New, Name}
use Rattle.par_program_laws.specs.par_tree.Plain.{Field}
use Rattle.par_program_laws.specs.par_tree.Plain.{Call, Neg}
use Rattle.par_program_laws.specs.par_tree.Plain.{Not, Binary}
use Rattle.par_program_laws.specs.par_tree.Plain.{Sta, Block, If, While, Try, Return, Break}
use Rattle.par_program_laws.specs.par_tree.Plain.{Continue}
use Rattle.par_program_laws.specs.par_tree.Plain.{Throw, Open}
use Rattle.par_program_laws.specs.par_tree.Plain.{Close}
use Rattle.par_program_laws.specs.par_tree.Plain.{Declare, Assign, Do, When, Braces, In, MayBraces}
use Rattle.par_program_laws.specs.par_tree.Plain.{NoBraces}
use Rattle.par_program_laws.specs.par_tree.Plain.{Else, NoElse, Otherwise, Stas, End, Then, Catches}
use Rattle.par_program_laws.specs.par_tree.Plain.{NoCatch, Catch}
use Rattle.par_program_laws.specs.par_tree.Plain.{On}
use Rattle.par_program_laws.specs.par_tree.Plain as plain
use Rattle.par_program_laws.specs.par_typed.declared.table.ChannelInfo.{ChannelInfo}
use Rattle.par_program_laws.specs.par_typed.Plain.{Mark, TExp, MayTExp, TExps}
use Rattle.par_program_laws.specs.par_typed.Nodes.{may_nodes}
use Rattle.par_program_laws.specs.par_completes.Completes.{is_true, breaks, braces_break}
use Rattle.par_program_laws.specs.par_completes.Completes.{may_braces_break}
use Rattle.par_program_laws.specs.par_completes.Completes.{else_breaks, some_break}
use Rattle.par_program_laws.specs.par_completes.Completes.{some_catch_breaks}
use Rattle.par_program_laws.specs.par_completes.Completes.{completes, braces_complete}
use Rattle.par_program_laws.specs.par_completes.Completes.{may_braces_complete}
use Rattle.par_program_laws.specs.par_completes.Completes.{else_completes, last_completes}
use Rattle.par_program_laws.specs.par_completes.Completes.{some_catch_completes}
use Rattle.par_program_laws.specs.par_completes.Typed as ends
use Rattle.par_type_rules.specs.par_scope.declared.members.Place.{Place}
use Rattle.par_type_rules.specs.par_scope.declared.meaning.Receiver.{Receiver}
use Rattle.par_type_rules.specs.par_scope.declared.meaning.Receiver.TheVariants as on
use Rattle.par_type_rules.specs.par_scope.declared.meaning.Callee.{Callee}
use Rattle.par_type_rules.specs.par_scope.declared.meaning.Callee.TheVariants as callee
use Rattle.par_type_rules.specs.par_scope.Home.{Home}
use Rattle.par_type_rules.specs.par_scope.Members.{field_at, channel_at, field_is_static}
use Rattle.par_type_rules.specs.par_scope.Meaning.{type_of, called_on, receiver_of, selected}
use Rattle.par_type_rules.specs.par_scope.Meaning.{called}
use Rattle.par_type_rules.specs.par_scope.Meaning.{sure}
use Rattle.par_type_rules.specs.Frames.{Frame, Var, var_named, further}
use Rattle.par_type_rules.specs.TypedExprs.{own_this, own_field, name_typed, negation, number_of}
use Rattle.par_type_rules.specs.TypedExprs.{selection, callee_on, by_way, through, call, typed_exp}
use Rattle.par_type_rules.specs.TypedExprs.{typed_may, typed_args, mark_of}
use Rattle.par_type_rules.specs.TypedStmts.{Written, Target, Nowhere, ToLocal, ToStatic, ToField}
use Rattle.par_type_rules.specs.TypedStmts.{target}
use Rattle.par_type_rules.specs.TypedStmts.{assignment, behind}
use Rattle.par_type_rules.specs.par_scope.Own.{braces_locals, handler_locals}
use Rattle.par_type_rules.specs.TypedStmts.{typed_sta, typed_braces, typed_may_braces, typed_else}
use Rattle.par_type_rules.specs.TypedStmts.{typed_stas, typed_catches}

-- ---- the literal `true`

true-name : (home : Home) (x : Option Var) (f : Option Place) (at p : ℕ) (k : Mark)
    → ends.is_true (name_typed home x f at p k) ≡ false
unfolding ends.is_true
true-name home (Some x) f at p k = refl
true-name home None None at p k = refl
true-name home None (Some f) at p k = by (field_is_static (field_at home.table f)) where
  by : (b : Bool) → ends.is_true (own_field b home f at p k) ≡ false
  by true = refl
  by false = refl

true-negation : (o : Option ℕ) (e : TExp) (k : Mark) → ends.is_true (negation o e k) ≡ false
unfolding ends.is_true
true-negation None e k = refl
true-negation (Some n) e k = refl

true-selection : (r : Receiver) (f : Option Place) (e : TExp) (k : Mark)
    → ends.is_true (selection r f e k) ≡ false
unfolding ends.is_true
true-selection r None e k = refl
true-selection on.Own (Some f) e k = refl
true-selection (on.Class c) (Some f) e k = refl
true-selection (on.Object t) (Some f) e k = refl

true-call : (home : Home) (c : Callee) (o : MayTExp) (es : TExps) (k : Mark)
    → ends.is_true (call home c o es k) ≡ false
unfolding ends.is_true
true-call home callee.Unknown o es k = refl
true-call home (callee.Method p) o es k = refl
true-call home (callee.Channel p) o es k = through_by (channel_at home.table p) where
  way_by : (b : Bool) → ends.is_true (by_way b p es k) ≡ false
  way_by true = refl
  way_by false = refl

  through_by : (c : Option ChannelInfo) → ends.is_true (through c p es k) ≡ false
  through_by None = refl
  through_by (Some c) = way_by c.is_input

true-typed : (home : Home) (frame : Frame) (p : ℕ) (e : Exp)
    → ends.is_true (typed_exp home frame p e) ≡ is_true e
unfolding ends.is_true is_true typed_exp
true-typed home frame p (Int n at) = refl
true-typed home frame p (True at) = refl
true-typed home frame p (False at) = refl
true-typed home frame p (Null at) = refl
true-typed home frame p (This at) = refl
true-typed home frame p (New class at) = refl
true-typed home frame p (Name x at) =
    true-name home (var_named frame x) (selected home on.Own x) at p
    (mark_of at p (type_of home frame.scope (Name x at)) (sure frame.scope (Name x at)))
true-typed home frame p (Field e f at) =
    true-selection (receiver_of home frame.scope e (type_of home frame.scope e))
    (selected home (receiver_of home frame.scope e (type_of home frame.scope e)) f.name)
    (typed_exp home frame (p + 1) e) (mark_of at p (type_of home frame.scope (Field e f at)) false)
true-typed home frame p (Call o x es at) =
    true-call home (called home (called_on home frame.scope o) x.name)
    (callee_on home (called_on home frame.scope o) (called home (called_on home frame.scope o)
    x.name)
    (typed_may home frame (p + 1) o) (own_this home at (p + 1)))
    (typed_args home frame
    (p + 1 + may_nodes (callee_on home (called_on home frame.scope o)
    (called home (called_on home frame.scope o) x.name)
    (typed_may home frame (p + 1) o) (own_this home at (p + 1)))) es)
    (mark_of at p (type_of home frame.scope (Call o x es at)) false)
true-typed home frame p (Neg e at) =
    true-negation (number_of e) (typed_exp home frame (p + 1) e) _
true-typed home frame p (Not e at) = refl
true-typed home frame p (Binary op a b at) = refl

-- ---- either of two

either : (a b c d : Bool) → a ≡ b → c ≡ d → (a || c) ≡ (b || d)
either a b c d h k = ap (λ x. x || c) h ∙ ap (λ x. b || x) k

module _ (w : Written) (home : Home) where
  -- ---- breaks

  assignment_breaks : (x : Target) (e : TExp) (at p : ℕ) → ends.breaks (assignment x e at p) ≡ false
  unfolding ends.breaks
  assignment_breaks Nowhere e at p = refl
  assignment_breaks (ToLocal x) e at p = refl
  assignment_breaks (ToStatic f) e at p = refl
  assignment_breaks (ToField o f) e at p = refl

  mutual
    unfolding ends.breaks breaks typed_sta

    sta_breaks : (frame : Frame) (p : ℕ) (s : Sta)
        → ends.breaks (typed_sta w home frame p s) ≡ breaks s
    sta_breaks frame p (Block b at) = braces_breaks frame p b
    sta_breaks frame p (If e b o at) =
        either _ (braces_break b) _ (else_breaks o) (braces_breaks frame _ b)
        (other_breaks (further frame (braces_locals b)) _ o)
    sta_breaks frame p (While e b at) = refl
    sta_breaks frame p (Try b cs at) =
        either _ (braces_break b) _ (some_catch_breaks cs) (braces_breaks frame _ b)
        (catches_break (further frame (braces_locals b)) _ cs)
    sta_breaks frame p (Return e at) = refl
    sta_breaks frame p (Break at) = refl
    sta_breaks frame p (Continue at) = refl
    sta_breaks frame p (Throw class at) = refl
    sta_breaks frame p (Open lock at) = refl
    sta_breaks frame p (Close lock at) = refl
    sta_breaks frame p (Declare local at) = refl
    sta_breaks frame p (Assign e value at) = assignment_breaks (target home frame (p + 1) e) _ at p
    sta_breaks frame p (Do call at) = refl
    sta_breaks frame p (When lock b o at) =
        either _ (braces_break b) _ (may_braces_break o) (braces_breaks frame _ b)
        (may_breaks (further frame (braces_locals b)) _ o)

    braces_breaks : (frame : Frame) (p : ℕ) (b : Braces)
        → ends.breaks (typed_braces w home frame p b) ≡ braces_break b
    braces_breaks frame p (In ss at) = all_break frame (p + 1) ss

    may_breaks : (frame : Frame) (p : ℕ) (b : MayBraces)
        → ends.else_breaks (typed_may_braces w home frame p b) ≡ may_braces_break b
    may_breaks frame p NoBraces = refl
    may_breaks frame p (plain.Some b) = braces_breaks frame p b

    other_breaks : (frame : Frame) (p : ℕ) (o : Else)
        → ends.else_breaks (typed_else w home frame p o) ≡ else_breaks o
    other_breaks frame p NoElse = refl
    other_breaks frame p (Otherwise s) = sta_breaks frame p s

    all_break : (frame : Frame) (p : ℕ) (ss : Stas)
        → ends.some_break (typed_stas w home frame p ss) ≡ some_break ss
    all_break frame p End = refl
    all_break frame p (Then s ss) =
        either _ (breaks s) _ (some_break ss) (sta_breaks frame p s)
        (all_break (behind w home s frame) _ ss)

    catches_break : (frame : Frame) (p : ℕ) (cs : Catches)
        → ends.some_catch_breaks (typed_catches w home frame p cs) ≡ some_catch_breaks cs
    catches_break frame p NoCatch = refl
    catches_break frame p (Catch (On id name b) cs) =
        either _ (braces_break b) _ (some_catch_breaks cs) (braces_breaks frame p b)
        (catches_break (further frame (handler_locals (On id name b))) _ cs)

  -- ---- completion

  assignment_completes : (x : Target) (e : TExp) (at p : ℕ)
      → ends.completes (assignment x e at p) ≡ true
  unfolding ends.completes
  assignment_completes Nowhere e at p = refl
  assignment_completes (ToLocal x) e at p = refl
  assignment_completes (ToStatic f) e at p = refl
  assignment_completes (ToField o f) e at p = refl

  mutual
    unfolding ends.completes completes typed_sta

    pub sta_completes : (frame : Frame) (p : ℕ) (s : Sta)
        → ends.completes (typed_sta w home frame p s) ≡ completes s
    sta_completes frame p (Block b at) = braces_completes frame p b
    sta_completes frame p (If e b o at) =
        either _ (braces_complete b) _ (else_completes o) (braces_completes frame _ b)
        (other_completes (further frame (braces_locals b)) _ o)
    sta_completes frame p (While e b at) =
        either _ (not (is_true e)) _ (braces_break b) (ap not (true-typed home frame (p + 1) e))
        (braces_breaks frame _ b)
    sta_completes frame p (Try b cs at) =
        either _ (braces_complete b) _ (some_catch_completes cs) (braces_completes frame _ b)
        (catches_complete (further frame (braces_locals b)) _ cs)
    sta_completes frame p (Return e at) = refl
    sta_completes frame p (Break at) = refl
    sta_completes frame p (Continue at) = refl
    sta_completes frame p (Throw class at) = refl
    sta_completes frame p (Open lock at) = refl
    sta_completes frame p (Close lock at) = refl
    sta_completes frame p (Declare local at) = refl
    sta_completes frame p (Assign e value at) =
        assignment_completes (target home frame (p + 1) e) _ at p
    sta_completes frame p (Do call at) = refl
    sta_completes frame p (When lock b o at) =
        either _ (braces_complete b) _ (may_braces_complete o) (braces_completes frame _ b)
        (may_complete (further frame (braces_locals b)) _ o)

    pub braces_completes : (frame : Frame) (p : ℕ) (b : Braces)
        → ends.completes (typed_braces w home frame p b) ≡ braces_complete b
    braces_completes frame p (In ss at) = last_is frame (p + 1) true ss

    may_complete : (frame : Frame) (p : ℕ) (b : MayBraces)
        → ends.else_completes (typed_may_braces w home frame p b) ≡ may_braces_complete b
    may_complete frame p NoBraces = refl
    may_complete frame p (plain.Some b) = braces_completes frame p b

    other_completes : (frame : Frame) (p : ℕ) (o : Else)
        → ends.else_completes (typed_else w home frame p o) ≡ else_completes o
    other_completes frame p NoElse = refl
    other_completes frame p (Otherwise s) = sta_completes frame p s

    last_is : (frame : Frame) (p : ℕ) (before : Bool) (ss : Stas)
        → ends.last_completes before (typed_stas w home frame p ss) ≡ last_completes before ss
    last_is frame p before End = refl
    last_is frame p before (Then s ss) =
        last_is (behind w home s frame) _ (ends.completes (typed_sta w home frame p s)) ss
        ∙ ap (λ b. last_completes b ss) (sta_completes frame p s)

    catches_complete : (frame : Frame) (p : ℕ) (cs : Catches)
        → ends.some_catch_completes (typed_catches w home frame p cs) ≡ some_catch_completes cs
    catches_complete frame p NoCatch = refl
    catches_complete frame p (Catch (On id name b) cs) =
        either _ (braces_complete b) _ (some_catch_completes cs) (braces_completes frame p b)
        (catches_complete (further frame (handler_locals (On id name b))) _ cs)
