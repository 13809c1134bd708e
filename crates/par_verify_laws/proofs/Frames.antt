-- Where an exception goes, frames fit.
use Rattle.std.proofs.Common.{◌≡◌, ℕ, zero, suc, ◌+◌, ◌≤◌, ◌==◌, Bool, true, false, not, ◌&&◌, ◌||◌}
use Rattle.std.proofs.Common.{cond, List, [], ◌∷◌, length, Some, None, Option, refl, sym, ap, subst}
use Rattle.std.proofs.Common.{◌∙◌, arith, codes, ◌++◌}
use Rattle.std.proofs.lemmas.List.{length-map}
use Rattle.std.specs.List.{slice_get}
use Rattle.std.proofs.lemmas.Slice.Eq.{bytes_eq-Decides}
use Rattle.std.proofs.lemmas.Bool.{eqb-true, ne_eqb}
use Rattle.par_class.specs.declared.file.Catch.{Catch}
use Rattle.par_class.specs.declared.file.ClassFile.{ClassFile}
use Rattle.par_values.specs.declared.value.MVal.{MVal}
use Rattle.par_values.specs.declared.value.MVal.TheVariants.{Ref}
use Rattle.par_values.specs.declared.kind.Kind.{Kind}
use Rattle.par_values.specs.Areas.{Objects, class_named, name_or_none}
use Rattle.par_values.specs.Reasons.{is_of}
use Rattle.par_single.specs.Members.{own_names, own_name}
use Rattle.par_kinds.specs.par_link.entry.Builtin.{Builtin}
use Rattle.par_kinds.specs.par_link.entry.Builtin.TheVariants as builtin
use Rattle.par_kinds.specs.par_link.entry.Named.{Named}
use Rattle.par_kinds.specs.par_link.entry.Named.TheVariants as named
use Rattle.par_kinds.specs.par_link.Linked.{named_at}
use Rattle.par_kinds.specs.par_step_laws.Classes.{class_names, exceptions, arithmetic_exception}
use Rattle.par_kinds.specs.par_step_laws.Classes.{null_pointer_exception}
use Rattle.par_kinds.specs.par_step_laws.Methods.{method_code}
use Rattle.par_kinds.specs.par_step_laws.State.{Frame}
use Rattle.par_kinds.specs.par_step_laws.Handlers.{caught, caught_by, handler_in, first_handler}
use Rattle.par_kinds.specs.par_step_laws.Handlers.{is_lost}
use Rattle.par_kinds.specs.par_step_laws.Handlers.{is_roomless, covers, named_takes, builtin_takes}
use Rattle.par_kinds.specs.par_step_laws.Handlers.{takes}
use Rattle.par_kinds.specs.declared.frame.VKind.{VKind}
use Rattle.par_kinds.specs.declared.frame.VKind.TheVariants.{Base as ABase}
use Rattle.par_kinds.specs.Kinds.{KFrame, Each, Both, Into}
use Rattle.par_kinds.specs.Fits.{FitsAt, CatchFits, around}
use Rattle.par_kinds.specs.Linked.{AllGiven, AllFit, exception_names, act_at, caught_kind}
use Rattle.par_kinds.specs.Linked.{named_kind, builtin_kind, result_of}
use Rattle.par_verify_laws.specs.States.{Has, Live, Good, Holds, Stands, Runs, Below}
use Rattle.par_verify_laws.specs.Right.{AreRight}
use Rattle.par_kinds.proofs.Lists.{both-length}
use Rattle.par_verify_laws.proofs.Values.{holds-into, good-into}

-- both tests hold where their conjunction does
pub both_hold : (a b : Bool) → (a && b) ≡ true → (a ≡ true) × (b ≡ true)
both_hold true b e = (refl, e)
both_hold false b e = absurd (cc e)

past : {A : Type 0} (xs ys : List A) (n i : ℕ) → n ≡ length xs + i
    → slice_get (xs ++ ys) n ≡ slice_get ys i
past [] ys n i e = ap (slice_get ys) (omega (arith, e))
past (x ∷ xs) ys zero i e = absurd (omega (arith, e))
past (x ∷ xs) ys (suc n) i e = past xs ys n i (omega (arith, e))

module _ (files : List ClassFile) (given : AllGiven) (right : AreRight files)
    (fit : AllFit files given) (objects : Objects)
    (many : length objects ≡ length (class_names files)) where
  -- what is known of the place of a frame
  abbrev pub At : (f : Frame) → KFrame → Type 0
  At f k =
      FitsAt (exception_names files) (act_at files f.class f.method) (caught_kind files f.class)
      (method_code files f.class f.method) (given f.class f.method) f.at k

  pub at-place : (f : Frame) (s : Stands files given objects f) → At f s.kinds
  at-place f s = (fit f.class f.method s.coded).each f.at s.kinds s.at

  -- values of kinds are of those into which the kinds fit
  pub locals-into : (ks ls : List VKind) (os : List (Option MVal))
      → Both (Into (exception_names files)) ks ls → Both (Holds files objects) ks os
      → Both (Holds files objects) ls os
  locals-into [] [] os into held = held
  locals-into [] (l ∷ ls) os into held = absurd into
  locals-into (k ∷ ks) [] os into held = absurd into
  locals-into (k ∷ ks) (l ∷ ls) [] into held = absurd held
  locals-into (k ∷ ks) (l ∷ ls) (o ∷ os) into held =
      (holds-into files right k l o objects many into.0 held.0, locals-into ks ls os into.1 held.1)

  pub stack-into : (ks ls : List VKind) (vs : List MVal)
      → Both (Into (exception_names files)) ks ls → Both (Good files objects) ks vs
      → Both (Good files objects) ls vs
  stack-into [] [] vs into held = held
  stack-into [] (l ∷ ls) vs into held = absurd into
  stack-into (k ∷ ks) [] vs into held = absurd into
  stack-into (k ∷ ks) (l ∷ ls) [] into held = absurd held
  stack-into (k ∷ ks) (l ∷ ls) (v ∷ vs) into held =
      (good-into files right k l v objects many into.0 held.0, stack-into ks ls vs into.1 held.1)

  -- ---- handlers

  -- the first handler that takes an exception is one of the handlers
  first-found : (P : Catch → Type 0) (test : Catch → Bool) (cs : List Catch) (at : ℕ)
      → Each P cs → first_handler test cs ≡ Some at
      → (c : Catch) × (test c ≡ true) × (c.handler ≡ at) × P c
  unfolding first_handler
  first-found P test [] at each is = absurd (cc is)
  first-found P test (c ∷ cs) at each is =
      in_case (first-found P test cs at each.1) (test c) refl
    where
      in_case : (first_handler test cs ≡ Some at
          → (c : Catch) × (test c ≡ true) × (c.handler ≡ at) × P c)
          → (b : Bool) → test c ≡ b → (c : Catch) × (test c ≡ true) × (c.handler ≡ at) × P c
      in_case later true e =
          let here : Some c.handler ≡ Some at =
          sym (ap (λ b. cond b (Some c.handler) (first_handler test cs)) e) ∙ is in
          (c, e, cc here, each.0)
      in_case later false e =
          later (sym (ap (λ b. cond b (Some c.handler) (first_handler test cs)) e) ∙ is)

  arithmetic-named : class_named (class_names files) (arithmetic_exception files)
      ≡ codes "ArithmeticException"
  arithmetic-named =
      ap name_or_none
      (past (own_names files) (codes "ArithmeticException" ∷ codes "NullPointerException" ∷ [])
      (length files) 0 (omega (arith, length-map files own_name)))

  null-named : class_named (class_names files) (null_pointer_exception files)
      ≡ codes "NullPointerException"
  null-named =
      ap name_or_none
      (past (own_names files) (codes "ArithmeticException" ∷ codes "NullPointerException" ∷ [])
      (length files + 1) 1 (omega (arith, length-map files own_name)))

  -- what a handler takes is of its kind
  builtin-takes : (b : Builtin) (class n : ℕ)
      → is_of (exceptions files) (Ref class n) ≡ true → builtin_takes files class b ≡ true
      → Has files (builtin_kind b) (Ref class n)
  unfolding Has
  builtin-takes builtin.Object class n is taken = absurd (cc taken)
  builtin-takes builtin.Exception class n is taken = (refl, is)
  builtin-takes builtin.ArithmeticException class n is taken =
      let same : class ≡ arithmetic_exception files =
      eqb-true class (arithmetic_exception files) taken in
      (bytes_eq-Decides (class_named (class_names files) class) (codes "ArithmeticException")).1
      (ap (class_named (class_names files)) same ∙ arithmetic-named)
  builtin-takes builtin.NullPointerException class n is taken =
      let same : class ≡ null_pointer_exception files =
      eqb-true class (null_pointer_exception files) taken in
      (bytes_eq-Decides (class_named (class_names files) class) (codes "NullPointerException")).1
      (ap (class_named (class_names files)) same ∙ null-named)
  builtin-takes builtin.Locks class n is taken = absurd (cc taken)

  named-takes : (m : Named) (class n : ℕ)
      → is_of (exceptions files) (Ref class n) ≡ true → named_takes files class m ≡ true
      → Has files (named_kind files m) (Ref class n)
  unfolding Has
  named-takes (named.Class own) class n is taken =
      let same : class ≡ own = eqb-true class own taken in
      (bytes_eq-Decides (class_named (class_names files) class)
      (class_named (class_names files) own)).1
      (ap (class_named (class_names files)) same)
  named-takes (named.Builtin b) class n is taken = builtin-takes b class n is taken
  named-takes m class n is taken = absurd (cc taken)

  takes-kind : (c : Catch) (f : Frame) (class n : ℕ)
      → is_of (exceptions files) (Ref class n) ≡ true → takes files class f c ≡ true
      → (around f.at c ≡ true) × Has files (caught_kind files f.class c) (Ref class n)
  unfolding Has
  takes-kind c f class n is taken =
      let both = both_hold (covers f c) _ taken in
      (both.0, in_case (c.class == 0) both.1)
    where
      in_case : (b : Bool)
          → (b || named_takes files class (named_at files f.class c.class)) ≡ true
          → Has files (cond b (ABase true) (named_kind files (named_at files f.class c.class)))
          (Ref class n)
      in_case true e = (refl, is)
      in_case false e = named-takes (named_at files f.class c.class) class n is e

  -- ---- frames that go on

  -- the exception is the one operand of the first of these frames, which stands at a handler
  abbrev pub CaughtFit : MVal → List Frame → Type 0
  CaughtFit v [] = Unit {0}
  CaughtFit v (f ∷ frames) =
      Runs files given objects (record f { operands = v ∷ [] })
      × Below files given objects (result_of files f.class f.method) frames

  caught-here : (f : Frame) (class n at : ℕ) (s : Stands files given objects f)
      → is_of (exceptions files) (Ref class n) ≡ true → Live objects (Ref class n)
      → handler_in files class f ≡ Some at
      → Runs files given objects (record f { at = at; operands = Ref class n ∷ [] })
  caught-here f class n at s is live taken =
      let place = at-place f s in
      let found =
      first-found
      (λ c. around f.at c ≡ true →
      CatchFits (exception_names files) (act_at files f.class f.method) (caught_kind files f.class)
      (method_code files f.class f.method) (given f.class f.method) s.kinds c)
      (takes files class f) (method_code files f.class f.method).catches at place.caught taken in
      let both = takes-kind found.0 f class n is found.1 in
      let fits = found.3 both.0 in
      let has : given f.class f.method at ≡ Some fits.frame =
      ap (given f.class f.method) (sym found.2) ∙ fits.has in
      let locals = locals-into s.kinds.locals fits.frame.locals f.locals fits.locals s.locals in
      let good : Good files objects (caught_kind files f.class found.0) (Ref class n) =
      record { has = both.1; live = live } in
      record {
        stands = record { coded = s.coded; kinds = fits.frame; at = has; locals = locals };
        operands = subst (λ (ks : List VKind). Both (Good files objects) ks (Ref class n ∷ []))
            (sym fits.stack) (good, tt);
      }

  step-fit : (class n : ℕ) (f : Frame) (frames caughts : List Frame)
      → is_of (exceptions files) (Ref class n) ≡ true → Live objects (Ref class n)
      → Stands files given objects f
      → Below files given objects (result_of files f.class f.method) frames
      → CaughtFit (Ref class n) caughts
      → (o : Option ℕ) → handler_in files class f ≡ o
      → CaughtFit (Ref class n) (caught_by o f frames caughts)
  step-fit class n f frames caughts is live s below rest None e = rest
  step-fit class n f frames caughts is live s below rest (Some at) e =
      (caught-here f class n at s is live e, below)

  below-fit : (class n : ℕ) (gives : Option Kind) (frames : List Frame)
      → is_of (exceptions files) (Ref class n) ≡ true → Live objects (Ref class n)
      → Below files given objects gives frames
      → CaughtFit (Ref class n) (caught files class frames)
  unfolding caught
  below-fit class n gives [] is live below = tt
  below-fit class n gives (f ∷ frames) is live below =
      step-fit class n f frames (caught files class frames) is live below.0.stands below.1
      (below-fit class n (result_of files f.class f.method) frames is live below.1)
      (handler_in files class f) refl

  pub caught-fit : (class n : ℕ) (f : Frame) (frames : List Frame)
      → is_of (exceptions files) (Ref class n) ≡ true → Live objects (Ref class n)
      → Stands files given objects f
      → Below files given objects (result_of files f.class f.method) frames
      → CaughtFit (Ref class n) (caught files class (f ∷ frames))
  unfolding caught
  caught-fit class n f frames is live s below =
      step-fit class n f frames (caught files class frames) is live s below
      (below-fit class n (result_of files f.class f.method) frames is live below)
      (handler_in files class f) refl

  -- there an instruction stands, and there is room for the exception
  pub caught-found : (v : MVal) (frames : List Frame) → CaughtFit v frames
      → (is_lost files frames ≡ false) × (is_roomless files frames ≡ false)
  caught-found v [] fits = (refl, refl)
  caught-found v (f ∷ frames) fits =
      let runs = fits.0 in
      let place = at-place (record f { operands = v ∷ [] }) runs.stands in
      let one : length runs.stands.kinds.stack ≡ 1 =
      both-length (Good files objects) runs.stands.kinds.stack (v ∷ []) runs.operands in
      let room : 1 ≤ (method_code files f.class f.method).max_stack =
      omega (arith, place.room, one) in (
        ap not place.starts,
        ne_eqb (method_code files f.class f.method).max_stack 0 (λ e. omega (arith, e, room)),
      )
