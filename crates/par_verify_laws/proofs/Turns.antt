-- Where frames fit, each instruction is run and leaves a state that fits.
use Rattle.std.proofs.Common.{◌≡◌, ℕ, ℤ, pos, suc, ◌+◌, ◌+ℤ◌, ◌<◌, ◌==◌, Bool, true, false, cond}
use Rattle.std.proofs.Common.{◌||◌, ◌⊎◌, inl, inr, ⊎_elim, List, [], ◌∷◌, ◌++◌, length, drop, Some}
use Rattle.std.proofs.Common.{None, Option, refl, sym, ap, subst, ◌∙◌, arith, codes, length-append}
use Rattle.std.specs.List.{list_any}
use Rattle.std.specs.Str.{bytes_eq}
use Rattle.std.proofs.lemmas.List.{length-map}
use Rattle.std.proofs.lemmas.Option.{slice_get_past}
use Rattle.std.proofs.lemmas.Bool.{eq-eqb}
use Rattle.par_instr.specs.Decoding.{Decoded, decoded_at}
use Rattle.par_class.specs.declared.file.ClassFile.{ClassFile}
use Rattle.par_values.specs.declared.value.MVal.{MVal}
use Rattle.par_values.specs.declared.value.MVal.TheVariants.{Int, Null, Ref}
use Rattle.par_values.specs.declared.kind.Kind.{Kind}
use Rattle.par_values.specs.declared.run.Event.TheVariants as event
use Rattle.par_values.specs.Areas.{Areas, Objects, Name, first_locals, with_object, next_number}
use Rattle.par_values.specs.Effects.{Effect, Goes, Happens, Calls, Throws, ThrowsObject, Returns}
use Rattle.par_values.specs.Effects.{ReturnsWith, effect}
use Rattle.par_values.specs.Effects as to
use Rattle.par_values.specs.Reasons.{is_of, reason}
use Rattle.par_values.specs.Operations.{operation}
use Rattle.par_kinds.specs.par_step_laws.Links.{link_at}
use Rattle.par_single.specs.Members.{own_name, own_names}
use Rattle.par_kinds.specs.par_step_laws.Classes.{class_names, is_exception, exceptions}
use Rattle.par_kinds.specs.par_step_laws.Classes.{exceptions_from}
use Rattle.par_kinds.specs.par_step_laws.Classes.{exception_named}
use Rattle.par_kinds.specs.par_step_laws.Methods.{method_code}
use Rattle.par_kinds.specs.par_step_laws.State.{Frame, State, entered}
use Rattle.par_kinds.specs.par_step_laws.Handlers.{caught, is_lost, is_roomless}
use Rattle.par_kinds.specs.par_step_laws.Step.{turn, turn_of, turn_at, decided, applied, areas_of}
use Rattle.par_kinds.specs.par_step_laws.Step.{moved}
use Rattle.par_kinds.specs.par_step_laws.Step.{state_with, offset, past, returned, returned_with}
use Rattle.par_kinds.specs.par_step_laws.Step.{thrown_to}
use Rattle.par_kinds.specs.par_step_laws.Step.{done_by, without_locks, reason_against, handlers}
use Rattle.par_kinds.specs.par_step_laws.Step.{thrown_class}
use Rattle.par_kinds.specs.par_step_laws.Step.{spot, or_2, called_on_object, size_of}
use Rattle.par_kinds.specs.par_step_laws.Step.{is_misreceived}
use Rattle.par_kinds.specs.declared.frame.VKind.{VKind}
use Rattle.par_kinds.specs.Kinds.{KFrame, vkind, Both, Into, FrameInto}
use Rattle.par_kinds.specs.Acts.{Act, left_by, Gives}
use Rattle.par_kinds.specs.Fits.{FitsAt, GoesTo}
use Rattle.par_kinds.specs.Linked.{AllGiven, AllFit, exception_names, result_of, first_frame}
use Rattle.par_kinds.specs.Linked.{kinds_given, act_at, caught_kind}
use Rattle.par_verify_laws.specs.States.{Live, Good, HeapFits, Runs, Below, FramesFit, StateFits}
use Rattle.par_verify_laws.specs.States.{TurnFits, Takes, Keeps, class_kinds}
use Rattle.par_kinds.specs.par_step_laws.Fields.{kinds_in}
use Rattle.par_verify_laws.specs.Right.{AreRight}
use Rattle.par_verify_laws.specs.SoundLaws.{StatesStayFit}
use Rattle.par_verify_laws.proofs.Values.{good-into}
use Rattle.par_verify_laws.proofs.Heap.{Grows, birth-grows, birth-fits, birth-live}
use Rattle.par_verify_laws.proofs.Growing.{stands-grow, below-grow}
use Rattle.par_verify_laws.proofs.Effects.{EffectFits, After, Behind, Towards, Called, after_act}
use Rattle.par_verify_laws.proofs.Frames.{CaughtFit, caught-fit, caught-found, locals-into}
use Rattle.par_verify_laws.proofs.Frames.{stack-into}
use Rattle.par_verify_laws.proofs.Reasons.{here, done, done-fits, reason-none, goes-behind, goes-to}
use Rattle.par_verify_laws.proofs.Reasons.{not-misreceived}

-- ---- the exceptions that every program has

or-right : (b : Bool) → (b || true) ≡ true
or-right true = refl
or-right false = refl

any-kept : (test : ℕ → Bool) (b : Bool) (n : ℕ) (ns : List ℕ) → list_any test ns ≡ true
    → list_any test (cond b (n ∷ ns) ns) ≡ true
any-kept test true n ns any = ap (λ c. test n || c) any ∙ or-right (test n)
any-kept test false n ns any = any

last-exceptions : (files : List ClassFile) (first n : ℕ)
    → n ≡ first + length files ⊎ n ≡ first + length files + 1
    → list_any (λ d. d == n) (exceptions_from first files) ≡ true
unfolding exceptions_from
last-exceptions [] first n either =
    ⊎_elim
    (λ e. ap (λ b. b || ((suc first == n) || false)) (eq-eqb first n (omega (arith, e))))
    (λ e. ap (λ b. (first == n) || (b || false)) (eq-eqb (suc first) n (omega (arith, e)))
    ∙ or-right (first == n))
    either
last-exceptions (file ∷ files) first n either =
    any-kept (λ d. d == n) (is_exception file) first (exceptions_from (suc first) files)
    (last-exceptions files (suc first) n
    (⊎_elim (λ e. inl (omega (arith, e))) (λ e. inr (omega (arith, e))) either))

module _ (files : List ClassFile) (given : AllGiven) (right : AreRight files)
    (fit : AllFit files given) where
  -- either exception
  named-one : (name : Name) → exception_named files name ≡ length files
      ⊎ exception_named files name ≡ length files + 1
  named-one name = in_case (bytes_eq name (codes "ArithmeticException")) where
    in_case : (b : Bool) → cond b (length files) (length files + 1) ≡ length files
        ⊎ cond b (length files) (length files + 1) ≡ length files + 1
    in_case true = inl refl
    in_case false = inr refl

  named-exception : (name : Name) (n : ℕ)
      → is_of (exceptions files) (Ref (exception_named files name) n) ≡ true
  named-exception name n =
      last-exceptions files 0 (exception_named files name)
      (⊎_elim (λ e. inl (omega (arith, e))) (λ e. inr (omega (arith, e))) (named-one name))

  pub all-many : length (class_names files) ≡ length files + 2
  all-many =
      let whole = length-append (own_names files)
      (codes "ArithmeticException" ∷ codes "NullPointerException" ∷ []) in
      let own : length (own_names files) ≡ length files = length-map files own_name in
      omega (arith, whole, own)

  named-in-range : (name : Name) → exception_named files name < length (class_names files)
  named-in-range name =
      ⊎_elim (λ e. omega (arith, e, all-many)) (λ e. omega (arith, e, all-many)) (named-one name)

  named-fieldless : (name : Name) → class_kinds files (exception_named files name) ≡ []
  named-fieldless name =
      ap kinds_in
      (slice_get_past files (exception_named files name)
      (⊎_elim (λ e. omega (arith, e)) (λ e. omega (arith, e)) (named-one name)))

  -- what writes to a lock does is the same without its event
  locks-fit : (e : Effect) (objects : Objects) (gives : Option Kind) (act : Act) (k : KFrame)
      → EffectFits files objects gives act k e
      → EffectFits files objects gives act k (without_locks e)
  locks-fit (Happens (event.Set class name v) a) objects gives act k fits =
      in_case (bytes_eq class (codes "paragon/Locks"))
    where
      in_case : (b : Bool)
          → EffectFits files objects gives act k
          (cond b (Goes a) (Happens (event.Set class name v) a))
      in_case true = fits
      in_case false = fits
  locks-fit e objects gives act k fits = fits

  module _ (f : Frame) (frames : List Frame) (s : State)
      (heap : HeapFits files s.statics s.objects)
      (runs : Runs files given s.objects f)
      (below : Below files given s.objects (result_of files f.class f.method) frames) where
    abbrev k : KFrame
    k = runs.stands.kinds

    abbrev a : Areas
    a = areas_of f s

    abbrev result : Option Kind
    result = result_of files f.class f.method

    abbrev place : FitsAt (exception_names files) (act_at files f.class f.method)
        (caught_kind files f.class) (method_code files f.class f.method) (given f.class f.method)
        f.at k
    place =
        here files given right fit f.class f.method f.at runs.stands.coded a k runs.stands.at heap
        runs.stands.locals runs.operands

    abbrev d : Decoded
    d = place.does

    abbrev act : Act
    act = act_at files f.class f.method d.instr

    abbrev GoesOn : ℤ → Type 0
    GoesOn to =
        GoesTo (exception_names files) (act_at files f.class f.method) (caught_kind files f.class)
        (method_code files f.class f.method) (given f.class f.method)
        (left_by act.leaves (length act.takes) k) to

    -- the frame goes on with areas of the kinds that are left
    moved-fits : (at : ℕ) (after : Areas) → GoesOn (pos at)
        → After files s.objects (after_act act k) after
        → StateFits files given (state_with (moved at after f ∷ frames) after)
    moved-fits at after g h =
        let same : g.at ≡ at = cc g.is in
        let has : given f.class f.method at ≡ Some g.frame =
        ap (given f.class f.method) (sym same) ∙ g.has in
        record {
          heap = h.heap;
          frames = (
            record {
              stands = record {
                coded = runs.stands.coded;
                kinds = g.frame;
                at = has;
                locals = locals-into files given right fit after.objects h.heap.many
                    (after_act act k).locals g.frame.locals after.locals g.fits.locals h.locals;
              };
              operands = stack-into files given right fit after.objects h.heap.many
                  (after_act act k).stack g.frame.stack after.operands g.fits.stack h.operands;
            },
            below-grow files given s.objects after.objects h.grows result frames below,
          );
        }

    -- operands wait for what a call gives
    waiting : (gives : Option Kind) (ks ls : List VKind) (objects : Objects) (vs : List MVal)
        → length objects ≡ length (class_names files)
        → Both (Into (exception_names files)) (kinds_given gives ++ ks) ls
        → Both (Good files objects) ks vs
        → Takes files given objects gives ls vs
    waiting None ks ls objects vs many into goods =
        stack-into files given right fit objects many ks ls vs into goods
    waiting (Some kind) ks [] objects vs many into goods = absurd into
    waiting (Some kind) ks (l ∷ ls) objects vs many into goods =
        (into.0, stack-into files given right fit objects many ks ls vs into.1 goods)

    called-fits : (c p many : ℕ) (args : List MVal) (after : Areas)
        → Called files s.objects act k c p many args after
        → GoesOn (pos (f.at + d.size))
        → StateFits files given
        (state_with (entered c p (first_locals many args) ∷ moved f.at after f ∷ frames) after)
    unfolding left_by
    called-fits c p many args after called g =
        let h = called.left in
        let same : g.at ≡ f.at + d.size = cc g.is in
        let size : size_of (decoded_at (method_code files f.class f.method).code f.at) ≡ d.size =
        ap size_of place.found in
        let behind : given f.class f.method (past files (moved f.at after f)).at ≡ Some g.frame =
        ap (λ (n : ℕ). given f.class f.method (f.at + n)) size
        ∙ ap (given f.class f.method) (sym same) ∙ g.has in
        let fits : FrameInto (exception_names files)
        (left_by (Gives (kinds_given (result_of files c p))) (length act.takes) k) g.frame =
        subst (λ l. FrameInto (exception_names files) (left_by l (length act.takes) k) g.frame)
        called.leaves g.fits in
        record {
          heap = h.heap;
          frames = (
            record {
              stands = record {
                coded = called.coded;
                kinds = first_frame files c p;
                at = (fit c p called.coded).begins;
                locals = called.entered;
              };
              operands = tt;
            },
            (
              record {
                stands = record {
                  coded = runs.stands.coded;
                  kinds = k;
                  at = runs.stands.at;
                  locals = h.locals;
                };
                behind = g.frame;
                at = behind;
                locals = locals-into files given right fit after.objects h.heap.many k.locals
                    g.frame.locals after.locals fits.locals h.locals;
                operands = waiting (result_of files c p) (drop (length act.takes) k.stack)
                    g.frame.stack after.objects after.operands h.heap.many fits.stack h.operands;
              },
              below-grow files given s.objects after.objects h.grows result frames below,
            ),
          );
        }

    -- ---- what is thrown

    thrown-fits : (v : MVal) (class : ℕ) (fs : List Frame) (after : Areas)
        → (heap : HeapFits files after.statics after.objects)
        → CaughtFit files given right fit after.objects heap.many v fs
        → TurnFits files given (thrown_to (class_names files) v class fs after)
    thrown-fits v class [] after heap fits = tt
    thrown-fits v class (g ∷ gs) after heap fits = record { heap = heap; frames = fits }

    module _ (name : Name) where
      abbrev class : ℕ
      class = exception_named files name

      abbrev after : Areas
      after = with_object class [] a

      grows : Grows s.objects after.objects
      grows = birth-grows files right a heap class []

      heap-after : HeapFits files after.statics after.objects
      heap-after =
          birth-fits files right a heap class []
          (subst (λ (ks : List Kind). Both (Keeps files s.objects) ks [])
          (sym (named-fieldless name)) tt)

      next-caught : CaughtFit files given right fit after.objects heap-after.many
          (Ref class (next_number class a)) (caught files class (f ∷ frames))
      next-caught =
          caught-fit files given right fit after.objects heap-after.many class (next_number class a)
          f frames (named-exception name (next_number class a))
          (birth-live files right a heap class [] (named-in-range name))
          (stands-grow files given s.objects after.objects grows f runs.stands)
          (below-grow files given s.objects after.objects grows result frames below)

    object-caught : (c n : ℕ) → Live s.objects (Ref c n) → is_of (exceptions files) (Ref c n) ≡ true
        → CaughtFit files given right fit s.objects heap.many (Ref c n)
        (caught files c (f ∷ frames))
    object-caught c n live is =
        caught-fit files given right fit s.objects heap.many c n f frames is live runs.stands below

    -- no handler is lost or without room
    abbrev Found : Option ℕ → Type 0
    Found class =
        (is_lost files (handlers files class (f ∷ frames)) ≡ false)
        × (is_roomless files (handlers files class (f ∷ frames)) ≡ false)

    thrown-found : (e : Effect) → EffectFits files s.objects result act k e
        → Found (thrown_class files e)
    thrown-found (Throws name) fits =
        caught-found files given right fit (after name).objects (heap-after name).many
        (Ref (class name) (next_number (class name) a)) (caught files (class name) (f ∷ frames))
        (next-caught name)
    thrown-found (ThrowsObject (Ref c n)) fits = in_case (is_of (exceptions files) (Ref c n)) where
      in_case : (b : Bool) → Found (cond b (Some c) None)
      in_case true =
          caught-found files given right fit s.objects heap.many (Ref c n)
          (caught files c (f ∷ frames)) (object-caught c n fits.0 fits.1)
      in_case false = (refl, refl)
    thrown-found (ThrowsObject Null) fits = (refl, refl)
    thrown-found (ThrowsObject (Int v)) fits = (refl, refl)
    thrown-found (Goes later) fits = (refl, refl)
    thrown-found (Happens e later) fits = (refl, refl)
    thrown-found (to.Jumps d later) fits = (refl, refl)
    thrown-found (Calls c p many args later) fits = (refl, refl)
    thrown-found Returns fits = (refl, refl)
    thrown-found (ReturnsWith v) fits = (refl, refl)

    -- ---- returns

    returned-fits : (gs : List Frame) → Below files given s.objects None gs
        → TurnFits files given (returned files gs s)
    returned-fits [] below = tt
    returned-fits (g ∷ gs) below =
        let w = below.0 in
        record {
          heap = heap;
          frames = (
            record {
              stands = record {
                coded = w.stands.coded;
                kinds = w.behind;
                at = w.at;
                locals = w.locals;
              };
              operands = w.operands;
            },
            below.1,
          );
        }

    taken-with : (kind : Kind) (v : MVal) (ks : List VKind) (vs : List MVal)
        → Takes files given s.objects (Some kind) ks vs → Good files s.objects (vkind kind) v
        → Both (Good files s.objects) ks (v ∷ vs)
    taken-with kind v [] vs takes good = absurd takes
    taken-with kind v (l ∷ ls) vs takes good =
        (good-into files right (vkind kind) l v s.objects heap.many takes.0 good, takes.1)

    returned-with-fits : (kind : Kind) (v : MVal) (gs : List Frame)
        → Below files given s.objects (Some kind) gs
        → Good files s.objects (vkind kind) v → TurnFits files given (returned_with files v gs s)
    returned-with-fits kind v [] below good = tt
    returned-with-fits kind v (g ∷ gs) below good =
        let w = below.0 in
        record {
          heap = heap;
          frames = (
            record {
              stands = record {
                coded = w.stands.coded;
                kinds = w.behind;
                at = w.at;
                locals = w.locals;
              };
              operands = taken-with kind v w.behind.stack g.operands w.operands good;
            },
            below.1,
          );
        }

    -- ---- the instruction

    behind : Behind act.flow → GoesOn (pos (f.at + d.size))
    behind b =
        goes-behind files given right fit f.class f.method f.at runs.stands.coded a k runs.stands.at
        heap runs.stands.locals runs.operands act.flow b place.goes

    towards : (j : ℤ) → Towards j act.flow → GoesOn (pos f.at +ℤ j)
    towards j b =
        goes-to files given right fit f.class f.method f.at runs.stands.coded a k runs.stands.at
        heap runs.stands.locals runs.operands act.flow j b place.goes

    applied-fits : (e : Effect) → EffectFits files s.objects result act k e
        → TurnFits files given (applied files e d.size f frames s)
    applied-fits (Goes after) fits = moved-fits (f.at + d.size) after (behind fits.0) fits.1
    applied-fits (Happens e after) fits = moved-fits (f.at + d.size) after (behind fits.0) fits.1
    applied-fits (to.Jumps j after) fits =
        let g = towards j fits.0 in
        let same : offset (pos f.at +ℤ j) ≡ g.at = ap offset g.is in
        subst (λ (at : ℕ). StateFits files given (state_with (moved at after f ∷ frames) after))
        (sym same)
        (moved-fits g.at after
        (record { at = g.at; is = refl; frame = g.frame; has = g.has; fits = g.fits }) fits.1)
    applied-fits (Calls c p many args after) fits =
        called-fits c p many args after fits (behind (subst Behind (sym fits.flow) tt))
    applied-fits (Throws name) fits =
        thrown-fits (Ref (class name) (next_number (class name) a)) (class name)
        (caught files (class name) (f ∷ frames)) (after name) (heap-after name) (next-caught name)
    applied-fits (ThrowsObject (Ref c n)) fits =
        thrown-fits (Ref c n) c (caught files c (f ∷ frames)) a heap
        (object-caught c n fits.0 fits.1)
    applied-fits (ThrowsObject Null) fits = tt
    applied-fits (ThrowsObject (Int v)) fits = tt
    applied-fits Returns fits =
        returned-fits frames
        (subst (λ g. Below files given s.objects g frames) fits below)
    applied-fits (ReturnsWith v) fits =
        returned-with-fits fits.kind v frames
        (subst (λ g. Below files given s.objects g frames) fits.is below) fits.good

    effect-here : EffectFits files s.objects result act k (done_by files f.class d.instr a)
    effect-here =
        locks-fit (done files given right fit f.class f.method f.at runs.stands.coded a k
        runs.stands.at
        heap runs.stands.locals runs.operands) s.objects result act k
        (done-fits files given right fit f.class f.method f.at runs.stands.coded a k runs.stands.at
        heap runs.stands.locals runs.operands)

    nothing-against : reason_against files d f frames a ≡ None
    nothing-against =
        let found = thrown-found (done_by files f.class d.instr a) effect-here in
        let left = handlers files (thrown_class files (done_by files f.class d.instr a))
        (f ∷ frames) in
        let none = reason-none files given right fit f.class f.method f.at runs.stands.coded a k
        runs.stands.at heap runs.stands.locals runs.operands (is_lost files left)
        (is_roomless files left) found.0 found.1 in
        let received : is_misreceived files f.class (called_on_object d.instr) a ≡ false =
        not-misreceived files right f.class result a k heap runs.operands d.instr place.fits in
        ap (λ b. or_2 b (reason (class_names files)
        (spot files f frames d.size (done_by files f.class d.instr a))
        (operation (link_at files f.class) d.instr) a)) received ∙ none

    turn-fits : TurnFits files given (turn_of files (f ∷ frames) s)
    turn-fits =
        subst (λ q. TurnFits files given (turn_at files q f frames s)) (sym place.found)
        (subst (λ r. TurnFits files given (decided files r d f frames s)) (sym nothing-against)
        (applied-fits (done_by files f.class d.instr a) effect-here))

  frames-fit : (frames : List Frame) (s : State) → HeapFits files s.statics s.objects
      → FramesFit files given s.objects frames → TurnFits files given (turn_of files frames s)
  frames-fit [] s heap fits = tt
  frames-fit (f ∷ frames) s heap fits = turn-fits f frames s heap fits.0 fits.1

pub states_stay_fit : StatesStayFit
unfolding turn
states_stay_fit files given s right fit fits =
    frames-fit files given right fit s.frames s fits.heap fits.frames
