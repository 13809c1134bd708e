-- Frames that stand.
use Rattle.std.proofs.Common.{◌≡◌, ℕ, zero, suc, ◌<◌, Bool, true, false, not, ◌&&◌, ◌||◌, nat_le}
use Rattle.std.proofs.Common.{nat_lt, List, [], ◌∷◌, length, drop, refl, sym, ap, subst, ◌∙◌, arith}
use Rattle.std.proofs.Common.{leb-true, ltb-true, le-leb, lt-ltb, eqb-true, eq-eqb}
use Rattle.std.proofs.lemmas.Bool.{and_parts, and_from}
use Rattle.par_class.specs.declared.file.ClassFile.{ClassFile}
use Rattle.par_stack.specs.Frames.{Frame, running, waiting, with_running, without_running}
use Rattle.par_stack.specs.Frames.{is_awaited, at_offset, pushed}
use Rattle.par_values.specs.declared.value.MVal.{MVal}
use Rattle.par_machine.specs.Frames.{code_of, gives, is_standing, is_roomy, are_sound, Stands}

-- what is told of a frame, known
pub stands : (files : List ClassFile) (f : Frame) → is_standing files f ≡ true → Stands files f
stands files f is =
    let one = and_parts (nat_lt f.point.class (length files)) _ is in
    let two = and_parts (nat_le f.point.at (length (code_of files f.point).code)) _ one.1 in
    record { class = ltb-true _ _ one.0; within = leb-true _ _ two.0; room = eqb-true _ _ two.1 }

-- what is known of a frame, told
pub standing : (files : List ClassFile) (f : Frame) → Stands files f → is_standing files f ≡ true
standing files f s =
    and_from _ _ (lt-ltb _ _ s.class) (and_from _ _ (le-leb _ _ s.within) (eq-eqb _ _ s.room))

room_for : (b : Bool) (free : ℕ) → (b ≡ true → 0 < free) → (not b || nat_lt 0 free) ≡ true
room_for true free h = lt-ltb _ _ (h refl)
room_for false free h = refl

module _ (files : List ClassFile) where
  -- the frame that runs stands
  pub first_stands : (frames : List Frame) → 0 < length frames → are_sound files frames ≡ true
      → Stands files (running frames)
  unfolding are_sound
  first_stands [] some is = absurd (omega arith)
  first_stands (f ∷ frames) some is = stands files f (and_parts (is_standing files f) _ is).0

  -- the first frame is another one, which gives the same
  pub changed : (frames : List Frame) (g : Frame) → are_sound files frames ≡ true → Stands files g
      → gives files g.point ≡ gives files (running frames).point
      → are_sound files (g ∷ waiting frames) ≡ true
  unfolding are_sound
  changed [] g is one same = and_from _ _ (standing files g one) refl
  changed (f ∷ frames) g is one same =
      let parts = and_parts (is_standing files f) _ is in
      and_from _ _ (standing files g one) (ap (λ b. is_roomy b frames && are_sound files frames)
      same ∙ parts.1)

  -- the frame before others is dropped
  pub rest : (f : Frame) (frames : List Frame) → are_sound files (f ∷ frames) ≡ true
      → are_sound files frames ≡ true
  unfolding are_sound
  rest f frames is = (and_parts (is_roomy (gives files f.point) frames) _
      (and_parts (is_standing files f) _ is).1).1

  -- the frames below some are sound
  pub dropped : (k : ℕ) (frames : List Frame) → are_sound files frames ≡ true
      → are_sound files (drop k frames) ≡ true
  dropped zero [] is = is
  dropped zero (f ∷ frames) is = is
  dropped (suc k) [] is = is
  dropped (suc k) (f ∷ frames) is = dropped k frames (rest f frames is)

  -- a frame that waits has room for what the one above it gives
  pub roomy : (f g : Frame) (frames : List Frame) → are_sound files (f ∷ g ∷ frames) ≡ true
      → gives files f.point ≡ true → 0 < g.free
  unfolding are_sound
  roomy f g frames is given =
      let parts = and_parts (is_roomy (gives files f.point) (g ∷ frames)) _
      (and_parts (is_standing files f) _ is).1 in
      ltb-true 0 g.free (ap (λ b. not b || nat_lt 0 g.free) (sym given) ∙ parts.0)

  -- a frame is called
  pub entered : (g : Frame) (frames : List Frame) → are_sound files frames ≡ true → Stands files g
      → (gives files g.point ≡ true → 0 < (running frames).free)
      → are_sound files (g ∷ frames) ≡ true
  unfolding are_sound
  entered g [] is one room = and_from _ _ (standing files g one) refl
  entered g (f ∷ frames) is one room =
      and_from _ _ (standing files g one) (and_from _ _ (room_for (gives files g.point) f.free room)
      is)

-- ---- a frame is dropped

-- a frame for which another waits
pub record Awaited (frames : List Frame) : Type 0 where
  pub first : Frame
  pub second : Frame
  pub others : List Frame
  pub is : frames ≡ first ∷ second ∷ others

-- where one waits there are two
pub awaited : (frames : List Frame) → is_awaited frames ≡ true → Awaited frames
awaited [] is = absurd (cc)
awaited (f ∷ []) is = absurd (cc)
awaited (f ∷ g ∷ frames) is = record { first = f; second = g; others = frames; is = refl }

module _ (files : List ClassFile) where
  -- the one that waits stands
  pub left_stands : (frames : List Frame) → are_sound files frames ≡ true → is_awaited frames ≡ true
      → Stands files (running (without_running frames))
  left_stands frames sound is =
      let a = awaited frames is in
      subst (λ fs. Stands files (running (without_running fs))) (sym a.is)
      (first_stands files (a.second ∷ a.others) (omega arith)
      (rest files a.first (a.second ∷ a.others) (ap (are_sound files) (sym a.is) ∙ sound)))

  -- and those below it too
  pub left_sound : (frames : List Frame) → are_sound files frames ≡ true → is_awaited frames ≡ true
      → are_sound files (without_running frames) ≡ true
  left_sound frames sound is =
      let a = awaited frames is in
      subst (λ fs. are_sound files (without_running fs) ≡ true) (sym a.is)
      (rest files a.first (a.second ∷ a.others) (ap (are_sound files) (sym a.is) ∙ sound))

  -- the frame that runs goes on at another offset
  pub passed_sound : (frames new : List Frame) (at : ℕ) → are_sound files frames ≡ true
      → new ≡ with_running (at_offset at) frames
      → Stands files (running new) → are_sound files new ≡ true
  passed_sound frames new at sound is stands =
      subst (λ fs. are_sound files fs ≡ true) (sym is)
      (changed files frames (at_offset at (running frames)) sound
      (subst (λ fs. Stands files (running fs)) is stands) refl)

  -- it has room for what the frame above it gives
  pub left_room : (frames : List Frame) → are_sound files frames ≡ true → is_awaited frames ≡ true
      → gives files (running frames).point ≡ true
      → 0 < (running (without_running frames)).free
  left_room frames sound is given =
      let a = awaited frames is in
      subst (λ fs. 0 < (running (without_running fs)).free) (sym a.is)
      (roomy files a.first a.second a.others (ap (are_sound files) (sym a.is) ∙ sound)
      (ap (λ fs. gives files (running fs).point) (sym a.is) ∙ given))

  -- a frame takes one more operand, for which it has room
  pub pushed_stands : (f : Frame) (v : MVal) → Stands files f → 0 < f.free
      → Stands files (pushed v f)
  pushed_stands f v s some = record {
    class = s.class;
    within = s.within;
    room = omega (arith, s.room);
  }

  -- the frames stay sound with it
  pub pushed_sound : (frames : List Frame) (v : MVal) → are_sound files frames ≡ true
      → Stands files (running frames) → 0 < (running frames).free
      → are_sound files (with_running (pushed v) frames) ≡ true
  pushed_sound frames v sound stands some = changed files frames (pushed v (running frames)) sound
      (pushed_stands (running frames) v stands some) refl
