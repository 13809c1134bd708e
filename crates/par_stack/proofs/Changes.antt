-- What changes of the row of places and of the extents make of the frames that lie there.
use Rattle.std.proofs.Common.{◌≡◌, ℕ, ◌+◌, ◌-◌, ◌<◌, ◌≤◌, List, [], ◌∷◌, ◌++◌, length, map, take}
use Rattle.std.proofs.Common.{drop, set, get_or, reverse, replicate, Option, Some, None, slice_get}
use Rattle.std.proofs.Common.{refl, sym, ap, ◌∙◌, append_assoc, length-append, arith}
use Rattle.std.proofs.lemmas.List.{length-replicate, set-append_left, length-set, length-drop}
use Rattle.std.proofs.lemmas.List.{length-take, replicate-append-replicate, take_all}
use Rattle.std.proofs.lemmas.List.{length-reverse, reverse-append}
use lib.Seq.{paste}
use Rattle.par_values.specs.declared.value.MVal.{MVal}
use Rattle.par_values.specs.Areas.{first_locals, local_value}
use Rattle.par_stack.specs.declared.point.Point.{Point}
use Rattle.par_stack.specs.declared.point.Extent.{Extent}
use Rattle.par_stack.specs.Frames.{Frame, frame_places, all_places, pushed, popped, with_local}
use Rattle.par_stack.specs.Frames.{at_offset, entered, last_operands}
use Rattle.par_stack.specs.Layout.{Places, extent_of, extents, frame_at, IsLaid}
use Rattle.par_stack.proofs.Rows.{front, written_behind, read_behind, read_front, read_last}
use Rattle.par_stack.proofs.Rows.{read_place, row_pushed, row_kept, row_copied, emptied_front}
use Rattle.par_stack.proofs.Rows.{written_first}
use Rattle.par_stack.proofs.Rows.{length-places, length-held}
use Rattle.par_stack.proofs.Laid.{Lie, first, known, laid}

abbrev pub extent : (point : Point) (base floor top end : ℕ) → Extent
extent point base floor top end =
    record { point = point; base = base; floor = floor; top = top; end = end }

-- the extent of a frame, by its numbers
extent_is : (e : Extent) (f : Frame) (start : ℕ) → e.point ≡ f.point → e.base ≡ start
    → e.floor ≡ e.base + length f.locals
    → e.top ≡ e.floor + length f.operands → e.end ≡ e.top + f.free → e ≡ extent_of f start
extent_is e f start p b l t n =
    ap (λ (x : Point). extent x e.base e.floor e.top e.end) p
    ∙ ap (λ (x : ℕ). extent f.point x e.floor e.top e.end) b
    ∙ ap (λ (x : ℕ). extent f.point start x e.top e.end) (floor_is)
    ∙ ap (λ (x : ℕ). extent f.point start (start + length f.locals) x e.end) top_is
    ∙ ap (λ (x : ℕ). extent f.point start (start + length f.locals)
    (start + length f.locals + length f.operands) x) end_is
  where
    floor_is : e.floor ≡ start + length f.locals
    floor_is = omega (arith, b, l)

    top_is : e.top ≡ start + length f.locals + length f.operands
    top_is = omega (arith, b, l, t)

    end_is : e.end ≡ start + length f.locals + length f.operands + f.free
    end_is = omega (arith, b, l, t, n)

module _ (places : Places) (e : Extent) (waiting : List Extent) (is : IsLaid places e waiting) where
  pub pushed_lie : (v : MVal) → 0 < (frame_at places e).free
      → Lie (pushed v (frame_at places e)) (map (frame_at places) waiting)
      (set places e.top (Some v)) (record e { top = e.top + 1 }) waiting
  pushed_lie v some =
      let k = known places e waiting is in
      let g : Frame = frame_at places e in
      let below : Places = all_places (map (frame_at places) waiting) in
      record {
        placed =
            ap (λ (xs : Places). set xs e.top (Some v)) k.placed
            ∙ row_pushed below g.locals g.operands g.free e.top v
            (omega (arith, k.base, k.floor, k.top)) some;
        extended =
            extent_is (record e { top = e.top + 1 }) (pushed v g) (length below) refl k.base k.floor
            (omega (arith, k.top)) (omega (arith, k.end));
        below = k.below;
      }

  pub popped_lie : (n : ℕ) (after : Places)
      → after ≡ take (e.top - n) places
      ++ (replicate (e.top - (e.top - n)) None ++ drop e.top places)
      → n ≤ length (frame_at places e).operands
      → Lie (popped n (frame_at places e)) (map (frame_at places) waiting) after
      (record e { top = e.top - n }) waiting
  popped_lie n after is_emptied le =
      let k = known places e waiting is in
      let g : Frame = frame_at places e in
      let below : Places = all_places (map (frame_at places) waiting) in
      let many : length (drop n g.operands) ≡ length g.operands - n = length-drop n g.operands in
      record {
        placed =
            is_emptied
            ∙ ap (λ (xs : Places). take (e.top - n) xs
            ++ (replicate (e.top - (e.top - n)) None ++ drop e.top xs)) k.placed
            ∙ row_kept below g.locals g.operands g.free n (e.top - n) e.top le
            (omega (arith, k.base, k.floor, k.top)) (omega (arith, k.top));
        extended =
            extent_is (record e { top = e.top - n }) (popped n g) (length below) refl k.base k.floor
            (omega (arith, k.top, many)) (omega (arith, k.top, k.end));
        below = k.below;
      }

  pub replaced_lie : (n : ℕ) (v : MVal) (after : Places)
      → after ≡ take (e.top - n + 1) places
      ++ (replicate (e.top - (e.top - n + 1)) None ++ drop e.top places)
      → 1 ≤ n → n ≤ length (frame_at places e).operands
      → Lie (pushed v (popped n (frame_at places e))) (map (frame_at places) waiting)
      (set after (e.top - n) (Some v)) (record e { top = e.top - n + 1 }) waiting
  replaced_lie n v after is_emptied some le =
      let k = known places e waiting is in
      let g : Frame = frame_at places e in
      let h : Frame = popped n g in
      let below : Places = all_places (map (frame_at places) waiting) in
      let place : ℕ = e.top - n in
      let many : length (drop n g.operands) ≡ length g.operands - n = length-drop n g.operands in
      record {
        placed =
            ap (λ (xs : Places). set xs place (Some v)) is_emptied
            ∙ written_first places place e.top (Some v) (omega (arith, k.top))
            (omega (arith, k.many, k.end))
            ∙ ap (λ (xs : Places). set xs place (Some v)) (popped_lie n _ refl le).placed
            ∙ row_pushed below h.locals h.operands h.free place v
            (omega (arith, k.base, k.floor, k.top, many)) (omega arith);
        extended =
            extent_is (record e { top = place + 1 }) (pushed v h) (length below) refl k.base k.floor
            (omega (arith, k.top, many)) (omega (arith, k.top, k.end));
        below = k.below;
      }

  pub local_lie : (x : ℕ) (v : MVal) → x < length (frame_at places e).locals
      → Lie (with_local x v (frame_at places e)) (map (frame_at places) waiting)
      (set places (e.base + x) (Some v)) e waiting
  local_lie x v less =
      let k = known places e waiting is in
      let g : Frame = frame_at places e in
      let below : Places = all_places (map (frame_at places) waiting) in
      let rest : Places = map Some (reverse g.operands) ++ replicate g.free None in
      record {
        placed =
            ap (λ (xs : Places). set xs (e.base + x) (Some v)) k.placed
            ∙ written_behind below (g.locals ++ rest) (e.base + x) x (Some v)
            (omega (arith, k.base))
            ∙ ap (λ (xs : Places). below ++ xs) (set-append_left g.locals rest x (Some v) less);
        extended =
            extent_is e (with_local x v g) (length below) refl k.base
            (omega (arith, k.floor, length-set g.locals x (Some v))) k.top k.end;
        below = k.below;
      }

  pub offset_lie : (at : ℕ)
      → Lie (at_offset at (frame_at places e)) (map (frame_at places) waiting) places
      (record e { point = record e.point { at = at } }) waiting
  offset_lie at =
      let k = known places e waiting is in
      let g : Frame = frame_at places e in
      record {
        placed = k.placed;
        extended =
            extent_is (record e { point = record e.point { at = at } }) (at_offset at g)
            (length (all_places (map (frame_at places) waiting))) refl k.base k.floor k.top k.end;
        below = k.below;
      }

  -- what a local of the running frame holds
  pub local_read : (x : ℕ) (d : Option MVal) → x < length (frame_at places e).locals
      → get_or places (e.base + x) d ≡ local_value (slice_get (frame_at places e).locals x)
  local_read x d less =
      let k = known places e waiting is in
      let g : Frame = frame_at places e in
      let below : Places = all_places (map (frame_at places) waiting) in
      let rest : Places = map Some (reverse g.operands) ++ replicate g.free None in
      ap (λ (xs : Places). get_or xs (e.base + x) d) k.placed
      ∙ read_behind below (g.locals ++ rest) (e.base + x) x d (omega (arith, k.base))
      ∙ read_front g.locals rest x d less
      ∙ sym (ap local_value (read_place g.locals x d less))

  -- the operand with so many pushed after it
  pub operand_read : (n : ℕ) (d : Option MVal) → n < length (frame_at places e).operands
      → get_or places (e.top - 1 - n) d ≡ slice_get (frame_at places e).operands n
  operand_read n d less =
      let k = known places e waiting is in
      let g : Frame = frame_at places e in
      let below : Places = all_places (map (frame_at places) waiting) in
      let held : Places = map Some (reverse g.operands) in
      let none : Places = replicate g.free None in
      let place : ℕ = length g.operands - 1 - n in
      ap (λ (xs : Places). get_or xs (e.top - 1 - n) d) k.placed
      ∙ read_behind below (g.locals ++ (held ++ none)) (e.top - 1 - n) (length g.locals + place) d
      (omega (arith, k.base, k.floor, k.top))
      ∙ read_behind g.locals (held ++ none) (length g.locals + place) place d refl
      ∙ read_front held none place d (omega (arith, length-places g.operands))
      ∙ read_last g.operands n place d less (omega arith)

-- the extents of which the last was pushed last
pub apart : (all before : List Extent) (e : Extent) → all ≡ before ++ e ∷ []
    → reverse all ≡ e ∷ reverse before
apart all before e split =
    ap (λ (es : List Extent). reverse es) split ∙ reverse-append before (e ∷ [])

-- the frame behind the running one is all that is left of the two
pub left_lie : (places : Places) (e caller : Extent) (waiting : List Extent) (after : Places)
    → IsLaid places e (caller ∷ waiting) → after ≡ take e.base places
    → Lie (frame_at places caller) (map (frame_at places) waiting) after caller waiting
unfolding all_places extents
left_lie places e caller waiting after is is_cut =
    let k = known places e (caller ∷ waiting) is in
    let g : Frame = frame_at places caller in
    let frames : List Frame = map (frame_at places) waiting in
    record {
      placed =
          is_cut ∙ ap (λ (xs : Places). take e.base xs) k.placed
          ∙ front (all_places (g ∷ frames)) (frame_places (frame_at places e)) e.base k.base;
      extended = ap (λ (ds : List Extent). first caller ds) k.below;
      below = ap (λ (ds : List Extent). drop 1 ds) k.below;
    }

abbrev nothings : ℕ → Places
nothings n = replicate n None

abbrev no_value : Option MVal
no_value = None

-- one frame, of which nothing is set
pub start_lie : (point : Point) (locals room : ℕ) (places : Places) (waiting : List Extent)
    → places ≡ replicate (locals + room) None → waiting ≡ []
    → Lie (entered point [] locals room) [] places
    (record { point = point; base = 0; floor = locals; top = locals; end = locals + room }) waiting
unfolding all_places extents
start_lie point locals room places waiting e none =
    let all : locals - 0 ≡ locals = omega arith in
    let f : Frame = entered point [] locals room in
    let many : length f.locals ≡ locals = length-replicate (locals - 0) no_value ∙ all in
    record {
      placed =
          e
          ∙ sym (replicate-append-replicate locals room None)
          ∙ ap (λ (n : ℕ). nothings n ++ nothings room) (sym all);
      extended =
          extent_is (record {
            point = point;
            base = 0;
            floor = locals;
            top = locals;
            end = locals + room;
          }) f 0 refl refl (omega (arith, many)) (omega arith) refl;
      below = none;
    }

-- a frame is entered, which takes the last operands of the one that ran
pub entered_lie : (places : Places) (e : Extent) (waiting : List Extent) → IsLaid places e waiting
    → (point : Point) (locals room n many : ℕ) (grown copied after : Places) (callers : List Extent)
    → many ≡ length places → n ≤ length (frame_at places e).operands → n ≤ locals
    → grown ≡ take (e.end + locals + room) places ++ replicate (e.end + locals + room - many) None
    → copied ≡ paste grown e.end (drop (e.top - n) grown) (e.top - (e.top - n))
    → after ≡ take (e.top - n) copied ++ (replicate (e.top - (e.top - n)) None ++ drop e.top copied)
    → callers ≡ record e { top = e.top - n } ∷ waiting
    → Lie (entered point (last_operands n (frame_at places e)) locals room)
    (popped n (frame_at places e) ∷ map (frame_at places) waiting) after
    (extent point e.end (e.end + locals) (e.end + locals) (e.end + locals + room)) callers
unfolding all_places extents
entered_lie places e waiting is point locals room n known_many grown copied after callers counts le
    fits is_grown is_copied is_emptied one_more =
    let k = known places e waiting is in
    let g : Frame = frame_at places e in
    let frames : List Frame = map (frame_at places) waiting in
    let arguments : List MVal = last_operands n g in
    let more : ℕ = locals + room in
    let from : ℕ = e.top - n in
    let passed : Places = map Some arguments in
    let many : length arguments ≡ n =
    omega (arith, length-reverse (take n g.operands), length-take n g.operands) in
    let added : grown ≡ places ++ nothings more =
    is_grown ∙ grown_is places e.end locals room known_many counts k.many in
    let copies : copied ≡ places ++ (passed ++ nothings (more - n)) =
    is_copied
    ∙ ap (λ (xs : Places). paste xs e.end (drop from xs) (e.top - from)) added
    ∙ ap (λ (i : ℕ). paste (places ++ nothings more) i (drop from (places ++ nothings more))
    (e.top - from)) (sym k.many)
    ∙ row_copied (all_places frames) g.locals g.operands g.free n from e.top more places le
    (omega arith) (omega (arith, k.base, k.floor, k.top)) (omega (arith, k.top)) k.placed in
    let before : Places = take from places ++ (nothings (e.top - from) ++ drop e.top places) in
    let p = popped_lie places e waiting is n before refl le in
    let k2 = known before (record e { top = from }) waiting (laid _ _ _ _ _ p) in
    let start : length (all_places (popped n g ∷ frames)) ≡ e.end =
    sym (ap (λ (xs : Places). length xs) p.placed) ∙ k2.many in
    let f : Frame = entered point arguments locals room in
    let locals_many : length f.locals ≡ locals =
    omega (
      arith,
      length-append passed (nothings (locals - length arguments)),
      length-held arguments,
      length-replicate (locals - length arguments) no_value,
      many,
    ) in
    record {
      placed =
          is_emptied
          ∙ ap (λ (xs : Places). take from xs ++ (nothings (e.top - from) ++ drop e.top xs)) copies
          ∙ emptied_front places (passed ++ nothings (more - n)) from e.top (omega arith)
          (omega (arith, k.many, k.end))
          ∙ ap (λ (xs : Places). xs ++ (passed ++ nothings (more - n))) p.placed
          ∙ ap (λ (xs : Places). all_places (popped n g ∷ frames) ++ xs)
          (entered_places arguments locals room n many fits);
      extended =
          extent_is (extent point e.end (e.end + locals) (e.end + locals) (e.end + locals + room)) f
          (length (all_places (popped n g ∷ frames))) refl (sym start) (omega (arith, locals_many))
          (omega arith) refl;
      below =
          one_more
          ∙ ap (λ (d : Extent). d ∷ waiting) p.extended
          ∙ ap (λ (ds : List Extent). extent_of (popped n g) (length (all_places frames)) ∷ ds)
          p.below;
    }
  where
    grown_is : (places : Places) (end locals room many : ℕ) → many ≡ length places
        → length places ≡ end
        → take (end + locals + room) places ++ nothings (end + locals + room - many)
        ≡ places ++ nothings (locals + room)
    grown_is places end locals room many counts all =
        let more : end + locals + room - many ≡ locals + room = omega arith in
        ap (λ (xs : Places). xs ++ nothings (end + locals + room - many))
        (take_all (end + locals + room) places (omega arith))
        ∙ ap (λ (n : ℕ). places ++ nothings n) more

    entered_places : (arguments : List MVal) (locals room n : ℕ) → length arguments ≡ n → n ≤ locals
        → map Some arguments ++ nothings (locals + room - n)
        ≡ first_locals locals arguments ++ nothings room
    entered_places arguments locals room n many fits =
        let passed : Places = map Some arguments in
        let split : locals + room - n ≡ (locals - length arguments) + room = omega arith in
        ap (λ (m : ℕ). passed ++ nothings m) split
        ∙ ap (λ (xs : Places). passed ++ xs)
        (sym (replicate-append-replicate (locals - length arguments) room None))
        ∙ sym (append_assoc passed (nothings (locals - length arguments)) (nothings room))
