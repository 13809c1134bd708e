-- Frames that lie in a row of places: they are the frames of their extents.
use Rattle.std.proofs.Common.{◌≡◌, ℕ, ◌+◌, List, [], ◌∷◌, ◌++◌, length, map, drop, reverse}
use Rattle.std.proofs.Common.{replicate, Option, Some, None, refl, sym, ap, ◌∙◌, append_assoc}
use Rattle.std.proofs.Common.{length-append, arith}
use Rattle.std.specs.Prelude.{option_to_list}
use Rattle.std.specs.List.{flat_map, between}
use Rattle.std.proofs.lemmas.List.{append-nil, reverse-reverse, length-replicate}
use Rattle.par_values.specs.declared.value.MVal.{MVal}
use Rattle.par_stack.specs.declared.point.Point.{Point}
use Rattle.par_stack.specs.declared.point.Extent.{Extent}
use Rattle.par_stack.specs.Frames.{Frame, frame_places, all_places, running}
use Rattle.par_stack.specs.Layout.{Places, extent_of, extents, frame_at, frames_at, IsLaid}
use Rattle.par_stack.proofs.Rows.{middle, values, length-places}

-- a frame and those that wait for it lie so
pub record Lie (f : Frame) (frames : List Frame) (places : Places) (e : Extent)
    (waiting : List Extent) : Type 0 where
  pub placed : places ≡ all_places frames ++ frame_places f
  pub extended : e ≡ extent_of f (length (all_places frames))
  pub below : waiting ≡ extents frames

made : Point → Places → List MVal → ℕ → Frame
made point locals operands free =
    record { point = point; locals = locals; operands = operands; free = free }

same_frame : (f : Frame) (locals : Places) (operands : List MVal) (free : ℕ) → locals ≡ f.locals
    → operands ≡ f.operands → free ≡ f.free
    → record { point = f.point; locals = locals; operands = operands; free = free } ≡ f
unfolding made
same_frame f locals operands free p q r =
    ap (λ (ls : Places). made f.point ls operands free) p
    ∙ ap (λ (vs : List MVal). made f.point f.locals vs free) q
    ∙ ap (λ (n : ℕ). made f.point f.locals f.operands n) r

-- the frame of the places of a frame
frame_found : (xs zs : Places) (f : Frame)
    → frame_at (xs ++ (frame_places f ++ zs)) (extent_of f (length xs)) ≡ f
frame_found xs zs f =
    let values_are : Places = map Some (reverse f.operands) in
    let behind : Places = replicate f.free None ++ zs in
    let split : frame_places f ++ zs ≡ f.locals ++ (values_are ++ behind) =
    append_assoc f.locals (values_are ++ replicate f.free None) zs
    ∙ ap (λ (ys : Places). f.locals ++ ys) (append_assoc values_are (replicate f.free None) zs) in
    let whole : xs ++ (frame_places f ++ zs) ≡ xs ++ (f.locals ++ (values_are ++ behind)) =
    ap (λ (ys : Places). xs ++ ys) split in
    let e : Extent = extent_of f (length xs) in
    let locals_are : between e.base e.floor (xs ++ (frame_places f ++ zs)) ≡ f.locals =
    ap (between e.base e.floor) whole
    ∙ middle xs f.locals (values_are ++ behind) e.base e.floor refl refl in
    let again : xs ++ (f.locals ++ (values_are ++ behind)) ≡ (xs ++ f.locals)
    ++ (values_are ++ behind) = sym (append_assoc xs f.locals (values_are ++ behind)) in
    let operands_are : between e.floor e.top (xs ++ (frame_places f ++ zs)) ≡ values_are =
    ap (between e.floor e.top) (whole ∙ again)
    ∙ middle (xs ++ f.locals) values_are behind e.floor e.top
    (omega (arith, length-append xs f.locals)) (omega (arith, length-places f.operands)) in
    let found : flat_map option_to_list (between e.floor e.top (xs ++ (frame_places f ++ zs)))
    ≡ reverse f.operands =
    ap (flat_map option_to_list) operands_are ∙ values (reverse f.operands) in
    same_frame f _ _ _ locals_are
    (ap (λ (vs : List MVal). reverse vs) found ∙ reverse-reverse f.operands) (omega arith)

-- so do the frames of their extents
all_found : (frames : List Frame) (zs : Places)
    → map (frame_at (all_places frames ++ zs)) (extents frames) ≡ frames
unfolding all_places extents
all_found [] zs = refl
all_found (f ∷ frames) zs =
    let split : all_places (f ∷ frames) ++ zs ≡ all_places frames ++ (frame_places f ++ zs) =
    append_assoc (all_places frames) (frame_places f) zs in
    ap (λ (xs : Places). map (frame_at xs) (extents (f ∷ frames))) split
    ∙ ap (λ (g : Frame). g ∷ map (frame_at (all_places frames ++ (frame_places f ++ zs)))
    (extents frames)) (frame_found (all_places frames) zs f)
    ∙ ap (λ (gs : List Frame). f ∷ gs) (all_found frames (frame_places f ++ zs))

-- frames that lie so are those that are seen
pub seen : (f : Frame) (frames : List Frame) (places : Places) (e : Extent) (waiting : List Extent)
    → Lie f frames places e waiting → frames_at places e waiting ≡ f ∷ frames
unfolding all_places extents
seen f frames places e waiting lie =
    let whole : places ≡ all_places (f ∷ frames) ++ [] =
    lie.placed ∙ sym (append-nil (all_places (f ∷ frames))) in
    let extents_are : e ∷ waiting ≡ extents (f ∷ frames) =
    ap (λ (d : Extent). d ∷ waiting) lie.extended
    ∙ ap (λ (ds : List Extent). extent_of f (length (all_places frames)) ∷ ds) lie.below in
    ap (λ (ds : List Extent). map (frame_at places) ds) extents_are
    ∙ ap (λ (xs : Places). map (frame_at xs) (extents (f ∷ frames))) whole
    ∙ all_found (f ∷ frames) []

-- and they are laid
pub laid : (f : Frame) (frames : List Frame) (places : Places) (e : Extent) (waiting : List Extent)
    → Lie f frames places e waiting → IsLaid places e waiting
unfolding all_places extents
laid f frames places e waiting lie =
    let same = seen f frames places e waiting lie in
    record {
      placed = lie.placed ∙ ap (λ (gs : List Frame). all_places gs) (sym same);
      extended =
          ap (λ (d : Extent). d ∷ waiting) lie.extended
          ∙ ap (λ (ds : List Extent). extent_of f (length (all_places frames)) ∷ ds) lie.below
          ∙ ap (λ (gs : List Frame). extents gs) (sym same);
    }

-- ---- what is known of extents that are laid

none : Option MVal
none = None

abbrev pub first : Extent → List Extent → Extent
first d [] = d
first d (e ∷ extents) = e

pub record Known (places : Places) (e : Extent) (waiting : List Extent) : Type 0 where
  pub placed : places ≡ all_places (map (frame_at places) waiting)
      ++ frame_places (frame_at places e)
  pub below : waiting ≡ extents (map (frame_at places) waiting)
  pub base : e.base ≡ length (all_places (map (frame_at places) waiting))
  pub floor : e.floor ≡ e.base + length (frame_at places e).locals
  pub top : e.top ≡ e.floor + length (frame_at places e).operands
  pub end : e.end ≡ e.top + (frame_at places e).free
  pub many : length places ≡ e.end

pub known : (places : Places) (e : Extent) (waiting : List Extent) → IsLaid places e waiting
    → Known places e waiting
unfolding all_places extents none
known places e waiting is =
    let f : Frame = frame_at places e in
    let frames : List Frame = map (frame_at places) waiting in
    let held : Places = map Some (reverse f.operands) in
    let one : e ≡ extent_of f (length (all_places frames)) = ap (first e) is.extended in
    let base_is : e.base ≡ length (all_places frames) = ap (λ (d : Extent). d.base) one in
    let floor_is : e.floor ≡ length (all_places frames) + length f.locals =
    ap (λ (d : Extent). d.floor) one in
    let top_is : e.top ≡ length (all_places frames) + length f.locals + length f.operands =
    ap (λ (d : Extent). d.top) one in
    let end_is : e.end ≡ length (all_places frames) + length f.locals + length f.operands + f.free =
    ap (λ (d : Extent). d.end) one in
    let many_are : length places ≡ length (all_places frames ++ frame_places f) =
    ap (λ (xs : Places). length xs) is.placed in
    record {
      placed = is.placed;
      below = ap (λ (ds : List Extent). drop 1 ds) is.extended;
      base = base_is;
      floor = omega (arith, base_is, floor_is);
      top = omega (arith, floor_is, top_is);
      end = omega (arith, top_is, end_is);
      many =
          omega (
            arith,
            many_are,
            end_is,
            length-append (all_places frames) (frame_places f),
            length-append f.locals (held ++ replicate f.free None),
            length-append held (replicate f.free None),
            length-places f.operands,
            length-replicate f.free none,
          );
    }

-- the numbers of an extent, by the frames that are seen
pub record Counted (places : Places) (e : Extent) (frames : List Frame) : Type 0 where
  pub locals : e.floor ≡ e.base + length (running frames).locals
  pub count : e.top ≡ e.floor + length (running frames).operands
  pub free : e.end ≡ e.top + (running frames).free
  pub many : length places ≡ e.end

pub counted : (places : Places) (e : Extent) (waiting : List Extent) (frames : List Frame)
    → IsLaid places e waiting → frames_at places e waiting ≡ frames → Counted places e frames
counted places e waiting frames is view =
    let k = known places e waiting is in
    record {
      locals = omega (arith, k.floor, ap (λ (fs : List Frame). length (running fs).locals) view);
      count = omega (arith, k.top, ap (λ (fs : List Frame). length (running fs).operands) view);
      free = omega (arith, k.end, ap (λ (fs : List Frame). (running fs).free) view);
      many = k.many;
    }
