-- The places of all frames as their stack has them.
use Rattle.std.proofs.Common.{◌≡◌, ◌-◌, ◌<◌, true, List, [], ◌∷◌, ◌++◌, map, reverse, replicate}
use Rattle.std.proofs.Common.{length, Option, Some, None, refl, sym, ap, ap₂, ◌∙◌, arith}
use Rattle.std.specs.List.{flat_map}
use Rattle.std.proofs.lemmas.List.{reverse-append, append-nil}
use Rattle.std.proofs.lemmas.List.Concat.{flat_map-append}
use Rattle.par_class.specs.declared.file.ClassFile.{ClassFile}
use Rattle.par_values.specs.declared.value.MVal.{MVal}
use Rattle.par_stack.specs.Frames as stack
use Rattle.par_unwinding.specs.Shown.{frame_of, frames_of}
use Rattle.par_method_area.specs.par_step_laws.Places as places
use Rattle.par_machine.specs.Frames.{code_of, are_sound, Stands}
use Rattle.par_machine.proofs.Sound.{first_stands, rest}

places_of : (files : List ClassFile) (f : stack.Frame) → Stands files f
    → stack.frame_places f ≡ places.frame_places files (frame_of f)
places_of files f stands =
    let free : f.free ≡ (code_of files f.point).max_stack - length f.operands =
    omega (arith, stands.room) in
    ap (λ n. f.locals ++ (map Some (reverse f.operands) ++ replicate n None)) free

places_are : (files : List ClassFile) (frames : List stack.Frame)
    → are_sound files frames ≡ true
    → stack.all_places frames ≡ places.all_places files (frames_of frames)
unfolding stack.all_places
places_are files [] sound = refl
places_are files (f ∷ frames) sound =
    ap₂ (λ (xs ys : List (Option MVal)). xs ++ ys)
    (places_are files frames (rest files f frames sound))
    (places_of files f (first_stands files (f ∷ frames) (omega arith) sound))
    ∙ sym (all_more f frames)
  where
    all_more : (f : stack.Frame) (frames : List stack.Frame)
        → places.all_places files (frames_of (f ∷ frames))
        ≡ places.all_places files (frames_of frames) ++ places.frame_places files (frame_of f)
    all_more f frames =
        ap (flat_map (places.frame_places files))
        (reverse-append (frame_of f ∷ []) (frames_of frames))
        ∙ flat_map-append (places.frame_places files) (reverse (frames_of frames)) (frame_of f ∷ [])
        ∙ ap (λ (xs : List (Option MVal)). places.all_places files (frames_of frames) ++ xs)
        (append-nil (places.frame_places files (frame_of f)))

-- the frame that runs, and those that wait
pub shown_places : (files : List ClassFile) (frames : List stack.Frame) → 0 < length frames
    → are_sound files frames ≡ true
    → stack.all_places frames
    ≡ places.all_places files (frame_of (stack.running frames) ∷ frames_of (stack.waiting frames))
shown_places files [] some sound = absurd (omega arith)
shown_places files (f ∷ frames) some sound = places_are files (f ∷ frames) sound
