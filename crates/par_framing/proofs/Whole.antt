-- Placed code, with its frames or without them.
use Rattle.std.proofs.Common.{◌≡◌, ℕ, ◌+◌, Bool, true, false, List, [], ◌++◌, refl, sym, subst}
use Rattle.std.proofs.Common.{arith}
use Rattle.std.specs.Prelude.{slice_index}
use Rattle.std.proofs.lemmas.Bool.{false≢true}
use Rattle.std.proofs.lemmas.Slice.Zip.{AllZip-long}
use Rattle.par_pool.specs.declared.constant.Constant.{Constant}
use Rattle.par_pool.specs.Growth.{Adds}
use Rattle.par_class.specs.declared.file.CodeAttr.{CodeAttr}
use Rattle.par_values.specs.Areas.{Name}
use Rattle.par_code_form.specs.declared.labelled.Labelled.{Labelled}
use Rattle.par_frames.specs.Room.{HasRoom, SPARE}
use Rattle.par_place.specs.par_code_form.PoolNames.{Names, IsConstantOf, entry_count}
use Rattle.par_place.specs.par_code_form.Placed.{IsPlaced}
use Rattle.par_place.specs.par_code_form.PlaceableFrames.{AreFramesPlaceable}
use Rattle.par_place.specs.Labels.{IsPlacedAt}
use Rattle.par_compile_laws.specs.Framed.{frames_with, AreAttributes}
use Rattle.par_compile_laws.specs.Framed.{IsPlacedWith, frame_classes}
use Rattle.par_compile_laws.specs.Framed.{classes_with, entries_with}
use Rattle.par_framing.specs.Added.{HasLabelOffsets, spare_with}
use Rattle.par_framing.proofs.Kept.{HasParts, placed_kept, room_behind}
use Rattle.par_framing.proofs.Written.{frames_same}

-- ---- the code

pub placed_plain : (frames : Bool) (pool : List Constant) (code : Labelled) (attr : CodeAttr)
    → frames ≡ false → IsPlaced pool code attr → IsPlacedWith frames pool code attr
placed_plain true pool code attr e p = absurd (false≢true (sym e))
placed_plain false pool code attr e p = record {
  placed_ = record {
    indices = p.indices;
    named = p.named;
    writable = p.writable;
    bytes = p.bytes;
    catches = p.catches;
    max_stack = p.max_stack;
    max_locals = p.max_locals;
    attributes = refl;
  };
  attributes = p.attributes;
}

pub placed_framed : (frames : Bool) (old new more : List Constant) (code : Labelled)
    (attr is : CodeAttr) (offsets : List ℕ) → frames ≡ true → new ≡ old ++ more
    → HasParts attr is → IsPlacedAt old code attr offsets → AreFramesPlaceable code
    → AreAttributes new code (frames_with (slice_index offsets) code) is.attributes
    → IsPlacedWith frames new code is
unfolding placed_kept
placed_framed true old new more code attr is offsets e behind same p can are = record {
  placed_ =
      placed_kept old new more behind code attr (record is { attributes = [] })
      (record {
        code = same.code;
        catches = same.catches;
        max_stack = same.max_stack;
        max_locals = same.max_locals;
      })
      refl p.placed_;
  attributes =
      subst (λ fs. AreAttributes new code fs is.attributes)
      (frames_same code p.placed_.indices offsets can p.labels) are;
}
placed_framed false old new more code attr is offsets e behind same p can are =
    absurd (false≢true e)

-- the offsets of its labels
pub label_offsets : (pool : List Constant) (code : Labelled) (attr : CodeAttr)
    (offsets : List ℕ) → IsPlacedAt pool code attr offsets → HasLabelOffsets code offsets
label_offsets pool code attr offsets p = record {
  indices = p.placed_.indices;
  paired = sym (AllZip-long (Names pool) code.items p.placed_.indices p.placed_.named);
  labels = p.labels;
  small = p.small;
}

-- ---- room

pub room_framed : (frames : Bool) (old new : List Constant) (code : Labelled) → frames ≡ true
    → Adds old new (entry_count code) (IsConstantOf new code)
    → HasRoom old (entries_with frames code + spare_with frames) (classes_with frames code)
    → HasRoom new (1 + SPARE) (frame_classes code)
room_framed true old new code e a h =
    room_behind old new a.more a.behind (entry_count code) ((entry_count code + 1) + SPARE)
    (1 + SPARE) a.number (omega arith) (frame_classes code) h
room_framed false old new code e a h = absurd (false≢true e)

pub room_plain : (frames : Bool) (old new : List Constant) (code : Labelled) → frames ≡ false
    → Adds old new (entry_count code) (IsConstantOf new code) → (spare : ℕ) (later : List Name)
    → HasRoom old (entries_with frames code + spare) (classes_with frames code ++ later)
    → HasRoom new spare later
room_plain true old new code e a spare later h = absurd (false≢true (sym e))
room_plain false old new code e a spare later h =
    room_behind old new a.more a.behind (entry_count code) ((entry_count code + 0) + spare) spare
    a.number (omega arith) later h

-- room for later ones, behind the code and before its frames
pub room_between : (frames : Bool) (old new : List Constant) (code : Labelled) → frames ≡ true
    → Adds old new (entry_count code) (IsConstantOf new code) → (spare : ℕ) (later : List Name)
    → HasRoom old (entries_with frames code + spare) (classes_with frames code ++ later)
    → HasRoom new (1 + spare) (frame_classes code ++ later)
room_between true old new code e a spare later h =
    room_behind old new a.more a.behind (entry_count code) ((entry_count code + 1) + spare)
    (1 + spare) a.number (omega arith) (frame_classes code ++ later) h
room_between false old new code e a spare later h = absurd (false≢true e)
