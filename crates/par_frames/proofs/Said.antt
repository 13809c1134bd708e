-- The forms of frames whose classes have their indices say these frames.
use Rattle.std.proofs.Common.{◌≡◌, ℕ, ◌+◌, ◌≤◌, suc, List, [], ◌∷◌, length, map, refl, sym, ap}
use Rattle.std.proofs.Common.{subst, ◌∙◌, arith, ◌++◌}
use Rattle.std.proofs.lemmas.List.{length-map}
use Rattle.std.proofs.lemmas.Slice.Zip.{AllZip-long}
use Rattle.par_frame_forms.specs.par_pool.Spelling.{u2}
use Rattle.par_frame_forms.specs.Spelled.{spelled_all}
use Rattle.par_kinds.specs.declared.frame.VKind.{VKind}
use Rattle.std.specs.List.{AllZip, AllByRecursion}
use Rattle.par_frame_forms.specs.par_pool.declared.constant.Constant.{Constant}
use Rattle.par_frame_forms.specs.declared.form.PlaceType.{PlaceType}
use Rattle.par_frame_forms.proofs.Shortest.{written_is_shortest}
use Rattle.par_kinds.specs.declared.frame.PlacedFrame.{PlacedFrame}
use Rattle.par_frames.specs.declared.indexed.IndexedFrame.{IndexedFrame}
use Rattle.par_frames.specs.Attribute.{AreSaid, IsListed, IsAttribute, first_locals}
use Rattle.par_frames.specs.Room.{Ascend, offsets}
use Rattle.par_frames.specs.Forms.{IsIndexed, IndexedFits, said_from, listed_by}
use Rattle.par_frames.specs.Forms.{forms_from}

pub same_offsets : (pool : List Constant) (fs : List PlacedFrame) (placed : List IndexedFrame)
    → AllZip (IsIndexed pool) fs placed → map (λ i. i.offset) placed ≡ offsets fs
same_offsets pool [] [] h = refl
same_offsets pool [] (i ∷ placed) h = absurd h
same_offsets pool (f ∷ fs) [] h = absurd h
same_offsets pool (f ∷ fs) (i ∷ placed) h =
    ap (λ (at : ℕ). at ∷ map (λ i. i.offset) placed) h.0.offset
    ∙ ap (λ (ats : List ℕ). f.offset ∷ ats) (same_offsets pool fs placed h.1)

-- offsets that ascend are few
pub few_offsets : (from : ℕ) (ats : List ℕ) → from ≤ 65535 → Ascend from ats
    → from + length ats ≤ 65535
few_offsets from [] le h = omega (arith, le)
few_offsets from (at ∷ ats) le h =
    omega (arith, h.0, few_offsets (at + 1) ats (omega (arith, h.1)) h.2)

pub length_forms : (from : ℕ) (listed : List PlaceType) (placed : List IndexedFrame)
    → length (forms_from from listed placed) ≡ length placed
unfolding forms_from
length_forms from listed [] = refl
length_forms from listed (i ∷ placed) =
    ap (λ (n : ℕ). suc n)
    (length_forms (i.offset + 1) (listed_by listed (said_from from i)) placed)

pub are_said : (pool : List Constant) (from : ℕ) (listed : List PlaceType) (fs : List PlacedFrame)
    (placed : List IndexedFrame) → AllZip (IsIndexed pool) fs placed
    → AllByRecursion IndexedFits placed → Ascend from (offsets fs)
    → AreSaid pool from listed fs (forms_from from listed placed)
unfolding forms_from
are_said pool from listed [] [] h fit up = refl
are_said pool from listed [] (i ∷ placed) h fit up = absurd h
are_said pool from listed (f ∷ fs) [] h fit up = absurd h
are_said pool from listed (f ∷ fs) (i ∷ placed) h fit up = (
  said_from from i,
  record {
    delta = omega (arith, h.0.offset, up.0);
    locals = h.0.locals;
    stack = h.0.stack;
  },
  written_is_shortest listed (said_from from i) (record {
    delta = omega (arith, h.0.offset, up.1);
    few = fit.0.few;
    locals = fit.0.locals;
    low = fit.0.low;
    stack = fit.0.stack;
  }),
  subst
      (λ (at : ℕ). AreSaid pool (f.offset + 1) (listed_by listed (said_from from i)) fs
      (forms_from (at + 1) (listed_by listed (said_from from i)) placed))
      (sym h.0.offset)
      (are_said pool (f.offset + 1) (listed_by listed (said_from from i)) fs placed h.1 fit.1 up.2),
)

-- ---- the attribute

pub same_length : (pool : List Constant) (s fs t : List PlacedFrame) (placed u : List IndexedFrame)
    → s ≡ fs → t ≡ fs → u ≡ placed → AllZip (IsIndexed pool) s placed → length u ≡ length t
same_length pool s fs t placed u e g k h =
    ap (λ (x : List IndexedFrame). length x) k ∙ AllZip-long (IsIndexed pool) s placed h
    ∙ ap (λ (x : List PlacedFrame). length x) (e ∙ sym g)

pub few_placed : (pool : List Constant) (s fs : List PlacedFrame) (placed : List IndexedFrame)
    → s ≡ fs → AllZip (IsIndexed pool) s placed → Ascend 0 (offsets fs)
    → length placed ≤ 65535
few_placed pool s fs placed e h up =
    let zip : AllZip (IsIndexed pool) fs placed =
    subst (λ (x : List PlacedFrame). AllZip (IsIndexed pool) x placed) e h in
    let few : 0 + length (offsets fs) ≤ 65535 = few_offsets 0 (offsets fs) (omega arith) up in
    omega (
      arith,
      few,
      AllZip-long (IsIndexed pool) fs placed zip,
      length-map fs (λ (f : PlacedFrame). f.offset),
    )

pub placed_ascend : (pool : List Constant) (s fs : List PlacedFrame) (placed u : List IndexedFrame)
    → s ≡ fs → u ≡ placed → AllZip (IsIndexed pool) s placed → Ascend 0 (offsets fs)
    → Ascend 0 (map (λ i. i.offset) u)
placed_ascend pool s fs placed u e k h up =
    subst (λ (ats : List ℕ). Ascend 0 ats)
    (sym (ap (λ (x : List IndexedFrame). map (λ i. i.offset) x) k
    ∙ same_offsets pool s placed h ∙ ap (λ (x : List PlacedFrame). offsets x) e))
    up

pub attribute : (pool : List Constant) (start : List VKind) (s t fs : List PlacedFrame)
    (placed u v : List IndexedFrame) (listed w : List PlaceType) (old mid out : List ℕ) (n : ℕ)
    → s ≡ fs → t ≡ fs → u ≡ placed → v ≡ placed → w ≡ listed → AllZip (IsIndexed pool) s placed
    → AllByRecursion IndexedFits placed → Ascend 0 (offsets fs)
    → (AllZip (IsIndexed pool) t u → AllZip (IsListed pool (first_locals t)) start listed)
    → n ≡ length placed → old ≡ [] → mid ≡ old ++ u2 n
    → out ≡ mid ++ spelled_all (forms_from 0 w v) → IsAttribute pool start fs out
attribute pool start s t fs placed u v listed w old mid out n e-s e-t e-u e-v e-w h fit up list
    is-n is-old is-mid is-out =
    let zip : AllZip (IsIndexed pool) fs placed =
    subst (λ (x : List PlacedFrame). AllZip (IsIndexed pool) x placed) e-s h in
    record {
      listed = listed;
      forms = forms_from 0 listed placed;
      begins =
          subst (λ (x : List PlacedFrame). AllZip (IsListed pool (first_locals x)) start listed) e-t
          (list
          (subst (λ (x : List PlacedFrame). AllZip (IsIndexed pool) x u) (sym e-t)
          (subst (λ (y : List IndexedFrame). AllZip (IsIndexed pool) fs y) (sym e-u) zip)));
      said = are_said pool 0 listed fs placed zip fit up;
      spelled =
          is-out
          ∙ ap (λ (m : List ℕ). m ++ spelled_all (forms_from 0 w v))
          (is-mid ∙ ap (λ (o : List ℕ). o ++ u2 n) is-old)
          ∙ ap (λ (ts : List PlaceType). u2 n ++ spelled_all (forms_from 0 ts v)) e-w
          ∙ ap (λ (y : List IndexedFrame). u2 n ++ spelled_all (forms_from 0 listed y)) e-v
          ∙ ap (λ (k : ℕ). u2 k ++ spelled_all (forms_from 0 listed placed))
          (is-n ∙ sym (length_forms 0 listed placed));
    }
