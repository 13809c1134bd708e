-- Frames that are told beside those that stand.
use Rattle.std.proofs.Common.{◌≡◌, ℕ, zero, suc, Bool, true, false, ⊎_elim, List, [], ◌∷◌, set}
use Rattle.std.proofs.Common.{get_or, map, is_some, Some, None, refl, sym, ap, subst, ◌∙◌}
use Rattle.std.proofs.Common.{length-set}
use Rattle.std.proofs.lemmas.Option.{same_Some}
use Rattle.par_class.specs.declared.file.Catch.{Catch}
use Rattle.par_class.specs.declared.file.CodeAttr.{CodeAttr}
use Rattle.par_instr.specs.declared.instr.Instr.{Instr}
use Rattle.par_values.specs.Areas.{Name}
use Rattle.par_frame_moves.specs.par_kinds.declared.frame.VKind.{VKind}
use Rattle.par_frame_moves.specs.par_kinds.Kinds.{KFrame}
use Rattle.par_frame_moves.specs.par_kinds.Acts.{Act}
use Rattle.par_frame_moves.specs.par_kinds.Fits.{Given}
use Rattle.par_kinds.specs.Passes.{Table, frame_at, is_sized}
use Rattle.par_frame_passes.specs.Sweeps.{Kept, Settles}
use Rattle.par_frame_passes.specs.Telling.{Tells}
use Rattle.par_frame_passes.proofs.Landed.{frame-same}
use Rattle.par_frame_passes.proofs.Tabled.{put-found, put-others}

module _ (code : CodeAttr) where
  -- nothing is told
  pub tells-none : (t s : Table) → s ≡ t → Tells code t s
  tells-none t s same = subst (λ (r : Table). Tells code t r) (sym same) (record {
    many = refl;
    stays = λ at k e. e;
    sized = λ sized. sized;
  })

  -- one is told after others
  pub tells-then : (t s r : Table) → Tells code t s → Tells code s r → Tells code t r
  tells-then t s r one other = record {
    many = other.many ∙ one.many;
    stays = λ at k e. other.stays at k (one.stays at k e);
    sized = λ sized. other.sized (one.sized sized);
  }

  -- one is told of an offset where none stands
  pub tells-one : (t s : Table) (at : ℕ) (k : KFrame) → frame_at t at ≡ None
      → is_sized code at k ≡ true → s ≡ set t at (Some k) → Tells code t s
  tells-one t s at k none fits is = subst (λ (r : Table). Tells code t r) (sym is) (record {
    many = length-set t at (Some k);
    stays = λ n l e. put-others t at n (Some k) (λ here. clash n l e here) ∙ e;
    sized = λ sized n l e.
        ⊎_elim (λ put. at-place n l put.0 (same_Some k l put.1))
        (λ there. sized n l there) (put-found t at n (Some k) l e);
  })
    where
      clash : (n : ℕ) (l : KFrame) → frame_at t n ≡ Some l → n ≡ at → ⊥
      clash n l e here =
          let both : Some l ≡ None = sym e ∙ ap (frame_at t) here ∙ none in cc both

      at-place : (n : ℕ) (l : KFrame) → n ≡ at → k ≡ l → is_sized code n l ≡ true
      at-place n l here same =
          ap (λ (m : ℕ). is_sized code m l) here ∙ ap (is_sized code at) (sym same) ∙ fits

-- of each offset whether a frame stands there
pub marks-of : (t : Table) (at : ℕ)
    → get_or (map is_some t) at false ≡ is_some (frame_at t at)
unfolding frame_at
marks-of [] at = refl
marks-of (o ∷ t) zero = refl
marks-of (o ∷ t) (suc at) = marks-of t at

-- ---- frames that fit with those that are told

module _ (exc : List Name) (act : Instr → Act) (handler_kind : Catch → VKind) (code : CodeAttr)
    (start : Given) (t s : Table) (kept : Kept exc act handler_kind code start t)
    (tells : Tells code t s) where
  -- they are kept where all frames that stand are told from the start
  pub told-kept : Kept exc act handler_kind code (frame_at s) s
  told-kept = record {
    many = tells.many ∙ kept.many;
    sized = tells.sized kept.sized;
    begins = λ at k e. e;
    lower = λ u fits at k e. (k, fits.starts at k e, frame-same exc k);
  }

  pub told-first : (first : KFrame) → start 0 ≡ Some first → frame_at s 0 ≡ Some first
  told-first first begins = tells.stays 0 first (kept.begins 0 first begins)

  -- such frames are also among those that fit at all
  pub told-settles : (found : Bool) → found ≡ true
      → Settles exc act handler_kind code (frame_at s) found
      → Settles exc act handler_kind code start true
  told-settles false is settles = absurd (cc is)
  told-settles true is settles = (
    settles.0,
    record {
      first = settles.1.first;
      fitting = settles.1.fitting;
      starts = λ at k e. settles.1.starts at k (tells.stays at k (kept.begins at k e));
    },
  )
