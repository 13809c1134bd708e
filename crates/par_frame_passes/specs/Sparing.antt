-- Handlers that have met the locals of a frame, and need not meet those below them.
use Rattle.std.specs.Prelude.{◌≡◌, ℕ, ◌<◌, Bool, true, false, List, length, Option, Some}
use Rattle.std.specs.Prelude.{None, slice_index_or}
use Rattle.par_instr.specs.declared.instr.Instr.{Instr}
use Rattle.par_class.specs.declared.file.Catch.{Catch}
use Rattle.par_class.specs.declared.file.CodeAttr.{CodeAttr}
use Rattle.par_values.specs.Areas.{Name}
use Rattle.par_frame_moves.specs.par_kinds.declared.frame.VKind.{VKind}
use Rattle.par_frame_moves.specs.par_kinds.Kinds.{KFrame, Each}
use Rattle.par_frame_moves.specs.par_kinds.Acts.{Act}
use Rattle.par_frame_moves.specs.par_kinds.Fits.{around, CatchFits}
use Rattle.par_kinds.specs.Passes.{Table, frame_at, all_into}

-- neither a handler begins at an offset nor what it handles
abbrev pub Apart : ℕ → Catch → Type 0
Apart at c = (c.start ≡ at → ⊥) × (c.handler ≡ at → ⊥)

-- all offsets are marked at which one of these handlers begins or what it handles
abbrev pub AreMarked : List Catch → ℕ → List Bool → Type 0
AreMarked cs many marks =
    (length marks ≡ many)
    × ((at : ℕ) → at < many → slice_index_or marks at false ≡ false → Each (Apart at) cs)

-- locals fit into those of a frame, if it is said
abbrev pub IsBelow : List Name → Bool → List VKind → Option KFrame → Type 0
IsBelow exc false ks o = Unit {0}
IsBelow exc true ks None = ⊥
IsBelow exc true ks (Some f) = all_into exc ks f.locals ≡ true

module _ (exc : List Name) (act : Instr → Act) (handler_kind : Catch → VKind)
    (code : CodeAttr) where
  -- all handlers around an offset take the locals of a frame, where there is one
  abbrev pub Spares : ℕ → Table → Option KFrame → Type 0
  Spares at t None = Unit {0}
  Spares at t (Some k) =
      Each (λ c. around at c ≡ true → CatchFits exc act handler_kind code (frame_at t) k c)
      code.catches

  -- so they do, and none of them begins there
  abbrev pub SparesApart : ℕ → Table → Option KFrame → Type 0
  SparesApart at t None = Unit {0}
  SparesApart at t (Some k) =
      Each (λ c. around at c ≡ true →
      CatchFits exc act handler_kind code (frame_at t) k c × (c.handler ≡ at → ⊥))
      code.catches

  -- those do that were around the offset before it, too
  abbrev pub SparesBehind : ℕ → Table → Option KFrame → Type 0
  SparesBehind at t None = Unit {0}
  SparesBehind at t (Some k) =
      Each (λ c. c.start < at → at < c.end →
      CatchFits exc act handler_kind code (frame_at t) k c)
      code.catches
