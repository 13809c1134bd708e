-- Frames of a method, given for some offsets of its code, that fit.
use Rattle.std.specs.Prelude.{◌≡◌, ℕ, ◌≤◌, ℤ, pos, Bool, true, ◌&&◌, nat_le, nat_lt, List, [], ◌∷◌}
use Rattle.std.specs.Prelude.{length, Option, Some}
use Rattle.par_step_laws.specs.par_instr.declared.instr.Instr.{Instr}
use Rattle.par_step_laws.specs.par_instr.Decoding.{Decoded, decoded_at}
use Rattle.par_step_laws.specs.par_class.declared.file.Catch.{Catch}
use Rattle.par_step_laws.specs.par_class.declared.file.CodeAttr.{CodeAttr}
use Rattle.par_step_laws.specs.par_values.Areas.{Name}
use Rattle.par_step_laws.specs.par_single.Walk.{starts_at}
use Rattle.par_kinds.specs.declared.frame.VKind.{VKind}
use Rattle.par_kinds.specs.Kinds.{KFrame, Into, Both, Each, FrameInto}
use Rattle.par_kinds.specs.Acts.{Act, ActFits, left_by, next_offsets}

-- a frame for each offset that has one
abbrev pub Given : Type 0
Given = ℕ → Option KFrame

abbrev pub around : ℕ → Catch → Bool
around at c = nat_le c.start at && nat_lt at c.end

module _ (exc : List Name) (act : Instr → Act) (handler_kind : Catch → VKind) (code : CodeAttr)
    (given : Given) where
  -- a frame can go on at an offset: there is one into which it fits
  pub record GoesTo (k : KFrame) (to : ℤ) : Type 0 where
    pub at : ℕ
    pub is : to ≡ pos at
    pub frame : KFrame
    pub has : given at ≡ Some frame
    pub fits : FrameInto exc k frame

  -- and at a handler, with the exception as its one operand
  pub record CatchFits (k : KFrame) (c : Catch) : Type 0 where
    pub frame : KFrame
    pub has : given c.handler ≡ Some frame
    pub locals : Both (Into exc) k.locals frame.locals
    pub stack : frame.stack ≡ handler_kind c ∷ []

  pub record FitsAt (at : ℕ) (k : KFrame) : Type 0 where
    pub locals : length k.locals ≡ code.max_locals
    pub room : length k.stack ≤ code.max_stack
    pub starts : starts_at code.code at ≡ true
    pub does : Decoded
    pub found : decoded_at code.code at ≡ Some does
    pub fits : ActFits exc (act does.instr) k
    pub goes : Each (GoesTo (left_by (act does.instr).leaves (length (act does.instr).takes) k))
        (next_offsets (act does.instr).flow at does.size)
    pub caught : Each (λ c. around at c ≡ true → CatchFits k c) code.catches

  pub record Fitting (first : KFrame) : Type 0 where
    pub begins : given 0 ≡ Some first
    pub each : (at : ℕ) (k : KFrame) → given at ≡ Some k → FitsAt at k
