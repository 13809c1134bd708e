-- Frames of kinds that fit labelled code, item by item.
use Rattle.std.specs.Prelude.{◌≡◌, ℕ, ◌≤◌, true, List, [], ◌∷◌, drop, length}
use Rattle.std.specs.Prelude.{Option, Some, None}
use Rattle.par_values.specs.Areas.{Name}
use Rattle.par_code_form.specs.declared.item.Item.{Item}
use Rattle.par_code_form.specs.declared.item.Item.TheVariants.{Label, Jump}
use Rattle.par_code_form.specs.declared.labelled.Handler.{Handler}
use Rattle.par_compile_laws.specs.par_kinds.declared.frame.VKind.{VKind}
use Rattle.par_compile_laws.specs.par_kinds.declared.frame.VKind.TheVariants.{Object as AnObject}
use Rattle.par_compile_laws.specs.par_kinds.Kinds.{KFrame, Into, Both, Each, FrameInto}
use Rattle.par_compile_laws.specs.par_kinds.Acts.{Act, ActFits, Flow, Onward, Jumps, Branches}
use Rattle.par_compile_laws.specs.par_kinds.Acts.{Nowhere, left_by}
use Rattle.par_evaluation_laws.specs.par_match_laws.Labelled.{is_there}

-- what a label is to the handlers of code
pub data Role : Type 0 where
  Plain : Role
  -- up to that label locals stay within these
  Opens : (to : ℕ) → List VKind → Role
  -- the range that was opened last ends
  Closes : Role
  -- a handler, and an instruction stands behind it at once
  Catches : Role

-- what a label is to frames
pub record Sign : Type 0 where
  -- what lies there, where a branch or an exception comes to it
  pub frame : Option KFrame
  pub role : Role

-- a range that is open: the label where it ends, and what locals stay within
pub record Guard : Type 0 where
  pub to : ℕ
  pub locals : List VKind

-- the ranges that are open behind a label
abbrev pub opened : Role → List Guard → List Guard
opened Plain guards = guards
opened (Opens to locals) guards = record { to = to; locals = locals } ∷ guards
opened Closes guards = drop 1 guards
opened Catches guards = guards

abbrev pub EndsAt : ℕ → List Guard → Type 0
EndsAt l [] = ⊥
EndsAt l (g ∷ guards) = g.to ≡ l

-- a range ends where it is said to, and an instruction is the first of a handler
abbrev pub Plays : Role → ℕ → List Item → List Guard → Type 0
Plays Plain l items guards = Unit {0}
Plays (Opens to locals) l items guards = Unit {0}
Plays Closes l items guards = EndsAt l guards
Plays Catches l items guards = is_there items ≡ true

-- what lies behind a label
abbrev pub behind_label : Option KFrame → Option KFrame → Option KFrame
behind_label None m = m
behind_label (Some f) m = Some f

-- what lies before the first instruction of items
unfoldable pub lands : (ℕ → Sign) → List Item → Option KFrame → Option KFrame
lands at [] m = m
lands at (Label l ∷ items) m = lands at items (behind_label (at l).frame m)
lands at (item ∷ items) m = m

-- the label that an item goes to
abbrev pub goal : Item → Option ℕ
goal (Jump opcode l) = Some l
goal _ = None

-- what lies behind an instruction, where it goes on
abbrev pub behind_flow : Flow → KFrame → Option KFrame
behind_flow Onward k = Some k
behind_flow (Jumps to) k = None
behind_flow (Branches to) k = Some k
behind_flow Nowhere k = None

-- what an instruction leaves
abbrev pub left : Act → KFrame → KFrame
left a k = left_by a.leaves (length a.takes) k

module _ (exc : List Name) (act : Item → Act) (at : ℕ → Sign) (many room : ℕ) where
  -- a frame fits into the one that lies there
  abbrev pub Onto : KFrame → Option KFrame → Type 0
  Onto k None = ⊥
  Onto k (Some f) = FrameInto exc k f

  abbrev pub To : KFrame → Option ℕ → Type 0
  To k None = ⊥
  To k (Some l) = Onto k (at l).frame

  -- what comes, if anything does, fits into what lies there, if anything is said of it
  abbrev pub Meets : Option KFrame → Option KFrame → Type 0
  Meets None f = Unit {0}
  Meets (Some k) None = Unit {0}
  Meets (Some k) (Some f) = FrameInto exc k f

  -- it fits where a branch goes
  abbrev pub Branching : Flow → Item → KFrame → Type 0
  Branching Onward item k = Unit {0}
  Branching (Jumps to) item k = To k (goal item)
  Branching (Branches to) item k = To k (goal item)
  Branching Nowhere item k = Unit {0}

  -- an instruction that finds this
  pub record Does (item : Item) (guards : List Guard) (k : KFrame) : Type 0 where
    pub locals : length k.locals ≡ many
    pub few : length k.stack ≤ room
    pub fits : ActFits exc (act item) k
    pub goes : Branching (act item).flow item (left (act item) k)
    pub kept : Each (λ g. Both (Into exc) k.locals g.locals) guards

  -- Code into which control comes with this frame, or only by its labels. Each instruction is one
  -- that control comes to, and control does not run out.
  unfoldable pub Walks : List Item → List Guard → Option KFrame → Type 0
  Walks [] guards m = m ≡ None
  Walks (Label l ∷ items) guards m =
      Meets m (at l).frame × Plays (at l).role l items guards
      × Walks items (opened (at l).role guards) (behind_label (at l).frame m)
  Walks (item ∷ items) guards None = ⊥
  Walks (item ∷ items) guards (Some k) =
      Does item guards k × Walks items guards (behind_flow (act item).flow (left (act item) k))

  -- A handler's range is opened with what its locals are, and its class is the one operand there.
  pub record IsHandled (h : Handler) : Type 0 where
    pub range : List VKind
    pub opens : (at h.from).role ≡ Opens h.to range
    pub closes : (at h.to).role ≡ Closes
    pub catches : (at h.goes).role ≡ Catches
    pub frame : KFrame
    pub has : (at h.goes).frame ≡ Some frame
    pub locals : Both (Into exc) range frame.locals
    pub operand : frame.stack ≡ AnObject h.class ∷ []
