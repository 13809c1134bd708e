-- The frames along placed code.
use Rattle.std.specs.Prelude.{ℕ, ◌+◌, ◌==◌, ℤ, if◌then◌else◌, List, [], ◌∷◌, Option, Some}
use Rattle.std.specs.Prelude.{None}
use Rattle.par_code_form.specs.declared.item.Item.{Item}
use Rattle.par_code_form.specs.declared.item.Item.TheVariants.{Label}
use Rattle.par_code_form.specs.Placed.{size}
use Rattle.par_kinds.specs.Kinds.{KFrame}
use Rattle.par_kinds.specs.Acts.{Act, Flow, Onward, Jumps, Branches, Nowhere}
use Rattle.par_placed_fit_laws.specs.Walks.{Sign, behind_label, behind_flow, left}

-- with this distance where it goes by a label
abbrev pub aim : ℤ → Flow → Flow
aim to Onward = Onward
aim to (Jumps z) = Jumps to
aim to (Branches z) = Branches to
aim to Nowhere = Nowhere

abbrev pub aimed : ℤ → Act → Act
aimed to a = record {
  wrong = a.wrong;
  takes = a.takes;
  also = a.also;
  leaves = a.leaves;
  flow = aim to a.flow;
}

-- what lies behind an instruction that finds this
abbrev pub behind_act : Act → Option KFrame → Option KFrame
behind_act a None = None
behind_act a (Some k) = behind_flow a.flow (left a k)

module _ (at : ℕ → Sign) (act : Item → Act) where
  -- what lies at an offset, where items with these indices stand from an offset on and this comes
  abbrev pub given_from : List Item → List ℕ → ℕ → Option KFrame → ℕ → Option KFrame
  given_from [] indices from m o = None
  given_from (item ∷ items) [] from m o = None
  given_from (Label l ∷ items) (index ∷ indices) from m o =
      given_from items indices from (behind_label (at l).frame m) o
  given_from (item ∷ items) (index ∷ indices) from m o =
      if from == o then m
      else given_from items indices (from + size item index) (behind_act (act item) m) o
