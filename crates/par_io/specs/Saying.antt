-- What saying some lines comes to: the status of the call that says them, and what it puts on a
-- sink. Each line is put by one put, one line after another.
use Rattle.std.specs.Prelude.{◌≡◌, ℕ, List, ◌∷◌, ◌++◌, length, Option}
use Rattle.std.specs.List.{concat}
use Rattle.par_io.specs.Causes.{SinkCounts, Rose, raised, raised_by, appended, AppendsFront}

-- The put of one of the lines failed: the lines before it are put, and a front of it.
pub record IsCut (lines : List (List ℕ)) (old new : Option (List ℕ)) (before after : SinkCounts)
    : Type 0 where
  pub first : List (List ℕ)
  pub line : List ℕ
  pub rest : List (List ℕ)
  pub among : lines ≡ first ++ line ∷ rest
  pub rose : Rose before.faults after.faults
  pub puts : after.puts ≡ raised (raised_by (length first) before.puts)
  pub front : AppendsFront (appended old (concat first)) new line

-- Memory was wanting for one of the lines: the lines before it are put, and no more.
pub record IsLeftOff (lines : List (List ℕ)) (old new : Option (List ℕ))
    (before after : SinkCounts) : Type 0 where
  pub first : List (List ℕ)
  pub line : List ℕ
  pub rest : List (List ℕ)
  pub among : lines ≡ first ++ line ∷ rest
  pub puts : after.puts ≡ raised_by (length first) before.puts
  pub held : new ≡ appended old (concat first)

-- The lines are put on a sink that held this and counted so before and after.
pub data Said (status : ℕ) (lines : List (List ℕ)) (result : ℕ) (old new : Option (List ℕ))
    (before after : SinkCounts) : Type 0 where
  -- all of them
  whole : result ≡ status → after.puts ≡ raised_by (length lines) before.puts
      → new ≡ appended old (concat lines) → Said status lines result old new before after
  -- up to a put that failed
  cut : result ≡ 6 → IsCut lines old new before after
      → Said status lines result old new before after
  -- up to a line for which memory was wanting
  unsaid : result ≡ 7 → IsLeftOff lines old new before after
      → Said status lines result old new before after
