-- Lines that are put one after another, up to one of them.
use Rattle.std.proofs.Common.{◌≡◌, ℕ, ◌+◌, ◌<◌, ◌≤◌, Bool, List, [], ◌∷◌, ◌++◌, length, take}
use Rattle.std.proofs.Common.{drop, get_or, Option, sym, ap, subst, ◌∙◌, arith}
use Rattle.std.proofs.lemmas.Grind.{common_steps}
use Rattle.std.proofs.lemmas.List.{map-append}
use Rattle.std.specs.declared.alloc.Global.{Global}
use Rattle.std.specs.Prelude.{IsTrue, Vec}
use Rattle.par_io.specs.Causes.{SinkCounts, raised, appended}
use Rattle.par_event_lines.specs.declared.puts.Untold.{Untold}
use Rattle.par_event_lines.specs.Texts.{Text}
use Rattle.par_event_lines.specs.Telling.{IsUntold, IsCutOff}
use Rattle.par_trace.specs.Puts.{ArePut}
use Rattle.par_trace.proofs.Puts.{put-more, cut-next}
use Rattle.par_trace.proofs.Told.{IsTelling}
use Rattle.par_tool.specs.Lines.{texts_of}

abbrev items_of : Vec ℕ Global → Text
items_of line = line.items

module _ (ls : List (Vec ℕ Global)) (i : ℕ) (l : Vec ℕ Global) (within : i < length ls)
    (is : l ≡ get_or ls i l) where
  texts-more : texts_of (take (i + 1) ls) ≡ texts_of (take i ls) ++ l.items ∷ []
  texts-more =
      let more : take (i + 1) ls ≡ take i ls ++ l ∷ [] = grind (arith, common_steps, is) in
      ap texts_of more ∙ map-append items_of (take i ls) (l ∷ [])

  texts-split : texts_of ls ≡ texts_of (take i ls) ++ l.items ∷ texts_of (drop (i + 1) ls)
  texts-split =
      let split : ls ≡ take i ls ++ l ∷ drop (i + 1) ls = grind (arith, common_steps, is) in
      ap texts_of split ∙ map-append items_of (take i ls) (l ∷ drop (i + 1) ls)

  module _ (alone : Bool) (old held new : Option Text) (before between after : SinkCounts)
      (h : IsTelling alone (texts_of (take i ls)) old held before between) where
    -- the next line is put
    pub lines-more : between.faults ≤ after.faults
        → (IsTrue alone → after.faults ≡ between.faults) → after.puts ≡ raised between.puts
        → new ≡ appended held (l.items)
        → IsTelling alone (texts_of (take (i + 1) ls)) old new before after
    lines-more grows stand counts put = record {
      put = subst (λ (ts : List Text). ArePut ts old new before after) (sym texts-more)
          (put-more old before (texts_of (take i ls)) held between h.put
          (l.items) new after counts put);
      grows = (let g = h.grows in omega (arith, g, grows));
      stand = λ only. stand only ∙ h.stand only;
    }

    -- it is not put whole
    pub lines-cut : (u : Untold) → IsUntold (l.items) held new between after u
        → IsCutOff (texts_of ls) old new before after u
    lines-cut u untold =
        subst (λ (ts : List Text). IsCutOff ts old new before after u) (sym texts-split)
        (cut-next old before (texts_of (take i ls)) held between h.put (l.items)
        (texts_of (drop (i + 1) ls)) u new after h.grows untold)
