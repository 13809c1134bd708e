-- The lines of events, up to one of them, and what is said of all.
use Rattle.std.proofs.Common.{◌≡◌, ℕ, ◌+◌, ◌<◌, ◌≤◌, Bool, List, [], ◌∷◌, ◌++◌, length, map, take}
use Rattle.std.proofs.Common.{drop, get_or, Option, Result, Ok, Err, refl, sym, ap, subst, ◌∙◌}
use Rattle.std.proofs.Common.{arith}
use Rattle.std.proofs.lemmas.Grind.{common_steps}
use Rattle.std.specs.Prelude.{IsTrue, IfErr, OnOk, IsErrAnd}
use Rattle.par_io.specs.Causes.{SinkCounts, raised, appended}
use Rattle.par_io.specs.Saying.{Said, whole, cut, unsaid}
use Rattle.par_typed.specs.declared.table.Table.{Table}
use Rattle.par_meaning.specs.declared.run.SourceEvent.{SourceEvent}
use Rattle.par_meaning.specs.Onward.{witnessed}
use Rattle.par_event_lines.specs.declared.puts.Untold.{Untold}
use Rattle.par_event_lines.specs.declared.puts.Untold.TheVariants.{Fault, Memory}
use Rattle.par_event_lines.specs.Texts.{Text, line}
use Rattle.par_event_lines.specs.Telling.{IsUntold, IsCutOff, status_of_untold}
use Rattle.par_trace.specs.Puts.{ArePut}
use Rattle.par_trace.specs.Texts.{witnessed_text, event_lines}
use Rattle.par_trace.proofs.Puts.{put-more, cut-next}

-- these lines are put, and no put failed
pub record IsTelling (alone : Bool) (lines : List Text) (old held : Option Text)
    (before after : SinkCounts) : Type 0 where
  pub put : ArePut lines old held before after
  pub grows : before.faults ≤ after.faults
  pub stand : IsTrue alone → after.faults ≡ before.faults

module _ (table : Table) where
  abbrev pub told : List SourceEvent → List Text
  told es = event_lines table (map witnessed es)

  abbrev pub told_of : SourceEvent → Text
  told_of e = line (witnessed_text table (witnessed e))

  told-append : (es fs : List SourceEvent) → told (es ++ fs) ≡ told es ++ told fs
  told-append [] fs = refl
  told-append (e ∷ es) fs = ap (λ (ls : List Text). told_of e ∷ ls) (told-append es fs)

  module _ (es : List SourceEvent) (i : ℕ) (e : SourceEvent) (within : i < length es)
      (is : e ≡ get_or es i e) where
    told-more : told (take (i + 1) es) ≡ told (take i es) ++ told_of e ∷ []
    told-more =
        let more : take (i + 1) es ≡ take i es ++ e ∷ [] = grind (arith, common_steps, is) in
        ap told more ∙ told-append (take i es) (e ∷ [])

    told-split : told es ≡ told (take i es) ++ told_of e ∷ told (drop (i + 1) es)
    told-split =
        let split : es ≡ take i es ++ e ∷ drop (i + 1) es = grind (arith, common_steps, is) in
        ap told split ∙ told-append (take i es) (e ∷ drop (i + 1) es)

    module _ (alone : Bool) (old held new : Option Text) (before between after : SinkCounts)
        (h : IsTelling alone (told (take i es)) old held before between) where
      -- the line of the next event is put
      pub tells-more : between.faults ≤ after.faults
          → (IsTrue alone → after.faults ≡ between.faults) → after.puts ≡ raised between.puts
          → new ≡ appended held (told_of e)
          → IsTelling alone (told (take (i + 1) es)) old new before after
      tells-more grows stand counts put = record {
        put = subst (λ (ls : List Text). ArePut ls old new before after) (sym told-more)
            (put-more old before (told (take i es)) held between h.put
            (told_of e) new after counts put);
        grows = (let g = h.grows in omega (arith, g, grows));
        stand = λ only. stand only ∙ h.stand only;
      }

      -- it is not put whole
      pub tells-cut : (u : Untold) → IsUntold (told_of e) held new between after u
          → IsCutOff (told es) old new before after u
      tells-cut u untold =
          subst (λ (ls : List Text). IsCutOff ls old new before after u) (sym told-split)
          (cut-next old before (told (take i es)) held between h.put (told_of e)
          (told (drop (i + 1) es)) u new after h.grows untold)

-- what a call hands on
pub handed : {A : Type 0} (r : Result A Untold) (u : Untold) (P : Untold → Type 0)
    → IsErrAnd r (λ e. e ≡ u) → P u → IfErr r P
handed (Ok x) u P is h = tt
handed (Err e) u P is h = subst P (sym is) h

-- ---- one line more behind those of the events

module _ (ls : List Text) (l : Text) (old held new : Option Text)
    (before between after : SinkCounts) (puts : ArePut ls old held before between) where
  pub ends-put : {A : Type 0} (r : Result A Untold) → OnOk r (after.puts ≡ raised between.puts)
      → OnOk r (new ≡ appended held l)
      → OnOk r (ArePut (ls ++ l ∷ []) old new before after)
  ends-put (Ok x) counts put = put-more old before ls held between puts l new after counts put
  ends-put (Err e) counts put = tt

  pub ends-cut : {A : Type 0} (r : Result A Untold) → before.faults ≤ between.faults
      → IfErr r (IsUntold l held new between after)
      → IfErr r (IsCutOff (ls ++ l ∷ []) old new before after)
  ends-cut (Ok x) grows untold = tt
  ends-cut (Err u) grows untold =
      cut-next old before ls held between puts l [] u new after grows untold

-- ---- what is said

module _ (status result : ℕ) (ls : List Text) (old new : Option Text)
    (before after : SinkCounts) where
  pub said_whole : result ≡ status → ArePut ls old new before after
      → Said status ls result old new before after
  said_whole is put = whole is put.counted put.held

  pub said_untold : (u : Untold) → result ≡ status_of_untold u → IsCutOff ls old new before after u
      → Said status ls result old new before after
  said_untold Fault is h = cut is h
  said_untold Memory is h = unsaid is h
