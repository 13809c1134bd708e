-- The least frames of a method, or that none fit.
use Rattle.std.proofs.Common.{◌≡◌, ℕ, zero, suc, ◌==◌, inl, inr, Bool, true, false, cond, ◌&&◌}
use Rattle.std.proofs.Common.{List, [], ◌∷◌, length, Some, None, Option, refl, sym, ap, subst, ◌∙◌}
use Rattle.std.proofs.Common.{arith, ◌+◌, ◌*◌, ◌≤◌, ◌<◌}
use Rattle.std.specs.Prelude.{nat_le}
use Rattle.std.proofs.lemmas.Bool.{eqb-true, eq-eqb, leb-true, le-leb}
use Rattle.par_instr.specs.declared.instr.Instr.{Instr}
use Rattle.par_step_laws.specs.par_class.declared.file.Catch.{Catch}
use Rattle.par_step_laws.specs.par_class.declared.file.CodeAttr.{CodeAttr}
use Rattle.par_values.specs.Areas.{Name}
use Rattle.par_step_laws.specs.par_single.Walk.{starts_at}
use Rattle.par_kinds.specs.declared.frame.VKind.{VKind}
use Rattle.par_kinds.specs.Kinds.{KFrame, FrameInto}
use Rattle.par_kinds.specs.Acts.{Act}
use Rattle.par_kinds.specs.Fits.{Given, Fitting}
use Rattle.par_kinds.specs.Passes.{Table, frame_at, weights, start_table, offsets_from}
use Rattle.par_kinds.specs.Passes.{is_sized}
use Rattle.par_kinds.specs.Passes.{are_sized, least_from, frames_as_told, least_frames}
use Rattle.par_kinds.specs.Passes.{from_start}
use Rattle.par_kinds.specs.Passes.{begins_as, frame_into, StartsWith, Judged, rounds}
use Rattle.par_kinds.specs.Laws.{FitsAsTold, FramesAsToldAreLeast, LeastFramesAreLeast}
use Rattle.par_kinds.proofs.Lower.{below-same, below-both, frame-below, below-frame}
use Rattle.par_kinds.proofs.Lower.{all_both}
use Rattle.par_kinds.proofs.Lower.{both_all}
use Rattle.par_kinds.proofs.Still.{Among, IsSized}
use Rattle.par_kinds.proofs.Passing.{Kept}
use Rattle.par_kinds.proofs.Ending.{Right, rounds-judged, starts-within}

among-offsets : (bytes : List ℕ) (from n : ℕ) → n < length bytes
    → Among (from + n) (offsets_from from bytes)
among-offsets [] from n lt = absurd (omega (arith, lt))
among-offsets (op ∷ bytes) from zero lt = inl (omega arith)
among-offsets (op ∷ bytes) from (suc n) lt =
    inr (subst (λ (m : ℕ). Among m (offsets_from (suc from) bytes)) (moved from n)
    (among-offsets bytes (suc from) n (omega (arith, lt))))
  where
    moved : (from n : ℕ) → suc from + n ≡ from + suc n
    moved from n = omega arith

none-before : (n : ℕ) → 0 + n ≡ n
none-before n = omega arith

-- a frame fits into itself
frame-same : (exc : List Name) (k : KFrame) → FrameInto exc k k
frame-same exc k = record { locals = below-same exc k.locals; stack = below-same exc k.stack }

-- ---- the frames from the start

module _ (start : Given) where
  start-many : (bytes : List ℕ) (from : ℕ) → length (start_table start from bytes) ≡ length bytes
  start-many [] from = refl
  start-many (op ∷ bytes) from = ap suc (start-many bytes (suc from))

  start-held : (bytes : List ℕ) (from n : ℕ) → n < length bytes
      → frame_at (start_table start from bytes) n ≡ start (from + n)
  unfolding frame_at
  start-held [] from n lt = absurd (omega (arith, lt))
  start-held (op ∷ bytes) from zero lt = ap start (behind from) where
    behind : (n : ℕ) → n ≡ n + 0
    behind n = omega arith
  start-held (op ∷ bytes) from (suc n) lt =
      start-held bytes (suc from) n (omega (arith, lt)) ∙ ap start (moved from n)
    where
      moved : (from n : ℕ) → suc from + n ≡ from + suc n
      moved from n = omega arith

  start-found : (bytes : List ℕ) (from n : ℕ) (k : KFrame)
      → frame_at (start_table start from bytes) n ≡ Some k → start (from + n) ≡ Some k
  unfolding frame_at
  start-found [] from n k e = absurd (cc e)
  start-found (op ∷ bytes) from zero k e = ap start (behind from) ∙ e where
    behind : (n : ℕ) → n + 0 ≡ n
    behind n = omega arith
  start-found (op ∷ bytes) from (suc n) k e =
      ap start (moved from n) ∙ start-found bytes (suc from) n k e
    where
      moved : (from n : ℕ) → from + suc n ≡ suc from + n
      moved from n = omega arith

module _ (exc : List Name) (act : Instr → Act) (handler_kind : Catch → VKind) (code : CodeAttr)
    (start : Given) where
  -- one frame that was looked at
  sized-here : (at : ℕ) (k : KFrame) → is_sized code at k ≡ true
      → IsSized exc act handler_kind code start at k
  sized-here at k e =
      let two = all_both (starts_at code.code at && (length k.locals == code.max_locals))
      (nat_le (length k.stack) code.max_stack) e in
      let one = all_both (starts_at code.code at) (length k.locals == code.max_locals) two.0 in
      record {
        locals = eqb-true (length k.locals) code.max_locals one.1;
        room = leb-true (length k.stack) code.max_stack two.1;
        starts = one.0;
      }

  here-sized : (at : ℕ) (k : KFrame) → length k.locals ≡ code.max_locals
      → length k.stack ≤ code.max_stack → starts_at code.code at ≡ true → is_sized code at k ≡ true
  here-sized at k locals room starts =
      both_all (starts_at code.code at && (length k.locals == code.max_locals))
      (nat_le (length k.stack) code.max_stack)
      (both_all (starts_at code.code at) (length k.locals == code.max_locals) starts
      (eq-eqb (length k.locals) code.max_locals locals))
      (le-leb (length k.stack) code.max_stack room)

  -- all frames that were looked at
  sized-all : (t : Table) (from : ℕ) → are_sized code from t ≡ true → (n : ℕ) (k : KFrame)
      → frame_at t n ≡ Some k → IsSized exc act handler_kind code start (from + n) k
  unfolding frame_at
  sized-all [] from e n k is = absurd (cc is)
  sized-all (None ∷ t) from e zero k is = absurd (cc is)
  sized-all (None ∷ t) from e (suc n) k is =
      subst (λ (m : ℕ). IsSized exc act handler_kind code start m k) (moved from n)
      (sized-all t (suc from) e n k is)
    where
      moved : (from n : ℕ) → suc from + n ≡ from + suc n
      moved from n = omega arith
  sized-all (Some j ∷ t) from e zero k is =
      let both = all_both (is_sized code from j) (are_sized code (suc from) t) e in
      let same : j ≡ k = cc is in
      subst (λ (m : ℕ). IsSized exc act handler_kind code start m k) (behind from)
      (subst (λ (k : KFrame). IsSized exc act handler_kind code start from k) same
      (sized-here from j both.0))
    where
      behind : (n : ℕ) → n ≡ n + 0
      behind n = omega arith
  sized-all (Some j ∷ t) from e (suc n) k is =
      let both = all_both (is_sized code from j) (are_sized code (suc from) t) e in
      subst (λ (m : ℕ). IsSized exc act handler_kind code start m k) (moved from n)
      (sized-all t (suc from) both.1 n k is)
    where
      moved : (from n : ℕ) → suc from + n ≡ from + suc n
      moved from n = omega arith

  all-sized : (t : Table) (from : ℕ)
      → ((n : ℕ) (k : KFrame) → frame_at t n ≡ Some k → is_sized code (from + n) k ≡ true)
      → are_sized code from t ≡ true
  unfolding frame_at
  all-sized [] from each = refl
  all-sized (None ∷ t) from each =
      all-sized t (suc from) (λ n k is. ap (λ m. is_sized code m k) (moved from n)
      ∙ each (suc n) k is)
    where
      moved : (from n : ℕ) → suc from + n ≡ from + suc n
      moved from n = omega arith
  all-sized (Some j ∷ t) from each =
      both_all (is_sized code from j) (are_sized code (suc from) t)
      (ap (λ m. is_sized code m j) (behind from) ∙ each 0 j refl)
      (all-sized t (suc from) (λ n k is. ap (λ m. is_sized code m k) (moved from n)
      ∙ each (suc n) k is))
    where
      moved : (from n : ℕ) → suc from + n ≡ from + suc n
      moved from n = omega arith

      behind : (n : ℕ) → n ≡ n + 0
      behind n = omega arith

  -- ---- what the passes find

  module _ (first : KFrame) (has_first : start 0 ≡ Some first)
      (within : (at : ℕ) (k : KFrame) → start at ≡ Some k → at < length code.code) where
    abbrev begun : Table
    begun = start_table start 0 code.code

    abbrev Fits : Given → Type 0
    Fits u = Fitting exc act handler_kind code u first × StartsWith start u

    covers : (at : ℕ) → starts_at code.code at ≡ true → Among at (offsets_from 0 code.code)
    covers at e =
        subst (λ (n : ℕ). Among n (offsets_from 0 code.code)) (none-before at)
        (among-offsets code.code 0 at (starts-within code.code at 0 e))

    found : (at : ℕ) (k : KFrame) → frame_at begun at ≡ Some k → start at ≡ Some k
    found at k e = ap start (sym (none-before at)) ∙ start-found start code.code 0 at k e

    stays : StartsWith start (frame_at begun)
    stays at k e =
        start-held start code.code 0 at (within at k e) ∙ ap start (none-before at) ∙ e

    right : are_sized code 0 begun ≡ true
        → Right exc act handler_kind code start first has_first begun
    right sized = record {
      many = start-many start code.code 0;
      begins = stays;
      sized = λ at k e.
          subst (λ (n : ℕ). IsSized exc act handler_kind code start n k) (none-before at)
          (sized-all begun 0 sized at k e);
    }

    kept : (u : Given) (fit : Fits u)
        → Kept exc act handler_kind code start u first fit.0 fit.1 begun
    kept u fit = record {
      below = λ at k e. (k, fit.1 at k (found at k e), frame-same exc k);
      begins = stays;
    }

    pub least_judged : Judged exc Fits (least_from exc act handler_kind code start begun)
    least_judged = in_case (are_sized code 0 begun) refl where
      in_case : (b : Bool) → are_sized code 0 begun ≡ b
          → Judged exc Fits
          (cond b (rounds exc act handler_kind code start (offsets_from 0 code.code)
          (suc (weights (4 * (code.max_locals + code.max_stack)) begun)) begun) None)
      in_case true e =
          rounds-judged exc act handler_kind code start first has_first (offsets_from 0 code.code)
          covers (suc (weights (4 * (code.max_locals + code.max_stack)) begun)) begun (right e)
          (omega arith) kept
      in_case false e = λ u fit.
          let sized : are_sized code 0 begun ≡ true =
          all-sized begun 0
          (λ n k is. let there = (fit.0).each n k (fit.1 n k (found n k is)) in
          ap (λ m. is_sized code m k) (none-before n)
          ∙ here-sized n k there.locals there.room there.starts) in
          let both : true ≡ false = sym sized ∙ e in cc both

-- ---- frames that are told

-- what is found for one condition is found for another that says the same
judged-same : (exc : List Name) (P Q : Given → Type 0) (o : Option Table)
    → ((u : Given) → P u → Q u) → ((u : Given) → Q u → P u) → Judged exc P o → Judged exc Q o
judged-same exc P Q None to back none = λ u fit. none u (back u fit)
judged-same exc P Q (Some t) to back found =
    (to (frame_at t) found.0, λ u fit. found.1 u (back u fit))

module _ (exc : List Name) (act : Instr → Act) (handler_kind : Catch → VKind) (code : CodeAttr)
    (first : KFrame) (told : Given)
    (within : (at : ℕ) (k : KFrame) → told at ≡ Some k → at < length code.code) where
  abbrev Told : Given → Type 0
  Told u = FitsAsTold exc act handler_kind code first told u

  abbrev Begun : Given → Type 0
  Begun u = Fitting exc act handler_kind code u first × StartsWith (from_start first told) u

  begun-within : 0 < length code.code → (at : ℕ) (k : KFrame) → from_start first told at ≡ Some k
      → at < length code.code
  begun-within some zero k e = some
  begun-within some (suc at) k e = within (suc at) k e

  told-begun : (u : Given) → Told u → Begun u
  told-begun u fit = (fit.0, starts) where
    starts : StartsWith (from_start first told) u
    starts zero k e = (fit.0).begins ∙ e
    starts (suc at) k e = fit.1 (suc at) k e

  begun-told : begins_as exc first (told 0) ≡ true → (u : Given) → Begun u → Told u
  begun-told same u fit = (fit.0, starts) where
    at_first : (k : KFrame) → (o : Option KFrame) → begins_as exc first o ≡ true → o ≡ Some k
        → first ≡ k
    at_first k None test e = absurd (cc e)
    at_first k (Some j) test e =
        let both = all_both (frame_into exc j first) (frame_into exc first j) test in
        let one = frame-below exc j first both.0 in
        let other = frame-below exc first j both.1 in
        let is : j ≡ k = cc e in
        (λ i. record {
          locals = below-both exc first.locals j.locals other.locals one.locals i;
          stack = below-both exc first.stack j.stack other.stack one.stack i;
        }) ∙ is

    starts : StartsWith told u
    starts zero k e = (fit.0).begins ∙ ap Some (at_first k (told 0) same e)
    starts (suc at) k e = fit.1 (suc at) k e

  told_judged : Judged exc Told (frames_as_told exc act handler_kind code first told)
  told_judged = in_case (starts_at code.code 0) (begins_as exc first (told 0)) refl refl where
    refused : (u : Given) → Told u → (o : Option KFrame) → told 0 ≡ o
        → begins_as exc first o ≡ false → ⊥
    refused u fit None at e = cc e
    refused u fit (Some k) at e =
        let both : Some k ≡ Some first = sym (fit.1 0 k at) ∙ (fit.0).begins in
        let same : k ≡ first = cc both in
        let fits : begins_as exc first (Some k) ≡ true =
        subst (λ (k : KFrame). begins_as exc first (Some k) ≡ true) (sym same)
        (both_all (frame_into exc first first) (frame_into exc first first)
        (below-frame exc first first (frame-same exc first))
        (below-frame exc first first (frame-same exc first))) in
        let odd : true ≡ false = sym fits ∙ e in cc odd

    in_case : (a b : Bool) → starts_at code.code 0 ≡ a → begins_as exc first (told 0) ≡ b
        → Judged exc Told
        (cond (a && b) (least_from exc act handler_kind code (from_start first told)
        (start_table (from_start first told) 0 code.code)) None)
    in_case true true starts e =
        judged-same exc Begun Told
        (least_from exc act handler_kind code (from_start first told)
        (start_table (from_start first told) 0 code.code))
        (begun-told e) told-begun
        (least_judged exc act handler_kind code (from_start first told) first refl
        (begun-within (starts-within code.code 0 0 starts)))
    in_case true false starts e = λ u fit. refused u fit (told 0) refl e
    in_case false b starts e =
        λ u fit. let both : false ≡ true =
        sym starts ∙ ((fit.0).each 0 first (fit.0).begins).starts in cc both

pub frames_as_told_are_least : FramesAsToldAreLeast
frames_as_told_are_least exc act handler_kind code first told within =
    told_judged exc act handler_kind code first told within

pub least_frames_are_least : LeastFramesAreLeast
least_frames_are_least exc act handler_kind code first =
    judged-same exc (FitsAsTold exc act handler_kind code first (λ at. None))
    (λ u. Fitting exc act handler_kind code u first) (least_frames exc act handler_kind code first)
    (λ u fit. fit.0) (λ u fit. (fit, λ at k e. absurd (cc e)))
    (told_judged exc act handler_kind code first (λ at. None) (λ at k e. absurd (cc e)))
