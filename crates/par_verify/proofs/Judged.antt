-- The frames from which a way through code starts, and what is found on it.
use Rattle.std.proofs.Common.{◌≡◌, ℕ, zero, suc, ◌+◌, ◌*◌, ◌<◌, ◌≤◌, Bool, true, false, ◌&&◌, cond}
use Rattle.std.proofs.Common.{List, [], ◌∷◌, length, map, Option, Some, None, is_some, refl, sym}
use Rattle.std.proofs.Common.{ap, subst}
use Rattle.std.proofs.Common.{◌∙◌, arith, slice_index_or}
use Rattle.std.proofs.lemmas.List.{length-map}
use Rattle.std.proofs.lemmas.Bool.{and_parts}
use Rattle.std.specs.Option.{option_map}
use Rattle.par_instr.specs.declared.instr.Instr.{Instr}
use Rattle.par_class.specs.declared.file.Catch.{Catch}
use Rattle.par_class.specs.declared.file.CodeAttr.{CodeAttr}
use Rattle.par_values.specs.Areas.{Name}
use Rattle.par_single.specs.Walk.{starts_at}
use Rattle.par_kinds.specs.declared.frame.VKind.{VKind}
use Rattle.par_kinds.specs.Kinds.{KFrame}
use Rattle.par_kinds.specs.Acts.{Act}
use Rattle.par_kinds.specs.Fits.{Given, Fitting}
use Rattle.par_verify_laws.specs.par_kinds.Passes.{Table, start_table, from_start}
use Rattle.par_verify_laws.specs.par_kinds.Passes.{begins_as}
use Rattle.par_verify_laws.specs.par_kinds.Passes.{are_sized, weights}
use Rattle.par_verify_laws.specs.par_kinds.Passes.{rounds, offsets_from, least_from}
use Rattle.par_verify_laws.specs.par_kinds.Passes.{frames_as_told}
use Rattle.par_verify_laws.specs.par_kinds.Passes.{frame_at}
use Rattle.par_verify_laws.specs.par_kinds.Passes.{is_sized, Judged, StartsWith}
use Rattle.par_verify_laws.proofs.par_kinds.Lower.{below-same}
use Rattle.par_verify_laws.proofs.par_kinds.Least.{least_judged}
use Rattle.par_verify_laws.proofs.par_kinds.Ending.{starts-within}
use Rattle.par_frame_steps.specs.declared.frame.PlaceFrame.{PlaceFrame}
use Rattle.par_frame_steps.specs.Marks.{frame_of}
use Rattle.par_frame_passes.specs.par_frame_guesses.declared.method.Method.{Method}
use Rattle.par_frame_passes.specs.par_frame_guesses.Methods.{IsToldOf}
use Rattle.par_frame_passes.specs.Sweeps.{Fits, Kept, Settles}
use Rattle.par_frame_passes.proofs.Tabled.{found-inside}
use Rattle.par_frame_passes.specs.Tables.{table_of}

start-long : (g : Given) (bytes : List ℕ) (from : ℕ)
    → length (start_table g from bytes) ≡ length bytes
start-long g [] from = refl
start-long g (op ∷ bytes) from = ap suc (start-long g bytes (suc from))

none-before : (n : ℕ) → 0 + n ≡ n
none-before n = omega arith

-- what is there from the start
start-held : (g : Given) (bytes : List ℕ) (from n : ℕ) → n < length bytes
    → frame_at (start_table g from bytes) n ≡ g (from + n)
unfolding frame_at
start-held g [] from n inside = absurd (omega (arith, inside))
start-held g (op ∷ bytes) from zero inside =
    let here : from ≡ from + 0 = omega arith in ap g here
start-held g (op ∷ bytes) from (suc n) inside =
    let there : suc from + n ≡ from + suc n = omega arith in
    start-held g bytes (suc from) n (omega (arith, inside)) ∙ ap g there

-- each frame that is there has its places
sized-at : (code : CodeAttr) (t : Table) (from : ℕ) → are_sized code from t ≡ true → (n : ℕ)
    (k : KFrame) → frame_at t n ≡ Some k → is_sized code (from + n) k ≡ true
unfolding frame_at
sized-at code [] from all n k e = absurd (cc e)
sized-at code (None ∷ t) from all zero k e = absurd (cc e)
sized-at code (None ∷ t) from all (suc n) k e =
    let there : from + suc n ≡ suc from + n = omega arith in
    ap (λ at. is_sized code at k) there ∙ sized-at code t (suc from) all n k e
sized-at code (Some j ∷ t) from all zero k e =
    let here : from + 0 ≡ from = omega arith in
    let same : k ≡ j = cc e in
    ap (λ at. is_sized code at k) here ∙ ap (is_sized code from) same
    ∙ (and_parts (is_sized code from j) (are_sized code (suc from) t) all).0
sized-at code (Some j ∷ t) from all (suc n) k e =
    let there : from + suc n ≡ suc from + n = omega arith in
    ap (λ at. is_sized code at k) there
    ∙ sized-at code t (suc from)
    (and_parts (is_sized code from j) (are_sized code (suc from) t) all).1 n k e

-- there is a place for each offset
pub table-long : (t : List (Option PlaceFrame)) (g : Given) (bytes : List ℕ)
    → table_of t ≡ start_table g 0 bytes → length t ≡ length bytes
table-long t g bytes is =
    sym (length-map t (option_map frame_of)) ∙ ap length is ∙ start-long g bytes 0

-- what is told of the first offset
pub first-held : (told : Given) (bytes : List ℕ) (t : Table) → starts_at bytes 0 ≡ true
    → t ≡ start_table told 0 bytes → frame_at t 0 ≡ told 0
first-held told bytes t begins is =
    ap (λ u. frame_at u 0) is ∙ start-held told bytes 0 0 (starts-within bytes 0 0 begins)

-- ---- which frames stay

marked : (g : Given) (bytes : List ℕ) (from n : ℕ)
    → (length bytes ≤ n → is_some (g (from + n)) ≡ false)
    → slice_index_or (map is_some (start_table g from bytes)) n false ≡ is_some (g (from + n))
marked g [] from n none = sym (none (omega arith))
marked g (op ∷ bytes) from zero none =
    let here : from ≡ from + 0 = omega arith in ap (λ at. is_some (g at)) here
marked g (op ∷ bytes) from (suc n) none =
    let there : suc from + n ≡ from + suc n = omega arith in
    marked g bytes (suc from) n
    (λ past. ap (λ at. is_some (g at)) there ∙ none (omega (arith, past)))
    ∙ ap (λ at. is_some (g at)) there

none-past : (o : Option KFrame) → ((k : KFrame) → o ≡ Some k → ⊥) → is_some o ≡ false
none-past None never = refl
none-past (Some k) never = absurd (never k refl)

module _ (first : KFrame) (told : Given) (code : List ℕ) (begins : starts_at code 0 ≡ true)
    (within : (at : ℕ) (k : KFrame) → told at ≡ Some k → at < length code) where
  pub inside : (at : ℕ) (k : KFrame) → from_start first told at ≡ Some k → at < length code
  inside zero k is = starts-within code 0 0 begins
  inside (suc at) k is = within (suc at) k is

  pub stay : (at : ℕ)
      → slice_index_or (map is_some (start_table (from_start first told) 0 code)) at false
      ≡ is_some (from_start first told at)
  stay at =
      let same : 0 + at ≡ at = omega arith in
      marked (from_start first told) code 0 at
      (λ past. ap (λ n. is_some (from_start first told n)) same
      ∙ none-past (from_start first told at)
      (λ k is. let short = inside at k is in omega (arith, past, short)))
      ∙ ap (λ n. is_some (from_start first told n)) same

-- what is known of a method where the passes start
pub is-told : (m : Method) (first : KFrame) (told : Given)
    → ((at : ℕ) → slice_index_or m.starts.now at false ≡ starts_at m.code.now.code at)
    → m.fixed.now ≡ map is_some (start_table (from_start first told) 0 m.code.now.code)
    → starts_at m.code.now.code 0 ≡ true
    → ((at : ℕ) (k : KFrame) → told at ≡ Some k → at < length m.code.now.code)
    → IsToldOf m (from_start first told)
is-told m first told starts fixed begins within = record {
  starts = starts;
  fixed = λ at. ap (λ fs. slice_index_or fs at false) fixed
      ∙ stay first told m.code.now.code begins within at;
}

-- ---- what is found

module _ (exc : List Name) (act : Instr → Act) (handler : Catch → VKind) (code : CodeAttr) where
  abbrev Rounds : Given → ℕ → Table → Option Table
  Rounds start n t = rounds exc act handler code start (offsets_from 0 code.code) n t

  pub unsized : (start : Given) (t : Table) → are_sized code 0 t ≡ false
      → false ≡ is_some (least_from exc act handler code start t)
  unsized start t is =
      sym (ap (λ b. is_some (cond b (Rounds start
      (suc (weights (4 * (code.max_locals + code.max_stack)) t)) t) None)) is)

  module _ (start : Given) (first : KFrame) (begins : start 0 ≡ Some first)
      (within : (at : ℕ) (k : KFrame) → start at ≡ Some k → at < length code.code) where
    abbrev begun : Table
    begun = start_table start 0 code.code

    -- the frames from the start are kept
    kept-begun : are_sized code 0 begun ≡ true → Kept exc act handler code start begun
    kept-begun sized = record {
      many = start-long start code.code 0;
      sized = λ at k e. ap (λ n. is_sized code n k) (sym (none-before at))
          ∙ sized-at code begun 0 sized at k e;
      begins = λ at k e. start-held start code.code 0 at (within at k e)
          ∙ ap start (none-before at) ∙ e;
      lower = λ u fit at k e. (
        k,
        fit.starts at k (there at k e),
        record { locals = below-same exc k.locals; stack = below-same exc k.stack },
      );
    } where
      there : (at : ℕ) (k : KFrame) → frame_at begun at ≡ Some k → start at ≡ Some k
      there at k e =
          let inside = found-inside begun at k e in
          let many = start-long start code.code 0 in
          ap start (sym (none-before at))
          ∙ sym (start-held start code.code 0 at (omega (arith, inside, many))) ∙ e

    -- what is found from them is what passes find
    found-so : (o : Option Table)
        → Judged exc (λ u. Fitting exc act handler code u first × StartsWith start u) o → (b : Bool)
        → Settles exc act handler code start b → b ≡ is_some o
    found-so (Some t) found true settles = refl
    found-so (Some t) found false settles =
        absurd (settles (frame_at t)
        (record { first = first; fitting = (found.0).0; starts = (found.0).1 }))
    found-so None none true settles =
        let fit = settles.1 in
        let both : Some first ≡ Some fit.first =
        sym (fit.starts 0 first begins) ∙ (fit.fitting).begins in
        let same : first ≡ fit.first = cc both in
        absurd (none settles.0 (
          subst (λ (k : KFrame). Fitting exc act handler code settles.0 k) (sym same) fit.fitting,
          fit.starts,
        ))
    found-so None none false settles = refl

    pub settled : (t u : Table) (b : Bool) → t ≡ begun → are_sized code 0 t ≡ true → u ≡ t
        → (Kept exc act handler code start u → Settles exc act handler code start b)
        → b ≡ is_some (least_from exc act handler code start t)
    settled t u b is sized same settles =
        let from_start : are_sized code 0 begun ≡ true = ap (are_sized code 0) (sym is) ∙ sized in
        found-so (least_from exc act handler code start begun)
        (least_judged exc act handler code start first begins within) b
        (settles (subst (Kept exc act handler code start) (sym (same ∙ is))
        (kept-begun from_start)))
        ∙ ap (λ v. is_some (least_from exc act handler code start v)) (sym is)

  -- where no instruction starts at the first offset none is found
  pub unbegun : (first : KFrame) (told : Given) → starts_at code.code 0 ≡ false
      → false ≡ is_some (frames_as_told exc act handler code first told)
  unbegun first told none =
      sym (ap (λ c. is_some (cond (c && begins_as exc first (told 0))
      (least_from exc act handler code (from_start first told)
      (start_table (from_start first told) 0 code.code)) None)) none)

  -- nor where another frame is told of it
  pub misbegun : (first : KFrame) (told : Given) → starts_at code.code 0 ≡ true
      → begins_as exc first (told 0) ≡ false
      → false ≡ is_some (frames_as_told exc act handler code first told)
  misbegun first told starts other =
      let neither : starts_at code.code 0 && begins_as exc first (told 0) ≡ false =
      ap (λ c. c && begins_as exc first (told 0)) starts ∙ other in
      sym (ap (λ c. is_some (cond c (least_from exc act handler code (from_start first told)
      (start_table (from_start first told) 0 code.code)) None)) neither)

  pub judged : (first : KFrame) (told : Given) (t : Table) (b : Bool)
      → starts_at code.code 0 ≡ true → begins_as exc first (told 0) ≡ true
      → t ≡ start_table (from_start first told) 0 code.code
      → b ≡ is_some (least_from exc act handler code (from_start first told) t)
      → b ≡ is_some (frames_as_told exc act handler code first told)
  judged first told t b starts begins is found =
      let all : starts_at code.code 0 && begins_as exc first (told 0) ≡ true =
      ap (λ c. c && begins_as exc first (told 0)) starts ∙ begins in
      found ∙ ap (λ v. is_some (least_from exc act handler code (from_start first told) v)) is
      ∙ sym (ap (λ c. is_some (cond c (least_from exc act handler code (from_start first told)
      (start_table (from_start first told) 0 code.code)) None)) all)
