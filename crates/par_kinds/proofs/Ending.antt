-- Passes come to an end, with the least frames, or where there are none.
use Rattle.std.proofs.Common.{◌≡◌, ℕ, ℤ, zero, suc, pos, negsuc, ◌==◌, ◌⊎◌, inl, inr, ⊎_elim, Bool}
use Rattle.std.proofs.Common.{true, false, not, ◌&&◌, ◌||◌, cond, List, [], ◌∷◌, length, set}
use Rattle.std.proofs.Common.{is_some, Some, None, Option, refl, sym, ap, subst, ◌∙◌, arith, ◌+◌}
use Rattle.std.proofs.Common.{◌*◌, ◌≤◌, ◌<◌, length-set}
use Rattle.std.specs.List.{slice_get}
use Rattle.std.specs.Prelude.{nat_le}
use Rattle.std.proofs.lemmas.Bool.{eqb-true, leb-true, leb-false}
use Rattle.par_step_laws.proofs.par_link.Passing.{eq_turned}
use Rattle.par_instr.specs.declared.instr.Instr.{Instr}
use Rattle.par_instr.specs.Decoding.{Decoded, decoded_at}
use Rattle.par_step_laws.specs.par_class.declared.file.Catch.{Catch}
use Rattle.par_step_laws.specs.par_class.declared.file.CodeAttr.{CodeAttr}
use Rattle.par_values.specs.Areas.{Name}
use Rattle.par_instr.specs.Spelling.{operand_bytes}
use Rattle.par_step_laws.specs.par_single.Walk.{starts_at, starts_after, if_listed}
use Rattle.par_kinds.specs.declared.frame.VKind.{VKind}
use Rattle.par_kinds.specs.declared.frame.VKind.TheVariants.{Top as ATop, Int as AnInt}
use Rattle.par_kinds.specs.declared.frame.VKind.TheVariants.{Null as ANull, Object as AnObject}
use Rattle.par_kinds.specs.declared.frame.VKind.TheVariants.{Base as ABase}
use Rattle.par_kinds.specs.Kinds.{KFrame, into}
use Rattle.par_kinds.specs.Acts.{Act}
use Rattle.par_kinds.specs.Fits.{Given, Fitting}
use Rattle.par_kinds.specs.Passes.{Table, frame_at, Way, Step, landed, landed_at, land_to}
use Rattle.par_kinds.specs.Passes.{land}
use Rattle.par_kinds.specs.Passes.{land_all, and_then, rose_with, ways, visit_with}
use Rattle.par_kinds.specs.Passes.{visit_at}
use Rattle.par_kinds.specs.Passes.{visit, pass, rounds, round_on, all_into, merge}
use Rattle.par_kinds.specs.Passes.{merge_all}
use Rattle.par_kinds.specs.Passes.{frame_into, merge_frames, same_lengths, height}
use Rattle.par_kinds.specs.Passes.{heights, weight, weights, Judged, StartsWith}
use Rattle.par_kinds.proofs.Lower.{all_both}
use Rattle.par_kinds.proofs.Merging.{merge-left, merge-right, into-then}
use Rattle.par_kinds.proofs.Still.{Among, IsSized, still-fits, pass-rests}
use Rattle.par_kinds.proofs.Passing.{Kept, pass-kept, others-kept}

module _ (exc : List Name) where
  lower : (k l : VKind) → into exc k l ≡ true → height l ≤ height k
  unfolding into
  lower k ATop fit = omega arith
  lower AnInt AnInt fit = omega arith
  lower ANull ANull fit = omega arith
  lower ANull (AnObject n) fit = omega arith
  lower (AnObject m) (AnObject n) fit = omega arith
  lower ANull (ABase true) fit = omega arith
  lower ANull (ABase false) fit = omega arith
  lower (AnObject m) (ABase true) fit = omega arith
  lower (AnObject m) (ABase false) fit = omega arith
  lower (ABase true) (ABase true) fit = omega arith
  lower (ABase true) (ABase false) fit = omega arith
  lower (ABase false) (ABase false) fit = omega arith
  lower (ABase true) l fit = absurd (cc fit)
  lower (ABase false) l fit = absurd (cc fit)
  lower k l fit = absurd (cc fit)

  -- kinds of one height, of which one fits into the other, are one
  level : (k l : VKind) → into exc k l ≡ true → height k ≤ height l → into exc l k ≡ true
  unfolding into
  level ATop ATop fit same = refl
  level AnInt AnInt fit same = refl
  level ANull ANull fit same = refl
  level (AnObject m) (AnObject n) fit same = eq_turned n m ∙ fit
  level (ABase true) (ABase true) fit same = refl
  level (ABase false) (ABase false) fit same = refl
  level AnInt ATop fit same = absurd (omega (arith, same))
  level ANull ATop fit same = absurd (omega (arith, same))
  level (AnObject n) ATop fit same = absurd (omega (arith, same))
  level (ABase true) ATop fit same = absurd (omega (arith, same))
  level (ABase false) ATop fit same = absurd (omega (arith, same))
  level ANull (AnObject n) fit same = absurd (omega (arith, same))
  level ANull (ABase true) fit same = absurd (omega (arith, same))
  level ANull (ABase false) fit same = absurd (omega (arith, same))
  level (AnObject m) (ABase true) fit same = absurd (omega (arith, same))
  level (AnObject m) (ABase false) fit same = absurd (omega (arith, same))
  level (ABase true) (ABase false) fit same = absurd (omega (arith, same))
  level (ABase true) l fit same = absurd (cc fit)
  level (ABase false) l fit same = absurd (cc fit)
  level k l fit same = absurd (cc fit)

  merged-lower : (k l : VKind) → height (merge exc k l) ≤ height l
  merged-lower k l = lower l (merge exc k l) (merge-right exc k l)

  merged-strict : (k l : VKind) → into exc k l ≡ false → height (merge exc k l) < height l
  merged-strict k l risen = in_case (nat_le (height l) (height (merge exc k l))) refl where
    in_case : (b : Bool) → nat_le (height l) (height (merge exc k l)) ≡ b
        → height (merge exc k l) < height l
    in_case true e =
        let le = leb-true (height l) (height (merge exc k l)) e in
        let back = level l (merge exc k l) (merge-right exc k l) le in
        let fits = into-then exc k (merge exc k l) l (merge-left exc k l) back in
        let both : true ≡ false = sym fits ∙ risen in absurd (cc both)
    in_case false e = leb-false (height l) (height (merge exc k l)) e

  all-lower : (ks ls : List VKind) → length ks ≡ length ls
      → (length (merge_all exc ks ls) ≡ length ls)
      × (heights (merge_all exc ks ls) ≤ heights ls)
      × (all_into exc ks ls ≡ false → heights (merge_all exc ks ls) < heights ls)
  all-lower [] [] same = (refl, omega arith, λ e. absurd (cc e))
  all-lower [] (l ∷ ls) same = absurd (omega (arith, same))
  all-lower (k ∷ ks) [] same = absurd (omega (arith, same))
  all-lower (k ∷ ks) (l ∷ ls) same =
      let later = all-lower ks ls (omega (arith, same)) in
      let here = merged-lower k l in (
        ap suc later.0,
        omega (arith, later.1, here),
        in_case (into exc k l) refl later.1 later.2 here,
      )
    where
      in_case : (b : Bool) → into exc k l ≡ b → heights (merge_all exc ks ls) ≤ heights ls
          → (all_into exc ks ls ≡ false → heights (merge_all exc ks ls) < heights ls)
          → height (merge exc k l) ≤ height l
          → (into exc k l && all_into exc ks ls) ≡ false
          → height (merge exc k l) + heights (merge_all exc ks ls) < height l + heights ls
      in_case true e le lt here none =
          let rest : all_into exc ks ls ≡ false = sym (ap (λ b. b && all_into exc ks ls) e)
          ∙ none in
          let less = lt rest in omega (arith, less, here)
      in_case false e le lt here none =
          let less = merged-strict k l e in omega (arith, less, le)

  merged-frame : (k l : KFrame) → same_lengths k l ≡ true → frame_into exc k l ≡ false
      → (length (merge_frames exc k l).locals ≡ length l.locals)
      × (length (merge_frames exc k l).stack ≡ length l.stack)
      × (heights (merge_frames exc k l).locals + heights (merge_frames exc k l).stack
      < heights l.locals + heights l.stack)
  merged-frame k l same risen =
      let both = all_both (length k.locals == length l.locals) (length k.stack == length l.stack)
      same in
      let locals = all-lower k.locals l.locals
      (eqb-true (length k.locals) (length l.locals) both.0) in
      let stack = all-lower k.stack l.stack (eqb-true (length k.stack) (length l.stack) both.1) in (
        locals.0,
        stack.0,
        in_case (all_into exc k.locals l.locals) refl risen locals.1 locals.2 stack.1 stack.2,
      )
    where
      in_case : (x : Bool) → all_into exc k.locals l.locals ≡ x
          → (all_into exc k.locals l.locals && all_into exc k.stack l.stack) ≡ false
          → heights (merge_all exc k.locals l.locals) ≤ heights l.locals
          → (all_into exc k.locals l.locals ≡ false
          → heights (merge_all exc k.locals l.locals) < heights l.locals)
          → heights (merge_all exc k.stack l.stack) ≤ heights l.stack
          → (all_into exc k.stack l.stack ≡ false
          → heights (merge_all exc k.stack l.stack) < heights l.stack)
          → heights (merge_all exc k.locals l.locals) + heights (merge_all exc k.stack l.stack) <
          heights l.locals + heights l.stack
      in_case true e none one first two second =
          let rest : all_into exc k.stack l.stack ≡ false =
          sym (ap (λ x. x && all_into exc k.stack l.stack) e) ∙ none in
          let less = second rest in omega (arith, less, one)
      in_case false e none one first two second =
          let less = first e in omega (arith, less, two)

few : (ks : List VKind) → heights ks ≤ 4 * length ks
few [] = omega arith
few (ATop ∷ ks) = let h = few ks in omega (arith, h)
few (AnInt ∷ ks) = let h = few ks in omega (arith, h)
few (ANull ∷ ks) = let h = few ks in omega (arith, h)
few (AnObject n ∷ ks) = let h = few ks in omega (arith, h)
few (ABase true ∷ ks) = let h = few ks in omega (arith, h)
few (ABase false ∷ ks) = let h = few ks in omega (arith, h)

-- one item of a table is lighter
lighter : (most : ℕ) (t : Table) (at : ℕ) (o : Option KFrame) (n : Option KFrame) → slice_get t at
    ≡ Some o
    → weight most n < weight most o → weights most (set t at n) < weights most t
lighter most [] at o n is less = absurd (cc is)
lighter most (x ∷ t) zero o n is less =
    let same : x ≡ o = cc is in
    let both : weight most n < weight most x =
    subst (λ x. weight most n < weight most x) (sym same) less in
    omega (arith, both)
lighter most (x ∷ t) (suc at) o n is less =
    let later = lighter most t at o n is less in omega (arith, later)

pub starts-within : (code : List ℕ) (at operands : ℕ) → starts_after code at operands ≡ true
    → at < length code
unfolding starts_after
starts-within [] at operands e = absurd (cc e)
starts-within (op ∷ bytes) zero operands e = omega arith
starts-within (op ∷ bytes) (suc at) zero e =
    in_case (operand_bytes op) e (λ n later. starts-within bytes at n later)
  where
    in_case : (o : Option ℕ) → if_listed (starts_after bytes at) o ≡ true
        → ((n : ℕ) → starts_after bytes at n ≡ true → at < length bytes)
        → suc at < suc (length bytes)
    in_case None e each = absurd (cc e)
    in_case (Some n) e each = let lt = each n e in omega (arith, lt)
starts-within (op ∷ bytes) (suc at) (suc operands) e =
    let lt = starts-within bytes at operands e in omega (arith, lt)

held-none : (t : Table) (at : ℕ) → at < length t → frame_at t at ≡ None → slice_get t at ≡ Some None
unfolding frame_at
held-none [] at lt e = absurd (omega (arith, lt))
held-none (None ∷ t) zero lt e = refl
held-none (Some k ∷ t) zero lt e = absurd (cc e)
held-none (o ∷ t) (suc at) lt e = held-none t at (omega (arith, lt)) e

held-some : (t : Table) (at : ℕ) (k : KFrame) → frame_at t at ≡ Some k → slice_get t at
    ≡ Some (Some k)
unfolding frame_at
held-some [] at k e = absurd (cc e)
held-some (None ∷ t) zero k e = absurd (cc e)
held-some (Some j ∷ t) zero k e = ap Some e
held-some (o ∷ t) (suc at) k e = held-some t at k e

found-put : (t : Table) (at n : ℕ) (f k : KFrame) → frame_at (set t at (Some f)) n ≡ Some k
    → ((n ≡ at) × (k ≡ f)) ⊎ (frame_at t n ≡ Some k)
unfolding frame_at
found-put [] at n f k e = inr e
found-put (o ∷ t) zero zero f k e = inl (refl, cc e)
found-put (o ∷ t) zero (suc n) f k e = inr e
found-put (o ∷ t) (suc at) zero f k e = inr e
found-put (o ∷ t) (suc at) (suc n) f k e =
    ⊎_elim (λ h. inl (ap suc h.0, h.1)) (λ h. inr h) (found-put t at n f k e)

module _ (exc : List Name) (act : Instr → Act) (handler_kind : Catch → VKind) (code : CodeAttr)
    (start : Given) (first : KFrame) (has_first : start 0 ≡ Some first) where
  abbrev pub Most : ℕ
  Most = 4 * (code.max_locals + code.max_stack)

  -- a table that passes go on with
  pub record Right (t : Table) : Type 0 where
    pub many : length t ≡ length code.code
    pub begins : StartsWith start (frame_at t)
    pub sized : (at : ℕ) (k : KFrame) → frame_at t at ≡ Some k
        → IsSized exc act handler_kind code start at k

  record Falls (t : Table) (s : Step) : Type 0 where
    right : Right s.table
    le : weights Most s.table ≤ weights Most t
    lt : s.rose ≡ true → weights Most s.table < weights Most t

  abbrev AllFall : Table → Option Step → Type 0
  AllFall t o = (s : Step) → o ≡ Some s → Falls t s

  still-falls : (t : Table) (s : Step) → Right t → record { table = t; rose = false } ≡ s
      → Falls t s
  still-falls t s right same =
      subst (λ s. Falls t s) same
      (record { right = right; le = omega arith; lt = λ e. absurd (cc e) })

  put-falls : (t : Table) (at : ℕ) (o : Option KFrame) (f : KFrame) (s : Step) → Right t
      → slice_get t at ≡ Some o → is_some (start at) ≡ false
      → IsSized exc act handler_kind code start at f
      → weight Most (Some f) < weight Most o
      → record { table = set t at (Some f); rose = true } ≡ s → Falls t s
  put-falls t at o f s right is other size less same =
      let lt = lighter Most t at o (Some f) is less in
      subst (λ s. Falls t s) same
      (record {
        right = record {
          many = length-set t at (Some f) ∙ right.many;
          begins = λ n k e. others-kept t at n f
              (λ same. let both : true ≡ false =
              sym (ap is_some e) ∙ ap (λ n. is_some (start n)) same ∙ other in cc both)
              ∙ right.begins n k e;
          sized = λ n k e. ⊎_elim
              (λ h. subst (λ (n : ℕ). IsSized exc act handler_kind code start n k) (sym h.0)
              (subst (λ (k : KFrame). IsSized exc act handler_kind code start at k) (sym h.1) size))
              (λ h. right.sized n k h) (found-put t at n f k e);
        };
        le = omega (arith, lt);
        lt = λ e. lt;
      })

  landed-falls : (t : Table) (at : ℕ) (w : Way) (l : KFrame) → Right t → frame_at t at ≡ Some l
      → AllFall t (landed exc act handler_kind code start t at w l)
  unfolding landed
  landed-falls t at w l right is s =
      tests (w.exact && not (all_into exc l.stack w.frame.stack)) (frame_into exc w.frame l) refl
      (is_some (start at)) refl (same_lengths w.frame l) refl
    where
      tests : (x b : Bool) → frame_into exc w.frame l ≡ b → (z : Bool) → is_some (start at) ≡ z
          → (n : Bool) → same_lengths w.frame l ≡ n
          → cond x None (cond b (Some (record { table = t; rose = false }))
          (cond (z || not n) None
          (Some (record { table = set t at (Some (merge_frames exc w.frame l)); rose = true }))))
          ≡ Some s → Falls t s
      tests true b fr z e n len got = absurd (cc got)
      tests false true fr z e n len got = still-falls t s right (cc got)
      tests false false fr true e n len got = absurd (cc got)
      tests false false fr false e false len got = absurd (cc got)
      tests false false fr false e true len got =
          let size = right.sized at l is in
          let merged = merged-frame exc w.frame l len fr in
          let sized : IsSized exc act handler_kind code start at (merge_frames exc w.frame l) =
          record {
            locals = merged.0 ∙ size.locals;
            room = omega (arith, merged.1, size.room);
            starts = size.starts;
          } in
          put-falls t at (Some l) (merge_frames exc w.frame l) s right (held-some t at l is) e sized
          merged.2 (cc got)

  new-falls : (t : Table) (at : ℕ) (w : Way) (s : Step) → Right t → frame_at t at ≡ None
      → (b : Bool)
      → (starts_at code.code at && length w.frame.locals == code.max_locals
      && nat_le (length w.frame.stack) code.max_stack) ≡ b
      → cond b (Some (record { table = set t at (Some w.frame); rose = true })) None ≡ Some s
      → Falls t s
  new-falls t at w s right none false test got = absurd (cc got)
  new-falls t at w s right none true test got =
      let two = all_both (starts_at code.code at && (length w.frame.locals == code.max_locals))
      (nat_le (length w.frame.stack) code.max_stack) test in
      let one = all_both (starts_at code.code at) (length w.frame.locals == code.max_locals)
      two.0 in
      let room = leb-true (length w.frame.stack) code.max_stack two.1 in
      let locals = eqb-true (length w.frame.locals) code.max_locals one.1 in
      let within = starts-within code.code at 0 one.0 in
      let held = held-none t at (omega (arith, within, right.many)) none in
      let a = few w.frame.locals in
      let b = few w.frame.stack in
      let other : is_some (start at) ≡ false = in_start (start at) refl in
      put-falls t at None w.frame s right held other
      (record { locals = locals; room = room; starts = one.0 })
      (omega (arith, a, b, room, locals)) (cc got)
    where
      in_start : (o : Option KFrame) → start at ≡ o → is_some o ≡ false
      in_start None e = refl
      in_start (Some k) e =
          let both : Some k ≡ None = sym (right.begins at k e) ∙ none in absurd (cc both)

  land-falls : (t : Table) (w : Way) → Right t
      → AllFall t (land exc act handler_kind code start t w)
  land-falls t w right = in_to w.to where
    in_at : (at : ℕ) (o : Option KFrame) → frame_at t at ≡ o
        → AllFall t (landed_at exc act handler_kind code start t at w o)
    in_at at (Some l) is = landed-falls t at w l right is
    in_at at None is = λ s. new-falls t at w s right is _ refl

    in_to : (z : ℤ) → AllFall t (land_to exc act handler_kind code start t w z)
    in_to (pos at) = in_at at (frame_at t at) refl
    in_to (negsuc n) = λ s e. absurd (cc e)

  then-falls : (t : Table) (o : Option Step) (next : Table → Option Step) → AllFall t o
      → ((r : Table) → Right r → AllFall r (next r))
      → AllFall t (and_then exc act handler_kind code start o next)
  then-falls t None next one other s e = absurd (cc e)
  then-falls t (Some r) next one other s e =
      in_case (next r.table) refl e (one r refl) (other r.table (one r refl).right)
    where
      in_case : (o : Option Step) → next r.table ≡ o
          → rose_with exc act handler_kind code start r.rose o ≡ Some s → Falls t r
          → AllFall r.table (next r.table) → Falls t s
      in_case None is e first second = absurd (cc e)
      in_case (Some q) is e first second =
          let same : record q { rose = r.rose || q.rose } ≡ s = cc e in
          let later = second q is in
          subst (λ s. Falls t s) same
          (record {
            right = later.right;
            le = omega (arith, first.le, later.le);
            lt = either r.rose q.rose (λ x. let a = first.lt x in omega (arith, a, later.le))
                (λ x. let a = later.lt x in omega (arith, first.le, a));
          })
        where
          either : (x y : Bool)
              → (x ≡ true → weights Most q.table < weights Most t)
              → (y ≡ true → weights Most q.table < weights Most t)
              → (x || y) ≡ true → weights Most q.table < weights Most t
          either true y one other e = one refl
          either false y one other e = other e

  all-falls : (ws : List Way) (t : Table) → Right t
      → AllFall t (land_all exc act handler_kind code start ws t)
  all-falls [] t right = λ s e. still-falls t s right (cc e)
  all-falls (w ∷ ws) t right =
      then-falls t (land exc act handler_kind code start t w)
      (land_all exc act handler_kind code start ws)
      (land-falls t w right) (all-falls ws)

  visit-falls : (at : ℕ) (t : Table) → Right t
      → AllFall t (visit exc act handler_kind code start at t)
  visit-falls at t right = in_frame (frame_at t at) where
    tested : (k : KFrame) (d : Decoded) (b : Bool)
        → AllFall t (cond b (land_all exc act handler_kind code start
        (ways exc act handler_kind code start at d k) t) None)
    tested k d true = all-falls (ways exc act handler_kind code start at d k) t right
    tested k d false = λ s e. absurd (cc e)

    in_code : (k : KFrame) (o : Option Decoded)
        → AllFall t (visit_with exc act handler_kind code start at k o t)
    in_code k None = λ s e. absurd (cc e)
    in_code k (Some d) = tested k d _

    in_frame : (o : Option KFrame) → AllFall t (visit_at exc act handler_kind code start at o t)
    in_frame None = λ s e. still-falls t s right (cc e)
    in_frame (Some k) = in_code k (decoded_at code.code at)

  pass-falls : (ats : List ℕ) (t : Table) → Right t
      → AllFall t (pass exc act handler_kind code start ats t)
  pass-falls [] t right = λ s e. still-falls t s right (cc e)
  pass-falls (at ∷ ats) t right =
      then-falls t (visit exc act handler_kind code start at t)
      (pass exc act handler_kind code start ats)
      (visit-falls at t right) (pass-falls ats)

  -- ---- rounds

  abbrev pub IsFit : Given → Type 0
  IsFit u = Fitting exc act handler_kind code u first × StartsWith start u

  abbrev pub Least : Option Table → Type 0
  Least o = Judged exc IsFit o

  -- what is kept for frames that fit
  abbrev pub KeptBy : (u : Given) → IsFit u → Table → Type 0
  KeptBy u fit t = Kept exc act handler_kind code start u first fit.0 fit.1 t

  module _ (ats : List ℕ) (covers : (at : ℕ) → starts_at code.code at ≡ true → Among at ats) where
    pub rounds-judged : (n : ℕ) (t : Table) → Right t → weights Most t < n
        → ((u : Given) (fit : IsFit u) → KeptBy u fit t)
        → Least (rounds exc act handler_kind code start ats n t)
    unfolding rounds
    rounds-judged zero t right less kept = absurd (omega (arith, less))
    rounds-judged (suc n) t right less kept =
        in_case (pass exc act handler_kind code start ats t) refl
        (λ r right less kept. rounds-judged n r right less kept)
      where
        in_case : (o : Option Step) → pass exc act handler_kind code start ats t ≡ o
            → ((r : Table) → Right r → weights Most r < n
            → ((u : Given) (fit : IsFit u) → KeptBy u fit r)
            → Least (rounds exc act handler_kind code start ats n r))
            → Least (round_on o (rounds exc act handler_kind code start ats n))
        in_case None is later = λ u fit.
            let got = pass-kept exc act handler_kind code start u first fit.0 fit.1 ats t
            (kept u fit) in
            let both : None ≡ Some got.0 = sym is ∙ got.1 in cc both
        in_case (Some s) is later = by_rose s.rose refl where
          kept-after : (u : Given) (fit : IsFit u) → KeptBy u fit s.table
          kept-after u fit =
              let got = pass-kept exc act handler_kind code start u first fit.0 fit.1 ats t
              (kept u fit) in
              let both : Some s ≡ Some got.0 = sym is ∙ got.1 in
              let same : s ≡ got.0 = cc both in
              subst (λ (s : Step). KeptBy u fit s.table) (sym same) got.2

          falls : Falls t s
          falls = pass-falls ats t right s is

          by_rose : (b : Bool) → s.rose ≡ b
              → Least (cond b (rounds exc act handler_kind code start ats n s.table) (Some s.table))
          by_rose true e =
              let lt = falls.lt e in
              later s.table falls.right (omega (arith, lt, less)) kept-after
          by_rose false e =
              let same = (pass-rests exc act handler_kind code start ats t s is e).0 in
              let fits = still-fits exc act handler_kind code start ats t first s
              (right.begins 0 first has_first)
              (λ at k has. let size = right.sized at k has in (covers at size.starts, size)) is e
              in (
                subst (λ (t : Table). IsFit (frame_at t)) (sym same) (fits, right.begins),
                λ u fit. (kept-after u fit).below,
              )
