-- Ways that are gone one after another.
use Rattle.std.proofs.Common.{◌≡◌, ℕ, ◌<◌, ◌≤◌, ◌+◌, Bool, true, false, cond, List, [], ◌∷◌, ◌++◌}
use Rattle.std.proofs.Common.{length, take, get_or, ℤ, Result, Ok, refl, sym, ap}
use Rattle.std.proofs.Common.{subst, ◌∙◌}
use Rattle.std.proofs.lemmas.List.{take_more, take_all, append-nil}
use Rattle.par_base.specs.declared.memory.NoMemory.{NoMemory}
use Rattle.par_instr.specs.declared.instr.Instr.{Instr}
use Rattle.par_class.specs.declared.file.Catch.{Catch}
use Rattle.par_class.specs.declared.file.CodeAttr.{CodeAttr}
use Rattle.par_values.specs.Areas.{Name}
use Rattle.par_frame_moves.specs.par_kinds.declared.frame.VKind.{VKind}
use Rattle.par_frame_moves.specs.par_kinds.Kinds.{KFrame, Each}
use Rattle.par_frame_moves.specs.par_kinds.Acts.{Act}
use Rattle.par_frame_moves.specs.par_kinds.Fits.{Given, around}
use Rattle.par_frame_moves.proofs.par_kinds.Lists.{each-append, each-more}
use Rattle.par_kinds.specs.Passes.{Table, Way, frame_at, onward, handled}
use Rattle.par_frame_passes.specs.Sweeps.{Calm, Met, Meets, Went}
use Rattle.par_frame_passes.specs.Tables.{taken_by, joined}
use Rattle.par_frame_passes.specs.declared.course.Course.{Course}
use Rattle.par_frame_passes.specs.declared.course.Course.TheVariants as course

pub each-first : {A : Type 0} (P : A → Type 0) (xs ys : List A) → Each P (xs ++ ys) → Each P xs
each-first P [] ys each = tt
each-first P (x ∷ xs) ys each = (each.0, each-first P xs ys each.1)

pub each-last : {A : Type 0} (P : A → Type 0) (xs ys : List A) → Each P (xs ++ ys) → Each P ys
each-last P [] ys each = each
each-last P (x ∷ xs) ys each = each-last P xs ys each.1

pub calm-then : (at : ℕ) (t s r : Table) → Calm at t s → Calm at s r → Calm at t r
calm-then at t s r one other = record {
  stays = λ n k e. other.stays n k (one.stays n k e);
  ahead = λ n k below e. one.ahead n k below (other.ahead n k below e);
}

module _ (exc : List Name) (act : Instr → Act) (handler_kind : Catch → VKind) (code : CodeAttr)
    (start : Given) where
  -- a way that is met in a table is met in one that has its frames
  met-on : (at : ℕ) (s r : Table) → Calm at s r → (w : Way)
      → Met exc act handler_kind code start (frame_at s) w
      → Met exc act handler_kind code start (frame_at r) w
  met-on at s r calm w m = record {
    at = m.at;
    is = m.is;
    frame = m.frame;
    has = calm.stays m.at m.frame m.has;
    fits = m.fits;
    exact = m.exact;
  }

  -- no ways
  pub went-none : (at : ℕ) (t : Table)
      → Went exc act handler_kind code start at [] t (Ok course.Calm) t
  went-none at t = λ kept meets.
      (kept, record { stays = λ n k e. e; ahead = λ n k below e. e }, tt)

  -- ways, and then others
  pub went-then : (at : ℕ) (ws vs : List Way) (t s r : Table) (a b : Course)
      → Went exc act handler_kind code start at ws t (Ok a) s
      → Went exc act handler_kind code start at vs s (Ok b) r
      → Went exc act handler_kind code start at (ws ++ vs) t (Ok (joined a b)) r
  went-then at ws vs t s r course.Refused b one other =
      λ kept meets. one kept (each-first (Meets exc act handler_kind code start) ws vs meets)
  went-then at ws vs t s r course.Calm course.Refused one other = λ kept meets.
      other (one kept (each-first (Meets exc act handler_kind code start) ws vs meets)).0
      (each-last (Meets exc act handler_kind code start) ws vs meets)
  went-then at ws vs t s r course.Calm course.Calm one other = λ kept meets.
      let first = one kept (each-first (Meets exc act handler_kind code start) ws vs meets) in
      let then = other first.0 (each-last (Meets exc act handler_kind code start) ws vs meets) in (
        then.0,
        calm-then at t s r first.1 then.1,
        each-append (Met exc act handler_kind code start (frame_at r)) ws vs
            (each-more (Met exc act handler_kind code start (frame_at s))
            (Met exc act handler_kind code start (frame_at r))
            (met-on at s r then.1) ws first.2)
            then.2,
      )
  went-then at ws vs t s r course.Calm (course.Rises n) one other = λ kept meets.
      other (one kept (each-first (Meets exc act handler_kind code start) ws vs meets)).0
      (each-last (Meets exc act handler_kind code start) ws vs meets)
  went-then at ws vs t s r (course.Rises m) course.Refused one other = λ kept meets.
      other (one kept (each-first (Meets exc act handler_kind code start) ws vs meets))
      (each-last (Meets exc act handler_kind code start) ws vs meets)
  went-then at ws vs t s r (course.Rises m) course.Calm one other = λ kept meets.
      (other (one kept (each-first (Meets exc act handler_kind code start) ws vs meets))
      (each-last (Meets exc act handler_kind code start) ws vs meets)).0
  went-then at ws vs t s r (course.Rises m) (course.Rises n) one other = λ kept meets.
      other (one kept (each-first (Meets exc act handler_kind code start) ws vs meets))
      (each-last (Meets exc act handler_kind code start) ws vs meets)

  -- the same of what is told otherwise
  pub went-moved : (at : ℕ) (ws : List Way) (t s r : Table) (a b : Course) → s ≡ r → a ≡ b
      → Went exc act handler_kind code start at ws t (Ok b) r
      → Went exc act handler_kind code start at ws t (Ok a) s
  went-moved at ws t s r a b tables courses went =
      subst (λ (q : Table). Went exc act handler_kind code start at ws t (Ok a) q) (sym tables)
      (subst (λ (c : Course). Went exc act handler_kind code start at ws t (Ok c) r) (sym courses)
      went)

  -- a frame that goes on at an offset, which is told otherwise
  pub gone : (at : ℕ) (k : KFrame) (x z : ℤ) (t s : Table) (r : Result Course NoMemory)
      → Went exc act handler_kind code start at
      (record { to = x; frame = k; exact = false } ∷ []) t r s → x ≡ z
      → Went exc act handler_kind code start at
      (onward exc act handler_kind code start k (z ∷ [])) t r s
  gone at k x z t s r went same =
      subst (λ (i : ℤ). Went exc act handler_kind code start at
      (record { to = i; frame = k; exact = false } ∷ []) t r s) same went

  -- a frame that goes on at two offsets
  pub branched : (at : ℕ) (k : KFrame) (x y : ℤ) (t s r : Table) (a b c : Course)
      → Went exc act handler_kind code start at
      (record { to = x; frame = k; exact = false } ∷ []) t (Ok a) s
      → Went exc act handler_kind code start at
      (record { to = y; frame = k; exact = false } ∷ []) s (Ok b) r → c ≡ joined a b
      → Went exc act handler_kind code start at
      (onward exc act handler_kind code start k (x ∷ y ∷ [])) t (Ok c) r
  branched at k x y t s r a b c one other joins =
      subst (λ (d : Course). Went exc act handler_kind code start at
      (onward exc act handler_kind code start k (x ∷ y ∷ [])) t (Ok d) r) (sym joins)
      (went-then at (record { to = x; frame = k; exact = false } ∷ [])
      (record { to = y; frame = k; exact = false } ∷ []) t s r a b one other)

  -- two offsets, which are told otherwise
  pub gone-both : (at : ℕ) (k : KFrame) (x y z v : ℤ) (t s : Table) (r : Result Course NoMemory)
      → Went exc act handler_kind code start at
      (onward exc act handler_kind code start k (x ∷ y ∷ [])) t r s → x ≡ z → y ≡ v
      → Went exc act handler_kind code start at
      (onward exc act handler_kind code start k (z ∷ v ∷ [])) t r s
  gone-both at k x y z v t s r went first second =
      subst (λ (i : ℤ). Went exc act handler_kind code start at
      (onward exc act handler_kind code start k (i ∷ v ∷ [])) t r s) first
      (subst (λ (i : ℤ). Went exc act handler_kind code start at
      (onward exc act handler_kind code start k (x ∷ i ∷ [])) t r s) second went)

  -- ---- handlers

  abbrev Handled : ℕ → KFrame → List Catch → List Way
  Handled at k cs = handled exc act handler_kind code start at k cs

  module _ (at : ℕ) (k : KFrame) where
    handled-last : (cs : List Catch) (c : Catch)
        → Handled at k (cs ++ c ∷ [])
        ≡ Handled at k cs ++ cond (around at c) (taken_by handler_kind k c ∷ []) []
    unfolding handled
    handled-last [] c = refl
    handled-last (d ∷ cs) c = in_case (around at d) (handled-last cs c) where
      in_case : (b : Bool)
          → Handled at k (cs ++ c ∷ [])
          ≡ Handled at k cs ++ cond (around at c) (taken_by handler_kind k c ∷ []) []
          → cond b (taken_by handler_kind k d ∷ Handled at k (cs ++ c ∷ []))
          (Handled at k (cs ++ c ∷ []))
          ≡ cond b (taken_by handler_kind k d ∷ Handled at k cs) (Handled at k cs)
          ++ cond (around at c) (taken_by handler_kind k c ∷ []) []
      in_case true e = ap (λ ws. taken_by handler_kind k d ∷ ws) e
      in_case false e = e

    pub handlers-begun : (cs : List Catch) (t : Table)
        → Went exc act handler_kind code start at (Handled at k (take 0 cs)) t (Ok course.Calm) t
    unfolding handled
    handlers-begun cs t = went-none at t

    module _ (cs : List Catch) (i : ℕ) (d : Catch) (inside : i < length cs) where
      handled-more : (b : Bool) → around at (get_or cs i d) ≡ b
          → Handled at k (take (i + 1) cs)
          ≡ Handled at k (take i cs)
          ++ cond b (taken_by handler_kind k (get_or cs i d) ∷ []) []
      handled-more b is =
          ap (Handled at k) (take_more cs i d inside)
          ∙ handled-last (take i cs) (get_or cs i d)
          ∙ ap (λ c. Handled at k (take i cs)
          ++ cond c (taken_by handler_kind k (get_or cs i d) ∷ []) []) is

      pub handler-taken : (t s r : Table) (a b : Course) → around at (get_or cs i d) ≡ true
          → Went exc act handler_kind code start at (Handled at k (take i cs)) t (Ok a) s
          → Went exc act handler_kind code start at
          (taken_by handler_kind k (get_or cs i d) ∷ []) s (Ok b) r
          → Went exc act handler_kind code start at (Handled at k (take (i + 1) cs)) t
          (Ok (joined a b)) r
      handler-taken t s r a b is one other =
          subst (λ ws. Went exc act handler_kind code start at ws t (Ok (joined a b)) r)
          (sym (handled-more true is))
          (went-then at (Handled at k (take i cs)) (taken_by handler_kind k (get_or cs i d) ∷ [])
          t s r a b one other)

      pub handler-passed : (t s : Table) (a : Course) → around at (get_or cs i d) ≡ false
          → Went exc act handler_kind code start at (Handled at k (take i cs)) t (Ok a) s
          → Went exc act handler_kind code start at (Handled at k (take (i + 1) cs)) t (Ok a) s
      handler-passed t s a is one =
          subst (λ ws. Went exc act handler_kind code start at ws t (Ok a) s)
          (sym (handled-more false is ∙ append-nil (Handled at k (take i cs)))) one

    pub handlers-gone : (cs : List Catch) (i : ℕ) (t s : Table) (a : Course) → length cs ≤ i
        → Went exc act handler_kind code start at (Handled at k (take i cs)) t (Ok a) s
        → Went exc act handler_kind code start at (Handled at k cs) t (Ok a) s
    handlers-gone cs i t s a past one =
        subst (λ ds. Went exc act handler_kind code start at (Handled at k ds) t (Ok a) s)
        (take_all i cs past) one
