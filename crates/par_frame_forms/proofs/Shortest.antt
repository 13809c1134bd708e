-- The form that is written is the shortest, and of equal lengths the one of the least tag.
use Rattle.std.proofs.Common.{◌≡◌, ℕ, zero, suc, ◌+◌, ◌-◌, ◌<◌, ◌≤◌, ◌⊎◌, inl, inr, ⊎_elim, Bool}
use Rattle.std.proofs.Common.{true, false, cond, List, [], ◌∷◌, ◌++◌, length, take, drop, Option}
use Rattle.std.proofs.Common.{Some, None, refl, sym, ap, subst, ◌∙◌, append_assoc, length-append}
use Rattle.std.proofs.Common.{arith}
use Rattle.std.specs.Prelude.{nat_le, nat_lt, ◌==◌, ◌&&◌, not}
use Rattle.std.specs.List.{list_all}
use Rattle.std.proofs.lemmas.Bool.{ltb-true, ltb-false, leb-true, leb-false, eqb-true, eq-eqb}
use Rattle.std.proofs.lemmas.Bool.{eqb-false, and_parts, and_cases, both_ways}
use Rattle.std.proofs.lemmas.List.{take-append-drop, length-take}
use Rattle.std.proofs.Math.Seq.{take-append-add}
use Rattle.byteorder.specs.Numbers.{length-bytes_high_first}
use Rattle.par_pool.specs.Spelling.{u2}
use Rattle.par_frame_forms.specs.declared.form.PlaceType.{PlaceType}
use Rattle.par_frame_forms.specs.declared.form.PlaceType.TheVariants.{Top, Int, Null, Class}
use Rattle.par_frame_forms.specs.declared.form.FrameForm.{FrameForm}
use Rattle.par_frame_forms.specs.declared.form.FrameForm.TheVariants.{Same, OneOperand}
use Rattle.par_frame_forms.specs.declared.form.FrameForm.TheVariants.{OneOperandFar, Cut, More}
use Rattle.par_frame_forms.specs.declared.form.FrameForm.TheVariants.{Full}
use Rattle.par_frame_forms.specs.Spelled.{spelled, spelled_type, spelled_types, TypesFit, Said, tag}
use Rattle.par_frame_forms.specs.Spelled.{says, Alike, Spells, IsNoLater, IsWritten}
use Rattle.par_frame_forms.specs.Written.{same_type, behind, is_top, known, trimmed, full, many_cut}
use Rattle.par_frame_forms.specs.Written.{shorter, bare, single, by_stack}
use Rattle.par_frame_forms.specs.Laws.{SaidFits, WrittenIsShortest}
use Rattle.par_frame_forms.proofs.Known.{Tops, Ends, ends-as, formed, known-alike, known-few}
use Rattle.par_frame_forms.proofs.Known.{known-fit, tops-first, tops-take, tops-fewer}

-- ---- lengths

type-many : (t : PlaceType) → 1 ≤ length (spelled_type t)
type-many Top = omega arith
type-many Int = omega arith
type-many Null = omega arith
type-many (Class index) = omega arith

types-append : (ts us : List PlaceType) → length (spelled_types (ts ++ us))
    ≡ length (spelled_types ts) + length (spelled_types us)
types-append [] us = omega arith
types-append (t ∷ ts) us =
    let a = length-append (spelled_type t) (spelled_types (ts ++ us)) in
    let b = length-append (spelled_type t) (spelled_types ts) in
    let c = types-append ts us in omega (arith, a, b, c)

one-many : (t : PlaceType) → length (spelled_types (t ∷ [])) ≡ length (spelled_type t)
one-many t = let a = length-append (spelled_type t) [] in omega (arith, a)

far-form : (d : ℕ) (t : PlaceType) → length (spelled (OneOperandFar d t))
    ≡ 3 + length (spelled_type t)
far-form d t =
    let a = length-append (u2 d) (spelled_type t) in
    let b = length-bytes_high_first 2 d in omega (arith, a, b)

cut-form : (n d : ℕ) → length (spelled (Cut n d)) ≡ 3
cut-form n d = let b = length-bytes_high_first 2 d in omega (arith, b)

more-form : (d : ℕ) (ts : List PlaceType)
    → length (spelled (More d ts)) ≡ 3 + length (spelled_types ts)
more-form d ts =
    let a = length-append (u2 d) (spelled_types ts) in
    let b = length-bytes_high_first 2 d in omega (arith, a, b)

full-form : (d : ℕ) (ls ss : List PlaceType) → length (spelled (Full d ls ss))
    ≡ 7 + length (spelled_types ls) + length (spelled_types ss)
full-form d ls ss =
    let a = length-append (u2 d) (u2 (length ls)
    ++ (spelled_types ls ++ (u2 (length ss) ++ spelled_types ss))) in
    let b = length-append (u2 (length ls))
    (spelled_types ls ++ (u2 (length ss) ++ spelled_types ss)) in
    let c = length-append (spelled_types ls) (u2 (length ss) ++ spelled_types ss) in
    let e = length-append (u2 (length ss)) (spelled_types ss) in
    let p = length-bytes_high_first 2 d in
    let q = length-bytes_high_first 2 (length ls) in
    let r = length-bytes_high_first 2 (length ss) in omega (arith, a, b, c, e, p, q, r)

-- ---- lists that begin with others

same-type : (t u : PlaceType) → same_type t u ≡ true → t ≡ u
unfolding same_type
same-type Top Top e = refl
same-type Int Int e = refl
same-type Null Null e = refl
same-type (Class m) (Class n) e = ap Class (eqb-true m n e)
same-type t u e = absurd (cc e)

type-same : (t : PlaceType) → same_type t t ≡ true
unfolding same_type
type-same Top = refl
type-same Int = refl
type-same Null = refl
type-same (Class n) = eq-eqb n n refl

behind-append : (listed ts : List PlaceType) → behind listed (listed ++ ts) ≡ Some ts
unfolding behind
behind-append [] ts = refl
behind-append (t ∷ listed) ts =
    ap (λ (b : Bool). cond b (behind listed (listed ++ ts)) None) (type-same t)
    ∙ behind-append listed ts

pub append_behind : (listed locals ts : List PlaceType) → behind listed locals ≡ Some ts
    → locals ≡ listed ++ ts
unfolding behind
append_behind [] locals ts e = cc e
append_behind (t ∷ listed) [] ts e = absurd (cc e)
append_behind (t ∷ listed) (u ∷ locals) ts e =
    in_case (same_type t u) refl e (append_behind listed locals ts)
  where
    in_case : (b : Bool) → same_type t u ≡ b → cond b (behind listed locals) None ≡ Some ts
        → (behind listed locals ≡ Some ts → locals ≡ listed ++ ts)
        → u ∷ locals ≡ t ∷ (listed ++ ts)
    in_case true same e later = λ i. sym (same-type t u same) i ∷ later e i
    in_case false same e later = absurd (cc e)

none-behind : (ts : List PlaceType) → ts ++ [] ≡ ts
none-behind [] = refl
none-behind (t ∷ ts) = ap (λ (us : List PlaceType). t ∷ us) (none-behind ts)

-- what is behind the same front
cancel : (ts us vs : List PlaceType) → ts ++ us ≡ ts ++ vs → us ≡ vs
cancel ts us vs e =
    let both : Some us ≡ Some vs =
    sym (behind-append ts us) ∙ ap (behind ts) e ∙ behind-append ts vs in cc both

-- of two beginnings of one list, one is the beginning of the other
pub record Begin (ts us : List PlaceType) : Type 0 where
  pub rest : List PlaceType
  pub is : us ≡ ts ++ rest

either : (ts us vs ws : List PlaceType) → ts ++ us ≡ vs ++ ws → Begin ts vs ⊎ Begin vs ts
either [] us vs ws e = inl (record { rest = vs; is = refl })
either (t ∷ ts) us [] ws e = inr (record { rest = t ∷ ts; is = refl })
either (t ∷ ts) us (v ∷ vs) ws e =
    let head : t ≡ v = cc e in
    let tail : ts ++ us ≡ vs ++ ws = cc e in
    ⊎_elim
    (λ b. inl (record {
      rest = b.rest;
      is = λ i. sym head i ∷ b.is i;
    }))
    (λ b. inr (record {
      rest = b.rest;
      is = λ i. head i ∷ b.is i;
    }))
    (either ts us vs ws tail)

-- a form that says the frame, of so many bytes more than another one
no-later : (f g : FrameForm) (ts : List PlaceType)
    → length (spelled g) ≡ length (spelled f) + length (spelled_types ts) → tag f ≤ tag g
    → IsNoLater f g
no-later f g [] e le = inr (omega (arith, e), le)
no-later f g (t ∷ ts) e le =
    let a = length-append (spelled_type t) (spelled_types ts) in
    let b = type-many t in inl (omega (arith, e, a, b))

-- what is left of locals of which as many are cut as a form can
abbrev left : List PlaceType → List PlaceType
left rest = take (length rest - many_cut rest) rest

module _ (listed : List PlaceType) (said : Said) where
  abbrev Form : FrameForm → Type 0
  Form g = Spells listed said g

  -- the locals that have to be listed
  abbrev own : List PlaceType
  own = known said.locals

  ends-of : (g : FrameForm) → Form g → Ends (says listed g).locals own
  ends-of g s = ends-as (says listed g).locals said.locals s.same.locals

  -- ---- none comes before it

  least-same : (g : FrameForm) → Form g → IsNoLater (Same said.delta) g
  least-same (Same e) s = let d : e ≡ said.delta = s.same.delta in inr (refl, omega (arith, d))
  least-same (OneOperand e t) s = let m = type-many t in inl (omega (arith, m))
  least-same (OneOperandFar e t) s = let m = far-form e t in inl (omega (arith, m))
  least-same (Cut n e) s = let m = cut-form n e in inl (omega (arith, m))
  least-same (More e ts) s = let m = more-form e ts in inl (omega (arith, m))
  least-same (Full e ls ss) s = let m = full-form e ls ss in inl (omega (arith, m))

  -- without operands no form has one
  no-one : said.stack ≡ [] → (e : ℕ) (t : PlaceType) → Form (OneOperand e t) → ⊥
  no-one none e t s = let both : t ∷ [] ≡ [] = s.same.stack ∙ none in cc both

  no-far : said.stack ≡ [] → (e : ℕ) (t : PlaceType) → Form (OneOperandFar e t) → ⊥
  no-far none e t s = let both : t ∷ [] ≡ [] = s.same.stack ∙ none in cc both

  -- a form that leaves so many of the listed locals
  left-behind : (n : ℕ) → Ends (take n listed) own → Begin own listed
  left-behind n r = record {
    rest = r.rest ++ drop n listed;
    is =
        sym (take-append-drop n listed)
        ∙ ap (λ (us : List PlaceType). us ++ drop n listed) r.is
        ∙ append_assoc own r.rest (drop n listed);
  }

  -- where own locals are listed, and others behind them
  module _ (rest : List PlaceType) (begins : listed ≡ own ++ rest) where
    long : length listed ≡ length own + length rest
    long = ap length begins ∙ length-append own rest

    same-tops : Ends listed own → Tops rest
    same-tops r = subst Tops (cancel own r.rest rest (sym r.is ∙ begins)) r.tops

    more-tops : (e : ℕ) (us : List PlaceType) → Form (More e us) → Tops rest
    more-tops e us s =
        let r = ends-of (More e us) s in
        let same : own ++ (rest ++ us) ≡ own ++ r.rest =
        sym (append_assoc own rest us) ∙ ap (λ (xs : List PlaceType). xs ++ us) (sym begins)
        ∙ r.is in
        tops-first rest us (subst Tops (sym (cancel own (rest ++ us) r.rest same)) r.tops)

    cut-within : (n e : ℕ) → Form (Cut n e) → n ≤ length rest
    cut-within n e s =
        let r = ends-of (Cut n e) s in
        let many : length (take (length listed - n) listed) ≡ length (own ++ r.rest) =
        ap length r.is in
        let cut = length-take (length listed - n) listed in
        let whole = length-append own r.rest in
        let within : n ≤ length listed = s.follows in
        omega (arith, many, cut, whole, within, long)

    cut-tops : (n e : ℕ) → Form (Cut n e) → Tops (take (length rest - n) rest)
    cut-tops n e s =
        let r = ends-of (Cut n e) s in
        let within = cut-within n e s in
        let left : length listed - n ≡ length own + (length rest - n) =
        omega (arith, within, long) in
        let same : own ++ r.rest ≡ own ++ take (length rest - n) rest =
        sym r.is ∙ (λ i. take (left i) (begins i))
        ∙ take-append-add own rest (length rest - n) in
        subst Tops (cancel own r.rest (take (length rest - n) rest) same) r.tops

    least-listed : length rest ≡ 0 → said.stack ≡ [] → 64 ≤ said.delta → (g : FrameForm) → Form g
        → IsNoLater (More said.delta []) g
    least-listed nothing none far (Same e) s =
        let d : e ≡ said.delta = s.same.delta in
        let small : e < 64 = s.fits in absurd (omega (arith, far, d, small))
    least-listed nothing none far (OneOperand e t) s = absurd (no-one none e t s)
    least-listed nothing none far (OneOperandFar e t) s = absurd (no-far none e t s)
    least-listed nothing none far (Cut n e) s =
        let some : 1 ≤ n = s.fits.0 in absurd (omega (arith, cut-within n e s, some, nothing))
    least-listed nothing none far (More e us) s =
        no-later (More said.delta []) (More e us) us
        (let a = more-form e us in let b = more-form said.delta [] in omega (arith, a, b))
        (omega arith)
    least-listed nothing none far (Full e ls ss) s =
        let a = full-form e ls ss in
        let b = more-form said.delta [] in inl (omega (arith, a, b))

    least-cut : said.stack ≡ [] → (64 ≤ said.delta) ⊎ (Tops rest → ⊥) → (g : FrameForm) → Form g
        → IsNoLater (Cut (many_cut rest) said.delta) g
    least-cut none far (Same e) s =
        let d : e ≡ said.delta = s.same.delta in
        let small : e < 64 = s.fits in
        ⊎_elim (λ big. absurd (omega (arith, big, d, small)))
        (λ never. absurd (never (same-tops (ends-of (Same e) s)))) far
    least-cut none far (OneOperand e t) s = absurd (no-one none e t s)
    least-cut none far (OneOperandFar e t) s = absurd (no-far none e t s)
    least-cut none far (Cut n e) s =
        let a = cut-form n e in
        let b = cut-form (many_cut rest) said.delta in
        let few : n ≤ 3 = s.fits.1 in
        let most : n ≤ many_cut rest = omega (arith, few, cut-within n e s) in
        inr (omega (arith, a, b), omega (arith, most))
    least-cut none far (More e us) s =
        no-later (Cut (many_cut rest) said.delta) (More e us) us
        (let a = more-form e us in
        let b = cut-form (many_cut rest) said.delta in omega (arith, a, b))
        (omega arith)
    least-cut none far (Full e ls ss) s =
        let a = full-form e ls ss in
        let b = cut-form (many_cut rest) said.delta in inl (omega (arith, a, b))

  -- no operands, and so many locals more
  least-more : (ts : List PlaceType) → said.stack ≡ [] → own ≡ listed ++ ts → 1 ≤ length ts
      → (g : FrameForm) → Form g → IsNoLater (More said.delta ts) g
  least-more ts none is some (Same e) s =
      let r = ends-of (Same e) s in
      let a : length listed ≡ length (own ++ r.rest) = ap length r.is in
      let b = length-append own r.rest in
      let c : length own ≡ length (listed ++ ts) = ap length is in
      let d = length-append listed ts in absurd (omega (arith, a, b, c, d, some))
  least-more ts none is some (OneOperand e t) s = absurd (no-one none e t s)
  least-more ts none is some (OneOperandFar e t) s = absurd (no-far none e t s)
  least-more ts none is some (Cut n e) s =
      let r = ends-of (Cut n e) s in
      let a : length (take (length listed - n) listed) ≡ length (own ++ r.rest) = ap length r.is in
      let b = length-append own r.rest in
      let c : length own ≡ length (listed ++ ts) = ap length is in
      let d = length-append listed ts in
      let cut = length-take (length listed - n) listed in
      absurd (omega (arith, a, b, c, d, cut, some))
  least-more ts none is some (More e us) s =
      let r = ends-of (More e us) s in
      let same : us ≡ ts ++ r.rest =
      cancel listed us (ts ++ r.rest)
      (r.is ∙ ap (λ (xs : List PlaceType). xs ++ r.rest) is ∙ append_assoc listed ts r.rest) in
      let a = more-form e us in
      let b = more-form said.delta ts in
      let c : length (spelled_types us) ≡ length (spelled_types (ts ++ r.rest)) =
      ap (λ (xs : List PlaceType). length (spelled_types xs)) same in
      let d = types-append ts r.rest in
      let many : length us ≡ length (ts ++ r.rest) = ap length same in
      let whole = length-append ts r.rest in
      no-later (More said.delta ts) (More e us) r.rest (omega (arith, a, b, c, d))
      (omega (arith, many, whole))
  least-more ts none is some (Full e ls ss) s =
      let r = ends-of (Full e ls ss) s in
      let a = full-form e ls ss in
      let b = more-form said.delta ts in
      let c : length (spelled_types ls) ≡ length (spelled_types (own ++ r.rest)) =
      ap (λ (xs : List PlaceType). length (spelled_types xs)) r.is in
      let d = types-append own r.rest in
      let e : length (spelled_types own) ≡ length (spelled_types (listed ++ ts)) =
      ap (λ (xs : List PlaceType). length (spelled_types xs)) is in
      let f = types-append listed ts in inl (omega (arith, a, b, c, d, e, f))

  -- one operand
  least-one : (t : PlaceType) → said.stack ≡ t ∷ [] → (g : FrameForm) → Form g
      → IsNoLater (OneOperand said.delta t) g
  least-one t one (Same e) s =
      let both : [] ≡ t ∷ [] = s.same.stack ∙ one in absurd (cc both)
  least-one t one (Cut n e) s =
      let both : [] ≡ t ∷ [] = s.same.stack ∙ one in absurd (cc both)
  least-one t one (More e us) s =
      let both : [] ≡ t ∷ [] = s.same.stack ∙ one in absurd (cc both)
  least-one t one (OneOperand e u) s =
      let both : u ∷ [] ≡ t ∷ [] = s.same.stack ∙ one in
      let same : u ≡ t = cc both in
      let many : length (spelled_type u) ≡ length (spelled_type t) =
      ap (λ (x : PlaceType). length (spelled_type x)) same in
      let d : e ≡ said.delta = s.same.delta in inr (omega (arith, many), omega (arith, d))
  least-one t one (OneOperandFar e u) s =
      let both : u ∷ [] ≡ t ∷ [] = s.same.stack ∙ one in
      let same : u ≡ t = cc both in
      let many : length (spelled_type u) ≡ length (spelled_type t) =
      ap (λ (x : PlaceType). length (spelled_type x)) same in
      let a = far-form e u in inl (omega (arith, many, a))
  least-one t one (Full e ls ss) s =
      let many : length (spelled_types ss) ≡ length (spelled_types (t ∷ [])) =
      ap (λ (x : List PlaceType). length (spelled_types x)) (s.same.stack ∙ one) in
      let a = full-form e ls ss in
      let b = one-many t in inl (omega (arith, many, a, b))

  least-far : (t : PlaceType) → said.stack ≡ t ∷ [] → 64 ≤ said.delta → (g : FrameForm) → Form g
      → IsNoLater (OneOperandFar said.delta t) g
  least-far t one big (Same e) s =
      let both : [] ≡ t ∷ [] = s.same.stack ∙ one in absurd (cc both)
  least-far t one big (Cut n e) s =
      let both : [] ≡ t ∷ [] = s.same.stack ∙ one in absurd (cc both)
  least-far t one big (More e us) s =
      let both : [] ≡ t ∷ [] = s.same.stack ∙ one in absurd (cc both)
  least-far t one big (OneOperand e u) s =
      let d : e ≡ said.delta = s.same.delta in
      let small : e < 64 = s.fits.0 in absurd (omega (arith, d, small, big))
  least-far t one big (OneOperandFar e u) s =
      let both : u ∷ [] ≡ t ∷ [] = s.same.stack ∙ one in
      let same : u ≡ t = cc both in
      let many : length (spelled_type u) ≡ length (spelled_type t) =
      ap (λ (x : PlaceType). length (spelled_type x)) same in
      let a = far-form e u in
      let b = far-form said.delta t in inr (omega (arith, many, a, b), omega arith)
  least-far t one big (Full e ls ss) s =
      let many : length (spelled_types ss) ≡ length (spelled_types (t ∷ [])) =
      ap (λ (x : List PlaceType). length (spelled_types x)) (s.same.stack ∙ one) in
      let a = full-form e ls ss in
      let b = one-many t in
      let c = far-form said.delta t in inl (omega (arith, many, a, b, c))

  -- all places, where no other form says the frame
  record NoOther : Type 0 where
    same : (e : ℕ) → Form (Same e) → ⊥
    one : (e : ℕ) (t : PlaceType) → Form (OneOperand e t) → ⊥
    far : (e : ℕ) (t : PlaceType) → Form (OneOperandFar e t) → ⊥
    cut : (n e : ℕ) → Form (Cut n e) → ⊥
    more : (e : ℕ) (ts : List PlaceType) → Form (More e ts) → ⊥

  least-full : NoOther → (g : FrameForm) → Form g → IsNoLater (full (trimmed said)) g
  least-full other (Same e) s = absurd (other.same e s)
  least-full other (OneOperand e t) s = absurd (other.one e t s)
  least-full other (OneOperandFar e t) s = absurd (other.far e t s)
  least-full other (Cut n e) s = absurd (other.cut n e s)
  least-full other (More e ts) s = absurd (other.more e ts s)
  least-full other (Full e ls ss) s =
      let r = ends-of (Full e ls ss) s in
      let a = full-form e ls ss in
      let b = full-form said.delta own said.stack in
      let c : length (spelled_types ls) ≡ length (spelled_types (own ++ r.rest)) =
      ap (λ (x : List PlaceType). length (spelled_types x)) r.is in
      let d = types-append own r.rest in
      let f : length (spelled_types ss) ≡ length (spelled_types said.stack) =
      ap (λ (x : List PlaceType). length (spelled_types x)) s.same.stack in
      no-later (full (trimmed said)) (Full e ls ss) r.rest (omega (arith, a, b, c, d, f))
      (omega arith)

  -- ---- the form that is written

  module _ (fits : SaidFits said) where
    full-written : NoOther → IsWritten listed said (full (trimmed said))
    full-written other = record {
      spells = record {
        fits = (
          fits.delta,
          omega (arith, fits.few, known-few said.locals),
          known-fit said.locals fits.locals,
          fits.low,
          fits.stack,
        );
        follows = tt;
        same = record { delta = refl; locals = known-alike said.locals; stack = refl };
      };
      least = least-full other;
      few = λ most a b. omega (arith, b, known-few said.locals);
    }

    -- with operands no form without them says the frame
    by-operands : (t : PlaceType) (ts : List PlaceType) → said.stack ≡ t ∷ ts
        → ((e : ℕ) (u : PlaceType) → Form (OneOperand e u) → ⊥)
        → ((e : ℕ) (u : PlaceType) → Form (OneOperandFar e u) → ⊥) → NoOther
    by-operands t ts some one far = record {
      same = λ e s. let both : [] ≡ t ∷ ts = s.same.stack ∙ some in cc both;
      one = one;
      far = far;
      cut = λ n e s. let both : [] ≡ t ∷ ts = s.same.stack ∙ some in cc both;
      more = λ e us s. let both : [] ≡ t ∷ ts = s.same.stack ∙ some in cc both;
    }

    -- without operands no form with one does
    by-none : said.stack ≡ [] → ((e : ℕ) → Form (Same e) → ⊥) → ((n e : ℕ) → Form (Cut n e) → ⊥)
        → ((e : ℕ) (ts : List PlaceType) → Form (More e ts) → ⊥) → NoOther
    by-none none same cut more = record {
      same = same;
      one = no-one none;
      far = no-far none;
      cut = cut;
      more = more;
    }

    -- the listed locals tell the same
    as-listed : (rest : List PlaceType) → listed ≡ own ++ rest → Tops rest
        → Alike listed said.locals
    as-listed rest is tops = formed listed said.locals rest is tops

    -- where no list begins with the own locals
    found : (o : Option (List PlaceType)) → behind own listed ≡ o → Begin own listed
        → o ≡ None → ⊥
    found o at b none =
        let both : Some b.rest ≡ None =
        sym (behind-append own b.rest) ∙ ap (behind own) (sym b.is) ∙ at ∙ none in cc both

    unlisted : behind own listed ≡ None → Ends listed own → ⊥
    unlisted at r = found None at (record { rest = r.rest; is = r.is }) refl

    uncut : behind own listed ≡ None → (n e : ℕ) → Form (Cut n e) → ⊥
    uncut at n e s =
        found None at (left-behind (length listed - n) (ends-of (Cut n e) s)) refl

    single-full : (t : PlaceType) → said.stack ≡ t ∷ [] → (Ends listed own → ⊥)
        → IsWritten listed said (full (trimmed said))
    single-full t one never =
        full-written (by-operands t [] one (λ e v s. never (ends-of (OneOperand e v) s))
        (λ e v s. never (ends-of (OneOperandFar e v) s)))

    single-written : (t : PlaceType) → said.stack ≡ t ∷ [] → (o : Option (List PlaceType))
        → behind own listed ≡ o → IsWritten listed said (single (trimmed said) t o)
    single-written t one None at = single-full t one (unlisted at)
    single-written t one (Some rest) at = in_tops (list_all is_top rest) refl where
      whole : listed ≡ own ++ rest
      whole = append_behind own listed rest at

      operand-fits : TypesFit (t ∷ [])
      operand-fits = subst (λ (ts : List PlaceType). TypesFit ts) one fits.stack

      in_case : Tops rest → (b : Bool) → nat_lt said.delta 64 ≡ b
          → IsWritten listed said (cond b (OneOperand said.delta t) (OneOperandFar said.delta t))
      in_case tops true e = record {
        spells = record {
          fits = (ltb-true said.delta 64 e, operand-fits.0);
          follows = tt;
          same = record { delta = refl; locals = as-listed rest whole tops; stack = sym one };
        };
        least = least-one t one;
        few = λ most a b. a;
      }
      in_case tops false e = record {
        spells = record {
          fits = (fits.delta, operand-fits.0);
          follows = tt;
          same = record { delta = refl; locals = as-listed rest whole tops; stack = sym one };
        };
        least = least-far t one (ltb-false said.delta 64 e);
        few = λ most a b. a;
      }

      in_tops : (b : Bool) → list_all is_top rest ≡ b
          → IsWritten listed said (cond (not b) (full (trimmed said))
          (cond (nat_lt said.delta 64) (OneOperand said.delta t) (OneOperandFar said.delta t)))
      in_tops true tops = in_case tops (nat_lt said.delta 64) refl
      in_tops false e =
          single-full t one (λ r. both_ways (list_all is_top rest) e (same-tops rest whole r))

    shorter-written : said.stack ≡ [] → (rest : List PlaceType) → listed ≡ own ++ rest
        → IsWritten listed said (shorter (trimmed said) rest)
    shorter-written none rest whole =
        in_same (list_all is_top rest && nat_lt said.delta 64) refl
      where
        in_cut : (64 ≤ said.delta) ⊎ (Tops rest → ⊥) → 1 ≤ length rest → (b : Bool)
            → list_all is_top (left rest) ≡ b
            → IsWritten listed said
            (cond b (Cut (many_cut rest) said.delta) (full (trimmed said)))
        in_cut far some true tops =
            let all = long rest whole in record {
              spells = record {
                fits = (omega (arith, some), omega arith, fits.delta);
                follows = omega (arith, all);
                same = record {
                  delta = refl;
                  locals =
                      let many : length listed - many_cut rest
                      ≡ length own + (length rest - many_cut rest) = omega (arith, all) in
                      formed (take (length listed - many_cut rest) listed) said.locals (left rest)
                      ((λ i. take (many i) (whole i))
                      ∙ take-append-add own rest (length rest - many_cut rest)) tops;
                  stack = sym none;
                };
              };
              least = least-cut rest whole none far;
              few = λ most a b.
                  let cut = length-take (length listed - many_cut rest) listed in
                  omega (arith, a, cut);
            }
        in_cut far some false e =
            let never : Tops (left rest) → ⊥ =
            λ tops. both_ways (list_all is_top (left rest)) e tops in
            let fewer : Tops rest → Tops (left rest) =
            λ tops. tops-fewer (length rest - many_cut rest) rest tops in
            full-written (by-none none
            (λ d s. never (fewer (same-tops rest whole (ends-of (Same d) s))))
            (λ n d s.
            let few : n ≤ 3 = s.fits.1 in
            let within = cut-within rest whole n d s in
            never (tops-take (length rest - many_cut rest) (length rest - n) rest
            (omega (arith, few, within)) (cut-tops rest whole n d s)))
            (λ d us s. never (fewer (more-tops rest whole d us s))))

        in_none : (64 ≤ said.delta) ⊎ (Tops rest → ⊥) → (b : Bool) → (length rest == 0) ≡ b
            → IsWritten listed said (cond b (More said.delta [])
            (cond (list_all is_top (left rest)) (Cut (many_cut rest) said.delta)
            (full (trimmed said))))
        in_none far true e =
            let nothing : length rest ≡ 0 = eqb-true (length rest) 0 e in
            let tops = no-tops rest nothing in
            let big : 64 ≤ said.delta = ⊎_elim (λ h. h) (λ h. absurd (h tops)) far in record {
              spells = record {
                fits = (fits.delta, omega arith, tt);
                follows = tt;
                same = record {
                  delta = refl;
                  locals =
                      formed (listed ++ []) said.locals rest (none-behind listed ∙ whole) tops;
                  stack = sym none;
                };
              };
              least = least-listed rest whole nothing none big;
              few = λ most a b. let all = length-append listed [] in omega (arith, a, all);
            }
          where
            no-tops : (ts : List PlaceType) → length ts ≡ 0 → Tops ts
            no-tops [] e = refl
            no-tops (t ∷ ts) e = absurd (omega (arith, e))
        in_none far false e =
            let some : 1 ≤ length rest =
            at-least (length rest) (eqb-false (length rest) 0 e) in
            in_cut far some (list_all is_top (left rest)) refl
          where
            at-least : (n : ℕ) → (n ≡ 0 → ⊥) → 1 ≤ n
            at-least zero never = absurd (never refl)
            at-least (suc n) never = omega arith

        in_same : (b : Bool) → (list_all is_top rest && nat_lt said.delta 64) ≡ b
            → IsWritten listed said (cond b (Same said.delta)
            (cond (length rest == 0) (More said.delta [])
            (cond (list_all is_top (left rest)) (Cut (many_cut rest) said.delta)
            (full (trimmed said)))))
        in_same true e =
            let both = and_parts (list_all is_top rest) (nat_lt said.delta 64) e in record {
              spells = record {
                fits = ltb-true said.delta 64 both.1;
                follows = tt;
                same = record {
                  delta = refl;
                  locals = as-listed rest whole both.0;
                  stack = sym none;
                };
              };
              least = least-same;
              few = λ most a b. a;
            }
        in_same false e =
            in_none
            (⊎_elim (λ h. inr (λ tops. both_ways (list_all is_top rest) h tops))
            (λ h. inl (ltb-false said.delta 64 h))
            (and_cases (list_all is_top rest) (nat_lt said.delta 64) e))
            (length rest == 0) refl

    more-written : said.stack ≡ [] → behind own listed ≡ None → (ts : List PlaceType)
        → own ≡ listed ++ ts → (b : Bool) → nat_le (length ts) 3 ≡ b
        → IsWritten listed said (cond b (More said.delta ts) (full (trimmed said)))
    more-written none at ts whole true e = record {
      spells = record {
        fits = (
          fits.delta,
          leb-true (length ts) 3 e,
          more-fit listed ts
              (subst (λ (us : List PlaceType). TypesFit us) whole
              (known-fit said.locals fits.locals)),
        );
        follows = tt;
        same = record {
          delta = refl;
          locals =
              formed (listed ++ ts) said.locals [] (sym whole ∙ sym (none-behind own)) refl;
          stack = sym none;
        };
      };
      least = least-more ts none whole (some ts refl);
      few = λ most a b.
          let all : length own ≡ length (listed ++ ts) = ap length whole in
          omega (arith, b, all, known-few said.locals);
    }
      where
        more-fit : (us vs : List PlaceType) → TypesFit (us ++ vs) → TypesFit vs
        more-fit [] vs all = all
        more-fit (u ∷ us) vs all = more-fit us vs all.1

        some : (us : List PlaceType) → us ≡ ts → 1 ≤ length us
        some [] is =
            let same : own ≡ listed =
            whole ∙ ap (λ (us : List PlaceType). listed ++ us) (sym is) ∙ none-behind listed in
            absurd (found None at
            (record { rest = []; is = sym same ∙ sym (none-behind own) }) refl)
        some (u ∷ us) is = omega arith
    more-written none at ts whole false e =
        let many = leb-false (length ts) 3 e in
        full-written (by-none none (λ d s. unlisted at (ends-of (Same d) s)) (uncut at)
        (λ d us s.
        let r = ends-of (More d us) s in
        let same : us ≡ ts ++ r.rest =
        cancel listed us (ts ++ r.rest)
        (r.is ∙ ap (λ (xs : List PlaceType). xs ++ r.rest) whole
        ∙ append_assoc listed ts r.rest) in
        let all : length us ≡ length (ts ++ r.rest) = ap length same in
        let parts = length-append ts r.rest in
        let few : length us ≤ 3 = s.fits.1 in absurd (omega (arith, all, parts, few, many))))

    bare-written : said.stack ≡ [] → (o : Option (List PlaceType)) → behind own listed ≡ o
        → (p : Option (List PlaceType)) → behind listed own ≡ p
        → IsWritten listed said (bare (trimmed said) o p)
    bare-written none (Some rest) at p back =
        shorter-written none rest (append_behind own listed rest at)
    bare-written none None at (Some ts) back =
        more-written none at ts (append_behind listed own ts back) (nat_le (length ts) 3) refl
    bare-written none None at None back =
        full-written (by-none none (λ d s. unlisted at (ends-of (Same d) s)) (uncut at)
        (λ d us s.
        let r = ends-of (More d us) s in
        ⊎_elim
        (λ b. let both : Some b.rest ≡ None =
        sym (behind-append listed b.rest) ∙ ap (behind listed) (sym b.is) ∙ back in cc both)
        (λ b. found None at b refl) (either listed us own r.rest r.is)))

    by-stack : (ss : List PlaceType) → said.stack ≡ ss
        → IsWritten listed said (by_stack listed (trimmed said) ss)
    by-stack [] none =
        bare-written none (behind own listed) refl (behind listed own) refl
    by-stack (t ∷ []) one = single-written t one (behind own listed) refl
    by-stack (t ∷ u ∷ ts) more =
        full-written (by-operands t (u ∷ ts) more
        (λ e v s. let both : v ∷ [] ≡ t ∷ u ∷ ts = s.same.stack ∙ more in cc both)
        (λ e v s. let both : v ∷ [] ≡ t ∷ u ∷ ts = s.same.stack ∙ more in cc both))

pub written_is_shortest : WrittenIsShortest
written_is_shortest listed said fits = by-stack listed said fits said.stack refl
