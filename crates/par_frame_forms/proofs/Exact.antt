-- Bytes that are read as forms are what spells these forms.
use Rattle.std.proofs.Common.{◌≡◌, ℕ, zero, suc, ◌+◌, ◌-◌, ◌<◌, ◌≤◌, ◌^◌, Bool, true, false, cond}
use Rattle.std.proofs.Common.{List, [], ◌∷◌, ◌++◌, length, drop, Option, Some, None, Ok, Err, refl}
use Rattle.std.proofs.Common.{sym, ap, subst, ◌∙◌, append_assoc, arith, ◌==◌}
use Rattle.std.specs.Prelude.{nat_le, nat_lt}
use Rattle.std.proofs.lemmas.Bool.{ltb-true, ltb-false, le-ltb, leb-true, eqb-true, eqb-false}
use Rattle.byteorder.specs.Endian.{big_number}
use Rattle.par_pool.specs.declared.error.ClassError.TheVariants.{Magic}
use Rattle.par_pool.specs.Reading.{number_at, u2_at}
use Rattle.par_pool.specs.Spelling.{u2}
use Rattle.par_pool.proofs.Exact.{IsBytes, Takes, takes_then, exact_u2}
use Rattle.par_frame_forms.specs.declared.form.PlaceType.{PlaceType}
use Rattle.par_frame_forms.specs.declared.form.PlaceType.TheVariants.{Top, Int, Null, Class}
use Rattle.par_frame_forms.specs.declared.form.FrameForm.{FrameForm}
use Rattle.par_frame_forms.specs.declared.form.FrameForm.TheVariants.{Same, OneOperand}
use Rattle.par_frame_forms.specs.declared.form.FrameForm.TheVariants.{OneOperandFar, Cut, More}
use Rattle.par_frame_forms.specs.declared.form.FrameForm.TheVariants.{Full}
use Rattle.par_frame_forms.specs.Spelled.{spelled, spelled_type, spelled_types, spelled_all}
use Rattle.par_frame_forms.specs.Spelled.{TypeFits, TypesFit, FormFits}
use Rattle.par_frame_forms.specs.Reading.{Read, and_read, gives, read_u2, read_type}
use Rattle.par_frame_forms.specs.Reading.{read_types, read_list, form_behind, read_form}
use Rattle.par_frame_forms.specs.Reading.{read_forms}
use Rattle.par_frame_forms.specs.Laws.{AreSpelled, ReadFormsAreSpelled}

value-same : {A : Type 0} (x y : A) (rest last : List ℕ) → gives x rest ≡ gives y last → x ≡ y
value-same {A} x y rest last e =
    let both : record { value = x; rest = rest } ≡ record { value = y; rest = last } = cc e in
    ap (λ (r : Read A). r.value) both

rest-same : {A : Type 0} (x y : A) (rest last : List ℕ) → gives x rest ≡ gives y last
    → rest ≡ last
rest-same {A} x y rest last e =
    let both : record { value = x; rest = rest } ≡ record { value = y; rest = last } = cc e in
    ap (λ (r : Read A). r.rest) both

-- a read that goes on gave something
went-on : {A B : Type 0} (o : Option (Read A)) (next : A → List ℕ → Option (Read B)) (y : B)
    (last : List ℕ) → and_read o next ≡ gives y last
    → (x : A) × (rest : List ℕ) × (o ≡ gives x rest) × (next x rest ≡ gives y last)
went-on None next y last e = absurd (cc e)
went-on (Some r) next y last e = (r.value, r.rest, refl, e)

first-byte : (byte : ℕ) (bytes : List ℕ) → IsBytes (byte ∷ bytes)
    → Takes (byte ∷ bytes) (byte ∷ []) bytes
first-byte byte bytes all = record { parts = refl; rest_fits = λ i. all (suc i) }

u2-taken : (bytes : List ℕ) → IsBytes bytes → (n : ℕ) (rest : List ℕ) → read_u2 bytes ≡ gives n rest
    → Takes bytes (u2 n) rest × (n < 2 ^ 16)
unfolding number_at
u2-taken bytes all n rest e = in_case (nat_le 2 (length bytes)) refl e where
  in_case : (b : Bool) → nat_le 2 (length bytes) ≡ b
      → cond b (gives (big_number 2 bytes) (drop 2 bytes)) None ≡ gives n rest
      → Takes bytes (u2 n) rest × (n < 2 ^ 16)
  in_case false le e = absurd (cc e)
  in_case true le e =
      let long : nat_lt (length bytes) 2 ≡ false =
      le-ltb (length bytes) 2 (leb-true 2 (length bytes) le) in
      let read : u2_at Magic bytes ≡ Ok (big_number 2 bytes, drop 2 bytes) =
      ap (λ (b : Bool). cond b (Err Magic) (Ok (big_number 2 bytes, drop 2 bytes))) long in
      let number : big_number 2 bytes ≡ n =
      value-same (big_number 2 bytes) n (drop 2 bytes) rest e in
      let last : drop 2 bytes ≡ rest =
      rest-same (big_number 2 bytes) n (drop 2 bytes) rest e in
      subst (λ (n : ℕ). Takes bytes (u2 n) rest × (n < 2 ^ 16)) number
      (subst (λ (rest : List ℕ). Takes bytes (u2 (big_number 2 bytes)) rest
      × (big_number 2 bytes < 2 ^ 16)) last
      ((exact_u2 Magic).takes bytes (big_number 2 bytes, drop 2 bytes) all read))

-- what a tag begins, with what is behind it
behind-tag : (tag : ℕ) (bytes put rest : List ℕ) → IsBytes (tag ∷ bytes) → Takes bytes put rest
    → Takes (tag ∷ bytes) (tag ∷ put) rest
behind-tag tag bytes put rest all behind =
    takes_then (tag ∷ bytes) (tag ∷ []) bytes put rest (first-byte tag bytes all) behind

abbrev after : (tag : ℕ) (bytes : List ℕ) → IsBytes (tag ∷ bytes) → IsBytes bytes
after tag bytes all = λ i. all (suc i)

type-taken : (bytes : List ℕ) → IsBytes bytes → (t : PlaceType) (rest : List ℕ)
    → read_type bytes ≡ gives t rest → Takes bytes (spelled_type t) rest × TypeFits t
type-taken [] all t rest e = absurd (cc e)
type-taken (tag ∷ bytes) all t rest e =
    in_case (tag == 0) refl (tag == 1) refl (tag == 5) refl (tag == 7) refl e
  where
    is : (u : PlaceType) → Takes (tag ∷ bytes) (spelled_type u) bytes → TypeFits u
        → gives u bytes ≡ gives t rest → Takes (tag ∷ bytes) (spelled_type t) rest × TypeFits t
    is u took fits e =
        let one : u ≡ t = value-same u t bytes rest e in
        let last : bytes ≡ rest = rest-same u t bytes rest e in
        subst (λ (t : PlaceType). Takes (tag ∷ bytes) (spelled_type t) rest × TypeFits t) one
        (subst (λ (rest : List ℕ). Takes (tag ∷ bytes) (spelled_type u) rest) last took, fits)

    alone : (n : ℕ) → tag ≡ n → Takes (tag ∷ bytes) (n ∷ []) bytes
    alone n same =
        subst (λ (n : ℕ). Takes (tag ∷ bytes) (n ∷ []) bytes) same (first-byte tag bytes all)

    in_case : (a : Bool) → (tag == 0) ≡ a → (b : Bool) → (tag == 1) ≡ b → (c : Bool)
        → (tag == 5) ≡ c → (d : Bool) → (tag == 7) ≡ d
        → cond a (gives Top bytes) (cond b (gives Int bytes) (cond c (gives Null bytes)
        (cond d (and_read (read_u2 bytes) (λ index rest. gives (Class index) rest)) None)))
        ≡ gives t rest → Takes (tag ∷ bytes) (spelled_type t) rest × TypeFits t
    in_case true p b q c r d s e = is Top (alone 0 (eqb-true tag 0 p)) tt e
    in_case false p true q c r d s e = is Int (alone 1 (eqb-true tag 1 q)) tt e
    in_case false p false q true r d s e = is Null (alone 5 (eqb-true tag 5 r)) tt e
    in_case false p false q false r true s e =
        let went = went-on (read_u2 bytes) (λ index rest. gives (Class index) rest) t rest e in
        let n = u2-taken bytes (after tag bytes all) went.0 went.1 went.2 in
        let one : Class went.0 ≡ t = value-same (Class went.0) t went.1 rest went.3 in
        let last : went.1 ≡ rest = rest-same (Class went.0) t went.1 rest went.3 in
        let took : Takes (tag ∷ bytes) (tag ∷ u2 went.0) went.1 =
        behind-tag tag bytes (u2 went.0) went.1 all n.0 in
        subst (λ (t : PlaceType). Takes (tag ∷ bytes) (spelled_type t) rest × TypeFits t) one (
          subst (λ (rest : List ℕ). Takes (tag ∷ bytes) (7 ∷ u2 went.0) rest) last
              (subst (λ (n : ℕ). Takes (tag ∷ bytes) (n ∷ u2 went.0) went.1) (eqb-true tag 7 s)
              took),
          n.1,
        )
    in_case false p false q false r false s e = absurd (cc e)

-- so many types
pub record TookTypes (many : ℕ) (bytes : List ℕ) (ts : List PlaceType) (rest : List ℕ) : Type 0
  where
    took : Takes bytes (spelled_types ts) rest
    number : length ts ≡ many
    fits : TypesFit ts

types-taken : (many : ℕ) (bytes : List ℕ) → IsBytes bytes → (ts : List PlaceType) (rest : List ℕ)
    → read_types many bytes ≡ gives ts rest → TookTypes many bytes ts rest
types-taken zero bytes all ts rest e =
    let none : [] ≡ ts = value-same [] ts bytes rest e in
    let last : bytes ≡ rest = rest-same [] ts bytes rest e in
    subst (λ (ts : List PlaceType). TookTypes zero bytes ts rest) none
    (subst (λ (rest : List ℕ). TookTypes zero bytes [] rest) last
    (record { took = record { parts = refl; rest_fits = all }; number = refl; fits = tt }))
types-taken (suc many) bytes all ts rest e =
    let one = went-on (read_type bytes)
    (λ t rest. and_read (read_types many rest) (λ ts last. gives (t ∷ ts) last)) ts rest e in
    let first = type-taken bytes all one.0 one.1 one.2 in
    let two = went-on (read_types many one.1) (λ us last. gives (one.0 ∷ us) last) ts rest one.3 in
    let later = types-taken many one.1 first.0.rest_fits two.0 two.1 two.2 in
    let whole : one.0 ∷ two.0 ≡ ts = value-same (one.0 ∷ two.0) ts two.1 rest two.3 in
    let last : two.1 ≡ rest = rest-same (one.0 ∷ two.0) ts two.1 rest two.3 in
    subst (λ (ts : List PlaceType). TookTypes (suc many) bytes ts rest) whole
    (subst (λ (rest : List ℕ). TookTypes (suc many) bytes (one.0 ∷ two.0) rest) last
    (record {
      took = takes_then bytes (spelled_type one.0) one.1 (spelled_types two.0) two.1 first.0
          later.took;
      number = ap suc later.number;
      fits = (first.1, later.fits);
    }))

-- types with their number before them
pub record TookList (bytes : List ℕ) (ts : List PlaceType) (rest : List ℕ) : Type 0 where
  took : Takes bytes (u2 (length ts) ++ spelled_types ts) rest
  few : length ts < 2 ^ 16
  fits : TypesFit ts

list-taken : (bytes : List ℕ) → IsBytes bytes → (ts : List PlaceType) (rest : List ℕ)
    → read_list bytes ≡ gives ts rest → TookList bytes ts rest
list-taken bytes all ts rest e =
    let one = went-on (read_u2 bytes) (λ many rest. read_types many rest) ts rest e in
    let n = u2-taken bytes all one.0 one.1 one.2 in
    let later = types-taken one.0 one.1 n.0.rest_fits ts rest one.3 in
    record {
      took = takes_then bytes (u2 (length ts)) one.1 (spelled_types ts) rest
          (subst (λ (m : ℕ). Takes bytes (u2 m) one.1) (sym later.number) n.0) later.took;
      few = subst (λ (m : ℕ). m < 2 ^ 16) (sym later.number) n.1;
      fits = later.fits;
    }

-- ---- forms

abbrev TookForm : List ℕ → FrameForm → List ℕ → Type 0
TookForm bytes f rest = Takes bytes (spelled f) rest × FormFits f

-- the form that was made is the one that was given
given-form : (bytes : List ℕ) (f g : FrameForm) (rest last : List ℕ) → gives f rest ≡ gives g last
    → TookForm bytes f rest → TookForm bytes g last
given-form bytes f g rest last e took =
    let one : f ≡ g = value-same f g rest last e in
    let same : rest ≡ last = rest-same f g rest last e in
    subst (λ (g : FrameForm). TookForm bytes g last) one
    (subst (λ (last : List ℕ). TookForm bytes f last) same took)

far-taken : (tag delta : ℕ) (bytes more : List ℕ) → IsBytes (tag ∷ bytes) → 247 ≤ tag
    → Takes bytes (u2 delta) more → delta < 2 ^ 16 → (f : FrameForm) (rest : List ℕ)
    → form_behind tag delta more ≡ gives f rest → TookForm (tag ∷ bytes) f rest
far-taken tag delta bytes more all big distance room f rest e =
    in_case (tag == 247) refl (nat_lt tag 251) refl (nat_lt tag 255) refl e
  where
    behind : (put last : List ℕ) → Takes more put last
        → Takes (tag ∷ bytes) (tag ∷ (u2 delta ++ put)) last
    behind put last took =
        behind-tag tag bytes (u2 delta ++ put) last all
        (takes_then bytes (u2 delta) more put last distance took)

    in_case : (a : Bool) → (tag == 247) ≡ a → (b : Bool) → nat_lt tag 251 ≡ b → (c : Bool)
        → nat_lt tag 255 ≡ c
        → cond a (and_read (read_type more) (λ t rest. gives (OneOperandFar delta t) rest))
        (cond b (gives (Cut (251 - tag) delta) more)
        (cond c (and_read (read_types (tag - 251) more) (λ ts rest. gives (More delta ts) rest))
        (and_read (read_list more)
        (λ locals rest. and_read (read_list rest)
        (λ stack last. gives (Full delta locals stack) last)))))
        ≡ gives f rest → TookForm (tag ∷ bytes) f rest
    in_case true p b q c r e =
        let went = went-on (read_type more) (λ t rest. gives (OneOperandFar delta t) rest) f rest
        e in
        let t = type-taken more distance.rest_fits went.0 went.1 went.2 in
        given-form (tag ∷ bytes) (OneOperandFar delta went.0) f went.1 rest went.3 (
          subst (λ (n : ℕ). Takes (tag ∷ bytes) (n ∷ (u2 delta ++ spelled_type went.0)) went.1)
              (eqb-true tag 247 p) (behind (spelled_type went.0) went.1 t.0),
          (room, t.1),
        )
    in_case false p true q c r e =
        let below = ltb-true tag 251 q in
        let other = eqb-false tag 247 p in
        let put : Takes (tag ∷ bytes) (tag ∷ u2 delta) more =
        behind-tag tag bytes (u2 delta) more all distance in
        let same : tag ≡ 251 - (251 - tag) = omega (arith, below) in
        given-form (tag ∷ bytes) (Cut (251 - tag) delta) f more rest e (
          subst (λ (n : ℕ). Takes (tag ∷ bytes) (n ∷ u2 delta) more) same put,
          (omega (arith, below), at_most tag big other, room),
        )
      where
        at_most : (tag : ℕ) → 247 ≤ tag → (tag ≡ 247 → ⊥) → 251 - tag ≤ 3
        at_most tag big other = omega (arith, big, other)
    in_case false p false q true r e =
        let below = ltb-true tag 255 r in
        let above = ltb-false tag 251 q in
        let went = went-on (read_types (tag - 251) more) (λ ts rest. gives (More delta ts) rest) f
        rest e in
        let ts = types-taken (tag - 251) more distance.rest_fits went.0 went.1 went.2 in
        let same : tag ≡ 251 + length went.0 = omega (arith, ts.number, above) in
        given-form (tag ∷ bytes) (More delta went.0) f went.1 rest went.3 (
          subst
              (λ (n : ℕ). Takes (tag ∷ bytes) (n ∷ (u2 delta ++ spelled_types went.0)) went.1)
              same
              (behind (spelled_types went.0) went.1 ts.took),
          (room, omega (arith, ts.number, below), ts.fits),
        )
    in_case false p false q false r e =
        let above = ltb-false tag 255 r in
        let byte : tag < 256 = all 0 in
        let one = went-on (read_list more)
        (λ locals rest. and_read (read_list rest)
        (λ stack last. gives (Full delta locals stack) last)) f rest e in
        let ls = list-taken more distance.rest_fits one.0 one.1 one.2 in
        let two = went-on (read_list one.1) (λ stack last. gives (Full delta one.0 stack) last) f
        rest
        one.3 in
        let ss = list-taken one.1 ls.took.rest_fits two.0 two.1 two.2 in
        let lists : List ℕ = u2 (length one.0)
        ++ (spelled_types one.0 ++ (u2 (length two.0) ++ spelled_types two.0)) in
        let both : Takes more lists two.1 =
        subst (λ (put : List ℕ). Takes more put two.1)
        (append_assoc (u2 (length one.0)) (spelled_types one.0)
        (u2 (length two.0) ++ spelled_types two.0))
        (takes_then more (u2 (length one.0) ++ spelled_types one.0) one.1
        (u2 (length two.0) ++ spelled_types two.0) two.1 ls.took ss.took) in
        let same : tag ≡ 255 = omega (arith, above, byte) in
        given-form (tag ∷ bytes) (Full delta one.0 two.0) f two.1 rest two.3 (
          subst (λ (n : ℕ). Takes (tag ∷ bytes) (n ∷ (u2 delta ++ lists)) two.1) same
              (behind lists two.1 both),
          (room, ls.few, ls.fits, ss.few, ss.fits),
        )

form-taken : (bytes : List ℕ) → IsBytes bytes → (f : FrameForm) (rest : List ℕ)
    → read_form bytes ≡ gives f rest → TookForm bytes f rest
form-taken [] all f rest e = absurd (cc e)
form-taken (tag ∷ bytes) all f rest e =
    in_case (nat_lt tag 64) refl (nat_lt tag 128) refl (nat_lt tag 247) refl e
  where
    in_case : (a : Bool) → nat_lt tag 64 ≡ a → (b : Bool) → nat_lt tag 128 ≡ b → (c : Bool)
        → nat_lt tag 247 ≡ c
        → cond a (gives (Same tag) bytes)
        (cond b (and_read (read_type bytes) (λ t rest. gives (OneOperand (tag - 64) t) rest))
        (cond c None (and_read (read_u2 bytes) (λ delta rest. form_behind tag delta rest))))
        ≡ gives f rest → TookForm (tag ∷ bytes) f rest
    in_case true p b q c r e =
        given-form (tag ∷ bytes) (Same tag) f bytes rest e
        (first-byte tag bytes all, ltb-true tag 64 p)
    in_case false p true q c r e =
        let above = ltb-false tag 64 p in
        let below = ltb-true tag 128 q in
        let went = went-on (read_type bytes) (λ t rest. gives (OneOperand (tag - 64) t) rest) f rest
        e in
        let t = type-taken bytes (after tag bytes all) went.0 went.1 went.2 in
        let same : tag ≡ 64 + (tag - 64) = omega (arith, above) in
        given-form (tag ∷ bytes) (OneOperand (tag - 64) went.0) f went.1 rest went.3 (
          subst (λ (n : ℕ). Takes (tag ∷ bytes) (n ∷ spelled_type went.0) went.1) same
              (behind-tag tag bytes (spelled_type went.0) went.1 all t.0),
          (omega (arith, below, above), t.1),
        )
    in_case false p false q true r e = absurd (cc e)
    in_case false p false q false r e =
        let above = ltb-false tag 247 r in
        let went = went-on (read_u2 bytes) (λ delta rest. form_behind tag delta rest) f rest e in
        let n = u2-taken bytes (after tag bytes all) went.0 went.1 went.2 in
        far-taken tag went.0 bytes went.1 all above n.0 n.1 f rest went.3

pub read_forms_are_spelled : ReadFormsAreSpelled
read_forms_are_spelled zero bytes fs rest all e =
    let none : [] ≡ fs = value-same [] fs bytes rest e in
    let last : bytes ≡ rest = rest-same [] fs bytes rest e in
    subst (λ (fs : List FrameForm). AreSpelled zero bytes fs rest) none
    (subst (λ (rest : List ℕ). AreSpelled zero bytes [] rest) last
    (record { parts = refl; number = refl; fits = tt }))
read_forms_are_spelled (suc many) bytes fs rest all e =
    let one = went-on (read_form bytes)
    (λ f rest. and_read (read_forms many rest) (λ fs last. gives (f ∷ fs) last)) fs rest e in
    let first = form-taken bytes all one.0 one.1 one.2 in
    let two = went-on (read_forms many one.1) (λ gs last. gives (one.0 ∷ gs) last) fs rest one.3 in
    let later = read_forms_are_spelled many one.1 two.0 two.1 first.0.rest_fits two.2 in
    let whole : one.0 ∷ two.0 ≡ fs = value-same (one.0 ∷ two.0) fs two.1 rest two.3 in
    let last : two.1 ≡ rest = rest-same (one.0 ∷ two.0) fs two.1 rest two.3 in
    subst (λ (fs : List FrameForm). AreSpelled (suc many) bytes fs rest) whole
    (subst (λ (rest : List ℕ). AreSpelled (suc many) bytes (one.0 ∷ two.0) rest) last
    (record {
      parts = first.0.parts ∙ ap (λ (t : List ℕ). spelled one.0 ++ t) later.parts
          ∙ sym (append_assoc (spelled one.0) (spelled_all two.0) two.1);
      number = ap suc later.number;
      fits = (first.1, later.fits);
    }))
