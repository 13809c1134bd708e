-- What spells a form is read as that form again, whatever stands behind it.
use Rattle.std.proofs.Common.{◌≡◌, ℕ, suc, ◌+◌, ◌-◌, ◌<◌, ◌≤◌, ◌^◌, true, false, List, [], ◌∷◌}
use Rattle.std.proofs.Common.{◌++◌, length, Option, refl, ap, ◌∙◌, append_assoc, length-append}
use Rattle.std.proofs.Common.{arith, ◌==◌}
use Rattle.std.specs.Prelude.{nat_le, nat_lt}
use Rattle.std.proofs.lemmas.Bool.{lt-ltb, le-ltb, le-leb, ne_eqb}
use Rattle.std.proofs.lemmas.List.{drop_at}
use Rattle.byteorder.specs.Numbers.{big_number-reads_back, length-bytes_high_first}
use Rattle.par_pool.specs.Spelling.{u2}
use Rattle.par_frame_forms.specs.declared.form.PlaceType.{PlaceType}
use Rattle.par_frame_forms.specs.declared.form.PlaceType.TheVariants.{Top, Int, Null, Class}
use Rattle.par_frame_forms.specs.declared.form.FrameForm.{FrameForm}
use Rattle.par_frame_forms.specs.declared.form.FrameForm.TheVariants.{Same, OneOperand}
use Rattle.par_frame_forms.specs.declared.form.FrameForm.TheVariants.{OneOperandFar, Cut, More}
use Rattle.par_frame_forms.specs.declared.form.FrameForm.TheVariants.{Full}
use Rattle.par_frame_forms.specs.Spelled.{spelled, spelled_type, spelled_types, spelled_all}
use Rattle.par_frame_forms.specs.Spelled.{TypeFits, TypesFit, FormFits}
use Rattle.par_frame_forms.specs.Reading.{Read, and_read, gives, read_u2, read_type, read_types}
use Rattle.par_frame_forms.specs.Reading.{read_list, form_behind, form_of, read_form, read_forms}
use Rattle.par_frame_forms.specs.Laws.{SpelledFormsAreRead}

-- what is read behind what was read
then-again : {A B : Type 0} (o : Option (Read A)) (next : A → List ℕ → Option (Read B)) (x : A)
    (rest : List ℕ) → o ≡ gives x rest → and_read o next ≡ next x rest
then-again o next x rest e = ap (λ o. and_read o next) e

u2-again : (n : ℕ) (rest : List ℕ) → n < 2 ^ 16 → read_u2 (u2 n ++ rest) ≡ gives n rest
u2-again n rest lt =
    let long : nat_le 2 (length (u2 n ++ rest)) ≡ true =
    le-leb 2 (length (u2 n ++ rest))
    (omega (arith, length-append (u2 n) rest, length-bytes_high_first 2 n)) in
    rw (
      long,
      big_number-reads_back 2 n rest lt,
      drop_at (u2 n) rest 2 (length-bytes_high_first 2 n),
    ) refl

type-again : (t : PlaceType) (rest : List ℕ) → TypeFits t
    → read_type (spelled_type t ++ rest) ≡ gives t rest
type-again Top rest fits = refl
type-again Int rest fits = refl
type-again Null rest fits = refl
type-again (Class index) rest fits =
    then-again (read_u2 (u2 index ++ rest)) (λ index rest. gives (Class index) rest) index rest
    (u2-again index rest fits)

types-again : (ts : List PlaceType) (rest : List ℕ) → TypesFit ts
    → read_types (length ts) (spelled_types ts ++ rest) ≡ gives ts rest
types-again [] rest fits = refl
types-again (t ∷ ts) rest fits =
    ap (read_types (suc (length ts))) (append_assoc (spelled_type t) (spelled_types ts) rest)
    ∙ then-again (read_type (spelled_type t ++ (spelled_types ts ++ rest))) _ t
    (spelled_types ts ++ rest) (type-again t (spelled_types ts ++ rest) fits.0)
    ∙ then-again (read_types (length ts) (spelled_types ts ++ rest)) _ ts rest
    (types-again ts rest fits.1)

list-again : (ts : List PlaceType) (rest : List ℕ) → length ts < 2 ^ 16 → TypesFit ts
    → read_list (u2 (length ts) ++ (spelled_types ts ++ rest)) ≡ gives ts rest
list-again ts rest few fits =
    then-again (read_u2 (u2 (length ts) ++ (spelled_types ts ++ rest))) _ (length ts)
    (spelled_types ts ++ rest) (u2-again (length ts) (spelled_types ts ++ rest) few)
    ∙ types-again ts rest fits

-- a tag of at least 247 has a distance behind it
far : (tag delta : ℕ) (bytes : List ℕ) → 247 ≤ tag → delta < 2 ^ 16
    → form_of tag (u2 delta ++ bytes) ≡ form_behind tag delta bytes
far tag delta bytes big lt =
    let a : nat_lt tag 64 ≡ false = le-ltb tag 64 (omega (arith, big)) in
    let b : nat_lt tag 128 ≡ false = le-ltb tag 128 (omega (arith, big)) in
    let c : nat_lt tag 247 ≡ false = le-ltb tag 247 (omega (arith, big)) in
    rw (a, b, c)
    (then-again (read_u2 (u2 delta ++ bytes)) (λ delta rest. form_behind tag delta rest) delta bytes
    (u2-again delta bytes lt))

form-again : (f : FrameForm) (rest : List ℕ) → FormFits f
    → read_form (spelled f ++ rest) ≡ gives f rest
form-again (Same delta) rest fits =
    let a : nat_lt delta 64 ≡ true = lt-ltb delta 64 fits in rw a refl
form-again (OneOperand delta t) rest fits =
    let a : nat_lt (64 + delta) 64 ≡ false = le-ltb (64 + delta) 64 (omega arith) in
    let b : nat_lt (64 + delta) 128 ≡ true = lt-ltb (64 + delta) 128 (omega (arith, fits.0)) in
    let c : (64 + delta) - 64 ≡ delta = omega arith in
    rw (a, b, c)
    (then-again (read_type (spelled_type t ++ rest)) (λ t rest. gives (OneOperand delta t) rest) t
    rest (type-again t rest fits.1))
form-again (OneOperandFar delta t) rest fits =
    ap (form_of 247) (append_assoc (u2 delta) (spelled_type t) rest)
    ∙ far 247 delta (spelled_type t ++ rest) (omega arith) fits.0
    ∙ then-again (read_type (spelled_type t ++ rest)) (λ t rest. gives (OneOperandFar delta t) rest)
    t rest (type-again t rest fits.1)
form-again (Cut many delta) rest fits =
    let a : (251 - many == 247) ≡ false =
    ne_eqb (251 - many) 247 (λ e. omega (arith, e, fits.0, fits.1)) in
    let b : nat_lt (251 - many) 251 ≡ true =
    lt-ltb (251 - many) 251 (omega (arith, fits.0, fits.1)) in
    let c : 251 - (251 - many) ≡ many = omega (arith, fits.1) in
    far (251 - many) delta rest (omega (arith, fits.1)) fits.2 ∙ rw (a, b, c) refl
form-again (More delta ts) rest fits =
    let a : (251 + length ts == 247) ≡ false =
    ne_eqb (251 + length ts) 247 (λ e. omega (arith, e)) in
    let b : nat_lt (251 + length ts) 251 ≡ false = le-ltb (251 + length ts) 251 (omega arith) in
    let c : nat_lt (251 + length ts) 255 ≡ true =
    lt-ltb (251 + length ts) 255 (omega (arith, fits.1)) in
    let d : (251 + length ts) - 251 ≡ length ts = omega arith in
    ap (form_of (251 + length ts)) (append_assoc (u2 delta) (spelled_types ts) rest)
    ∙ far (251 + length ts) delta (spelled_types ts ++ rest) (omega arith) fits.0
    ∙ rw (a, b, c, d)
    (then-again (read_types (length ts) (spelled_types ts ++ rest))
    (λ ts rest. gives (More delta ts) rest) ts rest (types-again ts rest fits.2))
form-again (Full delta locals stack) rest fits =
    let last : List ℕ = spelled_types stack ++ rest in
    let second : List ℕ = u2 (length stack) ++ (spelled_types stack ++ rest) in
    let first : List ℕ = u2 (length locals) ++ (spelled_types locals ++ second) in
    ap (form_of 255) (placed (u2 delta) (u2 (length locals)) (spelled_types locals)
    (u2 (length stack)) (spelled_types stack) rest)
    ∙ far 255 delta first (omega arith) fits.0
    ∙ then-again (read_list first) _ locals second
    (list-again locals second fits.1 fits.2)
    ∙ then-again (read_list second) _ stack rest (list-again stack rest fits.3 fits.4)
  where
    placed : (a b c d e rest : List ℕ)
        → (a ++ (b ++ (c ++ (d ++ e)))) ++ rest ≡ a ++ (b ++ (c ++ (d ++ (e ++ rest))))
    placed a b c d e rest =
        append_assoc a (b ++ (c ++ (d ++ e))) rest
        ∙ ap (λ (t : List ℕ). a ++ t) (append_assoc b (c ++ (d ++ e)) rest
        ∙ ap (λ (t : List ℕ). b ++ t) (append_assoc c (d ++ e) rest
        ∙ ap (λ (t : List ℕ). c ++ t) (append_assoc d e rest)))

pub spelled_forms_are_read : SpelledFormsAreRead
spelled_forms_are_read [] rest fits = refl
spelled_forms_are_read (f ∷ fs) rest fits =
    ap (read_forms (suc (length fs))) (append_assoc (spelled f) (spelled_all fs) rest)
    ∙ then-again (read_form (spelled f ++ (spelled_all fs ++ rest))) _ f (spelled_all fs ++ rest)
    (form-again f (spelled_all fs ++ rest) fits.0)
    ∙ then-again (read_forms (length fs) (spelled_all fs ++ rest)) _ fs rest
    (spelled_forms_are_read fs rest fits.1)
