-- A class in a pool, and the room that is left behind it.
use Rattle.std.proofs.Common.{◌≡◌, ℕ, suc, inl, inr, List, [], ◌∷◌, ◌++◌, length}
use Rattle.std.proofs.Common.{refl, sym, ap, subst, ◌∙◌, append_assoc, length-append, arith}
use Rattle.std.proofs.Common.{Bool, true}
use Rattle.std.specs.Prelude.{Contains, ◌⊎◌, ◌&&◌, nat_lt, false, if◌then◌else◌, codes}
use Rattle.std.specs.Str.{bytes_eq}
use Rattle.std.specs.List.{list_all}
use Rattle.std.proofs.lemmas.Bool.{and_parts, and_from}
use Rattle.std.proofs.lemmas.List.{append-nil}
use Rattle.std.proofs.lemmas.List.Elements.{Contains-append_left, Contains-append_right}
use Rattle.std.proofs.lemmas.List.Elements.{All-nil, All-append, All-weaker}
use Rattle.par_kinds.proofs.par_policy.Ordered.{Contains-cons_cases, Contains-nil}
use Rattle.par_base.specs.Names.{IsName, is_letter, is_spelled, goes_on}
use Rattle.par_frame_forms.specs.par_pool.declared.constant.Constant.{Constant}
use Rattle.par_frame_forms.specs.par_pool.declared.constant.Constant.TheVariants.{Utf8}
use Rattle.par_frame_forms.specs.par_pool.Entries.{IsClassAt}
use Rattle.par_frame_forms.specs.par_pool.Growth.{Adds, IsClassPart}
use Rattle.par_frame_forms.specs.par_pool.Spelling.{is_plain, IsText}
use Rattle.par_frame_forms.proofs.par_pool.Growth.{at-append}
use Rattle.par_kinds.specs.par_values.Areas.{Name}
use Rattle.par_frame_forms.specs.declared.form.PlaceType.{PlaceType}
use Rattle.par_kinds.specs.declared.frame.VKind.{VKind}
use Rattle.par_kinds.specs.declared.frame.VKind.TheVariants.{Top, Int, Null, Object, Base}
use Rattle.par_frames.specs.Names.{whole_name, base_name, IsClassType, StandsFor}
use Rattle.par_frames.specs.Attribute.{AddsClasses}
use Rattle.par_frames.specs.Room.{HasClass, HasRoom}

-- ---- names are texts

letter_plain : (b : ℕ) → is_letter b ≡ true → (nat_lt 0 b && nat_lt b 128) ≡ true
letter_plain b h = grind arith

goes_plain : (b : ℕ) → goes_on b ≡ true → (nat_lt 0 b && nat_lt b 128) ≡ true
goes_plain b h = grind arith

all_plain : (bs : List ℕ) → list_all goes_on bs ≡ true → is_plain bs ≡ true
all_plain [] h = refl
all_plain (b ∷ bs) h =
    let both = and_parts (goes_on b) (list_all goes_on bs) h in
    and_from _ _ (goes_plain b both.0) (all_plain bs both.1)

spelled_plain : (bs : List ℕ) → is_spelled bs ≡ true → is_plain bs ≡ true
spelled_plain [] h = refl
spelled_plain (b ∷ bs) h =
    let both = and_parts (is_letter b) (list_all goes_on bs) h in
    and_from _ _ (letter_plain b both.0) (all_plain bs both.1)

pub name_text : (n : List ℕ) → IsName n → IsText n
name_text n h = record { short = omega (arith, h.short); plain = spelled_plain n h.spelled }

if-either : {A : Type 0} (P : A → Type 0) (b : Bool) (x y : A) → P x → P y
    → P (if b then x else y)
if-either P true x y p q = p
if-either P false x y p q = q

whole-text : (n : Name) → IsName n → IsText (whole_name n)
whole-text n h =
    if-either IsText (bytes_eq n (codes "ArithmeticException")) _ _
    (record { short = omega arith; plain = refl })
    (if-either IsText (bytes_eq n (codes "NullPointerException")) _ _
    (record { short = omega arith; plain = refl })
    (name_text n h))

pub whole_text : (result bytes name : Name) → result ≡ whole_name bytes → bytes ≡ name
    → IsName name → IsText result
whole_text result bytes name e f h =
    subst IsText (sym (e ∙ ap (λ (n : Name). whole_name n) f)) (whole-text name h)

-- ---- what a longer pool keeps

pub class_kept : (pool more : List Constant) (i : ℕ) (name : Name) → IsClassAt pool i name
    → IsClassAt (pool ++ more) i name
class_kept pool more i name h = record {
  text = h.text;
  entry = at-append pool more i _ h.entry;
  is_name = at-append pool more h.text _ h.is_name;
}

type_kept : (pool more : List Constant) (t : PlaceType) (name : Name) → IsClassType pool t name
    → IsClassType (pool ++ more) t name
type_kept pool more t name h =
    record { index = h.index; is = h.is; named = class_kept pool more h.index name h.named }

pub kind_kept : (pool more : List Constant) (k : VKind) (t : PlaceType) → StandsFor pool k t
    → StandsFor (pool ++ more) k t
kind_kept pool more Top t h = h
kind_kept pool more Int t h = h
kind_kept pool more Null t h = h
kind_kept pool more (Object name) t h = type_kept pool more t (whole_name name) h
kind_kept pool more (Base exception) t h = type_kept pool more t (base_name exception) h

part_kept : (pool more : List Constant) (name : Name) (c : Constant) → IsClassPart pool name c
    → IsClassPart (pool ++ more) name c
part_kept pool more name c (inl e) = inl e
part_kept pool more name c (inr h) = inr (h.0, h.1, at-append pool more h.0 (Utf8 name) h.2)

-- ---- classes that are added

abbrev IsPartOf : List Constant → List Name → Constant → Type 0
IsPartOf pool names c = (name : Name) × Contains names name × IsClassPart pool name c

pub adds_none : (pool : List Constant) (names : List Name) → AddsClasses pool pool names
adds_none pool names =
    record { more = []; behind = sym (append-nil pool); parts = All-nil (IsPartOf pool names) }

pub adds_one : (old new : List Constant) (name : Name) → Adds old new 2 (IsClassPart new name)
    → AddsClasses old new (name ∷ [])
adds_one old new name a = record {
  more = a.more;
  behind = a.behind;
  parts =
      All-weaker (IsClassPart new name) (IsPartOf new (name ∷ []))
      (λ c h. (name, (0, omega arith, refl), h)) a.more a.parts;
}

-- of more classes none has to be added
pub adds_among : (old new : List Constant) (names more : List Name)
    → ((name : Name) → Contains names name → Contains more name) → AddsClasses old new names
    → AddsClasses old new more
adds_among old new names more among a = record {
  more = a.more;
  behind = a.behind;
  parts =
      All-weaker (IsPartOf new names) (IsPartOf new more)
      (λ c h. (h.0, among h.0 h.1, h.2)) a.more a.parts;
}

pub adds_then : (a b c : List Constant) (names more : List Name) → AddsClasses a b names
    → AddsClasses b c more → AddsClasses a c (names ++ more)
adds_then a b c names more p q = record {
  more = p.more ++ q.more;
  behind =
      q.behind ∙ ap (λ (pool : List Constant). pool ++ q.more) p.behind
      ∙ append_assoc a p.more q.more;
  parts =
      All-append (IsPartOf c (names ++ more)) p.more q.more
      (All-weaker (IsPartOf b names) (IsPartOf c (names ++ more))
      (λ x h. (
        h.0,
        Contains-append_left names more h.0 h.1,
        subst (λ (pool : List Constant). IsClassPart pool h.0 x) (sym q.behind)
            (part_kept b q.more h.0 x h.2),
      ))
      p.more p.parts)
      (All-weaker (IsPartOf c more) (IsPartOf c (names ++ more))
      (λ x h. (h.0, Contains-append_right names more h.0 h.1, h.2)) q.more q.parts);
}

-- ---- room

-- an element of a list, and what is left without it
record Without (names : List Name) (name : Name) : Type 0 where
  rest : List Name
  shorter : length names ≡ suc (length rest)
  others : (n : Name) → Contains names n → (n ≡ name) ⊎ Contains rest n

without-cons : (n : Name) (names : List Name) (name : Name) → Without names name
    → Without (n ∷ names) name
without-cons n names name w = record {
  rest = n ∷ w.rest;
  shorter = ap (λ (k : ℕ). suc k) w.shorter;
  others = λ m c. others m (Contains-cons_cases n names m c);
}
  where
    later : (m : Name) → (m ≡ name) ⊎ Contains w.rest m → (m ≡ name) ⊎ Contains (n ∷ w.rest) m
    later m (inl e) = inl e
    later m (inr c) = inr (Contains-append_right (n ∷ []) w.rest m c)

    others : (m : Name) → (m ≡ n) ⊎ Contains names m → (m ≡ name) ⊎ Contains (n ∷ w.rest) m
    others m (inl e) = inr (0, omega arith, sym e)
    others m (inr c) = later m (w.others m c)

without-at : (n : Name) (names : List Name) (name : Name)
    → (Contains names name → Without names name) → (name ≡ n) ⊎ Contains names name
    → Without (n ∷ names) name
without-at n names name next (inr h) = without-cons n names name (next h)
without-at n names name next (inl e) = record {
  rest = names;
  shorter = refl;
  others = λ m h. cases m (Contains-cons_cases n names m h);
}
  where
    cases : (m : Name) → (m ≡ n) ⊎ Contains names m → (m ≡ name) ⊎ Contains names m
    cases m (inl f) = inl (f ∙ sym e)
    cases m (inr h) = inr h

without : (names : List Name) (name : Name) → Contains names name → Without names name
without [] name c = absurd (Contains-nil name c)
without (n ∷ names) name c =
    without-at n names name (λ h. without names name h) (Contains-cons_cases n names name c)

abbrev behind : (n name : Name) (names : List Name) → Contains names name
    → Contains (n ∷ names) name
behind n name names c = Contains-append_right (n ∷ []) names name c

-- behind a class that has an index there is room for the others
pub room_left : (old new : List Constant) (index : ℕ) (name : Name) (spare : ℕ)
    (later : List Name)
    → IsClassAt new index name → ((i : ℕ) → IsClassAt old i name → new ≡ old)
    → Adds old new 2 (IsClassPart new name) → HasRoom old spare (name ∷ later)
    → HasRoom new spare later
room_left old new index name spare later is again a h = at (h.covered name (0, omega arith, refl))
  where
    there : HasClass old name → HasRoom new spare later
    there (i, was) =
        subst (λ (pool : List Constant). HasRoom pool spare later) (sym (again i was)) (record {
          missing = h.missing;
          covered = λ n c. h.covered n (behind name n later c);
          room = h.room;
        })

    added : Without h.missing name → HasRoom new spare later
    added w = record {
      missing = w.rest;
      covered = λ n c. cover n (h.covered n (behind name n later c));
      room = omega (
        arith,
        h.room,
        w.shorter,
        a.number,
        length-append old a.more,
        ap (λ (l : List Constant). length l) a.behind,
      );
    }
      where
        found : (n : Name) → (n ≡ name) ⊎ Contains w.rest n → Contains w.rest n ⊎ HasClass new n
        found n (inl e) =
            inr (index, subst (λ (m : Name). IsClassAt new index m) (sym e) is)
        found n (inr c) = inl c

        cover : (n : Name) → Contains h.missing n ⊎ HasClass old n
            → Contains w.rest n ⊎ HasClass new n
        cover n (inl c) = found n (w.others n c)
        cover n (inr (i, was)) =
            inr (
              i,
              subst (λ (pool : List Constant). IsClassAt pool i n) (sym a.behind)
                  (class_kept old a.more i n was),
            )

    at : Contains h.missing name ⊎ HasClass old name → HasRoom new spare later
    at (inl c) = added (without h.missing name c)
    at (inr c) = there c

pub room_among : (pool : List Constant) (spare : ℕ) (names more : List Name)
    → HasRoom pool spare (names ++ more) → HasRoom pool spare names
room_among pool spare names more h = record {
  missing = h.missing;
  covered = λ n c. h.covered n (Contains-append_left names more n c);
  room = h.room;
}

-- names that are said before others need no room
pub room_behind : (pool : List Constant) (spare : ℕ) (names more : List Name)
    → HasRoom pool spare (names ++ more) → HasRoom pool spare more
room_behind pool spare names more h = record {
  missing = h.missing;
  covered = λ n c. h.covered n (Contains-append_right names more n c);
  room = h.room;
}
