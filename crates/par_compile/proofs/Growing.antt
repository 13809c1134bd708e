-- What a pool keeps while it grows, what is added to it, and what it has room for.
use Rattle.std.proofs.Common.{◌≡◌, ℕ, ◌+◌, ◌<◌, ◌≤◌, List, [], ◌++◌, length, inl, inr, sym, ap}
use Rattle.std.proofs.Common.{subst, ◌∙◌, append_assoc, length-append, arith}
use Rattle.std.specs.Prelude.{◌⊎◌, Contains, Bool, true, false, codes}
use Rattle.std.proofs.lemmas.List.{append-nil}
use Rattle.std.proofs.lemmas.List.Elements.{All-nil, All-append, All-weaker}
use Rattle.std.proofs.lemmas.List.Elements.{Contains-append_left}
use Rattle.par_pool.specs.declared.constant.Constant.{Constant}
use Rattle.par_pool.specs.declared.constant.Constant.TheVariants.{Utf8, Method}
use Rattle.par_pool.specs.Entries.{IsAt, IsUtf8At, IsClassAt, IsMemberAt}
use Rattle.par_pool.specs.Growth.{Adds, IsClassPart, IsMemberPart}
use Rattle.par_pool.proofs.Growth.{at_kept, class_kept, name_type_kept}
use Rattle.par_values.specs.Areas.{Name}
use Rattle.par_code_form.specs.Code.{initializer}
use Rattle.par_place.proofs.Growth.{part_kept}
use Rattle.par_compile_laws.specs.Members.{above}
use Rattle.par_compile.specs.Growing.{Extends, Stays, Grows, IsOneText, IsOneClass, IsSuperCall}
use Rattle.par_framing.specs.par_frames.Room.{HasClass, HasRoom, SPARE}
use Rattle.par_framing.specs.Added.{spare_with}
use Rattle.par_compile.specs.Room.{Leaves}

-- ---- pools that extend others

pub extends_self : (pool : List Constant) → Extends pool pool
extends_self pool = record { more = []; behind = sym (append-nil pool) }

pub extends_then : (a b c : List Constant) → Extends a b → Extends b c → Extends a c
extends_then a b c e f = record {
  more = e.more ++ f.more;
  behind =
      f.behind ∙ ap (λ (pool : List Constant). pool ++ f.more) e.behind
      ∙ append_assoc a e.more f.more;
}

pub extends : (Is : List Constant → Constant → Type 0) (a b : List Constant) → Grows Is a b
    → Extends a b
extends Is a b g = record { more = g.more; behind = g.behind }

-- the same, in the words of the pool
pub adds : (a b : List Constant) (e : Extends a b) → Adds a b (length e.more) (λ _. Unit {0})
adds a b e = record {
  more = e.more;
  behind = e.behind;
  number = omega arith;
  parts = λ k d lt. tt;
}

pub stays_later : (a b : List Constant) (P : List Constant → Type 0) → Extends a b → Stays a P
    → Stays b P
stays_later a b P e s = λ later f. s later (extends_then a b later e f)

pub stays_now : (pool : List Constant) (P : List Constant → Type 0) → Stays pool P → P pool
stays_now pool P s = s pool (extends_self pool)

pub at_stays : (pool : List Constant) (i : ℕ) (c : Constant) → IsAt pool i c
    → Stays pool (λ q. IsAt q i c)
at_stays pool i c h =
    λ later e. at_kept pool later (length e.more) (λ _. Unit {0}) (adds pool later e) i c h

pub text_stays : (pool : List Constant) (i : ℕ) (text : Name) → IsUtf8At pool i text
    → Stays pool (λ q. IsUtf8At q i text)
text_stays pool i text h = at_stays pool i (Utf8 text) h

pub class_stays : (pool : List Constant) (i : ℕ) (name : Name) → IsClassAt pool i name
    → Stays pool (λ q. IsClassAt q i name)
class_stays pool i name h =
    λ later e. class_kept pool later (length e.more) (λ _. Unit {0}) (adds pool later e) i name h

pub member_stays : (form : ℕ → ℕ → Constant) (pool : List Constant) (i : ℕ)
    (class name kind : Name) → IsMemberAt form pool i class name kind
    → Stays pool (λ q. IsMemberAt form q i class name kind)
member_stays form pool i class name kind h = λ later e. record {
  owner = h.owner;
  member = h.member;
  entry = at_stays pool i (form h.owner h.member) h.entry later e;
  is_class = class_stays pool h.owner class h.is_class later e;
  is_member = name_type_kept pool later (length e.more) (λ _. Unit {0}) (adds pool later e)
      h.member name kind h.is_member;
}

pub class_part : (a b : List Constant) → Extends a b → (name : Name) (c : Constant)
    → IsClassPart a name c → IsClassPart b name c
class_part a b e name c (inl h) = inl h
class_part a b e name c (inr h) = inr (h.0, h.1, text_stays a h.0 name h.2 b e)

-- ---- growth

pub grows_nothing : (Is : List Constant → Constant → Type 0) (a b : List Constant) → b ≡ a
    → Grows Is a b
grows_nothing Is a b e = record {
  more = [];
  behind = e ∙ sym (append-nil a);
  parts = λ later f. All-nil (Is later);
}

pub grows_then : (Is Others All_ : List Constant → Constant → Type 0) (a b c : List Constant)
    → ((q : List Constant) (x : Constant) → Is q x → All_ q x)
    → ((q : List Constant) (x : Constant) → Others q x → All_ q x)
    → Grows Is a b → Grows Others b c → Grows All_ a c
grows_then Is Others All_ a b c first second g h = record {
  more = g.more ++ h.more;
  behind =
      h.behind ∙ ap (λ (pool : List Constant). pool ++ h.more) g.behind
      ∙ append_assoc a g.more h.more;
  parts = λ later e.
      All-append (All_ later) g.more h.more
      (All-weaker (Is later) (All_ later) (first later) g.more
      (g.parts later (extends_then b c later (extends Others b c h) e)))
      (All-weaker (Others later) (All_ later) (second later) h.more (h.parts later e));
}

pub grows_as : (Is Others : List Constant → Constant → Type 0) (a b : List Constant)
    → ((q : List Constant) (x : Constant) → Is q x → Others q x) → Grows Is a b
    → Grows Others a b
grows_as Is Others a b weaker g = record {
  more = g.more;
  behind = g.behind;
  parts = λ later e.
      All-weaker (Is later) (Others later) (weaker later) g.more (g.parts later e);
}

pub text_grows : (a b : List Constant) (text : Name) → Adds a b 1 (λ c. c ≡ Utf8 text)
    → Grows (IsOneText text) a b
text_grows a b text h =
    record { more = h.more; behind = h.behind; parts = λ later e. h.parts }

pub class_grows : (a b : List Constant) (name : Name) → Adds a b 2 (IsClassPart b name)
    → Grows (IsOneClass name) a b
class_grows a b name h = record {
  more = h.more;
  behind = h.behind;
  parts = λ later e.
      All-weaker (IsClassPart b name) (IsClassPart later name) (class_part b later e name) h.more
      h.parts;
}

super-part : (exception : Bool) (pool : List Constant) (c : Constant)
    → IsMemberPart Method pool (above exception) (codes "<init>") (codes "()V") c
    → IsSuperCall exception pool c
super-part true pool c h = h
super-part false pool c h = h

pub super_grows : (exception : Bool) (a b : List Constant)
    → Adds a b 6 (IsMemberPart Method b (above exception) (codes "<init>") (codes "()V"))
    → Grows (IsSuperCall exception) a b
super_grows exception a b h = record {
  more = h.more;
  behind = h.behind;
  parts = λ later e.
      All-weaker
      (IsMemberPart Method b (above exception) (codes "<init>") (codes "()V"))
      (IsSuperCall exception later)
      (λ c part. part_kept b later (length e.more) (λ _. Unit {0}) (adds b later e)
      (initializer (above exception)) c (super-part exception b c part))
      h.more h.parts;
}

pub adds_few : (a b : List Constant) (few : ℕ) (Is : Constant → Type 0) → Adds a b few Is
    → length b ≤ length a + few
adds_few a b few Is h = omega (arith, ap length h.behind, length-append a h.more, h.number)

-- ---- room

covered-later : (a b : List Constant) → Extends a b → (missing : List Name) (name : Name)
    → Contains missing name ⊎ HasClass a name → Contains missing name ⊎ HasClass b name
covered-later a b e missing name (inl m) = inl m
covered-later a b e missing name (inr c) = inr (c.0, class_stays a c.0 name c.1 b e)

pub room_left : (few spare : ℕ) (names : List Name) (a b : List Constant) → Extends a b
    → length b ≤ length a + few → HasRoom a (few + spare) names → HasRoom b spare names
room_left few spare names a b e le h = record {
  missing = h.missing;
  covered = λ name at. covered-later a b e h.missing name (h.covered name at);
  room = omega (arith, le, h.room);
}

pub leaves_then : (few more : ℕ) (names : List Name) (a b c : List Constant)
    → Leaves few names a b → Extends b c → length c ≤ length b + more
    → Leaves (few + more) names a c
leaves_then few more names a b c left e le = λ spare later h.
    let same : (few + more) + spare ≡ few + (more + spare) = omega arith in
    room_left more spare later b c e le
    (left (more + spare) later (subst (λ (n : ℕ). HasRoom a n (names ++ later)) same h))

-- room for more is room for less
pub room_less : (few less spare : ℕ) (names more : List Name) (pool : List Constant)
    → less ≤ spare → HasRoom pool (few + spare) (names ++ more) → HasRoom pool (few + less) names
room_less few less spare names more pool le h = record {
  missing = h.missing;
  covered = λ name at. h.covered name (Contains-append_left names more name at);
  room = omega (arith, le, h.room);
}

pub room_smaller : (pool : List Constant) (few less : ℕ) (names : List Name) → less ≤ few
    → HasRoom pool few names → HasRoom pool less names
room_smaller pool few less names le h =
    record { missing = h.missing; covered = h.covered; room = omega (arith, le, h.room) }

pub room_alone : (pool : List Constant) (few less : ℕ) (names : List Name) → less ≤ few
    → HasRoom pool few names → HasRoom pool less (names ++ [])
room_alone pool few less names le h =
    subst (λ (ns : List Name). HasRoom pool less ns) (sym (append-nil names))
    (room_smaller pool few less names le h)

pub spare_few : (frames : Bool) → spare_with frames ≤ SPARE
spare_few true = omega arith
spare_few false = omega arith

pub room_now : (pool : List Constant) (few : ℕ) (names : List Name) → HasRoom pool few names
    → length pool + few < 65535
room_now pool few names h = omega (arith, h.room)
