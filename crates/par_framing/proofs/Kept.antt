-- What placed code keeps while the pool grows.
use Rattle.std.proofs.Common.{◌≡◌, ℕ, ◌+◌, ◌<◌, ◌≤◌, ◌^◌, Bool, true, false, List, [], ◌∷◌}
use Rattle.std.proofs.Common.{◌++◌, length, Option, Some, None, refl, sym, ap, subst, ◌∙◌, arith}
use Rattle.std.proofs.Common.{inl, inr, length-append}
use Rattle.std.specs.Prelude.{◌⊎◌, ◌||◌, ◌==◌, Contains, IsTrue}
use Rattle.std.specs.List.{AllZip, AllByRecursion}
use Rattle.std.proofs.lemmas.List.Elements.{All-contains_itself, Contains-append_left}
use Rattle.std.proofs.lemmas.List.Elements.{Contains-append_right, Contains-append_cases}
use Rattle.par_pool.specs.declared.constant.Constant.{Constant}
use Rattle.par_pool.specs.Entries.{entry_at}
use Rattle.par_pool.specs.Growth.{Adds}
use Rattle.par_pool.specs.Spelling.{is_class}
use Rattle.par_pool.proofs.Growth.{at-append, class_kept}
use Rattle.par_class.specs.declared.file.Catch.{Catch}
use Rattle.par_class.specs.declared.file.CodeAttr.{CodeAttr}
use Rattle.par_class.specs.Spelling.{FitsCatch, FitsCode, FitsAttribute, AllFit}
use Rattle.par_class.specs.Spelling.{is_code_length}
use Rattle.par_values.specs.Areas.{Name}
use Rattle.par_code_form.specs.declared.labelled.Labelled.{Labelled}
use Rattle.par_frames.specs.Room.{HasRoom, HasClass}
use Rattle.par_place.specs.par_code_form.Placed.{offset_of, IsPlaced, IsCatch}
use Rattle.par_place.proofs.Growth.{all_names_kept, all_catches_kept}

pub grows : (old new more : List Constant) → new ≡ old ++ more
    → Adds old new (length more) (Contains more)
grows old new more e = record {
  more = more;
  behind = e;
  number = omega arith;
  parts = All-contains_itself more;
}

-- the parts of an attribute but its own attributes
pub record HasParts (attr is : CodeAttr) : Type 0 where
  pub code : is.code ≡ attr.code
  pub catches : is.catches ≡ attr.catches
  pub max_stack : is.max_stack ≡ attr.max_stack
  pub max_locals : is.max_locals ≡ attr.max_locals

unfoldable pub placed_kept : (old new more : List Constant) → new ≡ old ++ more → (code : Labelled)
    (attr is : CodeAttr) → HasParts attr is → is.attributes ≡ [] → IsPlaced old code attr
    → IsPlaced new code is
placed_kept old new more e code attr is same none p =
    let a = grows old new more e in record {
      indices = p.indices;
      named =
          all_names_kept old new (length more) (Contains more) a code.items p.indices p.named;
      writable = p.writable;
      bytes = same.code ∙ p.bytes;
      catches =
          subst (λ cs. AllZip (IsCatch new (offset_of code.items p.indices)) code.handlers cs)
          (sym same.catches)
          (all_catches_kept old new (length more) (Contains more) a
          (offset_of code.items p.indices) code.handlers attr.catches p.catches);
      max_stack = same.max_stack ∙ p.max_stack;
      max_locals = same.max_locals ∙ p.max_locals;
      attributes = none;
    }

-- ---- the code has a spelling still

or-kept : (a b c : Bool) → (b ≡ true → c ≡ true) → (a || b) ≡ true → (a || c) ≡ true
or-kept true b c f h = refl
or-kept false b c f h = f h

class-entry : (old more : List Constant) (i : ℕ) (o : Option Constant) → entry_at old i ≡ o
    → is_class o ≡ true → is_class (entry_at (old ++ more) i) ≡ true
class-entry old more i None e h = absurd (cc)
class-entry old more i (Some c) e h = ap is_class (at-append old more i c e) ∙ h

catch-fits : (old more : List Constant) (len : ℕ) (c : Catch) → FitsCatch old len c
    → FitsCatch (old ++ more) len c
catch-fits old more len c h = record {
  start = h.start;
  end = h.end;
  handler = h.handler;
  class = (
    h.class.0,
    or-kept (c.class == 0) (is_class (entry_at old c.class))
        (is_class (entry_at (old ++ more) c.class))
        (class-entry old more c.class (entry_at old c.class) refl) h.class.1,
  );
  range = h.range;
}

catches-fit : (old more : List Constant) (len : ℕ) (cs : List Catch)
    → AllByRecursion (FitsCatch old len) cs → AllByRecursion (FitsCatch (old ++ more) len) cs
catches-fit old more len [] h = tt
catches-fit old more len (c ∷ cs) h =
    (catch-fits old more len c h.0, catches-fit old more len cs h.1)

pub fits_kept : (old new more : List Constant) → new ≡ old ++ more → (attr is : CodeAttr)
    → HasParts attr is → FitsCode old attr → AllFit (FitsAttribute new) is.attributes
    → FitsCode new is
fits_kept old new more e attr is same h fit = record {
  max_stack = subst (λ (n : ℕ). n < 2 ^ 16) (sym same.max_stack) h.max_stack;
  max_locals = subst (λ (n : ℕ). n < 2 ^ 16) (sym same.max_locals) h.max_locals;
  length_ =
      subst (λ (bytes : List ℕ). IsTrue (is_code_length (length bytes))) (sym same.code)
      h.length_;
  catches =
      subst (λ (bytes : List ℕ). AllFit (FitsCatch new (length bytes)) is.catches) (sym same.code)
      (subst (λ (cs : List Catch). AllFit (FitsCatch new (length attr.code)) cs)
      (sym same.catches)
      (subst (λ (pool : List Constant). AllFit (FitsCatch pool (length attr.code)) attr.catches)
      (sym e) (h.catches.0, catches-fit old more (length attr.code) attr.catches h.catches.1)));
  attributes = fit;
}

-- ---- room

-- behind a few more entries there is room for the same classes
pub room_behind : (old new more : List Constant) → new ≡ old ++ more → (n all spare : ℕ)
    → length more ≤ n → all ≡ n + spare → (names : List Name) → HasRoom old all names
    → HasRoom new spare names
room_behind old new more e n all spare few is names h = record {
  missing = h.missing;
  covered = λ name c. cover name (h.covered name c);
  room = omega (
    arith,
    h.room,
    is,
    few,
    ap (λ (pool : List Constant). length pool) e,
    length-append old more,
  );
}
  where
    cover : (name : Name) → Contains h.missing name ⊎ HasClass old name
        → Contains h.missing name ⊎ HasClass new name
    cover name (inl c) = inl c
    cover name (inr (i, at)) =
        inr (
          i,
          class_kept old new (length more) (Contains more) (grows old new more e) i name at,
        )

pub room_fewer : (pool : List Constant) (spare : ℕ) (names more : List Name)
    → ((name : Name) → Contains names name → Contains more name) → HasRoom pool spare more
    → HasRoom pool spare names
room_fewer pool spare names more sub h = record {
  missing = h.missing;
  covered = λ name c. h.covered name (sub name c);
  room = h.room;
}

pub among_later : (names more later : List Name)
    → ((name : Name) → Contains names name → Contains more name) → (name : Name)
    → Contains (names ++ later) name → Contains (more ++ later) name
among_later names more later sub name c = at (Contains-append_cases names later name c)
  where
    at : Contains names name ⊎ Contains later name → Contains (more ++ later) name
    at (inl h) = Contains-append_left more later name (sub name h)
    at (inr h) = Contains-append_right more later name h

-- one entry less for the same later classes
pub room_skipped : (pool : List Constant) (spare : ℕ) (names later : List Name)
    → HasRoom pool (1 + spare) (names ++ later) → HasRoom pool spare later
room_skipped pool spare names later h = record {
  missing = h.missing;
  covered = λ name c. h.covered name (Contains-append_right names later name c);
  room = omega (arith, h.room);
}
