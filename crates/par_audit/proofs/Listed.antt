-- Releases that are noted one after another.
use Rattle.std.proofs.Common.{◌≡◌, ℕ, ◌+◌, ◌<◌, Bool, true, false, List, [], ◌∷◌, ◌++◌, length}
use Rattle.std.proofs.Common.{drop, get_or, sym, ap, ◌∙◌, arith}
use Rattle.std.specs.Prelude.{map}
use Rattle.std.specs.List.{filter}
use Rattle.std.proofs.lemmas.List.{append_assoc, drop_more}
use Rattle.par_typed.specs.declared.program.TBody.{TBody}
use Rattle.par_typed.specs.declared.table.Table.{Table}
use Rattle.par_typed.specs.Shown.{body, bodies}
use Rattle.par_program_laws.specs.Lattice.{numbers}
use Rattle.par_program_laws.specs.Facts.{Facts}
use Rattle.par_check_laws.specs.Asked.{Check}
use Rattle.par_check_laws.specs.Checks.{checks}
use Rattle.par_audit.specs.declared.release.Release.{Release}
use Rattle.par_audit.specs.Release.{as_release, releases, all_releases}

module _ (test : Check → Bool) (c : Check) (cs : List Check) (now all : List Release) where
  -- one more, which is listed
  pub noted : true ≡ test c → now ++ map as_release (filter test (c ∷ cs)) ≡ all
      → now ++ as_release c ∷ [] ++ map as_release (filter test cs) ≡ all
  noted is e =
      append_assoc now (as_release c ∷ []) (map as_release (filter test cs))
      ∙ rw (sym is) at e

  -- and one that is not
  pub passed : false ≡ test c → now ++ map as_release (filter test (c ∷ cs)) ≡ all
      → now ++ map as_release (filter test cs) ≡ all
  passed is e = rw (sym is) at e

-- those of one body more are noted
module _ {A : Type 0} (facts_of : A → Facts numbers) (table : Table) (actor : ℕ)
    (bs : List TBody) (fs : List A) (i : ℕ) (b : TBody) (f : A) (inside : i < length bs)
    (many : length fs ≡ length bs) (is : b ≡ get_or bs i b) (has : f ≡ get_or fs i f) where
  abbrev own : List Release
  own = releases table actor (facts_of f) (checks table (body b))

  abbrev behind : List Release
  behind = all_releases table actor (bodies (drop (i + 1) bs)) (map facts_of (drop (i + 1) fs))

  left : all_releases table actor (bodies (drop i bs)) (map facts_of (drop i fs)) ≡ own ++ behind
  left =
      let bodies_left : drop i bs ≡ b ∷ drop (i + 1) bs =
      drop_more bs i b inside ∙ ap (λ (x : TBody). x ∷ drop (i + 1) bs) (sym is) in
      let facts_left : drop i fs ≡ f ∷ drop (i + 1) fs =
      drop_more fs i f (omega (arith, inside, many)) ∙ ap (λ (x : A). x ∷ drop (i + 1) fs) (sym has)
      in
      ap (λ (xs : List TBody).
      all_releases table actor (bodies xs) (map facts_of (drop i fs))) bodies_left
      ∙ ap (λ (xs : List A).
      all_releases table actor (bodies (b ∷ drop (i + 1) bs)) (map facts_of xs)) facts_left

  pub body_noted : (before now all : List Release) → now ≡ before ++ own
      → before ++ all_releases table actor (bodies (drop i bs)) (map facts_of (drop i fs)) ≡ all
      → now ++ behind ≡ all
  body_noted before now all noted whole =
      ap (λ (rs : List Release). rs ++ behind) noted
      ∙ append_assoc before own behind
      ∙ ap (λ (rs : List Release). before ++ rs) (sym left)
      ∙ whole
