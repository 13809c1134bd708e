-- Bodies are found by the places of their methods.
use Rattle.std.proofs.Common.{◌≡◌, ℕ, suc, ◌+◌, Bool, true, false, cond, if◌then◌else◌, ◌==◌, ◌&&◌}
use Rattle.std.proofs.Common.{List, [], ◌∷◌, Option, Some, None, refl, ap, sym, ◌∙◌, subst, arith}
use Rattle.std.specs.Prelude.{slice_get}
use Rattle.std.specs.List.{position, position_from}
use Rattle.std.proofs.lemmas.Bool.Decides.{nat_tests}
use Rattle.par_index.proofs.Places.{position-from}
use Rattle.par_typed.specs.declared.program.TBody.{TBody}
use Rattle.par_typed.specs.Plain.{TSta}
use Rattle.par_typed.specs.Shown.{does, bodies}
use Rattle.par_run_laws.specs.Names.{body_of}
use Rattle.par_source_state.specs.Held.{same_member}
use Rattle.par_source_state.specs.Bodied.{methods, body_at}

-- a body is that of this place, where places are counted from i on
abbrev IsAt : Option TSta → List TBody → ℕ → Option ℕ → Type 0
IsAt body bs i None = body ≡ None
IsAt body bs i (Some k) = (j : ℕ) × (k ≡ i + j) × (body ≡ body_at (slice_get bs j))

step : (b : TBody) (bs : List TBody) (i : ℕ) (here : Bool) (body : Option TSta) (o : Option ℕ)
    → IsAt body bs (i + 1) o
    → IsAt (if here then Some (does b.body) else body) (b ∷ bs) i (cond here (Some i) o)
step b bs i true body o later = (0, omega arith, refl)
step b bs i false body None later = later
step b bs i false body (Some k) later =
    let same = later.1 in let next : k ≡ i + suc later.0 = omega (arith, same) in
    (suc later.0, next, later.2)

either_way : (a b x y : ℕ) → (a == b && x == y) ≡ (b == a && y == x)
either_way a b x y = grind (arith, nat_tests)

module _ (c m : ℕ) where
  found : (bs : List TBody) (i : ℕ)
      → IsAt (body_of (bodies bs) c m) bs i (position_from (same_member (c, m)) i (methods bs))
  found [] i = refl
  found (b ∷ bs) i =
      let rest = position_from (same_member (c, m)) (i + 1) (methods bs) in
      let here = c == b.class && m == b.method in
      subst (λ (k : Bool). IsAt (if k then Some (does b.body) else body_of (bodies bs) c m) (b ∷ bs)
      i (cond here (Some i) rest))
      (either_way c b.class m b.method)
      (step b bs i here (body_of (bodies bs) c m) rest (found bs (i + 1)))

  found_first : (bs : List TBody) (o : Option ℕ) → o ≡ position (same_member (c, m)) (methods bs)
      → IsAt (body_of (bodies bs) c m) bs 0 o
  found_first bs o is =
      subst (IsAt (body_of (bodies bs) c m) bs 0)
      (sym (is ∙ position-from (same_member (c, m)) (methods bs))) (found bs 0)

  pub no_body : (bs : List TBody) → None ≡ position (same_member (c, m)) (methods bs)
      → body_of (bodies bs) c m ≡ None
  no_body bs is = found_first bs None is

  pub body_there : (bs : List TBody) (k : ℕ) → Some k ≡ position (same_member (c, m)) (methods bs)
      → body_of (bodies bs) c m ≡ body_at (slice_get bs k)
  body_there bs k is =
      let here = found_first bs (Some k) is in
      let zero_more : here.0 ≡ k = let at = here.1 in omega (arith, at) in
      here.2 ∙ ap (λ n. body_at (slice_get bs n)) zero_more
