-- The facts of the last pass: below all closed facts, and closed where each point is noted once.
use Rattle.std.proofs.Common.{Option, ◌≡◌, ℕ, zero, suc, Bool, true, false, ◌<◌, ◌≤◌, Some, None}
use Rattle.std.proofs.Common.{List, [], ◌∷◌, length, set, refl, sym, ap, ◌∙◌, subst, arith, ⊎_elim}
use Rattle.std.proofs.Common.{inl, inr}
use Rattle.par_pass_laws.specs.Exits.{Way}
use Rattle.std.specs.Prelude.{◌⊎◌}
use Rattle.par_except.specs.par_typed.Plain.{Body, TSta, point}
use Rattle.par_except.specs.par_program_laws.Lattice.{Lattice, numbers}
use Rattle.par_except.specs.par_program_laws.Ways as rules
use Rattle.par_pass_laws.specs.Result.{IsSettled, AreLeast, AreExact}
use Rattle.par_pass_laws.proofs.Instances.{among}
use Rattle.par_except.specs.par_typed.Plain as plain
use Rattle.par_pass_laws.specs.Low.{MayFlow}
use Rattle.par_except.specs.par_program_laws.Facts.{Fact, Facts}
use Rattle.par_except.specs.par_program_laws.Declares.{Declares, Method}
use Rattle.par_except.specs.par_program_laws.Rules.{spot}
use Rattle.par_except.specs.par_program_laws.Body.{sta}
use Rattle.par_except.specs.par_program_laws.Closed.{IsClosed, IsThere, first, arriving, locals}
use Rattle.par_except.specs.par_program_laws.Numbered.{next, IsNumbered}
use Rattle.par_pass_laws.specs.Pass.{HeadWays, Event, Row, Into, pass}
use Rattle.par_pass_laws.specs.Low.{Stands, IsLow, AreLow, AreHeadsLow}
use Rattle.par_pass_laws.specs.Settled.{AllSay}
use Rattle.par_pass_laws.specs.Possible.{HasPossibleExits}
use Rattle.par_pass_laws.specs.Written.{blanks, written, table, AllFit}
use Rattle.par_pass_laws.proofs.Order.{flows_refl, sub_refl}
use Rattle.par_pass_laws.proofs.Under.{blank_low, flow_up}
use Rattle.par_pass_laws.proofs.Least.{pass_low}
use Rattle.par_pass_laws.proofs.Settles.{pass_settled}
use Rattle.par_pass_laws.proofs.Possible.{node_possible}
use Rattle.par_pass_laws.proofs.Points.{AreWithin, IsApart, AreApart, pass_spread}

set_case : (t : List (Fact numbers)) (p q : ℕ) (f : Fact numbers)
    → ((q ≡ p) × (table (set t p f) q ≡ f)) ⊎ (table (set t p f) q ≡ table t q)
set_case [] p q f = inr refl
set_case (x ∷ t) zero zero f = inl (refl, refl)
set_case (x ∷ t) zero (suc q) f = inr refl
set_case (x ∷ t) (suc p) zero f = inr refl
set_case (x ∷ t) (suc p) (suc q) f =
    ⊎_elim (λ e. inl (ap suc e.0, e.1)) (λ e. inr e) (set_case t p q f)

-- the point of a statement is that of its rules
spot_is : (declared : Declares) (s : TSta) → spot (sta declared s) ≡ point s
unfolding sta point
spot_is declared (plain.Block ss at p) = refl
spot_is declared (plain.If e s plain.NoElse at p) = refl
spot_is declared (plain.If e s (plain.Otherwise t) at p) = refl
spot_is declared (plain.While e s at p) = refl
spot_is declared (plain.Try s cs at p) = refl
spot_is declared (plain.Return plain.Absent at p) = refl
spot_is declared (plain.Return (plain.Present e) at p) = refl
spot_is declared (plain.Break at p) = refl
spot_is declared (plain.Continue at p) = refl
spot_is declared (plain.Throw class at p) = refl
spot_is declared (plain.Open lock at p) = refl
spot_is declared (plain.Close lock at p) = refl
spot_is declared (plain.SetLocal x policy e at p) = refl
spot_is declared (plain.SetStatic c f e at p) = refl
spot_is declared (plain.SetField o c f e at p) = refl
spot_is declared (plain.Eval e at p) = refl
spot_is declared (plain.When lock s plain.NoElse at p) = refl
spot_is declared (plain.When lock s (plain.Otherwise t) at p) = refl

module _ (Q : Lattice) (S : Stands Q) (a : Facts Q) where
  low_written : (l : List Event) (t : List (Fact numbers)) → AreLow Q S a l
      → ((p : ℕ) → IsLow Q S (table t p) (a p)) → (p : ℕ) → IsLow Q S (table (written l t) p) (a p)
  low_written [] t h u = u
  low_written (Into i o ∷ l) t h u = low_written l t h.1 u
  low_written (Row i f ∷ l) t h u =
      low_written l (set t i f) h.1
      (λ q. ⊎_elim (λ e. subst (λ x. IsLow Q S x (a q)) (sym e.1)
      (subst (λ j. IsLow Q S f (a j)) (sym e.0) h.0))
      (λ e. subst (λ x. IsLow Q S x (a q)) (sym e) (u q)) (set_case t i q f))

  blanks_low : (n p : ℕ) (g : Fact Q) → IsLow Q S (table (blanks n) p) g
  blanks_low zero p g = blank_low Q S g
  blanks_low (suc n) zero g = blank_low Q S g
  blanks_low (suc n) (suc p) g = blanks_low n p g

  arriving_low : (ps : List ℕ) (i : ℕ) → S.IsUnder (arriving numbers ps i) (arriving Q ps i)
  arriving_low [] i = S.least Q.bottom
  arriving_low (p ∷ ps) zero = S.given p
  arriving_low (p ∷ ps) (suc i) = arriving_low ps i

  locals_low : (static : Bool) (ps : List ℕ) (i : ℕ)
      → S.IsUnder (locals numbers static ps i) (locals Q static ps i)
  locals_low true ps i = arriving_low ps i
  locals_low false ps zero = S.least Q.bottom
  locals_low false ps (suc i) = arriving_low ps i

  first_low : (m : Method) → MayFlow Q S (Some (first numbers m)) (Some (first Q m))
  first_low m = record {
    context = S.least Q.bottom;
    lands = record { env = locals_low m.is_static m.params; locks = sub_refl m.expects };
  }

  entered_low : (declared : Declares) (b : Body) → IsClosed Q declared b a
      → MayFlow Q S (Some (first numbers (declared.method b.class b.method)))
      (a (spot (sta declared b.body))).entry
  entered_low declared b c =
      let m = declared.method b.class b.method in
      subst (λ p. MayFlow Q S (Some (first numbers m)) (a p).entry) (sym (spot_is declared b.body))
      (flow_up Q S (Some (first numbers m)) (Some (first Q m)) (a (point b.body)).entry
      (first_low m) c.entered)

  -- a round keeps the heads below the facts
  pub round_low : (declared : Declares) (b : Body) (h : HeadWays) → AreHeadsLow Q S h a
      → IsClosed Q declared b a
      → AreLow Q S a (pass h (sta declared b.body)
      (first numbers (declared.method b.class b.method))).events
  round_low declared b h u c =
      (pass_low Q S a h u (sta declared b.body) (first numbers (declared.method b.class b.method))
      (entered_low declared b c) c.obeyed).events

  -- the facts of a pass over heads that are below
  pub table_low : (declared : Declares) (b : Body) (h : HeadWays) (points : ℕ)
      (t : List (Fact numbers)) → AreHeadsLow Q S h a → IsSettled declared b h points t
      → IsClosed Q declared b a
      → (p : ℕ) → IsLow Q S (table t p) (a p)
  table_low declared b h points t u s c p =
      subst (λ x. IsLow Q S (table x p) (a p)) (sym s.facts)
      (low_written (pass h (sta declared b.body)
      (first numbers (declared.method b.class b.method))).events (blanks points)
      (round_low declared b h u c) (λ q. blanks_low points q (a q)) p)

kept : (p : ℕ) (l : List Event) (t : List (Fact numbers)) → IsApart p l
    → table (written l t) p ≡ table t p
kept p [] t h = refl
kept p (Into q o ∷ l) t h = kept p l t h
kept p (Row q f ∷ l) t h =
    kept p l (set t q f) h.1 ∙ ⊎_elim (λ e. absurd (h.0 e.0)) (λ e. e) (set_case t q p f)

set_own : (t : List (Fact numbers)) (p : ℕ) (f : Fact numbers) → p < length t
    → table (set t p f) p ≡ f
set_own [] p f h = absurd (omega (arith, h))
set_own (x ∷ t) zero f h = refl
set_own (x ∷ t) (suc p) f h = set_own t p f (omega (arith, h))

length_kept : (t : List (Fact numbers)) (p : ℕ) (f : Fact numbers) → length (set t p f) ≡ length t
length_kept [] p f = refl
length_kept (x ∷ t) zero f = refl
length_kept (x ∷ t) (suc p) f = let e = length_kept t p f in omega (arith, e)

length_blanks : (n : ℕ) → length (blanks n) ≡ n
length_blanks zero = refl
length_blanks (suc n) = let e = length_blanks n in omega (arith, e)

say : (h : HeadWays) (lo hi : ℕ) (l : List Event) (t : List (Fact numbers)) → AllFit h l
    → AreWithin lo hi l → AreApart l → hi ≤ length t → AllSay (table (written l t)) h l
say h lo hi [] t p w d g = tt
say h lo hi (Into q o ∷ l) t p w d g = (p.0, say h lo hi l t p.1 w d g)
say h lo hi (Row q f ∷ l) t p w d g =
    let e = length_kept t q f in let b = w.1 in (
      kept q l (set t q f) d.0 ∙ set_own t q f (omega (arith, b, g)),
      say h lo hi l (set t q f) p w.2 d.1 (omega (arith, e, g)),
    )

module _ (declared : Declares) (b : Body) (h : HeadWays) (points : ℕ) (t : List (Fact numbers))
    (s : IsSettled declared b h points t) (n : IsNumbered 0 (sta declared b.body))
    (g : next (sta declared b.body) ≤ points) where
  abbrev start : Way
  start = first numbers (declared.method b.class b.method)

  -- the facts of a settled pass are those that it notes
  table_says : AllSay (table t) h (pass h (sta declared b.body) start).events
  table_says =
      let l = (pass h (sta declared b.body) start).events in
      let r = pass_spread h (sta declared b.body) 0 n start in let e = length_blanks points in
      subst (λ t. AllSay (table t) h l) (sym s.facts)
      (say h 0 (next (sta declared b.body)) l (blanks points) s.fits r.within r.apart
      (omega (arith, g, e)))

  -- they are closed
  pub table_closed : IsClosed numbers declared b (table t)
  table_closed =
      let x = pass_settled (table t) h (sta declared b.body) start table_says in
      record {
        entered =
            subst (λ p. rules.MayFlow numbers (Some start) (table t p).entry)
            (spot_is declared b.body)
            (subst (λ f. rules.MayFlow numbers (Some start) f.entry) (sym x.is)
            (flows_refl start));
        obeyed = x.obeyed;
      }

  -- and have exits for possible completions alone
  pub table_possible : HasPossibleExits numbers (table t) (sta declared b.body)
  table_possible = node_possible h (table t) (sta declared b.body) start table_says

there_up : (o : Option Way) (p : Option (rules.Way numbers)) → MayFlow numbers among o p
    → IsThere numbers o → IsThere numbers p
there_up None p h t = absurd t
there_up (Some w) None h t = absurd h
there_up (Some w) (Some x) h t = tt

-- closed facts that are at or below all closed facts are exact
pub exact : (declared : Declares) (b : Body) (f : Facts numbers) → IsClosed numbers declared b f
    → AreLeast numbers among declared b f → AreExact declared b f
exact declared b f c l = record {
  entries = λ p. (λ t a d. there_up (f p).entry (a p).entry (l a d p).entry t, λ r. r f c);
  exits = λ p k. (λ t a d. there_up ((f p).exit k) ((a p).exit k) ((l a d p).exit k) t, λ r. r f c);
}
