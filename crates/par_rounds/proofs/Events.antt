-- Events one after the other.
use Rattle.std.proofs.Common.{◌≡◌, ◌<◌, ◌≤◌, Bool, true, false, List, [], ◌∷◌, ◌++◌, set, refl, sym}
use Rattle.std.proofs.Common.{ap, ◌∙◌, subst, arith}
use Rattle.par_program_laws.specs.Lattice.{numbers}
use Rattle.par_program_laws.specs.Facts.{Fact}
use Rattle.par_pass_laws.specs.Pass.{HeadWays, Event, Row, Into}
use Rattle.par_pass_laws.specs.Written.{written, AllFit}
use Rattle.par_rounds.specs.declared.notes.Notes.{Notes}
use Rattle.par_ways.specs.Seen.{seen_facts, ways_of, AreHeadsWide, AreRowsWide}
use Rattle.par_rounds.specs.Took.{joined, raised, total, AreSmall, Took}

raised_both : (h : HeadWays) (l k : List Event) → raised h (l ++ k) ≡ raised (raised h l) k
raised_both h [] k = refl
raised_both h (Row p f ∷ l) k = raised_both h l k
raised_both h (Into p o ∷ l) k = raised_both (joined h p o) l k

fit_both : (h : HeadWays) (l k : List Event) → AllFit h l → AllFit h k → AllFit h (l ++ k)
fit_both h [] k p q = q
fit_both h (Row i f ∷ l) k p q = fit_both h l k p q
fit_both h (Into i o ∷ l) k p q = (p.0, fit_both h l k p.1 q)

written_both : (l k : List Event) (t : List (Fact numbers))
    → written (l ++ k) t ≡ written k (written l t)
written_both [] k t = refl
written_both (Row i f ∷ l) k t = written_both l k (set t i f)
written_both (Into i o ∷ l) k t = written_both l k t

small_front : (l k : List Event) → AreSmall (l ++ k) → AreSmall l
small_front [] k h = tt
small_front (Row i f ∷ l) k h = small_front l k h
small_front (Into i o ∷ l) k h = (h.0, small_front l k h.1)

small_back : (l k : List Event) → AreSmall (l ++ k) → AreSmall k
small_back [] k h = h
small_back (Row i f ∷ l) k h = small_back l k h
small_back (Into i o ∷ l) k h = small_back l k h.1

pub took_none : (n : Notes) → Took [] n n
took_none n = record {
  locals = refl;
  size = refl;
  wide = λ h. h;
  heads = refl;
  fits = λ e. (e, refl, tt);
  falls = λ h s. omega arith;
  rises = λ h s e f. let g : true ≡ false = sym f ∙ e in cc;
  rows = refl;
  rows_wide = λ h. h;
}

pub then : {l k : List Event} {m n o : Notes} → Took l m n → Took k n o → Took (l ++ k) m o
then {l} {k} {m} {n} {o} p q = record {
  locals = q.locals ∙ p.locals;
  size = q.size ∙ p.size;
  wide = wide;
  heads = q.heads ∙ ap (λ h. raised h k) p.heads ∙ sym (raised_both (ways_of m.heads.items) l k);
  fits = λ e. let r = q.fits e in let s = p.fits r.0 in
      (s.0, r.1 ∙ s.1, fit_both (ways_of m.heads.items) l k s.2 (subst (λ h. AllFit h k) s.1 r.2));
  falls = λ h s. let a = p.falls h (small_front l k s) in let b = fall h s in omega (arith, a, b);
  rises = λ h s e f. rise h s e f n.rose refl;
  rows = q.rows ∙ ap (written k) p.rows ∙ sym (written_both l k (seen_facts m.rows.items));
  rows_wide =
      λ h. subst (λ j. AreRowsWide j o.rows.items) p.locals
      (q.rows_wide (subst (λ j. AreRowsWide j n.rows.items) (sym p.locals) (p.rows_wide h)));
} where
  middle : AreHeadsWide m.locals m.heads.items → AreHeadsWide n.locals n.heads.items
  middle h = subst (λ j. AreHeadsWide j n.heads.items) (sym p.locals) (p.wide h)

  wide : AreHeadsWide m.locals m.heads.items → AreHeadsWide m.locals o.heads.items
  wide h = subst (λ j. AreHeadsWide j o.heads.items) p.locals (q.wide (middle h))

  fall : AreHeadsWide m.locals m.heads.items → AreSmall (l ++ k)
      → total m.locals o.heads.items ≤ total m.locals n.heads.items
  fall h s =
      subst (λ j. total j o.heads.items ≤ total j n.heads.items) p.locals
      (q.falls (middle h) (small_back l k s))

  rise : AreHeadsWide m.locals m.heads.items → AreSmall (l ++ k) → m.rose ≡ false → o.rose ≡ true
      → (b : Bool) → n.rose ≡ b → total m.locals o.heads.items < total m.locals m.heads.items
  rise h s e f true g =
      let a = p.rises h (small_front l k s) e g in let b = fall h s in omega (arith, a, b)
  rise h s e f false g =
      let b =
      subst (λ j. total j o.heads.items < total j n.heads.items) p.locals
      (q.rises (middle h) (small_back l k s) g f) in
      let a = p.falls h (small_front l k s) in omega (arith, a, b)
