-- What one event makes of notes.
use Rattle.std.proofs.Common.{◌≡◌, ℕ, zero, suc, ◌+◌, ◌<◌, ◌≤◌, Bool, true, false, ◌||◌, ◌&&◌, cond}
use Rattle.std.proofs.Common.{Option, Some, None, List, [], ◌∷◌, ◌++◌, length, get_or, set, refl}
use Rattle.std.proofs.Common.{sym, ap, ◌∙◌, subst, arith, ⊎_elim, add-one}
use Rattle.std.specs.Prelude.{IsTrue}
use Rattle.std.proofs.Math.Path.{fun_ext}
use Rattle.std.proofs.lemmas.List.{length-set}
use Rattle.std.proofs.lemmas.Bool.Decides.{eqb_tells}
use Rattle.std.proofs.lemmas.List.Elements.{All-set, All-push}
use Rattle.par_bits.specs.Sets.{Set, IsWithin, union, meet}
use Rattle.par_program_laws.specs.Lattice.{numbers}
use Rattle.par_program_laws.specs.Facts.{Fact, blank}
use Rattle.par_program_laws.specs.Ways.{Flows, MayFlow}
use Rattle.par_pass_laws.specs.par_except.declared.way.Way as code
use Rattle.par_pass_laws.specs.par_except.Joins.{join, may_join}
use Rattle.par_pass_laws.specs.par_except.Seen.{may_see, MayHaveLocals}
use Rattle.par_pass_laws.specs.Exits.{Way}
use Rattle.par_pass_laws.specs.Pass.{HeadWays, Row, Into}
use Rattle.par_pass_laws.specs.Written.{blanks}
use Rattle.par_ways.specs.declared.fact.Fact as code_fact
use Rattle.par_rounds.specs.declared.notes.Notes.{Notes}
use Rattle.par_ways.specs.Seen.{seen_fact, seen_facts, ways_of, AreHeadsWide}
use Rattle.par_ways.specs.Seen.{IsRowWide, AreRowsWide}
use Rattle.par_rounds.specs.Took.{joined, total, HaveSmallLocks, AreSmall, Took}
use Rattle.par_rounds.proofs.Heads.{heads_set, head_falls, total_falls}

pub facts_set : (xs : List code_fact.Fact) (i : ℕ) (f : code_fact.Fact)
    → seen_facts (set xs i f) ≡ set (seen_facts xs) i (seen_fact f)
facts_set [] i f = refl
facts_set (x ∷ xs) zero f = refl
facts_set (x ∷ xs) (suc i) f = ap (λ ys. seen_fact x ∷ ys) (facts_set xs i f)

pub facts_past : (xs : List code_fact.Fact) (i : ℕ) (f : Fact numbers) → length xs ≤ i
    → seen_facts xs ≡ set (seen_facts xs) i f
facts_past [] i f h = refl
facts_past (x ∷ xs) zero f h = absurd (omega (arith, h))
facts_past (x ∷ xs) (suc i) f h = ap (λ ys. seen_fact x ∷ ys) (facts_past xs i f (omega (arith, h)))

-- a row is written, or there is no place for it
pub took_row : (m n : Notes) (p : ℕ) (f : Fact numbers) → n.locals ≡ m.locals → n.heads ≡ m.heads
    → n.rose ≡ m.rose
    → seen_facts n.rows.items ≡ set (seen_facts m.rows.items) p f
    → (AreRowsWide m.locals m.rows.items → AreRowsWide m.locals n.rows.items)
    → Took (Row p f ∷ []) m n
took_row m n p f l h r t wide = record {
  locals = l;
  size = ap (λ x. length x.items) h;
  wide = λ w. subst (λ x. AreHeadsWide m.locals x.items) (sym h) w;
  heads = ap (λ x. ways_of x.items) h;
  fits = λ e. (sym r ∙ e, ap (λ x. ways_of x.items) h, tt);
  falls = λ w s. let e = ap (λ x. total m.locals x.items) h in omega (arith, e);
  rises = λ w s e g. let q : true ≡ false = sym g ∙ r ∙ e in cc;
  rows = t;
  rows_wide = wide;
}

union_same_at : (a b : Bool) → (IsTrue b → IsTrue a) → (a || b) ≡ a
union_same_at true b h = refl
union_same_at false true h = sym (h refl)
union_same_at false false h = refl

meet_same_at : (a b : Bool) → (IsTrue a → IsTrue b) → (a && b) ≡ a
meet_same_at true true h = refl
meet_same_at true false h = h refl
meet_same_at false b h = refl

union_same : (p q : Set) → IsWithin q p → union p q ≡ p
union_same p q h = fun_ext λ n. union_same_at (p n) (q n) (h n)

meet_same : (p q : Set) → IsWithin p q → meet p q ≡ p
meet_same p q h = fun_ext λ n. meet_same_at (p n) (q n) (h n)

way_as : (c d : Set) (e f : ℕ → Set) (l k : Set) → c ≡ d → e ≡ f → l ≡ k
    → (let w : Way = record { context = c; env = e; locks = l } in w)
    ≡ record { context = d; env = f; locks = k }
way_as c d e f l k p q r = cc

-- a way joined with one that flows into it
join_same : (w x : Way) → Flows numbers x w → join w x ≡ w
join_same w x f =
    way_as _ _ _ _ _ _ (union_same w.context x.context f.context)
    (fun_ext λ i. union_same (w.env i) (x.env i) (f.lands.env i))
    (meet_same w.locks x.locks f.lands.locks)

may_join_same : (o q : Option Way) → MayFlow numbers q o → may_join o q ≡ o
may_join_same None None h = refl
may_join_same None (Some x) h = absurd h
may_join_same (Some w) None h = refl
may_join_same (Some w) (Some x) h = ap Some (join_same w x h)

joined_same : (h : HeadWays) (p : ℕ) (o : Option Way) → MayFlow numbers o (h p) → h ≡ joined h p o
joined_same h p o f = fun_ext λ i. ⊎_elim
    (λ s. sym (ap (λ b. cond b (may_join (h i) o) (h i)) s.0
    ∙ may_join_same (h i) o (subst (λ j. MayFlow numbers o (h j)) (sym s.1) f)))
    (λ s. sym (ap (λ b. cond b (may_join (h i) o) (h i)) s.0))
    (eqb_tells i p)

-- a way flows into a head that is above it
pub took_fit : (m : Notes) (p : ℕ) (o : Option Way) → MayFlow numbers o (ways_of m.heads.items p)
    → Took (Into p o ∷ []) m m
took_fit m p o f = record {
  locals = refl;
  size = refl;
  wide = λ w. w;
  heads = joined_same (ways_of m.heads.items) p o f;
  fits = λ e. (e, refl, (f, tt));
  falls = λ w s. omega arith;
  rises = λ w s e g. let q : true ≡ false = sym g ∙ e in cc;
  rows = refl;
  rows_wide = λ w. w;
}

-- a way makes a head rise
pub took_rise : (m n : Notes) (p : ℕ) (y x : Option code.Way) → p < length m.heads.items
    → n.locals ≡ m.locals → n.heads.items ≡ set m.heads.items p y → n.rose ≡ true → n.rows ≡ m.rows
    → may_see y ≡ may_join (may_see (get_or m.heads.items p None)) (may_see x)
    → (MayFlow numbers (may_see x) (may_see (get_or m.heads.items p None)) → ⊥)
    → HaveSmallLocks (get_or m.heads.items p None)
    → (AreHeadsWide m.locals m.heads.items → MayHaveLocals m.locals (get_or m.heads.items p None))
    → MayHaveLocals m.locals x → MayHaveLocals m.locals y
    → Took (Into p (may_see x) ∷ []) m n
took_rise m n p y x b l h r t e f z hw hx hy = record {
  locals = l;
  size = ap length h ∙ length-set m.heads.items p y;
  wide =
      λ w. subst (AreHeadsWide m.locals) (sym h)
      (All-set (MayHaveLocals m.locals) m.heads.items p y hy w);
  heads = ap ways_of h ∙ heads_set m.heads.items p y (may_see x) b e;
  fits = λ g. let q : true ≡ false = sym r ∙ g in cc;
  falls = λ w s. let a = fall w s in omega (arith, a);
  rises = λ w s g k. fall w s;
  rows = ap (λ v. seen_facts v.items) t;
  rows_wide = λ w. subst (λ v. AreRowsWide m.locals v.items) (sym t) w;
} where
  fall : AreHeadsWide m.locals m.heads.items → AreSmall (Into p (may_see x) ∷ [])
      → total m.locals n.heads.items < total m.locals m.heads.items
  fall w s = subst (λ v. total m.locals v < total m.locals m.heads.items) (sym h)
      (total_falls m.locals m.heads.items p y b
      (head_falls m.locals y (get_or m.heads.items p None) x hy (hw w) hx e f s.0 z))

-- one more place for a row
push_fact : (xs : List code_fact.Fact) (f : code_fact.Fact) (n : ℕ) → seen_fact f ≡ blank numbers
    → seen_facts xs ≡ blanks n → seen_facts (xs ++ f ∷ []) ≡ blanks (suc n)
push_fact xs f n g e =
    pushed xs ∙ ap (λ t. t ++ seen_fact f ∷ []) e ∙ ap (λ x. blanks n ++ x ∷ []) g ∙ blanks_push n
  where
    pushed : (ys : List code_fact.Fact)
        → seen_facts (ys ++ f ∷ []) ≡ seen_facts ys ++ seen_fact f ∷ []
    pushed [] = refl
    pushed (y ∷ ys) = ap (λ zs. seen_fact y ∷ zs) (pushed ys)

    blanks_push : (k : ℕ) → blanks k ++ blank numbers ∷ [] ≡ blanks (suc k)
    blanks_push zero = refl
    blanks_push (suc k) = ap (λ zs. blank numbers ∷ zs) (blanks_push k)

pub push_blank : (xs ys : List code_fact.Fact) (f : code_fact.Fact) (n : ℕ) → ys ≡ xs ++ f ∷ []
    → seen_fact f ≡ blank numbers → seen_facts xs ≡ blanks n → seen_facts ys ≡ blanks (n + 1)
push_blank xs ys f n e g h = ap seen_facts e ∙ push_fact xs f n g h ∙ ap blanks (sym (add-one n))

pub push_wide : (xs ys : List code_fact.Fact) (f : code_fact.Fact) → ys ≡ xs ++ f ∷ []
    → ((n : ℕ) → IsRowWide n f) → ((n : ℕ) → AreRowsWide n xs) → (n : ℕ) → AreRowsWide n ys
push_wide xs ys f e w h n =
    subst (AreRowsWide n) (sym e) (All-push (IsRowWide n) xs f (h n) (w n))

pub read_wide : (n : ℕ) (xs : List (Option code.Way)) (i : ℕ) (x : Option code.Way) → i < length xs
    → x ≡ get_or xs i x → AreHeadsWide n xs → MayHaveLocals n x
read_wide n xs i x h e w = subst (MayHaveLocals n) (sym e) (w i x h)
