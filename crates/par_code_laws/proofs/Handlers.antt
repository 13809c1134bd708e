-- The handlers of a statement cover no position outside its code.
use Rattle.std.proofs.Common.{◌≡◌, ℕ, suc, ◌+◌, ◌≤◌, ◌<◌, ◌⊎◌, inl, inr, Bool, true, false, ◌&&◌}
use Rattle.std.proofs.Common.{List, ◌∷◌}
use Rattle.std.proofs.Common.{length, Option, Some, refl, ap, ◌∙◌, arith}
use Rattle.std.specs.Prelude.{nat_le, nat_lt, ◌==◌, if◌then◌else◌}
use Rattle.std.proofs.lemmas.Bool.{le-ltb, lt-ltb, le-leb, lt-leb}
use Rattle.par_typed.specs.Plain.{TSta, Block, If, While, Try, Return, Break, Continue, Throw, Open}
use Rattle.par_typed.specs.Plain.{Close, SetLocal, SetStatic, SetField, Eval, When}
use Rattle.par_typed.specs.Plain.{MayTSta, NoElse, Otherwise, TStas, End, Then, TCatches, NoCatch}
use Rattle.par_typed.specs.Plain.{Catch}
use Rattle.par_completes.specs.Typed.{completes, is_true}
use Rattle.par_code_form.specs.declared.item.Item.{Item}
use Rattle.par_code_form.specs.declared.item.Item.TheVariants.{Label, Jump}
use Rattle.par_code_form.specs.declared.labelled.Handler.{Handler}
use Rattle.par_code_form.specs.Code.{Words, Loop, goes_on, expr_labels, labels, code, else_code}
use Rattle.par_code_form.specs.Code.{all_code, catch_code}
use Rattle.par_code_form.specs.Code.{handlers, else_handlers, all_handlers, catch_handlers}
use Rattle.par_evaluation_laws.specs.par_match_laws.Labelled.{Labelled, Naming, spot, handled}
use Rattle.par_evaluation_laws.specs.par_match_laws.Labelled.{target}
use Rattle.par_evaluation_laws.proofs.par_match_laws.Steps.{Here, next, Distinct}
use Rattle.par_evaluation_laws.proofs.Lengths.{expr_grows, expr_ends}
use Rattle.par_code_laws.proofs.Spans.{goes_grows, goes_ends, test_grows, test_ends, grows}
use Rattle.par_code_laws.proofs.Spans.{else_grows}
use Rattle.par_code_laws.proofs.Spans.{all_grows, catch_grows, ends}

range_not : (f t p : ℕ) (b : Bool) → (p < f) ⊎ (t ≤ p) → ((nat_le f p && nat_lt p t) && b) ≡ false
range_not f t p b (inl lt) = ap (λ a. (a && nat_lt p t) && b) (lt-leb f p lt)
range_not f t p b (inr le) = ap (λ a. (nat_le f p && a) && b) (le-ltb p t le) ∙ none (nat_le f p)
  where
    none : (x : Bool) → ((x && false) && b) ≡ false
    none true = refl
    none false = refl

range_yes : (f t p : ℕ) (b : Bool) → f ≤ p → p < t → ((nat_le f p && nat_lt p t) && b) ≡ b
range_yes f t p b le lt = ap (λ a. (a && nat_lt p t) && b) (le-leb f p le)
    ∙ ap (λ a. a && b) (lt-ltb p t lt)

module _ (env : Naming) (c : Labelled) where
  abbrev pub Looked : List Handler → ℕ → ℕ → Option ℕ
  Looked hs q x = handled env c.items hs q x

  pub passed_over : (h : Handler) (hs : List Handler) (q x : ℕ)
      → (q < spot c.items h.from) ⊎ (spot c.items h.to ≤ q) → Looked (h ∷ hs) q x ≡ Looked hs q x
  passed_over h hs q x out =
      ap (λ b. if b then Some (target c.items h.goes) else Looked hs q x)
      (range_not (spot c.items h.from) (spot c.items h.to) q (env.number h.class == x) out)

  pub covering : (h : Handler) (hs : List Handler) (q x : ℕ) → spot c.items h.from ≤ q
      → q < spot c.items h.to
      → Looked (h ∷ hs) q x ≡ (if env.number h.class == x then Some (target c.items h.goes) else
      Looked hs q x)
  covering h hs q x le lt =
      ap (λ b. if b then Some (target c.items h.goes) else Looked hs q x)
      (range_yes (spot c.items h.from) (spot c.items h.to) q (env.number h.class == x) le lt)

  -- q stands in front of p, or behind the code in front of xs
  abbrev pub Off : ℕ → ℕ → List Item → Type 0
  Off q p xs = (q < p) ⊎ (length c.items ≤ q + length xs)

  off_part : (q p p' : ℕ) (xs xs' : List Item) → Off q p xs → p ≤ p' → length xs ≤ length xs'
      → Off q p' xs'
  off_part q p p' xs xs' (inl a) le le' = inl (omega arith)
  off_part q p p' xs xs' (inr a) le le' = inr (omega arith)

  module _ (w : Words) (ds : Distinct c) where
    beside : (q p f t z : ℕ) (zs xs : List Item) → Off q p xs → p ≤ f → t ≡ z
        → z + suc (length zs) ≡ length c.items → length xs ≤ length zs
        → (q < f) ⊎ (t ≤ q)
    beside q p f t z zs xs (inl a) le e fits g = inl (omega arith)
    beside q p f t z zs xs (inr a) le e fits g = inr (omega arith)

    mutual
      unfolding code handlers

      pub outside : (s : TSta) (l : Loop) (n p q x : ℕ) (xs : List Item) (hs : List Handler)
          → Here c p (code w s l n xs) → Off q p xs
          → Looked (handlers w s n hs) q x ≡ Looked hs q x
      outside (Block ss y1 y2) l n p q x xs hs h o = all_outside ss l n p q x xs hs h o
      outside (If e s1 o1 y1 y2) l n p q x xs hs h o =
          let i = expr_labels e (n + 2) in
          let ws = Label (n + 1) ∷ xs in
          let zs = else_code w o1 l (labels s1 i) ws in
          let ys = goes_on (completes s1) (n + 1) (Label n ∷ zs) in
          let h0 = expr_ends w c e (n + 2) p (Jump 153 n ∷ code w s1 l i ys) h in
          let h1 = next c h0.1 in
          let j = ends w c s1 l i (suc h0.0) ys h1 in
          let g = goes_ends c (completes s1) (n + 1) j.0 (Label n ∷ zs) j.1 in
          let h2 = next c g.2 in
          let g0 = expr_grows w e (n + 2) (Jump 153 n ∷ code w s1 l i ys) in
          let g1 = grows w s1 l i ys in
          let g2 = goes_grows (completes s1) (n + 1) (Label n ∷ zs) in
          let g3 = else_grows w o1 l (labels s1 i) ws in
          outside s1 l i (suc h0.0) q x ys (else_handlers w o1 (labels s1 i) hs) h1
          (off_part q p (suc h0.0) xs ys o (omega (arith, g0, h.fits, (h0.1).fits))
          (omega (arith, g2, g3)))
          ∙ else_outside o1 l (labels s1 i) (suc g.0) q x ws hs h2
          (off_part q p (suc g.0) xs ws o (omega (arith, g0, g1, g2, h.fits, h2.fits))
          (omega arith))
      outside (While e s1 y1 y2) l n p q x xs hs h o =
          let i = expr_labels e (n + 2) in
          let l2 : Loop = record { out = n + 1; again = n } in
          let ys = goes_on (completes s1) n (Label (n + 1) ∷ xs) in
          let us = code w s1 l2 i ys in
          let h0 = test_ends w c (is_true e) e (n + 2) (n + 1) (suc p) us (next c h) in
          let g0 = test_grows w (is_true e) e (n + 2) (n + 1) us in
          let g1 = goes_grows (completes s1) n (Label (n + 1) ∷ xs) in
          outside s1 l2 i h0.0 q x ys hs h0.1
          (off_part q p h0.0 xs ys o (omega (arith, g0, h.fits, (h0.1).fits)) (omega (arith, g1)))
      outside (Try s1 cs y1 y2) l n p q x xs hs h o =
          let m = labels s1 (n + 3) in
          let ws = Label (n + 2) ∷ xs in
          let zs = catch_code w cs l (n + 2) m ws in
          let ys = goes_on (completes s1) (n + 2) (Label (n + 1) ∷ zs) in
          let h1 = next c h in
          let j = ends w c s1 l (n + 3) (suc p) ys h1 in
          let g = goes_ends c (completes s1) (n + 2) j.0 (Label (n + 1) ∷ zs) j.1 in
          let h2 = next c g.2 in
          let g1 = grows w s1 l (n + 3) ys in
          let g2 = goes_grows (completes s1) (n + 2) (Label (n + 1) ∷ zs) in
          let g3 = catch_grows w cs l (n + 2) m ws in
          let starts : spot c.items n ≡ p = ds n p _ h in
          let stops : spot c.items (n + 1) ≡ g.0 = ds (n + 1) g.0 _ g.2 in
          outside s1 l (n + 3) (suc p) q x ys (catch_handlers w cs n m hs) h1
          (off_part q p (suc p) xs ys o (omega arith) (omega (arith, g2, g3)))
          ∙ catch_outside cs l (n + 2) n m (suc g.0) q x ws hs h2
          (beside q p (spot c.items n) (spot c.items (n + 1)) g.0 zs xs o (omega (arith, starts))
          stops (g.2).fits (omega (arith, g3)))
          (off_part q p (suc g.0) xs ws o (omega (arith, g1, g2, h.fits, h2.fits)) (omega arith))
      outside (Return e y1 y2) l n p q x xs hs h o = refl
      outside (Break y1 y2) l n p q x xs hs h o = refl
      outside (Continue y1 y2) l n p q x xs hs h o = refl
      outside (Throw d y1 y2) l n p q x xs hs h o = refl
      outside (Open i y1 y2) l n p q x xs hs h o = refl
      outside (Close i y1 y2) l n p q x xs hs h o = refl
      outside (SetLocal y z e y1 y2) l n p q x xs hs h o = refl
      outside (SetStatic d f e y1 y2) l n p q x xs hs h o = refl
      outside (SetField o1 d f e y1 y2) l n p q x xs hs h o = refl
      outside (Eval e y1 y2) l n p q x xs hs h o = refl
      outside (When i s1 o1 y1 y2) l n p q x xs hs h o =
          let ws = Label (n + 1) ∷ xs in
          let zs = else_code w o1 l (labels s1 (n + 2)) ws in
          let ys = goes_on (completes s1) (n + 1) (Label n ∷ zs) in
          let h1 = next c (next c h) in
          let j = ends w c s1 l (n + 2) (suc (suc p)) ys h1 in
          let g = goes_ends c (completes s1) (n + 1) j.0 (Label n ∷ zs) j.1 in
          let h2 = next c g.2 in
          let g1 = grows w s1 l (n + 2) ys in
          let g2 = goes_grows (completes s1) (n + 1) (Label n ∷ zs) in
          let g3 = else_grows w o1 l (labels s1 (n + 2)) ws in
          outside s1 l (n + 2) (suc (suc p)) q x ys (else_handlers w o1 (labels s1 (n + 2)) hs) h1
          (off_part q p (suc (suc p)) xs ys o (omega arith) (omega (arith, g2, g3)))
          ∙ else_outside o1 l (labels s1 (n + 2)) (suc g.0) q x ws hs h2
          (off_part q p (suc g.0) xs ws o (omega (arith, g1, g2, h.fits, h2.fits)) (omega arith))

      pub else_outside : (o1 : MayTSta) (l : Loop) (n p q x : ℕ) (xs : List Item)
          (hs : List Handler) → Here c p (else_code w o1 l n xs) → Off q p xs
          → Looked (else_handlers w o1 n hs) q x ≡ Looked hs q x
      else_outside NoElse l n p q x xs hs h o = refl
      else_outside (Otherwise s) l n p q x xs hs h o = outside s l n p q x xs hs h o

      pub all_outside : (ss : TStas) (l : Loop) (n p q x : ℕ) (xs : List Item)
          (hs : List Handler) → Here c p (all_code w ss l n xs) → Off q p xs
          → Looked (all_handlers w ss n hs) q x ≡ Looked hs q x
      all_outside End l n p q x xs hs h o = refl
      all_outside (Then s ss) l n p q x xs hs h o =
          let ys = all_code w ss l (labels s n) xs in
          let j = ends w c s l n p ys h in
          let g1 = grows w s l n ys in
          let g2 = all_grows w ss l (labels s n) xs in
          outside s l n p q x ys (all_handlers w ss (labels s n) hs) h (off_part q p p xs ys o
          (omega arith) g2)
          ∙ all_outside ss l (labels s n) j.0 q x xs hs j.1 (off_part q p j.0 xs xs o (omega
          (arith, g1, h.fits, (j.1).fits)) (omega arith))

      pub catch_outside : (cs : TCatches) (l : Loop) (end from n p q x : ℕ) (xs : List Item)
          (hs : List Handler) → Here c p (catch_code w cs l end n xs)
          → (q < spot c.items from) ⊎ (spot c.items (from + 1) ≤ q) → Off q p xs
          → Looked (catch_handlers w cs from n hs) q x ≡ Looked hs q x
      catch_outside NoCatch l end from n p q x xs hs h beyond o = refl
      catch_outside (Catch d s cs) l end from n p q x xs hs h beyond o =
          let m = labels s (n + 1) in
          let zs = catch_code w cs l end m xs in
          let ys = goes_on (completes s) end zs in
          let h1 = next c (next c h) in
          let j = ends w c s l (n + 1) (suc (suc p)) ys h1 in
          let g = goes_ends c (completes s) end j.0 zs j.1 in
          let g1 = grows w s l (n + 1) ys in
          let g2 = goes_grows (completes s) end zs in
          let g3 = catch_grows w cs l end m xs in
          let own : Handler = record { from = from; to = from + 1; goes = n; class = w.class d } in
          passed_over own (handlers w s (n + 1) (catch_handlers w cs from m hs)) q x beyond
          ∙ outside s l (n + 1) (suc (suc p)) q x ys (catch_handlers w cs from m hs) h1
          (off_part q p (suc (suc p)) xs ys o (omega arith) (omega (arith, g2, g3)))
          ∙ catch_outside cs l end from m g.0 q x xs hs g.2 beyond
          (off_part q p g.0 xs xs o (omega (arith, g1, g2, h.fits, (g.2).fits)) (omega arith))
