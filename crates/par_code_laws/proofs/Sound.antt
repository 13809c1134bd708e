-- Each handler of a body goes to an instruction, in a method that has room for an operand.
use Rattle.std.proofs.Common.{◌≡◌, ℕ, suc, ◌+◌, ◌≤◌, Bool, true, false, ◌&&◌, List, [], ◌∷◌, Some}
use Rattle.std.proofs.Common.{ap, ◌∙◌, subst, arith}
use Rattle.std.specs.Prelude.{pos, if◌then◌else◌, ◌==◌}
use Rattle.par_typed.specs.declared.ty.Ty.{Ty}
use Rattle.par_typed.specs.Plain.{TSta, Block, If, While, Try, Return, Break, Continue, Throw, Open}
use Rattle.par_typed.specs.Plain.{Close, SetLocal, SetStatic, SetField, Eval, When, Absent, Present}
use Rattle.par_typed.specs.Plain.{MayTSta, NoElse, Otherwise, TStas, End, Then, TCatches, NoCatch}
use Rattle.par_typed.specs.Plain.{Catch}
use Rattle.par_completes.specs.Typed.{completes, is_true}
use Rattle.par_code_form.specs.declared.item.Item.{Item}
use Rattle.par_code_form.specs.declared.item.Item.TheVariants.{Label}
use Rattle.par_code_form.specs.declared.labelled.Handler.{Handler}
use Rattle.par_code_form.specs.Code.{Words, Loop, expr_labels, labels, code, else_code, all_code}
use Rattle.par_code_form.specs.Code.{catch_code}
use Rattle.par_code_form.specs.Code.{handlers, else_handlers, all_handlers, catch_handlers}
use Rattle.par_evaluation_laws.specs.par_match_laws.Labelled.{Labelled, Naming, target, handled}
use Rattle.par_evaluation_laws.specs.par_match_laws.Labelled.{covers}
use Rattle.par_evaluation_laws.specs.par_match_laws.Labelled.{stands}
use Rattle.par_evaluation_laws.proofs.par_match_laws.Steps.{Here, next, Distinct, target_is}
use Rattle.par_evaluation_laws.proofs.par_match_laws.Steps.{stands_here}
use Rattle.par_evaluation_laws.specs.Laid.{Layout, TypedS, TypedElse, TypedAll}
use Rattle.par_evaluation_laws.specs.Laid.{TypedCatches}
use Rattle.par_evaluation_laws.proofs.Lengths.{expr_ends}
use Rattle.par_code_laws.proofs.Spans.{goes_ends, test_ends, ends}

module _ (env : Naming) (c : Labelled) where
  -- each of these handlers goes to an instruction, and there is room for an operand
  abbrev pub AllGo : List Handler → Type 0
  AllGo [] = Unit {0}
  AllGo (h ∷ hs) = (stands c.items (pos (target c.items h.goes)) ≡ true) × (1 ≤ c.max_stack) ×
      AllGo hs

  pub goes_sound : (hs : List Handler) (q x to : ℕ) → AllGo hs
      → handled env c.items hs q x ≡ Some to
      → (stands c.items (pos to) ≡ true) × (1 ≤ c.max_stack)
  goes_sound [] q x to g e = cc
  goes_sound (h ∷ hs) q x to g e = pick (goes_sound hs q x to g.2)
      (covers c.items h q && env.number h.class == x) e
    where
      pick : (handled env c.items hs q x ≡ Some to
          → (stands c.items (pos to) ≡ true) × (1 ≤ c.max_stack)) → (b : Bool)
          → (if b then Some (target c.items h.goes) else handled env c.items hs q x) ≡ Some to
          → (stands c.items (pos to) ≡ true) × (1 ≤ c.max_stack)
      pick ih true e = (
        subst (λ (y : ℕ). stands c.items (pos y) ≡ true)
            (grind (arith, e)) g.0,
        g.1,
      )
      pick ih false e = ih e

  module _ (w : Words) (ds : Distinct c) (lay : Layout) (tys : ℕ
      → Ty) (many : ℕ) (result : Ty) where
    mutual
      unfolding code handlers TypedS

      pub all_go : (s : TSta) (l : Loop) (n p : ℕ) (inside : Bool) (set : List ℕ)
          (xs : List Item) (hs : List Handler)
          → TypedS lay tys many c.max_stack result inside set s → Here c p (code w s l n xs)
          → AllGo hs → AllGo (handlers w s n hs)
      all_go (Block ss y1 y2) l n p inside set xs hs tp h g = block_go ss l n p inside set xs hs tp
          h g
      all_go (If e s o y1 y2) l n p inside set xs hs tp h g =
          let i = expr_labels e (n + 2) in
          let h0 = expr_ends w c e (n + 2) p _ h in
          let h1 = next c h0.1 in
          let j = ends w c s l i (suc h0.0) _ h1 in
          let k = goes_ends c (completes s) (n + 1) j.0 _ j.1 in
          all_go s l i (suc h0.0) inside set _ (else_handlers w o (labels s i) hs) tp.2 h1
          (else_go o l (labels s i) (suc k.0) inside set (Label (n + 1) ∷ xs) hs tp.3 (next c k.2)
          g)
      all_go (While e s y1 y2) l n p inside set xs hs tp h g =
          let i = expr_labels e (n + 2) in
          let h0 = test_ends w c (is_true e) e (n + 2) (n + 1) (suc p) _ (next c h) in
          all_go s (record { out = n + 1; again = n }) i h0.0 true set _ hs tp.2 h0.1 g
      all_go (Try s cs y1 y2) l n p inside set xs hs tp h g =
          let m = labels s (n + 3) in
          let h1 = next c h in
          let j = ends w c s l (n + 3) (suc p) _ h1 in
          let k = goes_ends c (completes s) (n + 2) j.0 _ j.1 in
          all_go s l (n + 3) (suc p) inside set _ (catch_handlers w cs n m hs) tp.0 h1
          (catch_go cs l (n + 2) n m (suc k.0) inside set (Label (n + 2) ∷ xs) hs tp.1 (next c k.2)
          g)
      all_go (Return Absent y1 y2) l n p inside set xs hs tp h g = g
      all_go (Return (Present e) y1 y2) l n p inside set xs hs tp h g = g
      all_go (Break y1 y2) l n p inside set xs hs tp h g = g
      all_go (Continue y1 y2) l n p inside set xs hs tp h g = g
      all_go (Throw d y1 y2) l n p inside set xs hs tp h g = g
      all_go (Open i y1 y2) l n p inside set xs hs tp h g = g
      all_go (Close i y1 y2) l n p inside set xs hs tp h g = g
      all_go (SetLocal x q e y1 y2) l n p inside set xs hs tp h g = g
      all_go (SetStatic d f e y1 y2) l n p inside set xs hs tp h g = g
      all_go (SetField o d f e y1 y2) l n p inside set xs hs tp h g = g
      all_go (Eval e y1 y2) l n p inside set xs hs tp h g = g
      all_go (When i s o y1 y2) l n p inside set xs hs tp h g =
          let h1 = next c (next c h) in
          let j = ends w c s l (n + 2) (suc (suc p)) _ h1 in
          let k = goes_ends c (completes s) (n + 1) j.0 _ j.1 in
          all_go s l (n + 2) (suc (suc p)) inside set _ (else_handlers w o (labels s (n + 2)) hs)
          tp.2 h1
          (else_go o l (labels s (n + 2)) (suc k.0) inside set (Label (n + 1) ∷ xs) hs tp.3 (next c
          k.2) g)

      else_go : (o : MayTSta) (l : Loop) (n p : ℕ) (inside : Bool) (set : List ℕ)
          (xs : List Item) (hs : List Handler)
          → TypedElse lay tys many c.max_stack result inside set o
          → Here c p (else_code w o l n xs) → AllGo hs → AllGo (else_handlers w o n hs)
      else_go NoElse l n p inside set xs hs tp h g = g
      else_go (Otherwise s) l n p inside set xs hs tp h g = all_go s l n p inside set xs hs tp h g

      block_go : (ss : TStas) (l : Loop) (n p : ℕ) (inside : Bool) (set : List ℕ)
          (xs : List Item) (hs : List Handler)
          → TypedAll lay tys many c.max_stack result inside set ss
          → Here c p (all_code w ss l n xs) → AllGo hs → AllGo (all_handlers w ss n hs)
      block_go End l n p inside set xs hs tp h g = g
      block_go (Then s ss) l n p inside set xs hs tp h g =
          let j = ends w c s l n p _ h in
          all_go s l n p inside set _ (all_handlers w ss (labels s n) hs) tp.0 h
          (block_go ss l (labels s n) j.0 inside _ xs hs tp.1 j.1 g)

      catch_go : (cs : TCatches) (l : Loop) (end from n p : ℕ) (inside : Bool) (set : List ℕ)
          (xs : List Item) (hs : List Handler)
          → TypedCatches lay tys many c.max_stack result inside set cs
          → Here c p (catch_code w cs l end n xs) → AllGo hs
          → AllGo (catch_handlers w cs from n hs)
      catch_go NoCatch l end from n p inside set xs hs tp h g = g
      catch_go (Catch d s cs) l end from n p inside set xs hs tp h g =
          let h1 = next c h in
          let h2 = next c h1 in
          let j = ends w c s l (n + 1) (suc (suc p)) _ h2 in
          let k = goes_ends c (completes s) end j.0 _ j.1 in (
            ap (λ q. stands c.items (pos q)) (target_is c ds n p _ h)
                ∙ stands_here c (suc p) _ h1 tt,
            tp.1,
            all_go s l (n + 1) (suc (suc p)) inside set _ (catch_handlers w cs from (labels s (n +
                1)) hs) tp.2 h2
                (catch_go cs l end from (labels s (n + 1)) k.0 inside set xs hs tp.3 k.2 g),
          )
