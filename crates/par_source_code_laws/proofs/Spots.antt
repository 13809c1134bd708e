-- Where the parts of a statement's code stand, and that code which control does not leave at its
-- end has an instruction.
use Rattle.std.proofs.Common.{◌≡◌, ℕ, ◌+◌, Bool, true, false, List, ◌∷◌, refl}
use Rattle.std.specs.Prelude.{◌||◌, if◌then◌else◌}
use Rattle.par_instr.specs.declared.instr.Instr.TheVariants.{Ireturn, Areturn}
use Rattle.par_typed.specs.Plain.{mark, TExp, Absent, Present}
use Rattle.par_typed.specs.Plain.{TSta, Block, If, While, Try, Return, Break, Continue, Throw, Open}
use Rattle.par_typed.specs.Plain.{Close, SetLocal, SetStatic, SetField, Eval, When}
use Rattle.par_typed.specs.Plain.{MayTSta, NoElse, Otherwise, TStas, End, Then, TCatches}
use Rattle.par_typed_laws.specs.par_completes.Typed.{completes, else_completes, last_completes}
use Rattle.par_typed_laws.specs.par_completes.Typed.{is_true}
use Rattle.par_code_form.specs.declared.item.Item.{Item}
use Rattle.par_code_form.specs.declared.item.Item.TheVariants.{Label, Op, Jump}
use Rattle.par_code_form.specs.Code.{Words, expr_labels, Loop, goes_on, loop_test}
use Rattle.par_code_form.specs.Code.{labels, code, else_code, all_code, catch_code}
use Rattle.par_code_form.specs.Code.{is_number}
use Rattle.par_source_code_laws.proofs.Ends.{IsEnd, here, more, past, chain, IsBefore, in_more}
use Rattle.par_source_code_laws.proofs.Ends.{at_head, expr_end, made_end, goes_end, loop_end}
use Rattle.par_source_code_laws.proofs.Ends.{sta_end, else_end, all_end, catch_end}

module _ (w : Words) (whole : List Item) where
  -- two ways: the one that is taken where a test holds, and the other
  pub record Ways (s : TSta) (o : MayTSta) (l : Loop) (n i : ℕ) (k : List Item) : Type 0 where
    pub goes : IsEnd (goes_on (completes s) (n + 1)
        (Label n ∷ else_code w o l (labels s i) (Label (n + 1) ∷ k))) whole
    pub label : IsEnd (Label n ∷ else_code w o l (labels s i) (Label (n + 1) ∷ k)) whole
    pub end : IsEnd (Label (n + 1) ∷ k) whole

  pub ways : (s : TSta) (o : MayTSta) (l : Loop) (n i : ℕ) (k : List Item)
      → IsEnd (code w s l i (goes_on (completes s) (n + 1)
      (Label n ∷ else_code w o l (labels s i) (Label (n + 1) ∷ k)))) whole → Ways s o l n i k
  ways s o l n i k h =
      let a = chain (sta_end w s l i _) h in
      let b = chain (goes_end (completes s) (n + 1) _) a in
      record { goes = a; label = b; end = chain (else_end w o l (labels s i) _) (past b) }

  -- the parts of a loop
  pub record Turns (e : TExp) (s : TSta) (n : ℕ) (k : List Item) : Type 0 where
    pub body : IsEnd (code w s (record { out = n + 1; again = n }) (expr_labels e (n + 2))
        (goes_on (completes s) n (Label (n + 1) ∷ k))) whole
    pub end : IsEnd (Label (n + 1) ∷ k) whole

  pub turns : (e : TExp) (s : TSta) (n : ℕ) (k : List Item)
      → IsEnd (loop_test w (is_true e) e (n + 2) (n + 1) (code w s (record {
        out = n + 1;
        again = n;
      }) (expr_labels e (n + 2)) (goes_on (completes s) n (Label (n + 1) ∷ k)))) whole
      → Turns e s n k
  turns e s n k h =
      let a = chain (loop_end w (is_true e) e (n + 2) (n + 1) _) h in
      record {
        body = a;
        end = chain (goes_end (completes s) n _) (chain (sta_end w s _ _ _) a);
      }

  -- the parts of a `try`
  pub record Tries (s : TSta) (cs : TCatches) (l : Loop) (n : ℕ) (k : List Item) : Type 0 where
    pub to : IsEnd (Label (n + 1) ∷ catch_code w cs l (n + 2) (labels s (n + 3))
        (Label (n + 2) ∷ k)) whole
    pub end : IsEnd (Label (n + 2) ∷ k) whole

  pub tries : (s : TSta) (cs : TCatches) (l : Loop) (n : ℕ) (k : List Item)
      → IsEnd (code w s l (n + 3) (goes_on (completes s) (n + 2) (Label (n + 1)
      ∷ catch_code w cs l (n + 2) (labels s (n + 3)) (Label (n + 2) ∷ k)))) whole
      → Tries s cs l n k
  tries s cs l n k h =
      let a = chain (goes_end (completes s) (n + 2) _) (chain (sta_end w s l (n + 3) _) h) in
      record { to = a; end = chain (catch_end w cs l (n + 2) (labels s (n + 3)) _) (past a) }

  -- the part behind the body of a catch
  pub next_catch : (s : TSta) (l : Loop) (end n : ℕ) (k : List Item)
      → IsEnd (code w s l n (goes_on (completes s) end k)) whole → IsEnd k whole
  next_catch s l end n k h = chain (goes_end (completes s) end k) (chain (sta_end w s l n _) h)

-- ---- an instruction

pub either_left : (a b : Bool) → a ≡ true → (a || b) ≡ true
either_left true b h = refl
either_left false b h = absurd (cc h)

pub either_right : (a b : Bool) → b ≡ true → (a || b) ≡ true
either_right true b h = refl
either_right false b h = h

pub goes_op : (b : Bool) (l : ℕ) {ys k : List Item} → IsEnd ys k → b ≡ true
    → IsBefore ys (goes_on b l k)
goes_op true l e h = at_head (Jump 167 l) refl e
goes_op false l e h = absurd (cc h)

back_op : (b : Bool) {ys : List Item} (k : List Item) → IsEnd ys k
    → IsBefore ys ((if b then Op Ireturn else Op Areturn) ∷ k)
back_op true k e = at_head (Op Ireturn) refl e
back_op false k e = at_head (Op Areturn) refl e

module _ (w : Words) where
  mutual
    unfolding code completes

    -- where control leaves the statement at its end only to come to an instruction
    pub sta_op : (s : TSta) (l : Loop) (n : ℕ) {ys : List Item} (k : List Item) → IsEnd ys k
        → (completes s ≡ true → IsBefore ys k) → IsBefore ys (code w s l n k)
    sta_op (Block ss at p) l n k e next = all_op true ss l n k e next refl
    sta_op (If t s o at p) l n k e next =
        in_more (at_head (Jump 153 n) refl (chain (chain (chain (more _ e)
        (else_end w o l (labels s (expr_labels t (n + 2))) _)) (more _ (here _)))
        (chain (goes_end (completes s) (n + 1) _) (sta_end w s l (expr_labels t (n + 2)) _))))
        (expr_end w t (n + 2) _)
    sta_op (While t s at p) l n k e next =
        in_more (in_more (sta_op s (record { out = n + 1; again = n }) (expr_labels t (n + 2))
        (goes_on (completes s) n (Label (n + 1) ∷ k)) (chain (more _ e) (goes_end (completes s)
        n _)) (goes_op (completes s) n (more _ e))) (loop_end w (is_true t) t (n + 2) (n + 1) _))
        (more _ (here _))
    sta_op (Try s cs at p) l n k e next =
        let f = chain (chain (more (Label (n + 2)) e) (catch_end w cs l (n + 2)
        (labels s (n + 3)) _)) (more (Label (n + 1)) (here _)) in
        in_more (sta_op s l (n + 3) _ (chain f (goes_end (completes s) (n + 2) _))
        (goes_op (completes s) (n + 2) f)) (more _ (here _))
    sta_op (Return Absent at p) l n k e next = at_head _ refl e
    sta_op (Return (Present t) at p) l n k e next =
        in_more (back_op (is_number (mark t).ty) k e) (expr_end w t n _)
    sta_op (Break at p) l n k e next = at_head _ refl e
    sta_op (Continue at p) l n k e next = at_head _ refl e
    sta_op (Throw c at p) l n k e next = in_more (at_head _ refl e) (made_end (w.class c) _)
    sta_op (Open i at p) l n k e next = in_more (at_head _ refl e) (more _ (here _))
    sta_op (Close i at p) l n k e next = in_more (at_head _ refl e) (more _ (here _))
    sta_op (SetLocal x q t at p) l n k e next =
        in_more (next refl) (sta_end w (SetLocal x q t at p) l n k)
    sta_op (SetStatic c f t at p) l n k e next =
        in_more (next refl) (sta_end w (SetStatic c f t at p) l n k)
    sta_op (SetField o c f t at p) l n k e next =
        in_more (next refl) (sta_end w (SetField o c f t at p) l n k)
    sta_op (Eval t at p) l n k e next =
        in_more (next refl) (sta_end w (Eval t at p) l n k)
    sta_op (When i s o at p) l n k e next =
        in_more (at_head (Jump 153 n) refl (chain (chain (chain (more _ e)
        (else_end w o l (labels s (n + 2)) _)) (more _ (here _)))
        (chain (goes_end (completes s) (n + 1) _) (sta_end w s l (n + 2) _)))) (more _ (here _))

    pub else_op : (o : MayTSta) (l : Loop) (n : ℕ) {ys : List Item} (k : List Item) → IsEnd ys k
        → (else_completes o ≡ true → IsBefore ys k) → IsBefore ys (else_code w o l n k)
    else_op NoElse l n k e next = next refl
    else_op (Otherwise s) l n k e next = sta_op s l n k e next

    pub all_op : (b : Bool) (ss : TStas) (l : Loop) (n : ℕ) {ys : List Item} (k : List Item)
        → IsEnd ys k → (last_completes b ss ≡ true → IsBefore ys k) → b ≡ true
        → IsBefore ys (all_code w ss l n k)
    all_op b End l n k e next is = next is
    all_op b (Then s ss) l n k e next is =
        sta_op s l n (all_code w ss l (labels s n) k)
        (chain e (all_end w ss l (labels s n) k))
        (λ c. all_op (completes s) ss l (labels s n) k e next c)
