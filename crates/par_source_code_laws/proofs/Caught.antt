-- Each handler of a body covers an instruction, and goes to one.
use Rattle.std.proofs.Common.{ℕ, ◌+◌, List, ◌∷◌, refl}
use Rattle.std.specs.List.{AllByRecursion}
use Rattle.par_typed.specs.Plain.{TSta, Block, If, While, Try, Return, Break, Continue, Throw, Open}
use Rattle.par_typed.specs.Plain.{Close, SetLocal, SetStatic, SetField, Eval, When}
use Rattle.par_typed.specs.Plain.{MayTSta, NoElse, Otherwise, TStas, End, Then, TCatches, NoCatch}
use Rattle.par_typed.specs.Plain.{Catch}
use Rattle.par_typed_laws.specs.par_completes.Typed.{completes}
use Rattle.par_pool.specs.Spelling.{IsText}
use Rattle.par_code_form.specs.declared.item.Item.{Item}
use Rattle.par_code_form.specs.declared.item.Item.TheVariants.{Label}
use Rattle.par_code_form.specs.declared.labelled.Handler.{Handler}
use Rattle.par_code_form.specs.Code.{Words, expr_labels, Loop, goes_on, labels}
use Rattle.par_code_form.specs.Code.{code, else_code}
use Rattle.par_code_form.specs.Code.{all_code, catch_code}
use Rattle.par_code_form.specs.Code.{handlers, else_handlers, all_handlers}
use Rattle.par_code_form.specs.Code.{catch_handlers}
use Rattle.par_code_form.specs.PoolNames.{full_name}
use Rattle.par_source_code_laws.specs.Texts.{AreTexts}
use Rattle.par_source_code_laws.proofs.Ends.{IsEnd, here, past, chain, IsBefore, HasOp, at_head}
use Rattle.par_source_code_laws.proofs.Ends.{none}
use Rattle.par_source_code_laws.proofs.Ends.{expr_end, sta_end, goes_end}
use Rattle.par_source_code_laws.proofs.Spots.{ways, turns, tries, next_catch, goes_op, sta_op}

module _ (w : Words) (whole : List Item) (texts : AreTexts w) where
  -- an instruction stands between two labels
  pub record IsCovered (from to : ℕ) : Type 0 where
    pub behind : List Item
    pub rest : List Item
    pub begins : IsEnd (Label from ∷ behind) whole
    pub covers : IsBefore (Label to ∷ rest) behind

  pub record IsCaught (h : Handler) : Type 0 where
    pub text : IsText (full_name h.class)
    pub covered : IsCovered h.from h.to
    pub rest : List Item
    pub at : IsEnd (Label h.goes ∷ rest) whole
    pub leads : HasOp rest

  abbrev pub AllCaught : List Handler → Type 0
  AllCaught hs = AllByRecursion IsCaught hs

  mutual
    unfolding code handlers

    pub sta_caught : (s : TSta) (l : Loop) (n : ℕ) (k : List Item) (hk : List Handler)
        → IsEnd (code w s l n k) whole → AllCaught hk → AllCaught (handlers w s n hk)
    sta_caught (Block ss at p) l n k hk h g = all_caught ss l n k hk h g
    sta_caught (If e s o at p) l n k hk h g =
        let i = expr_labels e (n + 2) in
        let a = past (chain (expr_end w e (n + 2) _) h) in
        let b = ways w whole s o l n i k a in
        sta_caught s l i _ _ a (else_caught o l (labels s i) _ hk (past b.label) g)
    sta_caught (While e s at p) l n k hk h g =
        let a = turns w whole e s n k (past h) in
        sta_caught s (record { out = n + 1; again = n }) (expr_labels e (n + 2)) _ hk a.body g
    sta_caught (Try s cs at p) l n k hk h g =
        let a = tries w whole s cs l n k (past h) in
        let covered : IsCovered n (n + 1) = record {
          behind = code w s l (n + 3) (goes_on (completes s) (n + 2) (Label (n + 1)
              ∷ catch_code w cs l (n + 2) (labels s (n + 3)) (Label (n + 2) ∷ k)));
          rest = catch_code w cs l (n + 2) (labels s (n + 3)) (Label (n + 2) ∷ k);
          begins = h;
          covers =
              sta_op w s l (n + 3) _ (goes_end (completes s) (n + 2) _)
              (goes_op (completes s) (n + 2) (here _));
        } in
        sta_caught s l (n + 3) _ _ (past h)
        (catch_caught cs l (n + 2) n (labels s (n + 3)) _ hk covered (past a.to) g)
    sta_caught (Return o at p) l n k hk h g = g
    sta_caught (Break at p) l n k hk h g = g
    sta_caught (Continue at p) l n k hk h g = g
    sta_caught (Throw c at p) l n k hk h g = g
    sta_caught (Open i at p) l n k hk h g = g
    sta_caught (Close i at p) l n k hk h g = g
    sta_caught (SetLocal x q e at p) l n k hk h g = g
    sta_caught (SetStatic c f e at p) l n k hk h g = g
    sta_caught (SetField o c f e at p) l n k hk h g = g
    sta_caught (Eval e at p) l n k hk h g = g
    sta_caught (When i s o at p) l n k hk h g =
        let a = past (past h) in
        let b = ways w whole s o l n (n + 2) k a in
        sta_caught s l (n + 2) _ _ a (else_caught o l (labels s (n + 2)) _ hk (past b.label) g)

    else_caught : (o : MayTSta) (l : Loop) (n : ℕ) (k : List Item) (hk : List Handler)
        → IsEnd (else_code w o l n k) whole → AllCaught hk → AllCaught (else_handlers w o n hk)
    else_caught NoElse l n k hk h g = g
    else_caught (Otherwise s) l n k hk h g = sta_caught s l n k hk h g

    all_caught : (ss : TStas) (l : Loop) (n : ℕ) (k : List Item) (hk : List Handler)
        → IsEnd (all_code w ss l n k) whole → AllCaught hk → AllCaught (all_handlers w ss n hk)
    all_caught End l n k hk h g = g
    all_caught (Then s ss) l n k hk h g =
        sta_caught s l n _ _ h
        (all_caught ss l (labels s n) k hk (chain (sta_end w s l n _) h) g)

    catch_caught : (cs : TCatches) (l : Loop) (end from n : ℕ) (k : List Item)
        (hk : List Handler) → IsCovered from (from + 1) → IsEnd (catch_code w cs l end n k) whole
        → AllCaught hk → AllCaught (catch_handlers w cs from n hk)
    catch_caught NoCatch l end from n k hk cover h g = g
    catch_caught (Catch c s cs) l end from n k hk cover h g =
        let a = past (past h) in (
          record {
            text = texts.class c;
            covered = cover;
            rest = _;
            at = h;
            leads = at_head _ refl (none _);
          },
          sta_caught s l (n + 1) _ _ a
              (catch_caught cs l end from (labels s (n + 1)) k hk cover
              (next_catch w whole s l end (n + 1) _ a) g),
        )
