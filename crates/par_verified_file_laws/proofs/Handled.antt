-- The handlers of a body: each is that of a range, whose locals it takes.
use Rattle.std.proofs.Common.{◌≡◌, ℕ, ◌+◌, List, [], ◌∷◌, refl, ap}
use Rattle.std.specs.List.{AllByRecursion}
use Rattle.par_typed.specs.Plain.{TSta, Block, If, While, Try, Return, Break, Continue, Throw, Open}
use Rattle.par_typed.specs.Plain.{Close, SetLocal, SetStatic, SetField, Eval, When}
use Rattle.par_typed.specs.Plain.{MayTSta, NoElse, Otherwise, TStas, End, Then, TCatches, NoCatch}
use Rattle.par_typed.specs.Plain.{Catch}
use Rattle.par_completes.specs.Typed.{is_true}
use Rattle.par_values.specs.Areas.{Name}
use Rattle.par_code_form.specs.declared.item.Item.{Item}
use Rattle.par_code_form.specs.declared.labelled.Handler.{Handler}
use Rattle.par_code_form.specs.Code.{Words, labels, expr_labels, handlers, else_handlers}
use Rattle.par_code_form.specs.Code.{all_handlers, catch_handlers}
use Rattle.par_code_form.specs.Frames.{Types, scope_behind}
use Rattle.par_kinds.specs.declared.frame.VKind.TheVariants.{Object as AnObject}
use Rattle.par_kinds.specs.Acts.{Act}
use Rattle.par_placed_fit_laws.specs.Walks.{Sign, Opens, Closes, IsHandled}
use Rattle.par_placed_fit_laws.specs.Signs.{Marked, framed, kinds, signs, else_signs, all_signs}
use Rattle.par_placed_fit_laws.specs.Signs.{catch_signs}
use Rattle.par_kinds.proofs.Lower.{below-same}
use Rattle.par_verified_file_laws.proofs.Exprs.{expr_rest}
use Rattle.par_verified_file_laws.proofs.Rest.{loop_rest, sta_rest}

module _ (exc : List Name) (act : Item → Act) (at : ℕ → Sign) (many room : ℕ) (w : Words)
    (declared : Types) where
  abbrev Marks : List Marked → Type 0
  Marks k = AllByRecursion (λ m. at m.label ≡ m.sign) k

  abbrev Handled : List Handler → Type 0
  Handled hs = AllByRecursion (IsHandled exc act at many room) hs

  mutual
    unfolding handlers signs labels

    pub sta_handled : (s : TSta) (n : ℕ) (scope : Types) (k : List Marked) (hs : List Handler)
        → Marks (signs w declared s n scope k) → Handled hs → Handled (handlers w s n hs)
    sta_handled (Block ss at' p) n scope k hs marks h = all_handled ss n scope k hs marks h
    sta_handled (If e s o at' p) n scope k hs marks h =
        let j = expr_labels e (n + 2) in
        let one = expr_rest w (λ m. at m.label ≡ m.sign) e (n + 2) (kinds w scope) [] _ marks in
        let two = sta_rest w declared (λ m. at m.label ≡ m.sign) s j scope _ one in
        sta_handled s j scope _ _ one (else_handled o (labels s j) scope _ hs two.1 h)
    sta_handled (While e s at' p) n scope k hs marks h =
        sta_handled s (expr_labels e (n + 2)) scope _ hs
        (loop_rest w declared (λ m. at m.label ≡ m.sign) (is_true e) e (n + 2) (kinds w scope) _
        marks.1) h
    sta_handled (Try s cs at' p) n scope k hs marks h =
        let one = sta_rest w declared (λ m. at m.label ≡ m.sign) s (n + 3) scope _ marks.1 in
        sta_handled s (n + 3) scope _ _ marks.1
        (catches_handled cs n (labels s (n + 3)) scope _ hs (ap (λ (z : Sign). z.role) marks.0)
        (ap (λ (z : Sign). z.role) one.0) one.1 h)
    sta_handled (Return o at' p) n scope k hs marks h = h
    sta_handled (Break at' p) n scope k hs marks h = h
    sta_handled (Continue at' p) n scope k hs marks h = h
    sta_handled (Throw c at' p) n scope k hs marks h = h
    sta_handled (Open l at' p) n scope k hs marks h = h
    sta_handled (Close l at' p) n scope k hs marks h = h
    sta_handled (SetLocal x q e at' p) n scope k hs marks h = h
    sta_handled (SetStatic c f e at' p) n scope k hs marks h = h
    sta_handled (SetField o c f e at' p) n scope k hs marks h = h
    sta_handled (Eval e at' p) n scope k hs marks h = h
    sta_handled (When l s o at' p) n scope k hs marks h =
        let two = sta_rest w declared (λ m. at m.label ≡ m.sign) s (n + 2) scope _ marks in
        sta_handled s (n + 2) scope _ _ marks
        (else_handled o (labels s (n + 2)) scope _ hs two.1 h)

    else_handled : (o : MayTSta) (n : ℕ) (scope : Types) (k : List Marked) (hs : List Handler)
        → Marks (else_signs w declared o n scope k) → Handled hs
        → Handled (else_handlers w o n hs)
    else_handled NoElse n scope k hs marks h = h
    else_handled (Otherwise s) n scope k hs marks h = sta_handled s n scope k hs marks h

    all_handled : (ss : TStas) (n : ℕ) (scope : Types) (k : List Marked) (hs : List Handler)
        → Marks (all_signs w declared ss n scope k) → Handled hs
        → Handled (all_handlers w ss n hs)
    all_handled End n scope k hs marks h = h
    all_handled (Then s ss) n scope k hs marks h =
        sta_handled s n scope _ _ marks
        (all_handled ss (labels s n) (scope_behind declared s scope) k hs
        (sta_rest w declared (λ m. at m.label ≡ m.sign) s n scope _ marks) h)

    catches_handled : (cs : TCatches) (from n : ℕ) (scope : Types) (k : List Marked)
        (hs : List Handler) → (at from).role ≡ Opens (from + 1) (kinds w scope)
        → (at (from + 1)).role ≡ Closes → Marks (catch_signs w declared cs n scope k)
        → Handled hs → Handled (catch_handlers w cs from n hs)
    catches_handled NoCatch from n scope k hs opens closes marks h = h
    catches_handled (Catch c s cs) from n scope k hs opens closes marks h = (
      record {
        range = kinds w scope;
        opens = opens;
        closes = closes;
        catches = ap (λ (z : Sign). z.role) marks.0;
        frame = framed (kinds w scope) (AnObject (w.class c) ∷ []);
        has = ap (λ (z : Sign). z.frame) marks.0;
        locals = below-same exc (kinds w scope);
        operand = refl;
      },
      sta_handled s (n + 1) scope _ _ marks.1
          (catches_handled cs from (labels s (n + 1)) scope k hs opens closes
          (sta_rest w declared (λ m. at m.label ≡ m.sign) s (n + 1) scope _ marks.1) h),
    )
