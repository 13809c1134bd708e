-- Frames fit the labelled code of a typed body.
use Rattle.std.proofs.Common.{◌≡◌, ℕ, ◌≤◌, Bool, true, false, List, []}
use Rattle.std.proofs.Common.{length, refl, arith}
use Rattle.std.specs.List.{AllByRecursion}
use Rattle.par_instr.specs.declared.instr.Instr.TheVariants as instr
use Rattle.par_typed.specs.declared.ty.Ty.{Ty}
use Rattle.par_typed.specs.declared.ty.Ty.TheVariants as ty
use Rattle.par_completes.specs.Typed.{completes}
use Rattle.par_values.specs.Areas.{Name}
use Rattle.par_code_form.specs.declared.item.Item.{Item}
use Rattle.par_code_form.specs.declared.item.Item.TheVariants.{Op}
use Rattle.par_code_form.specs.Code.{Words, labels, ending, no_loop}
use Rattle.par_code_form.specs.Frames.{Types}
use Rattle.par_code_form.specs.Method.{first_scope}
use Rattle.par_code_form.specs.Operands.{top}
use Rattle.par_kinds.specs.declared.frame.VKind.{VKind}
use Rattle.par_kinds.specs.Acts.{Act}
use Rattle.par_kinds.specs.Acts as also
use Rattle.par_placed_fit_laws.specs.par_evaluation_laws.Laid.{Layout}
use Rattle.par_placed_fit_laws.specs.Walks.{Sign, lands, Walks}
use Rattle.par_placed_fit_laws.specs.Signs.{frame_if, kinds, signs, sign_at}
use Rattle.par_placed_fit_laws.specs.Tells.{Tells}
use Rattle.par_verified_file_laws.specs.BodyLaws.{TypedCodeFits}
use Rattle.par_source_code_laws.proofs.Counts.{bit, under}
use Rattle.par_verified_file_laws.proofs.Steps.{ends}
use Rattle.par_verified_file_laws.proofs.Scopes.{kinds_size, behind_size}
use Rattle.par_verified_file_laws.proofs.Stas.{sta_walks}
use Rattle.par_verified_file_laws.proofs.Handled.{sta_handled}
use Rattle.par_verified_file_laws.proofs.Tallies.{tally, sta_tally, IsFound, found, each}
use Rattle.par_verified_file_laws.proofs.Framed.{stas}
use Rattle.par_verified_file_laws.proofs.Unframed.{unframed}
use Rattle.par_verified_file_laws.proofs.Entries.{Keeps, empty_completes, sta_keeps}

under_one : (l n : ℕ) → under l n ≤ 1
under_one l n = at_most _
  where
    at_most : (b : Bool) → bit b ≤ 1
    at_most true = omega arith
    at_most false = omega arith

-- the return that is written where a body can end
ending_walks : (exc : List Name) (act : Item → Act) (at : ℕ → Sign) (many room : ℕ) (w : Words)
    (lay : Layout) (result : Ty) (tells : Tells exc act w lay result) (ks : List VKind) (b : Bool)
    → length ks ≡ many → (b ≡ true → result ≡ ty.Void)
    → Walks exc act at many room (ending b) [] (frame_if b ks)
unfolding Walks
ending_walks exc act at many room w lay result tells ks true size void =
    ends exc act at many room [] ks (record { size = size; kept = tt }) (Op instr.Return) [] [] []
    also.Nothing (tells.leave (void refl)) refl (omega arith) tt tt refl
ending_walks exc act at many room w lay result tells ks false size void = refl

ending_keeps : (w : Words) (at : ℕ → Sign) (declared : Types) (b : Bool) (ks : List VKind)
    → b ≡ true → Keeps w at declared (ending b) ks
unfolding lands
ending_keeps w at declared true ks is = refl
ending_keeps w at declared false ks is = absurd (cc is)

pub typed_code_fits : TypedCodeFits
typed_code_fits exc act w lay m tys body tells t =
    let scope = first_scope m in
    let many = length m.locals in
    let ms = signs w m.locals body 0 scope [] in
    let at : ℕ → Sign = sign_at ms in
    let few : (l : ℕ) → tally l ms ≤ 1 =
    λ l.
    let a = sta_tally w l m.locals body 0 scope [] in
    let b = under_one l (labels body 0) in
    omega (arith, a, b) in
    let marks : AllByRecursion (λ x. at x.label ≡ x.sign) ms =
    each (IsFound ms) (λ x. at x.label ≡ x.sign) (λ x f. f.0) ms (found ms few) in (
      at,
      record {
        walks =
            sta_walks exc act at many (top body) w lay m.result tells tys m.locals t.locals body
            false t.set scope no_loop 0 (ending (completes body)) [] [] t.scope
            (record { size = kinds_size w tys many t.set scope t.scope; kept = tt })
            (record { out = λ i. absurd (cc i); again = λ i. absurd (cc i) }) t.typed t.reached
            marks
            (ending_walks exc act at many (top body) w lay m.result tells _ (completes body)
            (behind_size w tys many exc m.locals t.locals body t.set scope t.scope) t.ends);
        begins =
            sta_keeps w at m.locals body no_loop 0 scope (ending (completes body)) [] marks
            (λ is. ending_keeps w at m.locals (completes body) (kinds w scope)
            (empty_completes body is));
        handled = sta_handled exc act at many (top body) w m.locals body 0 scope [] [] marks tt;
        framed = stas w at m.locals body 0 scope [] [] marks tt;
        unframed = unframed w m.locals body scope;
      },
    )
